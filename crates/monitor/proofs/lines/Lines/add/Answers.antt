use Rattle.std.proofs.Common.{◌≡◌, ℕ, nat_eq, position, List, [], ◌∷◌, ◌++◌, ap, ◌∙◌}
use Rattle.std.specs.Map.{keys_of}
use Rattle.indexmap.proofs.CallerLemmas.{insert_entry-new}
use Rattle.checkpoints.specs.KeyLineView.{KeyLineView}
use Rattle.monitor.specs.Rows.{LinesView}
use Rattle.monitor.proofs.Places.{absent_key}
use Rattle.monitor.proofs.lines.Lines.add.Goals as goal

pub returns : goal.returns
returns c =
    let map = c.self.inside.map in
    let seen : map.entries ≡ c.args.self.now.rows = ap (λ (v : LinesView). v.rows) c.self.view_is in
    let new = absent_key map.entries c.args.key (ap (λ (l : List (ℕ × KeyLineView)). position (nat_eq c.args.key) (keys_of l)) seen ∙ c.requires.new) in
    c.in-Ok.ensures.entries
    ∙ insert_entry-new nat_eq map c.args.key c.args.line new
    ∙ ap (λ (l : List (ℕ × KeyLineView)). l ++ (c.args.key, c.args.line) ∷ []) seen
