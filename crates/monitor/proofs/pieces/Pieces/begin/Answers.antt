use Rattle.std.proofs.Common.{nat_eq, ◌∷◌, ◌++◌, [], ap, ◌∙◌}
use Rattle.indexmap.proofs.CallerLemmas.{insert_entry-new}
use Rattle.linspec.specs.KeyHistory.{with_pushed}
use Rattle.parallel_recheck.specs.Pieces.{PieceView, piece_of}
use Rattle.monitor.proofs.Places.{absent_key}
use Rattle.monitor.proofs.pieces.Pieces.begin.Goals as goal

pub returns : goal.returns
returns c =
    let map = c.args.self.now.map in
    c.in_ok-insert.ensures.entries
    ∙ insert_entry-new nat_eq map c.args.key c.push.new.self (absent_key map.entries c.args.key c.requires.new)
    ∙ ap (λ (p : PieceView). map.entries ++ (c.args.key, p) ∷ [])
    (c.in_ok-push.ensures.pushed ∙ ap (λ (p : PieceView). piece_of p.key (with_pushed c.args.index c.args.event.now p.judged)) c.new-piece.ensures)
