use Rattle.std.proofs.Common.{◌≡◌, ℕ, List, ◌++◌, ap, sym, ◌∙◌}
use Rattle.std.specs.Io.KnownBytes.{Appends}
use Rattle.line_loop.proofs.Results.{on_err}
use Rattle.line_loop.proofs.session.Session.write_replies.Goals as goal

pub returns-in_err-write_text-clause-some : goal.returns-in_err-write_text-clause-some
returns-in_err-write_text-clause-some g c =
    let (part, more, cut, wrote) = c.in_err-write_text.ensures.some in
    let w = g.W.Write in
    let wrote_part : (part : List ℕ) × (more : List ℕ) × (c.args.self.now.replies ≡ part ++ more) × Appends (w.contents c.args.writer.now) (w.contents c.write_text.new.writer) part =
    (part, more, sym (ap (λ r. r.replies) c.self.view_is) ∙ sym c.deref.ensures.value ∙ cut, wrote) in
    on_err _ wrote_part
