use Rattle.std.proofs.Common.{◌≡◌, sym, ◌∙◌, subst}
use Rattle.moves.specs.KeptEnds.{end_kept}
use Rattle.moves.specs.EndSteps.{after_crash}
use Rattle.moves.proofs.Changes.{crashed_by}
use Rattle.moves.proofs.kept_end.KeptEnd.crash.Goals as goal

pub returns-in_ok-push : goal.returns-in_ok-push
returns-in_ok-push g c =
    subst (λ counts. end_kept c.settle-then-includes.new.self ≡ after_crash counts (end_kept c.args.self.now) c.args.id) (sym c.if-not-counts.false)
    (crashed_by c.args.self.now.state c.args.self.now.pending.items c.args.self.now.crashed.items c.push.new.self.items _ c.args.id
    (sym c.includes.ensures ∙ c.if-includes.true) c.in_ok-push.ensures.items c.settle-then-includes.ensures)
