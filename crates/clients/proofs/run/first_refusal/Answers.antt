use Rattle.std.proofs.Common.{sym, ◌∙◌, arith}
use Rattle.clients.proofs.Lowest.{none_met, met_at}
use Rattle.clients.proofs.run.first_refusal.Goals as goal

pub returns-then-is_some-clause-lowest : goal.returns-then-is_some-clause-lowest
returns-then-is_some-clause-lowest g c =
    met_at (λ ended. ended.why) c.args.played.now c.loop-ended.ended-index c.ended-item.result c.loop-ended-test.true c.ended-item.is (sym c.is_some.ensures ∙ c.if-is_some.true) c.loop-ended.invariant

pub returns-clause-lowest : goal.returns-clause-lowest
returns-clause-lowest g c =
    sym (none_met (λ ended. ended.why) c.args.played.now (λ k d within. c.loop-ended.invariant k d (omega (arith, within, c.loop-ended-test.false))))
