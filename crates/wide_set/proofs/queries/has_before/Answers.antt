use Rattle.std.proofs.Common.{◌<◌, ◌≤◌, arith, sym}
use Rattle.std.proofs.lemmas.Bool.{true≢false}
use Rattle.wide_set.specs.declared.known.Answered.{Answered}
use Rattle.wide_set.proofs.Loops.{with_next, of_all}
use Rattle.wide_set.proofs.queries.has_before.Goals as goal

pub loop-answered-preserved : goal.loop-answered-preserved
loop-answered-preserved c = with_next (λ (a : Answered). ¬ (a.by < c.args.moment)) c.args.answers.now c.loop-answered.answered-index c.answered-item.result c.loop-answered-test.true c.answered-item.is c.loop-answered.invariant (λ lt. let le : c.args.moment ≤ c.answered-item.result.by = c.if-answered-moment.false in omega arith)

pub returns : goal.returns
returns c = (
  (λ t. absurd (true≢false (sym t))),
  (λ b. absurd (of_all (λ (a : Answered). ¬ (a.by < c.args.moment)) c.args.answers.now c.loop-answered.answered-index c.loop-answered-test.false c.loop-answered.invariant b.0 b.1 b.2)),
)
