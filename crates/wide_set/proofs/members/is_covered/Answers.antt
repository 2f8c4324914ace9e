use Rattle.std.proofs.Common.{ℤ, ◌⊎◌, refl, sym}
use Rattle.std.specs.List.{Contains}
use Rattle.std.proofs.lemmas.Bool.{true≢false}
use Rattle.std.proofs.lemmas.List.Elements.{Contains-get_or}
use Rattle.wide_set.proofs.Loops.{with_here, of_all}
use Rattle.wide_set.proofs.members.is_covered.Goals as goal

pub loop-value-preserved : goal.loop-value-preserved
loop-value-preserved c = with_here (λ (v : ℤ). Contains c.args.first.now v ⊎ Contains c.args.second.now v) c.args.these.now c.loop-value.value-index _ c.loop-value-test.true c.loop-value.invariant c.in-Some.ensures.found

pub returns-in-None : goal.returns-in-None
returns-in-None c = (
  (λ t. absurd (true≢false (sym t))),
  (λ w. absurd (c.place_in_either.ensures.none c.in-None.is (w _ (Contains-get_or c.args.these.now c.loop-value.value-index _ c.loop-value-test.true)))),
)

pub returns : goal.returns
returns c = (
  (λ t. of_all (λ (v : ℤ). Contains c.args.first.now v ⊎ Contains c.args.second.now v) c.args.these.now c.loop-value.value-index c.loop-value-test.false c.loop-value.invariant),
  (λ w. refl),
)
