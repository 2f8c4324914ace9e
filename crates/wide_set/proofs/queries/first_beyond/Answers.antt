use Rattle.std.proofs.Common.{ℕ, ◌≡◌, Some}
use Rattle.std.specs.List.{Contains}
use Rattle.std.proofs.lemmas.List.Elements.{Contains-get_or}
use Rattle.wide_set.specs.declared.log.Added.{Added}
use Rattle.wide_set.specs.Queries.{IsNoLater}
use Rattle.wide_set.proofs.Loops.{of_all}
use Rattle.wide_set.proofs.Searching.{found_with, least_with}
use Rattle.wide_set.proofs.queries.first_beyond.Goals as goal

pub loop-added-preserved : goal.loop-added-preserved
loop-added-preserved c = record {
  found = found_with c.args.log.now c.args.members.now _ (Contains-get_or c.args.log.now c.loop-added.added-index _ c.loop-added-test.true) c.loop-added.first _ c.first_with_add-first.ensures c.loop-added.invariant.found;
  least = least_with c.args.log.now c.args.members.now c.loop-added.added-index _ c.loop-added-test.true c.loop-added.first _ c.first_with_add-first.ensures c.loop-added.invariant.least;
}

pub returns-clause-found : goal.returns-clause-found
returns-clause-found c = c.loop-added.invariant.found

pub returns-clause-least : goal.returns-clause-least
returns-clause-least c a n h = of_all (λ (x : Added). (k : ℕ) → x.by ≡ Some k → ¬ Contains c.args.members.now x.value → IsNoLater c.loop-added.first k) c.args.log.now c.loop-added.added-index c.loop-added-test.false c.loop-added.invariant.least a h.0 n h.1 h.2
