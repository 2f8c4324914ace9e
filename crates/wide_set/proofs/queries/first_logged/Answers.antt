use Rattle.std.proofs.Common.{◌≡◌, ◌+◌, Some, sym, ap, ◌∙◌, subst, get_or, IfSome}
use Rattle.std.proofs.lemmas.Bool.{true≢false}
use Rattle.std.proofs.lemmas.List.Elements.{Contains-get_or}
use Rattle.wide_set.specs.declared.log.Added.{Added}
use Rattle.wide_set.specs.Facts.{HasLogged}
use Rattle.wide_set.specs.Queries.{IsNoLater, earlier_of}
use Rattle.wide_set.proofs.Loops.{of_all}
use Rattle.wide_set.proofs.Searching.{next_logged, next_least_logged, same_least_logged, IsLeastLogged}
use Rattle.wide_set.proofs.queries.first_logged.Goals as goal
use Rattle.wide_set.proofs.queries.first_logged.Goals.{then-is_of, else-is_of}

pub loop-added-preserved : goal.loop-added-preserved
loop-added-preserved c =
    let xs = c.args.log.now in
    let i = c.loop-added.added-index in
    let v = c.args.value.now in
    elim c.if-is_of.branch [
      | then-is_of w ↦ (
          let is : c.if-is_of.first ≡ Some (earlier_of c.loop-added.first (get_or xs i _).since) = w.first-is ∙ ap Some w.earlier.ensures in
          record {
            found = subst (λ o. IfSome o (λ m. HasLogged xs v m)) (sym is) (next_logged xs v (get_or xs i _) (Contains-get_or xs i _ c.loop-added-test.true) (c.is_of.ensures.0 w.if-is_of.true) c.loop-added.first c.loop-added.invariant.found);
            least = subst (IsLeastLogged xs v (i + 1)) (sym is) (next_least_logged xs v i _ c.loop-added-test.true c.loop-added.first c.loop-added.invariant.least);
          })
      | else-is_of w ↦ record {
        found = subst (λ o. IfSome o (λ m. HasLogged xs v m)) (sym w.first-is) c.loop-added.invariant.found;
        least = subst (IsLeastLogged xs v (i + 1)) (sym w.first-is) (same_least_logged xs v i _ c.loop-added-test.true c.loop-added.first c.loop-added.invariant.least (λ h. true≢false (sym (c.is_of.ensures.1 h) ∙ w.if-is_of.false)));
      }
    ]

pub returns-clause-found : goal.returns-clause-found
returns-clause-found c = c.loop-added.invariant.found

pub returns-clause-least : goal.returns-clause-least
returns-clause-least c m h = subst (IsNoLater c.loop-added.first) h.3 (of_all (λ (a : Added). a.value ≡ c.args.value.now → IsNoLater c.loop-added.first a.since) c.args.log.now c.loop-added.added-index c.loop-added-test.false c.loop-added.invariant.least h.0 h.1 h.2)
