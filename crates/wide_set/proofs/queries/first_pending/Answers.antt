use Rattle.std.proofs.Common.{◌≡◌, ◌≢◌, ◌+◌, Some, sym, ap, ◌∙◌, subst, get_or, IfSome}
use Rattle.std.proofs.lemmas.Bool.{true≢false}
use Rattle.std.proofs.lemmas.List.Elements.{Contains-get_or}
use Rattle.wide_set.specs.declared.known.Pending.{Pending}
use Rattle.wide_set.specs.declared.known.Call.TheVariants as calls
use Rattle.wide_set.specs.Facts.{HasPendingAdd}
use Rattle.wide_set.specs.Queries.{IsNoLater, earlier_of}
use Rattle.wide_set.proofs.Loops.{of_all}
use Rattle.wide_set.proofs.Searching.{next_found, next_least, same_least, IsLeast}
use Rattle.wide_set.proofs.queries.first_pending.Goals as goal
use Rattle.wide_set.proofs.queries.first_pending.Goals.{then-adds, else-adds}

pub loop-call-preserved : goal.loop-call-preserved
loop-call-preserved c =
    let ps = c.args.pending.now in
    let i = c.loop-call.call-index in
    let but = c.args.but in
    let v = c.args.value.now in
    elim c.if-adds.branch [
      | then-adds w ↦ (
          let is : c.if-adds.first ≡ Some (earlier_of c.loop-call.first (get_or ps i _).since) = w.first-is ∙ ap Some w.earlier.ensures in
          record {
            found = subst (λ o. IfSome o (λ m. HasPendingAdd ps but v m)) (sym is) (next_found ps but v (get_or ps i _) (Contains-get_or ps i _ c.loop-call-test.true) (c.adds.ensures.0 w.if-adds.true) c.loop-call.first c.loop-call.invariant.found);
            least = subst (IsLeast ps but v (i + 1)) (sym is) (next_least ps but v i _ c.loop-call-test.true c.loop-call.first c.loop-call.invariant.least);
          })
      | else-adds w ↦ record {
        found = subst (λ o. IfSome o (λ m. HasPendingAdd ps but v m)) (sym w.first-is) c.loop-call.invariant.found;
        least = subst (IsLeast ps but v (i + 1)) (sym w.first-is) (same_least ps but v i _ c.loop-call-test.true c.loop-call.first c.loop-call.invariant.least (λ h. true≢false (sym (c.adds.ensures.1 h) ∙ w.if-adds.false)));
      }
    ]

pub returns-clause-found : goal.returns-clause-found
returns-clause-found c = c.loop-call.invariant.found

pub returns-clause-least : goal.returns-clause-least
returns-clause-least c m h = subst (IsNoLater c.loop-call.first) h.4 (of_all (λ (p : Pending). p.id ≢ c.args.but → p.call ≡ calls.Add c.args.value.now → IsNoLater c.loop-call.first p.since) c.args.pending.now c.loop-call.call-index c.loop-call-test.false c.loop-call.invariant.least h.0 h.1 h.2 h.3)
