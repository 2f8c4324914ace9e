-- calls of a queue without an order, from the last to the first
use Rattle.std.proofs.Common.{◌≡◌, ◌≢◌, ◌↔◌, ℕ, ◌+◌, ◌-◌, ◌<◌, ◌≤◌, ℤ, inl, ⊎_elim, Option, Some, None, List, ◌∷◌, length, get_or, remove, refl, sym, ap, ◌∙◌, subst, arith}
use Rattle.std.specs.List.{Contains}
use Rattle.models.specs.declared.operation.Name.TheVariants.{Enqueue, Dequeue}
use Rattle.models.specs.declared.operation.Part.TheVariants.{Nil, Int}
use Rattle.models.specs.declared.finding.Found.{Found}
use Rattle.models.specs.declared.finding.Found.TheVariants.{Unit as Done, Item}
use Rattle.models.specs.declared.finding.Answer.{Answer}
use Rattle.models.specs.declared.finding.Answer.TheVariants.{Nothing, Number, Numbers, Many}
use Rattle.values.specs.Multisets.{with_one, without_one}
use Rattle.models.specs.Objects.{IsOneOf, Fits, unordered_apply, unordered_queue}
use Rattle.models.specs.Runs.{times_in}
use Rattle.models.proofs.Steps.{same_outcome}
use Rattle.models.proofs.Unordered.{dequeue_is}
use Rattle.witness.specs.declared.calls.Call.{Call}
use Rattle.witness.specs.declared.requirement.Requirement.{Requirement}
use Rattle.witness.specs.Calls.{FitsIf, CanRun}
use Rattle.witness.specs.Requirements.{IsRequirement}
use Rattle.witness.proofs.Bags.{one_if, one_if-same, one_if-other, times_with, length_with, times_without, length_without, times_remove, length_remove, in_if_counted, nothing_counted, more_often, cases_int, fewer}
use Rattle.witness.proofs.Runs.{fits_done}

module _ (c : Call) (later : List Call) where
  -- an enqueue
  module _ (v : ℤ) (is : c.op.name ≡ Enqueue) (part : c.op.part ≡ Int v) where
    put_from : (s t : List ℤ) (found : Found) → unordered_queue.Steps s c.op found t → t ≡ with_one v s
    put_from s t found h =
        let at_name : IsOneOf (unordered_apply Enqueue c.op.part s) (t, found) = subst (λ n. IsOneOf (unordered_apply n c.op.part s) (t, found)) is h in
        let at_part : IsOneOf (unordered_apply Enqueue (Int v) s) (t, found) = subst (λ p. IsOneOf (unordered_apply Enqueue p s) (t, found)) part at_name in
        sym (same_outcome (with_one v s, Done) (t, found) at_part).0

    put_to : (s : List ℤ) → unordered_queue.Steps s c.op Done (with_one v s)
    put_to s =
        subst (λ n. IsOneOf (unordered_apply n c.op.part s) (with_one v s, Done)) (sym is)
        (subst (λ p. IsOneOf (unordered_apply Enqueue p s) (with_one v s, Done)) (sym part) (inl refl))

    put_runs : (s : List ℤ) → CanRun unordered_queue (c ∷ later) s ↔ CanRun unordered_queue later (with_one v s)
    put_runs s = (
      (λ h. subst (CanRun unordered_queue later) (put_from s h.1 h.0 h.2) h.4),
      (λ h. (Done, with_one v s, put_to s, fits_done c.answer, h)),
    )

    -- the value is needed later
    pub before_needed : (requirement : Requirement) (at : ℕ) (d : ℤ) → at < length requirement.values → get_or requirement.values at d ≡ v → IsRequirement later requirement
        → IsRequirement (c ∷ later) (record { values = remove requirement.values at; more = requirement.more })
    before_needed requirement at d fits here after s = (
      (λ h.
          let n = (after (with_one v s)).0 ((put_runs s).0 h) in
          record {
            has = λ w. (let a = times_remove w requirement.values at d fits in let b = times_with w v s in let e = n.has w in let q = ap (λ x. one_if x w) here in omega (arith, a, b, e, q));
            has_more = (let a = length_remove requirement.values at fits in let b = length_with v s in let e = n.has_more in omega (arith, a, b, e));
          }),
      (λ n. (put_runs s).1 ((after (with_one v s)).1 (record {
        has = λ w. (let a = times_remove w requirement.values at d fits in let b = times_with w v s in let e = n.has w in let q = ap (λ x. one_if x w) here in omega (arith, a, b, e, q));
        has_more = (let a = length_remove requirement.values at fits in let b = length_with v s in let e = n.has_more in omega (arith, a, b, e));
      }))),
    )

    -- it is not
    pub before_unneeded : (requirement : Requirement) → ¬ Contains requirement.values v → IsRequirement later requirement → IsRequirement (c ∷ later) (record { values = requirement.values; more = requirement.more - 1 })
    before_unneeded requirement out after s = (
      (λ h.
          let n = (after (with_one v s)).0 ((put_runs s).0 h) in
          let own : (w : ℤ) → times_in w requirement.values ≤ times_in w s = λ w. ⊎_elim
          (λ (e : v ≡ w). let none : times_in v requirement.values ≡ 0 = nothing_counted v requirement.values out in let q : times_in w requirement.values ≡ 0 = ap (λ x. times_in x requirement.values) (sym e) ∙ none in omega (arith, q))
          (λ ne. let b = times_with w v s in let e = n.has w in let q = one_if-other v w ne in omega (arith, b, e, q))
          (cases_int v w) in
          record {
            has = own;
            has_more = (let b = length_with v s in let e = n.has_more in let k = fewer requirement.values s own in omega (arith, b, e, k));
          }),
      (λ n. (put_runs s).1 ((after (with_one v s)).1 (record {
        has = λ w. (let b = times_with w v s in let e = n.has w in omega (arith, b, e));
        has_more = (let b = length_with v s in let e = n.has_more in omega (arith, b, e));
      }))),
    )

  -- a dequeue
  module _ (is : c.op.name ≡ Dequeue) (part : c.op.part ≡ Nil) where
    take_from : (s t : List ℤ) (found : Found) → unordered_queue.Steps s c.op found t → (v : ℤ) × Contains s v × (t ≡ without_one v s) × (found ≡ Item v)
    take_from s t found h =
        let at_name : IsOneOf (unordered_apply Dequeue c.op.part s) (t, found) = subst (λ n. IsOneOf (unordered_apply n c.op.part s) (t, found)) is h in
        (dequeue_is s t found).0 (subst (λ p. IsOneOf (unordered_apply Dequeue p s) (t, found)) part at_name)

    take_to : (s : List ℤ) (v : ℤ) → Contains s v → unordered_queue.Steps s c.op (Item v) (without_one v s)
    take_to s v h =
        subst (λ n. IsOneOf (unordered_apply n c.op.part s) (without_one v s, Item v)) (sym is)
        (subst (λ p. IsOneOf (unordered_apply Dequeue p s) (without_one v s, Item v)) (sym part) ((dequeue_is s (without_one v s) (Item v)).1 (v, h, refl, refl)))

    -- of any value
    pub before_any : (requirement : Requirement) → c.answer ≡ None → IsRequirement later requirement → IsRequirement (c ∷ later) (record { values = requirement.values; more = requirement.more + 1 })
    before_any requirement none after s = (
      (λ h.
          let o = take_from s h.1 h.0 h.2 in
          let n = (after (without_one o.0 s)).0 (subst (CanRun unordered_queue later) o.2 h.4) in
          record {
            has = λ w. (let a = times_without w o.0 s o.1 in let e = n.has w in omega (arith, a, e));
            has_more = (let a = length_without o.0 s o.1 in let e = n.has_more in omega (arith, a, e));
          }),
      (λ n.
          let spare : (v : ℤ) × Contains s v × (times_in v requirement.values < times_in v s) = more_often s requirement.values (let e = n.has_more in omega (arith, e)) in (
            Item spare.0,
            without_one spare.0 s,
            take_to s spare.0 spare.1,
            subst (FitsIf (Item spare.0)) (sym none) tt,
            (after (without_one spare.0 s)).1 (record {
              has = λ w. (let a = times_without w spare.0 s spare.1 in let e = n.has w in ⊎_elim
                  (λ (q : spare.0 ≡ w). let one = one_if-same spare.0 w q in let less : times_in w requirement.values < times_in w s = subst (λ v. times_in v requirement.values < times_in v s) q spare.2 in omega (arith, a, e, one, less))
                  (λ ne. let none = one_if-other spare.0 w ne in omega (arith, a, e, none))
                  (cases_int spare.0 w));
              has_more = (let a = length_without spare.0 s spare.1 in let e = n.has_more in omega (arith, a, e));
            }),
          )),
    )

    -- of the value that is answered
    item_fits : (v x : ℤ) (answer : Option Answer) → answer ≡ Some (Number x) → FitsIf (Item v) answer → v ≡ x
    item_fits v x answer e h = subst (FitsIf (Item v)) e h

    pub before_one : (requirement : Requirement) (x : ℤ) → c.answer ≡ Some (Number x) → IsRequirement later requirement → IsRequirement (c ∷ later) (record { values = with_one x requirement.values; more = requirement.more })
    before_one requirement x answered after s = (
      (λ h.
          let o = take_from s h.1 h.0 h.2 in
          let same : o.0 ≡ x = item_fits o.0 x c.answer answered (subst (λ f. FitsIf f c.answer) o.3 h.3) in
          let n = (after (without_one o.0 s)).0 (subst (CanRun unordered_queue later) o.2 h.4) in
          record {
            has = λ w. (let a = times_without w o.0 s o.1 in let b = times_with w x requirement.values in let e = n.has w in let q = ap (λ v. one_if v w) same in omega (arith, a, b, e, q));
            has_more = (let a = length_without o.0 s o.1 in let b = length_with x requirement.values in let e = n.has_more in omega (arith, a, b, e));
          }),
      (λ n.
          let there : Contains s x = in_if_counted x s (let b = times_with x x requirement.values in let one = one_if-same x x refl in let e = n.has x in omega (arith, b, one, e)) in (
            Item x,
            without_one x s,
            take_to s x there,
            subst (FitsIf (Item x)) (sym answered) refl,
            (after (without_one x s)).1 (record {
              has = λ w. (let a = times_without w x s there in let b = times_with w x requirement.values in let e = n.has w in omega (arith, a, b, e));
              has_more = (let a = length_without x s there in let b = length_with x requirement.values in let e = n.has_more in omega (arith, a, b, e));
            }),
          )),
    )

    -- of another answer
    no_item : (v : ℤ) (answer : Answer) → ((x : ℤ) → answer ≢ Number x) → ¬ Fits (Item v) answer
    no_item v Nothing other h = h
    no_item v (Number x) other h = other x refl
    no_item v (Numbers x y) other h = h
    no_item v (Many members) other h = h

    pub before_none : (answer : Answer) → c.answer ≡ Some answer → ((x : ℤ) → answer ≢ Number x) → (s : List ℤ) → ¬ CanRun unordered_queue (c ∷ later) s
    before_none answer answered other s h =
        let o = take_from s h.1 h.0 h.2 in
        no_item o.0 answer other (subst (FitsIf (Item o.0)) answered (subst (λ f. FitsIf f c.answer) o.3 h.3))
