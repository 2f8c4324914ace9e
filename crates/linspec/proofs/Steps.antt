-- the steps of the states that the search keeps
use Rattle.std.proofs.Common.{◌≡◌, ◌↔◌, inl, inr, ⊎_elim, ℕ, Some, None, Ok, Err, Result, IfOk, Vec, Global, Bool, true, false, not, IsTrue, List, [], ◌∷◌, refl, sym, ◌∙◌, subst}
use Rattle.std.specs.List.{Contains}
use Rattle.models.specs.declared.operation.Op.{Op}
use Rattle.models.specs.declared.finding.Found.{Found}
use Rattle.models.specs.Objects.{IsOneOf}
use Rattle.kinds.specs.declared.model_kind.ModelKind.{ModelKind}
use Rattle.kinds.specs.declared.any_state.AnyState.{AnyState}
use Rattle.kinds.specs.AnyState.{any, outcomes_of}
use Rattle.kinds.specs.Kinds.{object_of}
use Rattle.kinds.proofs.AnyStates.{outcome_of, step_of}
use Rattle.linspec.specs.Attempts.{Keyed, LeadTo, state_at, StepsBy, Steps, PrecedesSome}
use Rattle.events.specs.Events.{Mark}
use Rattle.events.specs.Events.Mark.{Failed}
use Rattle.linspec.specs.Finishing.{MayStandAfter}
use Rattle.linspec.proofs.Keys.{any_kind}
use Rattle.linspec.proofs.Lists.{Contains-nil, Contains-head, Contains-tail, Contains-cons_cases}
use Rattle.std.specs.declared.alloc.AllocError.{AllocError}

-- the key's state is a
module _ (states : List Keyed) (op : Op) (a : AnyState) (is : state_at states op.key ≡ Some a) where
  the_step : (found : Found) (after : List Keyed) (s : Steps states op found after) → StepsBy a op found s.1
  the_step found after s = let same : s.0 ≡ a = (let q : state_at states op.key ≡ Some s.0 = s.2 in cc) in subst (λ b. StepsBy b op found s.1) same s.3

  pub steps_are : (outcomes : List (AnyState × Found)) → ((kind : ModelKind) (s : (object_of kind).State) → a ≡ any kind s → outcomes ≡ outcomes_of kind s op)
      → (found : Found) (after : List Keyed) → Steps states op found after ↔ LeadTo states op.key outcomes found after
  steps_are outcomes listed found after = (
    (λ s.
        let by : StepsBy a op found s.1 = the_step found after s in (
          s.1,
          subst (λ l. IsOneOf {X = AnyState × Found} l (s.1, found)) (sym (listed by.0 by.1.0 by.1.2))
              (subst (λ b. IsOneOf {X = AnyState × Found} (outcomes_of by.0 by.1.0 op) (b, found)) (sym by.1.4) (outcome_of by.0 op by.1.0 by.1.1 found by.1.3)),
          s.4,
        )),
    (λ h.
        let k : (kind : ModelKind) × (s : (object_of kind).State) × (a ≡ any kind s) = any_kind a in
        let o = step_of k.0 op k.1 h.0 found (subst (λ l. IsOneOf {X = AnyState × Found} l (h.0, found)) (listed k.0 k.1 k.2) h.1) in
        (a, h.0, is, (k.0, (k.1, o.0, k.2, o.2, o.1)), h.2)),
  )

  pub outcomes_are : (r : Result (Vec (AnyState × Found) Global) AllocError) → ((kind : ModelKind) (s : (object_of kind).State) → a ≡ any kind s → IfOk r (λ outcomes. outcomes.items ≡ outcomes_of kind s op))
      → IfOk r (λ outcomes. (found : Found) (after : List Keyed) → Steps states op found after ↔ LeadTo states op.key outcomes.items found after)
  outcomes_are (Ok outcomes) h = steps_are outcomes.items h
  outcomes_are (Err e) h = tt

-- there is no such state
pub no_outcomes : (states : List Keyed) (op : Op) (outcomes : List (AnyState × Found)) → state_at states op.key ≡ None → outcomes ≡ [] → (found : Found) (after : List Keyed) → Steps states op found after ↔ LeadTo states op.key outcomes found after
no_outcomes states op outcomes none empty found after = (
  (λ s. let no : None ≡ Some s.0 = sym none ∙ s.2 in cc),
  (λ h. absurd (subst (λ l. IsOneOf {X = AnyState × Found} l (h.0, found)) empty h.1)),
)

-- one of a list stands in it
pub listed_in : {X : Type 0} (xs : List X) (y : X) → IsOneOf xs y → Contains xs y
listed_in [] y h = absurd h
listed_in (x ∷ xs) y h = ⊎_elim (λ e. subst (Contains (x ∷ xs)) e (Contains-head x xs)) (λ k. Contains-tail x xs y (listed_in xs y k)) h

pub in_listed : {X : Type 0} (xs : List X) (y : X) → Contains xs y → IsOneOf xs y
in_listed [] y h = absurd (Contains-nil y h)
in_listed (x ∷ xs) y h = ⊎_elim inl (λ k. inr (in_listed xs y k)) (Contains-cons_cases x xs y h)

not_true : (b : Bool) → not b ≡ true → b ≡ true → ⊥
not_true true e h = cc
not_true false e h = cc

not_from : (b : Bool) → (b ≡ true → ⊥) → not b ≡ true
not_from true h = absurd (h refl)
not_from false h = refl

-- the three tests of an operation
pub may_stand : (marks : List Mark) (taken : List ℕ) (id : ℕ) (a f p : Bool) → IsTrue a ↔ Contains taken id → IsTrue f ↔ Contains marks (Failed id) → IsTrue p ↔ PrecedesSome marks id taken
    → not a ≡ true → not f ≡ true → IsTrue (not p) ↔ MayStandAfter marks taken id
may_stand marks taken id a f p is_a is_f is_p na nf = (
  (λ np. record {
    fresh = λ h. not_true a na (is_a.1 h);
    not_failed = λ h. not_true f nf (is_f.1 h);
    in_time = λ y h k. not_true p np (is_p.1 (y, h, k));
  }),
  (λ m. not_from p (λ t. let h = is_p.0 t in m.in_time h.0 h.1 h.2)),
)
