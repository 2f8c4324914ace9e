-- an operation keeps limits, nil at places without a variable, and the number of places
use Rattle.std.proofs.Common.{◌≡◌, ℕ, zero, suc, ℤ, true, ◌⊎◌, inl, inr, Option, Some, None, List, [], ◌∷◌, length, refl, sym, ◌∙◌, ap, subst, ⊎_elim, arith}
use Rattle.std.specs.List.{slice_get}
use Rattle.std.proofs.Math.ListN.{set}
use Rattle.std.proofs.lemmas.List.{length-set}
use Rattle.rules.specs.declared.finding.Found.{Found}
use Rattle.rules.specs.declared.rule.Variable.{Variable as VariableOf}
use Rattle.rules.specs.declared.rule.Assignment.{Assignment}
use Rattle.rules.specs.declared.rules.Rules.{Rules}
use Rattle.rules.specs.Meaning.{State, value_of, is_within, kept_value, state_after}
use Rattle.rules.specs.Laws.{KeepsLimits, IsNilBeyond, LeadsTo}
use Rattle.rules.proofs.Outcomes.{from_value, from_if, same_inside, outcome_state}

-- what stands at a place after a write: there what was written, and elsewhere what stood there
pub got_after : (xs : State) (i j : ℕ) (v w : Option ℤ) → slice_get (set xs i v) j ≡ Some w → ((i ≡ j) × (v ≡ w)) ⊎ ((i ≡ j → ⊥) × (slice_get xs j ≡ Some w))
got_after [] i j v w e = absurd (cc e)
got_after (x ∷ xs) zero zero v w e = inl (refl, same_inside v w e)
got_after (x ∷ xs) zero (suc j) v w e = inr (λ h. absurd (omega arith), e)
got_after (x ∷ xs) (suc i) zero v w e = inr (λ h. absurd (omega arith), e)
got_after (x ∷ xs) (suc i) (suc j) v w e = ⊎_elim (λ h. inl (ap suc h.0, h.1)) (λ h. inr (λ k. h.0 (omega arith), h.1)) (got_after xs i j v w e)

-- what stands at each place is such
abbrev Each : (ℕ → Option ℤ → Type 0) → State → Type 0
Each Q s = (place : ℕ) (value : Option ℤ) → slice_get s place ≡ Some value → Q place value

-- what an assignment leaves is such
abbrev Keeps : (ℕ → Option ℤ → Type 0) → List VariableOf → State → List ℤ → Type 0
Keeps Q vs before given = (x : Assignment) (v : Option ℤ) → kept_value vs before given x ≡ Some v → Q x.variable v

each_after : (Q : ℕ → Option ℤ → Type 0) (vs : List VariableOf) (before : State) (given : List ℤ) → Keeps Q vs before given → (xs : List Assignment) (s t : State) → Each Q s → state_after vs before given xs s ≡ Some t → Each Q t
each_after Q vs before given keeps [] s t each e = subst (Each Q) (same_inside s t e) each
each_after Q vs before given keeps (x ∷ xs) s t each e =
    let a = from_value (kept_value vs before given x) _ t e in
    each_after Q vs before given keeps xs (set s x.variable a.0) t
    (λ place value h. ⊎_elim
    (λ (same : (x.variable ≡ place) × (a.0 ≡ value)). subst (λ p. Q p value) same.0 (subst (Q x.variable) same.1 (keeps x a.0 a.1)))
    (λ other. each place value other.1)
    (got_after s x.variable place a.0 value h))
    a.2

places_after : (vs : List VariableOf) (before : State) (given : List ℤ) (xs : List Assignment) (s t : State) → state_after vs before given xs s ≡ Some t → length t ≡ length s
places_after vs before given [] s t e = ap length (sym (same_inside s t e))
places_after vs before given (x ∷ xs) s t e =
    let a = from_value (kept_value vs before given x) _ t e in
    places_after vs before given xs (set s x.variable a.0) t a.2 ∙ length-set s x.variable a.0

-- what an assignment leaves is within the limits of its variable, which is there
kept_there : (vs : List VariableOf) (before : State) (given : List ℤ) (x : Assignment) (v : Option ℤ) → kept_value vs before given x ≡ Some v → (variable : VariableOf) × (slice_get vs x.variable ≡ Some variable) × (is_within variable.limits v ≡ true)
kept_there vs before given x v e =
    let a = from_value (slice_get vs x.variable) _ v e in
    let b = from_value (value_of x.value before given) _ v a.2 in
    let c = from_if (is_within a.0.limits b.0) (Some b.0) v b.2 in
    (a.0, a.1, subst (λ w. is_within a.0.limits w ≡ true) (same_inside b.0 v c.1) c.0)

pub keeps_limits : (rules : Rules) (name : ℕ) (given : List ℤ) (s t : State) (found : Found) → KeepsLimits rules s → LeadsTo rules name given s t found → KeepsLimits rules t
keeps_limits rules name given s t found keeps e =
    let left = outcome_state rules name given s t found e in
    let vs = rules.variables.items in
    let Q : ℕ → Option ℤ → Type 0 = λ place value. (variable : VariableOf) → slice_get vs place ≡ Some variable → is_within variable.limits value ≡ true in
    let each = each_after Q vs s given
    (λ x v h variable there.
    let k = kept_there vs s given x v h in
    subst (λ (w : VariableOf). is_within w.limits v ≡ true) (same_inside k.0 variable (sym k.1 ∙ there)) k.2)
    left.0 s t (λ place value h variable there. keeps place variable value there h) left.2 in
    λ place variable value there h. each place value h variable there

pub keeps_nil : (rules : Rules) (name : ℕ) (given : List ℤ) (s t : State) (found : Found) → IsNilBeyond rules s → LeadsTo rules name given s t found → IsNilBeyond rules t
keeps_nil rules name given s t found keeps e =
    let left = outcome_state rules name given s t found e in
    let vs = rules.variables.items in
    let Q : ℕ → Option ℤ → Type 0 = λ place value. slice_get vs place ≡ None → value ≡ None in
    let each = each_after Q vs s given
    (λ x v h none. let k = kept_there vs s given x v h in let f = k.1 in absurd (cc (sym f ∙ none)))
    left.0 s t (λ place value h none. keeps place value none h) left.2 in
    λ place value none h. each place value h none

pub keeps_places : (rules : Rules) (name : ℕ) (given : List ℤ) (s t : State) (found : Found) → LeadsTo rules name given s t found → length t ≡ length s
keeps_places rules name given s t found e =
    let left = outcome_state rules name given s t found e in
    places_after rules.variables.items s given left.0 s t left.2
