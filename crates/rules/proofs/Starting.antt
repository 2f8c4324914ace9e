-- the state at first: each variable holds its start, and each other place nil
use Rattle.std.proofs.Common.{◌≡◌, ℕ, zero, suc, ◌+◌, ℤ, true, ◌⊎◌, inl, inr, Option, Some, None, List, [], ◌∷◌, refl, sym, ◌∙◌, ap, subst, ⊎_elim, arith}
use Rattle.std.specs.List.{slice_get}
use Rattle.std.proofs.Math.ListN.{set}
use Rattle.rules.specs.declared.rule.Variable.{Variable as VariableOf}
use Rattle.rules.specs.declared.rules.Rules.{Rules}
use Rattle.rules.specs.Meaning.{State, is_within, started, start_of}
use Rattle.rules.specs.Laws.{KeepsLimits, IsNilBeyond, StartsWithin}
use Rattle.rules.proofs.Outcomes.{same_inside}
use Rattle.rules.proofs.Bounded.{got_after}

-- the value of a place is the start of the variable that is as far behind the first place
record IsStartOf (vs : List VariableOf) (first place : ℕ) (value : Option ℤ) : Type 0 where
  pub at : ℕ
  pub variable : VariableOf
  pub is_there : slice_get vs at ≡ Some variable
  pub is_place : place ≡ first + at
  pub is_start : value ≡ variable.start

-- none of the variables stands there, and the value was there before
record IsOther (vs : List VariableOf) (s : State) (first place : ℕ) (value : Option ℤ) : Type 0 where
  pub none : (at : ℕ) (variable : VariableOf) → slice_get vs at ≡ Some variable → place ≡ first + at → ⊥
  pub before : slice_get s place ≡ Some value

got_started : (vs : List VariableOf) (s : State) (first place : ℕ) (value : Option ℤ) → slice_get (started vs s first) place ≡ Some value → IsStartOf vs first place value ⊎ IsOther vs s first place value
got_started [] s first place value e = inr (record { none = λ at variable h k. absurd (cc h); before = e })
got_started (v ∷ vs) s first place value e =
    ⊎_elim
    (λ (h : IsStartOf vs (first + 1) place value). let is = h.is_place in inl (record { at = suc h.at; variable = h.variable; is_there = h.is_there; is_place = omega arith; is_start = h.is_start }))
    (λ (h : IsOther vs (set s first v.start) (first + 1) place value). by_write h (got_after s first place v.start value h.before))
    (got_started vs (set s first v.start) (first + 1) place value e)
  where
    not_here : (h : IsOther vs (set s first v.start) (first + 1) place value) → (first ≡ place → ⊥) → (at : ℕ) (variable : VariableOf) → slice_get (v ∷ vs) at ≡ Some variable → place ≡ first + at → ⊥
    not_here h other zero variable there is = other (omega arith)
    not_here h other (suc at) variable there is = h.none at variable there (omega arith)

    by_write : IsOther vs (set s first v.start) (first + 1) place value → ((first ≡ place) × (v.start ≡ value)) ⊎ ((first ≡ place → ⊥) × (slice_get s place ≡ Some value)) → IsStartOf (v ∷ vs) first place value ⊎ IsOther (v ∷ vs) s first place value
    by_write h (inl here) = let is = here.0 in inl (record { at = zero; variable = v; is_there = refl; is_place = omega arith; is_start = sym here.1 })
    by_write h (inr other) = inr (record { none = not_here h other.0; before = other.1 })

-- each value is nil
abbrev AreNil : State → Type 0
AreNil [] = Unit {0}
AreNil (v ∷ vs) = (v ≡ None) × AreNil vs

nil_there : (s : State) (place : ℕ) (value : Option ℤ) → AreNil s → slice_get s place ≡ Some value → value ≡ None
nil_there [] place value all e = absurd (cc e)
nil_there (v ∷ vs) zero value all e = sym (same_inside v value e) ∙ all.0
nil_there (v ∷ vs) (suc place) value all e = nil_there vs place value all.1 e

abbrev nils : State
nils = None ∷ None ∷ None ∷ None ∷ None ∷ None ∷ None ∷ None ∷ []

all_nil : AreNil nils
all_nil = (refl, (refl, (refl, (refl, (refl, (refl, (refl, (refl, tt))))))))

pub start_keeps : (rules : Rules) → StartsWithin rules → KeepsLimits rules (start_of rules)
start_keeps rules within place variable value there e =
    ⊎_elim
    (λ (h : IsStartOf rules.variables.items 0 place value).
    let at : h.at ≡ place = let is = h.is_place in omega arith in
    let same : h.variable ≡ variable = same_inside h.variable variable (sym h.is_there ∙ ap (slice_get rules.variables.items) at ∙ there) in
    subst (λ x. is_within variable.limits x ≡ true) (ap (λ (w : VariableOf). w.start) (sym same) ∙ sym h.is_start) (within place variable there))
    (λ (h : IsOther rules.variables.items nils 0 place value). absurd (h.none place variable there (omega arith)))
    (got_started rules.variables.items nils 0 place value e)

pub start_is_nil : (rules : Rules) → IsNilBeyond rules (start_of rules)
start_is_nil rules place value none e =
    ⊎_elim
    (λ (h : IsStartOf rules.variables.items 0 place value).
    let at : h.at ≡ place = let is = h.is_place in omega arith in
    let there = sym h.is_there ∙ ap (slice_get rules.variables.items) at ∙ none in
    absurd (cc there))
    (λ (h : IsOther rules.variables.items nils 0 place value). nil_there nils place value all_nil h.before)
    (got_started rules.variables.items nils 0 place value e)
