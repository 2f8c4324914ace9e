-- The first of some tests that fails
use Rattle.std.proofs.Common.{◌≡◌, ℕ, zero, suc, ◌<◌, List, [], ◌∷◌, refl, sym, ap, ◌∙◌, arith}
use Rattle.edn.specs.declared.refusal.Refusal.{Refusal}

-- the test with this number is the first that fails; the number behind the last: none fails
abbrev pub FirstFails : List (Type 0) → ℕ → Type 0
FirstFails [] zero = Unit {0}
FirstFails [] (suc k) = ⊥
FirstFails (P ∷ tests) zero = ¬ P
FirstFails (P ∷ tests) (suc k) = P × FirstFails tests k

first_one : (tests : List (Type 0)) (i j : ℕ) → FirstFails tests i → FirstFails tests j → i ≡ j
first_one [] zero zero a b = refl
first_one [] zero (suc j) a b = absurd b
first_one [] (suc i) j a b = absurd a
first_one (P ∷ tests) zero zero a b = refl
first_one (P ∷ tests) zero (suc j) a b = absurd (a b.0)
first_one (P ∷ tests) (suc i) zero a b = absurd (b a.0)
first_one (P ∷ tests) (suc i) (suc j) a b = ap suc (first_one tests i j a.1 b.1)

-- the refusal is that of the first test that fails, of `count` tests
pub record FailsFirst (tests : List (Type 0)) (count : ℕ) (why_of : ℕ → Refusal) (why : Refusal) : Type 0 where
  pub index : ℕ
  pub below : index < count
  pub fails : FirstFails tests index
  pub is : why ≡ why_of index

pub same_why : (tests : List (Type 0)) (count : ℕ) (why_of : ℕ → Refusal) (why other : Refusal) → FailsFirst tests count why_of why → FailsFirst tests count why_of other → why ≡ other
same_why tests count why_of why other a b = a.is ∙ ap why_of (first_one tests a.index b.index a.fails b.fails) ∙ sym b.is

pub not_refused : (tests : List (Type 0)) (count : ℕ) (why_of : ℕ → Refusal) (why : Refusal) → FailsFirst tests count why_of why → FirstFails tests count → ⊥
not_refused tests count why_of why a all = (let same : a.index ≡ count = first_one tests a.index count a.fails all in let b : a.index < count = a.below in omega arith)
