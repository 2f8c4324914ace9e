-- Which place was the first to meet a refusal.
use Rattle.std.proofs.Common.{◌≡◌, ℕ, zero, suc, ◌<◌, true, Option, Some, None, List, [], ◌∷◌, ◌++◌, length, map, refl, ap, subst, ◌∙◌, arith}
use Rattle.std.specs.Prelude.{is_some, slice_index_or}
use Rattle.std.specs.List.{All}
use Rattle.edn.specs.declared.refusal.Refusal.{Refusal}
use Rattle.clients.specs.Playing.{first_met}

pub met_then : (xs ys : List (Option Refusal)) (why : Refusal) → first_met xs ≡ Some why → first_met (xs ++ ys) ≡ Some why
met_then [] ys why e = absurd (cc e)
met_then (None ∷ xs) ys why e = met_then xs ys why e
met_then (Some w ∷ xs) ys why e = e

pub met_after : (xs ys : List (Option Refusal)) → first_met xs ≡ None → first_met (xs ++ ys) ≡ first_met ys
met_after [] ys e = refl
met_after (None ∷ xs) ys e = met_after xs ys e
met_after (Some w ∷ xs) ys e = absurd (cc e)

module _ {E : Type 0} (why_of : E → Option Refusal) where
  pub none_met : (all : List E) → All (λ (e : E). why_of e ≡ None) all → first_met (map why_of all) ≡ None
  none_met [] none = refl
  none_met (e ∷ all) none =
      let here : why_of e ≡ None = none 0 e (omega arith) in
      rw here (none_met all (λ k d within. none (suc k) d (omega (arith, within))))

  some_first : (o : Option Refusal) (rest : List (Option Refusal)) → is_some o ≡ true → o ≡ first_met (o ∷ rest)
  some_first None rest some = absurd (cc some)
  some_first (Some why) rest some = refl

  -- the first that met one
  pub met_at : (all : List E) (place : ℕ) (e : E) → place < length all → e ≡ slice_index_or all place e → is_some (why_of e) ≡ true
      → ((k : ℕ) (d : E) → k < place → why_of (slice_index_or all k d) ≡ None) → why_of e ≡ first_met (map why_of all)
  met_at [] place e within at some before = absurd (omega (arith, within))
  met_at (x ∷ all) zero e within at some before =
      ap why_of at ∙ some_first (why_of x) (map why_of all) (subst (λ (y : E). is_some (why_of y) ≡ true) at some)
  met_at (x ∷ all) (suc place) e within at some before =
      let here : why_of x ≡ None = before 0 x (omega arith) in
      rw here (met_at all place e (omega (arith, within)) at some (λ k d less. before (suc k) d (omega (arith, less))))
