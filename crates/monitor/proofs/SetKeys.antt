-- the settings of keys, once one is set for a key
use Rattle.std.proofs.Common.{◌≡◌, ◌≢◌, ℕ, nat_eq, Option, Some, unwrap_or, List, [], ◌∷◌, sym, ap, arith}
use Rattle.std.specs.Map.{lookup}
use Rattle.std.proofs.lemmas.Bool.Decides.{nat_tests}
use Rattle.indexmap.specs.IndexMap.{insert_entry}
use Rattle.kinds.specs.declared.model_kind.ModelKind.{ModelKind}
use Rattle.linspec.specs.JudgedHistory.{JudgedHistory, kind_of, budget_of, with_kind, with_budget}

pub lookup_set : {X : Type 0} (es : List (ℕ × X)) (k : ℕ) (v : X) → lookup (nat_eq k) (insert_entry nat_eq es k v) ≡ Some v
lookup_set [] k v = grind (arith, nat_tests)
lookup_set (e ∷ es) k v = grind (arith, nat_tests, lookup_set es k v)

pub lookup_other : {X : Type 0} (es : List (ℕ × X)) (k j : ℕ) (v : X) → j ≢ k → lookup (nat_eq j) (insert_entry nat_eq es k v) ≡ lookup (nat_eq j) es
lookup_other [] k j v ne = grind (arith, nat_tests)
lookup_other (e ∷ es) k j v ne = grind (arith, nat_tests, lookup_other es k j v ne)

pub kind_is_set : (key : ℕ) (kind : ModelKind) (h : JudgedHistory) → kind ≡ kind_of (with_kind key kind h) key
kind_is_set key kind h = sym (ap (λ (o : Option ModelKind). unwrap_or o h.kind) (lookup_set h.kinds key kind))

pub budget_is_set : (key n : ℕ) (h : JudgedHistory) → n ≡ budget_of (with_budget key n h) key
budget_is_set key n h = sym (ap (λ (o : Option ℕ). unwrap_or o h.budget) (lookup_set h.budgets key n))
