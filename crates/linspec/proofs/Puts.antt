-- a state of all keys with the state of one key put in
use Rattle.std.proofs.Common.{◌≡◌, ◌≢◌, ℕ, ◌⊎◌, inl, inr, refl, sym, ap, ◌∙◌, subst}
use mathlib.Core.Path.{subst_refl}
use native.Mathlib.Nat.{ℕ_set}
use Rattle.std.proofs.lemmas.Bool.{cases_eq}
use Rattle.kinds.specs.declared.model_kind.ModelKind.{ModelKind}
use Rattle.kinds.specs.Kinds.{object_of}

module _ (kinds : ℕ → ModelKind) where
  abbrev pub StateOf : ℕ → Type 0
  StateOf k = (object_of (kinds k)).State

  -- the states s, but v at the key k
  put_by : (s : (k : ℕ) → StateOf k) (k : ℕ) → StateOf k → (j : ℕ) → (j ≡ k) ⊎ (j ≡ k → ⊥) → StateOf j
  put_by s k v j (inl e) = subst StateOf (sym e) v
  put_by s k v j (inr ne) = s j

  pub put : (s : (k : ℕ) → StateOf k) (k : ℕ) → StateOf k → (j : ℕ) → StateOf j
  put s k v j = put_by s k v j (cases_eq j k)

  pub put_same : (s : (k : ℕ) → StateOf k) (k : ℕ) (v : StateOf k) → put s k v k ≡ v
  unfolding put put_by
  put_same s k v = by_case (cases_eq k k)
    where
      by_case : (c : (k ≡ k) ⊎ (k ≡ k → ⊥)) → put_by s k v k c ≡ v
      by_case (inl e) = ap (λ p. subst StateOf p v) (ℕ_set k k (sym e) refl) ∙ subst_refl StateOf v
      by_case (inr ne) = absurd (ne refl)

  pub put_other : (s : (k : ℕ) → StateOf k) (k : ℕ) (v : StateOf k) (j : ℕ) → j ≢ k → put s k v j ≡ s j
  unfolding put put_by
  put_other s k v j ne = by_case (cases_eq j k)
    where
      by_case : (c : (j ≡ k) ⊎ (j ≡ k → ⊥)) → put_by s k v j c ≡ s j
      by_case (inl e) = absurd (ne e)
      by_case (inr ne) = refl
