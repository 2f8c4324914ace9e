-- the join of a list with one more status
use Rattle.std.proofs.Common.{◌≡◌, ℕ, ◌≤◌, ◌<◌, ⊎_elim, List, [], ◌∷◌, ◌++◌, ap, subst, arith}
use Rattle.std.specs.List.{Contains}
use Rattle.std.proofs.lemmas.List.Elements.{Contains-append_left, Contains-push, Contains-push_cases}
use Rattle.linspec.specs.declared.verdict.KeyStatus.{KeyStatus}
use Rattle.linspec.specs.declared.verdict.KeyStatus.TheVariants.{Alive, Dead, Over}
use Rattle.linspec.specs.declared.verdict.Verdict.{Verdict}
use Rattle.linspec.specs.declared.verdict.Verdict.TheVariants.{Legal, Illegal, Unknown}
use Rattle.linspec.specs.Verdicts.{IsJoin}

module _ (statuses : List (ℕ × KeyStatus)) (key : ℕ) where
  -- a fact about each pair of the list that has this status, and about the new pair
  each : (s : KeyStatus) (P : ℕ → ℕ → Type 0) (form : ℕ → KeyStatus) → ((k i : ℕ) → Contains statuses (k, form i) → P k i) → ((i : ℕ) → s ≡ form i → P key i)
      → (k i : ℕ) → Contains (statuses ++ (key, s) ∷ []) (k, form i) → P k i
  each s P form old new k i h =
      ⊎_elim
      (old k i)
      (λ (e : ◌≡◌ {A = ℕ × KeyStatus} (key, s) (k, form i)). (let same : key ≡ k = ap (λ (p : ℕ × KeyStatus). p.0) e in subst (λ n. P n i) same (new i (ap (λ (p : ℕ × KeyStatus). p.1) e))))
      (Contains-push_cases statuses (key, s) (k, form i) h)

  stays : (s t : KeyStatus) (k : ℕ) → Contains statuses (k, t) → Contains (statuses ++ (key, s) ∷ []) (k, t)
  stays s t k h = Contains-append_left statuses ((key, s) ∷ []) (k, t) h

  pub IsJoin-alive : (v : Verdict) → IsJoin statuses v → IsJoin (statuses ++ (key, Alive) ∷ []) v
  IsJoin-alive (Illegal k n) j = (stays Alive (Dead n) k j.0, each Alive (λ k i. n ≤ i) Dead j.1 (λ i e. cc))
  IsJoin-alive (Unknown k n) j = (each Alive (λ k i. ⊥) Dead j.0 (λ i e. cc), stays Alive (Over n) k j.1, each Alive (λ k i. n ≤ i) Over j.2 (λ i e. cc))
  IsJoin-alive Legal j = (each Alive (λ k i. ⊥) Dead j.0 (λ i e. cc), each Alive (λ k i. ⊥) Over j.1 (λ i e. cc))

  module _ (index : ℕ) where
    abbrev more_dead : List (ℕ × KeyStatus)
    more_dead = statuses ++ (key, Dead index) ∷ []

    abbrev more_over : List (ℕ × KeyStatus)
    more_over = statuses ++ (key, Over index) ∷ []

    pub IsJoin-dead_later : (k n : ℕ) → IsJoin statuses (Illegal k n) → n ≤ index → IsJoin more_dead (Illegal k n)
    IsJoin-dead_later k n j le = (stays (Dead index) (Dead n) k j.0, each (Dead index) (λ k i. n ≤ i) Dead j.1 (λ i e. (let q : index ≡ i = cc in omega arith)))

    pub IsJoin-dead_earlier : (k n : ℕ) → IsJoin statuses (Illegal k n) → index < n → IsJoin more_dead (Illegal key index)
    IsJoin-dead_earlier k n j lt = (
      Contains-push statuses (key, Dead index),
      each (Dead index) (λ k i. index ≤ i) Dead (λ k i h. (let le : n ≤ i = j.1 k i h in omega arith)) (λ i e. (let q : index ≡ i = cc in omega arith)),
    )

    first_dead : ((k i : ℕ) → ¬ Contains statuses (k, Dead i)) → IsJoin more_dead (Illegal key index)
    first_dead none = (Contains-push statuses (key, Dead index), each (Dead index) (λ k i. index ≤ i) Dead (λ k i h. absurd (none k i h)) (λ i e. (let q : index ≡ i = cc in omega arith)))

    pub IsJoin-dead_unknown : (k n : ℕ) → IsJoin statuses (Unknown k n) → IsJoin more_dead (Illegal key index)
    IsJoin-dead_unknown k n j = first_dead j.0

    pub IsJoin-dead_legal : IsJoin statuses Legal → IsJoin more_dead (Illegal key index)
    IsJoin-dead_legal j = first_dead j.0

    pub IsJoin-over_illegal : (k n : ℕ) → IsJoin statuses (Illegal k n) → IsJoin more_over (Illegal k n)
    IsJoin-over_illegal k n j = (stays (Over index) (Dead n) k j.0, each (Over index) (λ k i. n ≤ i) Dead j.1 (λ i e. cc))

    pub IsJoin-over_later : (k n : ℕ) → IsJoin statuses (Unknown k n) → n ≤ index → IsJoin more_over (Unknown k n)
    IsJoin-over_later k n j le = (
      each (Over index) (λ k i. ⊥) Dead j.0 (λ i e. cc),
      stays (Over index) (Over n) k j.1,
      each (Over index) (λ k i. n ≤ i) Over j.2 (λ i e. (let q : index ≡ i = cc in omega arith)),
    )

    pub IsJoin-over_earlier : (k n : ℕ) → IsJoin statuses (Unknown k n) → index < n → IsJoin more_over (Unknown key index)
    IsJoin-over_earlier k n j lt = (
      each (Over index) (λ k i. ⊥) Dead j.0 (λ i e. cc),
      Contains-push statuses (key, Over index),
      each (Over index) (λ k i. index ≤ i) Over (λ k i h. (let le : n ≤ i = j.2 k i h in omega arith)) (λ i e. (let q : index ≡ i = cc in omega arith)),
    )

    pub IsJoin-over_legal : IsJoin statuses Legal → IsJoin more_over (Unknown key index)
    IsJoin-over_legal j = (
      each (Over index) (λ k i. ⊥) Dead j.0 (λ i e. cc),
      Contains-push statuses (key, Over index),
      each (Over index) (λ k i. index ≤ i) Over (λ k i h. absurd (j.1 k i h)) (λ i e. (let q : index ≡ i = cc in omega arith)),
    )
