-- the verdict on the whole history, by the statuses of its keys
use Rattle.std.proofs.Common.{◌≡◌, ◌≢◌, ◌↔◌, ℕ, suc, ◌+◌, ◌≤◌, ◌<◌, ◌⊎◌, inl, inr, ⊎_elim, Bool, true, false, not, IsTrue, nat_eq, List, [], ◌∷◌, ◌++◌, length, refl, sym, ap, ◌∙◌, subst, append_assoc, arith, length-append}
use Rattle.std.specs.List.{Contains}
use Rattle.std.proofs.lemmas.Bool.{cases_eq, eqb-true, ne_eqb, true≢false}
use Rattle.std.proofs.lemmas.List.{append-nil}
use Rattle.std.proofs.lemmas.List.Elements.{Contains-append_left, Contains-append_right, Contains-push, filter-append}
use Rattle.models.specs.Objects.{Object}
use Rattle.kinds.specs.declared.model_kind.ModelKind.{ModelKind}
use Rattle.kinds.specs.Kinds.{object_of}
use Rattle.events.specs.Events.{Entry, of_key, marks, IsPrefixOf}
use Rattle.linspec.specs.declared.verdict.KeyStatus.{KeyStatus}
use Rattle.linspec.specs.declared.verdict.KeyStatus.TheVariants.{Alive, Dead, Over}
use Rattle.linspec.specs.declared.verdict.Verdict.{Verdict}
use Rattle.linspec.specs.declared.verdict.Verdict.TheVariants.{Legal, Illegal, Unknown}
use Rattle.linspec.specs.MarkRule.{AreWellFormed, IsKeyed}
use Rattle.linspec.specs.Orders.{Pairwise, IsLinearizable}
use Rattle.linspec.specs.Ends.{Count, IsBlownAtBy, IsBlownIndexBy}
use Rattle.linspec.specs.Verdicts.{EndsShortestBadPrefix, EveryPrefixIsLinearizable}
use Rattle.linspec.specs.Orders.{product}
use Rattle.linspec.specs.Verdicts.{IsBlownKeyBy, IsBlownKeyAtBy, set_aside, IsVerdictWithBy, IsVerdictBy, IsRising, AreStatusesBy, IsJoin}
use Rattle.linspec.proofs.Lists.{Contains-nil, Contains-head, Contains-tail, Contains-cons_cases, Pairwise-across}
use Rattle.linspec.proofs.Filters.{from_filter, two_cuts, filter-cut_at, filter-yes, filter-none, Pairwise-filter}
use Rattle.linspec.proofs.Linearizable.{IsLinearizable-empty}
use Rattle.locality.proofs.SetAside.{IsKeyed-filter, IsKeyed-front, AreWellFormed-front, AreWellFormed-filter, of_key-kept, of_key-aside}
use Rattle.locality.proofs.Locality.{IsLinearizable-split, IsLinearizable-join}

-- the status that the list has for a key, or none
look : (statuses : List (ℕ × KeyStatus)) (k : ℕ) → ((status : KeyStatus) × Contains statuses (k, status)) ⊎ ((status : KeyStatus) → ¬ Contains statuses (k, status))
look [] k = inr (λ s h. Contains-nil _ h)
look (x ∷ statuses) k =
    ⊎_elim
    (λ e. inl (x.1, subst (Contains (x ∷ statuses)) (λ i. (e i, x.1)) (Contains-head x statuses)))
    (λ ne. ⊎_elim
    (λ r. inl (r.0, Contains-tail x statuses _ r.1))
    (λ none. inr (λ s h. ⊎_elim (λ e. ne (ap (λ (p : ℕ × KeyStatus). p.0) e)) (none s) (Contains-cons_cases x statuses _ h)))
    (look statuses k))
    (cases_eq x.0 k)

-- the list has one status for a key
one_status : (statuses : List (ℕ × KeyStatus)) → Pairwise (λ p q. p.0 ≢ q.0) statuses → (k : ℕ) (s t : KeyStatus) → Contains statuses (k, s) → Contains statuses (k, t) → s ≡ t
one_status [] once k s t h j = absurd (Contains-nil _ h)
one_status (x ∷ statuses) once k s t h j =
    ⊎_elim
    (λ e. ⊎_elim (λ f. ap (λ (p : ℕ × KeyStatus). p.1) (sym e ∙ f)) (λ j. absurd (once.0 _ j (ap (λ (p : ℕ × KeyStatus). p.0) e))) (Contains-cons_cases x statuses _ j))
    (λ h. ⊎_elim (λ f. absurd (once.0 _ h (ap (λ (p : ℕ × KeyStatus). p.0) f))) (λ j. one_status statuses once.1 k s t h j) (Contains-cons_cases x statuses _ j))
    (Contains-cons_cases x statuses _ h)

front_of_none : {X : Type 0} (xs : List X) → IsPrefixOf xs [] → xs ≡ []
front_of_none [] is = refl
front_of_none (x ∷ xs) is = (let q : x ∷ (xs ++ is.0) ≡ [] = is.1 in cc)

no_cut : {X : Type 0} (before after : List X) (x : X) → before ++ x ∷ after ≡ [] → ⊥
no_cut before after x h = Contains-nil x (subst (λ l. Contains l x) h (Contains-append_right before (x ∷ after) x (Contains-head x after)))

is_over : KeyStatus → Bool
is_over (Over i) = true
is_over (Dead i) = false
is_over Alive = false

over_by : {P : KeyStatus → Type 0} {Q : Type 0} → ((status : KeyStatus) × P status) ⊎ Q → Bool
over_by (inl r) = is_over r.0
over_by (inr q) = false

-- a front without the entry at which the shortest bad one ends is linearizable
not_yet : (o : Object) (entries : List Entry) (last : Entry) → EndsShortestBadPrefix o entries last → (front : List Entry) → IsPrefixOf front entries → ¬ Contains front last → IsLinearizable o (marks front)
not_yet o entries last s front is not_in =
    ⊎_elim
    (λ f. at_rest f.0 f.1)
    (λ f. absurd (not_in (subst (λ l. Contains l last) f.1 (Contains-append_left (s.before ++ last ∷ []) f.0 last (Contains-push s.before last)))))
    (two_cuts front is.0 (s.before ++ last ∷ []) s.front.0 (is.1 ∙ sym s.front.1))
  where
    at_rest : (r : List Entry) → front ++ r ≡ s.before ++ last ∷ [] → IsLinearizable o (marks front)
    at_rest [] e = absurd (not_in (subst (λ l. Contains l last) (sym e ∙ append-nil front) (Contains-push s.before last)))
    at_rest (x ∷ r) e =
        let a : length (front ++ x ∷ r) ≡ length front + suc (length r) = length-append front (x ∷ r) in
        let b : length (s.before ++ last ∷ []) ≡ length s.before + 1 = length-append s.before (last ∷ []) in
        let c : length (front ++ x ∷ r) ≡ length (s.before ++ last ∷ []) = ap length e in
        s.shorter front is (omega arith)

-- of two prefixes the one that is not longer is a prefix of the other
shorter_in : (us vs front r : List Entry) (x : Entry) → us ++ vs ≡ front ++ r → length front ≤ length us → Contains front x → Contains us x
shorter_in us vs front r x e le h =
    ⊎_elim
    (λ f. at_rest f.0 f.1)
    (λ f. subst (λ l. Contains l x) f.1 (Contains-append_left front f.0 x h))
    (two_cuts us vs front r e)
  where
    at_rest : (r : List Entry) → us ++ r ≡ front → Contains us x
    at_rest [] e = subst (λ l. Contains l x) (sym e ∙ append-nil us) h
    at_rest (y ∷ r) e =
        let a : length (us ++ y ∷ r) ≡ length us + suc (length r) = length-append us (y ∷ r) in
        let b : length (us ++ y ∷ r) ≡ length front = ap length e in
        absurd (omega arith)

module _ (more : ModelKind → Count) (kinds : ℕ → ModelKind) (budgets : ℕ → ℕ) (entries : List Entry) (statuses : List (ℕ × KeyStatus)) (keyed : IsKeyed entries) (well : AreWellFormed (marks entries)) (rising : IsRising entries) (are : AreStatusesBy more kinds budgets entries statuses) where
  blown : ℕ → Bool
  blown k = over_by (look statuses k)

  -- the cases of a key: over, dead, alive, or without events
  data CaseOf (k : ℕ) : Type 0 where
    over : (i : ℕ) → Contains statuses (k, Over i) → blown k ≡ true → CaseOf k
    dead : (i : ℕ) → Contains statuses (k, Dead i) → blown k ≡ false → CaseOf k
    alive : Contains statuses (k, Alive) → blown k ≡ false → CaseOf k
    without : of_key k entries ≡ [] → blown k ≡ false → CaseOf k

  case_of : (k : ℕ) → CaseOf k
  unfolding blown over_by is_over
  case_of k = by_look (look statuses k) refl
    where
      by_status : (s : KeyStatus) → Contains statuses (k, s) → over_by (look statuses k) ≡ is_over s → CaseOf k
      by_status (Over i) h e = over i h e
      by_status (Dead i) h e = dead i h e
      by_status Alive h e = alive h e

      by_look : (r : ((status : KeyStatus) × Contains statuses (k, status)) ⊎ ((status : KeyStatus) → ¬ Contains statuses (k, status))) → look statuses k ≡ r → CaseOf k
      by_look (inl r) e = by_status r.0 r.1 (ap over_by e)
      by_look (inr none) e = without (filter-none (λ (e : Entry). nat_eq e.key k) entries (λ x h. ne_eqb x.key k (λ q. (let a = are.all x h in none a.0 (subst (λ j. Contains statuses (j, a.0)) q a.1))))) (ap over_by e)

  none_blown : (k i : ℕ) → of_key k entries ≡ [] → ¬ IsBlownAtBy (more (kinds k)) (budgets k) (of_key k entries) i
  none_blown k i none b = no_cut b.before b.after b.event (b.cut ∙ none)

  blown_is : (k : ℕ) → IsTrue (blown k) ↔ IsBlownKeyBy more kinds budgets entries k
  blown_is k = by_case (case_of k)
    where
      by_case : CaseOf k → IsTrue (blown k) ↔ IsBlownKeyBy more kinds budgets entries k
      by_case (over i h e) = ((λ _. (i, (are.each k (Over i) h).blown)), (λ _. e))
      by_case (dead i h e) = ((λ t. absurd (true≢false (sym t ∙ e))), (λ b. absurd ((are.each k (Dead i) h).0 b.0 b.1)))
      by_case (alive h e) = ((λ t. absurd (true≢false (sym t ∙ e))), (λ b. absurd ((are.each k Alive h).0 b.0 b.1)))
      by_case (without none e) = ((λ t. absurd (true≢false (sym t ∙ e))), (λ b. absurd (none_blown k b.0 none b.1)))

  abbrev rest : List Entry
  rest = set_aside blown entries

  rest_keyed : IsKeyed rest
  rest_keyed = IsKeyed-filter (λ e. not (blown e.key)) entries keyed

  rest_well : AreWellFormed (marks rest)
  rest_well = AreWellFormed-filter (λ e. not (blown e.key)) (λ e f q. ap (λ j. not (blown j)) q) entries keyed well

  front_key : (front : List Entry) → IsPrefixOf front rest → (k : ℕ) → IsPrefixOf (of_key k front) (of_key k rest)
  front_key front is k = (of_key k is.0, sym (filter-append (λ (e : Entry). nat_eq e.key k) front is.0) ∙ ap (of_key k) is.1)

  -- a prefix of the rest, if the dead keys' parts are linearizable
  front_lin : (front : List Entry) → IsPrefixOf front rest → ((k i : ℕ) → Contains statuses (k, Dead i) → blown k ≡ false → IsLinearizable (object_of (kinds k)) (marks (of_key k front))) → IsLinearizable (product kinds) (marks front)
  front_lin front is dead_ok = IsLinearizable-join kinds front (IsKeyed-front front rest is rest_keyed) (AreWellFormed-front front rest is rest_well) (λ k. by_case k (case_of k))
    where
      empty_lin : (k : ℕ) → of_key k rest ≡ [] → IsLinearizable (object_of (kinds k)) (marks (of_key k front))
      empty_lin k none = subst (λ l. IsLinearizable (object_of (kinds k)) (marks l)) (sym (front_of_none (of_key k front) (subst (IsPrefixOf (of_key k front)) none (front_key front is k)))) (IsLinearizable-empty (object_of (kinds k)))

      by_case : (k : ℕ) → CaseOf k → IsLinearizable (object_of (kinds k)) (marks (of_key k front))
      by_case k (over i h e) = empty_lin k (of_key-aside blown k entries e)
      by_case k (dead i h e) = dead_ok k i h e
      by_case k (alive h e) = (are.each k Alive h).1 (of_key k front) (subst (IsPrefixOf (of_key k front)) (of_key-kept blown k entries e) (front_key front is k))
      by_case k (without none e) = empty_lin k (of_key-kept blown k entries e ∙ none)

  no_dead_lin : ((k i : ℕ) → ¬ Contains statuses (k, Dead i)) → EveryPrefixIsLinearizable (product kinds) rest
  no_dead_lin none front is = front_lin front is (λ k i h. absurd (none k i h))

  -- a dead key is not set aside
  dead_kept : (k i : ℕ) → Contains statuses (k, Dead i) → blown k ≡ false
  dead_kept k i h = by_case (case_of k)
    where
      by_case : CaseOf k → blown k ≡ false
      by_case (over j g e) = (let q : Over j ≡ Dead i = one_status statuses are.once k (Over j) (Dead i) g h in cc)
      by_case (dead j g e) = e
      by_case (alive g e) = e
      by_case (without none e) = e

  legal : IsJoin statuses Legal → IsVerdictWithBy more kinds budgets entries blown Legal
  legal j = (no_dead_lin j.0, λ k. by_case k (case_of k))
    where
      by_case : (k : ℕ) → CaseOf k → ¬ IsBlownKeyBy more kinds budgets entries k
      by_case k (over i h e) b = j.1 k i h
      by_case k (dead i h e) b = (are.each k (Dead i) h).0 b.0 b.1
      by_case k (alive h e) b = (are.each k Alive h).0 b.0 b.1
      by_case k (without none e) b = none_blown k b.0 none b.1

  unknown : (key index : ℕ) → IsJoin statuses (Unknown key index) → IsVerdictWithBy more kinds budgets entries blown (Unknown key index)
  unknown key index j = (no_dead_lin j.0, are.each key (Over index) j.1, λ k i b. by_case k i (case_of k) b)
    where
      by_case : (k i : ℕ) → CaseOf k → IsBlownKeyAtBy more kinds budgets entries k i → index ≤ i
      by_case k i (over n h e) b =
          let s : IsBlownIndexBy (more (kinds k)) (budgets k) (of_key k entries) n = are.each k (Over n) h in
          let c : n ≤ i = s.least i b.blown in
          let d : index ≤ n = j.2 k n h in
          omega arith
      by_case k i (dead n h e) b = absurd ((are.each k (Dead n) h).0 i b.blown)
      by_case k i (alive h e) b = absurd ((are.each k Alive h).0 i b.blown)
      by_case k i (without none e) b = absurd (none_blown k i none b.blown)

  illegal : (key index : ℕ) → IsJoin statuses (Illegal key index) → IsVerdictWithBy more kinds budgets entries blown (Illegal key index)
  illegal key index j =
      let d : (last : Entry) × EndsShortestBadPrefix (object_of (kinds key)) (of_key key entries) last × (last.index ≡ index) = (are.each key (Dead index) j.0).1 in
      let s : EndsShortestBadPrefix (object_of (kinds key)) (of_key key entries) d.0 = d.1 in
      let cut : s.before ++ d.0 ∷ s.front.0 ≡ of_key key rest = sym (append_assoc s.before (d.0 ∷ []) s.front.0) ∙ s.front.1 ∙ sym (of_key-kept blown key entries (dead_kept key index j.0)) in
      let c = filter-cut_at (λ (e : Entry). nat_eq e.key key) rest s.before s.front.0 d.0 cut in
      let key_front : of_key key (c.0 ++ d.0 ∷ []) ≡ s.before ++ d.0 ∷ [] =
      filter-append (λ (e : Entry). nat_eq e.key key) c.0 (d.0 ∷ []) ∙ ap (λ l. of_key key c.0 ++ l) (filter-yes (λ (e : Entry). nat_eq e.key key) d.0 [] c.5) ∙ ap (λ l. l ++ d.0 ∷ []) (sym c.3) in
      let is : IsPrefixOf (c.0 ++ d.0 ∷ []) rest = (c.1, append_assoc c.0 (d.0 ∷ []) c.1 ∙ sym c.2) in (
        d.0,
        record {
          before = c.0;
          front = is;
          bad = λ h. s.bad (subst (λ l. IsLinearizable (object_of (kinds key)) (marks l)) key_front (IsLinearizable-split kinds (c.0 ++ d.0 ∷ []) (IsKeyed-front (c.0 ++ d.0 ∷ []) rest is rest_keyed) h key));
          shorter = λ front is' le. front_lin front is' (λ k i h e.
              let dk : (last : Entry) × EndsShortestBadPrefix (object_of (kinds k)) (of_key k entries) last × (last.index ≡ i) = (are.each k (Dead i) h).1 in
              not_yet (object_of (kinds k)) (of_key k entries) dk.0 dk.1 (of_key k front) (subst (IsPrefixOf (of_key k front)) (of_key-kept blown k entries e) (front_key front is' k)) (λ there.
              let in_us : Contains c.0 dk.0 = shorter_in c.0 (d.0 ∷ c.1) front is'.0 dk.0 (sym c.2 ∙ sym is'.1) le (from_filter (λ (e : Entry). nat_eq e.key k) front dk.0 there).0 in
              let before : dk.0.index < d.0.index = Pairwise-across (λ (e f : Entry). e.index < f.index) c.0 (d.0 ∷ c.1)
              (subst (Pairwise (λ (e f : Entry). e.index < f.index)) c.2 (Pairwise-filter (λ e. not (blown e.key)) (λ (e f : Entry). e.index < f.index) entries rising)) dk.0 d.0 in_us (Contains-head d.0 c.1) in
              let least : index ≤ i = j.1 k i h in
              let a : dk.0.index ≡ i = dk.2 in
              let b : d.0.index ≡ index = d.2 in
              omega arith));
        },
        eqb-true d.0.key key c.5,
        d.2,
      )

  -- the promise of join is the verdict
  pub IsVerdict-join : (v : Verdict) → IsJoin statuses v → IsVerdictBy more kinds budgets entries v
  IsVerdict-join (Illegal key index) j = (blown, blown_is, illegal key index j)
  IsVerdict-join (Unknown key index) j = (blown, blown_is, unknown key index j)
  IsVerdict-join Legal j = (blown, blown_is, legal j)
