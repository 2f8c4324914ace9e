-- where an answer stands in a chain
use Rattle.std.proofs.Common.{◌≡◌, ◌≢◌, ℕ, zero, suc, ◌+◌, ◌-◌, ◌≤◌, ◌<◌, ℤ, ◌⊎◌, inl, inr, ⊎_elim, List, [], ◌∷◌, ◌++◌, length, take, drop, get_or, sym, ap, ◌∙◌, subst, arith, length-drop}
use Rattle.std.specs.List.{Contains}
use Rattle.std.proofs.lemmas.Bool.{cases_lt}
use Rattle.std.proofs.lemmas.List.{take-append-drop, take_more, drop_more, drop_all, take_all}
use Rattle.std.proofs.lemmas.List.Elements.{Contains-append_right, Contains-append_cases, Contains-push, Contains-push_cases, Contains-get_or}
use Rattle.values.specs.Members.{IsAscending}
use Rattle.values.proofs.Sorting.{one_ascending}
use Rattle.linspec.specs.Orders.{Pairwise}
use Rattle.linspec.proofs.Lists.{Contains-nil, Contains-head, Contains-cons_cases, Pairwise-left, Pairwise-right, Pairwise-across}
use Rattle.set_chains.specs.Chains.{IsWithin}
use Rattle.set_chains.proofs.Sorts.{within_no_longer, as_long}
use Rattle.wide_set.specs.declared.known.Answered.{Answered}
use Rattle.wide_set.specs.Facts.{Nests, AreNested, IsInChain, IsPlace}
use Rattle.wide_set.specs.Queries.{HasBefore}

-- the part that is read from a place on
pub rest : (xs : List Answered) (at : ℕ) → take (length xs - at) (drop at xs) ≡ drop at xs
rest xs at = take_all (length xs - at) (drop at xs) (omega (arith, length-drop at xs))

pub some_behind : (xs : List Answered) (n : ℕ) → n < length xs → (x : Answered) × Contains (drop n xs) x
some_behind [] n lt = absurd (omega arith)
some_behind (x ∷ xs) zero lt = (x, Contains-head x xs)
some_behind (x ∷ xs) (suc n) lt = some_behind xs n (omega arith)

-- the same or before it in the chain
abbrev pub IsUpTo : Answered → Answered → Type 0
IsUpTo a b = IsWithin a.members b.members × (length a.members ≤ length b.members)

module _ (answers : List Answered) (are : AreNested answers) (at : ℕ) where
  whole : take at answers ++ drop at answers ≡ answers
  whole = take-append-drop at answers

  pub in_right : (a : Answered) → Contains (drop at answers) a → Contains answers a
  in_right a h = subst (λ l. Contains l a) whole (Contains-append_right (take at answers) (drop at answers) a h)

  pub left_or_right : (a : Answered) → Contains answers a → Contains (take at answers) a ⊎ Contains (drop at answers) a
  left_or_right a h = Contains-append_cases (take at answers) (drop at answers) a (subst (λ l. Contains l a) (sym whole) h)

  cut : Pairwise Nests (take at answers ++ drop at answers)
  cut = subst (Pairwise Nests) (sym whole) are.nested

  -- the first behind the place
  pub first_is_in : (first : Answered) → at < length answers → first ≡ get_or answers at first → Contains (drop at answers) first
  first_is_in first lt is = subst (λ l. Contains l first) (sym (drop_more answers at first lt ∙ ap (λ x. x ∷ drop (at + 1) answers) (sym is))) (Contains-head first (drop (at + 1) answers))

  pub from_first : (first : Answered) → at < length answers → first ≡ get_or answers at first → (a : Answered) → Contains (drop at answers) a → IsUpTo first a
  from_first first lt is a h =
      let same : drop at answers ≡ first ∷ drop (at + 1) answers = drop_more answers at first lt ∙ ap (λ x. x ∷ drop (at + 1) answers) (sym is) in
      let right : Pairwise Nests (first ∷ drop (at + 1) answers) = subst (Pairwise Nests) same (Pairwise-right Nests (take at answers) (drop at answers) cut) in
      ⊎_elim
      (λ e. subst (IsUpTo first) e ((λ v k. k), omega arith))
      (λ j. (let n = right.0 a j in let lt' : length first.members < length a.members = n.1 in (n.0, omega arith)))
      (Contains-cons_cases first (drop (at + 1) answers) a (subst (λ l. Contains l a) same h))

-- the last before the place
module _ (answers : List Answered) (are : AreNested answers) (before : ℕ) (last : Answered) (lt : before < length answers) (is : last ≡ get_or answers before last) where
  same : take (before + 1) answers ≡ take before answers ++ last ∷ []
  same = take_more answers before last lt ∙ ap (λ x. take before answers ++ x ∷ []) (sym is)

  pub last_is_in : Contains answers last
  last_is_in = subst (Contains answers) (sym is) (Contains-get_or answers before last lt)

  pub last_is_left : Contains (take (before + 1) answers) last
  last_is_left = subst (λ l. Contains l last) (sym same) (Contains-push (take before answers) last)

  pub to_last : (a : Answered) → Contains (take (before + 1) answers) a → IsUpTo a last
  to_last a h =
      let left : Pairwise Nests (take (before + 1) answers) = Pairwise-left Nests (take (before + 1) answers) (drop (before + 1) answers) (subst (Pairwise Nests) (sym (take-append-drop (before + 1) answers)) are.nested) in
      let parts : Pairwise Nests (take before answers ++ last ∷ []) = subst (Pairwise Nests) same left in
      ⊎_elim
      (λ k. (let n = Pairwise-across Nests (take before answers) (last ∷ []) parts a last k (Contains-head last []) in let lt' : length a.members < length last.members = n.1 in (n.0, omega arith)))
      (λ e. subst (λ (x : Answered). IsUpTo x last) e ((λ v k. k), omega arith))
      (Contains-push_cases (take before answers) last a (subst (λ l. Contains l a) same h))

module _ (answers : List Answered) (are : AreNested answers) (members : List ℤ) (ascends : IsAscending members) (since at : ℕ)
    (more : (a : Answered) → Contains (drop at answers) a → length members < length a.members)
    (fewer : (a : Answered) → Contains (take at answers) a → length a.members ≤ length members) where
  too_long : (a : Answered) → Contains (drop at answers) a → ¬ IsWithin a.members members
  too_long a h w =
      let le : length a.members ≤ length members = within_no_longer a.members members (are.ascending a (in_right answers are at a h)) w in
      let lt : length members < length a.members = more a h in
      omega arith

  pub not_before : HasBefore (drop at answers) since → ¬ IsInChain answers since members
  not_before b chain =
      let h = in_right answers are at b.0 b.1 in
      ⊎_elim
      (λ w. (let le : since ≤ b.0.by = chain.in_turn b.0 h w (too_long b.0 b.1) in let lt : b.0.by < since = b.2 in omega arith))
      (λ w. too_long b.0 b.1 w)
      (chain.chain b.0 h)

  pub not_within_first : (first : Answered) → at < length answers → first ≡ get_or answers at first → ¬ IsWithin members first.members → ¬ IsInChain answers since members
  not_within_first first lt is n chain =
      let i = first_is_in answers are at first lt is in
      ⊎_elim n (too_long first i) (chain.chain first (in_right answers are at first i))

  -- all behind the place have these members, and came in turn
  abbrev pub IsBelowAll : Type 0
  IsBelowAll = (a : Answered) → Contains (drop at answers) a → IsWithin members a.members × (since ≤ a.by)

  in_turn_of : ¬ HasBefore (drop at answers) since → (a : Answered) → Contains (drop at answers) a → since ≤ a.by
  in_turn_of none a h = ⊎_elim (λ (lt : a.by < since). absurd (none (a, h, lt))) (λ (le : since ≤ a.by). le) (cases_lt a.by since)

  pub below_first : ¬ HasBefore (drop at answers) since → (first : Answered) → at < length answers → first ≡ get_or answers at first → IsWithin members first.members → IsBelowAll
  below_first none first lt is w a h = ((λ v k. (from_first answers are at first lt is a h).0 v (w v k)), in_turn_of none a h)

  pub below_none : ¬ HasBefore (drop at answers) since → length answers ≤ at → IsBelowAll
  below_none none le a h = absurd (Contains-nil a (subst (λ l. Contains l a) (drop_all at answers le) h))

  placed : IsBelowAll → ((a : Answered) → Contains (take at answers) a → IsWithin a.members members) → IsInChain answers since members
  placed below above = record {
    chain = λ a h. ⊎_elim (λ k. inr (above a k)) (λ k. inl (below a k).0) (left_or_right answers are at a h);
    in_turn = λ a h w n. ⊎_elim (λ k. absurd (n (above a k))) (λ k. (below a k).1) (left_or_right answers are at a h);
  }

  pub place_first : at ≡ 0 → IsBelowAll → IsInChain answers since members × IsPlace answers at members
  place_first e below =
      let none : (a : Answered) → Contains (take at answers) a → ⊥ = λ a h. Contains-nil a (subst (λ n. Contains (take n answers) a) e h) in (
        placed below (λ a h. absurd (none a h)),
        record {
          within = omega arith;
          fewer = λ a h. absurd (none a h);
          more = λ a h. ((below a h).0, more a h);
        },
      )

  -- the answer before the place
  module _ (before : ℕ) (last : Answered) (lt : before < length answers) (is : last ≡ get_or answers before last) (next : before + 1 ≡ at) where
    up_to : (a : Answered) → Contains (take at answers) a → IsUpTo a last
    up_to a h = to_last answers are before last lt is a (subst (λ n. Contains (take n answers) a) (sym next) h)

    last_in : Contains answers last
    last_in = last_is_in answers are before last lt is

    last_ascends : IsAscending last.members
    last_ascends = are.ascending last last_in

    pub place_known : IsBelowAll → last.members ≡ members → IsInChain answers since members × ((a : Answered) × Contains answers a × (a.members ≡ members))
    place_known below e = (
      placed below (λ a h v k. subst (λ l. Contains l v) e ((up_to a h).0 v k)),
      (last, last_in, e),
    )

    pub not_same : length last.members ≡ length members → last.members ≢ members → ¬ IsInChain answers since members
    not_same e ne chain = ⊎_elim
        (λ w. ne (sym (one_ascending members last.members ascends last_ascends (λ v. (w v, as_long members last.members ascends w (omega arith) v)))))
        (λ w. ne (one_ascending last.members members last_ascends ascends (λ v. (w v, as_long last.members members last_ascends w (omega arith) v))))
        (chain.chain last last_in)

    pub not_after_last : length last.members ≢ length members → ¬ IsWithin last.members members → ¬ IsInChain answers since members
    not_after_last ne n chain = ⊎_elim
        (λ w.
        let le : length members ≤ length last.members = within_no_longer members last.members ascends w in
        let le' : length last.members ≤ length members = fewer last (subst (λ k. Contains (take k answers) last) next (last_is_left answers are before last lt is)) in
        ne (omega arith))
        n
        (chain.chain last last_in)

    pub place_behind : IsBelowAll → length last.members ≢ length members → IsWithin last.members members → IsInChain answers since members × IsPlace answers at members
    place_behind below ne w =
        let le' : length last.members ≤ length members = fewer last (subst (λ k. Contains (take k answers) last) next (last_is_left answers are before last lt is)) in
        let above : (a : Answered) → Contains (take at answers) a → IsWithin a.members members = λ a h v k. w v ((up_to a h).0 v k) in (
          placed below above,
          record {
            within = omega arith;
            fewer = λ a h. (let le : length a.members ≤ length last.members = (up_to a h).1 in (above a h, omega arith));
            more = λ a h. ((below a h).0, more a h);
          },
        )
