-- operations by their keys
use Rattle.std.proofs.Common.{◌≡◌, ◌≢◌, ℕ, ◌+◌, ◌-◌, ◌<◌, ◌≤◌, ◌⊎◌, inl, inr, ⊎_elim, Bool, true, false, not, ◌&&◌, cond, nat_eq, nat_lt, Option, Some, None, IfSome, List, [], ◌∷◌, ◌++◌, length, take, drop, get_or, refl, sym, ap, ◌∙◌, subst, arith}
use mathlib.Core.Path.{fun_ext}
use Rattle.std.specs.declared.cmp.Ordering.TheVariants.{Less, Equal, Greater}
use Rattle.std.specs.Ordering.{nat_cmp, is_lt}
use Rattle.std.specs.List.{filter, Contains}
use Rattle.std.specs.List.Sorted.{ties, IsStableByKey, IsNonDecreasingBy}
use Rattle.std.proofs.lemmas.Bool.{cases_Bool, cases_order, eq-eqb, ne_eqb, eqb-true, lt-ltb, ltb-true}
use Rattle.std.proofs.lemmas.List.{append-nil, get_or_default, get_or-take, get_or-drop, length-take-le, length-take, length-drop, take-append-drop}
use Rattle.std.proofs.lemmas.List.Elements.{filter-append, Contains-append_left, Contains-append_right}
use Rattle.events.specs.declared.event.Event.{Event}
use Rattle.kinds.specs.declared.model_kind.ModelKind.{ModelKind}
use Rattle.linspec.proofs.Filters.{filter-all, filter-none, from_filter, to_filter}
use Rattle.linspec.proofs.Lists.{Contains-head}
use Rattle.witness.specs.declared.statuses.OperationStatus.{OperationStatus}
use Rattle.witness.specs.declared.mismatch.Mismatch.{Mismatch}
use Rattle.witness.specs.declared.placing.Position.{Position}
use Rattle.witness.specs.KeyOrders.{ids_of, on_key, AreByKeys, AreThere, KeyFits, KeyMismatch, Judges, FitsBefore, FindsUpTo, FindsAll}

-- keys that tie are the same
lt_is : (a b : ℕ) → is_lt (nat_cmp a b) ≡ nat_lt a b
lt_is a b =
    ⊎_elim
    (λ e. ap (λ t. is_lt (cond t Less (cond (nat_eq a b) Equal Greater))) e ∙ sym e)
    (λ e. ap (λ t. is_lt (cond t Less (cond (nat_eq a b) Equal Greater))) e ∙ ⊎_elim (λ q. ap (λ t. is_lt (cond t Equal Greater)) q) (λ q. ap (λ t. is_lt (cond t Equal Greater)) q) (cases_Bool (nat_eq a b)) ∙ sym e)
    (cases_Bool (nat_lt a b))

not_lower : (a b : ℕ) → ¬ (a < b) → nat_lt a b ≡ false
not_lower a b h = ⊎_elim (λ e. absurd (h (ltb-true a b e))) (λ e. e) (cases_Bool (nat_lt a b))

ties_are : (k y : ℕ) → (not (nat_lt k y) && not (nat_lt y k)) ≡ nat_eq y k
ties_are k y =
    ⊎_elim
    (λ (e : k ≡ y).
    ap (λ t. not t && not (nat_lt y k)) (not_lower k y (λ l. absurd (omega (arith, e, l))))
    ∙ ap (λ t. not t) (not_lower y k (λ l. absurd (omega (arith, e, l))))
    ∙ sym (eq-eqb y k (sym e)))
    (λ h. ⊎_elim
    (λ (l : k < y). ap (λ t. not t && not (nat_lt y k)) (lt-ltb k y l) ∙ sym (ne_eqb y k (λ q. absurd (omega (arith, l, q)))))
    (λ (l : y < k).
    ap (λ t. not t && not (nat_lt y k)) (not_lower k y (λ g. absurd (omega (arith, l, g))))
    ∙ ap (λ t. not t) (lt-ltb y k l)
    ∙ sym (ne_eqb y k (λ q. absurd (omega (arith, l, q)))))
    h)
    (cases_order k y)

filter_same : (p q : Position → Bool) (xs : List Position) → ((x : Position) → p x ≡ q x) → filter p xs ≡ filter q xs
filter_same p q xs h = ap (λ f. filter f xs) (fun_ext h)

same_ties : (key : ℕ) (xs : List Position) → filter (ties (λ (x y : Position). is_lt (nat_cmp x.key y.key)) (record { key = key; place = 0; id = 0 })) xs ≡ on_key key xs
same_ties key xs = filter_same (ties (λ (x y : Position). is_lt (nat_cmp x.key y.key)) (record { key = key; place = 0; id = 0 })) (λ (s : Position). nat_eq s.key key) xs
    (λ s. ap (λ t. not t && not (is_lt (nat_cmp s.key key))) (lt_is key s.key) ∙ ap (λ t. not (nat_lt key s.key) && not t) (lt_is s.key key) ∙ ties_are key s.key)

pub by_keys : (positions sorted : List Position) → IsStableByKey (λ (s : Position). s.key) nat_cmp positions sorted → IsNonDecreasingBy (λ (s : Position). s.key) sorted → AreByKeys positions sorted
by_keys positions sorted stable rising = record {
  same = λ key. sym (same_ties key sorted) ∙ stable (record { key = key; place = 0; id = 0 }) ∙ same_ties key positions;
  rising = rising;
}

-- the ones of a key are together
module _ (sorted : List Position) (k start end : ℕ) (lt : start < end) (within : end ≤ length sorted)
    (same : (i : ℕ) (d : Position) → start ≤ i → i < end → (get_or sorted i d).key ≡ k)
    (before : (i : ℕ) (d : Position) → i < start → (get_or sorted i d).key ≢ k)
    (after : (i : ℕ) (d : Position) → end ≤ i → i < length sorted → (get_or sorted i d).key ≢ k) where
  m : ℕ
  m = end - start

  run : List Position
  run = take (end - start) (drop start sorted)

  in_front : (x : Position) → Contains (take start sorted) x → nat_eq x.key k ≡ false
  in_front x h =
      let long = length-take-le start sorted (omega arith) in
      let l : h.0 < start = let g = h.1 in omega (arith, long, g) in
      let is : get_or sorted h.0 x ≡ x = sym (get_or-take start sorted h.0 x l) ∙ h.2 in
      ne_eqb x.key k (subst (λ (s : Position). s.key ≢ k) is (before h.0 x l))

  in_run : (x : Position) → Contains (take (end - start) (drop start sorted)) x → nat_eq x.key k ≡ true
  in_run x h =
      let long = length-take (end - start) (drop start sorted) in
      let rest = length-drop start sorted in
      let l : h.0 < end - start = let g = h.1 in omega (arith, long, rest, g) in
      let is : get_or sorted (start + h.0) x ≡ x = sym (get_or-drop start sorted h.0 x) ∙ sym (get_or-take (end - start) (drop start sorted) h.0 x l) ∙ h.2 in
      eq-eqb x.key k (subst (λ (s : Position). s.key ≡ k) is (same (start + h.0) x (omega arith) (omega (arith, l))))

  in_rest : (x : Position) → Contains (drop (end - start) (drop start sorted)) x → nat_eq x.key k ≡ false
  in_rest x h =
      let rest = length-drop start sorted in
      let long = length-drop (end - start) (drop start sorted) in
      let g : h.0 < length (drop (end - start) (drop start sorted)) = h.1 in
      let at : start + ((end - start) + h.0) ≡ end + h.0 = omega arith in
      let is : get_or sorted (end + h.0) x ≡ x = ap (λ n. get_or sorted n x) (sym at) ∙ sym (get_or-drop start sorted ((end - start) + h.0) x) ∙ sym (get_or-drop (end - start) (drop start sorted) h.0 x) ∙ h.2 in
      ne_eqb x.key k (subst (λ (s : Position). s.key ≢ k) is (after (end + h.0) x (omega arith) (omega (arith, rest, long, g))))

  pub run_is_key : take (end - start) (drop start sorted) ≡ on_key k sorted
  run_is_key =
      let p : Position → Bool = λ (s : Position). nat_eq s.key k in
      let whole : take start sorted ++ (take (end - start) (drop start sorted) ++ drop (end - start) (drop start sorted)) ≡ sorted =
      ap (λ l. take start sorted ++ l) (take-append-drop (end - start) (drop start sorted)) ∙ take-append-drop start sorted in
      let parts : on_key k sorted ≡ filter p (take start sorted) ++ (filter p (take (end - start) (drop start sorted)) ++ filter p (drop (end - start) (drop start sorted))) =
      ap (filter p) (sym whole) ∙ filter-append p (take start sorted) (take (end - start) (drop start sorted) ++ drop (end - start) (drop start sorted))
      ∙ ap (λ l. filter p (take start sorted) ++ l) (filter-append p (take (end - start) (drop start sorted)) (drop (end - start) (drop start sorted))) in
      sym (parts
      ∙ ap (λ l. l ++ (filter p (take (end - start) (drop start sorted)) ++ filter p (drop (end - start) (drop start sorted)))) (filter-none p (take start sorted) in_front)
      ∙ ap (λ l. l ++ filter p (drop (end - start) (drop start sorted))) (filter-all p (take (end - start) (drop start sorted)) in_run)
      ∙ ap (λ l. take (end - start) (drop start sorted) ++ l) (filter-none p (drop (end - start) (drop start sorted)) in_rest)
      ∙ append-nil (take (end - start) (drop start sorted)))

-- a run that is there stays there
pub run_there : (events : List Event) (positions sorted : List Position) (n m : ℕ) → AreByKeys positions sorted → AreThere events positions → AreThere events (take m (drop n sorted))
run_there events positions sorted n m by there s h =
    let later : Contains (drop n sorted) s = subst (λ l. Contains l s) (take-append-drop m (drop n sorted)) (Contains-append_left (take m (drop n sorted)) (drop m (drop n sorted)) s h) in
    let in_sorted : Contains sorted s = subst (λ l. Contains l s) (take-append-drop n sorted) (Contains-append_right (take n sorted) (drop n sorted) s later) in
    there s (from_filter (λ (x : Position). nat_eq x.key s.key) positions s (subst (λ l. Contains l s) (by.same s.key) (to_filter (λ (x : Position). nat_eq x.key s.key) sorted s in_sorted (eq-eqb s.key s.key refl)))).0

-- a fact about the keys before a place, and about the key behind it, holds for the keys before its end
below : (P : ℕ → Type 0) (sorted : List Position) (k start end : ℕ) → ((i : ℕ) (d : Position) → start ≤ i → i < end → (get_or sorted i d).key ≡ k) → ((i : ℕ) (d : Position) → i < start → P (get_or sorted i d).key)
    → P k → (i : ℕ) (d : Position) → i < end → P (get_or sorted i d).key
below P sorted k start end same before now i d l =
    ⊎_elim
    (λ (e : i ≡ start). subst P (sym (same i d (omega (arith, e)) l)) now)
    (λ h. ⊎_elim
    (λ (g : i < start). before i d g)
    (λ (g : start < i). subst P (sym (same i d (omega (arith, g)) l)) now)
    h)
    (cases_order i start)

-- and of all keys, where it holds of a key without operations
of_each : (P : List Position → Type 0) (sorted : List Position) (n : ℕ) → length sorted ≤ n → P [] → ((i : ℕ) (d : Position) → i < n → P (on_key (get_or sorted i d).key sorted)) → (key : ℕ) → P (on_key key sorted)
of_each P sorted n all empty each key = by_case (on_key key sorted) refl
  where
    by_case : (l : List Position) → on_key key sorted ≡ l → P l
    by_case [] e = empty
    by_case (s ∷ l) e =
        let there = from_filter (λ (x : Position). nat_eq x.key key) sorted s (subst (λ xs. Contains xs s) (sym e) (Contains-head s l)) in
        let i : Contains sorted s = there.0 in
        let within : i.0 < n = let g = i.1 in omega (arith, all, g) in
        let is : (get_or sorted i.0 s).key ≡ key = ap (λ (x : Position). x.key) i.2 ∙ eqb-true s.key key there.1 in
        subst P e (subst (λ j. P (on_key j sorted)) is (each i.0 s within))

-- a place that is at most a second one, which is at most a third one, is at most the third one
no_later : (o : Option Mismatch) (a b : ℕ) → a ≤ b → IfSome o (λ (other : Mismatch). b ≤ other.place) → IfSome o (λ (other : Mismatch). a ≤ other.place)
no_later None a b le h = tt
no_later (Some other) a b le h = omega (arith, le, h)

module _ (kind : ModelKind) (events : List Event) (statuses : List OperationStatus) where
  fits_before : (positions : List Position) (a b : ℕ) → a ≤ b → FitsBefore kind events statuses positions b → FitsBefore kind events statuses positions a
  fits_before positions a b le f = record { first = f.first; judged = f.judged; later = no_later f.first a b le f.later }

  nothing_fits : KeyFits kind events statuses []
  nothing_fits = record { in_time = tt; can_run = record { calls = []; are = tt; can_run = tt } }

  module _ (found : Option Mismatch) (sorted : List Position) where
    -- the found place is at most that of a key that is at most it
    found_later : (start : ℕ) (first : Option Mismatch) (u : Mismatch) → FindsUpTo kind events statuses found sorted start first → IfSome first (λ (other : Mismatch). u.place ≤ other.place) → IfSome found (λ (other : Mismatch). u.place ≤ other.place)
    found_later start None u so_far le = subst (λ o. IfSome o (λ (other : Mismatch). u.place ≤ other.place)) (sym so_far.0) tt
    found_later start (Some v) u so_far le = no_later found u.place v.place le so_far.0.later

    before_later : (start : ℕ) (first : Option Mismatch) (u : Mismatch) → FindsUpTo kind events statuses found sorted start first → IfSome first (λ (other : Mismatch). u.place ≤ other.place)
        → (i : ℕ) (d : Position) → i < start → FitsBefore kind events statuses (on_key (get_or sorted i d).key sorted) u.place
    before_later start None u so_far le i d l = record { first = None; judged = so_far.1 i d l; later = tt }
    before_later start (Some v) u so_far le i d l = fits_before (on_key (get_or sorted i d).key sorted) u.place v.place le (so_far.1 i d l)

    pub found_more : (k start end : ℕ) (run : List Position) (first mismatch next : Option Mismatch) → ((i : ℕ) (d : Position) → start ≤ i → i < end → (get_or sorted i d).key ≡ k) → run ≡ on_key k sorted
        → FindsUpTo kind events statuses found sorted start first → Judges kind events statuses run mismatch → (next ≡ first) ⊎ (next ≡ mismatch) → (next ≡ None → (first ≡ None) × (mismatch ≡ None))
        → IfSome next (λ (u : Mismatch). IfSome first (λ (other : Mismatch). u.place ≤ other.place) × IfSome mismatch (λ (other : Mismatch). u.place ≤ other.place)) → FindsUpTo kind events statuses found sorted end next
    found_more k start end run first mismatch None same is so_far now one none least =
        let n = none refl in
        let f = subst (FindsUpTo kind events statuses found sorted start) n.0 so_far in
        let j = subst (Judges kind events statuses run) n.1 now in
        (f.0, below (λ key. KeyFits kind events statuses (ids_of (on_key key sorted))) sorted k start end same f.1 (subst (λ l. KeyFits kind events statuses (ids_of l)) is j))
    found_more k start end run first mismatch (Some u) same is so_far now one none least = (
      record {
        one = ⊎_elim
            (λ e. (let f = subst (FindsUpTo kind events statuses found sorted start) (sym e) so_far in f.0.one))
            (λ e. inr (k, subst (λ l. KeyMismatch kind events statuses l u) is (subst (Judges kind events statuses run) (sym e) now)))
            one;
        later = found_later start first u so_far least.0;
      },
      below (λ key. FitsBefore kind events statuses (on_key key sorted) u.place) sorted k start end same (before_later start first u so_far least.0)
          (record { first = mismatch; judged = subst (λ l. Judges kind events statuses l mismatch) is now; later = least.1 }),
    )

    pub found_none : FindsUpTo kind events statuses found sorted 0 found
    found_none = at_first found refl
      where
        at_first : (o : Option Mismatch) → found ≡ o → FindsUpTo kind events statuses found sorted 0 o
        at_first None e = (e, λ i d l. absurd (omega (arith, l)))
        at_first (Some u) e = (
          record { one = inl e; later = (let P : Option Mismatch → Type 0 = λ o. IfSome o (λ (other : Mismatch). u.place ≤ other.place) in subst P (sym e) (omega arith)) },
          λ i d l. absurd (omega (arith, l)),
        )

    pub found_all : (n : ℕ) (positions : List Position) (first : Option Mismatch) → length sorted ≤ n → AreByKeys positions sorted → FindsUpTo kind events statuses found sorted n first → FindsAll kind events statuses found positions first
    found_all n positions None all by f = (f.0, λ key. subst (λ l. KeyFits kind events statuses (ids_of l)) (by.same key) (of_each (λ l. KeyFits kind events statuses (ids_of l)) sorted n all nothing_fits f.1 key))
    found_all n positions (Some u) all by f = (
      record {
        one = ⊎_elim inl (λ k. inr (k.0, subst (λ l. KeyMismatch kind events statuses l u) (by.same k.0) k.1)) f.0.one;
        later = f.0.later;
      },
      λ key. subst (λ l. FitsBefore kind events statuses l u.place) (by.same key)
          (of_each (λ l. FitsBefore kind events statuses l u.place) sorted n all (record { first = None; judged = nothing_fits; later = tt }) f.1 key),
    )

-- the invariant of the keys that are done
pub record AreApart (sorted : List Position) (start : ℕ) : Type 0 where
  pub within : start ≤ length sorted
  pub apart : (i j : ℕ) (d : Position) → i < start → start ≤ j → j < length sorted → (get_or sorted i d).key < (get_or sorted j d).key

pub apart_none : (sorted : List Position) → AreApart sorted 0
apart_none sorted = record { within = omega arith; apart = λ i j d l le g. absurd (omega (arith, l)) }

module _ (positions sorted : List Position) (by : AreByKeys positions sorted) (start end : ℕ) (was : AreApart sorted start) (lt : start < end) (within : end ≤ length sorted)
    (same : (i : ℕ) (d : Position) → start ≤ i → i < end → (get_or sorted i d).key ≡ (get_or sorted start d).key)
    (other : (d : Position) → end < length sorted → (get_or sorted end d).key ≢ (get_or sorted start d).key) where
  higher : (j : ℕ) (d : Position) → end ≤ j → j < length sorted → (get_or sorted start d).key < (get_or sorted j d).key
  higher j d le l =
      let up = by.rising start end d (omega arith) (omega arith) in
      let more = by.rising end j d le l in
      let ne = other d (omega arith) in
      ⊎_elim
      (λ e. absurd (ne (sym e)))
      (λ h. ⊎_elim (λ g. omega (arith, g, more)) (λ g. absurd (omega (arith, g, up))) h)
      (cases_order (get_or sorted start d).key (get_or sorted end d).key)

  pub apart_more : AreApart sorted end
  apart_more = record {
    within = within;
    apart = λ i j d l le g. ⊎_elim
        (λ (e : i ≡ start). let h = higher j d le g in let q = ap (λ n. (get_or sorted n d).key) e in omega (arith, h, q))
        (λ h. ⊎_elim
        (λ (b : i < start). was.apart i j d b (omega arith) g)
        (λ (b : start < i). let k = higher j d le g in let q = same i d (omega (arith, b)) l in omega (arith, k, q))
        h)
        (cases_order i start);
  }

  pub run_is : (d : Position) → take (end - start) (drop start sorted) ≡ on_key (get_or sorted start d).key sorted
  run_is d = run_is_key sorted (get_or sorted start d).key start end lt within
      (λ i e le l. same i e le l ∙ ap (λ (s : Position). s.key) (get_or_default sorted start e d (omega arith)))
      (λ i e l q. let a = was.apart i start e l (omega arith) (omega arith) in let b = ap (λ (s : Position). s.key) (get_or_default sorted start e d (omega arith)) in absurd (omega (arith, a, q, b)))
      (λ i e le l q. let a = higher i e le l in let b = ap (λ (s : Position). s.key) (get_or_default sorted start e d (omega arith)) in absurd (omega (arith, a, q, b)))

  pub same_as : (d : Position) (i : ℕ) (e : Position) → start ≤ i → i < end → (get_or sorted i e).key ≡ (get_or sorted start d).key
  same_as d i e le l = same i e le l ∙ ap (λ (s : Position). s.key) (get_or_default sorted start e d (omega arith))

-- the end of a key
pub same_more : (positions : List Position) (start at : ℕ) (c e : Position) → at < length positions → start < length positions → (get_or positions at c).key ≡ (get_or positions start e).key
    → ((i : ℕ) (d : Position) → start ≤ i → i < at → (get_or positions i d).key ≡ (get_or positions start d).key) → (i : ℕ) (d : Position) → start ≤ i → i < at + 1 → (get_or positions i d).key ≡ (get_or positions start d).key
same_more positions start at c e fits begins is before i d le l =
    ⊎_elim
    (λ (q : i ≡ at).
    ap (λ n. (get_or positions n d).key) q ∙ ap (λ (s : Position). s.key) (get_or_default positions at d c fits) ∙ is ∙ ap (λ (s : Position). s.key) (get_or_default positions start e d begins))
    (λ h. ⊎_elim (λ g. before i d le g) (λ g. absurd (omega (arith, g, l))) h)
    (cases_order i at)

pub same_first : (positions : List Position) (start : ℕ) (i : ℕ) (d : Position) → start ≤ i → i < start + 1 → (get_or positions i d).key ≡ (get_or positions start d).key
same_first positions start i d le l = let q : i ≡ start = omega arith in ap (λ n. (get_or positions n d).key) q
