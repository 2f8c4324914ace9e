-- what is found as far as the open reads may tell
use Rattle.std.proofs.Common.{◌≡◌, ◌≢◌, ◌↔◌, ℕ, ◌+◌, ◌<◌, ◌≤◌, ℤ, ◌⊎◌, inl, inr, ⊎_elim, Option, Some, List, [], ◌∷◌, ◌++◌, length, get_or, set, take, drop, suc, refl, sym, ap, ◌∙◌, subst, arith, append_assoc}
use Rattle.std.specs.List.{AllZip, Contains, filter}
use Rattle.std.proofs.lemmas.Bool.{cases_Bool, true≢false}
use Rattle.std.proofs.lemmas.List.{drop_more, take_more, set_at, get_or_at, length-take-le, take_at}
use Rattle.std.proofs.lemmas.List.Elements.{AllZip-push, Contains-append_left, Contains-push, Contains-push_cases}
use Rattle.linspec.proofs.Lists.{Contains-nil, Contains-head, Contains-tail, Contains-cons_cases}
use Rattle.wide_register.specs.declared.calls.Call.{Call}
use Rattle.wide_register.specs.declared.calls.What.TheVariants.{Reads}
use Rattle.wide_register.specs.declared.row.Passed.{Passed}
use Rattle.wide_register.specs.declared.row.Row.{Row}
use Rattle.wide_register.specs.Facts.{FindTheSame, HasDoor, HasLeastGaps, IsCut, IsLeastGap, StoodAfter, is_read, end_of, is_state, moments_of}
use Rattle.wide_register.proofs.Ends.{door_from, door_to, finds_from, finds_to, needed_from, needed_to, read_from, same_end, state_from, state_to}
use Rattle.wide_register.proofs.Lists.{was_in, passes, stays_in}
use Rattle.wide_register.proofs.Others.{map_from, map_to}

-- the moments at which the open reads were invoked
pub of_moments : (calls : List Call) (t : ℕ) → Contains (moments_of calls) t → (c : Call) × Contains calls c × (c.what ≡ Reads) × (c.since ≡ t)
of_moments calls t h =
    let k = map_from (λ (c : Call). c.since) (filter (λ (c : Call). is_read c.what) calls) t h in
    (k.0, was_in (λ (c : Call). is_read c.what) calls k.0 k.1, read_from k.0.what (passes (λ (c : Call). is_read c.what) calls k.0 k.1), k.2)

pub to_moments : (calls : List Call) (c : Call) → Contains calls c → c.what ≡ Reads → Contains (moments_of calls) c.since
to_moments calls c h q = map_to (λ (x : Call). x.since) (filter (λ (x : Call). is_read x.what) calls) c (stays_in (λ (x : Call). is_read x.what) calls c h (ap is_read q))

-- a vector after a loan of its slice
pub settled : {X : Type 0} (xs ys : List X) (n : ℕ) → length xs ≡ n → take n (xs ++ drop (length xs) ys) ≡ xs
settled xs ys n e = take_at xs (drop (length xs) ys) n e

-- elements of a list that were changed in turn
module _ {X : Type 0} (R : X → X → Type 0) where
  zip_length : (xs ys : List X) → AllZip R xs ys → length ys ≡ length xs
  zip_length [] [] z = refl
  zip_length [] (y ∷ ys) z = absurd z
  zip_length (x ∷ xs) [] z = absurd z
  zip_length (x ∷ xs) (y ∷ ys) z = ap suc (zip_length xs ys z.1)

  pub zip_from : (xs ys : List X) → AllZip R xs ys → (y : X) → Contains ys y → (x : X) × Contains xs x × R x y
  zip_from [] [] z y h = absurd (Contains-nil y h)
  zip_from [] (b ∷ ys) z y h = absurd z
  zip_from (a ∷ xs) [] z y h = absurd z
  zip_from (a ∷ xs) (b ∷ ys) z y h = ⊎_elim
      (λ e. (a, Contains-head a xs, subst (R a) e z.0))
      (λ k. (let r = zip_from xs ys z.1 y k in (r.0, Contains-tail a xs r.0 r.1, r.2)))
      (Contains-cons_cases b ys y h)

  pub zip_to : (xs ys : List X) → AllZip R xs ys → (x : X) → Contains xs x → (y : X) × Contains ys y × R x y
  zip_to [] [] z x h = absurd (Contains-nil x h)
  zip_to [] (b ∷ ys) z x h = absurd z
  zip_to (a ∷ xs) [] z x h = absurd z
  zip_to (a ∷ xs) (b ∷ ys) z x h = ⊎_elim
      (λ e. (b, Contains-head b ys, subst (λ w. R w b) e z.0))
      (λ k. (let r = zip_to xs ys z.1 x k in (r.0, Contains-tail b ys r.0 r.1, r.2)))
      (Contains-cons_cases a xs x h)

  module _ (xs : List X) where
    -- those before the index are changed
    abbrev pub AreChangedTo : ℕ → List X → Type 0
    AreChangedTo i now = (ys : List X) × AllZip R (take i xs) ys × (now ≡ ys ++ drop i xs)

    module _ (i : ℕ) (now : List X) (so_far : AreChangedTo i now) where
      module _ (d : X) (less : i < length xs) where
        abbrev ys : List X
        ys = so_far.0

        long : length ys ≡ i
        long = zip_length (take i xs) ys so_far.1 ∙ length-take-le i xs (omega arith)

        split : now ≡ ys ++ get_or xs i d ∷ drop (i + 1) xs
        split = so_far.2 ∙ ap (λ l. ys ++ l) (drop_more xs i d less)

        is : get_or now i d ≡ get_or xs i d
        is = ap (λ l. get_or l i d) split ∙ get_or_at ys (get_or xs i d) (drop (i + 1) xs) d i long

        pub one_more : (y : X) → R (get_or now i d) y → AreChangedTo (i + 1) (set now i y)
        one_more y r = (
          ys ++ y ∷ [],
          subst (λ l. AllZip R l (ys ++ y ∷ [])) (sym (take_more xs i d less)) (AllZip-push R (take i xs) ys (get_or xs i d) y so_far.1 (subst (λ x. R x y) is r)),
          ap (λ l. set l i y) split ∙ set_at ys (get_or xs i d) (drop (i + 1) xs) y i long ∙ sym (append_assoc ys (y ∷ []) (drop (i + 1) xs)),
        )

-- a loop over moments
module _ (moments : List ℕ) (gap : ℕ) where
  module _ (i d least next : ℕ) (less : i < length moments) (s : IsLeastGap (take i moments) gap least) where
    abbrev m : ℕ
    m = get_or moments i d

    longer : take (i + 1) moments ≡ take i moments ++ m ∷ []
    longer = take_more moments i d less

    cases : (t : ℕ) → Contains (take (i + 1) moments) t → Contains (take i moments) t ⊎ (m ≡ t)
    cases t h = Contains-push_cases (take i moments) m t (subst (λ l. Contains l t) longer h)

    later_with : m < gap → least ≤ m → next ≡ m + 1 → IsLeastGap (take (i + 1) moments) gap next
    later_with a b e = record {
      most = omega arith;
      later = λ t h l. ⊎_elim
          (λ j. (let x = s.later t j l in omega arith))
          (λ q. omega arith)
          (cases t h);
      last = inr (m, subst (λ l. Contains l m) (sym longer) (Contains-push (take i moments) m), e);
    }

    as_before : (m < gap → m < least) → next ≡ least → IsLeastGap (take (i + 1) moments) gap next
    as_before a e = record {
      most = (let x = s.most in omega arith);
      later = λ t h l. ⊎_elim
          (λ j. (let x = s.later t j l in omega arith))
          (λ q. (let y : m < gap = omega arith in let x = a y in omega arith))
          (cases t h);
      last = ⊎_elim
          (λ z. inl (e ∙ z))
          (λ j. inr (j.0, subst (λ l. Contains l j.0) (sym longer) (Contains-append_left (take i moments) (m ∷ []) j.0 j.1), e ∙ j.2))
          s.last;
    }

    pub least_of_more : ((m < gap) × (least ≤ m) × (next ≡ m + 1)) ⊎ ((m < gap → m < least) × (next ≡ least)) → IsLeastGap (take (i + 1) moments) gap next
    least_of_more c = ⊎_elim (λ k. later_with k.0 k.1 k.2) (λ k. as_before k.0 k.1) c

-- the parts of trimming
module _ (moments : List ℕ) (state : Option ℤ) (passed cut left : List Passed) (zip : AllZip (IsCut moments) passed cut)
    (out : (p : Passed) → Contains left p ↔ (Contains cut p × (0 < p.gap) × (state ≢ Some p.value))) where
  stood : (v : ℤ) (t : ℕ) → StoodAfter left v t → StoodAfter passed v t
  stood v t h =
      let q = zip_from (IsCut moments) passed cut zip h.0 ((out h.0).0 h.1).0 in
      (q.0, q.1, sym q.2.0 ∙ h.2, (let a = q.2.1.most in let b = h.3 in omega arith))

  stands : (v : ℤ) (t : ℕ) → Contains moments t → state ≢ Some v → StoodAfter passed v t → StoodAfter left v t
  stands v t m n h =
      let q = zip_to (IsCut moments) passed cut zip h.0 h.1 in
      let late : t < q.0.gap = q.2.1.later t m h.3 in
      let same : q.0.value ≡ v = q.2.0 ∙ h.2 in
      (q.0, (out q.0).1 (q.1, omega arith, (λ e. n (e ∙ ap Some same))), same, late)

  pub least : (p : Passed) → Contains left p → (state ≢ Some p.value) × ((t : ℕ) × Contains moments t × (p.gap ≡ t + 1))
  least p h =
      let k = (out p).0 h in
      let q = zip_from (IsCut moments) passed cut zip p k.0 in
      (k.2, ⊎_elim (λ e. absurd (let a = k.1 in omega arith)) (λ l. l) q.2.1.last)

  known_or : (v : ℤ) → (state ≡ Some v) ⊎ (state ≢ Some v)
  known_or v = ⊎_elim (λ e. inl (state_from state v e)) (λ n. inr (λ e. true≢false (sym (state_to state v e) ∙ n))) (cases_Bool (is_state state v))

  pub finds_still : (v : ℤ) (t : ℕ) → Contains moments t → (StoodAfter left v t ⊎ (state ≡ Some v)) ↔ (StoodAfter passed v t ⊎ (state ≡ Some v))
  finds_still v t m = (
    (λ h. ⊎_elim (λ k. inl (stood v t k)) inr h),
    (λ h. ⊎_elim (λ k. ⊎_elim inr (λ n. inl (stands v t m n k)) (known_or v)) inr h),
  )

-- such rows stand for the same end
pub end_told : (calls : List Call) (row new : Row) → FindTheSame (moments_of calls) row new → end_of calls new ≡ end_of calls row
end_told calls row new s = same_end (end_of calls new) (end_of calls row) s.state
    (λ i. ((λ h. needed_to calls row i (subst (λ l. Contains l i) s.needed (needed_from calls new i h))), (λ h. needed_to calls new i (subst (λ l. Contains l i) (sym s.needed) (needed_from calls row i h)))))
    (λ i. (
      (λ h. (let k = door_from calls new i h in door_to calls row i (k.0, k.1, k.2, has_door k.0 k.3))),
      (λ h. (let k = door_from calls row i h in door_to calls new i (k.0, k.1, k.2, had_door k.0 k.3))),
    ))
    (λ r v. (
      (λ h. (let k = finds_from calls new r v h in finds_to calls row r v (k.0, k.1, k.2, k.3, (s.finds v k.0.since (to_moments calls k.0 k.1 k.3)).0 k.4))),
      (λ h. (let k = finds_from calls row r v h in finds_to calls new r v (k.0, k.1, k.2, k.3, (s.finds v k.0.since (to_moments calls k.0 k.1 k.3)).1 k.4))),
    ))
  where
    has_door : (c : Call) → HasDoor new c → HasDoor row c
    has_door c d = (subst (λ n. c.since < n) s.door d.0, (λ n. d.1 (subst (λ l. Contains l c.id) (sym s.needed) n)))

    had_door : (c : Call) → HasDoor row c → HasDoor new c
    had_door c d = (subst (λ n. c.since < n) (sym s.door) d.0, (λ n. d.1 (subst (λ l. Contains l c.id) s.needed n)))

pub trimmed : (moments : List ℕ) (row new : Row) (cut : List Passed) → new.state ≡ row.state → new.needed.items ≡ row.needed.items → new.door ≡ row.door → AllZip (IsCut moments) row.passed.items cut
    → ((p : Passed) → Contains new.passed.items p ↔ (Contains cut p × (0 < p.gap) × (row.state ≢ Some p.value))) → FindTheSame moments row new × HasLeastGaps moments new
trimmed moments row new cut s n d zip out = (
  record {
    state = s;
    needed = n;
    door = d;
    finds = λ v t h. (
      (λ k. (finds_still moments row.state row.passed.items cut new.passed.items zip out v t h).0 (⊎_elim inl (λ e. inr (sym s ∙ e)) k)),
      (λ k. ⊎_elim inl (λ e. inr (s ∙ e)) ((finds_still moments row.state row.passed.items cut new.passed.items zip out v t h).1 k)),
    );
  },
  λ p h. (let l = least moments row.state row.passed.items cut new.passed.items zip out p h in ((λ e. l.0 (sym s ∙ e)), l.1)),
)
