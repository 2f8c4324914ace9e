-- what the end of a row says
use Rattle.std.proofs.Common.{◌≡◌, ◌↔◌, ℕ, ◌<◌, ℤ, inl, inr, ⊎_elim, Bool, true, false, IsTrue, Some, not, nat_eq, nat_lt, ◌&&◌, ◌||◌, List, [], ◌∷◌, refl, sym, ap, ◌∙◌, subst, arith}
use Rattle.std.specs.List.{Contains, list_any}
use Rattle.std.specs.Ordering.{int_eq}
use Rattle.std.proofs.lemmas.Bool.{cases_Bool, true≢false, and_parts, and_from}
use Rattle.std.proofs.lemmas.Bool.Decides.{Decides-int_eq, nat_tests}
use Rattle.events.specs.Events.{Mark}
use Rattle.linspec.proofs.Lists.{Contains-nil, Contains-head, Contains-tail, Contains-cons_cases}
use Rattle.linspec.specs.LeanEnds.{LeanEnd, IsPutBehind, IsPutBefore, IsWithout, IsWithRead}
use Rattle.lean_ends.proofs.Left.{at_most_each_other}
use Rattle.linspec.specs.CasEnds.{IsSetBehind}
use Rattle.wide_cas_register.specs.declared.calls.Call.{Call}
use Rattle.wide_cas_register.specs.declared.row.Found.{Found}
use Rattle.wide_cas_register.specs.declared.row.Row.{Row}
use Rattle.wide_cas_register.specs.Facts.{HasDoor, end_of, is_set}

module _ {X : Type 0} (p : X → Bool) where
  pub any_from : (xs : List X) → IsTrue (list_any p xs) → (x : X) × Contains xs x × IsTrue (p x)
  any_from [] h = absurd (true≢false (sym h))
  any_from (x ∷ xs) h = ⊎_elim
      (λ e. (x, Contains-head x xs, e))
      (λ e.
      let rest : IsTrue (list_any p xs) = subst (λ b. IsTrue (b || list_any p xs)) e h in
      let k = any_from xs rest in (k.0, Contains-tail x xs k.0 k.1, k.2))
      (cases_Bool (p x))

  pub any_to : (xs : List X) (x : X) → Contains xs x → IsTrue (p x) → IsTrue (list_any p xs)
  any_to [] x k t = absurd (Contains-nil x k)
  any_to (y ∷ xs) x k t = ⊎_elim
      (λ e. (let t' : IsTrue (p y) = subst (λ z. IsTrue (p z)) (sym e) t in subst (λ b. IsTrue (b || list_any p xs)) (sym t') refl))
      (λ j.
      let rest : IsTrue (list_any p xs) = any_to xs x j t in
      ⊎_elim
      (λ e. subst (λ b. IsTrue (b || list_any p xs)) (sym e) refl)
      (λ e. subst (λ b. IsTrue (b || list_any p xs)) (sym e) rest)
      (cases_Bool (p y)))
      (Contains-cons_cases y xs x k)

eq_from : (a b : ℕ) → IsTrue (nat_eq a b) → a ≡ b
eq_from a b h = grind (arith, nat_tests)

eq_to : (a b : ℕ) → a ≡ b → IsTrue (nat_eq a b)
eq_to a b h = grind (arith, nat_tests)

lt_from : (a b : ℕ) → IsTrue (nat_lt a b) → a < b
lt_from a b h = grind (arith, nat_tests)

lt_to : (a b : ℕ) → a < b → IsTrue (nat_lt a b)
lt_to a b h = grind (arith, nat_tests)

not_from : (b : Bool) → IsTrue (not b) → ¬ IsTrue b
not_from true h t = absurd (true≢false (sym h))
not_from false h t = absurd (true≢false (sym t))

not_to : (b : Bool) → ¬ IsTrue b → IsTrue (not b)
not_to true h = absurd (h refl)
not_to false h = refl

is_not : (b : Bool) → IsTrue (not b) → b ≡ false
is_not true h = absurd (true≢false (sym h))
is_not false h = refl

module _ (calls : List Call) (row : Row) where
  abbrev e : LeanEnd
  e = end_of calls row

  pub needed_from : (i : ℕ) → IsTrue (e.needed i) → Contains row.needed.items i
  needed_from i h = let k = any_from (nat_eq i) row.needed.items h in subst (Contains row.needed.items) (sym (eq_from i k.0 k.2)) k.1

  pub needed_to : (i : ℕ) → Contains row.needed.items i → IsTrue (e.needed i)
  needed_to i h = any_to (nat_eq i) row.needed.items i h (eq_to i i refl)

  abbrev pub Door : ℕ → Type 0
  Door i = (c : Call) × Contains calls c × (c.id ≡ i) × HasDoor row c

  pub door_from : (i : ℕ) → IsTrue (e.door i) → Door i
  door_from i h =
      let a = and_parts _ _ h in
      let k = any_from (λ (c : Call). nat_eq c.id i && (nat_lt c.since row.door && not (is_set c.what))) calls a.0 in
      let b = and_parts _ _ k.2 in
      let d = and_parts _ _ b.1 in
      let same : k.0.id ≡ i = eq_from k.0.id i b.0 in (
        k.0,
        k.1,
        same,
        (lt_from k.0.since row.door d.0, (λ n. not_from _ a.1 (needed_to i (subst (Contains row.needed.items) same n))), is_not (is_set k.0.what) d.1),
      )

  pub door_to : (i : ℕ) → Door i → IsTrue (e.door i)
  door_to i h = and_from _ _
      (any_to (λ (c : Call). nat_eq c.id i && (nat_lt c.since row.door && not (is_set c.what))) calls h.0 h.1
      (and_from _ _ (eq_to h.0.id i h.2) (and_from _ _ (lt_to h.0.since row.door h.3.0) (ap not h.3.2))))
      (not_to _ (λ n. h.3.1 (subst (Contains row.needed.items) (sym h.2) (needed_from i n))))

  abbrev pub Finds : ℕ → ℤ → Type 0
  Finds r v = Contains row.finds.items (record { read = r; value = v })

  pub finds_from : (r : ℕ) (v : ℤ) → IsTrue (e.finds r v) → Finds r v
  finds_from r v h =
      let k = any_from (λ (f : Found). nat_eq f.read r && int_eq f.value v) row.finds.items h in
      let b = and_parts _ _ k.2 in
      let x : k.0.read ≡ r = eq_from k.0.read r b.0 in
      let y : k.0.value ≡ v = (Decides-int_eq k.0.value v).0 b.1 in
      let same : k.0 ≡ record { read = r; value = v } = ap (λ i. record { read = i; value = k.0.value }) x ∙ ap (λ w. record { read = r; value = w }) y in
      subst (Contains row.finds.items) same k.1

  pub finds_to : (r : ℕ) (v : ℤ) → Finds r v → IsTrue (e.finds r v)
  finds_to r v h = any_to (λ (f : Found). nat_eq f.read r && int_eq f.value v) row.finds.items (record { read = r; value = v }) h
      (and_from _ _ (eq_to r r refl) ((Decides-int_eq v v).1 refl))

-- ends that say the same are the same
abbrev Alike : (ℕ → Bool) → (ℕ → Bool) → Type 0
Alike f g = (i : ℕ) → IsTrue (f i) ↔ IsTrue (g i)

pub same_end : (e f : LeanEnd) → e.state ≡ f.state → Alike e.needed f.needed → Alike e.door f.door → ((r : ℕ) (v : ℤ) → IsTrue (e.finds r v) ↔ IsTrue (f.finds r v)) → e ≡ f
same_end e f s n d w = at_most_each_other [] e f
    (record { state = s; needed = λ i h. (n i).1 h; open_ones = λ i h o. (n i).0 h; door = λ i h. (d i).0 h; finds = λ r v h. (w r v).0 h })
    (record { state = sym s; needed = λ i h. (n i).0 h; open_ones = λ i h o. (n i).1 h; door = λ i h. (d i).1 h; finds = λ r v h. (w r v).1 h })

pub without_once : (e f g : LeanEnd) (id : ℕ) → IsWithout e id f → IsWithout e id g → f ≡ g
without_once e f g id a b = same_end f g (a.state ∙ sym b.state)
    (λ i. ((λ h. (b.needed i).1 ((a.needed i).0 h)), (λ h. (a.needed i).1 ((b.needed i).0 h))))
    (λ i. ((λ h. (b.door i).1 ((a.door i).0 h)), (λ h. (a.door i).1 ((b.door i).0 h))))
    (λ r v. ((λ h. (b.finds r v).1 ((a.finds r v).0 h)), (λ h. (a.finds r v).1 ((b.finds r v).0 h))))

module _ (marks : List Mark) (e f g : LeanEnd) (id : ℕ) (v : ℤ) where
  pub behind_once : IsPutBehind marks e id v f → IsPutBehind marks e id v g → f ≡ g
  behind_once a b =
      let n : Alike f.needed g.needed = λ i. ((λ h. (b.needed i).1 ((a.needed i).0 h)), (λ h. (a.needed i).1 ((b.needed i).0 h))) in
      same_end f g (a.state ∙ sym b.state) n
      (λ i. ((λ h. (let k = (a.door i).0 h in (b.door i).1 (k.0, (λ j. k.1 ((n i).1 j))))), (λ h. (let k = (b.door i).0 h in (a.door i).1 (k.0, (λ j. k.1 ((n i).0 j)))))))
      (λ r w. ((λ h. (b.finds r w).1 ((a.finds r w).0 h)), (λ h. (a.finds r w).1 ((b.finds r w).0 h))))

  pub before_once : IsPutBefore marks e id v f → IsPutBefore marks e id v g → f ≡ g
  before_once a b = same_end f g (a.state ∙ sym b.state)
      (λ i. ((λ h. (b.needed i).1 ((a.needed i).0 h)), (λ h. (a.needed i).1 ((b.needed i).0 h))))
      (λ i. ((λ h. (b.door i).1 ((a.door i).0 h)), (λ h. (a.door i).1 ((b.door i).0 h))))
      (λ r w. ((λ h. (b.finds r w).1 ((a.finds r w).0 h)), (λ h. (a.finds r w).1 ((b.finds r w).0 h))))

pub set_once : (marks : List Mark) (e f g : LeanEnd) (id : ℕ) (a b c d : ℤ) → b ≡ d → IsSetBehind marks e id a b f → IsSetBehind marks e id c d g → f ≡ g
set_once marks e f g id a b c d same p q = same_end f g (p.state ∙ ap Some same ∙ sym q.state)
    (λ i. ((λ h. (q.needed i).1 ((p.needed i).0 h)), (λ h. (p.needed i).1 ((q.needed i).0 h))))
    (λ i. ((λ h. (q.door i).1 ((p.door i).0 h)), (λ h. (p.door i).1 ((q.door i).0 h))))
    (λ r w. (
      (λ h. (q.finds r w).1 (⊎_elim inl (λ k. inr (k.0, k.1 ∙ same)) ((p.finds r w).0 h))),
      (λ h. (p.finds r w).1 (⊎_elim inl (λ k. inr (k.0, k.1 ∙ sym same)) ((q.finds r w).0 h))),
    ))

pub with_read_once : (e f g : LeanEnd) (id : ℕ) → IsWithRead e id f → IsWithRead e id g → f ≡ g
with_read_once e f g id a b = same_end f g (a.state ∙ sym b.state)
    (λ i. ((λ h. subst (λ (n : ℕ → Bool). IsTrue (n i)) (a.needed ∙ sym b.needed) h), (λ h. subst (λ (n : ℕ → Bool). IsTrue (n i)) (b.needed ∙ sym a.needed) h)))
    (λ i. ((λ h. subst (λ (n : ℕ → Bool). IsTrue (n i)) (a.door ∙ sym b.door) h), (λ h. subst (λ (n : ℕ → Bool). IsTrue (n i)) (b.door ∙ sym a.door) h)))
    (λ r w. ((λ h. (b.finds r w).1 ((a.finds r w).0 h)), (λ h. (a.finds r w).1 ((b.finds r w).0 h))))
