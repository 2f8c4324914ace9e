-- the operations after a mark, as far as doors go
use Rattle.std.proofs.Common.{◌≡◌, ◌≢◌, ◌↔◌, ℕ, ◌<◌, ◌≤◌, ⊎_elim, true, false, IsTrue, not, ◌||◌, Option, Some, None, List, [], ◌∷◌, map, refl, sym, ap, ◌∙◌, subst, arith}
use Rattle.std.specs.List.{Contains, filter}
use Rattle.std.proofs.lemmas.Bool.{cases_Bool, true≢false}
use Rattle.std.proofs.lemmas.Bool.Decides.{nat_tests}
use Rattle.std.proofs.lemmas.List.Elements.{Contains-append_left, Contains-push_cases}
use Rattle.linspec.proofs.Lists.{Contains-nil, Contains-head, Contains-tail, Contains-cons_cases}
use Rattle.wide_cas_register.specs.declared.calls.Call.{Call}
use Rattle.wide_cas_register.specs.declared.calls.What.{What}
use Rattle.wide_cas_register.specs.declared.calls.What.TheVariants.{Writes, Sets, Reads}
use Rattle.wide_cas_register.specs.declared.row.Row.{Row}
use Rattle.wide_cas_register.specs.Facts.{calls_with, crashed, end_of, is_other, is_read, is_set, outlives}
use Rattle.wide_cas_register.proofs.Ends.{door_from, door_to, needed_from, needed_to, finds_from, finds_to, same_end}
use Rattle.wide_cas_register.proofs.Lists.{was_in, passes, stays_in}
use Rattle.wide_cas_register.proofs.Moves.{AreOthers}

pub other_from : (id : ℕ) (c : Call) → is_other id c ≡ true → c.id ≢ id
other_from id c h e = grind (arith, nat_tests)

pub other_to : (id : ℕ) (c : Call) → c.id ≢ id → is_other id c ≡ true
other_to id c h = grind (arith, nat_tests)

pub filtered : (id : ℕ) (calls : List Call) → AreOthers id calls (filter (is_other id) calls)
filtered id calls = record {
  was = λ c h. (c, was_in (is_other id) calls c h, refl, refl, refl, other_from id c (passes (is_other id) calls c h));
  is = λ c h ne. (c, stays_in (is_other id) calls c h (other_to id c ne), refl, refl, refl);
}

-- elements of a mapped list
module _ {X Y : Type 0} (f : X → Y) where
  pub map_from : (xs : List X) (y : Y) → Contains (map f xs) y → (x : X) × Contains xs x × (f x ≡ y)
  map_from [] y h = absurd (Contains-nil y h)
  map_from (x ∷ xs) y h = ⊎_elim
      (λ e. (x, Contains-head x xs, e))
      (λ k. (let j = map_from xs y k in (j.0, Contains-tail x xs j.0 j.1, j.2)))
      (Contains-cons_cases (f x) (map f xs) y h)

  pub map_to : (xs : List X) (x : X) → Contains xs x → Contains (map f xs) (f x)
  map_to [] x h = absurd (Contains-nil x h)
  map_to (z ∷ xs) x h = ⊎_elim
      (λ e. subst (λ w. Contains (f z ∷ map f xs) (f w)) e (Contains-head (f z) (map f xs)))
      (λ k. Contains-tail (f z) (map f xs) (f x) (map_to xs x k))
      (Contains-cons_cases z xs x h)

pub outlives_to : (id : ℕ) (c : Call) → c.id ≢ id → outlives id c ≡ true
outlives_to id c h = ap (λ b. b || not (is_read c.what)) (other_to id c h)

pub outlives_read : (id : ℕ) (c : Call) → c.what ≡ Reads → outlives id c ≡ true → c.id ≢ id
outlives_read id c q h e =
    let a : (is_other id c || false) ≡ true = subst (λ w. (is_other id c || not (is_read w)) ≡ true) q h in
    ⊎_elim (λ t. other_from id c t e) (λ n. true≢false (sym a ∙ ap (λ b. b || false) n)) (cases_Bool (is_other id c))

pub outlives_write : (id : ℕ) (c : Call) (what : What) → c.what ≡ what → what ≢ Reads → outlives id c ≡ true
outlives_write id c Reads q n = absurd (n refl)
outlives_write id c (Writes v) q n = ⊎_elim
    (λ t. ap (λ b. b || not (is_read c.what)) t)
    (λ f. ap (λ b. b || not (is_read c.what)) f ∙ ap (λ w. not (is_read w)) q)
    (cases_Bool (is_other id c))
outlives_write id c (Sets x y) q n = ⊎_elim
    (λ t. ap (λ b. b || not (is_read c.what)) t)
    (λ f. ap (λ b. b || not (is_read c.what)) f ∙ ap (λ w. not (is_read w)) q)
    (cases_Bool (is_other id c))

-- a read has crashed
pub without_read : (id : ℕ) (calls : List Call) → ((c : Call) → Contains calls c → c.id ≡ id → c.what ≡ Reads) → AreOthers id calls (map (crashed id) (filter (outlives id) calls))
without_read id calls reads = record {
  was = λ c h. (let k = map_from (crashed id) (filter (outlives id) calls) c h in
      let was = was_in (outlives id) calls k.0 k.1 in
      let i : k.0.id ≡ c.id = ap (λ (x : Call). x.id) k.2 in
      let s : k.0.since ≡ c.since = ap (λ (x : Call). x.since) k.2 in
      (k.0, was, i, s, ap (λ (x : Call). x.what) k.2, (λ e. outlives_read id k.0 (reads k.0 was (i ∙ e)) (passes (outlives id) calls k.0 k.1) (i ∙ e))));
  is = λ c h ne. (crashed id c, map_to (crashed id) (filter (outlives id) calls) c (stays_in (outlives id) calls c h (outlives_to id c ne)), refl, refl, refl);
}

-- those have the doors of these
pub record HaveDoors (calls those : List Call) (row : Row) : Type 0 where
  pub was : (c : Call) → Contains those c → c.since < row.door → (b : Call) × Contains calls b × (b.id ≡ c.id) × (b.since ≡ c.since) × (b.what ≡ c.what)
  pub is : (c : Call) → Contains calls c → (b : Call) × Contains those b × (b.id ≡ c.id) × (b.since ≡ c.since) × (b.what ≡ c.what)

module _ (calls those : List Call) (row : Row) (doors : HaveDoors calls those row) where
  pub door_alike : (new : Row) → new.door ≡ row.door → new.needed.items ≡ row.needed.items → (i : ℕ) → IsTrue ((end_of those new).door i) ↔ IsTrue ((end_of calls row).door i)
  door_alike new d n i = (
    (λ h. (let k = door_from those new i h in
        let early : k.0.since < row.door = subst (λ s. k.0.since < s) d k.3.0 in
        let b = doors.was k.0 k.1 early in
        door_to calls row i (b.0, b.1, b.2 ∙ k.2, (subst (λ s. s < row.door) (sym b.3) early, (λ m. k.3.1 (subst (λ l. Contains l k.0.id) (sym n) (subst (Contains row.needed.items) b.2 m))), ap is_set b.4 ∙ k.3.2)))),
    (λ h. (let k = door_from calls row i h in
        let b = doors.is k.0 k.1 in
        let early : b.0.since < row.door = subst (λ s. s < row.door) (sym b.3) k.3.0 in
        door_to those new i (b.0, b.1, b.2 ∙ k.2, (subst (λ s. b.0.since < s) (sym d) early, (λ m. k.3.1 (subst (Contains row.needed.items) b.2 (subst (λ l. Contains l b.0.id) n m))), ap is_set b.4 ∙ k.3.2)))),
  )

  pub same_row : (new : Row) → new.state ≡ row.state → new.door ≡ row.door → new.needed.items ≡ row.needed.items → new.finds.items ≡ row.finds.items → end_of those new ≡ end_of calls row
  same_row new s d n f = same_end (end_of those new) (end_of calls row) s
      (λ i. ((λ h. needed_to calls row i (subst (λ l. Contains l i) n (needed_from those new i h))), (λ h. needed_to those new i (subst (λ l. Contains l i) (sym n) (needed_from calls row i h)))))
      (door_alike new d n)
      (λ r v. (
        (λ h. finds_to calls row r v (subst (λ l. Contains l (record { read = r; value = v })) f (finds_from those new r v h))),
        (λ h. finds_to those new r v (subst (λ l. Contains l (record { read = r; value = v })) (sym f) (finds_from calls row r v h))),
      ))

-- an operation is invoked
pub with_new : (calls : List Call) (now id : ℕ) (what : Option What) (row : Row) → row.door ≤ now → HaveDoors calls (calls_with calls now id what) row
with_new calls now id None row low = record { was = λ c h e. (c, h, refl, refl, refl); is = λ c h. (c, h, refl, refl, refl) }
with_new calls now id (Some what) row low =
    let new : Call = record { id = id; what = what; since = now; is_open = true } in record {
      was = λ c h e. ⊎_elim
          (λ k. (c, k, refl, refl, refl))
          (λ q. absurd (let s : now ≡ c.since = ap (λ (x : Call). x.since) q in omega arith))
          (Contains-push_cases calls new c h);
      is = λ c h. (c, Contains-append_left calls (new ∷ []) c h, refl, refl, refl);
    }

-- an operation other than a read has crashed
pub with_crash : (id : ℕ) (calls : List Call) (row : Row) → ((c : Call) → Contains calls c → c.id ≡ id → c.what ≢ Reads) → HaveDoors calls (map (crashed id) (filter (outlives id) calls)) row
with_crash id calls row none = record {
  was = λ c h e. (let k = map_from (crashed id) (filter (outlives id) calls) c h in (k.0, was_in (outlives id) calls k.0 k.1, ap (λ (x : Call). x.id) k.2, ap (λ (x : Call). x.since) k.2, ap (λ (x : Call). x.what) k.2));
  is = λ c h. (
    crashed id c,
    map_to (crashed id) (filter (outlives id) calls) c (stays_in (outlives id) calls c h
        (⊎_elim (λ t. ap (λ b. b || not (is_read c.what)) t) (λ n. outlives_write id c c.what refl (none c h (same_id id c n))) (cases_Bool (is_other id c)))),
    refl,
    refl,
    refl,
  );
}
  where
    same_id : (id : ℕ) (c : Call) → is_other id c ≡ false → c.id ≡ id
    same_id id c n = grind (arith, nat_tests)
