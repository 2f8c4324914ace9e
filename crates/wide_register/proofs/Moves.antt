-- the changes of a row are changes of its end
use Rattle.std.proofs.Common.{◌≡◌, ◌≢◌, ℕ, ◌<◌, ◌≤◌, ℤ, ◌⊎◌, inl, inr, ⊎_elim, IsTrue, Some, List, [], ◌∷◌, length, refl, sym, ap, ◌∙◌, subst}
use Rattle.std.specs.List.{Contains}
use Rattle.events.specs.Events.{Mark}
use Rattle.linspec.specs.MarkRule.{AreWellFormed}
use Rattle.linspec.specs.Orders.{Pairwise}
use Rattle.linspec.proofs.Lists.{Contains-nil, Contains-cons_cases}
use Rattle.linspec.specs.LeanEnds.{LeanEnd, MayRead, MayWrite, IsRead, IsPutBehind, IsPutBefore, IsWithout}
use Rattle.lean_ends.proofs.Once.{read_no_write}
use Rattle.lean_ends.proofs.Makes.{some_behind, some_before}
use Rattle.lean_ends.proofs.Sound.{IsLeft}
use Rattle.wide_register.specs.declared.calls.Call.{Call}
use Rattle.wide_register.specs.declared.calls.What.{What}
use Rattle.wide_register.specs.declared.calls.What.TheVariants.{Writes, Reads}
use Rattle.wide_register.specs.declared.row.Row.{Row}
use Rattle.wide_register.specs.Facts.{AreCalls, CanFind, IsCall, IsPut, IsWithoutId, StoodAfter, end_of}
use Rattle.wide_register.proofs.Ends.{needed_from, needed_to, door_from, door_to, finds_from, finds_to, Finds}

-- of two operations with the same id
pub same_call : (calls : List Call) → Pairwise (λ (a b : Call). a.id ≢ b.id) calls → (a b : Call) → Contains calls a → Contains calls b → a.id ≡ b.id → a ≡ b
same_call [] p a b h k e = absurd (Contains-nil a h)
same_call (x ∷ calls) p a b h k e = ⊎_elim
    (λ q. ⊎_elim
    (λ r. sym q ∙ r)
    (λ j. absurd (p.0 b j (ap (λ (c : Call). c.id) q ∙ e)))
    (Contains-cons_cases x calls b k))
    (λ i. ⊎_elim
    (λ r. absurd (p.0 a i (ap (λ (c : Call). c.id) r ∙ sym e)))
    (λ j. same_call calls p.1 a b i j e)
    (Contains-cons_cases x calls b k))
    (Contains-cons_cases x calls a h)

some_same : (v u : ℤ) → Some v ≡ Some u → v ≡ u
some_same v u e = cc

-- rows that keep the same let reads find the same
pub found_before : (row new : Row) → new.state ≡ row.state → new.passed.items ≡ row.passed.items → (v : ℤ) (t : ℕ) → CanFind new v t → CanFind row v t
found_before row new s p v t h = ⊎_elim (λ k. inl (subst (λ l. StoodAfter l v t) p k)) (λ k. inr (sym s ∙ k)) h

pub found_after : (row new : Row) → new.state ≡ row.state → new.passed.items ≡ row.passed.items → (v : ℤ) (t : ℕ) → CanFind row v t → CanFind new v t
found_after row new s p v t h = ⊎_elim (λ k. inl (subst (λ l. StoodAfter l v t) (sym p) k)) (λ k. inr (s ∙ k)) h

-- those are these operations but one, as far as doors go
pub record AreOthers (id : ℕ) (calls those : List Call) : Type 0 where
  pub was : (c : Call) → Contains those c → (b : Call) × Contains calls b × (b.id ≡ c.id) × (b.since ≡ c.since) × (c.id ≢ id) × (b.what ≡ c.what)
  pub is : (c : Call) → Contains calls c → c.id ≢ id → (b : Call) × Contains those b × (b.id ≡ c.id) × (b.since ≡ c.since) × (b.what ≡ c.what)

module _ (id : ℕ) (calls those : List Call) (others : AreOthers id calls those) (row new : Row) where
  pub door_was : (i : ℕ) → new.door ≡ row.door → ((j : ℕ) → Contains row.needed.items j → j ≢ id → Contains new.needed.items j) → IsTrue ((end_of those new).door i) → IsTrue ((end_of calls row).door i) × (i ≢ id)
  door_was i d n h =
      let k = door_from those new i h in
      let b = others.was k.0 k.1 in
      let same : b.0.id ≡ i = b.2 ∙ k.2 in (
        door_to calls row i (b.0, b.1, same, ((let x : b.0.since < new.door = subst (λ s. s < new.door) (sym b.3) k.3.0 in subst (λ s. b.0.since < s) d x), (λ j. k.3.1 (n k.0.id (subst (Contains row.needed.items) b.2 j) b.4)))),
        λ e. b.4 (k.2 ∙ e),
      )

  pub door_is : (i : ℕ) → new.door ≡ row.door → ((j : ℕ) → Contains new.needed.items j → Contains row.needed.items j) → IsTrue ((end_of calls row).door i) → i ≢ id → IsTrue ((end_of those new).door i)
  door_is i d n h ne =
      let k = door_from calls row i h in
      let b = others.is k.0 k.1 (λ e. ne (sym k.2 ∙ e)) in
      door_to those new i (b.0, b.1, b.2 ∙ k.2, ((let x : b.0.since < row.door = subst (λ s. s < row.door) (sym b.3) k.3.0 in subst (λ s. b.0.since < s) (sym d) x), (λ j. k.3.1 (n k.0.id (subst (Contains new.needed.items) b.2 j)))))

  -- what a read may find there it may find here
  pub finds_was : (r : ℕ) (v : ℤ) (P : ℕ → Type 0) → ((t : ℕ) → CanFind new v t → P t) → Finds those new r v → ((c : Call) × Contains calls c × (c.id ≡ r) × (c.what ≡ Reads) × P c.since) × (r ≢ id)
  finds_was r v P to k =
      let b = others.was k.0 k.1 in
      ((b.0, b.1, b.2 ∙ k.2, b.5 ∙ k.3, subst P (sym b.3) (to k.0.since k.4)), (λ e. b.4 (k.2 ∙ e)))

  pub finds_stays : (r : ℕ) (v : ℤ) → r ≢ id → (c : Call) → Contains calls c → c.id ≡ r → c.what ≡ Reads → CanFind new v c.since → Finds those new r v
  finds_stays r v ne c h i q f =
      let b = others.is c h (λ e. ne (sym i ∙ e)) in
      (b.0, b.1, b.2 ∙ i, b.4 ∙ q, subst (CanFind new v) (sym b.3) f)

  pub without_is : IsWithoutId id row new → IsWithout (end_of calls row) id (end_of those new)
  without_is w = record {
    state = w.state;
    needed = λ i. (
      (λ h. (let k = (w.needed i).0 (needed_from those new i h) in (needed_to calls row i k.0, k.1))),
      (λ h. needed_to those new i ((w.needed i).1 (needed_from calls row i h.0, h.1))),
    );
    door = λ i. (
      (λ h. door_was i w.door (λ j k ne. (w.needed j).1 (k, ne)) h),
      (λ h. door_is i w.door (λ j k. ((w.needed j).0 k).0) h.0 h.1),
    );
    finds = λ r v. (
      (λ h. (let k = finds_was r v (CanFind row v) (λ t. found_before row new w.state w.passed v t) (finds_from those new r v h) in (finds_to calls row r v k.0, k.1))),
      (λ h. (let k = finds_from calls row r v h.0 in finds_to those new r v (finds_stays r v h.1 k.0 k.1 k.2 k.3 (found_after row new w.state w.passed v k.0.since k.4)))),
    );
  }

module _ (marks : List Mark) (well : AreWellFormed marks) (calls : List Call) (are : AreCalls calls marks) (row : Row) (low : row.door ≤ length marks) (left : IsLeft marks (end_of calls row)) where
  abbrev e : LeanEnd
  e = end_of calls row

  pub read_not_needed : (r : ℕ) → IsRead marks r → ¬ Contains row.needed.items r
  read_not_needed r i n = let w = (left.2.needed r (needed_to calls row r n)).1 in read_no_write marks well r w.0 i w.1

  pub read_call : (r : ℕ) → MayRead marks r → (c : Call) × Contains calls c × (c.id ≡ r) × (c.what ≡ Reads)
  read_call r m = are.all r Reads m

  pub is_read : (c : Call) → Contains calls c → c.what ≡ Reads → MayRead marks c.id
  is_read c h q = subst (IsCall marks c.id) q (are.is c h)

  pub is_write : (c : Call) (v : ℤ) → Contains calls c → c.what ≡ Writes v → MayWrite marks c.id v
  is_write c v h q = subst (IsCall marks c.id) q (are.is c h)

  may_come : (c : Call) → (what : What) → c.what ≡ what → Contains calls c → MayRead marks c.id ⊎ ((w : ℤ) × MayWrite marks c.id w)
  may_come c Reads q h = inl (is_read c h q)
  may_come c (Writes v) q h = inr (v, is_write c v h q)

  comes : (i : ℕ) → MayRead marks i ⊎ ((w : ℤ) × MayWrite marks i w) → (c : Call) × Contains calls c × (c.id ≡ i)
  comes i m = ⊎_elim (λ r. (let k = are.all i Reads r in (k.0, k.1, k.2))) (λ w. (let k = are.all i (Writes w.0) w.1 in (k.0, k.1, k.2))) m

  module _ (out : ℕ) (those : List Call) (others : AreOthers out calls those) (w : ℕ) (v : ℤ) (new : Row) where
    abbrev f : LeanEnd
    f = end_of those new

    -- the values that a read invoked at the moment may find in the new row
    abbrev Behind : ℤ → ℕ → Type 0
    Behind u t = CanFind row u t ⊎ (u ≡ v)

    behind_from : (u : ℤ) → IsPut w row.state (length marks) (Some v) out row new → (t : ℕ) → CanFind new u t → Behind u t
    behind_from u p t h = ⊎_elim
        (λ k. ⊎_elim (λ j. inl (inl j)) (λ j. inl (inr j.0)) ((p.passed u t).0 k))
        (λ k. inr (sym (some_same v u (sym p.state_is ∙ k))))
        h

    behind_to : (u : ℤ) → IsPut w row.state (length marks) (Some v) out row new → (c : Call) → Contains calls c → CanFind row u c.since → CanFind new u c.since
    behind_to u p c i h = inl ((p.passed u c.since).1 (⊎_elim inl (λ k. inr (k, are.since c i)) h))

    abbrev Before : ℤ → ℕ → Type 0
    Before u t = CanFind row u t ⊎ ((u ≡ v) × (t < row.door))

    before_from : (u : ℤ) → IsPut w (Some v) row.door row.state out row new → (t : ℕ) → CanFind new u t → Before u t
    before_from u p t h = ⊎_elim
        (λ k. ⊎_elim (λ j. inl (inl j)) (λ j. inr (sym (some_same v u j.0), j.1)) ((p.passed u t).0 k))
        (λ k. inl (inr (sym p.state_is ∙ k)))
        h

    before_to : (u : ℤ) → IsPut w (Some v) row.door row.state out row new → (t : ℕ) → CanFind row u t → CanFind new u t
    before_to u p t h = ⊎_elim (λ k. inl ((p.passed u t).1 (inl k))) (λ k. inr (p.state_is ∙ k)) h

    put_behind : (g : LeanEnd) → IsPutBehind marks e w v g → IsPut w row.state (length marks) (Some v) out row new → IsWithout g out f
    put_behind g b p = record {
      state = p.state_is ∙ sym b.state;
      needed = λ i. (
        (λ h. (let k = (p.needed i).0 (needed_from those new i h) in ((b.needed i).1 (⊎_elim (λ q. inl q) (λ n. inr (needed_to calls row i n)) k.0), k.1))),
        (λ h. needed_to those new i ((p.needed i).1 (⊎_elim (λ q. inl q) (λ n. inr (needed_from calls row i n)) ((b.needed i).0 h.0), h.1))),
      );
      door = λ i. (
        (λ h. (let k = door_from those new i h in
            let c = others.was k.0 k.1 in
            let same : c.0.id ≡ i = c.2 ∙ k.2 in
            let ne : i ≢ out = (λ q. c.4 (k.2 ∙ q)) in (
              (b.door i).1 (
                subst (λ z. MayRead marks z ⊎ ((u : ℤ) × MayWrite marks z u)) same (may_come c.0 c.0.what refl c.1),
                (λ n. k.3.1 (subst (Contains new.needed.items) (sym k.2) ((p.needed i).1 (⊎_elim (λ q. inl q) (λ m. inr (needed_from calls row i m)) ((b.needed i).0 n), ne)))),
              ),
              ne,
            ))),
        (λ h. (let k = (b.door i).0 h.0 in
            let c = comes i k.0 in
            let d = others.is c.0 c.1 (λ q. h.1 (sym c.2 ∙ q)) in
            let late : d.0.since < length marks = subst (λ s. s < length marks) (sym d.3) (are.since c.0 c.1) in
            door_to those new i (
              d.0,
              d.1,
              d.2 ∙ c.2,
              (
                subst (λ s. d.0.since < s) (sym p.door) late,
                (λ n. (let j = (p.needed i).0 (subst (Contains new.needed.items) (d.2 ∙ c.2) n) in k.1 ((b.needed i).1 (⊎_elim (λ q. inl q) (λ m. inr (needed_to calls row i m)) j.0)))),
              ),
            ))),
      );
      finds = λ r u. (
        (λ h.
            let k = finds_was out calls those others row new r u (Behind u) (behind_from u p) (finds_from those new r u h) in
            let c = k.0.0 in (
              (b.finds r u).1 (⊎_elim
                  (λ j. inl (finds_to calls row r u (c, k.0.1, k.0.2, k.0.3, j)))
                  (λ j. inr (subst (MayRead marks) k.0.2 (is_read c k.0.1 k.0.3), j))
                  k.0.4),
              k.1,
            )),
        (λ h. finds_to those new r u (⊎_elim
            (λ j. (let k = finds_from calls row r u j in finds_stays out calls those others row new r u h.1 k.0 k.1 k.2 k.3 (behind_to u p k.0 k.1 k.4)))
            (λ j. (let c = read_call r j.0 in finds_stays out calls those others row new r u h.1 c.0 c.1 c.2 c.3 (inr (p.state_is ∙ ap Some (sym j.1)))))
            ((b.finds r u).0 h.0))),
      );
    }

    put_before : (g : LeanEnd) → IsPutBefore marks e w v g → IsPut w (Some v) row.door row.state out row new → IsWithout g out f
    put_before g b p = record {
      state = p.state_is ∙ sym b.state;
      needed = λ i. (
        (λ h. (let k = (p.needed i).0 (needed_from those new i h) in ((b.needed i).1 (⊎_elim (λ q. inl q) (λ n. inr (needed_to calls row i n)) k.0), k.1))),
        (λ h. needed_to those new i ((p.needed i).1 (⊎_elim (λ q. inl q) (λ n. inr (needed_from calls row i n)) ((b.needed i).0 h.0), h.1))),
      );
      door = λ i. (
        (λ h. (let k = door_from those new i h in
            let d = door_was out calls those others row new i p.door (λ j m ne. (p.needed j).1 (inr m, ne)) h in (
              (b.door i).1 (d.0, (λ q. k.3.1 (subst (Contains new.needed.items) (sym k.2) ((p.needed i).1 (inl q, d.1))))),
              d.1,
            ))),
        (λ h. (let k = (b.door i).0 h.0 in
            let c = door_from calls row i k.0 in
            let d = others.is c.0 c.1 (λ q. h.1 (sym c.2 ∙ q)) in
            let late : d.0.since < row.door = subst (λ s. s < row.door) (sym d.3) c.3.0 in
            door_to those new i (
              d.0,
              d.1,
              d.2 ∙ c.2,
              (
                subst (λ s. d.0.since < s) (sym p.door) late,
                (λ n. (let j = (p.needed i).0 (subst (Contains new.needed.items) (d.2 ∙ c.2) n) in ⊎_elim k.1 (λ m. c.3.1 (subst (Contains row.needed.items) (sym c.2) m)) j.0)),
              ),
            ))),
      );
      finds = λ r u. (
        (λ h.
            let k = finds_was out calls those others row new r u (Before u) (before_from u p) (finds_from those new r u h) in
            let c = k.0.0 in (
              (b.finds r u).1 (⊎_elim
                  (λ j. inl (finds_to calls row r u (c, k.0.1, k.0.2, k.0.3, j)))
                  (λ j.
                  let m = subst (MayRead marks) k.0.2 (is_read c k.0.1 k.0.3) in
                  inr (m, door_to calls row r (c, k.0.1, k.0.2, (j.1, (λ n. read_not_needed r m.0 (subst (Contains row.needed.items) k.0.2 n)))), j.0))
                  k.0.4),
              k.1,
            )),
        (λ h. finds_to those new r u (⊎_elim
            (λ j. (let k = finds_from calls row r u j in finds_stays out calls those others row new r u h.1 k.0 k.1 k.2 k.3 (before_to u p k.0.since k.4)))
            (λ j.
            let c = read_call r j.0 in
            let d = door_from calls row r j.1 in
            let same : d.0 ≡ c.0 = same_call calls are.once d.0 c.0 d.1 c.1 (d.2 ∙ sym c.2) in
            let early : c.0.since < row.door = subst (λ (x : Call). x.since < row.door) same d.3.0 in
            finds_stays out calls those others row new r u h.1 c.0 c.1 c.2 c.3 (inl ((p.passed u c.0.since).1 (inr (ap Some (sym j.2), early)))))
            ((b.finds r u).0 h.0))),
      );
    }

    pub is_behind : IsPut w row.state (length marks) (Some v) out row new → (g : LeanEnd) × IsPutBehind marks e w v g × IsWithout g out f
    is_behind p = let g = some_behind marks well e w v in (g.0, g.1, put_behind g.0 g.1 p)

    pub is_before : IsTrue (e.door w) → IsPut w (Some v) row.door row.state out row new → (g : LeanEnd) × IsPutBefore marks e w v g × IsWithout g out f
    is_before d p = let g = some_before marks well e w v d in (g.0, g.1, put_before g.0 g.1 p)
