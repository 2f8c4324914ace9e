-- what is made of a row is made of its end
use Rattle.std.proofs.Common.{◌≡◌, ◌≢◌, ◌↔◌, ℕ, ◌<◌, ℤ, ◌⊎◌, inl, inr, ⊎_elim, true, false, IsTrue, Some, List, [], ◌∷◌, length, refl, sym, ap, ◌∙◌, subst}
use Rattle.std.specs.List.{Contains}
use Rattle.events.specs.Events.{Mark}
use Rattle.linspec.specs.MarkRule.{AreWellFormed}
use Rattle.linspec.specs.Orders.{Pairwise}
use Rattle.linspec.proofs.Lists.{Contains-nil, Contains-cons_cases}
use Rattle.linspec.specs.LeanEnds.{LeanEnd, MayRead, MayWrite, IsPutBehind, IsPutBefore, IsWithout}
use Rattle.linspec.specs.CasEnds.{MayCas, IsSetBehind}
use Rattle.cas_ends.proofs.Puts.{no_read_update}
use Rattle.cas_ends.proofs.Stands.{IsLeft}
use Rattle.wide_cas_register.specs.declared.calls.Call.{Call}
use Rattle.wide_cas_register.specs.declared.calls.What.{What}
use Rattle.wide_cas_register.specs.declared.calls.What.TheVariants.{Writes, Sets, Reads}
use Rattle.wide_cas_register.specs.declared.row.Found.{Found}
use Rattle.wide_cas_register.specs.declared.row.Row.{Row}
use Rattle.wide_cas_register.specs.Facts.{AreCalls, IsCall, IsFoundBy, IsPut, IsSet, IsWithoutId, end_of, is_set}
use Rattle.wide_cas_register.proofs.Ends.{needed_from, needed_to, door_from, door_to, finds_from, finds_to}

-- of two operations with the same id
pub same_call : (calls : List Call) → Pairwise (λ (a b : Call). a.id ≢ b.id) calls → (a b : Call) → Contains calls a → Contains calls b → a.id ≡ b.id → a ≡ b
same_call [] p a b h k e = absurd (Contains-nil a h)
same_call (x ∷ calls) p a b h k e = ⊎_elim
    (λ q. ⊎_elim
    (λ r. sym q ∙ r)
    (λ j. absurd (p.0 b j (ap (λ (c : Call). c.id) q ∙ e)))
    (Contains-cons_cases x calls b k))
    (λ i. ⊎_elim
    (λ r. absurd (p.0 a i (ap (λ (c : Call). c.id) r ∙ sym e)))
    (λ j. same_call calls p.1 a b i j e)
    (Contains-cons_cases x calls b k))
    (Contains-cons_cases x calls a h)

-- those are these operations but one, as far as doors go
pub record AreOthers (id : ℕ) (calls those : List Call) : Type 0 where
  pub was : (c : Call) → Contains those c → (b : Call) × Contains calls b × (b.id ≡ c.id) × (b.since ≡ c.since) × (b.what ≡ c.what) × (c.id ≢ id)
  pub is : (c : Call) → Contains calls c → c.id ≢ id → (b : Call) × Contains those b × (b.id ≡ c.id) × (b.since ≡ c.since) × (b.what ≡ c.what)

module _ (id : ℕ) (calls those : List Call) (others : AreOthers id calls those) (row new : Row) where
  pub door_was : (i : ℕ) → new.door ≡ row.door → ((j : ℕ) → Contains row.needed.items j → j ≢ id → Contains new.needed.items j) → IsTrue ((end_of those new).door i) → IsTrue ((end_of calls row).door i) × (i ≢ id)
  door_was i d n h =
      let k = door_from those new i h in
      let b = others.was k.0 k.1 in
      let same : b.0.id ≡ i = b.2 ∙ k.2 in (
        door_to calls row i (
          b.0,
          b.1,
          same,
          (
            (let x : b.0.since < new.door = subst (λ s. s < new.door) (sym b.3) k.3.0 in subst (λ s. b.0.since < s) d x),
            (λ j. k.3.1 (n k.0.id (subst (Contains row.needed.items) b.2 j) b.5)),
            ap is_set b.4 ∙ k.3.2,
          ),
        ),
        λ e. b.5 (k.2 ∙ e),
      )

  pub door_is : (i : ℕ) → new.door ≡ row.door → ((j : ℕ) → Contains new.needed.items j → Contains row.needed.items j) → IsTrue ((end_of calls row).door i) → i ≢ id → IsTrue ((end_of those new).door i)
  door_is i d n h ne =
      let k = door_from calls row i h in
      let b = others.is k.0 k.1 (λ e. ne (sym k.2 ∙ e)) in
      door_to those new i (
        b.0,
        b.1,
        b.2 ∙ k.2,
        (
          (let x : b.0.since < row.door = subst (λ s. s < row.door) (sym b.3) k.3.0 in subst (λ s. b.0.since < s) (sym d) x),
          (λ j. k.3.1 (n k.0.id (subst (Contains new.needed.items) b.2 j))),
          ap is_set b.4 ∙ k.3.2,
        ),
      )

  pub without_is : IsWithoutId id row new → IsWithout (end_of calls row) id (end_of those new)
  without_is w = record {
    state = w.state;
    needed = λ i. (
      (λ h. (let k = (w.needed i).0 (needed_from those new i h) in (needed_to calls row i k.0, k.1))),
      (λ h. needed_to those new i ((w.needed i).1 (needed_from calls row i h.0, h.1))),
    );
    door = λ i. (
      (λ h. door_was i w.door (λ j k ne. (w.needed j).1 (k, ne)) h),
      (λ h. door_is i w.door (λ j k. ((w.needed j).0 k).0) h.0 h.1),
    );
    finds = λ r v. (
      (λ h. (let k = (w.finds (record { read = r; value = v })).0 (finds_from those new r v h) in (finds_to calls row r v k.0, k.1))),
      (λ h. finds_to those new r v ((w.finds (record { read = r; value = v })).1 (finds_from calls row r v h.0, h.1))),
    );
  }

module _ (marks : List Mark) (well : AreWellFormed marks) (calls : List Call) (are : AreCalls calls marks) (row : Row) (left : IsLeft marks (end_of calls row)) where
  abbrev e : LeanEnd
  e = end_of calls row

  pub read_not_needed : (r : ℕ) → MayRead marks r → ¬ Contains row.needed.items r
  read_not_needed r i n = no_read_update marks well r i (left.2.needed r (needed_to calls row r n)).1

  pub read_call : (r : ℕ) → MayRead marks r → (c : Call) × Contains calls c × (c.id ≡ r) × (c.what ≡ Reads)
  read_call r m = are.all r Reads m

  pub is_read : (c : Call) → Contains calls c → c.what ≡ Reads → MayRead marks c.id
  is_read c h q = subst (IsCall marks c.id) q (are.is c h)

  pub is_write : (c : Call) (v : ℤ) → Contains calls c → c.what ≡ Writes v → MayWrite marks c.id v
  is_write c v h q = subst (IsCall marks c.id) q (are.is c h)

  pub is_cas : (c : Call) (a b : ℤ) → Contains calls c → c.what ≡ Sets a b → MayCas marks c.id a b
  is_cas c a b h q = subst (IsCall marks c.id) q (are.is c h)

  abbrev MayCome : ℕ → Type 0
  MayCome i = MayRead marks i ⊎ ((w : ℤ) × MayWrite marks i w)

  may_come : (c : Call) (what : What) → c.what ≡ what → is_set what ≡ false → Contains calls c → MayCome c.id
  may_come c Reads q n h = inl (is_read c h q)
  may_come c (Writes v) q n h = inr (v, is_write c v h q)
  may_come c (Sets a b) q n h = let no : true ≡ false = n in absurd (let f : ⊥ = cc in f)

  comes : (i : ℕ) → MayCome i → (c : Call) × Contains calls c × (c.id ≡ i) × (is_set c.what ≡ false)
  comes i m = ⊎_elim
      (λ r. (let k = are.all i Reads r in (k.0, k.1, k.2, ap is_set k.3)))
      (λ w. (let k = are.all i (Writes w.0) w.1 in (k.0, k.1, k.2, ap is_set k.3)))
      m

  module _ (w : ℕ) (v : ℤ) (new : Row) where
    abbrev f : LeanEnd
    f = end_of calls new

    needed_is : ((i : ℕ) → Contains new.needed.items i ↔ ((i ≡ w) ⊎ Contains row.needed.items i)) → (i : ℕ) → IsTrue (f.needed i) ↔ ((i ≡ w) ⊎ IsTrue (e.needed i))
    needed_is n i = (
      (λ h. ⊎_elim inl (λ k. inr (needed_to calls row i k)) ((n i).0 (needed_from calls new i h))),
      (λ h. needed_to calls new i ((n i).1 (⊎_elim inl (λ k. inr (needed_from calls row i k)) h))),
    )

    finds_is : ((g : Found) → Contains new.finds.items g ↔ (Contains row.finds.items g ⊎ IsFoundBy calls (length marks) v g)) → (r : ℕ) (u : ℤ) → IsTrue (f.finds r u) ↔ (IsTrue (e.finds r u) ⊎ (MayRead marks r × (u ≡ v)))
    finds_is n r u = (
      (λ h. ⊎_elim
          (λ j. inl (finds_to calls row r u j))
          (λ (j : IsFoundBy calls (length marks) v (record { read = r; value = u })). inr (subst (MayRead marks) j.1.4 (is_read j.1.0 j.1.1 j.1.2), j.0))
          ((n (record { read = r; value = u })).0 (finds_from calls new r u h))),
      (λ h. finds_to calls new r u ((n (record { read = r; value = u })).1 (⊎_elim
          (λ j. inl (finds_from calls row r u j))
          (λ j. (let c = read_call r j.0 in inr (j.1, (c.0, c.1, c.3, are.since c.0 c.1, c.2))))
          h))),
    )

    -- a write takes place behind all others
    pub is_behind : IsPut calls w v (length marks) (Some v) row new → IsPutBehind marks e w v f
    is_behind p = record {
      state = p.state_is;
      needed = needed_is p.needed;
      door = λ i. (
        (λ h. (let k = door_from calls new i h in
            (subst MayCome k.2 (may_come k.0 k.0.what refl k.3.2 k.1), (λ n. k.3.1 (subst (Contains new.needed.items) (sym k.2) (needed_from calls new i n)))))),
        (λ h. (let c = comes i h.0 in
            door_to calls new i (
              c.0,
              c.1,
              c.2,
              (
                subst (λ s. c.0.since < s) (sym p.door) (are.since c.0 c.1),
                (λ n. h.1 (needed_to calls new i (subst (Contains new.needed.items) c.2 n))),
                c.3,
              ),
            ))),
      );
      finds = finds_is p.finds;
    }

    -- a cas takes place behind all others
    pub is_set_behind : (a : ℤ) → row.state ≡ Some a → IsSet calls w v (length marks) row new → ((c : Call) → Contains calls c → is_set c.what ≡ false → ¬ (c.id ≡ w)) → IsSetBehind marks e w a v f
    is_set_behind a at p free = record {
      takes = at;
      state = p.state_is;
      needed = needed_is p.needed;
      door = λ i. (
        (λ h. (let k = door_from calls new i h in
            door_to calls row i (k.0, k.1, k.2, (subst (λ s. k.0.since < s) p.door k.3.0, (λ n. k.3.1 ((p.needed k.0.id).1 (inr n))), k.3.2)))),
        (λ h. (let k = door_from calls row i h in
            door_to calls new i (
              k.0,
              k.1,
              k.2,
              (
                subst (λ s. k.0.since < s) (sym p.door) k.3.0,
                (λ n. ⊎_elim (λ q. free k.0 k.1 k.3.2 q) k.3.1 ((p.needed k.0.id).0 n)),
                k.3.2,
              ),
            ))),
      );
      finds = finds_is p.finds;
    }

    -- a write takes place just before the last one
    pub is_before : IsTrue (e.door w) → IsPut calls w v row.door row.state row new → IsPutBefore marks e w v f
    is_before may p = record {
      may = may;
      state = p.state_is;
      needed = needed_is p.needed;
      door = λ i. (
        (λ h. (let k = door_from calls new i h in (
          door_to calls row i (k.0, k.1, k.2, (subst (λ s. k.0.since < s) p.door k.3.0, (λ n. k.3.1 ((p.needed k.0.id).1 (inr n))), k.3.2)),
          (λ q. k.3.1 ((p.needed k.0.id).1 (inl (k.2 ∙ q)))),
        ))),
        (λ h. (let k = door_from calls row i h.0 in
            door_to calls new i (
              k.0,
              k.1,
              k.2,
              (
                subst (λ s. k.0.since < s) (sym p.door) k.3.0,
                (λ n. ⊎_elim (λ q. h.1 (sym k.2 ∙ q)) k.3.1 ((p.needed k.0.id).0 n)),
                k.3.2,
              ),
            ))),
      );
      finds = λ r u. (
        (λ h. ⊎_elim
            (λ j. inl (finds_to calls row r u j))
            (λ (j : IsFoundBy calls row.door v (record { read = r; value = u })).
            let m = subst (MayRead marks) j.1.4 (is_read j.1.0 j.1.1 j.1.2) in
            inr (m, door_to calls row r (j.1.0, j.1.1, j.1.4, (j.1.3, (λ n. read_not_needed r m (subst (Contains row.needed.items) j.1.4 n)), ap is_set j.1.2)), j.0))
            ((p.finds (record { read = r; value = u })).0 (finds_from calls new r u h))),
        (λ h. finds_to calls new r u ((p.finds (record { read = r; value = u })).1 (⊎_elim
            (λ j. inl (finds_from calls row r u j))
            (λ j.
            let c = read_call r j.0 in
            let d = door_from calls row r j.1 in
            let same : d.0 ≡ c.0 = same_call calls are.once d.0 c.0 d.1 c.1 (d.2 ∙ sym c.2) in
            let early : c.0.since < row.door = subst (λ (x : Call). x.since < row.door) same d.3.0 in
            inr (j.2, (c.0, c.1, c.3, early, c.2)))
            h))),
      );
    }
