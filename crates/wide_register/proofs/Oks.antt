-- the same of an ok
use Rattle.std.proofs.Common.{◌≡◌, ◌≢◌, ℕ, ◌≤◌, ℤ, ◌⊎◌, inl, inr, ⊎_elim, IsTrue, List, length, refl, sym, ap, ◌∙◌, subst}
use Rattle.std.specs.List.{Contains, filter}
use Rattle.models.specs.declared.finding.Answer.{Answer}
use Rattle.models.specs.declared.finding.Answer.TheVariants.{Nothing, Number}
use Rattle.events.specs.Events.{Mark}
use Rattle.events.specs.Events.Mark.{Returned}
use Rattle.linspec.specs.Operations.{IsOpen}
use Rattle.linspec.specs.MarkRule.{AreWellFormed}
use Rattle.linspec.specs.LeanEnds.{LeanEnd, IsWriteOf, IsRead, IsPutBehind, IsPutBefore, IsWithout, EndsWrite as EndsWriteBy, EndsRead as EndsReadBy, Becomes}
use Rattle.lean_ends.proofs.Once.{read_no_write, same_value}
use Rattle.lean_ends.proofs.Sound.{IsLeft}
use Rattle.wide_register.specs.declared.calls.Call.{Call}
use Rattle.wide_register.specs.declared.calls.What.TheVariants.{Writes, Reads}
use Rattle.wide_register.specs.declared.next.Effect.{Effect}
use Rattle.wide_register.specs.declared.next.Effect.TheVariants.{EndsWrite, EndsRead}
use Rattle.wide_register.specs.declared.row.Row.{Row}
use Rattle.wide_register.specs.Facts.{AreCalls, CanFind, Has, HasCall, HasDoor, HasNextBy, HasPuts, IsEffect, IsNextBy, IsPutOf, IsWithoutId, end_of, is_other}
use Rattle.wide_register.proofs.Ends.{needed_from, needed_to, door_from, door_to, finds_from, finds_to, without_once, behind_once, before_once}
use Rattle.wide_register.proofs.Moves.{same_call, without_is, is_behind, is_before, is_read, is_write}
use Rattle.wide_register.proofs.Others.{filtered}

module _ (marks : List Mark) (well : AreWellFormed marks) (calls : List Call) (are : AreCalls calls marks) (row : Row) (low : row.door ≤ length marks) (left : IsLeft marks (end_of calls row)) where
  abbrev e : LeanEnd
  e = end_of calls row

  abbrev now : ℕ
  now = length marks

  -- a door of a call is one of its id
  door_of : (c : Call) → Contains calls c → HasDoor row c → IsTrue (e.door c.id)
  door_of c h d = door_to calls row c.id (c, h, refl, d)

  of_door : (c : Call) → Contains calls c → IsTrue (e.door c.id) → HasDoor row c
  of_door c h d =
      let k = door_from calls row c.id d in
      subst (HasDoor row) (same_call calls are.once k.0 c k.1 h k.2) k.3

  module _ (out : ℕ) where
    abbrev others : List Call
    others = filter (is_other out) calls

    abbrev Puts : ℕ → ℤ → Type 0 → LeanEnd → Type 0
    Puts w v before f = (g : LeanEnd) × (IsPutBehind marks e w v g ⊎ (before × IsPutBefore marks e w v g)) × IsWithout g out f

    put_each : (c : Call) (v : ℤ) (before : Type 0) → (before → IsTrue (e.door c.id)) → (new : Row) → IsPutOf now c v out before row new → Puts c.id v before (end_of others new)
    put_each c v before door new p = ⊎_elim
        (λ q. (let g = is_behind marks well calls are row low left out others (filtered out calls) c.id v new q in (g.0, inl g.1, g.2)))
        (λ q. (let g = is_before marks well calls are row low left out others (filtered out calls) c.id v new (door q.0) q.1 in (g.0, inr (q.0, g.1), g.2)))
        p

    put_all : (c : Call) (v : ℤ) (before : Type 0) → (made : List Row) → HasPuts now c v out before row made → (f : LeanEnd) → Puts c.id v before f → Has made (λ new. end_of others new ≡ f)
    put_all c v before made h f p = ⊎_elim
        (λ b.
        let m = h.0 in
        let g = is_behind marks well calls are row low left out others (filtered out calls) c.id v m.0 m.2 in
        let same : g.0 ≡ p.0 = behind_once marks e g.0 p.0 c.id v g.1 b in
        (m.0, m.1, without_once p.0 (end_of others m.0) f out (subst (λ x. IsWithout x out (end_of others m.0)) same g.2) p.2))
        (λ b.
        let m = h.1 b.0 in
        let g = is_before marks well calls are row low left out others (filtered out calls) c.id v m.0 b.1.may m.2 in
        let same : g.0 ≡ p.0 = before_once marks e g.0 p.0 c.id v g.1 b.1 in
        (m.0, m.1, without_once p.0 (end_of others m.0) f out (subst (λ x. IsWithout x out (end_of others m.0)) same g.2) p.2))
        p.1

  -- the ok of a write
  module _ (c : Call) (v : ℤ) (h : Contains calls c) (is : c.what ≡ Writes v) where
    write_each : (new : Row) → IsNextBy calls now (EndsWrite c v) row new → EndsWriteBy marks e c.id v (end_of (filter (is_other c.id) calls) new)
    write_each new n = ⊎_elim
        (λ k. inl (needed_to calls row c.id k.0, without_is c.id calls (filter (is_other c.id) calls) (filtered c.id calls) row new k.1))
        (λ k.
        let p = put_each c.id c v (HasDoor row c) (door_of c h) new k.1 in
        inr ((λ d. k.0 (needed_from calls row c.id d)), (p.0, ⊎_elim (λ b. inl b) (λ b. inr b.1) p.1, p.2)))
        n

    write_all : (made : List Row) → HasNextBy calls now (EndsWrite c v) row made → (f : LeanEnd) → EndsWriteBy marks e c.id v f → Has made (λ new. end_of (filter (is_other c.id) calls) new ≡ f)
    write_all made n f b = ⊎_elim
        (λ k.
        let m = n.0 (needed_from calls row c.id k.0) in
        (m.0, m.1, without_once e (end_of (filter (is_other c.id) calls) m.0) f c.id (without_is c.id calls (filter (is_other c.id) calls) (filtered c.id calls) row m.0 m.2) k.1))
        (λ k. put_all c.id c v (HasDoor row c) made (n.1 (λ d. k.0 (needed_to calls row c.id d))) f
        (k.1.0, ⊎_elim (λ q. inl q) (λ (q : IsPutBefore marks e c.id v k.1.0). inr (of_door c h q.may, q)) k.1.1, k.1.2))
        b

  -- the ok of a read that answers v
  module _ (r : Call) (v : ℤ) (h : Contains calls r) (is : r.what ≡ Reads) where
    abbrev rest : List Call
    rest = filter (is_other r.id) calls

    finds_of : CanFind row v r.since → IsTrue (e.finds r.id v)
    finds_of k = finds_to calls row r.id v (r, h, refl, is, k)

    of_finds : IsTrue (e.finds r.id v) → CanFind row v r.since
    of_finds k =
        let f = finds_from calls row r.id v k in
        subst (λ (c : Call). CanFind row v c.since) (same_call calls are.once f.0 r f.1 h f.2) f.4

    read_each : (new : Row) → IsNextBy calls now (EndsRead r v) row new → EndsReadBy marks e r.id v (end_of rest new)
    read_each new n = ⊎_elim
        (λ k. inl (finds_of k.0, without_is r.id calls rest (filtered r.id calls) row new k.1))
        (λ k.
        let c = k.1.0 in
        let i : Contains calls c = k.1.1 in
        let p = put_each r.id c v (HasDoor row r × HasDoor row c) (λ d. door_of c i d.1) new k.1.3 in
        inr (
          (λ d. k.0 (of_finds d)),
          (
            c.id,
            p.0,
            is_write marks well calls are row low left c v i k.1.2.0,
            (λ d. k.1.2.1 (needed_from calls row c.id d)),
            ⊎_elim (λ b. inl b) (λ b. inr (door_of r h b.0.0, b.1)) p.1,
            p.2,
          ),
        ))
        n

    read_all : (made : List Row) → HasNextBy calls now (EndsRead r v) row made → (f : LeanEnd) → EndsReadBy marks e r.id v f → Has made (λ new. end_of rest new ≡ f)
    read_all made n f b = ⊎_elim
        (λ k.
        let m = n.0 (of_finds k.0) in
        (m.0, m.1, without_once e (end_of rest m.0) f r.id (without_is r.id calls rest (filtered r.id calls) row m.0 m.2) k.1))
        (λ k.
        let x = k.1.0 in
        let g = k.1.1 in
        let c = are.all x (Writes v) k.1.2 in
        let same : c.0.id ≡ x = c.2 in
        put_all r.id c.0 v (HasDoor row r × HasDoor row c.0) made
        (n.1 (λ d. k.0 (finds_of d)) c.0 c.1 (c.3, (λ d. k.1.3 (needed_to calls row x (subst (Contains row.needed.items) same d)))))
        f (
          g,
          ⊎_elim
              (λ (q : IsPutBehind marks e x v g). inl (subst (λ i. IsPutBehind marks e i v g) (sym same) q))
              (λ (q : IsTrue (e.door r.id) × IsPutBefore marks e x v g).
              let q' = subst (λ i. IsPutBefore marks e i v g) (sym same) q.1 in
              inr ((of_door r h q.0, of_door c.0 c.1 q'.may), q'))
              k.1.4,
          k.1.5,
        ))
        b

  module _ (id : ℕ) (answer : Answer) (open' : IsOpen marks id) (effect : Effect) where
    abbrev after : List Call
    after = filter (is_other id) calls

    a_read : (c : Call) → HasCall calls id Reads c → IsRead marks id
    a_read c h = subst (IsRead marks) h.1 (is_read marks well calls are row low left c h.0 h.2).0

    a_write : (c : Call) (v : ℤ) → HasCall calls id (Writes v) c → IsWriteOf marks id v
    a_write c v h = subst (λ i. IsWriteOf marks i v) h.1 (is_write marks well calls are row low left c v h.0 h.2).write

    read_of : IsRead marks id → (c : Call) × HasCall calls id Reads c
    read_of r = let k = are.all id Reads (r, open') in (k.0, (k.1, k.2, k.3))

    write_of : (v : ℤ) → IsWriteOf marks id v → (c : Call) × HasCall calls id (Writes v) c
    write_of v w = let k = are.all id (Writes v) (record { write = w; not_returned = open'.not_returned; not_failed = open'.not_failed }) in (k.0, (k.1, k.2, k.3))

    abbrev Silent : Type 0
    Silent = ((c : Call) → Contains calls c → c.id ≢ id) ⊎ ((c : Call) × HasCall calls id Reads c × (answer ≢ Nothing) × ((v : ℤ) → answer ≢ Number v))

    silent : Silent → (c : Call) → Contains calls c → c.id ≡ id → (c.what ≡ Reads) × (answer ≢ Nothing) × ((v : ℤ) → answer ≢ Number v)
    silent s c h q = ⊎_elim
        (λ n. absurd (n c h q))
        (λ w. (ap (λ (x : Call). x.what) (same_call calls are.once c w.0 h w.1.0 (q ∙ sym w.1.1)) ∙ w.1.2, w.2, w.3))
        s

    pub ok_each : IsEffect calls (Returned id answer) effect → (new : Row) → IsNextBy calls now effect row new → Becomes marks e (Returned id answer) (end_of after new)
    ok_each d new n = ⊎_elim
        (λ k.
        let c = k.0 in
        let v = k.1 in
        let h : HasCall calls id (Writes v) c = k.2 in
        let ends = write_each c v h.0 h.2 new (subst (λ x. IsNextBy calls now x row new) k.3 n) in
        inl (v, a_write c v h, subst (λ i. EndsWriteBy marks e i v (end_of (filter (is_other i) calls) new)) h.1 ends))
        (λ d1. ⊎_elim
        (λ k.
        let w : IsWithoutId id row new = subst (λ x. IsNextBy calls now x row new) k.3 n in
        inr (inl (a_read k.0 k.1, k.2, without_is id calls after (filtered id calls) row new w)))
        (λ d2. ⊎_elim
        (λ k.
        let c = k.0 in
        let v = k.1 in
        let h : HasCall calls id Reads c = k.2 in
        let ends = read_each c v h.0 h.2 new (subst (λ x. IsNextBy calls now x row new) k.4 n) in
        inr (inr (v, a_read c h, k.3, subst (λ i. EndsReadBy marks e i v (end_of (filter (is_other i) calls) new)) h.1 ends)))
        (λ k. absurd (subst (λ x. IsNextBy calls now x row new) k.0 n))
        d2)
        d1)
        d

    pub ok_all : IsEffect calls (Returned id answer) effect → (made : List Row) → HasNextBy calls now effect row made → (f : LeanEnd) → Becomes marks e (Returned id answer) f → Has made (λ new. end_of after new ≡ f)
    ok_all d made n f b = ⊎_elim
        (λ k.
        let c = k.0 in
        let v = k.1 in
        let h : HasCall calls id (Writes v) c = k.2 in
        let n' = subst (λ x. HasNextBy calls now x row made) k.3 n in
        ⊎_elim
        (λ j.
        let same : j.0 ≡ v = same_value marks well id j.0 v j.1 (a_write c v h) in
        let b' : EndsWriteBy marks e c.id v f = subst (λ i. EndsWriteBy marks e i v f) (sym h.1) (subst (λ w. EndsWriteBy marks e id w f) same j.2) in
        subst (λ i. Has made (λ new. end_of (filter (is_other i) calls) new ≡ f)) h.1 (write_all c v h.0 h.2 made n' f b'))
        (λ b1. ⊎_elim (λ j. absurd (read_no_write marks well id v j.0 (a_write c v h))) (λ j. absurd (read_no_write marks well id v j.1 (a_write c v h))) b1)
        b)
        (λ d1. ⊎_elim
        (λ k.
        let m : Has made (IsWithoutId id row) = subst (λ x. HasNextBy calls now x row made) k.3 n in
        ⊎_elim
        (λ j. absurd (read_no_write marks well id j.0 (a_read k.0 k.1) j.1))
        (λ b1. ⊎_elim
        (λ j. (m.0, m.1, without_once e (end_of after m.0) f id (without_is id calls after (filtered id calls) row m.0 m.2) j.2))
        (λ j. absurd (let q : Nothing ≡ Number j.0 = sym k.2 ∙ j.2 in cc))
        b1)
        b)
        (λ d2. ⊎_elim
        (λ k.
        let c = k.0 in
        let v = k.1 in
        let h : HasCall calls id Reads c = k.2 in
        let n' = subst (λ x. HasNextBy calls now x row made) k.4 n in
        ⊎_elim
        (λ j. absurd (read_no_write marks well id j.0 (a_read c h) j.1))
        (λ b1. ⊎_elim
        (λ j. absurd (let q : Nothing ≡ Number v = sym j.1 ∙ k.3 in cc))
        (λ j.
        let q : Number j.0 ≡ Number v = sym j.2 ∙ k.3 in
        let same : j.0 ≡ v = cc in
        let b' : EndsReadBy marks e c.id v f = subst (λ i. EndsReadBy marks e i v f) (sym h.1) (subst (λ w. EndsReadBy marks e id w f) same j.3) in
        subst (λ i. Has made (λ new. end_of (filter (is_other i) calls) new ≡ f)) h.1 (read_all c v h.0 h.2 made n' f b'))
        b1)
        b)
        (λ k. ⊎_elim
        (λ j. (let c = write_of j.0 j.1 in let q : Writes j.0 ≡ Reads = sym c.1.2 ∙ (silent k.1 c.0 c.1.0 c.1.1).0 in absurd (cc q)))
        (λ b1. ⊎_elim
        (λ j. (let c = read_of j.0 in absurd ((silent k.1 c.0 c.1.0 c.1.1).1 j.1)))
        (λ j. (let c = read_of j.1 in absurd ((silent k.1 c.0 c.1.0 c.1.1).2 j.0 j.2)))
        b1)
        b)
        d2)
        d1)
        d
