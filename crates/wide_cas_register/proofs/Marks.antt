-- what the effect makes of a row is what the mark makes of its end: an invocation, a fail and a crash
use Rattle.std.proofs.Common.{◌≡◌, ◌≢◌, ◌↔◌, ℕ, ◌≤◌, ◌⊎◌, inl, inr, ⊎_elim, Bool, false, IsTrue, nat_eq, map, None, List, length, refl, sym, ap, ◌∙◌, subst}
use Rattle.std.specs.List.{Contains, filter, list_any}
use Rattle.std.proofs.lemmas.Bool.{true≢false}
use Rattle.models.specs.declared.operation.Op.{Op}
use Rattle.events.specs.Events.{Mark}
use Rattle.events.specs.Events.Mark.{Invoked, Failed, Crashed}
use Rattle.linspec.specs.Operations.{IsOpen}
use Rattle.linspec.specs.MarkRule.{AreWellFormed}
use Rattle.linspec.specs.LeanEnds.{LeanEnd, IsRead, IsWithRead}
use Rattle.linspec.specs.CasEnds.{Becomes}
use Rattle.cas_ends.proofs.Stands.{IsLeft}
use Rattle.wide_cas_register.specs.declared.calls.Call.{Call}
use Rattle.wide_cas_register.specs.declared.calls.What.TheVariants.{Reads}
use Rattle.wide_cas_register.specs.declared.next.Effect.{Effect}
use Rattle.wide_cas_register.specs.declared.next.Effect.TheVariants.{Fails}
use Rattle.wide_cas_register.specs.declared.row.Row.{Row}
use Rattle.wide_cas_register.specs.Facts.{AllOfRow, AreCalls, HasCall, IsBegun, IsEffect, IsSame, IsWithoutId, OfRow, calls_with, crashed, end_of, is_other, is_read, outlives, what_by}
use Rattle.wide_cas_register.proofs.Ends.{needed_from, needed_to, finds_from, finds_to, same_end, without_once, with_read_once}
use Rattle.wide_cas_register.proofs.Moves.{same_call, without_is, is_read as read_is}
use Rattle.wide_cas_register.proofs.Others.{filtered, without_read, door_alike, same_row, with_new, with_crash}
use Rattle.wide_cas_register.proofs.Reading.{reads_by, by_reads}

-- some row is so, and is that of the end
abbrev pub Hits : List Call → LeanEnd → (Row → Type 0) → Type 0
Hits calls f P = (new : Row) × P new × (end_of calls new ≡ f)

-- functions that say the same are the same
same_function : (f g : ℕ → Bool) → ((i : ℕ) → IsTrue (f i) ↔ IsTrue (g i)) → f ≡ g
same_function f g h = ap (λ (e : LeanEnd). e.door) (same_end
    (record { state = None; needed = λ i. false; door = f; finds = λ r v. false })
    (record { state = None; needed = λ i. false; door = g; finds = λ r v. false })
    refl (λ i. ((λ x. x), (λ x. x))) h (λ r v. ((λ x. x), (λ x. x))))

module _ (marks : List Mark) (well : AreWellFormed marks) (calls : List Call) (are : AreCalls calls marks) (row : Row) (low : row.door ≤ length marks) (left : IsLeft marks (end_of calls row)) where
  abbrev e : LeanEnd
  e = end_of calls row

  abbrev now : ℕ
  now = length marks

  -- an invocation
  module _ (id : ℕ) (op : Op) where
    abbrev more : List Call
    more = calls_with calls now id (what_by op.name op.part)

    begun : (new : Row) → IsBegun id row new → IsWithRead e id (end_of more new)
    begun new b = record {
      state = b.state;
      needed = ap (λ (ns : List ℕ). λ (i : ℕ). list_any (nat_eq i) ns) b.needed;
      door = same_function (end_of more new).door e.door (door_alike calls more row (with_new calls now id (what_by op.name op.part) row low) new b.door b.needed);
      finds = λ r v. (
        (λ h. ⊎_elim (λ k. inl (finds_to calls row r v k)) (λ k. inr k) ((b.finds (record { read = r; value = v })).0 (finds_from more new r v h))),
        (λ h. finds_to more new r v ((b.finds (record { read = r; value = v })).1 (⊎_elim (λ k. inl (finds_from calls row r v k)) (λ k. inr k) h))),
      );
    }

    kept : (new : Row) → IsSame row new → end_of more new ≡ e
    kept new s = same_row calls more row (with_new calls now id (what_by op.name op.part) row low) new s.state s.door s.needed s.finds

    pub invoke_each : (effect : Effect) → IsEffect calls (Invoked id op) effect → (new : Row) → OfRow calls effect row new → Becomes marks e (Invoked id op) (end_of more new)
    invoke_each effect d new n = ⊎_elim
        (λ k. inl (reads_by op.name op.part k.0, begun new (subst (λ x. OfRow calls x row new) k.1 n)))
        (λ k. inr ((λ r. k.0 (by_reads op r)), kept new (subst (λ x. OfRow calls x row new) k.1 n)))
        d

    pub invoke_all : (effect : Effect) → IsEffect calls (Invoked id op) effect → (P : Row → Type 0) → AllOfRow calls effect row P → (f : LeanEnd) → Becomes marks e (Invoked id op) f → Hits more f P
    invoke_all effect d P n f b = ⊎_elim
        (λ k.
        let m : (new : Row) × IsBegun id row new × P new = subst (λ x. AllOfRow calls x row P) k.1 n in
        ⊎_elim
        (λ j. (m.0, m.2, with_read_once e (end_of more m.0) f id (begun m.0 m.1) j.1))
        (λ j. absurd (j.0 (reads_by op.name op.part k.0)))
        b)
        (λ k.
        let m : (new : Row) × IsSame row new × P new = subst (λ x. AllOfRow calls x row P) k.1 n in
        ⊎_elim
        (λ j. absurd (k.0 (by_reads op j.0)))
        (λ j. (m.0, m.2, kept m.0 m.1 ∙ sym j.1))
        b)
        d

  -- a fail
  module _ (id : ℕ) where
    abbrev others : List Call
    others = filter (is_other id) calls

    pub fail_each : (effect : Effect) → effect ≡ Fails id → (new : Row) → OfRow calls effect row new → Becomes marks e (Failed id) (end_of others new)
    fail_each effect d new n =
        let k : (¬ Contains row.needed.items id) × IsWithoutId id row new = subst (λ x. OfRow calls x row new) d n in
        ((λ h. k.0 (needed_from calls row id h)), without_is id calls others (filtered id calls) row new k.1)

    pub fail_all : (effect : Effect) → effect ≡ Fails id → (P : Row → Type 0) → AllOfRow calls effect row P → (f : LeanEnd) → Becomes marks e (Failed id) f → Hits others f P
    fail_all effect d P n f b =
        let k : (¬ Contains row.needed.items id) → (new : Row) × IsWithoutId id row new × P new = subst (λ x. AllOfRow calls x row P) d n in
        let m = k (λ h. b.0 (needed_to calls row id h)) in
        (m.0, m.2, without_once e (end_of others m.0) f id (without_is id calls others (filtered id calls) row m.0 m.1) b.1)

  -- a crash
  module _ (id : ℕ) (open' : IsOpen marks id) where
    abbrev left_ones : List Call
    left_ones = map (crashed id) (filter (outlives id) calls)

    read_of : IsRead marks id → (c : Call) × HasCall calls id Reads c
    read_of r = let k = are.all id Reads (r, open') in (k.0, (k.1, k.2, k.3))

    all_read : (c : Call) → HasCall calls id Reads c → (b : Call) → Contains calls b → b.id ≡ id → b.what ≡ Reads
    all_read c h b k q = ap (λ (x : Call). x.what) (same_call calls are.once b c k h.0 (q ∙ sym h.1)) ∙ h.2

    is_a_read : (c : Call) → HasCall calls id Reads c → IsRead marks id
    is_a_read c h = subst (IsRead marks) h.1 (read_is marks well calls are row left c h.0 h.2).0

    abbrev Silent : Type 0
    Silent = ((c : Call) → Contains calls c → c.id ≢ id) ⊎ ((c : Call) × HasCall calls id c.what c × (is_read c.what ≡ false))

    not_read : Silent → (c : Call) → Contains calls c → c.id ≡ id → c.what ≢ Reads
    not_read s c h q r = ⊎_elim
        (λ n. n c h q)
        (λ w.
        let same : c.what ≡ w.0.what = ap (λ (x : Call). x.what) (same_call calls are.once c w.0 h w.1.0 (q ∙ sym w.1.1)) in
        true≢false (ap is_read (sym r ∙ same) ∙ w.2))
        s

    pub crash_each : (effect : Effect) → IsEffect calls (Crashed id) effect → (new : Row) → OfRow calls effect row new → Becomes marks e (Crashed id) (end_of left_ones new)
    crash_each effect d new n = ⊎_elim
        (λ k. inl (is_a_read k.0 k.1, without_is id calls left_ones (without_read id calls (all_read k.0 k.1)) row new (subst (λ x. OfRow calls x row new) k.2 n)))
        (λ k. inr (
          (λ r. (let c = read_of r in not_read k.0 c.0 c.1.0 c.1.1 c.1.2)),
          (let s : IsSame row new = subst (λ x. OfRow calls x row new) k.1 n in same_row calls left_ones row (with_crash id calls row (not_read k.0)) new s.state s.door s.needed s.finds),
        ))
        d

    pub crash_all : (effect : Effect) → IsEffect calls (Crashed id) effect → (P : Row → Type 0) → AllOfRow calls effect row P → (f : LeanEnd) → Becomes marks e (Crashed id) f → Hits left_ones f P
    crash_all effect d P n f b = ⊎_elim
        (λ k.
        let m : (new : Row) × IsWithoutId id row new × P new = subst (λ x. AllOfRow calls x row P) k.2 n in
        ⊎_elim
        (λ j. (m.0, m.2, without_once e (end_of left_ones m.0) f id (without_is id calls left_ones (without_read id calls (all_read k.0 k.1)) row m.0 m.1) j.1))
        (λ j. absurd (j.0 (is_a_read k.0 k.1)))
        b)
        (λ k.
        let m : (new : Row) × IsSame row new × P new = subst (λ x. AllOfRow calls x row P) k.1 n in
        let s : IsSame row m.0 = m.1 in
        ⊎_elim
        (λ j. absurd (let c = read_of j.0 in not_read k.0 c.0 c.1.0 c.1.1 c.1.2))
        (λ j. (m.0, m.2, same_row calls left_ones row (with_crash id calls row (not_read k.0)) m.0 s.state s.door s.needed s.finds ∙ sym j.1))
        b)
        d
