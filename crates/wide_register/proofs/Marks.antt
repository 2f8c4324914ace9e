-- what the effect makes of a row is what the mark makes of its end
use Rattle.std.proofs.Common.{◌≡◌, ◌≢◌, ◌↔◌, ℕ, ◌≤◌, ℤ, ◌⊎◌, inl, inr, ⊎_elim, Bool, true, false, IsTrue, nat_eq, map, Option, Some, None, List, [], ◌∷◌, length, refl, sym, ap, ◌∙◌, subst, arith}
use Rattle.std.specs.List.{Contains, filter, list_any}
use Rattle.std.proofs.lemmas.List.Elements.{Contains-append_left, Contains-push, Contains-push_cases}
use Rattle.models.specs.declared.operation.Name.{Name}
use Rattle.models.specs.declared.operation.Name.TheVariants.{Read, Write}
use Rattle.models.specs.declared.operation.Part.{Part}
use Rattle.models.specs.declared.operation.Part.TheVariants.{Nil, Int}
use Rattle.models.specs.declared.operation.Op.{Op}
use Rattle.events.specs.Events.{Mark}
use Rattle.events.specs.Events.Mark.{Invoked, Failed, Crashed}
use Rattle.linspec.specs.Operations.{IsOpen}
use Rattle.linspec.specs.MarkRule.{AreWellFormed}
use Rattle.linspec.specs.LeanEnds.{LeanEnd, IsRead, IsWithRead, Becomes, Reads as ReadsBy}
use Rattle.lean_ends.proofs.Sound.{IsLeft}
use Rattle.wide_register.specs.declared.calls.Call.{Call}
use Rattle.wide_register.specs.declared.calls.What.{What}
use Rattle.wide_register.specs.declared.calls.What.TheVariants.{Writes, Reads}
use Rattle.wide_register.specs.declared.next.Effect.{Effect}
use Rattle.wide_register.specs.declared.next.Effect.TheVariants.{Fails, Keeps}
use Rattle.wide_register.specs.declared.row.Passed.{Passed}
use Rattle.wide_register.specs.declared.row.Row.{Row}
use Rattle.wide_register.specs.Facts.{AreCalls, CanFind, Has, HasCall, HasNextBy, IsEffect, IsNextBy, IsSame, IsWithoutId, calls_with, crashed, end_of, is_other, outlives, what_by}
use Rattle.wide_register.proofs.Ends.{needed_from, needed_to, finds_from, finds_to, same_end, without_once, with_read_once}
use Rattle.wide_register.proofs.Moves.{same_call, without_is, is_read, found_before, found_after}
use Rattle.wide_register.proofs.Others.{filtered, without_read, door_alike, same_row, with_new, with_crash, HaveDoors, HaveReadsOf, read_was_there, read_outlives}

pub reads_by : (name : Name) (part : Part) → what_by name part ≡ Some Reads → (name ≡ Read) × (part ≡ Nil)
reads_by Read Nil e = (refl, refl)
reads_by Write (Int v) e = cc
reads_by _ _ e = cc

pub by_reads : (op : Op) → ReadsBy op → what_by op.name op.part ≡ Some Reads
by_reads op r = ap (λ n. what_by n op.part) r.0 ∙ ap (what_by Read) r.1

reads_or : (w : Option What) → (w ≡ Some Reads) ⊎ (w ≢ Some Reads)
reads_or None = inr (λ e. cc)
reads_or (Some Reads) = inl refl
reads_or (Some (Writes v)) = inr (λ e. cc)

-- the reads after an invocation
pub here_still : (calls : List Call) (now id : ℕ) (w : Option What) → HaveReadsOf (calls_with calls now id w) calls
here_still calls now id None c h q = (c, h, refl, q, refl)
here_still calls now id (Some what) c h q = (c, Contains-append_left calls (record { id = id; what = what; since = now; is_open = true } ∷ []) c h, refl, q, refl)

no_read_begins : (calls : List Call) (now id : ℕ) (w : Option What) → w ≢ Some Reads → HaveReadsOf calls (calls_with calls now id w)
no_read_begins calls now id None n c h q = (c, h, refl, q, refl)
no_read_begins calls now id (Some what) n c h q = ⊎_elim
    (λ k. (c, k, refl, q, refl))
    (λ e. absurd (n (ap Some (ap (λ (x : Call). x.what) e ∙ q))))
    (Contains-push_cases calls (record { id = id; what = what; since = now; is_open = true }) c h)

read_was_begun : (calls : List Call) (now id : ℕ) (w : Option What) → w ≡ Some Reads → (c : Call) → Contains (calls_with calls now id w) c → Contains calls c ⊎ ((c.id ≡ id) × (c.since ≡ now))
read_was_begun calls now id w q c h = ⊎_elim
    (λ k. inl k)
    (λ e. inr (sym (ap (λ (x : Call). x.id) e), sym (ap (λ (x : Call). x.since) e)))
    (Contains-push_cases calls (record { id = id; what = Reads; since = now; is_open = true }) c (subst (λ x. Contains (calls_with calls now id x) c) q h))

read_begins : (calls : List Call) (now id : ℕ) (w : Option What) → w ≡ Some Reads → (c : Call) × Contains (calls_with calls now id w) c × (c.id ≡ id) × (c.what ≡ Reads)
read_begins calls now id w q =
    let c : Call = record { id = id; what = Reads; since = now; is_open = true } in
    (c, subst (λ x. Contains (calls_with calls now id x) c) (sym q) (Contains-push calls c), refl, refl)

-- functions that say the same are the same
same_function : (f g : ℕ → Bool) → ((i : ℕ) → IsTrue (f i) ↔ IsTrue (g i)) → f ≡ g
same_function f g h = ap (λ (e : LeanEnd). e.door) (same_end
    (record { state = None; needed = λ i. false; door = f; finds = λ r v. false })
    (record { state = None; needed = λ i. false; door = g; finds = λ r v. false })
    refl (λ i. ((λ x. x), (λ x. x))) h (λ r v. ((λ x. x), (λ x. x))))

module _ (marks : List Mark) (well : AreWellFormed marks) (calls : List Call) (are : AreCalls calls marks) (row : Row) (low : row.door ≤ length marks) (left : IsLeft marks (end_of calls row)) where
  abbrev e : LeanEnd
  e = end_of calls row

  abbrev now : ℕ
  now = length marks

  -- an invocation, where nothing that is found stood at a later gap
  module _ (id : ℕ) (op : Op) (late : (p : Passed) → Contains row.passed.items p → p.gap ≤ now) where
    abbrev more : List Call
    more = calls_with calls now id (what_by op.name op.part)

    abbrev Doors : HaveDoors calls more row
    Doors = with_new calls now id (what_by op.name op.part) row low

    -- a read that begins finds the state alone
    finds_state : (new : Row) → IsSame row new → (v : ℤ) (t : ℕ) → t ≡ now → CanFind new v t → row.state ≡ Some v
    finds_state new s v t q h = ⊎_elim
        (λ k. absurd (let b = late k.0 (subst (λ l. Contains l k.0) s.passed k.1) in let a = k.3 in omega arith))
        (λ k. sym s.state ∙ k)
        h

    begun : (new : Row) → what_by op.name op.part ≡ Some Reads → IsSame row new → IsWithRead e id (end_of more new)
    begun new q s = record {
      state = s.state;
      needed = ap (λ (ns : List ℕ). λ (i : ℕ). list_any (nat_eq i) ns) s.needed;
      door = same_function (end_of more new).door e.door (door_alike calls more row Doors new s.door s.needed);
      finds = λ r v. (
        (λ h. (let k = finds_from more new r v h in ⊎_elim
            (λ j. inl (finds_to calls row r v (k.0, j, k.2, k.3, found_before row new s.state s.passed v k.0.since k.4)))
            (λ j. inr (sym k.2 ∙ j.0, finds_state new s v k.0.since j.1 k.4))
            (read_was_begun calls now id (what_by op.name op.part) q k.0 k.1))),
        (λ h. ⊎_elim
            (λ g.
            let k = finds_from calls row r v g in
            let b = here_still calls now id (what_by op.name op.part) k.0 k.1 k.3 in
            finds_to more new r v (b.0, b.1, b.2 ∙ k.2, b.3, subst (CanFind new v) (sym b.4) (found_after row new s.state s.passed v k.0.since k.4)))
            (λ k. (let c = read_begins calls now id (what_by op.name op.part) q in finds_to more new r v (c.0, c.1, c.2 ∙ sym k.0, c.3, inr (s.state ∙ k.1))))
            h),
      );
    }

    kept : (new : Row) → what_by op.name op.part ≢ Some Reads → IsSame row new → end_of more new ≡ e
    kept new n s = same_row calls more row Doors (no_read_begins calls now id (what_by op.name op.part) n) (here_still calls now id (what_by op.name op.part)) new s.state s.door s.needed s.passed

    pub invoke_each : (effect : Effect) → effect ≡ Keeps → (new : Row) → IsNextBy calls now effect row new → Becomes marks e (Invoked id op) (end_of more new)
    invoke_each effect d new n = ⊎_elim
        (λ q. inl (reads_by op.name op.part q, begun new q s))
        (λ q. inr ((λ r. q (by_reads op r)), kept new q s))
        (reads_or (what_by op.name op.part))
      where
        s : IsSame row new
        s = subst (λ x. IsNextBy calls now x row new) d n

    pub invoke_all : (effect : Effect) → effect ≡ Keeps → (made : List Row) → HasNextBy calls now effect row made → (f : LeanEnd) → Becomes marks e (Invoked id op) f → Has made (λ new. end_of more new ≡ f)
    invoke_all effect d made n f b =
        let m : Has made (IsSame row) = subst (λ x. HasNextBy calls now x row made) d n in
        ⊎_elim
        (λ j. (m.0, m.1, with_read_once e (end_of more m.0) f id (begun m.0 (by_reads op j.0) m.2) j.1))
        (λ j. (m.0, m.1, kept m.0 (λ q. j.0 (reads_by op.name op.part q)) m.2 ∙ sym j.1))
        b

  -- a fail
  module _ (id : ℕ) where
    abbrev others : List Call
    others = filter (is_other id) calls

    pub fail_each : (effect : Effect) → effect ≡ Fails id → (new : Row) → IsNextBy calls now effect row new → Becomes marks e (Failed id) (end_of others new)
    fail_each effect d new n =
        let k : (¬ Contains row.needed.items id) × IsWithoutId id row new = subst (λ x. IsNextBy calls now x row new) d n in
        ((λ h. k.0 (needed_from calls row id h)), without_is id calls others (filtered id calls) row new k.1)

    pub fail_all : (effect : Effect) → effect ≡ Fails id → (made : List Row) → HasNextBy calls now effect row made → (f : LeanEnd) → Becomes marks e (Failed id) f → Has made (λ new. end_of others new ≡ f)
    fail_all effect d made n f b =
        let k : (¬ Contains row.needed.items id) → Has made (IsWithoutId id row) = subst (λ x. HasNextBy calls now x row made) d n in
        let m = k (λ h. b.0 (needed_to calls row id h)) in
        (m.0, m.1, without_once e (end_of others m.0) f id (without_is id calls others (filtered id calls) row m.0 m.2) b.1)

  -- a crash
  module _ (id : ℕ) (open' : IsOpen marks id) where
    abbrev left_ones : List Call
    left_ones = map (crashed id) (filter (outlives id) calls)

    read_of : IsRead marks id → (c : Call) × HasCall calls id Reads c
    read_of r = let k = are.all id Reads (r, open') in (k.0, (k.1, k.2, k.3))

    all_read : (c : Call) → HasCall calls id Reads c → (b : Call) → Contains calls b → b.id ≡ id → b.what ≡ Reads
    all_read c h b k q = ap (λ (x : Call). x.what) (same_call calls are.once b c k h.0 (q ∙ sym h.1)) ∙ h.2

    is_a_read : (c : Call) → HasCall calls id Reads c → IsRead marks id
    is_a_read c h = subst (IsRead marks) h.1 (is_read marks well calls are row low left c h.0 h.2).0

    abbrev Silent : Type 0
    Silent = ((c : Call) → Contains calls c → c.id ≢ id) ⊎ ((c : Call) × (v : ℤ) × HasCall calls id (Writes v) c)

    not_read : Silent → (c : Call) → Contains calls c → c.id ≡ id → c.what ≢ Reads
    not_read s c h q r = ⊎_elim
        (λ n. n c h q)
        (λ w.
        let same : c.what ≡ w.0.what = ap (λ (x : Call). x.what) (same_call calls are.once c w.0 h w.2.0 (q ∙ sym w.2.1)) in
        let e : Reads ≡ Writes w.1 = sym r ∙ same ∙ w.2.2 in
        cc e)
        s

    pub crash_each : (effect : Effect) → IsEffect calls (Crashed id) effect → (new : Row) → IsNextBy calls now effect row new → Becomes marks e (Crashed id) (end_of left_ones new)
    crash_each effect d new n = ⊎_elim
        (λ k. inl (is_a_read k.0 k.1, without_is id calls left_ones (without_read id calls (all_read k.0 k.1)) row new (subst (λ x. IsNextBy calls now x row new) k.2 n)))
        (λ k. inr (
          (λ r. (let c = read_of r in not_read k.0 c.0 c.1.0 c.1.1 c.1.2)),
          (let s : IsSame row new = subst (λ x. IsNextBy calls now x row new) k.1 n in same_row calls left_ones row (with_crash id calls row (not_read k.0)) (read_was_there id calls) (read_outlives id calls (not_read k.0)) new s.state s.door s.needed s.passed),
        ))
        d

    pub crash_all : (effect : Effect) → IsEffect calls (Crashed id) effect → (made : List Row) → HasNextBy calls now effect row made → (f : LeanEnd) → Becomes marks e (Crashed id) f → Has made (λ new. end_of left_ones new ≡ f)
    crash_all effect d made n f b = ⊎_elim
        (λ k.
        let m : Has made (IsWithoutId id row) = subst (λ x. HasNextBy calls now x row made) k.2 n in
        ⊎_elim
        (λ j. (m.0, m.1, without_once e (end_of left_ones m.0) f id (without_is id calls left_ones (without_read id calls (all_read k.0 k.1)) row m.0 m.2) j.1))
        (λ j. absurd (j.0 (is_a_read k.0 k.1)))
        b)
        (λ k.
        let m : Has made (IsSame row) = subst (λ x. HasNextBy calls now x row made) k.1 n in
        let s : IsSame row m.0 = m.2 in
        ⊎_elim
        (λ j. absurd (let c = read_of j.0 in not_read k.0 c.0 c.1.0 c.1.1 c.1.2))
        (λ j. (m.0, m.1, same_row calls left_ones row (with_crash id calls row (not_read k.0)) (read_was_there id calls) (read_outlives id calls (not_read k.0)) m.0 s.state s.door s.needed s.passed ∙ sym j.1))
        b)
        d
