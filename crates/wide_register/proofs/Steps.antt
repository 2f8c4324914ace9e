-- the kept facts after an event are those of the history with its mark
use Rattle.std.proofs.Common.{◌≡◌, ℕ, ◌+◌, ◌≤◌, ◌⊎◌, ⊎_elim, Some, List, [], ◌∷◌, ◌++◌, length, map, sym, ap, ◌∙◌, subst, arith, length-append, append-nil}
use Rattle.std.specs.List.{Contains}
use Rattle.events.specs.Events.{Mark}
use Rattle.events.specs.Events.Mark.{Invoked, Returned, Failed, Crashed}
use Rattle.linspec.specs.MarkRule.{AreWellFormed, MayFollow}
use Rattle.linspec.specs.Orders.{Pairwise}
use Rattle.linspec.proofs.Lists.{Pairwise-weaker, snoc_cut}
use Rattle.linspec.specs.LeanEnds.{LeanEnd, Becomes, IsAtMost}
use Rattle.lean_ends.proofs.Left.{are_left, left_then}
use Rattle.lean_ends.proofs.Sound.{IsLeft, left_after}
use Rattle.wide_register.specs.declared.calls.Call.{Call}
use Rattle.wide_register.specs.declared.next.Effect.{Effect}
use Rattle.wide_register.specs.declared.next.Effect.TheVariants.{Keeps, Leaves, Fails, EndsWrite, EndsRead, Dies}
use Rattle.wide_register.specs.declared.row.Passed.{Passed}
use Rattle.wide_register.specs.declared.row.Row.{Row}
use Rattle.wide_register.specs.declared.kept.Kept.{Kept}
use Rattle.wide_register.specs.Facts.{AreCalls, AreFacts, FindTheSame, Has, HasLeastGaps, HasNextBy, IsAfter, IsAtMostBy, IsEffect, IsNextBy, IsPut, calls_after, end_of, moments_of}
use Rattle.wide_register.proofs.AtMost.{end_at_most, row_at_most}
use Rattle.wide_register.proofs.Marks.{invoke_each, invoke_all, fail_each, fail_all, crash_each, crash_all}
use Rattle.wide_register.proofs.Oks.{ok_each, ok_all}
use Rattle.wide_register.proofs.Others.{map_from, map_to}
use Rattle.wide_register.proofs.Pending.{are_after, Pairwise-map}
use Rattle.wide_register.proofs.Trimming.{end_told, of_moments}

pub well_then : (marks : List Mark) (m : Mark) → AreWellFormed marks → MayFollow marks m → AreWellFormed (marks ++ m ∷ [])
well_then marks m well may xs ys n cut = ⊎_elim
    (λ (e : n ∷ ys ≡ []). absurd (let no : ⊥ = cc in no))
    (λ k. by_rest k.0 k.1 k.2)
    (snoc_cut xs (n ∷ ys) marks m cut)
  where
    by_rest : (rest : List Mark) → n ∷ ys ≡ rest ++ m ∷ [] → xs ++ rest ≡ marks → MayFollow xs n
    by_rest [] e f =
        let same : n ≡ m = cc in
        let front : xs ≡ marks = sym (append-nil xs) ∙ f in
        subst (λ l. MayFollow l n) (sym front) (subst (MayFollow marks) (sym same) may)
    by_rest (r ∷ rest) e f =
        let same : n ≡ r = cc in
        well xs rest n (ap (λ x. xs ++ x ∷ rest) same ∙ f)

module _ (marks : List Mark) (m : Mark) (well : AreWellFormed marks) (may : MayFollow marks m) (calls : List Call) (are : AreCalls calls marks) (row : Row) (low : row.door ≤ length marks) (late : (p : Passed) → Contains row.passed.items p → p.gap ≤ length marks) (left : IsLeft marks (end_of calls row)) (effect : Effect) (is : IsEffect calls m effect) where
  abbrev after : List Call
  after = calls_after calls (length marks) m

  abbrev Each : Type 0
  Each = (new : Row) → IsNextBy calls (length marks) effect row new → Becomes marks (end_of calls row) m (end_of after new)

  abbrev All : Type 0
  All = (made : List Row) → HasNextBy calls (length marks) effect row made → (f : LeanEnd) → Becomes marks (end_of calls row) m f → Has made (λ new. end_of after new ≡ f)

next_each : (marks : List Mark) (m : Mark) (well : AreWellFormed marks) (may : MayFollow marks m) (calls : List Call) (are : AreCalls calls marks) (row : Row) (low : row.door ≤ length marks) (late : (p : Passed) → Contains row.passed.items p → p.gap ≤ length marks) (left : IsLeft marks (end_of calls row)) (effect : Effect) (is : IsEffect calls m effect) → Each marks m well may calls are row low late left effect is
next_each marks (Invoked id op) well may calls are row low late left effect is = invoke_each marks well calls are row low left id op late effect is
next_each marks (Returned id answer) well may calls are row low late left effect is = ok_each marks well calls are row low left id answer may effect is
next_each marks (Failed id) well may calls are row low late left effect is = fail_each marks well calls are row low left id effect is
next_each marks (Crashed id) well may calls are row low late left effect is = crash_each marks well calls are row low left id may effect is

next_all : (marks : List Mark) (m : Mark) (well : AreWellFormed marks) (may : MayFollow marks m) (calls : List Call) (are : AreCalls calls marks) (row : Row) (low : row.door ≤ length marks) (late : (p : Passed) → Contains row.passed.items p → p.gap ≤ length marks) (left : IsLeft marks (end_of calls row)) (effect : Effect) (is : IsEffect calls m effect) → All marks m well may calls are row low late left effect is
next_all marks (Invoked id op) well may calls are row low late left effect is = invoke_all marks well calls are row low left id op late effect is
next_all marks (Returned id answer) well may calls are row low late left effect is = ok_all marks well calls are row low left id answer may effect is
next_all marks (Failed id) well may calls are row low late left effect is = fail_all marks well calls are row low left id effect is
next_all marks (Crashed id) well may calls are row low late left effect is = crash_all marks well calls are row low left id may effect is

put_door : {P Q : Type 0} (row new : Row) (now : ℕ) → row.door ≤ now → (P → new.door ≡ now) → (Q → new.door ≡ row.door) → P ⊎ Q → new.door ≤ now
put_door row new now low p q h = ⊎_elim (λ x. (let d = p x in omega arith)) (λ x. (let d = q x in omega arith)) h

same_door : (row new : Row) (now : ℕ) → row.door ≤ now → new.door ≡ row.door → new.door ≤ now
same_door row new now low d = omega arith

next_door : (calls : List Call) (now : ℕ) (effect : Effect) (row new : Row) → row.door ≤ now → IsNextBy calls now effect row new → new.door ≤ now
next_door calls now Keeps row new low n = same_door row new now low n.door
next_door calls now (Leaves id) row new low n = same_door row new now low n.door
next_door calls now (Fails id) row new low n = same_door row new now low n.1.door
next_door calls now (EndsWrite w v) row new low n = ⊎_elim
    (λ k. same_door row new now low k.1.door)
    (λ k. put_door row new now low (λ (p : IsPut w.id row.state now (Some v) w.id row new). p.door) (λ p. p.1.door) k.1)
    n
next_door calls now (EndsRead r v) row new low n = ⊎_elim
    (λ k. same_door row new now low k.1.door)
    (λ k. put_door row new now low (λ (p : IsPut k.1.0.id row.state now (Some v) r.id row new). p.door) (λ p. p.1.door) k.1.3)
    n
next_door calls now Dies row new low n = absurd n

module _ (m : Mark) (k new : Kept) (a : IsAfter m k new) (marks : List Mark) (f : AreFacts k marks) (may : MayFollow marks m) where
  abbrev longer : List Mark
  longer = marks ++ m ∷ []

  abbrev calls : List Call
  calls = k.calls.items

  abbrev those : List Call
  those = new.calls.items

  abbrev ends : List LeanEnd
  ends = map (end_of calls) k.rows.items

  abbrev nexts : List LeanEnd
  nexts = map (end_of those) new.rows.items

  well : AreWellFormed longer
  well = well_then marks m f.well may

  calls_are : those ≡ calls_after calls (length marks) m
  calls_are = a.calls ∙ ap (λ n. calls_after calls n m) f.now

  are : AreCalls those longer
  are = subst (λ c. AreCalls c longer) (sym calls_are) (are_after marks calls f.calls m may)

  low : (row : Row) → Contains k.rows.items row → row.door ≤ length marks
  low row h = let d = f.doors row h in let n = f.now in omega arith

  left : (row : Row) → Contains k.rows.items row → IsLeft marks (end_of calls row)
  left row h = are_left marks ends f.well f.ends (end_of calls row) (map_to (end_of calls) k.rows.items row h)

  late : (row : Row) → Contains k.rows.items row → (p : Passed) → Contains row.passed.items p → p.gap ≤ length marks
  late row h p g =
      let l = (f.gaps row h p g).1 in
      let c = of_moments calls l.0 l.1 in
      let s = f.calls.since c.0 c.1 in
      let e = c.3 in
      let q = l.2 in
      omega arith

  -- what reads that are open after the mark may tell of a row
  told : (made r : Row) → FindTheSame (moments_of those) made r → end_of those r ≡ end_of those made
  told made r s = end_told those made r s

  becomes : (row : Row) → Contains k.rows.items row → (r : Row) → IsNextBy calls k.moment a.effect row r → Becomes marks (end_of calls row) m (end_of those r)
  becomes row h r n = subst (λ c. Becomes marks (end_of calls row) m (end_of c r)) (sym calls_are)
      (next_each marks m f.well may calls f.calls row (low row h) (late row h) (left row h) a.effect a.is_effect r (subst (λ t. IsNextBy calls t a.effect row r) f.now n))

  each : (e : LeanEnd) → Contains nexts e → (d : LeanEnd) × Contains ends d × Becomes marks d m e
  each e h =
      let r = map_from (end_of those) new.rows.items e h in
      let row = a.each r.0 r.1 in
      let same : end_of those row.2 ≡ e = sym (told row.2 r.0 row.4) ∙ r.2 in
      (end_of calls row.0, map_to (end_of calls) k.rows.items row.0 row.1, subst (λ x. Becomes marks (end_of calls row.0) m x) same (becomes row.0 row.1 row.2 row.3))

  of_row : (row : Row) → Contains k.rows.items row → (e : LeanEnd) → Becomes marks (end_of calls row) m e → (g : LeanEnd) × Contains nexts g × IsAtMost longer e g
  of_row row h e b =
      let made = a.all row h in
      let n = subst (λ t. HasNextBy calls t a.effect row made.0) f.now made.1 in
      let x = next_all marks m f.well may calls f.calls row (low row h) (late row h) (left row h) a.effect a.is_effect made.0 n e b in
      let r = made.2 x.0 x.1 in
      let is : end_of those r.0 ≡ e = told x.0 r.0 r.1 ∙ ap (λ c. end_of c x.0) calls_are ∙ x.2 in
      let q = r.2 in
      let l : IsLeft longer (end_of those r.0) = subst (IsLeft longer) (sym is) (left_after marks m (end_of calls row) e well (left row h) b) in
      (end_of those q.0, map_to (end_of those) new.rows.items q.0 q.1, subst (λ y. IsAtMost longer y (end_of those q.0)) is (end_at_most longer those are r.0 q.0 l q.2))

  all : (d e : LeanEnd) → Contains ends d → Becomes marks d m e → (g : LeanEnd) × Contains nexts g × IsAtMost longer e g
  all d e h b =
      let row = map_from (end_of calls) k.rows.items d h in
      of_row row.0 row.1 e (subst (λ x. Becomes marks x m e) (sym row.2) b)

  gaps : (row : Row) → Contains new.rows.items row → HasLeastGaps (moments_of those) row
  gaps = a.gaps f.gaps

  abbrev Apart : Row → Row → Type 0
  Apart x y = (¬ IsAtMostBy those x y) × (¬ IsAtMostBy those y x)

  abbrev EndsApart : LeanEnd → LeanEnd → Type 0
  EndsApart e g = (¬ IsAtMost longer e g) × (¬ IsAtMost longer g e)

  apart : Pairwise EndsApart nexts
  apart = Pairwise-map (end_of those) EndsApart new.rows.items
      (Pairwise-weaker Apart (λ x y. EndsApart (end_of those x) (end_of those y)) new.rows.items
      (λ x y h j n. ((λ p. n.0 (row_at_most longer those are x y (gaps x h) p)), (λ p. n.1 (row_at_most longer those are y x (gaps y j) p))))
      (a.apart f.apart))

  door_after : (r : Row) → Contains new.rows.items r → r.door ≤ new.moment
  door_after r h =
      let row = a.each r h in
      let d = next_door calls k.moment a.effect row.0 row.2 (f.doors row.0 row.1) row.3 in
      let e : r.door ≡ row.2.door = row.4.door in
      let n = a.moment in
      omega arith

  pub facts_after : AreFacts new longer
  facts_after = record {
    well = well;
    now = (let l : length longer ≡ length marks + 1 = length-append marks (m ∷ []) in a.moment ∙ ap (λ n. n + 1) f.now ∙ sym l);
    calls = are;
    doors = door_after;
    gaps = gaps;
    apart = a.apart f.apart;
    ends = left_then marks m ends nexts f.ends (record { each = each; all = all; apart = apart });
  }
