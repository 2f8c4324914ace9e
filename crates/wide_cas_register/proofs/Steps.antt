-- what is kept after an event is that of the history with its mark
use Rattle.std.proofs.Common.{◌≡◌, ℕ, ◌+◌, ◌≤◌, ⊎_elim, List, [], ◌∷◌, ◌++◌, length, map, sym, ap, ◌∙◌, subst, arith, length-append, append-nil}
use Rattle.std.specs.List.{Contains}
use Rattle.models.specs.declared.finding.Answer.{Answer}
use Rattle.events.specs.Events.{Mark}
use Rattle.events.specs.Events.Mark.{Invoked, Returned, Failed, Crashed}
use Rattle.linspec.specs.MarkRule.{AreWellFormed, MayFollow}
use Rattle.linspec.specs.Orders.{Pairwise}
use Rattle.linspec.proofs.Lists.{Contains-nil, Pairwise-weaker, snoc_cut}
use Rattle.linspec.specs.LeanEnds.{LeanEnd, IsAtMost}
use Rattle.lean_ends.proofs.Left.{at_most_itself}
use Rattle.linspec.specs.CasEnds.{Becomes, Walks}
use Rattle.cas_ends.proofs.Left.{are_left, at_most_then, left_then}
use Rattle.cas_ends.proofs.Sound.{left_after}
use Rattle.cas_ends.proofs.Stands.{IsLeft}
use Rattle.wide_cas_register.specs.declared.calls.Call.{Call}
use Rattle.wide_cas_register.specs.declared.next.Effect.{Effect}
use Rattle.wide_cas_register.specs.declared.next.Effect.TheVariants.{Keeps, Begins, Leaves, Fails, EndsWrite, EndsCas, EndsRead, EndsNil, Dies}
use Rattle.wide_cas_register.specs.declared.row.Row.{Row}
use Rattle.wide_cas_register.specs.declared.fronts.Front.{Front}
use Rattle.wide_cas_register.specs.declared.kept.Kept.{Kept}
use Rattle.wide_cas_register.specs.Facts.{AllOfFront, AllOfRow, AreCalls, AreFacts, IsAtMostBy, IsEffect, IsDoneBy, IsKeptIn, OfFront, OfRow, calls_after, end_of}
use Rattle.wide_cas_register.specs.Fronts.{AreAllBy, IsAfter, IsMade}
use Rattle.wide_cas_register.proofs.AtMost.{end_at_most_by, row_at_most}
use Rattle.wide_cas_register.proofs.Fronting.{front_of}
use Rattle.wide_cas_register.proofs.Marks.{Hits, invoke_each, invoke_all, fail_each, fail_all, crash_each, crash_all}
use Rattle.wide_cas_register.proofs.Meeting.{AllLow, all_are, some_are, some_low, step_low}
use Rattle.wide_cas_register.proofs.Oks.{row_each, front_each, ok_all}
use Rattle.wide_cas_register.proofs.Others.{map_from, map_to}
use Rattle.wide_cas_register.proofs.Pending.{are_after, Pairwise-map}
use Rattle.wide_cas_register.proofs.Walked.{fronts_walked}

-- an ok meets all fronts, another mark none
abbrev pub Meets : Mark → List Call → ℕ → List Row → List Front → Type 0
Meets (Returned id answer) calls now rows fronts = AreAllBy calls now rows fronts
Meets (Invoked id op) calls now rows fronts = fronts ≡ []
Meets (Failed id) calls now rows fronts = fronts ≡ []
Meets (Crashed id) calls now rows fronts = fronts ≡ []

pub well_then : (marks : List Mark) (m : Mark) → AreWellFormed marks → MayFollow marks m → AreWellFormed (marks ++ m ∷ [])
well_then marks m well may xs ys n cut = ⊎_elim
    (λ (e : n ∷ ys ≡ []). absurd (let no : ⊥ = cc in no))
    (λ k. by_rest k.0 k.1 k.2)
    (snoc_cut xs (n ∷ ys) marks m cut)
  where
    by_rest : (rest : List Mark) → n ∷ ys ≡ rest ++ m ∷ [] → xs ++ rest ≡ marks → MayFollow xs n
    by_rest [] e f =
        let same : n ≡ m = cc in
        let front : xs ≡ marks = sym (append-nil xs) ∙ f in
        subst (λ l. MayFollow l n) (sym front) (subst (MayFollow marks) (sym same) may)
    by_rest (r ∷ rest) e f =
        let same : n ≡ r = cc in
        well xs rest n (ap (λ x. xs ++ x ∷ rest) same ∙ f)

-- the effect of an event on the kept facts, by its mark
record Given (marks : List Mark) (m : Mark) (calls : List Call) (rows : List Row) (fronts : List Front) : Type 0 where
  well : AreWellFormed marks
  may : MayFollow marks m
  are : AreCalls calls marks
  low : (row : Row) → Contains rows row → row.door ≤ length marks
  left : (row : Row) → Contains rows row → IsLeft marks (end_of calls row)
  meets : Meets m calls (length marks) rows fronts

-- what the mark makes of an end
abbrev Comes : List Mark → Mark → List Call → List Row → Row → Type 0
Comes marks m calls rows new =
    (row : Row) × Contains rows row × Becomes marks (end_of calls row) m (end_of (calls_after calls (length marks) m) new)

none_met : {P : Type 0} (fronts : List Front) (f : Front) → fronts ≡ [] → Contains fronts f → P
none_met fronts f e h = absurd (Contains-nil f (subst (λ l. Contains l f) e h))

module _ (marks : List Mark) (calls : List Call) (rows : List Row) (fronts : List Front) (effect : Effect) where
  abbrev Made : Row → Type 0
  Made new = IsMade calls (length marks) effect rows fronts new

  front_comes : (id : ℕ) (answer : Answer) → Given marks (Returned id answer) calls rows fronts → IsEffect calls (Returned id answer) effect → (f : Front) → Contains fronts f → (new : Row) → OfFront calls (length marks) effect f new → Comes marks (Returned id answer) calls rows new
  front_comes id answer g is f h new n =
      let a : AreAllBy calls (length marks) rows fronts = g.meets in
      let s = some_are marks g.well calls g.are rows g.left fronts a.0 a.1 in
      let w = fronts_walked marks (map (end_of calls) rows) (map (front_of calls) fronts) (map (front_of calls) a.0) s.0 (front_of calls f) (map_to (front_of calls) fronts f h) in
      let row = map_from (end_of calls) rows w.0 w.1 in
      (row.0, row.1, front_each marks g.well calls g.are id answer g.may row.0 (g.left row.0 row.1) f (s.1 f h) (subst (λ e. Walks marks e (end_of calls f.row) f.writes) (sym row.2) w.2) effect is new n)

  comes : (m : Mark) → Given marks m calls rows fronts → IsEffect calls m effect → (new : Row) → Made new → Comes marks m calls rows new
  comes (Invoked id op) g is new made = ⊎_elim
      (λ r. (r.0, r.1, invoke_each marks g.well calls g.are r.0 (g.low r.0 r.1) (g.left r.0 r.1) id op effect is new r.2))
      (λ f. none_met fronts f.0 g.meets f.1)
      made
  comes (Returned id answer) g is new made = ⊎_elim
      (λ r. (r.0, r.1, row_each marks g.well calls g.are id answer g.may r.0 (g.left r.0 r.1) effect is new r.2))
      (λ f. front_comes id answer g is f.0 f.1 new f.2)
      made
  comes (Failed id) g is new made = ⊎_elim
      (λ r. (r.0, r.1, fail_each marks g.well calls g.are r.0 (g.low r.0 r.1) (g.left r.0 r.1) id effect is new r.2))
      (λ f. none_met fronts f.0 g.meets f.1)
      made
  comes (Crashed id) g is new made = ⊎_elim
      (λ r. (r.0, r.1, crash_each marks g.well calls g.are r.0 (g.low r.0 r.1) (g.left r.0 r.1) id g.may effect is new r.2))
      (λ f. none_met fronts f.0 g.meets f.1)
      made

  -- and each end after the event is so, or less than one that is so
  module _ (P : Row → Type 0) (row : Row) (h : Contains rows row) (of_row : AllOfRow calls effect row P) (of_front : (f : Front) → Contains fronts f → AllOfFront calls (length marks) effect f P) where
    abbrev Goes : Mark → LeanEnd → Type 0
    Goes m e = (new : Row) × P new × IsAtMost (marks ++ m ∷ []) e (end_of (calls_after calls (length marks) m) new)

    hit : (m : Mark) (e : LeanEnd) → Hits (calls_after calls (length marks) m) e P → Goes m e
    hit m e k = (k.0, k.1, subst (λ x. IsAtMost (marks ++ m ∷ []) x (end_of (calls_after calls (length marks) m) k.0)) k.2 (at_most_itself (marks ++ m ∷ []) (end_of (calls_after calls (length marks) m) k.0)))

    goes : (m : Mark) → Given marks m calls rows fronts → IsEffect calls m effect → (e : LeanEnd) → Becomes marks (end_of calls row) m e → Goes m e
    goes (Invoked id op) g is e b = hit (Invoked id op) e (invoke_all marks g.well calls g.are row (g.low row h) (g.left row h) id op effect is P of_row e b)
    goes (Returned id answer) g is e b =
        let a : AreAllBy calls (length marks) rows fronts = g.meets in
        let s = some_are marks g.well calls g.are rows g.left fronts a.0 a.1 in
        ok_all marks g.well calls g.are id answer g.may row (g.left row h) (map (end_of calls) rows) (map_to (end_of calls) rows row h) fronts s.1 (all_are marks g.well calls g.are rows g.left fronts a) effect is P of_row of_front e b
    goes (Failed id) g is e b = hit (Failed id) e (fail_all marks g.well calls g.are row (g.low row h) (g.left row h) id effect is P of_row e b)
    goes (Crashed id) g is e b = hit (Crashed id) e (crash_all marks g.well calls g.are row (g.low row h) (g.left row h) id g.may effect is P of_row e b)

-- no door is later than now
module _ (calls : List Call) (now : ℕ) where
  same_door : (row new : Row) → row.door ≤ now → new.door ≡ row.door → new.door ≤ now
  same_door row new low d = omega arith

  done_low : (c : Call) (f : Front) (new : Row) → f.row.door ≤ now → IsDoneBy calls now c f new → new.door ≤ now
  done_low c f new low d = let a = step_low calls now c c.what f d.0 low d.1.steps in let b = d.2.door in omega arith

  row_low : (effect : Effect) (row new : Row) → row.door ≤ now → OfRow calls effect row new → new.door ≤ now
  row_low Keeps row new low n = same_door row new low n.door
  row_low (Begins id) row new low n = same_door row new low n.door
  row_low (Leaves id) row new low n = same_door row new low n.door
  row_low (Fails id) row new low n = same_door row new low n.1.door
  row_low (EndsWrite w v) row new low n = ⊎_elim
      (λ k. same_door row new low k.1.door)
      (λ k. same_door row new low (k.2.2.door ∙ k.2.1.door))
      n
  row_low (EndsCas c a b) row new low n = same_door row new low n.1.door
  row_low (EndsRead r v) row new low n = ⊎_elim
      (λ k. same_door row new low k.1.door)
      (λ k. same_door row new low (k.2.3.2.door ∙ k.2.3.1.door))
      n
  row_low (EndsNil id) row new low n = absurd n
  row_low Dies row new low n = absurd n

  front_low : (effect : Effect) (f : Front) (new : Row) → f.row.door ≤ now → OfFront calls now effect f new → new.door ≤ now
  front_low Keeps f new low n = absurd n
  front_low (Begins id) f new low n = absurd n
  front_low (Leaves id) f new low n = absurd n
  front_low (Fails id) f new low n = absurd n
  front_low (EndsWrite w v) f new low n = done_low w f new low n
  front_low (EndsCas c a b) f new low n = done_low c f new low n
  front_low (EndsRead r v) f new low n = same_door f.row new low n.1.door
  front_low (EndsNil id) f new low n = same_door f.row new low n.door
  front_low Dies f new low n = absurd n

  met_low : (m : Mark) (rows : List Row) (fronts : List Front) → ((row : Row) → Contains rows row → row.door ≤ now) → Meets m calls now rows fronts → AllLow calls now fronts
  met_low (Returned id answer) rows fronts low a = some_low calls now rows low fronts a.0 a.1
  met_low (Invoked id op) rows fronts low e = λ f h. none_met fronts f e h
  met_low (Failed id) rows fronts low e = λ f h. none_met fronts f e h
  met_low (Crashed id) rows fronts low e = λ f h. none_met fronts f e h

module _ (m : Mark) (fronts : List Front) (k new : Kept) (a : IsAfter m fronts k new) (met : Meets m k.calls.items k.moment k.rows.items fronts) (marks : List Mark) (f : AreFacts k marks) (may : MayFollow marks m) where
  abbrev longer : List Mark
  longer = marks ++ m ∷ []

  abbrev calls : List Call
  calls = k.calls.items

  abbrev those : List Call
  those = new.calls.items

  abbrev ends : List LeanEnd
  ends = map (end_of calls) k.rows.items

  abbrev nexts : List LeanEnd
  nexts = map (end_of those) new.rows.items

  well : AreWellFormed longer
  well = well_then marks m f.well may

  calls_are : those ≡ calls_after calls (length marks) m
  calls_are = a.calls ∙ ap (λ n. calls_after calls n m) f.now

  are : AreCalls those longer
  are = subst (λ c. AreCalls c longer) (sym calls_are) (are_after marks calls f.calls m may)

  given : Given marks m calls k.rows.items fronts
  given = record {
    well = f.well;
    may = may;
    are = f.calls;
    low = λ row h. (let d = f.doors row h in let n = f.now in omega arith);
    left = λ row h. are_left marks ends f.well f.ends (end_of calls row) (map_to (end_of calls) k.rows.items row h);
    meets = subst (λ t. Meets m calls t k.rows.items fronts) f.now met;
  }

  each : (e : LeanEnd) → Contains nexts e → (d : LeanEnd) × Contains ends d × Becomes marks d m e
  each e h =
      let r = map_from (end_of those) new.rows.items e h in
      let made : IsMade calls (length marks) a.effect k.rows.items fronts r.0 = subst (λ t. IsMade calls t a.effect k.rows.items fronts r.0) f.now (a.each r.0 r.1) in
      let c = comes marks calls k.rows.items fronts a.effect m given a.is_effect r.0 made in
      let is : end_of (calls_after calls (length marks) m) r.0 ≡ e = ap (λ c. end_of c r.0) (sym calls_are) ∙ r.2 in
      (end_of calls c.0, map_to (end_of calls) k.rows.items c.0 c.1, subst (Becomes marks (end_of calls c.0) m) is c.2)

  of_row : (row : Row) → Contains k.rows.items row → (e : LeanEnd) → Becomes marks (end_of calls row) m e → (g : LeanEnd) × Contains nexts g × IsAtMost longer e g
  of_row row h e b =
      let fronts_all = subst (λ t. (x : Front) → Contains fronts x → AllOfFront calls t a.effect x (IsKeptIn those new.rows.items)) f.now a.all_fronts in
      let r = goes marks calls k.rows.items fronts a.effect (IsKeptIn those new.rows.items) row h (a.all_rows row h) fronts_all m given a.is_effect e b in
      let most : IsAtMost longer e (end_of those r.0) = subst (λ c. IsAtMost longer e (end_of c r.0)) (sym calls_are) r.2 in
      let l : IsLeft longer e = left_after marks m (end_of calls row) e well (given.left row h) b in
      let q = r.1 in
      (end_of those q.0, map_to (end_of those) new.rows.items q.0 q.1, at_most_then longer e (end_of those r.0) (end_of those q.0) most (end_at_most_by longer those are r.0 q.0 (λ i n. (l.2.needed i (most.needed i n)).1) q.2))

  all : (d e : LeanEnd) → Contains ends d → Becomes marks d m e → (g : LeanEnd) × Contains nexts g × IsAtMost longer e g
  all d e h b =
      let row = map_from (end_of calls) k.rows.items d h in
      of_row row.0 row.1 e (subst (λ x. Becomes marks x m e) (sym row.2) b)

  apart : Pairwise (λ e g. (¬ IsAtMost longer e g) × (¬ IsAtMost longer g e)) nexts
  apart = Pairwise-map (end_of those) (λ e g. (¬ IsAtMost longer e g) × (¬ IsAtMost longer g e)) new.rows.items
      (Pairwise-weaker (λ x y. (¬ IsAtMostBy those x y) × (¬ IsAtMostBy those y x)) (λ x y. (¬ IsAtMost longer (end_of those x) (end_of those y)) × (¬ IsAtMost longer (end_of those y) (end_of those x))) new.rows.items
      (λ x y h j n. ((λ p. n.0 (row_at_most longer those are x y p)), (λ p. n.1 (row_at_most longer those are y x p))))
      a.apart)

  low_after : (r : Row) → Contains new.rows.items r → r.door ≤ k.moment
  low_after r h = ⊎_elim
      (λ n. row_low calls k.moment a.effect n.0 r (f.doors n.0 n.1) n.2)
      (λ n. front_low calls k.moment a.effect n.0 r (met_low calls k.moment m k.rows.items fronts f.doors met n.0 n.1) n.2)
      (a.each r h)

  pub facts_after : AreFacts new longer
  facts_after = record {
    well = well;
    now = (let l : length longer ≡ length marks + 1 = length-append marks (m ∷ []) in a.moment ∙ ap (λ n. n + 1) f.now ∙ sym l);
    calls = are;
    doors = λ r h. (let d = low_after r h in let n = a.moment in omega arith);
    ends = left_then marks m ends nexts f.ends (record { each = each; all = all; apart = apart });
  }
