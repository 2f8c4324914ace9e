-- what the effect of an ok makes of a row is what the ok makes of its end
use Rattle.std.proofs.Common.{◌≡◌, ◌≢◌, ℕ, ℤ, ◌⊎◌, inl, inr, ⊎_elim, Bool, false, IsTrue, Some, List, ◌∷◌, [], ◌++◌, length, map, refl, sym, ap, ◌∙◌, subst}
use Rattle.std.specs.List.{Contains, filter}
use Rattle.std.proofs.lemmas.Bool.{true≢false, cases_Bool}
use Rattle.models.specs.declared.finding.Answer.{Answer}
use Rattle.models.specs.declared.finding.Answer.TheVariants.{Nothing, Number}
use Rattle.events.specs.Events.{Mark}
use Rattle.events.specs.Events.Mark.{Returned}
use Rattle.linspec.specs.Operations.{IsOpen}
use Rattle.linspec.specs.MarkRule.{AreWellFormed}
use Rattle.linspec.proofs.Open.{was_open}
use Rattle.linspec.specs.LeanEnds.{LeanEnd, IsWriteOf, IsRead, IsPutBehind, IsPutBefore, IsWithout, IsAtMost}
use Rattle.lean_ends.proofs.Left.{at_most_itself}
use Rattle.lean_ends.proofs.Once.{read_no_write, same_value}
use Rattle.linspec.specs.CasEnds.{IsCasOf, IsSetBehind, Walks, EndsWrite as EndsWriteBy, EndsCas as EndsCasBy, EndsRead as EndsReadBy, Becomes, IsLess, AreFronts}
use Rattle.cas_ends.proofs.Layers.{walk_is_less}
use Rattle.cas_ends.proofs.Once.{cas_no_read, cas_no_write, same_pair}
use Rattle.cas_ends.proofs.Stands.{IsLeft}
use Rattle.wide_cas_register.specs.declared.calls.Call.{Call}
use Rattle.wide_cas_register.specs.declared.calls.What.TheVariants.{Writes, Sets, Reads}
use Rattle.wide_cas_register.specs.declared.next.Effect.{Effect}
use Rattle.wide_cas_register.specs.declared.next.Effect.TheVariants.{EndsWrite, EndsCas, EndsRead, EndsNil}
use Rattle.wide_cas_register.specs.declared.row.Row.{Row}
use Rattle.wide_cas_register.specs.declared.fronts.Front.{Front}
use Rattle.wide_cas_register.specs.Facts.{AllOfFront, AllOfRow, AreCalls, CanStep, HasCall, HasDoor, IsEffect, IsDoneBy, IsPutBefore as IsBefore, IsStepBy, IsWithoutId, OfFront, OfRow, StepsTo, end_of, is_other}
use Rattle.wide_cas_register.proofs.Ends.{needed_from, needed_to, door_from, door_to, finds_from, finds_to, without_once, before_once}
use Rattle.wide_cas_register.proofs.Fronting.{front_of, no_door}
use Rattle.wide_cas_register.proofs.Moves.{same_call, without_is, is_behind, is_set_behind, is_before, is_read, is_write, is_cas}
use Rattle.wide_cas_register.proofs.Others.{filtered, map_from}
use Rattle.wide_cas_register.proofs.Walked.{without_most}

module _ (marks : List Mark) (well : AreWellFormed marks) (calls : List Call) (are : AreCalls calls marks) (id : ℕ) (answer : Answer) (open' : IsOpen marks id) where
  abbrev m : Mark
  m = Returned id answer

  abbrev longer : List Mark
  longer = marks ++ m ∷ []

  abbrev after : List Call
  after = filter (is_other id) calls

  abbrev now : ℕ
  now = length marks

  -- some row is so, and its end may become all that the end may
  abbrev pub Reaches : LeanEnd → (Row → Type 0) → Type 0
  Reaches f P = (new : Row) × P new × IsAtMost longer f (end_of after new)

  exactly : (f : LeanEnd) (P : Row → Type 0) (new : Row) → P new → end_of after new ≡ f → Reaches f P
  exactly f P new p e = (new, p, subst (λ x. IsAtMost longer x (end_of after new)) e (at_most_itself longer (end_of after new)))

  out_is : (row new : Row) → IsWithoutId id row new → IsWithout (end_of calls row) id (end_of after new)
  out_is row new w = without_is id calls after (filtered id calls) row new w

  was : (i : ℕ) → IsOpen longer i → IsOpen marks i
  was i o = (was_open marks m tt i o).0

  -- which operation it is
  write_call : (v : ℤ) → IsWriteOf marks id v → (c : Call) × HasCall calls id (Writes v) c
  write_call v w = let k = are.all id (Writes v) (record { write = w; not_returned = open'.not_returned; not_failed = open'.not_failed }) in (k.0, (k.1, k.2, k.3))

  cas_call : (a b : ℤ) → IsCasOf marks id a b → (c : Call) × HasCall calls id (Sets a b) c
  cas_call a b w = let k = are.all id (Sets a b) (record { cas = w; not_returned = open'.not_returned; not_failed = open'.not_failed }) in (k.0, (k.1, k.2, k.3))

  read_call : IsRead marks id → (c : Call) × HasCall calls id Reads c
  read_call r = let k = are.all id Reads (r, open') in (k.0, (k.1, k.2, k.3))

  -- the operation that returns takes place behind a front
  put_is : (c : Call) (v : ℤ) → HasCall calls id (Writes v) c → (f : Front) → IsLeft marks (end_of calls f.row) → (next : Front) → IsStepBy calls now c f next → IsPutBehind marks (end_of calls f.row) id v (end_of calls next.row)
  put_is c v h f left next s =
      let steps : StepsTo calls now c (Writes v) f next = subst (λ w. StepsTo calls now c w f next) h.2 s.steps in
      subst (λ i. IsPutBehind marks (end_of calls f.row) i v (end_of calls next.row)) h.1 (is_behind marks well calls are f.row left c.id v next.row steps.0)

  set_is : (c : Call) (a b : ℤ) → HasCall calls id (Sets a b) c → (f : Front) → IsLeft marks (end_of calls f.row) → (next : Front) → IsStepBy calls now c f next → IsSetBehind marks (end_of calls f.row) id a b (end_of calls next.row)
  set_is c a b h f left next s =
      let can : CanStep f c (Sets a b) = subst (CanStep f c) h.2 s.can in
      let steps : StepsTo calls now c (Sets a b) f next = subst (λ w. StepsTo calls now c w f next) h.2 s.steps in
      subst (λ i. IsSetBehind marks (end_of calls f.row) i a b (end_of calls next.row)) h.1
      (is_set_behind marks well calls are f.row left c.id b next.row a can.1 steps.0 (no_door marks well calls are c a b h.0 h.2))

  -- what takes place behind a greater end leaves a greater one
  put_most : (d p g q : LeanEnd) (v : ℤ) → IsAtMost marks d p → IsPutBehind marks d id v g → IsPutBehind marks p id v q → IsAtMost marks g q
  put_most d p g q v a u w = record {
    state = u.state ∙ sym w.state;
    needed = fewer;
    open_ones = λ i n o. (w.needed i).1 (⊎_elim inl (λ j. inr (a.open_ones i j o)) ((u.needed i).0 n));
    door = λ i n. (let k = (u.door i).0 n in (w.door i).1 (k.0, (λ j. k.1 (fewer i j))));
    finds = λ r x n. (w.finds r x).1 (⊎_elim (λ j. inl (a.finds r x j)) inr ((u.finds r x).0 n));
  }
    where
      fewer : (i : ℕ) → IsTrue (q.needed i) → IsTrue (g.needed i)
      fewer i n = (u.needed i).1 (⊎_elim inl (λ j. inr (a.needed i j)) ((w.needed i).0 n))

  set_most : (d p g q : LeanEnd) (x y : ℤ) → IsAtMost marks d p → IsSetBehind marks d id x y g → IsSetBehind marks p id x y q → IsAtMost marks g q
  set_most d p g q x y a u w = record {
    state = u.state ∙ sym w.state;
    needed = λ i n. (u.needed i).1 (⊎_elim inl (λ j. inr (a.needed i j)) ((w.needed i).0 n));
    open_ones = λ i n o. (w.needed i).1 (⊎_elim inl (λ j. inr (a.open_ones i j o)) ((u.needed i).0 n));
    door = λ i n. (w.door i).1 (a.door i ((u.door i).0 n));
    finds = λ r z n. (w.finds r z).1 (⊎_elim (λ j. inl (a.finds r z j)) inr ((u.finds r z).0 n));
  }

  module _ (row : Row) (left : IsLeft marks (end_of calls row)) where
    abbrev e : LeanEnd
    e = end_of calls row

    door_of : (c : Call) → Contains calls c → HasDoor row c → IsTrue (e.door c.id)
    door_of c h d = door_to calls row c.id (c, h, refl, d)

    of_door : (c : Call) → Contains calls c → IsTrue (e.door c.id) → HasDoor row c
    of_door c h d = let k = door_from calls row c.id d in subst (HasDoor row) (same_call calls are.once k.0 c k.1 h k.2) k.3

    a_write : (c : Call) (v : ℤ) → HasCall calls id (Writes v) c → IsWriteOf marks id v
    a_write c v h = subst (λ i. IsWriteOf marks i v) h.1 (is_write marks well calls are row left c v h.0 h.2).write

    a_cas : (c : Call) (a b : ℤ) → HasCall calls id (Sets a b) c → IsCasOf marks id a b
    a_cas c a b h = subst (λ i. IsCasOf marks i a b) h.1 (is_cas marks well calls are row left c a b h.0 h.2).cas

    a_read : (c : Call) → HasCall calls id Reads c → IsRead marks id
    a_read c h = subst (IsRead marks) h.1 (is_read marks well calls are row left c h.0 h.2).0

    -- a write just before the last one
    before_is : (c : Call) (v : ℤ) → Contains calls c → HasDoor row c → (new : Row) → IsBefore calls c v id row new → (g : LeanEnd) × IsPutBefore marks e c.id v g × IsWithout g id (end_of after new)
    before_is c v h d new p = (end_of calls p.0, is_before marks well calls are row left c.id v p.0 (door_of c h d) p.1, out_is p.0 new p.2)

    before_all : (c : Call) (v : ℤ) → Contains calls c → HasDoor row c → (P : Row → Type 0) (g f : LeanEnd) → IsPutBefore marks e c.id v g → IsWithout g id f → (new : Row) × IsBefore calls c v id row new × P new → Reaches f P
    before_all c v h d P g f put without n =
        let k = before_is c v h d n.0 n.1 in
        let same : k.0 ≡ g = before_once marks e k.0 g c.id v k.1 put in
        exactly f P n.0 n.2 (without_once g (end_of after n.0) f id (subst (λ x. IsWithout x id (end_of after n.0)) same k.2) without)

    without_all : (P : Row → Type 0) (f : LeanEnd) → IsWithout e id f → (new : Row) × IsWithoutId id row new × P new → Reaches f P
    without_all P f w n = exactly f P n.0 n.2 (without_once e (end_of after n.0) f id (out_is row n.0 n.1) w)

    -- what the effect makes of a row
    pub row_each : (effect : Effect) → IsEffect calls m effect → (new : Row) → OfRow calls effect row new → Becomes marks e m (end_of after new)
    row_each effect d new n = ⊎_elim
        (λ k.
        let c = k.0 in
        let v = k.1 in
        let h : HasCall calls id (Writes v) c = k.2 in
        inl (v, a_write c v h, by_write c v h (subst (λ x. OfRow calls x row new) k.3 n)))
        (λ d1. ⊎_elim
        (λ k.
        let c = k.0 in
        let h : HasCall calls id (Sets k.1 k.2) c = k.3 in
        let n' : Contains row.needed.items c.id × IsWithoutId c.id row new = subst (λ x. OfRow calls x row new) k.4 n in
        inr (inl (k.1, k.2, a_cas c k.1 k.2 h, inl (needed_to calls row id (subst (Contains row.needed.items) h.1 n'.0), out_is row new (subst (λ i. IsWithoutId i row new) h.1 n'.1)))))
        (λ d2. ⊎_elim
        (λ k. absurd (subst (λ x. OfRow calls x row new) k.3 n))
        (λ d3. ⊎_elim
        (λ k.
        let c = k.0 in
        let v = k.1 in
        let h : HasCall calls id Reads c = k.2 in
        inr (inr (inr (v, a_read c h, k.3, by_read c v h (subst (λ x. OfRow calls x row new) k.4 n)))))
        (λ k. absurd (subst (λ x. OfRow calls x row new) k.0 n))
        d3)
        d2)
        d1)
        d
      where
        by_write : (c : Call) (v : ℤ) → HasCall calls id (Writes v) c → OfRow calls (EndsWrite c v) row new → EndsWriteBy marks e id v (end_of after new)
        by_write c v h n = ⊎_elim
            (λ k. inl (needed_to calls row id (subst (Contains row.needed.items) h.1 k.0), out_is row new (subst (λ i. IsWithoutId i row new) h.1 k.1)))
            (λ k.
            let p = before_is c v h.0 k.1 new (subst (λ i. IsBefore calls c v i row new) h.1 k.2) in
            inr (inl ((λ j. k.0 (subst (Contains row.needed.items) (sym h.1) (needed_from calls row id j))), (p.0, subst (λ i. IsPutBefore marks e i v p.0) h.1 p.1, p.2))))
            n

        by_read : (c : Call) (v : ℤ) → HasCall calls id Reads c → OfRow calls (EndsRead c v) row new → EndsReadBy marks e id v (end_of after new)
        by_read c v h n = ⊎_elim
            (λ k. inl (subst (λ i. IsTrue (e.finds i v)) h.1 (finds_to calls row c.id v k.0), out_is row new (subst (λ i. IsWithoutId i row new) h.1 k.1)))
            (λ k.
            let w = k.2.0 in
            let p = before_is w v k.2.1 k.2.2.2 new (subst (λ i. IsBefore calls w v i row new) h.1 k.2.3) in
            inr (inl (
              (λ j. k.0 (finds_from calls row c.id v (subst (λ i. IsTrue (e.finds i v)) (sym h.1) j))),
              w.id,
              p.0,
              is_write marks well calls are row left w v k.2.1 k.2.2.0,
              (λ j. k.2.2.1 (needed_from calls row w.id j)),
              subst (λ i. IsTrue (e.door i)) h.1 (door_of c h.0 k.1),
              p.1,
              p.2,
            )))
            n

    -- what the effect makes of a front to which a walk leads from the end
    module _ (front : Front) (there : IsLeft marks (end_of calls front.row)) (walk : Walks marks e (end_of calls front.row) front.writes) where
      abbrev d : LeanEnd
      d = end_of calls front.row

      pub front_each : (effect : Effect) → IsEffect calls m effect → (new : Row) → OfFront calls now effect front new → Becomes marks e m (end_of after new)
      front_each effect is new n = ⊎_elim
          (λ k.
          let c = k.0 in
          let v = k.1 in
          let h : HasCall calls id (Writes v) c = k.2 in
          inl (v, a_write c v h, by_write c v h (subst (λ x. OfFront calls now x front new) k.3 n)))
          (λ d1. ⊎_elim
          (λ k.
          let c = k.0 in
          let h : HasCall calls id (Sets k.1 k.2) c = k.3 in
          inr (inl (k.1, k.2, a_cas c k.1 k.2 h, by_cas c k.1 k.2 h (subst (λ x. OfFront calls now x front new) k.4 n))))
          (λ d2. ⊎_elim
          (λ k.
          let w : IsWithoutId id front.row new = subst (λ x. OfFront calls now x front new) k.3 n in
          inr (inr (inl (a_read k.0 k.1, k.2, (d, front.writes, walk, out_is front.row new w)))))
          (λ d3. ⊎_elim
          (λ k.
          let c = k.0 in
          let v = k.1 in
          let h : HasCall calls id Reads c = k.2 in
          let n' : (front.row.state ≡ Some v) × IsWithoutId c.id front.row new = subst (λ x. OfFront calls now x front new) k.4 n in
          inr (inr (inr (v, a_read c h, k.3, inr (inr (d, front.writes, walk, n'.0, out_is front.row new (subst (λ i. IsWithoutId i front.row new) h.1 n'.1)))))))
          (λ k. absurd (subst (λ x. OfFront calls now x front new) k.0 n))
          d3)
          d2)
          d1)
          is
        where
          by_write : (c : Call) (v : ℤ) → HasCall calls id (Writes v) c → IsDoneBy calls now c front new → EndsWriteBy marks e id v (end_of after new)
          by_write c v h n =
              let can : CanStep front c (Writes v) = subst (CanStep front c) h.2 n.1.can in
              let put = put_is c v h front there n.0 n.1 in
              inr (inr (
                d,
                end_of calls n.0.row,
                subst (Walks marks e d) can.1 walk,
                (λ j. can.0 (subst (Contains front.row.needed.items) (sym h.1) (needed_from calls front.row id j))),
                put,
                out_is n.0.row new (subst (λ i. IsWithoutId i n.0.row new) h.1 n.2),
              ))

          by_cas : (c : Call) (a b : ℤ) → HasCall calls id (Sets a b) c → IsDoneBy calls now c front new → EndsCasBy marks e id a b (end_of after new)
          by_cas c a b h n =
              let can : CanStep front c (Sets a b) = subst (CanStep front c) h.2 n.1.can in
              let set = set_is c a b h front there n.0 n.1 in
              inr (
                d,
                end_of calls n.0.row,
                front.writes,
                walk,
                (λ j. can.0 (subst (Contains front.row.needed.items) (sym h.1) (needed_from calls front.row id j))),
                set,
                out_is n.0.row new (subst (λ i. IsWithoutId i n.0.row new) h.1 n.2),
              )

    -- which effect it is
    abbrev Silent : Type 0
    Silent = ((c : Call) → Contains calls c → c.id ≢ id) ⊎ ((c : Call) × HasCall calls id Reads c × (answer ≢ Nothing) × ((v : ℤ) → answer ≢ Number v))

    silent : Silent → (c : Call) → Contains calls c → c.id ≡ id → (c.what ≡ Reads) × (answer ≢ Nothing) × ((v : ℤ) → answer ≢ Number v)
    silent s c h q = ⊎_elim
        (λ n. absurd (n c h q))
        (λ w. (ap (λ (x : Call). x.what) (same_call calls are.once c w.0 h w.1.0 (q ∙ sym w.1.1)) ∙ w.1.2, w.2, w.3))
        s

    effect_of_write : (effect : Effect) → IsEffect calls m effect → (v : ℤ) → IsWriteOf marks id v → (c : Call) × HasCall calls id (Writes v) c × (effect ≡ EndsWrite c v)
    effect_of_write effect d v w = ⊎_elim
        (λ k. (let same : k.1 ≡ v = same_value marks well id k.1 v (a_write k.0 k.1 k.2) w in
        (k.0, (k.2.0, k.2.1, k.2.2 ∙ ap Writes same), k.3 ∙ ap (EndsWrite k.0) same)))
        (λ d1. ⊎_elim
        (λ k. absurd (cas_no_write marks well id k.1 k.2 (a_cas k.0 k.1 k.2 k.3) v w))
        (λ d2. ⊎_elim
        (λ k. absurd (read_no_write marks well id v (a_read k.0 k.1) w))
        (λ d3. ⊎_elim
        (λ k. absurd (read_no_write marks well id v (a_read k.0 k.2) w))
        (λ k. (let c = write_call v w in let q : Writes v ≡ Reads = sym c.1.2 ∙ (silent k.1 c.0 c.1.0 c.1.1).0 in absurd (cc q)))
        d3)
        d2)
        d1)
        d

    effect_of_cas : (effect : Effect) → IsEffect calls m effect → (a b : ℤ) → IsCasOf marks id a b → (c : Call) × HasCall calls id (Sets a b) c × (effect ≡ EndsCas c a b)
    effect_of_cas effect d a b w = ⊎_elim
        (λ k. absurd (cas_no_write marks well id a b w k.1 (a_write k.0 k.1 k.2)))
        (λ d1. ⊎_elim
        (λ k.
        let same = same_pair marks well id k.1 k.2 (a_cas k.0 k.1 k.2 k.3) a b w in
        let x : k.1 ≡ a = same.0 in
        let y : k.2 ≡ b = same.1 in
        (k.0, (k.3.0, k.3.1, k.3.2 ∙ (λ i. Sets (x i) (y i))), k.4 ∙ (λ i. EndsCas k.0 (x i) (y i))))
        (λ d2. ⊎_elim
        (λ k. absurd (cas_no_read marks well id a b w (a_read k.0 k.1)))
        (λ d3. ⊎_elim
        (λ k. absurd (cas_no_read marks well id a b w (a_read k.0 k.2)))
        (λ k. (let c = cas_call a b w in let q : Sets a b ≡ Reads = sym c.1.2 ∙ (silent k.1 c.0 c.1.0 c.1.1).0 in absurd (cc q)))
        d3)
        d2)
        d1)
        d

    effect_of_nil : (effect : Effect) → IsEffect calls m effect → IsRead marks id → answer ≡ Nothing → effect ≡ EndsNil id
    effect_of_nil effect d r n = ⊎_elim
        (λ k. absurd (read_no_write marks well id k.1 r (a_write k.0 k.1 k.2)))
        (λ d1. ⊎_elim
        (λ k. absurd (cas_no_read marks well id k.1 k.2 (a_cas k.0 k.1 k.2 k.3) r))
        (λ d2. ⊎_elim
        (λ k. k.3)
        (λ d3. ⊎_elim
        (λ k. absurd (let q : Nothing ≡ Number k.1 = sym n ∙ k.3 in cc))
        (λ k. (let c = read_call r in absurd ((silent k.1 c.0 c.1.0 c.1.1).1 n)))
        d3)
        d2)
        d1)
        d

    effect_of_value : (effect : Effect) → IsEffect calls m effect → IsRead marks id → (v : ℤ) → answer ≡ Number v → (c : Call) × HasCall calls id Reads c × (effect ≡ EndsRead c v)
    effect_of_value effect d r v n = ⊎_elim
        (λ k. absurd (read_no_write marks well id k.1 r (a_write k.0 k.1 k.2)))
        (λ d1. ⊎_elim
        (λ k. absurd (cas_no_read marks well id k.1 k.2 (a_cas k.0 k.1 k.2 k.3) r))
        (λ d2. ⊎_elim
        (λ k. absurd (let q : Nothing ≡ Number v = sym k.2 ∙ n in cc))
        (λ d3. ⊎_elim
        (λ k. (let q : Number k.1 ≡ Number v = sym k.3 ∙ n in let same : k.1 ≡ v = cc in (k.0, k.2, k.4 ∙ ap (EndsRead k.0) same)))
        (λ k. (let c = read_call r in absurd ((silent k.1 c.0 c.1.0 c.1.1).2 v n)))
        d3)
        d2)
        d1)
        d

    -- all that the ok makes of the end
    module _ (ends : List LeanEnd) (here : Contains ends e) (fronts : List Front) (all_left : (f : Front) → Contains fronts f → IsLeft marks (end_of calls f.row)) (fronts_are : AreFronts marks ends (map (front_of calls) fronts))
        (effect : Effect) (is : IsEffect calls m effect) (P : Row → Type 0) (of_row : AllOfRow calls effect row P) (of_front : (f : Front) → Contains fronts f → AllOfFront calls now effect f P) where
      -- a front that may become all that comes of a walk
      greater : (d : LeanEnd) (k : Bool) → Walks marks e d k → (f : Front) × Contains fronts f × IsLess marks (record { end = d; writes = k }) (front_of calls f)
      greater d k w =
          let m' = walk_is_less marks well ends (map (front_of calls) fronts) fronts_are e d k here w in
          let f = map_from (front_of calls) fronts m'.0 m'.1 in
          (f.0, f.1, subst (IsLess marks (record { end = d; writes = k })) (sym f.2) m'.2)

      reached : (d mid : LeanEnd) (f : LeanEnd) → (new : Row) → P new → IsAtMost marks d mid → IsWithout d id f → IsWithout mid id (end_of after new) → Reaches f P
      reached d mid f new p a u w = (new, p, without_most marks longer was d mid f (end_of after new) id a u w)

      by_write : (v : ℤ) → IsWriteOf marks id v → (f : LeanEnd) → EndsWriteBy marks e id v f → Reaches f P
      by_write v w f b =
          let k = effect_of_write effect is v w in
          let c = k.0 in
          let h : HasCall calls id (Writes v) c = k.1 in
          let rows = subst (λ x. AllOfRow calls x row P) k.2 of_row in
          ⊎_elim
          (λ j.
          let n = rows.0 (subst (Contains row.needed.items) (sym h.1) (needed_from calls row id j.0)) in
          without_all P f j.1 (n.0, subst (λ i. IsWithoutId i row n.0) h.1 n.1, n.2))
          (λ o. ⊎_elim
          (λ j.
          let put : IsPutBefore marks e c.id v j.1.0 = subst (λ i. IsPutBefore marks e i v j.1.0) (sym h.1) j.1.1 in
          let door = of_door c h.0 put.may in
          let n = rows.1 (λ q. j.0 (needed_to calls row id (subst (Contains row.needed.items) h.1 q))) door in
          before_all c v h.0 door P j.1.0 f put j.1.2 (n.0, subst (λ i. IsBefore calls c v i row n.0) h.1 n.1, n.2))
          (λ j.
          let d = j.0 in
          let g = greater d false j.2 in
          let unhidden : g.0.writes ≡ false = ⊎_elim (λ t. absurd (true≢false (sym (g.2.1 t)))) (λ t. t) (cases_Bool g.0.writes) in
          let free : ¬ Contains g.0.row.needed.items c.id = λ q. j.3 (g.2.0.needed id (needed_to calls g.0.row id (subst (Contains g.0.row.needed.items) h.1 q))) in
          let n = (subst (λ x. AllOfFront calls now x g.0 P) k.2 (of_front g.0 g.1)) (subst (CanStep g.0 c) (sym h.2) (free, unhidden)) in
          let put = put_is c v h g.0 (all_left g.0 g.1) n.1.0 n.1.1 in
          reached j.1 (end_of calls n.1.0.row) f n.0 n.2 (put_most d (end_of calls g.0.row) j.1 (end_of calls n.1.0.row) v g.2.0 j.4 put) j.5
          (out_is n.1.0.row n.0 (subst (λ i. IsWithoutId i n.1.0.row n.0) h.1 n.1.2)))
          o)
          b

      by_cas : (a b : ℤ) → IsCasOf marks id a b → (f : LeanEnd) → EndsCasBy marks e id a b f → Reaches f P
      by_cas a b w f x =
          let k = effect_of_cas effect is a b w in
          let c = k.0 in
          let h : HasCall calls id (Sets a b) c = k.1 in
          ⊎_elim
          (λ j.
          let rows = subst (λ x. AllOfRow calls x row P) k.2 of_row in
          let n = rows (subst (Contains row.needed.items) (sym h.1) (needed_from calls row id j.0)) in
          without_all P f j.1 (n.0, subst (λ i. IsWithoutId i row n.0) h.1 n.1, n.2))
          (λ j.
          let d = j.0 in
          let g = greater d j.2 j.3 in
          let free : ¬ Contains g.0.row.needed.items c.id = λ q. j.4 (g.2.0.needed id (needed_to calls g.0.row id (subst (Contains g.0.row.needed.items) h.1 q))) in
          let n = (subst (λ x. AllOfFront calls now x g.0 P) k.2 (of_front g.0 g.1)) (subst (CanStep g.0 c) (sym h.2) (free, sym g.2.0.state ∙ j.5.takes)) in
          let set = set_is c a b h g.0 (all_left g.0 g.1) n.1.0 n.1.1 in
          reached j.1 (end_of calls n.1.0.row) f n.0 n.2 (set_most d (end_of calls g.0.row) j.1 (end_of calls n.1.0.row) a b g.2.0 j.5 set) j.6
          (out_is n.1.0.row n.0 (subst (λ i. IsWithoutId i n.1.0.row n.0) h.1 n.1.2)))
          x

      by_nil : IsRead marks id → answer ≡ Nothing → (d : LeanEnd) (k : Bool) → Walks marks e d k → (f : LeanEnd) → IsWithout d id f → Reaches f P
      by_nil r n d k w f u =
          let g = greater d k w in
          let made = subst (λ x. AllOfFront calls now x g.0 P) (effect_of_nil effect is r n) (of_front g.0 g.1) in
          reached d (end_of calls g.0.row) f made.0 made.2 g.2.0 u (out_is g.0.row made.0 made.1)

      by_value : IsRead marks id → (v : ℤ) → answer ≡ Number v → (f : LeanEnd) → EndsReadBy marks e id v f → Reaches f P
      by_value r v n f x =
          let k = effect_of_value effect is r v n in
          let c = k.0 in
          let h : HasCall calls id Reads c = k.1 in
          let rows = subst (λ x. AllOfRow calls x row P) k.2 of_row in
          ⊎_elim
          (λ j.
          let made = rows.0 (finds_from calls row c.id v (subst (λ i. IsTrue (e.finds i v)) (sym h.1) j.0)) in
          without_all P f j.1 (made.0, subst (λ i. IsWithoutId i row made.0) h.1 made.1, made.2))
          (λ o. ⊎_elim
          (λ j.
          let w = are.all j.1 (Writes v) j.3 in
          let put : IsPutBefore marks e w.0.id v j.2 = subst (λ i. IsPutBefore marks e i v j.2) (sym w.2) j.6 in
          let free : ¬ Contains row.needed.items w.0.id = λ q. j.4 (needed_to calls row j.1 (subst (Contains row.needed.items) w.2 q)) in
          let door = of_door w.0 w.1 put.may in
          let made = rows.1 (λ q. j.0 (subst (λ i. IsTrue (e.finds i v)) h.1 (finds_to calls row c.id v q))) (of_door c h.0 (subst (λ i. IsTrue (e.door i)) (sym h.1) j.5)) w.0 w.1 (w.3, free, door) in
          before_all w.0 v w.1 door P j.2 f put j.7 (made.0, subst (λ i. IsBefore calls w.0 v i row made.0) h.1 made.1, made.2))
          (λ j.
          let d = j.0 in
          let g = greater d j.1 j.2 in
          let made = (subst (λ x. AllOfFront calls now x g.0 P) k.2 (of_front g.0 g.1)) (sym g.2.0.state ∙ j.3) in
          reached d (end_of calls g.0.row) f made.0 made.2 g.2.0 j.4 (out_is g.0.row made.0 (subst (λ i. IsWithoutId i g.0.row made.0) h.1 made.1)))
          o)
          x

      pub ok_all : (f : LeanEnd) → Becomes marks e m f → Reaches f P
      ok_all f b = ⊎_elim
          (λ k. by_write k.0 k.1 f k.2)
          (λ o. ⊎_elim
          (λ k. by_cas k.0 k.1 k.2 f k.3)
          (λ p. ⊎_elim
          (λ k. by_nil k.0 k.1 k.2.0 k.2.1 k.2.2 f k.2.3)
          (λ k. by_value k.1 k.0 k.2 f k.3)
          p)
          o)
          b
