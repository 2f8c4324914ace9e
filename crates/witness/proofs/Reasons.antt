-- the reason why an order is not a witness
use Rattle.std.proofs.Common.{◌≡◌, ◌≢◌, ℕ, zero, suc, ◌+◌, ◌<◌, ⊎_elim, true, nat_eq, Option, Some, None, MatchOption, List, [], ◌∷◌, ◌++◌, length, take, drop, slice_get, refl, sym, ap, ◌∙◌, subst, arith}
use Rattle.std.specs.List.{Contains}
use Rattle.std.proofs.lemmas.List.{map-append, take-append-le}
use Rattle.std.proofs.lemmas.Option.{slice_get_within, get_or_from_slice_get}
use Rattle.std.proofs.lemmas.List.Elements.{Contains-append_left, Contains-append_right}
use Rattle.kinds.specs.declared.model_kind.ModelKind.{ModelKind}
use Rattle.kinds.specs.Kinds.{object_of}
use Rattle.events.specs.declared.event.Event.{Event}
use Rattle.events.specs.Events.{Mark}
use Rattle.linspec.proofs.Lists.{Contains-nil, Contains-head, Contains-cons_cases, Pairwise-across}
use Rattle.linspec.specs.Operations.{IsInvoked}
use Rattle.linspec.specs.Orders.{Pairwise}
use Rattle.linspec.proofs.Filters.{from_filter, from_map, Pairwise-filter}
use Rattle.witness.proofs.Cuts.{cut_there, key_cut, one_cut}
use Rattle.witness.specs.declared.calls.Call.{Call}
use Rattle.witness.specs.declared.statuses.OperationStatus.{OperationStatus}
use Rattle.witness.specs.declared.mismatch.MismatchReason.{MismatchReason}
use Rattle.witness.specs.declared.mismatch.MismatchReason.TheVariants.{NoEvent, NoInvocation, Twice, Failed, TooLate, CannotTakePlace, AnotherAnswer, LeftOut}
use Rattle.witness.specs.declared.mismatch.Mismatch.{Mismatch}
use Rattle.witness.specs.declared.placing.Position.{Position}
use Rattle.witness.specs.Calls.{CanRun, unanswered}
use Rattle.witness.specs.Orders.{marks_in, is_of, among, IsCall, AreCalls, before_on_key, IsTooLate, IsRejectedThere, IsMismatchReason, rank_of, NoneOfLesserRank, IsMismatch, IsWitness}
use Rattle.witness.specs.Statuses.{status_at, AreStatuses}
use Rattle.witness.specs.Placing.{MayBeInOrder, key_at, positions_from, StopsFor, Stops, AreAll, ArePlaced}
use Rattle.witness.specs.KeyOrders.{ids_of, on_key, IsBefore, IsCallBy, AreCallsBy, AreThere, KeyFits, IsMismatchFor, FindsAll}
use Rattle.witness.proofs.Sound.{IsSound, is_there, one_key, invoked_within, may, must, returned, not_invoked, failed, to_precedes, from_precedes}
use Rattle.witness.proofs.OneCall.{call_one, calls_one}
use Rattle.witness.proofs.Witnesses.{ids_on_key, is_of_there, is_call, are_calls, witness_of}

-- the element at a place
pub get_in : {X : Type 0} (xs : List X) (k : ℕ) (x : X) → slice_get xs k ≡ Some x → Contains xs x
get_in xs k x e = (k, slice_get_within xs k x e, get_or_from_slice_get xs k x x e)

get_front : {X : Type 0} (xs rest : List X) (k : ℕ) (x : X) → slice_get xs k ≡ Some x → slice_get (xs ++ rest) k ≡ Some x
get_front [] rest k x e = cc
get_front (y ∷ xs) rest zero x e = e
get_front (y ∷ xs) rest (suc k) x e = get_front xs rest k x e

position_of : (events : List Event) (n : ℕ) (ids : List ℕ) (s : Position) → Contains (positions_from events n ids) s → (k : ℕ) × (s.place ≡ n + k) × (slice_get ids k ≡ Some s.id)
position_of events n [] s h = absurd (Contains-nil s h)
position_of events n (id ∷ ids) s h =
    ⊎_elim
    (λ (e : record { key = key_at (slice_get events id); place = n; id = id } ≡ s). (0, (let p : n ≡ s.place = ap (λ (x : Position). x.place) e in omega (arith, p)), ap (λ (x : Position). Some x.id) e))
    (λ k. let r = position_of events (n + 1) ids s k in (suc r.0, (let p = r.1 in omega (arith, p)), r.2))
    (Contains-cons_cases (record { key = key_at (slice_get events id); place = n; id = id }) (positions_from events (n + 1) ids) s h)

module _ (events : List Event) (sound : IsSound events) (statuses : List OperationStatus) (are : AreStatuses events statuses) (order : List ℕ) (positions : List Position) (stop : Option Mismatch) (placed : ArePlaced events statuses order positions stop) where
  abbrev ids : List ℕ
  ids = placed.ids

  pub has_position : (s : Position) → Contains positions s → (k : ℕ) × (s.place ≡ 0 + k) × (slice_get ids k ≡ Some s.id)
  has_position s h = position_of events 0 ids s (subst (λ l. Contains l s) placed.are h)

  pub there : AreThere events positions
  there s h =
      let k = has_position s h in
      let t = is_there events sound s.id (may events sound statuses are s.id (placed.may s.id (get_in ids k.0 s.id k.2))).0 in
      (t.op, t.op_is)

  pub of_key : (key : ℕ) → ids_of (on_key key positions) ≡ among events key ids
  of_key key =
      ap (λ l. ids_of (on_key key l)) placed.are
      ∙ ids_on_key events key 0 ids (λ id h. is_of_there events sound statuses are id key (is_there events sound id (may events sound statuses are id (placed.may id h)).0))

  -- all fit
  pub fits : (kind : ModelKind) → FindsAll kind events statuses stop positions None → IsWitness kind events order
  fits kind f =
      let ends : AreAll statuses order ids = subst (λ s. MatchOption s (AreAll statuses order ids) (Stops statuses order ids)) f.0 placed.ends in
      let all : ids ≡ order = ends.all in
      witness_of events sound statuses are kind order
      (λ id h. placed.may id (subst (λ l. Contains l id) (sym all) h))
      (subst (λ l. Pairwise (λ x y. x ≢ y) l) all placed.once)
      ends.each
      (λ key. subst (λ l. KeyFits kind events statuses (among events key l)) all (subst (KeyFits kind events statuses) (of_key key) (f.1 key)))

  -- an operation that may be next has no reason against it
  none_barring : (kind : ModelKind) (place id : ℕ) (other : MismatchReason) → rank_of other < 3 → MayBeInOrder (status_at statuses id) → ¬ IsMismatchReason kind events order place id other
  none_barring kind place id NoEvent lt may_be m =
      let within = invoked_within events sound id (may events sound statuses are id may_be).0 in
      let past = m.1 in
      omega (arith, within, past)
  none_barring kind place id NoInvocation lt may_be m = m.1 (may events sound statuses are id may_be).0
  none_barring kind place id Failed lt may_be m = (may events sound statuses are id may_be).1 m.1
  none_barring kind place id other lt may_be m = absurd (omega (arith, lt))

  -- there is nothing behind the last place
  none_behind : (kind : ModelKind) (place id : ℕ) (other : MismatchReason) → rank_of other < 7 → place ≡ length order → ¬ IsMismatchReason kind events order place id other
  none_behind kind place id LeftOut lt is m = absurd (omega (arith, lt))
  none_behind kind place id other lt is m = let within = slice_get_within order place id m.0 in omega (arith, within, is)

  -- one may not be next
  stop_reason : (kind : ModelKind) (place id : ℕ) (why : MismatchReason) → StopsFor statuses order ids place id why → IsMismatchReason kind events order place id why
  stop_reason kind place id NoEvent s = (s.1, (let l = are.long in let b = s.2 in omega (arith, l, b)))
  stop_reason kind place id NoInvocation s = (s.1, not_invoked events sound statuses are id s.2.1)
  stop_reason kind place id Twice s = (s.1, subst (λ l. Contains l id) s.0 s.2)
  stop_reason kind place id Failed s = (s.1, (failed events sound statuses are id s.2).1)
  stop_reason kind place id TooLate s = absurd s.2
  stop_reason kind place id CannotTakePlace s = absurd s.2
  stop_reason kind place id AnotherAnswer s = absurd s.2
  stop_reason kind place id LeftOut s = (
    s.1,
    record {
      returned = (returned events sound statuses are id s.2).1;
      missing = s.3;
      first = λ other lt r. s.4 other lt (must events sound statuses are other r);
    },
  )

  -- and for none of a lesser rank
  stop_told : (kind : ModelKind) (place id : ℕ) (why : MismatchReason) → StopsFor statuses order ids place id why → NoneOfLesserRank kind events order place id why
  stop_told kind place id NoEvent s = λ other lt m. omega (arith, lt)
  stop_told kind place id NoInvocation s = none
    where
      none : (other : MismatchReason) → rank_of other < 1 → ¬ IsMismatchReason kind events order place id other
      none NoEvent lt m = let l = are.long in let within = s.2.0 in let past = m.1 in omega (arith, l, within, past)
      none other lt m = absurd (omega (arith, lt))
  stop_told kind place id Failed s = none
    where
      invoked : IsInvoked (marks_in events) id
      invoked = (failed events sound statuses are id s.2).0

      none : (other : MismatchReason) → rank_of other < 2 → ¬ IsMismatchReason kind events order place id other
      none NoEvent lt m = let within = invoked_within events sound id invoked in let past = m.1 in omega (arith, within, past)
      none NoInvocation lt m = m.1 invoked
      none other lt m = absurd (omega (arith, lt))
  stop_told kind place id Twice s = λ other lt. none_barring kind place id other lt (placed.may id s.2)
  stop_told kind place id TooLate s = absurd s.2
  stop_told kind place id CannotTakePlace s = absurd s.2
  stop_told kind place id AnotherAnswer s = absurd s.2
  stop_told kind place id LeftOut s = λ other lt m. none_behind kind place id other lt s.1 m

  -- one of a key does not fit
  module _ (kind : ModelKind) (key : ℕ) (before : List Position) (here : Position) (after : List Position) (cut : before ++ here ∷ after ≡ on_key key positions) where
    in_positions : (s : Position) → Contains (before ++ here ∷ after) s → Contains positions s
    in_positions s h = (from_filter (λ (x : Position). nat_eq x.key key) positions s (subst (λ l. Contains l s) cut h)).0

    may_here : (s : Position) → Contains (before ++ here ∷ after) s → MayBeInOrder (status_at statuses s.id)
    may_here s h = let k = has_position s (in_positions s h) in placed.may s.id (get_in ids k.0 s.id k.2)

    may_before : (id : ℕ) → Contains (ids_of before) id → MayBeInOrder (status_at statuses id)
    may_before id h =
        let s = from_map (λ (x : Position). x.id) before id h in
        subst (λ i. MayBeInOrder (status_at statuses i)) s.2 (may_here s.0 (Contains-append_left before (here ∷ after) s.0 s.1))

    here_in : Contains (before ++ here ∷ after) here
    here_in = Contains-append_right before (here ∷ after) here (Contains-head here after)

    at_own : slice_get placed.ids here.place ≡ Some here.id
    at_own =
        let k = has_position here (in_positions here here_in) in
        subst (λ n. slice_get ids n ≡ Some here.id) (let q = k.1 in let t : k.0 ≡ here.place = omega (arith, q) in t) k.2

    at_place : slice_get order here.place ≡ Some here.id
    at_place = let front = placed.front in subst (λ l. slice_get l here.place ≡ Some here.id) front.1 (get_front ids front.0 here.place here.id at_own)

    mapped : ids_of before ++ here.id ∷ ids_of after ≡ among events key placed.ids
    mapped = sym (map-append (λ (x : Position). x.id) before (here ∷ after)) ∙ ap ids_of cut ∙ of_key key

    on_its_key : is_of key (slice_get events here.id) ≡ true
    on_its_key = (from_filter (λ i. is_of key (slice_get events i)) ids here.id (subst (λ l. Contains l here.id) mapped (Contains-append_right (ids_of before) (here.id ∷ ids_of after) here.id (Contains-head here.id (ids_of after))))).1

    front_is : take here.place ids ≡ take here.place order
    front_is =
        let front = placed.front in
        let fits = slice_get_within ids here.place here.id at_own in
        sym (take-append-le here.place ids front.0 (omega (arith, fits))) ∙ ap (take here.place) front.1

    before_is : ids_of before ≡ before_on_key events key order here.place
    before_is =
        let once : Pairwise (λ x y. x ≢ y) (ids_of before ++ here.id ∷ ids_of after) = subst (Pairwise (λ x y. x ≢ y)) (sym mapped) (Pairwise-filter (λ i. is_of key (slice_get events i)) (λ x y. x ≢ y) ids placed.once) in
        one_cut (ids_of before) (ids_of after) (among events key (take here.place ids)) (among events key (drop (here.place + 1) ids)) here.id once
        (mapped ∙ sym (key_cut events key ids here.place here.id at_own on_its_key))
        ∙ ap (among events key) front_is

    here_may : IsInvoked (marks_in events) here.id × (¬ Contains (marks_in events) (Mark.Failed here.id))
    here_may = may events sound statuses are here.id (may_here here here_in)

    -- it is not there before
    here_new : ¬ Contains (take here.place order) here.id
    here_new h =
        Pairwise-across (λ x y. x ≢ y) (take here.place ids) (here.id ∷ drop (here.place + 1) ids) (subst (Pairwise (λ x y. x ≢ y)) (sym (cut_there ids here.place here.id at_own)) placed.once)
        here.id here.id (subst (λ l. Contains l here.id) (sym front_is) h) (Contains-head here.id (drop (here.place + 1) ids)) refl

    -- its calls are those of its key
    are_before : (calls : List Call) → AreCallsBy events statuses (ids_of before) calls → AreCalls (marks_in events) (before_on_key events key order here.place) calls
    are_before calls by = subst (λ l. AreCalls (marks_in events) l calls) before_is (are_calls events sound statuses are (ids_of before) calls may_before by)

    is_here : (c : Call) → IsCallBy events statuses here.id c → IsCall (marks_in events) here.id c
    is_here c by = is_call events sound statuses are here.id c (may_here here here_in) by

    key_reason : (why : MismatchReason) → IsMismatchFor kind events statuses (ids_of before) here.id why → IsMismatchReason kind events order here.place here.id why
    key_reason TooLate w = (
      at_place,
      record {
        key = key;
        of_key = on_its_key;
        other = w.0;
        earlier = subst (λ l. Contains l w.0) before_is w.1;
        precedes = to_precedes events sound statuses are here.id w.0 w.2 (may events sound statuses are w.0 (may_before w.0 w.1)).0;
      },
    )
    key_reason CannotTakePlace w = (
      at_place,
      record {
        key = key;
        of_key = on_its_key;
        calls = w.calls;
        call = w.call;
        are = are_before w.calls w.are;
        is = is_here w.call w.is;
        rejected = w.rejected;
      },
    )
    key_reason AnotherAnswer w = (
      at_place,
      record {
        key = key;
        of_key = on_its_key;
        calls = w.calls;
        call = w.call;
        are = are_before w.calls w.are;
        is = is_here w.call w.is;
        rejected = w.rejected;
      },
    )
    key_reason NoEvent w = absurd w.rejected
    key_reason NoInvocation w = absurd w.rejected
    key_reason Twice w = absurd w.rejected
    key_reason Failed w = absurd w.rejected
    key_reason LeftOut w = absurd w.rejected

    -- and for none of a lesser rank
    none_placing : (other : MismatchReason) → rank_of other < 4 → ¬ IsMismatchReason kind events order here.place here.id other
    none_placing Twice lt m = here_new m.1
    none_placing other lt m = none_barring kind here.place here.id other (omega (arith, lt)) (may_here here here_in) m

    not_late : ((other : ℕ) → Contains (ids_of before) other → ¬ IsBefore statuses here.id other) → ¬ IsTooLate events order here.place here.id
    not_late in_time t =
        let same : t.key ≡ key = one_key events sound here.id t.key key here_may.0 t.of_key on_its_key in
        in_time t.other (subst (λ l. Contains l t.other) (ap (λ k. before_on_key events k order here.place) same ∙ sym before_is) t.earlier) (from_precedes events sound statuses are here.id t.other t.precedes)

    none_late : ((other : ℕ) → Contains (ids_of before) other → ¬ IsBefore statuses here.id other) → (other : MismatchReason) → rank_of other < 5 → ¬ IsMismatchReason kind events order here.place here.id other
    none_late in_time TooLate lt m = not_late in_time m.1
    none_late in_time other lt m = none_placing other (omega (arith, lt)) m

    can_come_next : (calls : List Call) (c : Call) → AreCallsBy events statuses (ids_of before) calls → IsCallBy events statuses here.id c → CanRun (object_of kind) (calls ++ unanswered c ∷ []) (object_of kind).start
        → ¬ IsRejectedThere kind events order here.place here.id CannotTakePlace
    can_come_next calls c by is positions h =
        let same : h.key ≡ key = one_key events sound here.id h.key key here_may.0 h.of_key on_its_key in
        let their_calls = subst (λ k. AreCalls (marks_in events) (before_on_key events k order here.place) h.calls) same h.are in
        let calls_are : calls ≡ h.calls = calls_one events sound (before_on_key events key order here.place) calls h.calls (are_before calls by) their_calls in
        let call_is : c ≡ h.call = call_one events sound here.id c h.call (is_here c is) h.is in
        h.rejected (subst (λ l. CanRun (object_of kind) (l ++ unanswered h.call ∷ []) (object_of kind).start) calls_are
        (subst (λ d. CanRun (object_of kind) (calls ++ unanswered d ∷ []) (object_of kind).start) call_is positions))

    key_told : (why : MismatchReason) → IsMismatchFor kind events statuses (ids_of before) here.id why → NoneOfLesserRank kind events order here.place here.id why
    key_told TooLate w = none_placing
    key_told CannotTakePlace w = none_late w.in_time
    key_told AnotherAnswer w = none
      where
        none : (other : MismatchReason) → rank_of other < 6 → ¬ IsMismatchReason kind events order here.place here.id other
        none CannotTakePlace lt m = can_come_next w.calls w.call w.are w.is w.rejected.0 m.1
        none other lt m = none_late w.in_time other (omega (arith, lt)) m
    key_told NoEvent w = absurd w.rejected
    key_told NoInvocation w = absurd w.rejected
    key_told Twice w = absurd w.rejected
    key_told Failed w = absurd w.rejected
    key_told LeftOut w = absurd w.rejected

  pub reason : (kind : ModelKind) (u : Mismatch) → FindsAll kind events statuses stop positions (Some u) → IsMismatch kind events order u
  reason kind u f =
      ⊎_elim
      (λ e.
      let s = subst (λ s. MatchOption s (AreAll statuses order ids) (Stops statuses order ids)) e placed.ends in
      record { is_so = stop_reason kind u.place u.event u.why s; told = stop_told kind u.place u.event u.why s })
      (λ k.
      let w = k.1 in
      let so : IsMismatchReason kind events order w.here.place w.here.id u.why = key_reason kind k.0 w.before w.here w.after w.cut u.why w.mismatch_for in
      let told : NoneOfLesserRank kind events order w.here.place w.here.id u.why = key_told kind k.0 w.before w.here w.after w.cut u.why w.mismatch_for in
      record {
        is_so = subst (λ p. IsMismatchReason kind events order p u.event u.why) (sym w.place_is) (subst (λ i. IsMismatchReason kind events order w.here.place i u.why) (sym w.event_is) so);
        told = subst (λ p. NoneOfLesserRank kind events order p u.event u.why) (sym w.place_is) (subst (λ i. NoneOfLesserRank kind events order w.here.place i u.why) (sym w.event_is) told);
      })
      f.0.one
