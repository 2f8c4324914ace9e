-- nothing that does not fit comes before the reported place
use Rattle.std.proofs.Common.{◌≡◌, ◌≢◌, ℕ, ◌+◌, ◌<◌, ◌≤◌, ⊎_elim, true, nat_eq, Option, Some, None, MatchOption, IfSome, List, [], ◌∷◌, ◌++◌, length, take, drop, get_or, slice_get, refl, sym, ap, ◌∙◌, subst, append_assoc, arith}
use Rattle.std.specs.List.{Contains}
use Rattle.std.proofs.lemmas.Bool.{cases_order}
use Rattle.std.proofs.lemmas.List.{length-take, take-append-le, take-append-drop, get_or_append_left, map-append, take_more}
use Rattle.std.proofs.lemmas.Option.{slice_get_within, slice_get-get_or, get_or_from_slice_get}
use Rattle.std.proofs.lemmas.List.Elements.{Contains-append_left, Contains-append_right, Contains-push, Contains-push_cases}
use Rattle.models.specs.Objects.{Object}
use Rattle.kinds.specs.declared.model_kind.ModelKind.{ModelKind}
use Rattle.kinds.specs.Kinds.{object_of}
use Rattle.events.specs.declared.event.Event.{Event}
use Rattle.linspec.specs.Orders.{Pairwise}
use Rattle.linspec.proofs.Filters.{from_filter}
use Rattle.linspec.proofs.Lists.{Contains-head, Pairwise-left, Pairwise-across}
use Rattle.witness.specs.declared.calls.Call.{Call}
use Rattle.witness.specs.declared.statuses.OperationStatus.{OperationStatus}
use Rattle.witness.specs.declared.mismatch.MismatchReason.{MismatchReason}
use Rattle.witness.specs.declared.mismatch.MismatchReason.TheVariants.{NoEvent, NoInvocation, Twice, Failed, TooLate, CannotTakePlace, AnotherAnswer, LeftOut}
use Rattle.witness.specs.declared.mismatch.Mismatch.{Mismatch}
use Rattle.witness.specs.declared.placing.Position.{Position}
use Rattle.witness.specs.Calls.{CanRun}
use Rattle.witness.specs.Orders.{marks_in, is_of, among, AreCalls, IsTooLate, IsRejectedThere, IsMismatchReason, ComesFirst}
use Rattle.witness.specs.Statuses.{status_at, AreStatuses}
use Rattle.witness.specs.Placing.{MayBeInOrder, StopsFor, Stops, AreAll, ArePlaced}
use Rattle.witness.specs.KeyOrders.{ids_of, on_key, IsBefore, AreInTime, IsCallBy, AreCallsBy, KeyFits, Judges, FindsAll}
use Rattle.witness.proofs.Runs.{CanRun-left, no_rejection}
use Rattle.witness.proofs.Sound.{IsSound, may, invoked_within, from_precedes}
use Rattle.witness.proofs.OneCall.{call_one, calls_one}
use Rattle.witness.proofs.Witnesses.{is_call, are_calls}
use Rattle.witness.proofs.Cuts.{cut_there, key_cut, in_rest, front_of}
use Rattle.witness.proofs.Reasons.{get_in, has_position, of_key, reason}

-- calls cut at an operation
record CallsCut (events : List Event) (statuses : List OperationStatus) (before : List ℕ) (id : ℕ) (calls : List Call) : Type 0 where
  first : List Call
  call : Call
  rest : List Call
  cut : (first ++ call ∷ []) ++ rest ≡ calls
  are : AreCallsBy events statuses before first
  is : IsCallBy events statuses id call

calls_cut : (events : List Event) (statuses : List OperationStatus) (before : List ℕ) (id : ℕ) (after : List ℕ) (calls : List Call) → AreCallsBy events statuses (before ++ id ∷ after) calls → CallsCut events statuses before id calls
calls_cut events statuses [] id after [] are = absurd are
calls_cut events statuses [] id after (c ∷ calls) are = record { first = []; call = c; rest = calls; cut = refl; are = tt; is = are.0 }
calls_cut events statuses (i ∷ before) id after [] are = absurd are
calls_cut events statuses (i ∷ before) id after (c ∷ calls) are =
    let r = calls_cut events statuses before id after calls are.1 in
    record { first = c ∷ r.first; call = r.call; rest = r.rest; cut = ap (λ l. c ∷ l) r.cut; are = (are.0, r.are); is = r.is }

-- a place in an order is within it
place_within : (kind : ModelKind) (events : List Event) (order : List ℕ) (place id : ℕ) (why : MismatchReason) → IsMismatchReason kind events order place id why → place ≤ length order
place_within kind events order place id NoEvent m = (let l = slice_get_within order place id m.0 in omega (arith, l))
place_within kind events order place id NoInvocation m = (let l = slice_get_within order place id m.0 in omega (arith, l))
place_within kind events order place id Twice m = (let l = slice_get_within order place id m.0 in omega (arith, l))
place_within kind events order place id Failed m = (let l = slice_get_within order place id m.0 in omega (arith, l))
place_within kind events order place id TooLate m = (let l = slice_get_within order place id m.0 in omega (arith, l))
place_within kind events order place id CannotTakePlace m = (let l = slice_get_within order place id m.0 in omega (arith, l))
place_within kind events order place id AnotherAnswer m = (let l = slice_get_within order place id m.0 in omega (arith, l))
place_within kind events order place id LeftOut m = (let e = m.0 in omega (arith, e))

-- where no more are placed
stop_long : (statuses : List OperationStatus) (order ids : List ℕ) (place id : ℕ) (why : MismatchReason) → StopsFor statuses order ids place id why → (n : ℕ) → n < place → n < length order → n < length ids
stop_long statuses order ids place id NoEvent s n lt within = (let e = ap length s.0 in let l = length-take place order in omega (arith, e, l))
stop_long statuses order ids place id NoInvocation s n lt within = (let e = ap length s.0 in let l = length-take place order in omega (arith, e, l))
stop_long statuses order ids place id Twice s n lt within = (let e = ap length s.0 in let l = length-take place order in omega (arith, e, l))
stop_long statuses order ids place id Failed s n lt within = (let e = ap length s.0 in let l = length-take place order in omega (arith, e, l))
stop_long statuses order ids place id TooLate s n lt within = absurd s.2
stop_long statuses order ids place id CannotTakePlace s n lt within = absurd s.2
stop_long statuses order ids place id AnotherAnswer s n lt within = absurd s.2
stop_long statuses order ids place id LeftOut s n lt within = (let e = ap length s.0 in omega (arith, e))

long_by : (statuses : List OperationStatus) (order ids : List ℕ) (place : ℕ) (stop : Option Mismatch) → MatchOption stop (AreAll statuses order ids) (Stops statuses order ids) → IfSome stop (λ (other : Mismatch). place ≤ other.place)
    → (n : ℕ) → n < place → n < length order → n < length ids
long_by statuses order ids place None all le n lt within = (let e = ap length all.all in omega (arith, e))
long_by statuses order ids place (Some s) stops le n lt within = stop_long statuses order ids s.place s.event s.why stops n (omega (arith, le)) within

module _ (events : List Event) (sound : IsSound events) (statuses : List OperationStatus) (are : AreStatuses events statuses) where
  module _ (order : List ℕ) (positions : List Position) (stop : Option Mismatch) (placed : ArePlaced events statuses order positions stop) (kind : ModelKind) (u : Mismatch) (f : FindsAll kind events statuses stop positions (Some u)) where
    abbrev ids : List ℕ
    ids = placed.ids

    -- one before the place
    module _ (place id : ℕ) (lt : place < u.place) (there : slice_get order place ≡ Some id) where
      within : place < length placed.ids
      within = long_by statuses order ids u.place stop placed.ends f.0.later place lt (slice_get_within order place id there)

      at : slice_get placed.ids place ≡ Some id
      at =
          let front = placed.front in
          slice_get-get_or ids place id within
          ∙ ap Some (sym (get_or_append_left ids front.0 id place within) ∙ ap (λ l. get_or l place id) front.1 ∙ get_or_from_slice_get order place id id there)

      front_is : take place order ≡ take place placed.ids
      front_is =
          let front = placed.front in
          let w = within in
          ap (take place) (sym front.1) ∙ take-append-le place ids front.0 (omega (arith, w))

      may_be_in_order : MayBeInOrder (status_at statuses id)
      may_be_in_order = placed.may id (get_in ids place id at)

      -- it is not among those before it
      alone : Contains (take place order) id → ⊥
      alone h =
          Pairwise-across (λ x y. x ≢ y) (take place ids) (id ∷ drop (place + 1) ids) (subst (Pairwise (λ x y. x ≢ y)) (sym (cut_there ids place id at)) placed.once)
          id id (subst (λ l. Contains l id) front_is h) (Contains-head id (drop (place + 1) ids)) refl

      -- up to it the operations of its key are the first of some that fit
      module _ (key : ℕ) (of : is_of key (slice_get events id) ≡ true) where
        record Fits : Type 0 where
          whole : List ℕ
          fits : KeyFits kind events statuses whole
          rest : List ℕ
          cut : (among events key (take place placed.ids) ++ id ∷ []) ++ rest ≡ whole

        abbrev before : List ℕ
        before = among events key (take place placed.ids)

        whole_cut : before ++ id ∷ among events key (drop (place + 1) placed.ids) ≡ among events key placed.ids
        whole_cut = key_cut events key ids place id at of

        own_key : ids_of (on_key key positions) ≡ among events key placed.ids
        own_key = of_key events sound statuses are order positions stop placed key

        by_first : (first : Option Mismatch) → Judges kind events statuses (on_key key positions) first → IfSome first (λ (other : Mismatch). u.place ≤ other.place) → Fits
        by_first None fits later = record {
          whole = among events key ids;
          fits = subst (KeyFits kind events statuses) own_key fits;
          rest = among events key (drop (place + 1) ids);
          cut = append_assoc before (id ∷ []) (among events key (drop (place + 1) ids)) ∙ whole_cut;
        }
        by_first (Some v) k later =
            let here = k.here in
            let in_key : Contains (on_key key positions) here = subst (λ l. Contains l here) k.cut (Contains-there k.before k.after here) in
            let in_positions = (from_filter (λ (x : Position). nat_eq x.key key) positions here in_key).0 in
            let s = has_position events sound statuses are order positions stop placed here in_positions in
            let far : place < s.0 = let p = s.1 in let q = k.place_is in omega (arith, lt, later, p, q) in
            let out : Contains (before ++ id ∷ []) here.id → ⊥ = λ h. once_there here.id s.0 far s.2 (⊎_elim
            (λ i. Contains-append_left (take place ids) (id ∷ []) here.id (from_filter (λ j. is_of key (slice_get events j)) (take place ids) here.id i).0)
            (λ e. subst (Contains (take place ids ++ id ∷ [])) e (Contains-push (take place ids) id))
            (Contains-push_cases before id here.id h)) in
            let both : before ++ id ∷ among events key (drop (place + 1) ids) ≡ ids_of k.before ++ here.id ∷ ids_of k.after =
            whole_cut ∙ sym own_key ∙ ap ids_of (sym k.cut) ∙ map-append (λ (x : Position). x.id) k.before (here ∷ k.after) in
            let front = front_of before (among events key (drop (place + 1) ids)) (ids_of k.before) (ids_of k.after) id here.id both out in
            record { whole = ids_of k.before; fits = k.fits; rest = front.0; cut = front.1 }
          where
            Contains-there : (xs ys : List Position) (x : Position) → Contains (xs ++ x ∷ ys) x
            Contains-there xs ys x = Contains-append_right xs (x ∷ ys) x (Contains-head x ys)

            once_there : (other at_other : ℕ) → place < at_other → slice_get placed.ids at_other ≡ Some other → Contains (take place placed.ids ++ id ∷ []) other → ⊥
            once_there other at_other far there' h =
                let more : take (place + 1) ids ≡ take place ids ++ id ∷ [] = take_more ids place id within ∙ ap (λ x. take place ids ++ x ∷ []) (get_or_from_slice_get ids place id id at) in
                Pairwise-across (λ x y. x ≢ y) (take (place + 1) ids) (drop (place + 1) ids) (subst (Pairwise (λ x y. x ≢ y)) (sym (take-append-drop (place + 1) ids)) placed.once)
                other other (subst (λ l. Contains l other) (sym more) h) (in_rest ids (place + 1) at_other other (omega arith) there') refl

        up_to : Fits
        up_to = let k = f.1 key in by_first k.first k.judged k.later

      not_late : IsTooLate events order place id → ⊥
      not_late t =
          let r = up_to t.key t.of_key in
          let b = among events t.key (take place ids) in
          let in_time : AreInTime statuses (b ++ id ∷ []) = Pairwise-left (λ x y. ¬ IsBefore statuses y x) (b ++ id ∷ []) r.rest (subst (AreInTime statuses) (sym r.cut) r.fits.in_time) in
          Pairwise-across (λ x y. ¬ IsBefore statuses y x) b (id ∷ []) in_time t.other id
          (subst (λ l. Contains (among events t.key l) t.other) front_is t.earlier) (Contains-head id [])
          (from_precedes events sound statuses are id t.other t.precedes)

      not_rejected : (why : MismatchReason) → IsRejectedThere kind events order place id why → ⊥
      not_rejected why h =
          let o : Object = object_of kind in
          let r = up_to h.key h.of_key in
          let b = among events h.key (take place ids) in
          let run = r.fits.can_run in
          let c = calls_cut events statuses b id r.rest run.calls (subst (λ l. AreCallsBy events statuses l run.calls) (sym r.cut ∙ append_assoc b (id ∷ []) r.rest) run.are) in
          let runs : CanRun o (c.first ++ c.call ∷ []) o.start = CanRun-left o (c.first ++ c.call ∷ []) c.rest o.start (subst (λ l. CanRun o l o.start) (sym c.cut) run.can_run) in
          let may_before : (i : ℕ) → Contains b i → MayBeInOrder (status_at statuses i) = λ i k. placed.may i (subst (λ l. Contains l i) (take-append-drop place ids)
          (Contains-append_left (take place ids) (drop place ids) i (from_filter (λ j. is_of h.key (slice_get events j)) (take place ids) i k).0)) in
          let first_is : c.first ≡ h.calls = calls_one events sound b c.first h.calls (are_calls events sound statuses are b c.first may_before c.are) (subst (λ l. AreCalls (marks_in events) (among events h.key l) h.calls) front_is h.are) in
          let call_is : c.call ≡ h.call = call_one events sound id c.call h.call (is_call events sound statuses are id c.call may_be_in_order c.is) h.is in
          no_rejection o h.calls h.call why (subst (λ l. CanRun o (l ++ h.call ∷ []) o.start) first_is (subst (λ d. CanRun o (c.first ++ d ∷ []) o.start) call_is runs)) h.rejected

    not_before : (p q : ℕ) → (p < q → ⊥) → q ≤ p
    not_before p q h = ⊎_elim (λ (e : p ≡ q). omega (arith, e)) (λ k. ⊎_elim (λ l. absurd (h l)) (λ (l : q < p). omega (arith, l)) k) (cases_order p q)

    first_of : (place id : ℕ) (why : MismatchReason) → IsMismatchReason kind events order place id why → u.place ≤ place
    first_of place id NoEvent m = not_before place u.place (λ lt.
        let l = invoked_within events sound id (may events sound statuses are id (may_be_in_order place id lt m.0)).0 in
        let past = m.1 in
        omega (arith, l, past))
    first_of place id NoInvocation m = not_before place u.place (λ lt. m.1 (may events sound statuses are id (may_be_in_order place id lt m.0)).0)
    first_of place id Twice m = not_before place u.place (λ lt. alone place id lt m.0 m.1)
    first_of place id Failed m = not_before place u.place (λ lt. (may events sound statuses are id (may_be_in_order place id lt m.0)).1 m.1)
    first_of place id TooLate m = not_before place u.place (λ lt. not_late place id lt m.0 m.1)
    first_of place id CannotTakePlace m = not_before place u.place (λ lt. not_rejected place id lt m.0 CannotTakePlace m.1)
    first_of place id AnotherAnswer m = not_before place u.place (λ lt. not_rejected place id lt m.0 AnotherAnswer m.1)
    first_of place id LeftOut m =
        let within = place_within kind events order u.place u.event u.why (reason events sound statuses are order positions stop placed kind u f).is_so in
        let e = m.0 in
        omega (arith, within, e)

    pub first : ComesFirst kind events order u
    first = first_of
