-- an order that has such a reason is not a witness
use Rattle.std.proofs.Common.{◌≡◌, ◌≢◌, ℕ, ◌+◌, ◌≤◌, true, Option, Some, None, List, [], ◌∷◌, ◌++◌, length, map, take, drop, slice_get, refl, sym, ◌∙◌, subst, append_assoc, arith}
use Rattle.std.specs.List.{Contains}
use Rattle.std.proofs.lemmas.Bool.{eqb-true, eq-eqb}
use Rattle.std.proofs.lemmas.List.Elements.{Contains-append_left, Contains-append_right}
use Rattle.models.specs.declared.finding.Found.{Found}
use Rattle.models.specs.declared.finding.Answer.{Answer}
use Rattle.models.specs.Objects.{Object, Fits}
use Rattle.kinds.specs.declared.model_kind.ModelKind.{ModelKind}
use Rattle.kinds.specs.Kinds.{object_of}
use Rattle.events.specs.declared.event.Event.{Event}
use Rattle.events.specs.Events.{Mark, marks}
use Rattle.events.specs.Events.Mark.{Invoked, Returned, Failed}
use Rattle.linspec.specs.Operations.{HasReturned, Precedes}
use Rattle.linspec.specs.Orders.{Taken, Pairwise, Includes, Run, IsLinearizable, product}
use Rattle.linspec.proofs.Lists.{Contains-head, Contains-tail, Pairwise-across}
use Rattle.linspec.proofs.Filters.{from_filter, to_filter, to_map, from_map, map-cut}
use Rattle.linspec.proofs.Marks.{Run-cut}
use Rattle.locality.proofs.Locality.{IsLinearizable-keys}
use Rattle.witness.specs.declared.calls.Call.{Call}
use Rattle.witness.specs.declared.statuses.OperationStatus.{OperationStatus}
use Rattle.witness.specs.declared.mismatch.MismatchReason.{MismatchReason}
use Rattle.witness.specs.declared.mismatch.MismatchReason.TheVariants.{NoEvent, NoInvocation, Twice, Failed as ThatFailed, TooLate, CannotTakePlace, AnotherAnswer, LeftOut}
use Rattle.witness.specs.Calls.{FitsIf, CanRun}
use Rattle.witness.specs.Orders.{marks_in, marks_of_key, is_of, among, IsWitness, HasAnswer, IsCall, AreCalls, before_on_key, IsTooLate, IsRejectedThere, IsMismatchReason}
use Rattle.witness.specs.Statuses.{AreStatuses}
use Rattle.witness.proofs.Runs.{no_rejection}
use Rattle.witness.proofs.Cuts.{key_cut}
use Rattle.witness.proofs.Sound.{entries, IsSound, IsThere, is_there, one_op, invoked_within, to_key, in_whole, key_precedes, must, returned}
use Rattle.witness.proofs.Reasons.{get_in}

-- pairwise for the results of a function, the other way round
map-Pairwise : {X Y : Type 0} (f : X → Y) (R : Y → Y → Type 0) (xs : List X) → Pairwise (λ x y. R (f x) (f y)) xs → Pairwise R (map f xs)
map-Pairwise f R [] h = tt
map-Pairwise f R (x ∷ xs) h = ((λ y k. let z = from_map f xs y k in subst (R (f x)) z.2 (h.0 z.0 z.1)), map-Pairwise f R xs h.1)

-- a witness shows that the history is linearizable
pub linearizable : (kind : ModelKind) (events : List Event) (order : List ℕ) → IsSound events → IsWitness kind events order → IsLinearizable (product (λ _. kind)) (marks_in events)
linearizable kind events order sound w =
    (IsLinearizable-keys (λ _. kind) (entries events) sound.keyed sound.well).1 (λ key. let o = w.each key in (o.order, o.state, o.legal))

-- calls of a list that ends with one more
calls_push : (marks : List Mark) (ids : List ℕ) (calls : List Call) (id : ℕ) (c : Call) → AreCalls marks ids calls → IsCall marks id c → AreCalls marks (ids ++ id ∷ []) (calls ++ c ∷ [])
calls_push marks [] [] id c are is = (is, tt)
calls_push marks [] (d ∷ calls) id c are is = absurd are
calls_push marks (i ∷ ids) [] id c are is = absurd are
calls_push marks (i ∷ ids) (d ∷ calls) id c are is = (are.0, calls_push marks ids calls id c are.1 is)

module _ (events : List Event) (sound : IsSound events) where
  fits_if : (id : ℕ) (found : Found) (a : Option Answer) → HasAnswer (marks_in events) id a → ((answer : Answer) → Contains (marks_in events) (Returned id answer) → Fits found answer) → FitsIf found a
  fits_if id found None h fits = tt
  fits_if id found (Some a) h fits = fits a h

  -- the operations of an order can run as calls
  calls_run : (o : Object) (xs : List Taken) (calls : List Call) (s t : o.State) → AreCalls (marks_in events) (map (λ (x : Taken). x.id) xs) calls → Run o s xs t
      → ((x : Taken) → Contains xs x → Contains (marks_in events) (Invoked x.id x.op)) → ((x : Taken) (answer : Answer) → Contains xs x → Contains (marks_in events) (Returned x.id answer) → Fits x.found answer) → CanRun o calls s
  calls_run o [] [] s t are run invoked fits = tt
  calls_run o [] (c ∷ calls) s t are run invoked fits = absurd are
  calls_run o (x ∷ xs) [] s t are run invoked fits = absurd are
  calls_run o (x ∷ xs) (c ∷ calls) s t are run invoked fits =
      let is = are.0 in
      let same : x.op ≡ c.op = one_op events sound x.id x.op c.op (invoked x (Contains-head x xs)) is.invoked in (
        x.found,
        run.0,
        subst (λ p. o.Steps s p x.found run.0) same run.1,
        fits_if x.id x.found c.answer is.answered (λ a h. fits x a (Contains-head x xs) h),
        calls_run o xs calls run.0 t are.1 run.2 (λ y h. invoked y (Contains-tail x xs y h)) (λ y a h k. fits y a (Contains-tail x xs y h) k),
      )

  module _ (kind : ModelKind) (order : List ℕ) (w : IsWitness kind events order) where
    -- an operation of the order, and its key
    there : (id : ℕ) → Contains order id → IsThere events sound id
    there id h = is_there events sound id (w.invoked id h)

    on_its_key : (key id : ℕ) → Contains (among events key order) id → (s : IsThere events sound id) × (s.entry.key ≡ key)
    on_its_key key id h =
        let f = from_filter (λ i. is_of key (slice_get events i)) order id h in
        let s = there id f.0 in
        (s, eqb-true s.entry.key key (sym (s.of key) ∙ f.1))

    is_mine : (id : ℕ) (s : IsThere events sound id) → is_of s.entry.key (slice_get events id) ≡ true
    is_mine id s = s.of s.entry.key ∙ eq-eqb s.entry.key s.entry.key refl

    mine : (id : ℕ) (h : Contains order id) (s : IsThere events sound id) → Contains (among events s.entry.key order) id
    mine id h s = to_filter (λ i. is_of s.entry.key (slice_get events i)) order id h (is_mine id s)

    taken : (key id : ℕ) → Contains (among events key order) id → Includes (w.each key).order id
    taken key id h =
        let o = w.each key in
        let x = from_map (λ (y : Taken). y.id) o.order id (subst (λ l. Contains l id) (sym o.ids_are) h) in
        (x.0, x.1, x.2)

    once : (key : ℕ) → Pairwise (λ a b. a ≢ b) (among events key order)
    once key = let o = w.each key in subst (Pairwise (λ a b. a ≢ b)) o.ids_are (map-Pairwise (λ (x : Taken). x.id) (λ a b. a ≢ b) o.order o.legal.once)

    in_time : (key : ℕ) → Pairwise (λ a b. ¬ Precedes (marks_of_key events key) b a) (among events key order)
    in_time key = let o = w.each key in subst (Pairwise (λ a b. ¬ Precedes (marks_of_key events key) b a)) o.ids_are (map-Pairwise (λ (x : Taken). x.id) (λ a b. ¬ Precedes (marks_of_key events key) b a) o.order o.legal.in_time)

    not_twice : (place id : ℕ) → slice_get order place ≡ Some id → Contains (take place order) id → ⊥
    not_twice place id at h =
        let s = there id (get_in order place id at) in
        let cut = key_cut events s.entry.key order place id at (is_mine id s) in
        Pairwise-across (λ a b. a ≢ b) (among events s.entry.key (take place order)) (id ∷ among events s.entry.key (drop (place + 1) order)) (subst (Pairwise (λ a b. a ≢ b)) (sym cut) (once s.entry.key)) id id
        (to_filter (λ i. is_of s.entry.key (slice_get events i)) (take place order) id h (is_mine id s))
        (Contains-head id (among events s.entry.key (drop (place + 1) order))) refl

    not_failed : (id : ℕ) → Contains order id → ¬ Contains (marks_in events) (Failed id)
    not_failed id h f =
        let s = there id h in
        let x = taken s.entry.key id (mine id h s) in
        (w.each s.entry.key).legal.none_failed x.0 x.1 (subst (λ i. Contains (marks_of_key events s.entry.key) (Failed i)) (sym x.2) (to_key events sound id s (Failed id) f refl))

    not_late : (place id : ℕ) → slice_get order place ≡ Some id → IsTooLate events order place id → ⊥
    not_late place id at t =
        let before = before_on_key events t.key order place in
        let after = among events t.key (drop (place + 1) order) in
        let cut : before ++ id ∷ after ≡ among events t.key order = key_cut events t.key order place id at t.of_key in
        let r = on_its_key t.key id (subst (λ l. Contains l id) cut (Contains-append_right before (id ∷ after) id (Contains-head id after))) in
        let e = on_its_key t.key t.other (subst (λ l. Contains l t.other) cut (Contains-append_left before (id ∷ after) t.other t.earlier)) in
        Pairwise-across (λ a b. ¬ Precedes (marks_of_key events t.key) b a) before (id ∷ after) (subst (Pairwise (λ a b. ¬ Precedes (marks_of_key events t.key) b a)) (sym cut) (in_time t.key))
        t.other id t.earlier (Contains-head id after) (key_precedes events sound t.key id t.other r.0 e.0 r.1 e.1 t.precedes)

    runs : (place id : ℕ) (why : MismatchReason) → slice_get order place ≡ Some id → (h : IsRejectedThere kind events order place id why) → CanRun (object_of kind) (h.calls ++ h.call ∷ []) (object_of kind).start
    runs place id why at h =
        let o : Object = object_of kind in
        let k = w.each h.key in
        let before = before_on_key events h.key order place in
        let after = among events h.key (drop (place + 1) order) in
        let cut : (before ++ id ∷ []) ++ after ≡ among events h.key order = append_assoc before (id ∷ []) after ∙ key_cut events h.key order place id at h.of_key in
        let c = map-cut (λ (x : Taken). x.id) k.order (before ++ id ∷ []) after (cut ∙ sym k.ids_are) in
        let r = Run-cut o o.start k.state c.0 c.1 (subst (λ l. Run o o.start l k.state) c.2 k.legal.run) in
        let inside : (x : Taken) → Contains c.0 x → Contains k.order x = λ x i. subst (λ l. Contains l x) (sym c.2) (Contains-append_left c.0 c.1 x i) in
        calls_run o c.0 (h.calls ++ h.call ∷ []) o.start r.0 (subst (λ l. AreCalls (marks_in events) l (h.calls ++ h.call ∷ [])) c.3 (calls_push (marks_in events) before h.calls id h.call h.are h.is)) r.1
        (λ x i. in_whole events sound h.key (Invoked x.id x.op) (k.legal.invoked x (inside x i)))
        (λ x a i f.
        let s = on_its_key h.key x.id (subst (λ l. Contains l x.id) k.ids_are (to_map (λ (y : Taken). y.id) k.order x (inside x i))) in
        k.legal.fits x a (inside x i) (subst (λ j. Contains (marks_of_key events j) (Returned x.id a)) s.1 (to_key events sound x.id s.0 (Returned x.id a) f refl)))

    rejected_nowhere : (place id : ℕ) (why : MismatchReason) → slice_get order place ≡ Some id → IsRejectedThere kind events order place id why → ⊥
    rejected_nowhere place id why at h = no_rejection (object_of kind) h.calls h.call why (runs place id why at h) h.rejected

    module _ (statuses : List OperationStatus) (are : AreStatuses events statuses) where
      not_left : (id : ℕ) → HasReturned (marks_in events) id → Contains order id
      not_left id r =
          let s = is_there events sound id (returned events sound statuses are id (must events sound statuses are id r)).0 in
          let o = w.each s.entry.key in
          let x = o.legal.all_done id (r.0, to_key events sound id s (Returned id r.0) r.1 refl) in
          (from_filter (λ i. is_of s.entry.key (slice_get events i)) order id (subst (λ l. Contains l id) o.ids_are (subst (Contains (map (λ (y : Taken). y.id) o.order)) x.2 (to_map (λ (y : Taken). y.id) o.order x.0 x.1)))).0

      no_event : (id : ℕ) → Contains order id → length events ≤ id → ⊥
      no_event id h past = let l = invoked_within events sound id (w.invoked id h) in absurd (omega (arith, l, past))

      pub refuted : (place id : ℕ) (why : MismatchReason) → IsMismatchReason kind events order place id why → ⊥
      refuted place id NoEvent m = no_event id (get_in order place id m.0) m.1
      refuted place id NoInvocation m = m.1 (w.invoked id (get_in order place id m.0))
      refuted place id Twice m = not_twice place id m.0 m.1
      refuted place id ThatFailed m = not_failed id (get_in order place id m.0) m.1
      refuted place id TooLate m = not_late place id m.0 m.1
      refuted place id CannotTakePlace m = rejected_nowhere place id CannotTakePlace m.0 m.1
      refuted place id AnotherAnswer m = rejected_nowhere place id AnotherAnswer m.0 m.1
      refuted place id LeftOut m = m.1.missing (not_left id m.1.returned)
