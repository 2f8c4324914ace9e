-- an order that fits is a witness
use Rattle.std.proofs.Common.{◌≡◌, ◌≢◌, ℕ, ◌+◌, ⊎_elim, Bool, true, false, nat_eq, cond, Option, Some, None, List, [], ◌∷◌, map, slice_get, refl, sym, ap, ◌∙◌, subst}
use Rattle.std.specs.List.{Contains}
use Rattle.std.proofs.lemmas.Bool.{eq-eqb, eqb-true}
use Rattle.models.specs.declared.operation.Op.{Op}
use Rattle.models.specs.declared.finding.Answer.{Answer}
use Rattle.models.specs.declared.finding.Found.{Found}
use Rattle.models.specs.Objects.{Object, Fits}
use Rattle.kinds.specs.declared.model_kind.ModelKind.{ModelKind}
use Rattle.kinds.specs.Kinds.{object_of}
use Rattle.events.specs.declared.event.Event.{Event}
use Rattle.events.specs.Events.{Mark, Entry}
use Rattle.events.specs.Events.Mark.{Invoked, Returned, Failed}
use Rattle.linspec.specs.Operations.{HasReturned, Precedes}
use Rattle.linspec.specs.MarkRule.{id_of}
use Rattle.linspec.specs.Orders.{Taken, Pairwise, Run}
use Rattle.linspec.proofs.Lists.{Contains-nil, Contains-head, Contains-tail, Contains-cons_cases, Pairwise-weaker}
use Rattle.linspec.proofs.Filters.{from_filter, to_filter, to_map, from_map, Pairwise-filter}
use Rattle.linspec.proofs.Keyed.{from_of_key}
use Rattle.witness.specs.declared.calls.Call.{Call}
use Rattle.witness.specs.declared.statuses.OperationStatus.{OperationStatus}
use Rattle.witness.specs.declared.statuses.OperationStatus.TheVariants.{NoOperation, Pending, Returned as ReturnedAt, Failed as HasFailed}
use Rattle.witness.specs.declared.placing.Position.{Position}
use Rattle.witness.specs.Calls.{FitsIf, CanRun}
use Rattle.witness.specs.Orders.{marks_in, marks_of_key, IsOrder, is_of, among, IsWitness, HasAnswer, IsCall, AreCalls}
use Rattle.witness.specs.Statuses.{status_at, AreStatuses}
use Rattle.witness.specs.Placing.{MayBeInOrder, MustBeInOrder, key_at, positions_from}
use Rattle.witness.specs.KeyOrders.{ids_of, on_key, IsBefore, answer_by, IsCallBy, AreCallsBy, KeyFits}
use Rattle.witness.proofs.Sound.{entries, IsSound, IsThere, is_there, one_answer, its_key, to_key, in_whole, whole_precedes, may, must, returned, returned_at, not_returned, from_precedes}

-- pairwise for the results of a function
pub Pairwise-map : {X Y : Type 0} (f : X → Y) (R : Y → Y → Type 0) (xs : List X) → Pairwise R (map f xs) → Pairwise (λ x y. R (f x) (f y)) xs
Pairwise-map f R [] h = tt
Pairwise-map f R (x ∷ xs) h = ((λ y k. h.0 (f y) (to_map f xs y k)), Pairwise-map f R xs h.1)

-- the operations of a key in the order
same_key : (k : ℕ) (a b : Bool) (s : Position) (positions : List Position) (id : ℕ) (ids : List ℕ) → a ≡ b → s.id ≡ id → ids_of positions ≡ ids → ids_of (cond a (s ∷ positions) positions) ≡ cond b (id ∷ ids) ids
same_key k a true s positions id ids e i r = ap (λ c. ids_of (cond c (s ∷ positions) positions)) e ∙ ap (λ n. n ∷ ids_of positions) i ∙ ap (λ l. id ∷ l) r
same_key k a false s positions id ids e i r = ap (λ c. ids_of (cond c (s ∷ positions) positions)) e ∙ r

pub ids_on_key : (events : List Event) (key n : ℕ) (ids : List ℕ) → ((id : ℕ) → Contains ids id → nat_eq (key_at (slice_get events id)) key ≡ is_of key (slice_get events id))
    → ids_of (on_key key (positions_from events n ids)) ≡ among events key ids
ids_on_key events key n [] h = refl
ids_on_key events key n (id ∷ ids) h =
    same_key key (nat_eq (key_at (slice_get events id)) key) (is_of key (slice_get events id)) (record { key = key_at (slice_get events id); place = n; id = id })
    (on_key key (positions_from events (n + 1) ids)) id (among events key ids) (h id (Contains-head id ids)) refl (ids_on_key events key (n + 1) ids (λ i k. h i (Contains-tail id ids i k)))

module _ (events : List Event) (sound : IsSound events) (statuses : List OperationStatus) (are : AreStatuses events statuses) where
  pub is_of_there : (id key : ℕ) → IsThere events sound id → nat_eq (key_at (slice_get events id)) key ≡ is_of key (slice_get events id)
  is_of_there id key s = ap (λ k. nat_eq k key) s.key_is ∙ sym (s.of key)

  -- the calls by statuses are those by marks
  answered : (id : ℕ) (f : OperationStatus) (c : Call) → status_at statuses id ≡ f → MayBeInOrder f → c.answer ≡ answer_by events f → HasAnswer (marks_in events) id c.answer
  answered id NoOperation c is m a = absurd m
  answered id Pending c is m a = subst (HasAnswer (marks_in events) id) (sym a) (not_returned events sound statuses are id is)
  answered id (ReturnedAt index) c is m a =
      let r = returned_at events sound statuses are id index is in
      subst (HasAnswer (marks_in events) id) (sym (a ∙ r.2)) r.1
  answered id HasFailed c is m a = absurd m

  some_same : (x y : Op) → Some x ≡ Some y → x ≡ y
  some_same x y e = (let t : x ≡ y = cc in t)

  pub is_call : (id : ℕ) (c : Call) → MayBeInOrder (status_at statuses id) → IsCallBy events statuses id c → IsCall (marks_in events) id c
  is_call id c m by =
      let i = (may events sound statuses are id m).0 in
      let s = is_there events sound id i in
      let same : s.op ≡ c.op = some_same s.op c.op (sym s.op_is ∙ by.op_is) in
      record {
        invoked = subst (λ o. Contains (marks_in events) (Invoked id o)) same (subst (Contains (marks_in events)) s.says (to_map (λ (w : Entry). w.mark) (entries events) s.entry s.there));
        answered = answered id (status_at statuses id) c refl m by.answer_is;
      }

  pub are_calls : (ids : List ℕ) (calls : List Call) → ((id : ℕ) → Contains ids id → MayBeInOrder (status_at statuses id)) → AreCallsBy events statuses ids calls → AreCalls (marks_in events) ids calls
  are_calls [] [] m by = tt
  are_calls [] (c ∷ calls) m by = absurd by
  are_calls (id ∷ ids) [] m by = absurd by
  are_calls (id ∷ ids) (c ∷ calls) m by = (is_call id c (m id (Contains-head id ids)) by.0, are_calls ids calls (λ i k. m i (Contains-tail id ids i k)) by.1)

  -- calls that can run are operations of an order
  record TakenBy (o : Object) (ids : List ℕ) (s : o.State) : Type 0 where
    order : List Taken
    ids_are : map (λ x. x.id) order ≡ ids
    state : o.State
    run : Run o s order state
    invoked : (x : Taken) → Contains order x → Contains (marks_in events) (Invoked x.id x.op)
    fits : (x : Taken) (answer : Answer) → Contains order x → Contains (marks_in events) (Returned x.id answer) → Fits x.found answer

  fits_by : (id : ℕ) (found : Found) (a : Option Answer) (answer : Answer) → HasAnswer (marks_in events) id a → FitsIf found a → Contains (marks_in events) (Returned id answer) → Fits found answer
  fits_by id found None answer none f h = absurd (none (answer, h))
  fits_by id found (Some a) answer has f h = subst (Fits found) (one_answer events sound id a answer has h) f

  taken_by : (o : Object) (ids : List ℕ) (calls : List Call) (s : o.State) → AreCalls (marks_in events) ids calls → CanRun o calls s → TakenBy o ids s
  taken_by o [] [] s c r = record {
    order = [];
    ids_are = refl;
    state = s;
    run = refl;
    invoked = λ x h. absurd (Contains-nil x h);
    fits = λ x a h. absurd (Contains-nil x h);
  }
  taken_by o [] (d ∷ calls) s c r = absurd c
  taken_by o (id ∷ ids) [] s c r = absurd c
  taken_by o (id ∷ ids) (d ∷ calls) s c r =
      let rest = taken_by o ids calls r.1 c.1 r.4 in
      let x : Taken = record { id = id; op = d.op; found = r.0 } in
      let here = c.0 in
      let f = r.3 in
      record {
        order = x ∷ rest.order;
        ids_are = ap (λ l. id ∷ l) rest.ids_are;
        state = rest.state;
        run = (r.1, r.2, rest.run);
        invoked = λ y h. ⊎_elim (λ (e : x ≡ y). subst (λ (z : Taken). Contains (marks_in events) (Invoked z.id z.op)) e here.invoked) (λ k. rest.invoked y k) (Contains-cons_cases x rest.order y h);
        fits = λ y a h k. ⊎_elim
            (λ (e : x ≡ y). subst (λ (z : Taken). Fits z.found a) e (fits_by id r.0 d.answer a here.answered f (subst (λ (z : Taken). Contains (marks_in events) (Returned z.id a)) (sym e) k)))
            (λ j. rest.fits y a j k)
            (Contains-cons_cases x rest.order y h);
      }

  -- the operations of a key that fit are a legal order of its history
  module _ (kind : ModelKind) (order : List ℕ) (m : (id : ℕ) → Contains order id → MayBeInOrder (status_at statuses id)) (once : Pairwise (λ x y. x ≢ y) order) (all : (id : ℕ) → MustBeInOrder (status_at statuses id) → Contains order id) where
    mine : (key id : ℕ) → Contains (among events key order) id → Contains order id × (is_of key (slice_get events id) ≡ true)
    mine key id h = from_filter (λ i. is_of key (slice_get events i)) order id h

    its_entry : (key id : ℕ) → Contains (among events key order) id → (s : IsThere events sound id) × (s.entry.key ≡ key)
    its_entry key id h =
        let f = mine key id h in
        let s = is_there events sound id (may events sound statuses are id (m id f.0)).0 in
        (s, eqb-true s.entry.key key (sym (s.of key) ∙ f.1))

    of_key_too : (key id : ℕ) → Contains (among events key order) id → (n : Mark) → Contains (marks_in events) n → id_of n ≡ id → Contains (marks_of_key events key) n
    of_key_too key id h n c q = let s = its_entry key id h in subst (λ k. Contains (marks_of_key events k) n) s.1 (to_key events sound id s.0 n c q)

    pub order_of : (key : ℕ) → KeyFits kind events statuses (among events key order) → IsOrder (object_of kind) (marks_of_key events key) (among events key order)
    order_of key fits =
        let o : Object = object_of kind in
        let ids : List ℕ = among events key order in
        let run = fits.can_run in
        let t : TakenBy o ids o.start = taken_by o ids run.calls o.start (are_calls ids run.calls (λ id h. m id (mine key id h).0) run.are) run.can_run in
        let own : (x : Taken) → Contains t.order x → Contains ids x.id = λ x h. subst (λ l. Contains l x.id) t.ids_are (to_map (λ (y : Taken). y.id) t.order x h) in
        record {
          order = t.order;
          ids_are = t.ids_are;
          state = t.state;
          legal = record {
            invoked = λ x h. of_key_too key x.id (own x h) (Invoked x.id x.op) (t.invoked x h) refl;
            once = Pairwise-map (λ (x : Taken). x.id) (λ a b. a ≢ b) t.order (subst (Pairwise (λ a b. a ≢ b)) (sym t.ids_are) (Pairwise-filter (λ i. is_of key (slice_get events i)) (λ a b. a ≢ b) order once));
            none_failed = λ x h f. (may events sound statuses are x.id (m x.id (mine key x.id (own x h)).0)).1 (in_whole events sound key (Failed x.id) f);
            all_done = λ id d. (
                let e = from_of_key key (entries events) (Returned id d.0) d.1 in
                let r : HasReturned (marks_in events) id = (d.0, in_whole events sound key (Returned id d.0) d.1) in
                let must_be = must events sound statuses are id r in
                let s = is_there events sound id (returned events sound statuses are id must_be).0 in
                let k : s.entry.key ≡ key = sym (its_key events sound id s e.0 e.1 (ap id_of e.3)) ∙ e.2 in
                let here : Contains ids id = to_filter (λ i. is_of key (slice_get events i)) order id (all id must_be) (s.of key ∙ eq-eqb s.entry.key key k) in
                let x = from_map (λ (y : Taken). y.id) t.order id (subst (λ l. Contains l id) (sym t.ids_are) here) in
                (x.0, x.1, x.2));
            in_time = Pairwise-map (λ (x : Taken). x.id) (λ a b. ¬ Precedes (marks_of_key events key) b a) t.order
                (subst (Pairwise (λ a b. ¬ Precedes (marks_of_key events key) b a)) (sym t.ids_are)
                (Pairwise-weaker (λ a b. ¬ IsBefore statuses b a) (λ a b. ¬ Precedes (marks_of_key events key) b a) ids (λ a b h k n p. n (from_precedes events sound statuses are b a (whole_precedes events sound key b a p))) fits.in_time));
            run = t.run;
            fits = λ x a h k. t.fits x a h (in_whole events sound key (Returned x.id a) k);
          };
        }

    pub witness_of : ((key : ℕ) → KeyFits kind events statuses (among events key order)) → IsWitness kind events order
    witness_of each = record {
      invoked = λ id h. (may events sound statuses are id (m id h)).0;
      each = λ key. order_of key (each key);
    }
