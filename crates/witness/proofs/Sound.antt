-- the known facts about a history's events, and the statuses of its operations
use Rattle.std.proofs.Common.{◌≡◌, ℕ, ◌<◌, nat_eq, true, Some, List, [], ◌∷◌, length, slice_get, refl, sym, ap, ◌∙◌, subst, ⊎_elim, arith}
use Rattle.std.specs.List.{Contains}
use Rattle.std.proofs.lemmas.Bool.{eqb-true}
use Rattle.std.proofs.lemmas.Option.{slice_get_within}
use Rattle.models.specs.declared.operation.Op.{Op}
use Rattle.models.specs.declared.finding.Answer.{Answer}
use Rattle.events.specs.declared.event.Event.{Event}
use Rattle.events.specs.Events.{Mark, Entry, marks, entries_of, indexed_from}
use Rattle.events.specs.Events.Mark.{Invoked, Returned, Failed}
use Rattle.history.specs.WellFormed.{IsHistoryOf}
use Rattle.history.proofs.ProcessRule.{is_history}
use Rattle.linspec.specs.Operations.{IsInvoked, HasReturned, Precedes}
use Rattle.linspec.specs.MarkRule.{id_of, AreWellFormed, IsKeyed}
use Rattle.linspec.specs.Verdicts.{IsRising}
use Rattle.linspec.proofs.Histories.{of_history}
use Rattle.linspec.proofs.Lists.{Contains-nil, Contains-head, Contains-cons_cases, cut_at, Pairwise-across, Pairwise-right}
use Rattle.std.proofs.lemmas.List.Elements.{Contains-append_left, Contains-append_right, Contains-append_cases}
use Rattle.linspec.proofs.Filters.{to_map, from_map, map-cut}
use Rattle.linspec.proofs.Prefixes.{marks-append}
use Rattle.linspec.proofs.Keyed.{to_of_key, from_marks, of_key-marks, Precedes-whole, Precedes-key}
use Rattle.witness.specs.declared.statuses.OperationStatus.{OperationStatus}
use Rattle.witness.specs.declared.statuses.OperationStatus.TheVariants.{NoOperation, Pending, Returned as ReturnedAt, Failed as HasFailed}
use Rattle.witness.specs.Orders.{marks_in, marks_of_key, is_of}
use Rattle.witness.specs.Statuses.{status_in, status_at, op_at, answer_at, AreStatuses}
use Rattle.witness.specs.Placing.{MayBeInOrder, MustBeInOrder, key_at}
use Rattle.witness.specs.KeyOrders.{IsBefore}
use Rattle.witness.proofs.EventsThere.{entry_of, of_its_key, key_there, invocation_at, answer_of_return}
use Rattle.witness.proofs.KnownStatuses.{IsReturned, Knows, knows}

abbrev pub entries : List Event → List Entry
entries events = entries_of (indexed_from 0 events)

pub record IsSound (events : List Event) : Type 0 where
  pub keyed : IsKeyed (entries events)
  pub well : AreWellFormed (marks (entries events))
  pub rising : IsRising (entries events)

pub sound : (c : ℕ) (events : List Event) → IsHistoryOf c events → IsSound events
sound c events h =
    let r = of_history (indexed_from 0 events) (is_history c events h) in
    record { keyed = r.0; well = r.1; rising = r.2 }

-- two entries of one index are one
one_entry : (es : List Entry) → IsRising es → (e f : Entry) → Contains es e → Contains es f → e.index ≡ f.index → e ≡ f
one_entry [] rising e f h k q = absurd (Contains-nil e h)
one_entry (x ∷ es) rising e f h k q =
    ⊎_elim
    (λ (a : x ≡ e). ⊎_elim
    (λ (b : x ≡ f). sym a ∙ b)
    (λ j. let l : x.index < f.index = rising.0 f j in let s : x.index ≡ e.index = ap (λ (w : Entry). w.index) a in absurd (omega (arith, l, s, q)))
    (Contains-cons_cases x es f k))
    (λ i. ⊎_elim
    (λ (b : x ≡ f). let l : x.index < e.index = rising.0 e i in let s : x.index ≡ f.index = ap (λ (w : Entry). w.index) b in absurd (omega (arith, l, s, q)))
    (λ j. one_entry es rising.1 e f i j q)
    (Contains-cons_cases x es f k))
    (Contains-cons_cases x es e h)

module _ (events : List Event) (sound : IsSound events) where
  -- an operation that is invoked, and its entry
  pub record IsThere (id : ℕ) : Type 0 where
    pub entry : Entry
    pub there : Contains (entries events) entry
    pub op : Op
    pub says : entry.mark ≡ Invoked id op
    pub at : entry.index ≡ id
    pub op_is : op_at (slice_get events id) ≡ Some op
    pub of : (key : ℕ) → is_of key (slice_get events id) ≡ nat_eq entry.key key
    pub key_is : key_at (slice_get events id) ≡ entry.key

  pub is_there : (id : ℕ) → IsInvoked (marks_in events) id → IsThere id
  is_there id h =
      let f = from_marks (entries events) (Invoked id h.0) h.1 in
      let e = entry_of events f.0 f.1 in
      let i = invocation_at events f.0 id h.0 e f.2 in
      record {
        entry = f.0;
        there = f.1;
        op = h.0;
        says = f.2;
        at = i.0;
        op_is = i.1;
        of = λ key. subst (λ n. is_of key (slice_get events n) ≡ nat_eq f.0.key key) i.0 (of_its_key events f.0 e key);
        key_is = subst (λ n. key_at (slice_get events n) ≡ f.0.key) i.0 (key_there events f.0 e);
      }

  -- an invocation is within the history
  pub invoked_within : (id : ℕ) → IsInvoked (marks_in events) id → id < length events
  invoked_within id h =
      let s = is_there id h in
      let e = entry_of events s.entry s.there in
      let l : s.entry.index < length events = slice_get_within events s.entry.index e.event e.there in
      let q = s.at in
      omega (arith, l, q)

  -- it is invoked once
  pub one_op : (id : ℕ) (a b : Op) → Contains (marks_in events) (Invoked id a) → Contains (marks_in events) (Invoked id b) → a ≡ b
  one_op id a b h k =
      let f = from_marks (entries events) (Invoked id a) h in
      let g = from_marks (entries events) (Invoked id b) k in
      let i = (invocation_at events f.0 id a (entry_of events f.0 f.1) f.2).0 in
      let j = (invocation_at events g.0 id b (entry_of events g.0 g.1) g.2).0 in
      let same : f.0 ≡ g.0 = one_entry (entries events) sound.rising f.0 g.0 f.1 g.1 (i ∙ sym j) in
      let q : Invoked id a ≡ Invoked id b = sym f.2 ∙ ap (λ (w : Entry). w.mark) same ∙ g.2 in
      (let r : a ≡ b = cc in r)

  -- and it answers once
  index_by : (id : ℕ) (f : OperationStatus) → Knows (entries events) id f → (e g : Entry) (a b : Answer) → Contains (entries events) e → Contains (entries events) g → e.mark ≡ Returned id a → g.mark ≡ Returned id b → e.index ≡ g.index
  index_by id NoOperation k e g a b h i p q = absurd (k (Returned id a) (subst (Contains (marks_in events)) p (to_map (λ (w : Entry). w.mark) (entries events) e h)) refl)
  index_by id Pending k e g a b h i p q = absurd (k.not_returned (a, subst (Contains (marks_in events)) p (to_map (λ (w : Entry). w.mark) (entries events) e h)))
  index_by id (ReturnedAt index) k e g a b h i p q = k.alone e a h p ∙ sym (k.alone g b i q)
  index_by id HasFailed k e g a b h i p q = absurd (k.not_returned (a, subst (Contains (marks_in events)) p (to_map (λ (w : Entry). w.mark) (entries events) e h)))

  pub one_answer : (id : ℕ) (a b : Answer) → Contains (marks_in events) (Returned id a) → Contains (marks_in events) (Returned id b) → a ≡ b
  one_answer id a b h k =
      let f = from_marks (entries events) (Returned id a) h in
      let g = from_marks (entries events) (Returned id b) k in
      let status = status_in (entries events) id in
      let same : f.0 ≡ g.0 = one_entry (entries events) sound.rising f.0 g.0 f.1 g.1 (index_by id status (knows (entries events) sound.well id) f.0 g.0 a b f.1 g.1 f.2 g.2) in
      let q : Returned id a ≡ Returned id b = sym f.2 ∙ ap (λ (w : Entry). w.mark) same ∙ g.2 in
      (let r : a ≡ b = cc in r)

  -- it has one key
  pub one_key : (id key other : ℕ) → IsInvoked (marks_in events) id → is_of key (slice_get events id) ≡ true → is_of other (slice_get events id) ≡ true → key ≡ other
  one_key id key other h a b =
      let s = is_there id h in
      sym (eqb-true s.entry.key key (sym (s.of key) ∙ a)) ∙ eqb-true s.entry.key other (sym (s.of other) ∙ b)

  -- all that is said of it is said of its key
  pub its_key : (id : ℕ) (s : IsThere id) (e : Entry) → Contains (entries events) e → id_of e.mark ≡ id → e.key ≡ s.entry.key
  its_key id s e h q = sound.keyed.one_key e s.entry h s.there (q ∙ sym (ap id_of s.says))

  pub to_key : (id : ℕ) (s : IsThere id) (m : Mark) → Contains (marks_in events) m → id_of m ≡ id → Contains (marks_of_key events s.entry.key) m
  to_key id s m h q =
      let f = from_marks (entries events) m h in
      subst (Contains (marks_of_key events s.entry.key)) f.2 (to_of_key s.entry.key (entries events) f.0 f.1 (its_key id s f.0 f.1 (ap id_of f.2 ∙ q)))

  pub in_whole : (key : ℕ) (m : Mark) → Contains (marks_of_key events key) m → Contains (marks_in events) m
  in_whole key m h = of_key-marks key (entries events) m h

  -- precedence is that of the key
  pub whole_precedes : (key a b : ℕ) → Precedes (marks_of_key events key) a b → Precedes (marks_in events) a b
  whole_precedes key a b p = Precedes-whole key (entries events) a b p

  pub key_precedes : (key a b : ℕ) (s : IsThere a) (t : IsThere b) → s.entry.key ≡ key → t.entry.key ≡ key → Precedes (marks_in events) a b → Precedes (marks_of_key events key) a b
  key_precedes key a b s t of_a of_b p = Precedes-key key (entries events) a b
      (λ e h q. ⊎_elim (λ i. its_key a s e h i ∙ of_a) (λ i. its_key b t e h i ∙ of_b) q) p

  module _ (statuses : List OperationStatus) (are : AreStatuses events statuses) where
    pub known : (id : ℕ) → Knows (entries events) id (status_at statuses id)
    known id = subst (Knows (entries events) id) (sym (are.each id)) (knows (entries events) sound.well id)

    known_by : (id : ℕ) (f : OperationStatus) → status_at statuses id ≡ f → Knows (entries events) id f
    known_by id f q = subst (Knows (entries events) id) q (known id)

    -- an operation that may be in an order is invoked, and has not failed
    may_invoked : (id : ℕ) (f : OperationStatus) → Knows (entries events) id f → MayBeInOrder f → IsInvoked (marks_in events) id × (¬ Contains (marks_in events) (Failed id))
    may_invoked id NoOperation k m = absurd m
    may_invoked id Pending k m = (k.invoked, k.not_failed)
    may_invoked id (ReturnedAt index) k m = (k.invoked, k.not_failed)
    may_invoked id HasFailed k m = absurd m

    pub may : (id : ℕ) → MayBeInOrder (status_at statuses id) → IsInvoked (marks_in events) id × (¬ Contains (marks_in events) (Failed id))
    may id m = may_invoked id (status_at statuses id) (known id) m

    -- an operation has returned exactly if it must be in each order
    must_of : (id : ℕ) (f : OperationStatus) → Knows (entries events) id f → HasReturned (marks_in events) id → MustBeInOrder f
    must_of id NoOperation k r = absurd (k (Returned id r.0) r.1 refl)
    must_of id Pending k r = absurd (k.not_returned r)
    must_of id (ReturnedAt index) k r = tt
    must_of id HasFailed k r = absurd (k.not_returned r)

    pub must : (id : ℕ) → HasReturned (marks_in events) id → MustBeInOrder (status_at statuses id)
    must id r = must_of id (status_at statuses id) (known id) r

    returned_of : (id : ℕ) (f : OperationStatus) → Knows (entries events) id f → MustBeInOrder f → IsInvoked (marks_in events) id × HasReturned (marks_in events) id
    returned_of id NoOperation k m = absurd m
    returned_of id Pending k m = absurd m
    returned_of id (ReturnedAt index) k m = (k.invoked, (k.answer, subst (Contains (marks_in events)) k.says (to_map (λ (w : Entry). w.mark) (entries events) k.entry k.there)))
    returned_of id HasFailed k m = absurd m

    pub returned : (id : ℕ) → MustBeInOrder (status_at statuses id) → IsInvoked (marks_in events) id × HasReturned (marks_in events) id
    returned id m = returned_of id (status_at statuses id) (known id) m

    -- it answers once, by the event of its status
    pub returned_at : (id index : ℕ) → status_at statuses id ≡ ReturnedAt index → (answer : Answer) × Contains (marks_in events) (Returned id answer) × (answer_at (slice_get events index) ≡ Some answer)
    returned_at id index q =
        let k : IsReturned (entries events) id index = known_by id (ReturnedAt index) q in (
          k.answer,
          subst (Contains (marks_in events)) k.says (to_map (λ (w : Entry). w.mark) (entries events) k.entry k.there),
          subst (λ n. answer_at (slice_get events n) ≡ Some k.answer) k.at (answer_of_return events k.entry id k.answer (entry_of events k.entry k.there) k.says),
        )

    -- a pending operation has no answer
    pub not_returned : (id : ℕ) → status_at statuses id ≡ Pending → ¬ HasReturned (marks_in events) id
    not_returned id q = (known_by id Pending q).not_returned

    pub not_invoked : (id : ℕ) → status_at statuses id ≡ NoOperation → ¬ IsInvoked (marks_in events) id
    not_invoked id q h = known_by id NoOperation q (Invoked id h.0) h.1 refl

    pub failed : (id : ℕ) → status_at statuses id ≡ HasFailed → IsInvoked (marks_in events) id × Contains (marks_in events) (Failed id)
    failed id q = let k = known_by id HasFailed q in (k.invoked, k.failed)

    -- precedence, by statuses
    pub to_precedes : (y x : ℕ) → IsBefore statuses y x → IsInvoked (marks_in events) x → Precedes (marks_in events) y x
    to_precedes y x b h =
        let k : IsReturned (entries events) y b.0 = known_by y (ReturnedAt b.0) b.1 in
        let s = is_there x h in
        let c = cut_at (entries events) s.entry s.there in
        let first : Contains c.0 k.entry = ⊎_elim
        (λ i. i)
        (λ i. ⊎_elim
        (λ (q : s.entry ≡ k.entry). let at = ap (λ (w : Entry). w.index) q in let a = s.at in let d = k.at in absurd (omega (arith, at, a, d, b.2)))
        (λ j. let l : s.entry.index < k.entry.index = (Pairwise-right (λ (e f : Entry). e.index < f.index) c.0 (s.entry ∷ c.1) (subst IsRising c.2 sound.rising)).0 k.entry j in let a = s.at in let d = k.at in absurd (omega (arith, l, a, d, b.2)))
        (Contains-cons_cases s.entry c.1 k.entry i))
        (Contains-append_cases c.0 (s.entry ∷ c.1) k.entry (subst (λ l. Contains l k.entry) c.2 k.there)) in
        record {
          before = marks c.0;
          after = marks (s.entry ∷ c.1);
          cut = sym (marks-append c.0 (s.entry ∷ c.1)) ∙ ap marks (sym c.2);
          returned = (k.answer, subst (Contains (marks c.0)) k.says (to_map (λ (w : Entry). w.mark) c.0 k.entry first));
          invoked = (s.op, subst (Contains (marks (s.entry ∷ c.1))) s.says (to_map (λ (w : Entry). w.mark) (s.entry ∷ c.1) s.entry (Contains-head s.entry c.1)));
        }

    before_by : (y x : ℕ) (f : OperationStatus) → status_at statuses y ≡ f → Knows (entries events) y f → Precedes (marks_in events) y x → IsBefore statuses y x
    before_by y x f is k p =
        let c = map-cut (λ (w : Entry). w.mark) (entries events) p.before p.after p.cut in
        let e = from_map (λ (w : Entry). w.mark) c.0 (Returned y p.returned.0) (subst (λ l. Contains l (Returned y p.returned.0)) c.3 p.returned.1) in
        let g = from_map (λ (w : Entry). w.mark) c.1 (Invoked x p.invoked.0) (subst (λ l. Contains l (Invoked x p.invoked.0)) c.4 p.invoked.1) in
        let there : Contains (entries events) e.0 = subst (λ l. Contains l e.0) (sym c.2) (Contains-append_left c.0 c.1 e.0 e.1) in
        let here : Contains (entries events) g.0 = subst (λ l. Contains l g.0) (sym c.2) (Contains-append_right c.0 c.1 g.0 g.1) in
        let l : e.0.index < g.0.index = Pairwise-across (λ (v w : Entry). v.index < w.index) c.0 c.1 (subst IsRising c.2 sound.rising) e.0 g.0 e.1 g.1 in
        let at = (invocation_at events g.0 x p.invoked.0 (entry_of events g.0 here) g.2).0 in
        by_status f is k (p.returned.0, subst (Contains (marks_in events)) e.2 (to_map (λ (w : Entry). w.mark) (entries events) e.0 there)) e.0 there e.2 (omega (arith, l, at))
      where
        by_status : (f : OperationStatus) → status_at statuses y ≡ f → Knows (entries events) y f → HasReturned (marks_in events) y → (e : Entry) → Contains (entries events) e → e.mark ≡ Returned y p.returned.0 → e.index < x → IsBefore statuses y x
        by_status NoOperation is k r e h q l = absurd (k (Returned y r.0) r.1 refl)
        by_status Pending is k r e h q l = absurd (k.not_returned r)
        by_status (ReturnedAt index) is k r e h q l = (index, is, subst (λ n. n < x) (k.alone e p.returned.0 h q) l)
        by_status HasFailed is k r e h q l = absurd (k.not_returned r)

    pub from_precedes : (y x : ℕ) → Precedes (marks_in events) y x → IsBefore statuses y x
    from_precedes y x p = before_by y x (status_at statuses y) refl (known y) p
