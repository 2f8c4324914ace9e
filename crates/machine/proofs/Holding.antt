-- The invariant of a trial on a strict store: the serves that took place, in their order, are a legal order of the history, which leaves
-- the true states
use Rattle.std.proofs.Common.{◌≡◌, ◌≢◌, ℕ, ◌+◌, ◌%◌, ◌<◌, ⊎_elim, Option, Some, None, List, [], ◌∷◌, ◌++◌, length, slice_get, slice_set, refl, sym, ap, ◌∙◌, subst, arith, length-append}
use Rattle.std.specs.List.{Contains, cons_option}
use Rattle.std.proofs.lemmas.List.{append-nil}
use Rattle.std.proofs.lemmas.List.Elements.{Contains-append_left, Contains-push, Contains-push_cases}
use Rattle.models.specs.declared.operation.Op.{Op}
use Rattle.models.specs.declared.operation.Part.{Part}
use Rattle.models.specs.declared.finding.Found.{Found}
use Rattle.models.specs.declared.finding.Found.TheVariants.{Unit as Nothing, Reg, Item, Elements}
use Rattle.models.specs.Objects.{Fits, answer_of}
use Rattle.kinds.specs.declared.model_kind.ModelKind.{ModelKind}
use Rattle.events.specs.declared.event.Fault.{Fault}
use Rattle.events.specs.declared.event.Event.{Event}
use Rattle.events.specs.Events.{Mark}
use Rattle.events.specs.Events.Mark.{Invoked, Returned, Failed, Crashed}
use Rattle.processes.specs.MoveRule.{current_of}
use Rattle.history.specs.WellFormed.{IsHistoryOf, open_of, moves_of}
use Rattle.linspec.specs.Operations.{IsOpen}
use Rattle.linspec.specs.Orders.{Taken, Includes, Pairwise, IsLegalOrder, IsLinearizable, product}
use Rattle.linspec.specs.MarkRule.{IsNew}
use Rattle.linspec.proofs.Lists.{Contains-nil, Contains-cons_cases}
use Rattle.linspec.proofs.Marks.{IsLegalOrder-more, IsLegalOrder-extend}
use Rattle.linspec.proofs.Invocations.{IsLegalOrder-without}
use Rattle.test_store.specs.declared.outcome.Mode.TheVariants.{Strict}
use Rattle.test_store.specs.declared.outcome.Outcome.{Outcome}
use Rattle.test_store.specs.declared.outcome.Outcome.TheVariants.{Done, Refused, Lost}
use Rattle.test_store.specs.Store.{IsCount}
use Rattle.test_store.specs.Truth.{Truth, start_truth, IsTrueOf, TrulySteps, MayServeTruly}
use Rattle.test_store.proofs.TruthKept.{opening_true, serve_keeps, fault_leaves}
use Rattle.machine.specs.declared.ticket.Ticket.{Ticket}
use Rattle.machine.specs.Trials.{Trial, Move, took_place, serves_of, AreOfTickets, opening, invocation, part_of, completion, strike, fresh_ticket, served_as, MayBeDrawn, MayBeServed, MayBeFinished, MayMove, Leads}
use Rattle.machine.specs.Trials.Move.{Draws, Serves, Finishes, Strikes, Stays}
use Rattle.machine.proofs.Places.{get_push, get_set}
use Rattle.machine.proofs.OfTickets.{IsOfTicket, of_others, of_more, of_served, of_push, of_same, with_rest}
use Rattle.machine.proofs.Pushes.{marks_in, marks-push, history-push, no_history, may_follow}
use Rattle.machine.proofs.Opens.{Opens, opens_none, opens_invocation, opens_ok, opens_fail, opens_info, opens_strike, no_marks}

-- where the operation of a ticket stands in the order. It is not there before it is served and if it was refused. It is there, with its
-- answer, if it is done, and there if its reply was lost
abbrev pub Stands : List Taken → ℕ → Option Outcome → Type 0
Stands order id None = ¬ Includes order id
Stands order id (Some Refused) = ¬ Includes order id
Stands order id (Some Lost) = Includes order id
Stands order id (Some (Done found)) = (x : Taken) × Contains order x × (x.id ≡ id) × (x.found ≡ found)

abbrev pub IsOrder : (kind : ModelKind) → List Event → List Taken → Truth kind → Type 0
IsOrder kind events order truth = IsLegalOrder (product (λ _. kind)) (marks_in events) order truth

-- the facts after the operations of these tickets have taken place, in turn
pub record Holds (kind : ModelKind) (m : Trial) (numbers : List ℕ) : Type 0 where
  pub history : IsHistoryOf m.concurrency m.events
  pub opens : Opens m.events
  pub strict : m.store.mode ≡ Strict
  pub truth : Truth kind
  pub is_true : IsTrueOf kind m.store truth
  pub order : List Taken
  pub legal : IsOrder kind m.events order truth
  pub of_tickets : AreOfTickets m.tickets numbers order
  pub stands : (k : ℕ) (t : Ticket) → slice_get m.tickets k ≡ Some t → Stands order t.index t.outcome
  pub below : (k : ℕ) (t : Ticket) → slice_get m.tickets k ≡ Some t → t.index < length m.events
  pub apart : (j k : ℕ) (t u : Ticket) → slice_get m.tickets j ≡ Some t → slice_get m.tickets k ≡ Some u → t.index ≡ u.index → j ≡ k

no_ticket : (k : ℕ) (t : Ticket) → slice_get [] k ≡ Some t → ⊥
no_ticket k t h = (let q : ◌≡◌ {A = Option Ticket} None (Some t) = h in cc)

empty_order : (kind : ModelKind) → IsOrder kind [] [] (start_truth kind)
empty_order kind = record {
  invoked = λ x h. absurd (Contains-nil x h);
  once = tt;
  none_failed = λ x h. absurd (Contains-nil x h);
  all_done = λ id r. absurd (Contains-nil _ r.1);
  in_time = tt;
  run = refl;
  fits = λ x a h. absurd (Contains-nil x h);
}

holds_opening : (c n : ℕ) (kind : ModelKind) → IsCount n → Holds kind (opening c n kind) []
holds_opening c n kind h = record {
  history = no_history c;
  opens = opens_none;
  strict = refl;
  truth = start_truth kind;
  is_true = opening_true n kind h;
  order = [];
  legal = empty_order kind;
  of_tickets = tt;
  stands = λ k t at. absurd (no_ticket k t at);
  below = λ k t at. absurd (no_ticket k t at);
  apart = λ j k t u at. absurd (no_ticket j t at);
}

length-push : {X : Type 0} (xs : List X) (x : X) → length (xs ++ x ∷ []) ≡ length xs + 1
length-push xs x = length-append xs (x ∷ [])

-- a new operation is in no order
not_there : (kind : ModelKind) (events : List Event) (order : List Taken) (truth : Truth kind) (id : ℕ) → IsOrder kind events order truth → IsNew (marks_in events) id → ¬ Includes order id
not_there kind events order truth id legal new i = new _ (legal.invoked i.0 i.1) i.2

holds_draw : (kind : ModelKind) (numbers : List ℕ) (old new : Trial) (thread : ℕ) (op : Op) → Holds kind old numbers → MayBeDrawn old thread op new → Holds kind new numbers
holds_draw kind numbers old new thread op h may = subst (λ m. Holds kind m numbers) (sym may.1) (record {
  history = history;
  opens = opens_invocation old.concurrency old.events process op h.opens history;
  strict = h.strict;
  truth = h.truth;
  is_true = h.is_true;
  order = h.order;
  legal = subst (λ l. IsLegalOrder (product (λ _. kind)) l h.order h.truth) (sym (marks-push old.events e)) (IsLegalOrder-without (product (λ _. kind)) (marks_in old.events) n op is_new h.order h.truth h.legal);
  of_tickets = of_others old.tickets (old.tickets ++ ticket ∷ []) (of_more old.tickets (ticket ∷ [])) numbers h.order h.of_tickets;
  stands = λ k t at. ⊎_elim (h.stands k t) (λ r. subst (λ (u : Ticket). Stands h.order u.index u.outcome) r.1 (not_there kind old.events h.order h.truth n h.legal is_new)) (get_push old.tickets ticket k t at);
  below = λ k t at. (let more : length (old.events ++ e ∷ []) ≡ n + 1 = length-push old.events e in
      ⊎_elim (λ was. (let b : t.index < n = h.below k t was in omega arith)) (λ r. (let is : n ≡ t.index = ap (λ (u : Ticket). u.index) r.1 in omega arith)) (get_push old.tickets ticket k t at));
  apart = λ j k t u at also same. ⊎_elim
      (λ was. ⊎_elim
      (λ so. h.apart j k t u was so same)
      (λ r. (let b : t.index < n = h.below j t was in let is : n ≡ u.index = ap (λ (w : Ticket). w.index) r.1 in absurd (omega arith)))
      (get_push old.tickets ticket k u also))
      (λ q. ⊎_elim
      (λ so. (let b : u.index < n = h.below k u so in let is : n ≡ t.index = ap (λ (w : Ticket). w.index) q.1 in absurd (omega arith)))
      (λ r. q.0 ∙ sym r.0)
      (get_push old.tickets ticket k u also))
      (get_push old.tickets ticket j t at);
})
  where
    n : ℕ
    n = length old.events

    process : ℕ
    process = current_of old.concurrency (moves_of old.events) thread

    e : Event
    e = invocation process op

    ticket : Ticket
    ticket = fresh_ticket thread process op old.events

    history : IsHistoryOf old.concurrency (old.events ++ e ∷ [])
    history = history-push old.concurrency old.events e h.history may.0

    is_new : IsNew (marks_in old.events) n
    is_new = may_follow old.concurrency old.events e (Invoked n op) history refl

-- one more operation in the order
stands_more : (order : List Taken) (x : Taken) (id : ℕ) (o : Option Outcome) → id ≢ x.id → Stands order id o → Stands (order ++ x ∷ []) id o
stands_more order x id None ne s = λ i. ⊎_elim (λ h. s (i.0, h, i.2)) (λ e. ne (sym (ap (λ (y : Taken). y.id) e ∙ i.2))) (Contains-push_cases order x i.0 i.1)
stands_more order x id (Some Refused) ne s = λ i. ⊎_elim (λ h. s (i.0, h, i.2)) (λ e. ne (sym (ap (λ (y : Taken). y.id) e ∙ i.2))) (Contains-push_cases order x i.0 i.1)
stands_more order x id (Some Lost) ne s = (s.0, Contains-append_left order (x ∷ []) s.0 s.1, s.2)
stands_more order x id (Some (Done found)) ne s = (s.0, Contains-append_left order (x ∷ []) s.0 s.1, s.2, s.3)

-- the effect of a serve on the order
record Extended (kind : ModelKind) (events : List Event) (order : List Taken) (id : ℕ) (op : Op) (outcome : Outcome) (truth' : Truth kind) : Type 0 where
  order' : List Taken
  legal : IsOrder kind events order' truth'
  own : Stands order' id (Some outcome)
  of_tickets : (tickets : List Ticket) (numbers : List ℕ) (number : ℕ) → ((found : Found) → IsOfTicket tickets number (record { id = id; op = op; found = found })) → AreOfTickets tickets numbers order
      → AreOfTickets tickets (numbers ++ cons_option (took_place (Serves number outcome)) []) order'
  others : (i : ℕ) (o : Option Outcome) → i ≢ id → Stands order i o → Stands order' i o

placed : (kind : ModelKind) (events : List Event) (order : List Taken) (truth truth' : Truth kind) (p id : ℕ) (op : Op) (found : Found) → Opens events → open_of events p ≡ Some (id, op)
    → IsOrder kind events order truth → ¬ Includes order id → TrulySteps kind truth op found truth' → IsOrder kind events (order ++ record { id = id; op = op; found = found } ∷ []) truth'
placed kind events order truth truth' p id op found opens here legal not_in step =
    let open_ : IsOpen (marks_in events) id = opens.is_open p id op here in
    IsLegalOrder-extend (product (λ _. kind)) (marks_in events) order truth truth' (record { id = id; op = op; found = found }) legal (opens.invoked p id op here) open_.not_returned open_.not_failed not_in step

extended : (kind : ModelKind) (events : List Event) (order : List Taken) (truth truth' : Truth kind) (p id : ℕ) (op : Op) (outcome : Outcome) → Opens events → open_of events p ≡ Some (id, op)
    → IsOrder kind events order truth → ¬ Includes order id → MayServeTruly kind truth op outcome truth' → Extended kind events order id op outcome truth'
extended kind events order truth truth' p id op Refused opens here legal not_in may = record {
  order' = order;
  legal = subst (λ t. IsOrder kind events order t) (sym may) legal;
  own = not_in;
  of_tickets = λ tickets numbers number own h. of_same tickets numbers order h;
  others = λ i o ne s. s;
}
extended kind events order truth truth' p id op (Done found) opens here legal not_in may = (let x : Taken = record { id = id; op = op; found = found } in record {
  order' = order ++ x ∷ [];
  legal = placed kind events order truth truth' p id op found opens here legal not_in may;
  own = (x, Contains-push order x, refl, refl);
  of_tickets = λ tickets numbers number own h. of_push tickets numbers order number x h (own found);
  others = λ i o ne s. stands_more order x i o ne s;
})
extended kind events order truth truth' p id op Lost opens here legal not_in may = (let x : Taken = record { id = id; op = op; found = may.0 } in record {
  order' = order ++ x ∷ [];
  legal = placed kind events order truth truth' p id op may.0 opens here legal not_in may.1;
  own = (x, Contains-push order x, refl);
  of_tickets = λ tickets numbers number own h. of_push tickets numbers order number x h (own may.0);
  others = λ i o ne s. stands_more order x i o ne s;
})

holds_serve : (kind : ModelKind) (numbers : List ℕ) (old new : Trial) (number : ℕ) (outcome : Outcome) → Holds kind old numbers → MayBeServed old number outcome new
    → Holds kind new (numbers ++ cons_option (took_place (Serves number outcome)) [])
holds_serve kind numbers old new number outcome h may =
    let t : Ticket = may.0 in
    let k = serve_keeps old.store (t.thread % old.store.replicas) t.op outcome may.4.0 may.4.1 kind h.truth h.strict h.is_true in
    let none : ¬ Includes h.order t.index = subst (Stands h.order t.index) may.2 (h.stands number t may.1) in
    let x : Extended kind old.events h.order t.index t.op outcome k.0 = extended kind old.events h.order h.truth k.0 t.process t.index t.op outcome h.opens may.3 h.legal none k.1 in
    let tickets : List Ticket = slice_set old.tickets number (served_as outcome t) in
    subst (λ m. Holds kind m (numbers ++ cons_option (took_place (Serves number outcome)) [])) (sym may.4.2) (record {
      history = h.history;
      opens = h.opens;
      strict = k.3;
      truth = k.0;
      is_true = k.2;
      order = x.order';
      legal = x.legal;
      of_tickets = x.of_tickets tickets numbers number (λ found. of_served old.tickets number t outcome may.1 number (record { id = t.index; op = t.op; found = found }) (t, may.1, refl, refl))
          (of_others old.tickets tickets (of_served old.tickets number t outcome may.1) numbers h.order h.of_tickets);
      stands = λ j u at. ⊎_elim
          (λ r. subst (λ (w : Ticket). Stands x.order' w.index w.outcome) r.1 x.own)
          (λ r. x.others u.index u.outcome (λ same. r.0 (h.apart j number u t r.1 may.1 same)) (h.stands j u r.1))
          (get_set old.tickets number (served_as outcome t) j u at);
      below = λ j u at. ⊎_elim
          (λ r. (let b : t.index < length old.events = h.below number t may.1 in let is : t.index ≡ u.index = ap (λ (w : Ticket). w.index) r.1 in omega arith))
          (λ r. h.below j u r.1)
          (get_set old.tickets number (served_as outcome t) j u at);
      apart = λ i j u w at also same. ⊎_elim
          (λ r. ⊎_elim
          (λ s. r.0 ∙ sym s.0)
          (λ s. r.0 ∙ h.apart number j t w may.1 s.1 (ap (λ (y : Ticket). y.index) r.1 ∙ same))
          (get_set old.tickets number (served_as outcome t) j w also))
          (λ r. ⊎_elim
          (λ s. h.apart i number u t r.1 may.1 (same ∙ sym (ap (λ (y : Ticket). y.index) s.1)) ∙ sym s.0)
          (λ s. h.apart i j u w r.1 s.1 same)
          (get_set old.tickets number (served_as outcome t) j w also))
          (get_set old.tickets number (served_as outcome t) i u at);
    })

-- the answer of an ok fits what was found
fits_part : (found : Found) (part : Part) → Fits found (answer_of (part_of found part))
fits_part Nothing part = tt
fits_part (Reg None) part = tt
fits_part (Reg (Some v)) part = refl
fits_part (Item v) part = refl
fits_part (Elements members) part = refl

one_of_id : (order : List Taken) → Pairwise (λ x y. x.id ≢ y.id) order → (x y : Taken) → Contains order x → Contains order y → x.id ≡ y.id → x ≡ y
one_of_id [] once x y h k e = absurd (Contains-nil x h)
one_of_id (z ∷ order) once x y h k e =
    ⊎_elim
    (λ zx. ⊎_elim
    (λ zy. sym zx ∙ zy)
    (λ ky. absurd (once.0 y ky (ap (λ (w : Taken). w.id) zx ∙ e)))
    (Contains-cons_cases z order y k))
    (λ hx. ⊎_elim
    (λ zy. absurd (once.0 x hx (ap (λ (w : Taken). w.id) zy ∙ sym e)))
    (λ ky. one_of_id order once.1 x y hx ky e)
    (Contains-cons_cases z order y k))
    (Contains-cons_cases z order x h)

-- the event of a completion, and what it leaves
record Completed (kind : ModelKind) (events : List Event) (order : List Taken) (truth : Truth kind) (e : Event) : Type 0 where
  opens : Opens (events ++ e ∷ [])
  legal : IsOrder kind (events ++ e ∷ []) order truth

completed : (kind : ModelKind) (events : List Event) (order : List Taken) (truth : Truth kind) (p id : ℕ) (op : Op) (outcome : Outcome) → Opens events → open_of events p ≡ Some (id, op)
    → IsOrder kind events order truth → Stands order id (Some outcome) → Completed kind events order truth (completion p op outcome)
completed kind events order truth p id op (Done found) opens here legal stands =
    (let part : Part = part_of found op.part in
    let m : Mark = Returned id (answer_of part) in
    let e : Event = completion p op (Done found) in
    let said : marks_in (events ++ e ∷ []) ≡ marks_in events ++ m ∷ [] = marks-push events e ∙ ap (λ j. marks_in events ++ Returned j (answer_of part) ∷ []) (opens.last p id op here) in record {
      opens = opens_ok events p id op opens here (record op { part = part });
      legal = subst (λ l. IsLegalOrder (product (λ _. kind)) l order truth) (sym said) (IsLegalOrder-more (product (λ _. kind)) (marks_in events) m order truth legal
          (λ x f h q. cc)
          (λ x h q. cc)
          (λ i a q. (let same : id ≡ i = cc in (stands.0, stands.1, stands.2 ∙ same)))
          (λ x a h q.
          (let same : id ≡ x.id = cc in
          let answer : answer_of part ≡ a = cc in
          let is : stands.0 ≡ x = one_of_id order legal.once stands.0 x stands.1 h (stands.2 ∙ same) in
          let found_is : found ≡ x.found = sym stands.3 ∙ ap (λ (y : Taken). y.found) is in
          subst (λ b. Fits x.found b) answer (subst (λ f. Fits f (answer_of part)) found_is (fits_part found op.part)))));
    })
completed kind events order truth p id op Refused opens here legal stands =
    (let e : Event = completion p op Refused in
    let said : marks_in (events ++ e ∷ []) ≡ marks_in events ++ Failed id ∷ [] = marks-push events e ∙ ap (λ j. marks_in events ++ Failed j ∷ []) (opens.last p id op here) in record {
      opens = opens_fail events p id op opens here op;
      legal = subst (λ l. IsLegalOrder (product (λ _. kind)) l order truth) (sym said) (IsLegalOrder-more (product (λ _. kind)) (marks_in events) (Failed id) order truth legal
          (λ x f h q. cc)
          (λ x h q. stands (x, h, (let same : id ≡ x.id = cc in sym same)))
          (λ i a q. cc)
          (λ x a h q. cc));
    })
completed kind events order truth p id op Lost opens here legal stands =
    (let e : Event = completion p op Lost in
    let said : marks_in (events ++ e ∷ []) ≡ marks_in events ++ Crashed id ∷ [] = marks-push events e ∙ ap (λ j. marks_in events ++ Crashed j ∷ []) (opens.last p id op here) in record {
      opens = opens_info events p id op opens here op;
      legal = subst (λ l. IsLegalOrder (product (λ _. kind)) l order truth) (sym said) (IsLegalOrder-more (product (λ _. kind)) (marks_in events) (Crashed id) order truth legal
          (λ x f h q. cc)
          (λ x h q. cc)
          (λ i a q. cc)
          (λ x a h q. cc));
    })

still_below : (events : List Event) (e : Event) (i : ℕ) → i < length events → i < length (events ++ e ∷ [])
still_below events e i h = (let more : length (events ++ e ∷ []) ≡ length events + 1 = length-push events e in omega arith)

holds_finish : (kind : ModelKind) (numbers : List ℕ) (old new : Trial) (number : ℕ) → Holds kind old numbers → MayBeFinished old number new → Holds kind new numbers
holds_finish kind numbers old new number h may =
    let t : Ticket = may.0 in
    let e : Event = completion t.process t.op may.1 in
    let d : Completed kind old.events h.order h.truth e = completed kind old.events h.order h.truth t.process t.index t.op may.1 h.opens may.4 h.legal
    (subst (Stands h.order t.index) may.3 (h.stands number t may.2)) in
    subst (λ m. Holds kind m numbers) (sym may.6) (record {
      history = history-push old.concurrency old.events e h.history may.5;
      opens = d.opens;
      strict = h.strict;
      truth = h.truth;
      is_true = h.is_true;
      order = h.order;
      legal = d.legal;
      of_tickets = h.of_tickets;
      stands = h.stands;
      below = λ k u at. still_below old.events e u.index (h.below k u at);
      apart = h.apart;
    })

holds_strike : (kind : ModelKind) (numbers : List ℕ) (old new : Trial) (fault : Fault) → Holds kind old numbers → MayMove old (Strikes fault) new → Holds kind new numbers
holds_strike kind numbers old new fault h may =
    let left = fault_leaves fault old.store kind h.truth h.strict h.is_true in
    subst (λ m. Holds kind m numbers) (sym may.1) (record {
      history = history-push old.concurrency old.events (strike fault) h.history may.0;
      opens = opens_strike old.events fault h.opens;
      strict = left.1;
      truth = h.truth;
      is_true = left.0;
      order = h.order;
      legal = subst (λ l. IsLegalOrder (product (λ _. kind)) l h.order h.truth) (sym (no_marks old.events fault)) h.legal;
      of_tickets = h.of_tickets;
      stands = h.stands;
      below = λ k u at. still_below old.events (strike fault) u.index (h.below k u at);
      apart = h.apart;
    })

-- no operation took place
none_more : (kind : ModelKind) (numbers : List ℕ) (m : Trial) → Holds kind m numbers → Holds kind m (numbers ++ [])
none_more kind numbers m h = subst (Holds kind m) (sym (append-nil numbers)) h

holds_move : (kind : ModelKind) (numbers : List ℕ) (old new : Trial) (move : Move) → Holds kind old numbers → MayMove old move new → Holds kind new (numbers ++ cons_option (took_place move) [])
holds_move kind numbers old new (Draws thread op) h may = none_more kind numbers new (holds_draw kind numbers old new thread op h may)
holds_move kind numbers old new (Serves number outcome) h may = holds_serve kind numbers old new number outcome h may
holds_move kind numbers old new (Finishes number) h may = none_more kind numbers new (holds_finish kind numbers old new number h may)
holds_move kind numbers old new (Strikes fault) h may = none_more kind numbers new (holds_strike kind numbers old new fault h may)
holds_move kind numbers old new Stays h may = none_more kind numbers new (subst (λ m. Holds kind m numbers) (sym may) h)

holds_end : (kind : ModelKind) (numbers : List ℕ) (moves : List Move) (m end : Trial) → Holds kind m numbers → Leads m moves end → Holds kind end (numbers ++ serves_of moves)
holds_end kind numbers [] m end h is = subst (λ m. Holds kind m (numbers ++ [])) is (none_more kind numbers m h)
holds_end kind numbers (move ∷ moves) m end h leads =
    subst (Holds kind end) (with_rest numbers (took_place move) (serves_of moves))
    (holds_end kind (numbers ++ cons_option (took_place move) []) moves leads.0 end (holds_move kind numbers m leads.0 move h leads.1) leads.2)

-- each trial of a strict store has a history, and a legal order of it by the serves
pub holds_always : (c n : ℕ) (kind : ModelKind) (moves : List Move) (m : Trial) → IsCount n → Leads (opening c n kind) moves m → Holds kind m (serves_of moves)
holds_always c n kind moves m count leads = holds_end kind [] moves (opening c n kind) m (holds_opening c n kind count) leads

pub no_alarm : (c n : ℕ) (kind : ModelKind) (moves : List Move) (m : Trial) → IsCount n → Leads (opening c n kind) moves m → IsLinearizable (product (λ _. kind)) (marks_in m.events) × IsHistoryOf m.concurrency m.events
no_alarm c n kind moves m count leads = (let h : Holds kind m (serves_of moves) = holds_always c n kind moves m count leads in ((h.order, h.truth, h.legal), h.history))

pub legal_order : (c n : ℕ) (kind : ModelKind) (moves : List Move) (m : Trial) → IsCount n → Leads (opening c n kind) moves m
    → (order : List Taken) × (s : (product (λ _. kind)).State) × IsLegalOrder (product (λ _. kind)) (marks_in m.events) order s × AreOfTickets m.tickets (serves_of moves) order
legal_order c n kind moves m count leads = (let h : Holds kind m (serves_of moves) = holds_always c n kind moves m count leads in (h.order, h.truth, h.legal, h.of_tickets))
