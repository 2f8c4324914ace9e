-- A draw, a serve, a finish and a fault that are prepared in the parts are prepared in the whole
use Rattle.std.proofs.Common.{◌≡◌, ℕ, zero, suc, ◌%◌, ◌^◌, ◌-◌, ◌<◌, ◌≤◌, Option, Some, None, List, [], ◌∷◌, ◌++◌, length, slice_get, inl, inr, refl, sym, ap, ◌∙◌, subst, arith}
use Rattle.std.specs.declared.boxed.Box.{Box}
use Rattle.std.specs.Global.{Global}
use Rattle.models.specs.declared.operation.Op.{Op}
use Rattle.events.specs.declared.event.Event.{Event}
use Rattle.events.specs.declared.event.Fault.{Fault}
use Rattle.events.specs.Tables.{IsPart}
use Rattle.history.specs.WellFormed.{HistoryView, HasRoom}
use Rattle.linspec.specs.declared.verdict.Verdict.{Verdict}
use Rattle.nemesis.specs.Schedules.{after_first}
use Rattle.generators.specs.declared.item.Item.TheVariants.{Op as AnOp, Fault as AFault}
use Rattle.generators.specs.declared.item.Asker.{Asker}
use Rattle.generators.specs.declared.item.Asker.TheVariants.{Thread, Nemesis as TheNemesis}
use Rattle.generators.specs.declared.item.Drawn.{Drawn}
use Rattle.generators.specs.declared.item.Drawn.TheVariants.{Op as Gets, Pending, Done}
use Rattle.generators.specs.Generators.{Generator}
use Rattle.generators.specs.Sources.{SourceView, upcoming}
use Rattle.test_store.specs.declared.outcome.Outcome.{Outcome}
use Rattle.test_store.specs.Store.{Cluster, StoreView, MayServe, MayStrike, VersionsOf, row_of, after_fault}
use Rattle.machine.specs.declared.ticket.Ticket.{Ticket}
use Rattle.machine.specs.Trials.{invocation, strike, fresh_ticket, IsStillOpen}
use Rattle.linspec.specs.JudgedHistory.{IsVerdictOn, with_event}
use Rattle.monitor.specs.Monitors.{MonitorView, Admits}
use Rattle.monitor.specs.Monitors.{with_next as monitor_with_next}
use Rattle.machine.specs.declared.command.Command.TheVariants.{Draw, Serve, Finish, Nemesis}
use Rattle.machine.specs.declared.command.Reply.{Reply}
use Rattle.machine.specs.declared.command.Reply.TheVariants.{Verdict as Says, Drawn as HasDrawn, Pending as IsPending, Done as IsDone, Served, Fault as Struck}
use Rattle.machine.specs.Machine.{Machine, HasTicket, ThreadMayDraw, HasOperation, Gives, idle_from, current_process, invoked_by, with_served, struck_by, first_due}
use Rattle.machine.specs.Tickets.{IsAnswered, served_of}
use Rattle.machine.proofs.Counting.{served-le}
use Rattle.machine.proofs.Tickets.{may_complete}
use Rattle.harness.specs.declared.change.Change.TheVariants.{Same, Judged, Draw as Invoke, Serve as Serving, StrikeDue, StrikeDrawn}
use Rattle.harness.specs.Asking.{MayGive, HasOpFor}
use Rattle.harness.specs.CoreView.{CoreView, IsPrepared}
use Rattle.harness.specs.SoundCore.{machine_of, judged_as, moved_on, served_at, IsSoundMachine}
use Rattle.harness.specs.Tickets.{MayFinish, MayServe as MayBeServed}
use Rattle.harness.proofs.Preparing.{seen, judged}
use Rattle.harness.proofs.Showing.{Shows}
use Rattle.harness.proofs.Sound.{fits}
use Rattle.harness.proofs.Fitting.{good_drawn}
use Rattle.harness.proofs.Takes.{may_invoke, may_strike}

-- the source may give so, for the idle threads of a history that the monitor shows
abbrev pub GivesBy : SourceView → HistoryView → Asker → Drawn → Generator × ℕ → Type 0
GivesBy source history asker drawn to = MayGive source (idle_from history.concurrency history.events 0 history.concurrency) asker drawn to

module _ (monitor : MonitorView) (source : SourceView) (schedule : List (ℕ × Fault)) (store : StoreView) (tickets : List Ticket) where
  abbrev m : Machine
  m = machine_of monitor source schedule store tickets

  -- the answer of the source leads to this machine
  pub given : (history : HistoryView) (asker : Asker) (drawn : Drawn) (to : Generator × ℕ) → Shows monitor history → GivesBy source history asker drawn to → Gives m asker drawn (moved_on to m)
  given history asker drawn to shows may = (
    to.0,
    to.1,
    subst (λ (events : List Event). MayGive source (idle_from monitor.now.concurrency events 0 monitor.now.concurrency) asker drawn to) shows.1
        (subst (λ (c : ℕ). MayGive source (idle_from c history.events 0 c) asker drawn to) shows.0 may),
    refl,
  )

  pub has_operation : (history : HistoryView) (thread : ℕ) → Shows monitor history → HasOpFor source (idle_from history.concurrency history.events 0 history.concurrency) thread → HasOperation m thread
  has_operation history thread shows f = (f.0, moved_on f.1 m, given history (Thread thread) (Gets (AnOp f.0)) f.1 shows f.2)

  -- a draw's part is one of its table
  pub drawn_part : (history : HistoryView) (thread : ℕ) (op : Op) (to : Generator × ℕ) → IsSoundMachine m → Shows monitor history → GivesBy source history (Thread thread) (Gets (AnOp op)) to → IsPart op.name op.part
  drawn_part history thread op to s shows may = (let g = given history (Thread thread) (Gets (AnOp op)) to shows may in good_drawn m (Thread thread) (AnOp op) g.0 g.1 g.2 (fits m s))

  -- and its invocation may come next
  pub drawn_takes : (history : HistoryView) (thread : ℕ) (op : Op) (to : Generator × ℕ) → IsSoundMachine m → ThreadMayDraw m thread → Shows monitor history → GivesBy source history (Thread thread) (Gets (AnOp op)) to
      → Admits monitor.now (invocation (current_process m thread) op)
  drawn_takes history thread op to s may shows gives =
      may_invoke monitor.now.concurrency monitor.now.events thread op may.0 may.1 may.2 (drawn_part history thread op to s shows gives)

  -- a drawn fault may strike
  pub drawn_strikes : (history : HistoryView) (fault : Fault) (to : Generator × ℕ) → IsSoundMachine m → Shows monitor history → GivesBy source history TheNemesis (Gets (AFault fault)) to → MayStrike store.now.replicas fault
  drawn_strikes history fault to s shows may = (let g = given history TheNemesis (Gets (AFault fault)) to shows may in good_drawn m TheNemesis (AFault fault) g.0 g.1 g.2 (fits m s))

  -- a draw that is answered by no operation
  module _ (source' : SourceView) (history : HistoryView) (thread : ℕ) (v : Verdict) (is : source' ≡ record source { next = source'.next }) (shows : Shows monitor history) (may : ThreadMayDraw m thread) (true : IsVerdictOn monitor.now v) where
    abbrev Stays : Reply → Type 0
    Stays reply = IsPrepared m (Draw thread) (reply, v) (seen monitor source' schedule store tickets Same)

    pub pending : (to : Generator × ℕ) → GivesBy source history (Thread thread) Pending to → Stays IsPending
    pending to gives =
        (m, (may, (source.generator, source.place, (kept.2.0, refl, refl), refl)), true, ap (λ (x : SourceView). seen monitor x schedule store tickets Same) is)
      where
        kept : Gives m (Thread thread) Pending (moved_on to m)
        kept = given history (Thread thread) Pending to shows gives

    pub done : (to : Generator × ℕ) → GivesBy source history (Thread thread) Done to → Stays IsDone
    done to gives =
        (m, (may, (source.generator, source.place, (kept.2.0, refl, refl), refl)), true, ap (λ (x : SourceView). seen monitor x schedule store tickets Same) is)
      where
        kept : Gives m (Thread thread) Done (moved_on to m)
        kept = given history (Thread thread) Done to shows gives

  -- a draw that is answered by an operation
  pub drawn : (monitor' : MonitorView) (source' : SourceView) (tickets' : List Ticket) (history : HistoryView) (thread number index : ℕ) (op : Op) (t : Box Ticket Global) (v : Verdict)
      → IsSoundMachine m → source' ≡ record source { next = source'.next } → tickets' ≡ tickets → Shows monitor history → ThreadMayDraw m thread
      → GivesBy source history (Thread thread) (Gets (AnOp op)) (upcoming source')
      → number ≡ length tickets → index ≡ length monitor.now.events
      → t.value ≡ fresh_ticket thread (current_process m thread) op monitor.now.events
      → monitor' ≡ monitor_with_next (with_event (invocation (current_process m thread) op) monitor.now) monitor
      → IsVerdictOn (with_event (invocation (current_process m thread) op) monitor.now) v
      → IsPrepared m (Draw thread) (HasDrawn number index, v) (seen monitor' source' schedule store tickets' (Invoke t))
  drawn monitor' source' tickets' history thread number index op t v s is same shows may gives number_is index_is t_is brought true = (
    invoked_by thread (current_process m thread) op (moved_on (upcoming source') m),
    (may, number_is, index_is, (op, moved_on (upcoming source') m, given history (Thread thread) (Gets (AnOp op)) (upcoming source') shows gives, drawn_takes history thread op (upcoming source') s may shows gives, refl)),
    true,
    ap (λ (x : MonitorView). seen x source' schedule store tickets' (Invoke t)) brought
        ∙ ap (λ (l : List Ticket). seen with_it source' schedule store l (Invoke t)) same
        ∙ ap (λ (u : Ticket). let r : CoreView = record {
          machine = machine_of with_it source' schedule store tickets;
          next = Some (moved_on (upcoming source') (record (machine_of with_it source' schedule store tickets) { judged = with_event e monitor.now; tickets = tickets ++ u ∷ [] }));
        } in r) t_is
        ∙ ap (λ (x : SourceView). let r : CoreView = record {
          machine = machine_of monitor x schedule store tickets;
          next = Some (moved_on (upcoming source') (record (machine_of monitor x schedule store tickets) { judged = with_event e monitor.now; tickets = tickets ++ fresh_ticket thread (current_process m thread) op monitor.now.events ∷ [] }));
        } in r) is,
  )
    where
      e : Event
      e = invocation (current_process m thread) op

      with_it : MonitorView
      with_it = monitor_with_next (with_event e monitor.now) monitor

  -- a serve
  pub served : (store' : StoreView) (number : ℕ) (t : Ticket) (outcome : Box Outcome Global) (v : Verdict) → HasTicket tickets number t → t.outcome ≡ None → IsStillOpen monitor.now.events t
      → (next : Cluster) × MayServe store.now (t.thread % store.now.replicas) t.op outcome.value next × (store' ≡ record { now = store.now; next = Some next })
      → IsVerdictOn monitor.now v
      → IsPrepared m (Serve number) (Served outcome.value, v) (seen monitor source schedule store' tickets (Serving number outcome))
  served store' number t outcome v has none open_ may true = (
    with_served number t outcome.value may.0 m,
    (t, has, (none, open_, (may.0, may.1, refl))),
    true,
    ap (λ (x : StoreView). seen monitor source schedule x tickets (Serving number outcome)) may.2
        ∙ ap (λ (o : Option Ticket). let r : CoreView = record {
          machine = m;
          next = Some (record m { store = may.0; tickets = served_at number outcome.value o tickets });
        } in r) has.0,
  )

  -- a finish
  pub finish_takes : (number : ℕ) (event : Event) → IsSoundMachine m → MayFinish monitor.now.events tickets number event → Admits monitor.now event
  finish_takes number event s may =
      subst (Admits monitor.now) (sym may.6)
      (may_complete monitor.now.concurrency monitor.now.events may.0 may.1 may.4 may.5 (s.stand.parts number may.0 may.2.0)
      (subst (IsAnswered may.0.op) may.3 (s.stand.answered number may.0 may.2.0)))

  pub finished : (monitor' : MonitorView) (number : ℕ) (event : Event) (v : Verdict) → IsSoundMachine m → MayFinish monitor.now.events tickets number event
      → monitor' ≡ monitor_with_next (with_event event monitor.now) monitor → IsVerdictOn (with_event event monitor.now) v
      → IsPrepared m (Finish number) (Says v, v) (seen monitor' source schedule store tickets Judged)
  finished monitor' number event v s may brought true =
      judged monitor monitor' source schedule store tickets (with_event event monitor.now) monitor.judged_again (Finish number) v
      ((may.0, may.2, (may.1, may.3, may.4, subst (Admits monitor.now) may.6 (finish_takes number event s may), ap (λ (e : Event). judged_as m (with_event e monitor.now)) may.6)), true)
      true brought

  -- a fault that strikes
  module _ (monitor' : MonitorView) (store' : StoreView) (fault : Fault) (index : ℕ) (v : Verdict) (s : IsSoundMachine m) (strikes : MayStrike store.now.replicas fault) (room : HasRoom monitor.now.events) (index_is : index ≡ length monitor.now.events)
      (now : store'.now ≡ store.now) (struck : store'.next ≡ Some (after_fault fault store.now))
      (brought : monitor' ≡ monitor_with_next (with_event (strike fault) monitor.now) monitor) (true : IsVerdictOn (with_event (strike fault) monitor.now) v) where
    abbrev with_it : MonitorView
    with_it = monitor_with_next (with_event (strike fault) monitor.now) monitor

    abbrev store_with : StoreView
    store_with = record { now = store.now; next = Some (after_fault fault store.now) }

    store_is : store' ≡ store_with
    store_is = λ i. record { now = now i; next = struck i }

    pub due : first_due m ≡ Some fault → IsPrepared m Nemesis (Struck fault index, v) (seen monitor' source schedule store' tickets StrikeDue)
    due is_due = (
      struck_by fault (record m { schedule = after_first schedule }),
      (index_is, (record m { schedule = after_first schedule }, inl (is_due, refl), may_strike monitor.now.concurrency store.now.replicas monitor.now.events fault s.count strikes room, refl)),
      true,
      ap (λ (x : MonitorView). seen x source schedule store' tickets StrikeDue) brought ∙ ap (λ (x : StoreView). seen with_it source schedule x tickets StrikeDue) store_is,
    )

    pub given_fault : (source' : SourceView) (history : HistoryView) → source' ≡ record source { next = source'.next } → Shows monitor history → first_due m ≡ None → GivesBy source history TheNemesis (Gets (AFault fault)) (upcoming source')
        → IsPrepared m Nemesis (Struck fault index, v) (seen monitor' source' schedule store' tickets StrikeDrawn)
    given_fault source' history is shows none gives = (
      struck_by fault (moved_on (upcoming source') m),
      (index_is, (moved_on (upcoming source') m, inr (none, given history TheNemesis (Gets (AFault fault)) (upcoming source') shows gives), may_strike monitor.now.concurrency store.now.replicas monitor.now.events fault s.count strikes room, refl)),
      true,
      ap (λ (x : MonitorView). seen x source' schedule store' tickets StrikeDrawn) brought ∙ ap (λ (x : StoreView). seen with_it source' schedule x tickets StrikeDrawn) store_is
          ∙ ap (λ (x : SourceView). let r : CoreView = record {
            machine = machine_of monitor x schedule store tickets;
            next = Some (moved_on (upcoming source') (record (machine_of monitor x schedule store tickets) { judged = with_event (strike fault) monitor.now; store = after_fault fault store.now }));
          } in r) is,
    )

-- a serve needs no version above the greatest u64
pub versions_fit : (m : Machine) (key : ℕ) → IsSoundMachine m → VersionsOf (row_of m.store key) (2 ^ 64 - 2)
versions_fit m key s held h =
    (let a : held.version ≤ served_of m.tickets = s.counted key held h in
    let b : served_of m.tickets ≤ length m.tickets = served-le m.tickets in
    let c : length m.tickets ≤ 2 ^ 32 - 1 = s.few in
    omega arith)

-- a ticket's number is below their number
pub number_below : (tickets : List Ticket) (number : ℕ) (t : Ticket) → slice_get tickets number ≡ Some t → number < length tickets
number_below [] number t h = cc
number_below (u ∷ tickets) zero t h = omega arith
number_below (u ∷ tickets) (suc number) t h = (let l : number < length tickets = number_below tickets number t h in omega arith)

-- the facts about the parts that were shown
pub serves_here : (events shown : List Event) (tickets given : List Ticket) (number : ℕ) (t : Ticket) → shown ≡ events → given ≡ tickets → MayBeServed shown given number t → MayBeServed events tickets number t
serves_here events shown tickets given number t same also h =
    subst (λ (l : List Event). MayBeServed l tickets number t) same (subst (λ (l : List Ticket). MayBeServed shown l number t) also h)

pub finishes_here : (events shown : List Event) (tickets given : List Ticket) (number : ℕ) (event : Event) → shown ≡ events → given ≡ tickets → MayFinish shown given number event → MayFinish events tickets number event
finishes_here events shown tickets given number event same also h =
    subst (λ (l : List Event). MayFinish l tickets number event) same (subst (λ (l : List Ticket). MayFinish shown l number event) also h)

-- the outcome of a serve, in a box
pub in_box : (st st' : StoreView) (entry : ℕ) (op : Op) (outcome : Outcome) (boxed : Box Outcome Global) → boxed.value ≡ outcome
    → (next : Cluster) × MayServe st.now entry op outcome next × (st' ≡ record { now = st.now; next = Some next })
    → (next : Cluster) × MayServe st.now entry op boxed.value next × (st' ≡ record { now = st.now; next = Some next })
in_box st st' entry op outcome boxed is h =
    subst (λ (o : Outcome). (next : Cluster) × MayServe st.now entry op o next × (st' ≡ record { now = st.now; next = Some next })) (sym is) h

-- the entry of a ticket's thread
pub at_entry : (st st' : StoreView) (t : Ticket) (outcome : Outcome) (entry replicas : ℕ) → entry ≡ t.thread % replicas → replicas ≡ st.now.replicas
    → (next : Cluster) × MayServe st.now entry t.op outcome next × (st' ≡ record { now = st.now; next = Some next })
    → (next : Cluster) × MayServe st.now (t.thread % st.now.replicas) t.op outcome next × (st' ≡ record { now = st.now; next = Some next })
at_entry st st' t outcome entry replicas is also h =
    subst (λ (e : ℕ). (next : Cluster) × MayServe st.now e t.op outcome next × (st' ≡ record { now = st.now; next = Some next })) (is ∙ ap (λ (n : ℕ). t.thread % n) also) h
