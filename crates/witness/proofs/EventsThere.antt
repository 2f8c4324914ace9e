-- the events that entries come from
use Rattle.std.proofs.Common.{◌≡◌, ℕ, suc, ◌+◌, nat_eq, Option, Some, None, option_map, unwrap_or, List, [], ◌∷◌, slice_get, refl, sym, ap, ◌∙◌, subst, ⊎_elim, arith}
use Rattle.std.specs.List.{Contains}
use Rattle.std.proofs.lemmas.List.Elements.{Contains-append_cases}
use Rattle.models.specs.declared.operation.Op.{Op}
use Rattle.models.specs.declared.finding.Answer.{Answer}
use Rattle.models.specs.Objects.{answer_of}
use Rattle.events.specs.declared.event.Event.{Event}
use Rattle.events.specs.declared.event.EventKind.{EventKind}
use Rattle.events.specs.declared.event.EventKind.TheVariants.{Invoke, Ok, Fail, Info}
use Rattle.events.specs.declared.event.Process.{Process}
use Rattle.events.specs.declared.event.Process.TheVariants.{Client, Nemesis}
use Rattle.events.specs.declared.event.Body.{Body}
use Rattle.events.specs.declared.event.Body.TheVariants.{Op as AnOp, Fault as AFault}
use Rattle.events.specs.Events.{Entry, OpEvent, op_event, op_event_in, act_by, mark_by_act, entry_by, entries_by, last_after, entries_from, entries_of, indexed_from, is_of_key}
use Rattle.events.specs.Events.Mark.{Invoked, Returned}
use Rattle.linspec.proofs.Lists.{Contains-nil, Contains-cons_cases}
use Rattle.witness.specs.Orders.{is_of}
use Rattle.witness.specs.Statuses.{op_in, op_at, answer_at}
use Rattle.witness.specs.Placing.{key_at}

-- the facts about an event that speaks of an operation
pub record Speaks (kind : EventKind) (process : Process) (body : Body) (o : OpEvent) : Type 0 where
  pub client : ℕ
  pub op : Op
  pub by : process ≡ Client client
  pub of : body ≡ AnOp op
  pub says : o ≡ record { process = client; key = op.key; act = act_by kind op }

pub speaks : (kind : EventKind) (process : Process) (body : Body) (o : OpEvent) → op_event_in kind process body ≡ Some o → Speaks kind process body o
speaks kind (Client p) (AnOp op) o e = record { client = p; op = op; by = refl; of = refl; says = (let t : record { process = p; key = op.key; act = act_by kind op } ≡ o = cc in sym t) }
speaks kind (Client p) (AFault fault) o e = cc
speaks kind Nemesis body o e = cc

-- the event of an entry
pub record ComesFrom (events : List Event) (n : ℕ) (e : Entry) : Type 0 where
  pub place : ℕ
  pub index_is : e.index ≡ n + place
  pub event : Event
  pub there : slice_get events place ≡ Some event
  pub says : OpEvent
  pub said : op_event event ≡ Some says
  pub key_is : e.key ≡ says.key
  pub last : ℕ
  pub mark_is : e.mark ≡ mark_by_act e.index last says.act

first_of : (x : Event) (events : List Event) (n : ℕ) (last : ℕ → ℕ) (o : Option OpEvent) (e : Entry) → op_event x ≡ o → Contains (entries_by n last o) e → ComesFrom (x ∷ events) n e
first_of x events n last None e is h = absurd (Contains-nil e h)
first_of x events n last (Some o) e is h =
    let same : entry_by n last o ≡ e = ⊎_elim (λ q. q) (λ k. absurd (Contains-nil e k)) (Contains-cons_cases (entry_by n last o) [] e h) in
    let at : e.index ≡ n = sym (ap (λ (w : Entry). w.index) same) in
    record {
      place = 0;
      index_is = omega (arith, at);
      event = x;
      there = refl;
      says = o;
      said = is;
      key_is = sym (ap (λ (w : Entry). w.key) same);
      last = last o.process;
      mark_is = sym (ap (λ (w : Entry). w.mark) same) ∙ ap (λ i. mark_by_act i (last o.process) o.act) (sym at);
    }

later : (x : Event) (events : List Event) (n : ℕ) (e : Entry) → ComesFrom events (n + 1) e → ComesFrom (x ∷ events) n e
later x events n e c = record {
  place = suc c.place;
  index_is = (let i = c.index_is in omega (arith, i));
  event = c.event;
  there = c.there;
  says = c.says;
  said = c.said;
  key_is = c.key_is;
  last = c.last;
  mark_is = c.mark_is;
}

comes_from : (events : List Event) (n : ℕ) (last : ℕ → ℕ) (e : Entry) → Contains (entries_from last (indexed_from n events)) e → ComesFrom events n e
comes_from [] n last e h = absurd (Contains-nil e h)
comes_from (x ∷ events) n last e h =
    ⊎_elim
    (λ k. first_of x events n last (op_event x) e refl k)
    (λ k. later x events n e (comes_from events (n + 1) (last_after n last (op_event x)) e k))
    (Contains-append_cases (entries_by n last (op_event x)) (entries_from (last_after n last (op_event x)) (indexed_from (n + 1) events)) e h)

-- of a whole history
pub record EntryOf (events : List Event) (e : Entry) : Type 0 where
  pub event : Event
  pub there : slice_get events e.index ≡ Some event
  pub says : OpEvent
  pub said : op_event event ≡ Some says
  pub key_is : e.key ≡ says.key
  pub last : ℕ
  pub mark_is : e.mark ≡ mark_by_act e.index last says.act

pub entry_of : (events : List Event) (e : Entry) → Contains (entries_of (indexed_from 0 events)) e → EntryOf events e
entry_of events e h =
    let c = comes_from events 0 (λ _. 0) e h in
    let at : c.place ≡ e.index = (let i = c.index_is in omega (arith, i)) in
    record { event = c.event; there = subst (λ n. slice_get events n ≡ Some c.event) at c.there; says = c.says; said = c.said; key_is = c.key_is; last = c.last; mark_is = c.mark_is }

-- the key of an event
is_of-key : (key : ℕ) (x : Option Event) (event : Event) (o : OpEvent) → x ≡ Some event → op_event event ≡ Some o → is_of key x ≡ nat_eq o.key key
is_of-key key x event o there said = ap (is_of key) there ∙ ap (λ p. is_of_key key p) said

pub of_its_key : (events : List Event) (e : Entry) → EntryOf events e → (key : ℕ) → is_of key (slice_get events e.index) ≡ nat_eq e.key key
of_its_key events e h key = is_of-key key (slice_get events e.index) h.event h.says h.there h.said ∙ ap (λ k. nat_eq k key) (sym h.key_is)

key_of-at : (x : Option Event) (event : Event) (o : OpEvent) → x ≡ Some event → op_event event ≡ Some o → key_at x ≡ o.key
key_of-at x event o there said = ap key_at there ∙ ap (λ p. unwrap_or (option_map (λ (w : OpEvent). w.key) p) 0) said

pub key_there : (events : List Event) (e : Entry) → EntryOf events e → key_at (slice_get events e.index) ≡ e.key
key_there events e h = key_of-at (slice_get events e.index) h.event h.says h.there h.said ∙ sym h.key_is

-- an invocation
invokes : (i l : ℕ) (kind : EventKind) (op : Op) (id : ℕ) (invoked : Op) → mark_by_act i l (act_by kind op) ≡ Invoked id invoked → (i ≡ id) × (op ≡ invoked)
invokes i l Invoke op id invoked e = ((let t : i ≡ id = cc in t), (let t : op ≡ invoked = cc in t))
invokes i l Ok op id invoked e = cc
invokes i l Fail op id invoked e = cc
invokes i l Info op id invoked e = cc

the_op : (x : Option Event) (event : Event) (o : OpEvent) (s : Speaks event.kind event.process event.body o) → x ≡ Some event → op_at x ≡ Some s.op
the_op x event o s there = ap op_at there ∙ ap (λ p. op_in p event.body) s.by ∙ ap (op_in (Client s.client)) s.of

pub invocation_at : (events : List Event) (e : Entry) (id : ℕ) (op : Op) → EntryOf events e → e.mark ≡ Invoked id op → (e.index ≡ id) × (op_at (slice_get events id) ≡ Some op)
invocation_at events e id op h is =
    let s = speaks h.event.kind h.event.process h.event.body h.says h.said in
    let by : mark_by_act e.index h.last (act_by h.event.kind s.op) ≡ Invoked id op = ap (λ (o : OpEvent). mark_by_act e.index h.last o.act) (sym s.says) ∙ sym h.mark_is ∙ is in
    let r = invokes e.index h.last h.event.kind s.op id op by in
    (r.0, subst (λ n. op_at (slice_get events n) ≡ Some op) r.0 (the_op (slice_get events e.index) h.event h.says s h.there ∙ ap Some r.1))

-- a return
returns : (i l : ℕ) (kind : EventKind) (op : Op) (id : ℕ) (answer : Answer) → mark_by_act i l (act_by kind op) ≡ Returned id answer → answer_of op.part ≡ answer
returns i l Invoke op id answer e = cc
returns i l Ok op id answer e = (let t : answer_of op.part ≡ answer = cc in t)
returns i l Fail op id answer e = cc
returns i l Info op id answer e = cc

pub answer_of_return : (events : List Event) (e : Entry) (id : ℕ) (answer : Answer) → EntryOf events e → e.mark ≡ Returned id answer → answer_at (slice_get events e.index) ≡ Some answer
answer_of_return events e id answer h is =
    let s = speaks h.event.kind h.event.process h.event.body h.says h.said in
    let by : mark_by_act e.index h.last (act_by h.event.kind s.op) ≡ Returned id answer = ap (λ (o : OpEvent). mark_by_act e.index h.last o.act) (sym s.says) ∙ sym h.mark_is ∙ is in
    ap (option_map (λ (op : Op). answer_of op.part)) (the_op (slice_get events e.index) h.event h.says s h.there) ∙ ap Some (returns e.index h.last h.event.kind s.op id answer by)
