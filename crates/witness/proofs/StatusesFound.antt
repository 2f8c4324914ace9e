-- the statuses of operations, after one event more
use Rattle.std.proofs.Common.{◌≡◌, ℕ, zero, suc, ◌+◌, ◌<◌, cond, Option, Some, None, option_map, List, [], ◌∷◌, ◌++◌, length, take, get_or, set, get_or-set_same, get_or-set_other, refl, sym, ap, ◌∙◌, subst, ⊎_elim, arith}
use Rattle.std.proofs.lemmas.Bool.{cases_eq, eq-eqb, ne_eqb}
use Rattle.std.proofs.lemmas.List.{take_more, length-take-le}
use Rattle.models.specs.declared.operation.Op.{Op}
use Rattle.events.specs.declared.event.Event.{Event}
use Rattle.events.specs.Events.{Act, OpEvent, op_event, act_by, Entry, mark_by_act, entries_by, last_by, last_after, entries_of, indexed_from}
use Rattle.events.specs.Events.Act.{Invokes, Returns, Fails, Crashes}
use Rattle.linspec.specs.MarkRule.{id_of}
use Rattle.linspec.specs.KeptMarks.{last_invocation}
use Rattle.linspec.proofs.EventMarks.{entries_from-push, last_invocation_from-push}
use Rattle.witness.specs.declared.statuses.OperationStatus.{OperationStatus}
use Rattle.witness.specs.declared.statuses.OperationStatus.TheVariants.{NoOperation}
use Rattle.witness.proofs.EventsThere.{speaks}
use Rattle.witness.specs.Statuses.{status_by, status_after, status_from, status_in, status_at, status_with}

pub status_from-append : (f : OperationStatus) (id : ℕ) (xs ys : List Entry) → status_from f id (xs ++ ys) ≡ status_from (status_from f id xs) id ys
status_from-append f id [] ys = refl
status_from-append f id (x ∷ xs) ys = status_from-append (status_after f id x) id xs ys

status_by_event : (f : OperationStatus) (id at : ℕ) (last : ℕ → ℕ) (o : Option OpEvent) → status_from f id (entries_by at last o) ≡ status_with at last o f id
status_by_event f id at last None = refl
status_by_event f id at last (Some e) = refl

module _ (events : List Event) (at : ℕ) (e : Event) (fits : at < length events) (is : e ≡ get_or events at e) where
  front : take (at + 1) events ≡ take at events ++ e ∷ []
  front = take_more events at e fits ∙ ap (λ x. take at events ++ x ∷ []) (sym is)

  long : 0 + length (take at events) ≡ at
  long = let t = length-take-le at events (omega arith) in omega (arith, t)

  pub status_more : (id : ℕ) → status_in (entries_of (indexed_from 0 (take (at + 1) events))) id
      ≡ status_with at (last_invocation (take at events)) (op_event e) (status_in (entries_of (indexed_from 0 (take at events))) id) id
  status_more id =
      ap (λ l. status_in (entries_of (indexed_from 0 l)) id) front
      ∙ ap (λ l. status_in l id) (entries_from-push 0 (λ _. 0) (take at events) e)
      ∙ status_from-append NoOperation id (entries_of (indexed_from 0 (take at events))) (entries_by (0 + length (take at events)) (last_invocation (take at events)) (op_event e))
      ∙ status_by_event (status_in (entries_of (indexed_from 0 (take at events))) id) id (0 + length (take at events)) (last_invocation (take at events)) (op_event e)
      ∙ ap (λ n. status_with n (last_invocation (take at events)) (op_event e) (status_in (entries_of (indexed_from 0 (take at events))) id) id) long

  pub last_more : (p : ℕ) → last_invocation (take (at + 1) events) p ≡ last_after at (last_invocation (take at events)) (op_event e) p
  last_more p =
      ap (λ l. last_invocation l p) front
      ∙ ap (λ (f : ℕ → ℕ). f p) (last_invocation_from-push 0 (λ _. 0) (take at events) e)
      ∙ ap (λ n. last_after n (last_invocation (take at events)) (op_event e) p) long

-- the last invocation of each process is known, and comes before
pub last_by-within : (n at : ℕ) (last : ℕ → ℕ) (process : ℕ) (act : Act) → at < n → ((p : ℕ) → last p < n) → (p : ℕ) → last_by at last process act p < n
last_by-within n at last process (Invokes op) here before p = ⊎_elim
    (λ e. subst (λ m. m < n) (sym (ap (λ b. cond b at (last p)) (eq-eqb p process e))) here)
    (λ ne. subst (λ m. m < n) (sym (ap (λ b. cond b at (last p)) (ne_eqb p process ne))) (before p))
    (cases_eq p process)
last_by-within n at last process (Returns answer) here before p = before p
last_by-within n at last process Fails here before p = before p
last_by-within n at last process Crashes here before p = before p

pub last_after-within : (n at : ℕ) (last : ℕ → ℕ) (o : Option OpEvent) → at < n → ((p : ℕ) → last p < n) → (p : ℕ) → last_after at last o p < n
last_after-within n at last None here before p = before p
last_after-within n at last (Some e) here before p = last_by-within n at last e.process e.act here before p

-- the operation that an event speaks of is the last of its process, after it
its_id : (at : ℕ) (last : ℕ → ℕ) (process : ℕ) (act : Act) → id_of (mark_by_act at (last process) act) ≡ last_by at last process act process
its_id at last process (Invokes op) = sym (ap (λ b. cond b at (last process)) (eq-eqb process process refl))
its_id at last process (Returns answer) = refl
its_id at last process Fails = refl
its_id at last process Crashes = refl

pub noted : (at : ℕ) (last : ℕ → ℕ) (o : OpEvent) (statuses : List OperationStatus) (target : ℕ) (made : OperationStatus) → target < length statuses → target ≡ last_by at last o.process o.act o.process
    → made ≡ status_by at (mark_by_act at (last o.process) o.act) → (id : ℕ) → status_at (set statuses target made) id ≡ status_with at last (Some o) (status_at statuses id) id
noted at last o statuses target made fits is_target is_made id =
    let here : id_of (mark_by_act at (last o.process) o.act) ≡ target = its_id at last o.process o.act ∙ sym is_target in
    ⊎_elim
    (λ (q : id ≡ target).
    ap (status_at (set statuses target made)) q ∙ get_or-set_same statuses target made NoOperation fits ∙ is_made
    ∙ sym (ap (λ b. cond b (status_by at (mark_by_act at (last o.process) o.act)) (status_at statuses id)) (eq-eqb (id_of (mark_by_act at (last o.process) o.act)) id (here ∙ sym q))))
    (λ ne.
    get_or-set_other statuses target id made NoOperation ne
    ∙ sym (ap (λ b. cond b (status_by at (mark_by_act at (last o.process) o.act)) (status_at statuses id)) (ne_eqb (id_of (mark_by_act at (last o.process) o.act)) id (λ q. ne (sym q ∙ here)))))
    (cases_eq id target)

-- behind the statuses that are noted there is none yet
pub status_push : (statuses : List OperationStatus) (id : ℕ) → status_at (statuses ++ NoOperation ∷ []) id ≡ status_at statuses id
status_push [] zero = refl
status_push [] (suc id) = refl
status_push (f ∷ statuses) zero = refl
status_push (f ∷ statuses) (suc id) = status_push statuses id

some_of : {X Y : Type 0} (f : X → Y) (x : Option X) (y : Y) → Some y ≡ option_map f x → (o : X) × (x ≡ Some o) × (f o ≡ y)
some_of f None y e = cc
some_of f (Some o) y e = (o, refl, (let t : y ≡ f o = cc in sym t))

-- the notes about an event of a client
pub record IsNotedBy (event : Event) (at : ℕ) (last : ℕ → ℕ) (target : ℕ) : Type 0 where
  pub says : OpEvent
  pub said : op_event event ≡ Some says
  pub op : Op
  pub act_is : says.act ≡ act_by event.kind op
  pub target_is : target ≡ last_by at last says.process says.act says.process

pub noted_by : (event : Event) (process at target new : ℕ) (last : ℕ → ℕ) → Some process ≡ option_map (λ (e : OpEvent). e.process) (op_event event) → target ≡ new
    → ((op : Op) → new ≡ last_by at last process (act_by event.kind op) process) → IsNotedBy event at last target
noted_by event process at target new last is found by =
    let o = some_of (λ (e : OpEvent). e.process) (op_event event) process is in
    let s = speaks event.kind event.process event.body o.0 o.1 in
    let act_is : o.0.act ≡ act_by event.kind s.op = ap (λ (e : OpEvent). e.act) s.says in
    record {
      says = o.0;
      said = o.1;
      op = s.op;
      act_is = act_is;
      target_is = found ∙ by s.op ∙ ap (λ a. last_by at last process a process) (sym act_is) ∙ ap (λ p. last_by at last p o.0.act p) (sym o.2);
    }

pub target_within : (event : Event) (at target n : ℕ) (last : ℕ → ℕ) → IsNotedBy event at last target → at < n → ((p : ℕ) → last p < n) → target < n
target_within event at target n last h here before = subst (λ m. m < n) (sym h.target_is) (last_by-within n at last h.says.process h.says.act here before h.says.process)

pub statuses_noted : (event : Event) (at target : ℕ) (last : ℕ → ℕ) (statuses : List OperationStatus) (made : OperationStatus) → IsNotedBy event at last target → target < length statuses
    → ((l : ℕ) (op : Op) → made ≡ status_by at (mark_by_act at l (act_by event.kind op))) → (id : ℕ) → status_at (set statuses target made) id ≡ status_with at last (op_event event) (status_at statuses id) id
statuses_noted event at target last statuses made h fits by id =
    noted at last h.says statuses target made fits h.target_is (by (last h.says.process) h.op ∙ ap (λ a. status_by at (mark_by_act at (last h.says.process) a)) (sym h.act_is)) id
    ∙ ap (λ o. status_with at last o (status_at statuses id) id) (sym h.said)
