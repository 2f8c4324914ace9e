-- A command has one reply at most, and leads to one machine
use Rattle.std.proofs.Common.{◌≡◌, ℕ, ◌%◌, refl, sym, ap, ◌∙◌, subst}
use Rattle.std.proofs.lemmas.Option.{same_Some}
use Rattle.models.specs.declared.operation.Op.{Op}
use Rattle.generators.specs.declared.item.Item.TheVariants.{Op as AnOp}
use Rattle.generators.specs.declared.item.Asker.TheVariants.{Thread}
use Rattle.generators.specs.declared.item.Drawn.{Drawn}
use Rattle.generators.specs.declared.item.Drawn.TheVariants.{Op as Gets, Pending, Done}
use Rattle.linspec.specs.declared.verdict.Verdict.{Verdict}
use Rattle.linspec.proofs.OneAnswer.{one_verdict}
use Rattle.linspec.proofs.Places.{rising_places}
use Rattle.test_store.specs.Store.{MayServe}
use Rattle.test_store.proofs.OneServe.{one_serve}
use Rattle.machine.specs.declared.ticket.Ticket.{Ticket}
use Rattle.machine.specs.Trials.{completion}
use Rattle.machine.specs.declared.command.Command.{Command}
use Rattle.machine.specs.declared.command.Command.TheVariants.{Append, Rewind, SetModel, SetBudget, Verdict as Ask, Draw, Serve, Finish, Nemesis}
use Rattle.machine.specs.declared.command.Reply.{Reply}
use Rattle.machine.specs.declared.command.Reply.TheVariants.{Verdict as Says, Drawn as HasDrawn, Pending as IsPending, Done as IsDone, Served, Fault as Struck}
use Rattle.linspec.specs.JudgedHistory.{JudgedHistory, kind_of, budget_of, entries_in, IsVerdictOn}
use Rattle.machine.specs.Machine.{Machine, current_process, appended, invoked_by, with_served, struck_by, Replies}
use Rattle.machine.proofs.OneGift.{one_gift, one_fault}
use Rattle.machine.proofs.OneRefusal.{same_ticket}

verdict_one : (h : JudgedHistory) (v w : Verdict) → IsVerdictOn h v → IsVerdictOn h w → v ≡ w
verdict_one h v w a b = one_verdict (kind_of h) (budget_of h) (entries_in h) (rising_places h.events) v w a b

abbrev SameReply : Reply → Reply → Machine → Machine → Type 0
SameReply a b new next = (a ≡ b) × (new ≡ next)

-- two verdicts, each on the machine after the command
verdicts : (new next : Machine) (v w : Verdict) → new ≡ next → IsVerdictOn new.judged v → IsVerdictOn next.judged w → SameReply (Says v) (Says w) new next
verdicts new next v w is x y = (ap Says (verdict_one new.judged v w x (subst (λ (m : Machine). IsVerdictOn m.judged w) (sym is) y)), is)

op_in : (f g : Op) → ◌≡◌ {A = Drawn} (Gets (AnOp f)) (Gets (AnOp g)) → f ≡ g
op_in f g e = cc

draw_one : (old new next : Machine) (thread : ℕ) (a b : Reply) → Replies old (Draw thread) a new → Replies old (Draw thread) b next → SameReply a b new next
draw_one old new next thread (HasDrawn ticket index) (HasDrawn number place) a b =
    (let ticket_is : ticket ≡ number = a.1 ∙ sym b.1 in
    let index_is : index ≡ place = a.2 ∙ sym b.2 in
    let one = one_gift old a.3.1 b.3.1 (Thread thread) (Gets (AnOp a.3.0)) (Gets (AnOp b.3.0)) a.3.2 b.3.2 in
    let op_is : a.3.0 ≡ b.3.0 = op_in a.3.0 b.3.0 one.0 in (
      (λ i. HasDrawn (ticket_is i) (index_is i)),
      a.3.4 ∙ (λ i. invoked_by thread (current_process old thread) (op_is i) (one.1 i)) ∙ sym b.3.4,
    ))
draw_one old new next thread (HasDrawn ticket index) IsPending a b =
    (let q : ◌≡◌ {A = Drawn} (Gets (AnOp a.3.0)) Pending = (one_gift old a.3.1 next (Thread thread) (Gets (AnOp a.3.0)) Pending a.3.2 b.1).0 in cc)
draw_one old new next thread (HasDrawn ticket index) IsDone a b =
    (let q : ◌≡◌ {A = Drawn} (Gets (AnOp a.3.0)) Done = (one_gift old a.3.1 next (Thread thread) (Gets (AnOp a.3.0)) Done a.3.2 b.1).0 in cc)
draw_one old new next thread IsPending (HasDrawn ticket index) a b =
    (let q : ◌≡◌ {A = Drawn} Pending (Gets (AnOp b.3.0)) = (one_gift old new b.3.1 (Thread thread) Pending (Gets (AnOp b.3.0)) a.1 b.3.2).0 in cc)
draw_one old new next thread IsPending IsPending a b = (refl, (one_gift old new next (Thread thread) Pending Pending a.1 b.1).1)
draw_one old new next thread IsPending IsDone a b = (let q : ◌≡◌ {A = Drawn} Pending Done = (one_gift old new next (Thread thread) Pending Done a.1 b.1).0 in cc)
draw_one old new next thread IsDone (HasDrawn ticket index) a b =
    (let q : ◌≡◌ {A = Drawn} Done (Gets (AnOp b.3.0)) = (one_gift old new b.3.1 (Thread thread) Done (Gets (AnOp b.3.0)) a.1 b.3.2).0 in cc)
draw_one old new next thread IsDone IsPending a b = (let q : ◌≡◌ {A = Drawn} Done Pending = (one_gift old new next (Thread thread) Done Pending a.1 b.1).0 in cc)
draw_one old new next thread IsDone IsDone a b = (refl, (one_gift old new next (Thread thread) Done Done a.1 b.1).1)
draw_one old new next thread (Says v) q a b = absurd a
draw_one old new next thread (Served outcome) q a b = absurd a
draw_one old new next thread (Struck fault index) q a b = absurd a
draw_one old new next thread p (Says v) a b = absurd b
draw_one old new next thread p (Served outcome) a b = absurd b
draw_one old new next thread p (Struck fault index) a b = absurd b

serve_one : (old new next : Machine) (number : ℕ) (a b : Reply) → Replies old (Serve number) a new → Replies old (Serve number) b next → SameReply a b new next
serve_one old new next number (Served outcome) (Served other) a b =
    (let s : a.0 ≡ b.0 = same_ticket old.tickets number a.0 b.0 a.1 b.1 in
    let also : MayServe old.store (a.0.thread % old.store.replicas) a.0.op other b.2.2.0 = subst (λ (w : Ticket). MayServe old.store (w.thread % old.store.replicas) w.op other b.2.2.0) (sym s) b.2.2.1 in
    let r : (outcome ≡ other) × (a.2.2.0 ≡ b.2.2.0) = one_serve old.store a.2.2.0 b.2.2.0 (a.0.thread % old.store.replicas) a.0.op outcome other a.2.2.1 also in (
      ap Served r.0,
      a.2.2.2 ∙ (λ i. with_served number (s i) (r.0 i) (r.1 i) old) ∙ sym b.2.2.2,
    ))
serve_one old new next number (Served outcome) q a b = absurd b
serve_one old new next number p q a b = absurd a

finish_one : (old new next : Machine) (number : ℕ) (a b : Reply) → Replies old (Finish number) a new → Replies old (Finish number) b next → SameReply a b new next
finish_one old new next number (Says v) (Says w) a b =
    (let s : a.0.0 ≡ b.0.0 = same_ticket old.tickets number a.0.0 b.0.0 a.0.1 b.0.1 in
    let r : a.0.2.0 ≡ b.0.2.0 = same_Some a.0.2.0 b.0.2.0 (sym a.0.2.1 ∙ ap (λ (t : Ticket). t.outcome) s ∙ b.0.2.1) in
    let is : new ≡ next = a.0.2.4 ∙ (λ i. appended (completion (s i).process (s i).op (r i)) old) ∙ sym b.0.2.4 in
    verdicts new next v w is a.1 b.1)
finish_one old new next number (Says v) q a b = absurd b
finish_one old new next number p q a b = absurd a

nemesis_one : (old new next : Machine) (a b : Reply) → Replies old Nemesis a new → Replies old Nemesis b next → SameReply a b new next
nemesis_one old new next (Struck f i) (Struck g j) a b =
    (let s : (f ≡ g) × (a.1.0 ≡ b.1.0) = one_fault old a.1.0 b.1.0 f g a.1.1 b.1.1 in
    let at : i ≡ j = a.0 ∙ sym b.0 in (
      (λ k. Struck (s.0 k) (at k)),
      a.1.3 ∙ (λ k. struck_by (s.0 k) (s.1 k)) ∙ sym b.1.3,
    ))
nemesis_one old new next (Struck f i) q a b = absurd b
nemesis_one old new next p q a b = absurd a

append_one : (old new next : Machine) (event : _) (a b : Reply) → Replies old (Append event) a new → Replies old (Append event) b next → SameReply a b new next
append_one old new next event (Says v) (Says w) a b = verdicts new next v w (a.1 ∙ sym b.1) a.2 b.2
append_one old new next event (Says v) q a b = absurd b
append_one old new next event p q a b = absurd a

rewind_one : (old new next : Machine) (n : ℕ) (a b : Reply) → Replies old (Rewind n) a new → Replies old (Rewind n) b next → SameReply a b new next
rewind_one old new next n (Says v) (Says w) a b = verdicts new next v w (a.1 ∙ sym b.1) a.2 b.2
rewind_one old new next n (Says v) q a b = absurd b
rewind_one old new next n p q a b = absurd a

budget_one : (old new next : Machine) (key n : ℕ) (a b : Reply) → Replies old (SetBudget key n) a new → Replies old (SetBudget key n) b next → SameReply a b new next
budget_one old new next key n (Says v) (Says w) a b = verdicts new next v w (a.1 ∙ sym b.1) a.2 b.2
budget_one old new next key n (Says v) q a b = absurd b
budget_one old new next key n p q a b = absurd a

model_one : (old new next : Machine) (key : ℕ) (kind : _) (a b : Reply) → Replies old (SetModel key kind) a new → Replies old (SetModel key kind) b next → SameReply a b new next
model_one old new next key kind (Says v) (Says w) a b = verdicts new next v w (a.0 ∙ sym b.0) a.1 b.1
model_one old new next key kind (Says v) q a b = absurd b
model_one old new next key kind p q a b = absurd a

ask_one : (old new next : Machine) (a b : Reply) → Replies old Ask a new → Replies old Ask b next → SameReply a b new next
ask_one old new next (Says v) (Says w) a b = verdicts new next v w (a.0 ∙ sym b.0) a.1 b.1
ask_one old new next (Says v) q a b = absurd b
ask_one old new next p q a b = absurd a

pub one_reply : (old new next : Machine) (command : Command) (a b : Reply) → Replies old command a new → Replies old command b next → SameReply a b new next
one_reply old new next (Append event) a b = append_one old new next event a b
one_reply old new next (Rewind n) a b = rewind_one old new next n a b
one_reply old new next (SetModel key kind) a b = model_one old new next key kind a b
one_reply old new next (SetBudget key n) a b = budget_one old new next key n a b
one_reply old new next Ask a b = ask_one old new next a b
one_reply old new next (Draw thread) a b = draw_one old new next thread a b
one_reply old new next (Serve number) a b = serve_one old new next number a b
one_reply old new next (Finish number) a b = finish_one old new next number a b
one_reply old new next Nemesis a b = nemesis_one old new next a b
