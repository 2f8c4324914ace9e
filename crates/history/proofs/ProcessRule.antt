-- Well-formed events follow the process rule, as far as operations go
use Rattle.std.proofs.Common.{◌≡◌, ℕ, ◌+◌, cond, nat_eq, ◌==◌, false, is_some, Option, Some, None, List, [], ◌∷◌, ◌++◌, length, option_map, refl, sym, ap, ◌∙◌, subst, append_assoc, length-append, ⊎_elim, arith}
use Rattle.std.proofs.lemmas.Bool.{cases_eq, eq-eqb, ne_eqb}
use Rattle.models.specs.declared.operation.Op.{Op}
use Rattle.events.specs.declared.event.EventKind.{EventKind}
use Rattle.events.specs.declared.event.EventKind.TheVariants.{Invoke, Ok, Fail, Info}
use Rattle.events.specs.declared.event.Process.{Process}
use Rattle.events.specs.declared.event.Process.TheVariants.{Client, Nemesis}
use Rattle.events.specs.declared.event.Body.{Body}
use Rattle.events.specs.declared.event.Body.TheVariants.{Op as AnOp, Fault as AFault}
use Rattle.events.specs.declared.event.Event.{Event}
use Rattle.events.specs.Events.{op_event_in, op_event, indexed_from}
use Rattle.events.specs.ProcessRule.{MayCome, busy_after, MayComeFrom, IsHistory}
use Rattle.history.specs.WellFormed.{move_of, is_of_process, open_of, IsWellFormed, IsHistoryOf}
use Rattle.history.proofs.Appending.{open_of-own, open_of-other, busy_is_open}

-- the key of the open operation of a process
abbrev open_key : List Event → ℕ → Option ℕ
open_key events p = option_map (λ (x : ℕ × Op). x.1.key) (open_of events p)

abbrev Agrees : (ℕ → Option ℕ) → List Event → Type 0
Agrees busy events = (p : ℕ) → busy p ≡ open_key events p

none_where_idle : (o : Option (ℕ × Op)) → is_some o ≡ false → o ≡ None
none_where_idle None h = refl
none_where_idle (Some x) h = cc

may_come : (c : ℕ) (before : List Event) (index : Option ℕ) (kind : EventKind) (process : Process) (body : Body) (busy : ℕ → Option ℕ) → Agrees busy before
    → IsWellFormed c before (record { index = index; kind = kind; process = process; body = body }) → MayCome busy (op_event_in kind process body)
may_come c before index Invoke (Client p) (AnOp op) busy agree well = (agree p ∙ ap (option_map (λ (x : ℕ × Op). x.1.key)) (none_where_idle (open_of before p) (sym (busy_is_open before p) ∙ well.3.1)), refl)
may_come c before index Ok (Client p) (AnOp op) busy agree well = agree p ∙ ap (option_map (λ (x : ℕ × Op). x.1.key)) well.3.2 ∙ ap Some (sym well.3.3.1)
may_come c before index Fail (Client p) (AnOp op) busy agree well = agree p ∙ ap (option_map (λ (x : ℕ × Op). x.1.key)) well.3.2 ∙ ap Some (sym well.3.3.1)
may_come c before index Info (Client p) (AnOp op) busy agree well = agree p ∙ ap (option_map (λ (x : ℕ × Op). x.1.key)) well.3.2 ∙ ap Some (sym well.3.3.1)
may_come c before index Info Nemesis (AFault fault) busy agree well = tt
may_come c before index _ _ _ busy agree well = absurd well.0

-- at the process of the event the new key is open, or none; every other process is as before
after_client : (before : List Event) (e : Event) (p : ℕ) (now : Option ℕ) (busy : ℕ → Option ℕ) → Agrees busy before → ((q : ℕ) → is_of_process q (move_of e) ≡ (q == p)) → open_key (before ++ e ∷ []) p ≡ now
    → (q : ℕ) → cond (nat_eq q p) now (busy q) ≡ open_key (before ++ e ∷ []) q
after_client before e p now busy agree is new q =
    ⊎_elim
    (λ same. ap (λ b. cond b now (busy q)) (eq-eqb q p same) ∙ sym new ∙ ap (open_key (before ++ e ∷ [])) (sym same))
    (λ other. ap (λ b. cond b now (busy q)) (ne_eqb q p other) ∙ agree q
    ∙ ap (option_map (λ (x : ℕ × Op). x.1.key)) (sym (open_of-other before e q (is q ∙ ne_eqb q p other))))
    (cases_eq q p)

after : (c : ℕ) (before : List Event) (index : Option ℕ) (kind : EventKind) (process : Process) (body : Body) (busy : ℕ → Option ℕ) → Agrees busy before
    → IsWellFormed c before (record { index = index; kind = kind; process = process; body = body })
    → Agrees (busy_after busy (op_event_in kind process body)) (before ++ record { index = index; kind = kind; process = process; body = body } ∷ [])
after c before index Invoke (Client p) (AnOp op) busy agree well =
    after_client before (record { index = index; kind = Invoke; process = Client p; body = AnOp op }) p (Some op.key) busy agree (λ q. refl)
    (ap (option_map (λ (x : ℕ × Op). x.1.key)) (open_of-own before (record { index = index; kind = Invoke; process = Client p; body = AnOp op }) p (eq-eqb p p refl)))
after c before index Ok (Client p) (AnOp op) busy agree well =
    after_client before (record { index = index; kind = Ok; process = Client p; body = AnOp op }) p None busy agree (λ q. refl)
    (ap (option_map (λ (x : ℕ × Op). x.1.key)) (open_of-own before (record { index = index; kind = Ok; process = Client p; body = AnOp op }) p (eq-eqb p p refl)))
after c before index Fail (Client p) (AnOp op) busy agree well =
    after_client before (record { index = index; kind = Fail; process = Client p; body = AnOp op }) p None busy agree (λ q. refl)
    (ap (option_map (λ (x : ℕ × Op). x.1.key)) (open_of-own before (record { index = index; kind = Fail; process = Client p; body = AnOp op }) p (eq-eqb p p refl)))
after c before index Info (Client p) (AnOp op) busy agree well =
    after_client before (record { index = index; kind = Info; process = Client p; body = AnOp op }) p None busy agree (λ q. refl)
    (ap (option_map (λ (x : ℕ × Op). x.1.key)) (open_of-own before (record { index = index; kind = Info; process = Client p; body = AnOp op }) p (eq-eqb p p refl)))
after c before index Info Nemesis (AFault fault) busy agree well = λ q.
    agree q ∙ ap (option_map (λ (x : ℕ × Op). x.1.key)) (sym (open_of-other before (record { index = index; kind = Info; process = Nemesis; body = AFault fault }) q refl))
after c before index _ _ _ busy agree well = absurd well.0

come_from : (c : ℕ) (before events : List Event) (n : ℕ) (busy : ℕ → Option ℕ) → n ≡ length before → Agrees busy before → IsHistoryOf c (before ++ events) → MayComeFrom n busy (indexed_from n events)
come_from c before [] n busy len agree h = tt
come_from c before (e ∷ events) n busy len agree h =
    (let well = h before events e refl in (
      omega arith,
      may_come c before e.index e.kind e.process e.body busy agree well,
      come_from c (before ++ e ∷ []) events (n + 1) (busy_after busy (op_event e)) (let more : length (before ++ e ∷ []) ≡ length before + 1 = length-append before (e ∷ []) in omega arith)
          (after c before e.index e.kind e.process e.body busy agree well) (subst (IsHistoryOf c) (sym (append_assoc before (e ∷ []) events)) h),
    ))

pub is_history : (c : ℕ) (events : List Event) → IsHistoryOf c events → IsHistory (indexed_from 0 events)
is_history c events h = come_from c [] events 0 (λ _. None) refl (λ p. refl) h
