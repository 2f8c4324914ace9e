-- No version is greater than the number of tickets that were served
use Rattle.std.proofs.Common.{◌≡◌, ℕ, zero, suc, ◌+◌, ◌<◌, ◌≤◌, Bool, true, false, if◌then◌else◌, is_some, nat_lt, Option, Some, None, List, [], ◌∷◌, ◌++◌, length, length-append, map, slice_get, slice_set, refl, sym, ap, ◌∙◌, subst, arith, Result, Ok, Err}
use Rattle.std.proofs.lemmas.Option.{same_Some}
use Rattle.std.proofs.lemmas.List.{length-map}
use Rattle.edn.specs.declared.refusal.Refusal.{Refusal}
use Rattle.events.specs.declared.event.Fault.{Fault}
use Rattle.generators.specs.declared.item.Item.TheVariants.{Op as AnOp}
use Rattle.generators.specs.declared.item.Asker.TheVariants.{Thread}
use Rattle.generators.specs.declared.item.Drawn.{Drawn}
use Rattle.generators.specs.declared.item.Drawn.TheVariants.{Op as Gets, Pending, Done}
use Rattle.test_store.specs.declared.outcome.Outcome.{Outcome}
use Rattle.test_store.specs.Store.{Cluster, VersionsWithin}
use Rattle.test_store.proofs.Versions.{serve_versions, fault_versions}
use Rattle.machine.specs.declared.ticket.Ticket.{Ticket}
use Rattle.machine.specs.Trials as trials
use Rattle.machine.specs.Trials.{Trial, MayMove, served_as, completion}
use Rattle.machine.specs.Trials.Move.{Draws, Serves, Finishes, Strikes, Stays}
use Rattle.machine.specs.declared.command.Command.{Command}
use Rattle.machine.specs.declared.command.Command.TheVariants.{Append, Rewind, SetModel, SetBudget, Verdict as Ask, Draw, Serve, Finish, Nemesis}
use Rattle.machine.specs.declared.command.Reply.{Reply}
use Rattle.machine.specs.declared.command.Reply.TheVariants.{Verdict as Says, Drawn as HasDrawn, Pending as IsPending, Done as IsDone, Served, Fault as Struck}
use Rattle.linspec.specs.JudgedHistory.{with_kind, with_budget}
use Rattle.machine.specs.Machine.{Machine, most_tickets, stale_from, current_process, appended, cut_to, invoked_by, with_served, struck_by, Gives, Replies, MayStep}
use Rattle.machine.specs.Tickets.{served_of}
use Rattle.machine.proofs.Moves.{trial_of, IsMove, is_move, MovedOn, moved_on, given, next_fault}

abbrev one_if : Bool → ℕ
one_if b = if b then 1 else 0

length_set : (tickets : List Ticket) (k : ℕ) (t : Ticket) → length (slice_set tickets k t) ≡ length tickets
length_set [] k t = refl
length_set (x ∷ tickets) zero t = refl
length_set (x ∷ tickets) (suc k) t = ap suc (length_set tickets k t)

served-push : (tickets : List Ticket) (t : Ticket) → t.outcome ≡ None → served_of (tickets ++ t ∷ []) ≡ served_of tickets
served-push [] t none = (let z : one_if (is_some t.outcome) ≡ 0 = ap (λ o. one_if (is_some o)) none in omega arith)
served-push (x ∷ tickets) t none = ap (λ n. one_if (is_some x.outcome) + n) (served-push tickets t none)

served-set : (tickets : List Ticket) (k : ℕ) (t : Ticket) (outcome : Outcome) → slice_get tickets k ≡ Some t → t.outcome ≡ None → served_of (slice_set tickets k (served_as outcome t)) ≡ served_of tickets + 1
served-set [] k t outcome at none = cc
served-set (x ∷ tickets) zero t outcome at none =
    (let z : one_if (is_some x.outcome) ≡ 0 = ap (λ (w : Ticket). one_if (is_some w.outcome)) (same_Some x t at) ∙ ap (λ o. one_if (is_some o)) none in
    let all : 1 + served_of tickets ≡ one_if (is_some x.outcome) + served_of tickets + 1 = omega arith in all)
served-set (x ∷ tickets) (suc k) t outcome at none =
    (let rest : served_of (slice_set tickets k (served_as outcome t)) ≡ served_of tickets + 1 = served-set tickets k t outcome at none in
    let all : one_if (is_some x.outcome) + served_of (slice_set tickets k (served_as outcome t)) ≡ one_if (is_some x.outcome) + served_of tickets + 1 = omega arith in all)

stale_one : (n : ℕ) (t : Ticket) (b : Bool) → one_if (is_some (if b then t else record t { stale = true }).outcome) ≡ one_if (is_some t.outcome)
stale_one n t true = refl
stale_one n t false = refl

served-stale : (n : ℕ) (tickets : List Ticket) → served_of (map (stale_from n) tickets) ≡ served_of tickets
served-stale n [] = refl
served-stale n (t ∷ tickets) = ap (λ m. m + served_of (map (stale_from n) tickets)) (stale_one n t (nat_lt t.index n)) ∙ ap (λ m. one_if (is_some t.outcome) + m) (served-stale n tickets)

one_if-le : (b : Bool) → one_if b ≤ 1
one_if-le true = omega arith
one_if-le false = omega arith

pub served-le : (tickets : List Ticket) → served_of tickets ≤ length tickets
served-le [] = omega arith
served-le (t ∷ tickets) =
    (let a : one_if (is_some t.outcome) ≤ 1 = one_if-le (is_some t.outcome) in
    let b : served_of tickets ≤ length tickets = served-le tickets in
    let all : one_if (is_some t.outcome) + served_of tickets ≤ suc (length tickets) = omega arith in all)

-- the versions of a store are at most the serves
abbrev AreCounted : Cluster → List Ticket → Type 0
AreCounted store tickets = VersionsWithin store (served_of tickets)

to_trial : (old new : Trial) → new ≡ old → AreCounted old.store old.tickets → AreCounted new.store new.tickets
to_trial old new is h = subst (λ (m : Trial). AreCounted m.store m.tickets) (sym is) h

counted_move : (old new : Trial) (move : trials.Move) → AreCounted old.store old.tickets → MayMove old move new → AreCounted new.store new.tickets
counted_move old new (Draws thread op) h may = subst (λ (m : Trial). AreCounted m.store m.tickets) (sym may.1) (subst (VersionsWithin old.store) (sym (served-push old.tickets _ refl)) h)
counted_move old new (Serves number outcome) h may =
    subst (λ (m : Trial). AreCounted m.store m.tickets) (sym may.4.2)
    (subst (VersionsWithin may.4.0) (sym (served-set old.tickets number may.0 outcome may.1 may.2)) (serve_versions old.store may.4.0 _ may.0.op outcome (served_of old.tickets) may.4.1 h))
counted_move old new (Finishes number) h may = subst (λ (m : Trial). AreCounted m.store m.tickets) (sym may.6) h
counted_move old new (Strikes fault) h may = subst (λ (m : Trial). AreCounted m.store m.tickets) (sym may.1) (fault_versions fault old.store (served_of old.tickets) h)
counted_move old new Stays h may = to_trial old new may h

to : (m new : Machine) → new ≡ m → AreCounted m.store m.tickets → AreCounted new.store new.tickets
to m new is h = subst (λ (x : Machine). AreCounted x.store x.tickets) (sym is) h

by_move : (old new : Machine) (served : Option ℕ) → IsMove old new served → AreCounted old.store old.tickets → AreCounted new.store new.tickets
by_move old new served m h = counted_move (trial_of old) (trial_of new) m.move h m.may

counted_reply : (old new : Machine) (command : Command) (reply : Reply) → Replies old command reply new → AreCounted old.store old.tickets → AreCounted new.store new.tickets
counted_reply old new (Append event) (Says v) may h = to (appended event old) new may.1 h
counted_reply old new (Rewind n) (Says v) may h = to (cut_to n old) new may.1 (subst (VersionsWithin old.store) (sym (served-stale n old.tickets)) h)
counted_reply old new (SetModel key kind) (Says v) may h = to (record old { judged = with_kind key kind old.judged }) new may.0 h
counted_reply old new (SetBudget key n) reply may h = by_move old new _ (is_move old new (SetBudget key n) (Ok reply) tt may) h
counted_reply old new Ask reply may h = by_move old new _ (is_move old new Ask (Ok reply) tt may) h
counted_reply old new (Draw thread) reply may h = by_move old new _ (is_move old new (Draw thread) (Ok reply) tt may) h
counted_reply old new (Serve number) reply may h = by_move old new _ (is_move old new (Serve number) (Ok reply) tt may) h
counted_reply old new (Finish number) reply may h = by_move old new _ (is_move old new (Finish number) (Ok reply) tt may) h
counted_reply old new Nemesis reply may h = by_move old new _ (is_move old new Nemesis (Ok reply) tt may) h
counted_reply old new command reply may h = absurd may

-- after any step the versions of the store are at most the serves
pub counted_step : (old new : Machine) (command : Command) (outcome : Result Reply Refusal) → MayStep old command outcome new → AreCounted old.store old.tickets → AreCounted new.store new.tickets
counted_step old new command (Ok reply) may h = counted_reply old new command reply may h
counted_step old new command (Err why) may h = to old new may.1 h

-- there are never more than 2^32 - 1 tickets
abbrev HasFew : Machine → Type 0
HasFew m = length m.tickets ≤ most_tickets

few_in : (m new : Machine) → new ≡ m → HasFew m → HasFew new
few_in m new is h = subst HasFew (sym is) h

few_declined : (old new : Machine) (thread : ℕ) (drawn : Drawn) → Gives old (Thread thread) drawn new → HasFew old → HasFew new
few_declined old new thread drawn gives h = (let m : MovedOn old new = given old new (Thread thread) drawn gives in few_in (moved_on old new m) new m.3 h)

few_struck : (old new after : Machine) (fault : Fault) → MovedOn old after → new ≡ struck_by fault after → HasFew old → HasFew new
few_struck old new after fault m is h = few_in (struck_by fault (moved_on old after m)) new (is ∙ ap (struck_by fault) m.3) h

few_drawn : (tickets : List Ticket) (t : Ticket) → length tickets < most_tickets → length (tickets ++ t ∷ []) ≤ most_tickets
few_drawn tickets t l = (let more : length (tickets ++ t ∷ []) ≡ length tickets + 1 = length-append tickets (t ∷ []) in omega arith)

few_reply : (old new : Machine) (command : Command) (reply : Reply) → Replies old command reply new → HasFew old → HasFew new
few_reply old new (Append event) (Says v) may h = few_in (appended event old) new may.1 h
few_reply old new (Rewind n) (Says v) may h = few_in (cut_to n old) new may.1 (subst (λ n. n ≤ most_tickets) (sym (length-map old.tickets (stale_from n))) h)
few_reply old new (SetModel key kind) (Says v) may h = few_in (record old { judged = with_kind key kind old.judged }) new may.0 h
few_reply old new (SetBudget key n) (Says v) may h = few_in (record old { judged = with_budget key n old.judged }) new may.1 h
few_reply old new Ask (Says v) may h = few_in old new may.0 h
few_reply old new (Draw thread) (HasDrawn ticket index) may h =
    (let m : MovedOn old may.3.1 = given old may.3.1 (Thread thread) (Gets (AnOp may.3.0)) may.3.2 in
    few_in (invoked_by thread (current_process old thread) may.3.0 (moved_on old may.3.1 m)) new (may.3.4 ∙ ap (invoked_by thread (current_process old thread) may.3.0) m.3) (few_drawn old.tickets _ may.0.3))
few_reply old new (Draw thread) IsPending may h = few_declined old new thread Pending may.1 h
few_reply old new (Draw thread) IsDone may h = few_declined old new thread Done may.1 h
few_reply old new (Serve number) (Served outcome) may h =
    few_in (with_served number may.0 outcome may.2.2.0 old) new may.2.2.2 (subst (λ n. n ≤ most_tickets) (sym (length_set old.tickets number (served_as outcome may.0))) h)
few_reply old new (Finish number) (Says v) may h = few_in (appended (completion may.0.0.process may.0.0.op may.0.2.0) old) new may.0.2.4 h
few_reply old new Nemesis (Struck fault index) may h = few_struck old new may.1.0 fault (next_fault old may.1.0 fault may.1.1) may.1.3 h
few_reply old new command reply may h = absurd may

pub few_step : (old new : Machine) (command : Command) (outcome : Result Reply Refusal) → MayStep old command outcome new → HasFew old → HasFew new
few_step old new command (Ok reply) may h = few_reply old new command reply may h
few_step old new command (Err why) may h = few_in old new may.1 h
