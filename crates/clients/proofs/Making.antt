-- The calls of a seat, one after the other, and what clients and the nemesis do by them.
use Rattle.std.proofs.Common.{◌≡◌, ◌⊎◌, ℕ, ◌≤◌, [], ◌∷◌, ◌++◌, length, Option, Some, None, Ok, Err, refl, sym, subst, ◌∙◌, inl, inr, arith}
use Rattle.std.specs.Result.{result_err}
use Rattle.edn.specs.declared.refusal.Refusal.{Refusal}
use Rattle.edn.specs.declared.refusal.Refusal.TheVariants.{NotOpen, HistoryFull, TapeFull, NoMemory, Stale}
use Rattle.machine.specs.declared.command.Command.{Command}
use Rattle.machine.specs.declared.command.Command.TheVariants.{Nemesis}
use Rattle.machine.specs.declared.command.Reply.{Reply}
use Rattle.machine.specs.declared.command.Reply.TheVariants.{Drawn, Pending}
use Rattle.machine.specs.Machine.{MayStep}
use Rattle.harness.specs.CoreView.{MayWantMemory}
use Rattle.board.specs.declared.tape.TapeEntry.TheVariants.{Call}
use Rattle.board.specs.Tape.{IsNoEntry}
use Rattle.board.specs.CoreTape.{CoreReply, CoreTape}
use Rattle.board.proofs.Prefixes.{prefix_self, prefix_trans}
use Rattle.clients.specs.declared.client.Next.{Next}
use Rattle.clients.specs.declared.client.Next.TheVariants.{Draw, End}
use Rattle.clients.specs.Calls.{CoreSeat, Calls, MadeNone, MadeOne, HasMade, MayBeNoCall, IsTold}
use Rattle.clients.specs.Plays.{Stage, draws, has_ended, gives_up, IsNext, after_reply, after_refusal, after_answer, Plays, IsOfRun, AreStrikes, HasPlayed, HasStruck}
use Rattle.clients.specs.Playing.{RefusesRun, IsAfterRefusal, StandsAt, CameFrom, AsksOnce, GoesOnStriking}

pub none_self : (s : CoreSeat) → MadeNone s s
none_self s = record { number = refl; seen = prefix_self s.tape; count = refl }

pub none_none : (a b c : CoreSeat) → MadeNone a b → MadeNone b c → MadeNone a c
none_none a b c p q = record {
  number = q.number ∙ p.number;
  seen = prefix_trans a.tape b.tape c.tape p.seen q.seen;
  count = q.count ∙ p.count;
}

none_one : (a b c : CoreSeat) (command : Command) (reply : CoreReply) → MadeNone a b → MadeOne b c command reply → MadeOne a c command reply
none_one a b c command reply p q = record {
  number = q.number ∙ p.number;
  entry = (q.entry.0, prefix_trans a.tape b.tape q.entry.0 p.seen q.entry.1, subst (λ (n : ℕ). c.tape ≡ q.entry.0 ++ Call n command reply ∷ []) p.number q.entry.2);
  count = omega (arith, p.count, q.count);
}

pub none_then : (a b c : CoreSeat) (calls : Calls) → MadeNone a b → HasMade b calls c → HasMade a calls c
none_then a b c [] p q = none_none a b c p q
none_then a b c (call ∷ calls) p q = (q.0, none_one a b q.0 call.0 call.1 p q.1, q.2)

then_none : (a b c : CoreSeat) (calls : Calls) → HasMade a calls b → MadeNone b c → HasMade a calls c
then_none a b c [] p q = none_none a b c p q
then_none a b c (call ∷ calls) p q = (p.0, p.1, then_none p.0 b c calls p.2 q)

made_then : (a b c : CoreSeat) (xs ys : Calls) → HasMade a xs b → HasMade b ys c → HasMade a (xs ++ ys) c
made_then a b c [] ys p q = none_then a b c ys p q
made_then a b c (call ∷ xs) ys p q = (p.0, p.1, made_then p.0 b c xs ys p.2 q)

-- a call that adds no entry says so
pub told_none : (whole before after : CoreTape) (command : Command) (why : Refusal) → IsNoEntry MayStep MayWantMemory why whole command before after → MayBeNoCall (Err why)
told_none whole before after command TapeFull cause = tt
told_none whole before after command NoMemory cause = tt
told_none whole before after command why cause = absurd cause

-- Clients

plays_then : (thread : ℕ) (s t u : Stage) (xs ys : Calls) → Plays thread s xs t → Plays thread t ys u → Plays thread s (xs ++ ys) u
plays_then thread s t u [] ys p q = subst (λ (v : Stage). Plays thread v ys u) (sym p) q
plays_then thread s t u (call ∷ xs) ys p q = (p.0, plays_then thread (after_answer s call.1) t u xs ys p.1 q)

-- a client that is to draw goes on
pub came_then : (thread : ℕ) (from : Stage) (a b c : CoreSeat) (next : Next) → CameFrom thread from a b Draw → CameFrom thread draws b c next → CameFrom thread from a c next
came_then thread from a b c next p q = (
  p.0 ++ q.0,
  made_then a b c p.0 q.0 p.1 q.1,
  (q.2.0, plays_then thread from p.2.0 q.2.0 p.0 q.0 p.2.1 (subst (λ (v : Stage). Plays thread v q.0 q.2.0) (sym p.2.2) q.2.1), q.2.2),
)

-- it is where it was
pub came_none : (thread : ℕ) (a b : CoreSeat) → MadeNone a b → CameFrom thread draws a b Draw
came_none thread a b none = ([], none, (draws, refl, refl))

-- nothing was drawn, and it has nothing more to do
pub came_to_none : (thread : ℕ) (s : CoreSeat) (drawn : Reply) → ((ticket index : ℕ) → ¬ (drawn ≡ Drawn ticket index)) → ¬ (drawn ≡ Pending)
    → CameFrom thread (after_reply draws drawn) s s (End None)
came_to_none thread s (Drawn ticket index) a b = absurd (a ticket index refl)
came_to_none thread s Pending a b = absurd (b refl)
came_to_none thread s drawn a b = ([], none_self s, (has_ended, refl, inl refl))

-- its call was answered, and it went on from there
pub answered : (thread : ℕ) (stage : Stage) (a b c : CoreSeat) (command : Command) (reply : Reply) (result : CoreReply) (next : Next) → IsNext thread stage command
    → result ≡ Ok reply → IsTold a command result b → CameFrom thread (after_reply stage reply) b c next → CameFrom thread stage a c next
answered thread stage a b c command reply result next is e told rest = go (subst (λ (r : CoreReply). IsTold a command r b) e told) where
  go : IsTold a command (Ok reply) b → CameFrom thread stage a c next
  go (inl one) = ((command, Ok reply) ∷ rest.0, (b, one, rest.1), (rest.2.0, (is, rest.2.1), rest.2.2))
  go (inr none) = absurd none.1

stands_after : (why : Refusal) (next : Next) → IsAfterRefusal why next → StandsAt (after_refusal why) next
stands_after NotOpen next e = subst (λ (n : Next). StandsAt draws n) (sym e) refl
stands_after Stale next e = subst (λ (n : Next). StandsAt draws n) (sym e) refl
stands_after HistoryFull next e = subst (λ (n : Next). StandsAt gives_up n) (sym e) (inr tt)
stands_after TapeFull next e = subst (λ (n : Next). StandsAt gives_up n) (sym e) (inr tt)
stands_after NoMemory next e = subst (λ (n : Next). StandsAt gives_up n) (sym e) (inr tt)
stands_after why next e = subst (λ (n : Next). StandsAt has_ended n) (sym e) (inl refl)

stands_lost : (stage : Stage) (why : Refusal) (next : Next) → MayBeNoCall (Err why) → IsAfterRefusal why next → StandsAt stage next
stands_lost stage TapeFull next may e = subst (λ (n : Next). StandsAt stage n) (sym e) (inr tt)
stands_lost stage NoMemory next may e = subst (λ (n : Next). StandsAt stage n) (sym e) (inr tt)
stands_lost stage why next may e = absurd may

-- it goes on from where it draws
pub came_on : (thread : ℕ) (a b c : CoreSeat) (next then_next : Next) → CameFrom thread draws a b next → next ≡ Draw → CameFrom thread draws b c then_next
    → CameFrom thread draws a c then_next
came_on thread a b c next then_next p is q = came_then thread draws a b c then_next (subst (λ (n : Next). CameFrom thread draws a b n) is p) q

pub came_as : (thread : ℕ) (a b : CoreSeat) (next other : Next) → CameFrom thread draws a b next → next ≡ other → CameFrom thread draws a b other
came_as thread a b next other p is = subst (λ (n : Next). CameFrom thread draws a b n) is p

pub after_others : (why : Refusal) → ¬ (why ≡ NotOpen) → ¬ (why ≡ Stale) → IsAfterRefusal why (End (Some why))
after_others NotOpen a b = absurd (a refl)
after_others Stale a b = absurd (b refl)
after_others why a b = refl

pub heard : (why : Refusal) → ¬ (why ≡ HistoryFull) → ¬ (why ≡ TapeFull) → ¬ (why ≡ NoMemory) → ¬ RefusesRun (Some why)
heard HistoryFull a b c lost = a refl
heard TapeFull a b c lost = b refl
heard NoMemory a b c lost = c refl
heard why a b c lost = lost

-- its call was refused
pub refused : (thread : ℕ) (stage : Stage) (a b : CoreSeat) (command : Command) (why : Refusal) (result : CoreReply) (next : Next) → IsNext thread stage command
    → result ≡ Err why → IsTold a command result b → IsAfterRefusal why next → CameFrom thread stage a b next
refused thread stage a b command why result next is e told after = go (subst (λ (r : CoreReply). IsTold a command r b) e told) where
  go : IsTold a command (Err why) b → CameFrom thread stage a b next
  go (inl one) = ((command, Err why) ∷ [], (b, one, none_self b), (after_refusal why, (is, refl), stands_after why next after))
  go (inr none) = ([], none.0, (stage, refl, stands_lost stage why next none.1 after))

-- nothing refuses no run
pub spares : (o : Option Refusal) → ((why : Refusal) → ¬ (o ≡ Some why)) → ¬ RefusesRun o
spares None none lost = lost
spares (Some why) none lost = none why refl

-- if none of the refusals of a run occurs, it came to its end
pub has_played : (thread : ℕ) (old begun new : CoreSeat) (why : Option Refusal) → MadeNone old begun → 2 ≤ length begun.tape
    → CameFrom thread draws begun new (End why) → ¬ RefusesRun why → HasPlayed thread old new
has_played thread old begun new why none seen came heard = (begun, none, seen, (came.0, came.1, to_end came.2.2)) where
  to_end : (came.2.0 ≡ has_ended) ⊎ RefusesRun why → Plays thread draws came.0 has_ended
  to_end (inl is) = subst (λ (s : Stage). Plays thread draws came.0 s) is came.2.1
  to_end (inr lost) = absurd (heard lost)

-- The nemesis

strikes_then : (xs ys : Calls) → AreStrikes xs → AreStrikes ys → AreStrikes (xs ++ ys)
strikes_then [] ys p q = q
strikes_then (call ∷ xs) ys p q = (p.0, p.1, strikes_then xs ys p.2 q)

pub struck_self : (s : CoreSeat) → GoesOnStriking s s
struck_self s = ([], none_self s, tt)

pub struck_then : (a b c : CoreSeat) → GoesOnStriking a b → GoesOnStriking b c → GoesOnStriking a c
struck_then a b c p q = (p.0 ++ q.0, made_then a b c p.0 q.0 p.1 q.1, strikes_then p.0 q.0 p.2 q.2)

pub struck_none : (a b c : CoreSeat) → GoesOnStriking a b → MadeNone b c → GoesOnStriking a c
struck_none a b c p q = (p.0, then_none a b c p.0 p.1 q, p.2)

struck_by : (a b : CoreSeat) (reply : CoreReply) → ((why : Refusal) → reply ≡ Err why → ¬ IsOfRun why) → IsTold a Nemesis reply b → GoesOnStriking a b
struck_by a b reply fine (inl one) = ((Nemesis, reply) ∷ [], (b, one, none_self b), (refl, fine, tt))
struck_by a b reply fine (inr none) = ([], none.0, tt)

-- it was answered; or refused, but not by a refusal of the run
pub struck_well : (a b : CoreSeat) (result : CoreReply) (reply : Reply) → result ≡ Ok reply → IsTold a Nemesis result b → GoesOnStriking a b
struck_well a b result reply is told = struck_by a b result (λ why e. absurd (cc (sym is ∙ e))) told

pub struck_in_vain : (a b : CoreSeat) (result : CoreReply) (why : Refusal) → result ≡ Err why → ¬ IsOfRun why → IsTold a Nemesis result b → GoesOnStriking a b
struck_in_vain a b result why is fine told = struck_by a b result (λ other e. (let same : why ≡ other = cc (sym is ∙ e) in subst (λ (w : Refusal). ¬ IsOfRun w) same fine)) told

no_call_lost : (why : Refusal) → MayBeNoCall (Err why) → IsOfRun why
no_call_lost TapeFull may = tt
no_call_lost NoMemory may = tt
no_call_lost why may = absurd may

-- its first ask is a call, where the run is not refused for the answer
pub asked_once : (a b : CoreSeat) (reply : CoreReply) → ¬ RefusesRun (result_err reply) → IsTold a Nemesis reply b → AsksOnce a b
asked_once a b (Ok reply) fine (inl one) = (Ok reply, one, λ why e. absurd (cc e))
asked_once a b (Ok reply) fine (inr none) = absurd none.1
asked_once a b (Err why) fine (inl one) = (Err why, one, λ other e. (let same : why ≡ other = cc e in subst (λ (w : Refusal). ¬ IsOfRun w) same fine))
asked_once a b (Err why) fine (inr none) = absurd (fine (no_call_lost why none.1))

-- and then it went on
pub struck_on : (a b c : CoreSeat) → AsksOnce a b → GoesOnStriking b c → HasStruck a c
struck_on a b c p q = ((Nemesis, p.0) ∷ q.0, (b, p.1, q.1), (refl, p.2, q.2), omega arith)
