-- A process that makes its move carries its thread on; and what the threads answer to an invocation is the rule's answer
use Rattle.std.proofs.Common.{◌≡◌, ℕ, List, Result, Ok, Err, length, OnOk, IfErr, subst}
use Rattle.edn.specs.declared.refusal.Refusal.{Refusal}
use Rattle.processes.specs.declared.threads.Thread.{Thread}
use Rattle.processes.specs.MoveRule.{Move, MayMove, RefusesMove}
use Rattle.processes.specs.MoveRule.Move.{Invokes}
use Rattle.processes.specs.Threads.{StandAfter, Moves, Allows, Forbids}
use Rattle.processes.proofs.Refused.{none as never}
use Rattle.models.specs.declared.operation.Op.{Op}
use Rattle.events.specs.declared.event.EventKind.TheVariants.{Invoke}
use Rattle.events.specs.declared.event.Event.{Event}
use Rattle.history.specs.WellFormed.{moves_of, FollowsRule, BreaksRule}
use Rattle.history.specs.HistoryInvariant.{CarriesOn}

pub carried : {U : Type 0} (r : Result U Refusal) (old new : List Thread) (m : Move) → length new ≡ length old → OnOk r (Moves old m new) → IfErr r (Forbids old m) → CarriesOn old m new
carried (Ok u) old new m number moves forbids = (number, λ l stand may. (moves l stand).1)
carried (Err why) old new m number moves forbids = (number, λ l stand may. absurd (never (length old) l m why may (forbids l stand)))

pub may_invoke : {U : Type 0} (r : Result U Refusal) (c : ℕ) (events : List Event) (threads : List Thread) (p : ℕ) (op : Op) → length threads ≡ c → StandAfter threads (moves_of events) → OnOk r (Allows threads (Invokes p))
    → OnOk r (FollowsRule c events Invoke p op)
may_invoke (Ok u) c events threads p op number stand allows = subst (λ k. MayMove k (moves_of events) (Invokes p)) number (allows (moves_of events) stand)
may_invoke (Err why) c events threads p op number stand allows = tt

pub may_not_invoke : {U : Type 0} (r : Result U Refusal) (c : ℕ) (events : List Event) (threads : List Thread) (p : ℕ) (op : Op) → length threads ≡ c → StandAfter threads (moves_of events) → IfErr r (Forbids threads (Invokes p))
    → IfErr r (BreaksRule c events Invoke p op)
may_not_invoke (Ok u) c events threads p op number stand forbids = tt
may_not_invoke (Err why) c events threads p op number stand forbids = subst (λ k. RefusesMove k (moves_of events) (Invokes p) why) number (forbids (moves_of events) stand)
