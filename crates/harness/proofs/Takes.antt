-- Which events are well-formed where they come
use Rattle.std.proofs.Common.{◌≡◌, ℕ, ◌<◌, ◌≤◌, Bool, true, false, ◌&&◌, nat_lt, Option, None, Some, is_some, option_map, List, [], ◌∷◌, slice_index_or, refl, sym, ap, ◌∙◌, arith}
use Rattle.std.specs.List.{All}
use Rattle.std.proofs.lemmas.Bool.{ltb-true}
use Rattle.std.proofs.lemmas.List.Sums.{AllPass-from_list_all}
use Rattle.models.specs.declared.operation.Op.{Op}
use Rattle.processes.specs.MoveRule.{current_of}
use Rattle.processes.proofs.Pushing.{thread_of_current}
use Rattle.events.specs.declared.event.Event.{Event}
use Rattle.events.specs.declared.event.Fault.{Fault}
use Rattle.events.specs.declared.event.Fault.TheVariants.{Partition, Heal, Pause, Resume, Crash, Restart, LoseReplies}
use Rattle.events.specs.Replicas.{IsReplica}
use Rattle.events.specs.Tables.{IsFault, IsPart}
use Rattle.history.specs.WellFormed.{HasRoom, IsWellFormed, moves_of, open_of, open_index}
use Rattle.history.proofs.Appending.{busy_is_open}
use Rattle.test_store.specs.Store.{IsCount, MayStrike, are_below}
use Rattle.machine.specs.Trials.{invocation, strike}

none_is_open : (o : Option (ℕ × Op)) → option_map (λ (x : ℕ × Op). x.0) o ≡ None → is_some o ≡ false
none_is_open None h = refl
none_is_open (Some x) h = cc

-- an idle thread's current process may invoke an operation with a part of its table
pub may_invoke : (c : ℕ) (events : List Event) (thread : ℕ) (op : Op) → thread < c → open_index c events thread ≡ None → HasRoom events → IsPart op.name op.part → IsWellFormed c events (invocation (current_of c (moves_of events) thread) op)
may_invoke c events thread op below none room part = (
  part,
  tt,
  room,
  (
    ap (current_of c (moves_of events)) (sym (thread_of_current c thread (moves_of events) below)),
    busy_is_open events (current_of c (moves_of events) thread) ∙ none_is_open (open_of events (current_of c (moves_of events) thread)) none,
  ),
)

both_true : (a b : Bool) → (a && b) ≡ true → (a ≡ true) × (b ≡ true)
both_true true true h = (refl, refl)
both_true true false h = cc
both_true false b h = cc

-- each number is one of a replica
all_replicas : (n : ℕ) (numbers : List ℕ) → n ≤ 7 → are_below n numbers ≡ true → All IsReplica numbers
all_replicas n numbers most below k d l = (let at : slice_index_or numbers k d < n = ltb-true _ n (AllPass-from_list_all (λ r. nat_lt r n) numbers below k d l) in omega arith)

replica : (n r : ℕ) → n ≤ 7 → are_below n (r ∷ []) ≡ true → IsReplica r
replica n r most below = (let l : r < n = ltb-true r n (both_true (nat_lt r n) true below).0 in omega arith)

-- a fault of a store's replicas may be an event
fault_is : (n : ℕ) (fault : Fault) → n ≤ 7 → MayStrike n fault → IsFault fault
fault_is n (Partition groups) most may = (all_replicas n _ most may.1, may.0)
fault_is n Heal most may = tt
fault_is n (Pause r) most may = replica n r most may.1
fault_is n (Resume r) most may = replica n r most may.1
fault_is n (Crash r) most may = replica n r most may.1
fault_is n (Restart r) most may = replica n r most may.1
fault_is n (LoseReplies k) most may = tt

pub may_strike : (c n : ℕ) (events : List Event) (fault : Fault) → IsCount n → MayStrike n fault → HasRoom events → IsWellFormed c events (strike fault)
may_strike c n events fault count may room = (fault_is n fault count.1 may, tt, room, tt)
