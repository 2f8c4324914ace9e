-- Promise: the moves after which threads stand as they do, and what calls of `Threads` do with one more move
use Rattle.std.specs.Prelude.{◌≡◌, ℕ, ◌<◌, List, [], ◌∷◌, ◌++◌, Some, length, slice_get}
use Rattle.edn.specs.declared.refusal.Refusal.{Refusal}
use Rattle.edn.specs.declared.refusal.Refusal.TheVariants.{BadConcurrency, NoMemory}
use Rattle.processes.specs.declared.threads.Thread.{Thread}
use Rattle.processes.specs.MoveRule.{Move, IsConcurrency, current_of, is_busy, FollowMoveRule, MayMove, RefusesMove}

-- a thread after moves: its current process, and whether that is busy
abbrev pub thread_after : ℕ → List Move → ℕ → Thread
thread_after c moves thread = record { process = current_of c moves thread; busy = is_busy moves (current_of c moves thread) }

-- the threads are as these moves, which follow the rule, leave them
pub record StandAfter (threads : List Thread) (moves : List Move) : Type 0 where
  pub concurrency : IsConcurrency (length threads)
  pub rule : FollowMoveRule (length threads) moves
  pub each : (t : ℕ) → t < length threads → slice_get threads t ≡ Some (thread_after (length threads) moves t)

-- some moves leave the threads as they are
abbrev pub HaveMoves : List Thread → Type 0
HaveMoves threads = (moves : List Move) × StandAfter threads moves

-- the move may come, and the new threads stand after it too
abbrev pub Moves : List Thread → Move → List Thread → Type 0
Moves old m new = (moves : List Move) → StandAfter old moves → MayMove (length old) moves m × StandAfter new (moves ++ m ∷ [])

-- the move may come
abbrev pub Allows : List Thread → Move → Type 0
Allows threads m = (moves : List Move) → StandAfter threads moves → MayMove (length threads) moves m

-- the move breaks the rule by this refusal
abbrev pub Forbids : List Thread → Move → Refusal → Type 0
Forbids threads m why = (moves : List Move) → StandAfter threads moves → RefusesMove (length threads) moves m why

-- why there are no threads
abbrev pub MayNotStart : ℕ → Refusal → Type 0
MayNotStart c BadConcurrency = ¬ IsConcurrency c
MayNotStart c NoMemory = IsConcurrency c
MayNotStart c _ = ⊥
