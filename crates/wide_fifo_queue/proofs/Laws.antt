-- laws of queues whose values differ
use Rattle.std.proofs.Common.{◌≢◌, ◌↔◌, ℕ, ℤ, List, [], ◌∷◌, ◌++◌}
use Rattle.std.specs.List.{Contains}
use Rattle.models.specs.Objects.{fifo_queue}
use Rattle.models.specs.declared.operation.Op.{Op}
use Rattle.models.specs.declared.finding.Answer.{Answer}
use Rattle.models.specs.declared.finding.Answer.TheVariants.{Number}
use Rattle.events.specs.Events.{Mark}
use Rattle.events.specs.Events.Mark.{Invoked, Returned, Failed, Crashed}
use Rattle.linspec.specs.MarkRule.{AreWellFormed}
use Rattle.linspec.specs.Orders.{IsLinearizable}
use Rattle.queue_pairs.proofs.Legal as legal
use Rattle.queue_pairs.proofs.Build as build
use Rattle.queue_pairs.proofs.Oks.{paired_after_ok_of_enqueue, not_paired_after_other_ok, twins_were}
use Rattle.queue_pairs.proofs.OkOfDequeue.{paired_after_ok_of_dequeue}
use Rattle.queue_pairs.proofs.Quiet.{quiet, paired_after_fail, late_stays}
use Rattle.linspec.specs.Twins.{Enqueues, IsEnqueueOf, HasTwins}
use Rattle.queue_pairs.specs.Pairs.{Dequeues, IsPaired, TwinsAreLate, MayTake, MayFail}

pub paired_if_linearizable : (marks : List Mark) → AreWellFormed marks → TwinsAreLate marks → IsLinearizable fifo_queue marks → IsPaired marks
paired_if_linearizable marks well late h = legal.paired_if_linearizable marks well late h

pub linearizable_if_paired : (marks : List Mark) → AreWellFormed marks → TwinsAreLate marks → IsPaired marks → IsLinearizable fifo_queue marks
linearizable_if_paired marks well late paired = build.linearizable_if_paired marks well late paired

pub ok_of_enqueue : (marks : List Mark) (id : ℕ) (v : ℤ) (answer : Answer) → AreWellFormed (marks ++ Returned id answer ∷ []) → IsEnqueueOf marks id v → IsPaired (marks ++ Returned id answer ∷ []) ↔ IsPaired marks
ok_of_enqueue marks id v answer well own = paired_after_ok_of_enqueue marks id answer well v own

pub ok_of_dequeue : (marks : List Mark) (id : ℕ) (op : Op) (v : ℤ) → AreWellFormed (marks ++ Returned id (Number v) ∷ []) → Contains marks (Invoked id op) → Dequeues op
    → IsPaired (marks ++ Returned id (Number v) ∷ []) ↔ (IsPaired marks × MayTake marks id v)
ok_of_dequeue marks id op v well invoked dequeues = paired_after_ok_of_dequeue marks id op v well invoked dequeues

pub other_oks : (marks : List Mark) (id : ℕ) (op : Op) (answer : Answer) → AreWellFormed (marks ++ Returned id answer ∷ []) → Contains marks (Invoked id op)
    → ((v : ℤ) → ¬ Enqueues op v) → ((v : ℤ) → Dequeues op → answer ≢ Number v) → ¬ IsPaired (marks ++ Returned id answer ∷ [])
other_oks marks id op answer well invoked no_enqueue no_dequeue = not_paired_after_other_ok marks id answer well op invoked no_enqueue no_dequeue

pub invocation : (marks : List Mark) (id : ℕ) (op : Op) → AreWellFormed (marks ++ Invoked id op ∷ []) → IsPaired (marks ++ Invoked id op ∷ []) ↔ IsPaired marks
invocation marks id op well = quiet marks (Invoked id op) well (λ n a e. cc) (λ n e. cc)

pub crash : (marks : List Mark) (id : ℕ) → AreWellFormed (marks ++ Crashed id ∷ []) → IsPaired (marks ++ Crashed id ∷ []) ↔ IsPaired marks
crash marks id well = quiet marks (Crashed id) well (λ n a e. cc) (λ n e. cc)

pub fail : (marks : List Mark) (id : ℕ) → AreWellFormed (marks ++ Failed id ∷ []) → TwinsAreLate marks → IsPaired (marks ++ Failed id ∷ []) ↔ (IsPaired marks × MayFail marks id)
fail marks id well late = paired_after_fail marks id well late

pub twins_none : (marks : List Mark) → (¬ HasTwins marks) → TwinsAreLate marks
twins_none marks none a b v twins = absurd (none (a, b, v, twins))

pub twins_stay : (marks : List Mark) (m : Mark) → AreWellFormed (marks ++ m ∷ []) → ((id : ℕ) (answer : Answer) → m ≢ Returned id answer) → TwinsAreLate marks → TwinsAreLate (marks ++ m ∷ [])
twins_stay marks m well no_ok late = late_stays marks m well no_ok late

pub twins_ok : (marks : List Mark) (id : ℕ) (answer : Answer) → AreWellFormed (marks ++ Returned id answer ∷ []) → (¬ HasTwins marks) → ¬ HasTwins (marks ++ Returned id answer ∷ [])
twins_ok marks id answer well none twins = none (twins_were marks id answer well twins)
