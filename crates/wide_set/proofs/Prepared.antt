-- the answer to an event
use Rattle.std.proofs.Common.{◌≡◌, ◌≢◌, ◌↔◌, ℕ, ◌⊎◌, inl, inr, ⊎_elim, Bool, false, not, Some, List, [], ◌∷◌, ◌++◌, IsTrue, refl, sym, ap}
use Rattle.std.proofs.lemmas.Bool.{true≢false}
use Rattle.models.specs.declared.operation.Op.{Op}
use Rattle.models.specs.Objects.{set_of_numbers}
use Rattle.events.specs.declared.event.EventKind.{EventKind}
use Rattle.events.specs.declared.event.EventKind.TheVariants.{Invoke, Ok, Fail, Info}
use Rattle.events.specs.Events.{Mark, act_by, mark_by_act}
use Rattle.events.specs.Events.Mark.{Invoked, Returned, Failed, Crashed}
use Rattle.linspec.specs.Orders.{IsLinearizable}
use Rattle.linspec.specs.MarkRule.{MayFollow}
use Rattle.set_chains.proofs.Build.{linearizable_if_chained}
use Rattle.set_chains.proofs.Quiet.{quiet}
use Rattle.wide_set.specs.declared.change.Change.{Change}
use Rattle.wide_set.specs.declared.change.Change.TheVariants.{Dies, Invokes, Leaves, Logs, Answers}
use Rattle.wide_set.specs.Facts.{Facts, AreFacts}
use Rattle.wide_set.specs.Kept.{IsDead, StandAfter}
use Rattle.wide_set.specs.Judges.{IsAlive, kills}
use Rattle.wide_set.proofs.Tests.{not_true, is_not}
use Rattle.wide_set.proofs.Taking.{still_dead}

lives : (f : Facts) (ms : List Mark) → AreFacts f ms → IsLinearizable set_of_numbers ms
lives f ms facts = linearizable_if_chained ms facts.well facts.chained

-- a change kills, or leaves a history that is linearizable
dead_or_alive : (change : Change) (f : Facts) (ms : List Mark) → StandAfter change f ms → ((change ≡ Dies) × IsDead ms) ⊎ ((change ≢ Dies) × IsLinearizable set_of_numbers ms)
dead_or_alive Dies f ms h = inl (refl, h)
dead_or_alive (Invokes p) f ms h = inr ((λ e. cc), lives _ ms h)
dead_or_alive (Leaves id) f ms h = inr ((λ e. cc), lives _ ms h)
dead_or_alive (Logs id a) f ms h = inr ((λ e. cc), lives _ ms h)
dead_or_alive (Answers id at a) f ms h = inr ((λ e. cc), lives _ ms h)

module _ (f : Facts) (ms : List Mark) (facts : AreFacts f ms) (change : Change) (b : Bool) (is : IsTrue b ↔ (Some change ≡ Some Dies)) where
  not_dead : change ≢ Dies → IsTrue (not b)
  not_dead ne = is_not b (λ e. (let q : Some change ≡ Some Dies = is.0 e in let r : change ≡ Dies = cc in ne r))

  decides : (m : Mark) → StandAfter change f (ms ++ m ∷ []) → IsTrue (not b) ↔ IsLinearizable set_of_numbers (ms ++ m ∷ [])
  decides m h = ⊎_elim
      (λ d. ((λ t. absurd (not_true b t (is.1 (ap Some d.0)))), (λ l. absurd (d.1.1 l))))
      (λ a. ((λ t. a.1), (λ l. not_dead a.0)))
      (dead_or_alive change f (ms ++ m ∷ []) h)

  pub alive_of : (m : Mark) → StandAfter change f (ms ++ m ∷ []) → IsAlive ms m (not b)
  alive_of (Returned id answer) h = decides (Returned id answer) h
  alive_of (Failed id) h = decides (Failed id) h
  alive_of (Invoked id op) h = ⊎_elim
      (λ d. absurd (d.1.1 (linearizable_if_chained (ms ++ Invoked id op ∷ []) d.1.0 ((quiet ms (Invoked id op) d.1.0 (λ n a q. cc) (λ n q. cc)).1 facts.chained))))
      (λ a. not_dead a.0)
      (dead_or_alive change f (ms ++ Invoked id op ∷ []) h)
  alive_of (Crashed id) h = ⊎_elim
      (λ d. absurd (d.1.1 (linearizable_if_chained (ms ++ Crashed id ∷ []) d.1.0 ((quiet ms (Crashed id) d.1.0 (λ n a q. cc) (λ n q. cc)).1 facts.chained))))
      (λ a. not_dead a.0)
      (dead_or_alive change f (ms ++ Crashed id ∷ []) h)

-- a dead history stays dead
no_more : (ms : List Mark) (m : Mark) → IsDead ms → MayFollow ms m → IsTrue false ↔ IsLinearizable set_of_numbers (ms ++ m ∷ [])
no_more ms m dead may = ((λ t. absurd (true≢false (sym t))), (λ l. absurd ((still_dead ms m dead may).1 l)))

pub answer_of_dead : (kind : EventKind) (id : ℕ) (op : Op) (ms : List Mark) → IsDead ms → MayFollow ms (mark_by_act id id (act_by kind op)) → IsAlive ms (mark_by_act id id (act_by kind op)) (not (kills kind))
answer_of_dead Invoke id op ms dead may = refl
answer_of_dead Ok id op ms dead may = no_more ms _ dead may
answer_of_dead Fail id op ms dead may = no_more ms _ dead may
answer_of_dead Info id op ms dead may = refl
