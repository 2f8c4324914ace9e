-- what each event makes of a matched history
use Rattle.std.proofs.Common.{◌≡◌, ◌≢◌, ◌↔◌, ℕ, ℤ, List, [], ◌∷◌, ◌++◌}
use Rattle.std.specs.List.{Contains}
use Rattle.models.specs.declared.operation.Name.TheVariants.{Dequeue}
use Rattle.models.specs.declared.operation.Op.{Op}
use Rattle.models.specs.declared.finding.Answer.{Answer}
use Rattle.models.specs.declared.finding.Answer.TheVariants.{Number}
use Rattle.events.specs.Events.{Mark}
use Rattle.events.specs.Events.Mark.{Invoked, Returned, Failed, Crashed}
use Rattle.linspec.specs.MarkRule.{AreWellFormed}
use Rattle.bag_matches.specs.Matches.{IsEnqueueOf, IsMatched}
use Rattle.bag_matches.specs.Counts.{MayDequeue, MayFail, IsBalanced}
use Rattle.bag_matches.proofs.Tests.{IsDequeue, no_both}
use Rattle.bag_matches.proofs.Prefixes.{well_front}
use Rattle.bag_matches.proofs.Matching.{matched_if_balanced, balanced_if_matched}
use Rattle.bag_matches.proofs.Events.{balanced_after_enqueue, balanced_after_dequeue, balanced_after_fail, balanced_after_invoke, balanced_after_crash, not_known}

module _ (ms : List Mark) (m : Mark) (well : AreWellFormed (ms ++ m ∷ [])) where
  before : AreWellFormed ms
  before = well_front ms (m ∷ []) well

  -- the same of matched histories as of balanced ones
  same : {P : Type 0} → IsBalanced (ms ++ m ∷ []) ↔ (IsBalanced ms × P) → IsMatched (ms ++ m ∷ []) ↔ (IsMatched ms × P)
  same is = (
    (λ h. (let b = is.0 (balanced_if_matched (ms ++ m ∷ []) well h) in (matched_if_balanced ms before b.0, b.1))),
    (λ h. matched_if_balanced (ms ++ m ∷ []) well (is.1 (balanced_if_matched ms before h.0, h.1))),
  )

  alone : IsBalanced (ms ++ m ∷ []) ↔ IsBalanced ms → IsMatched (ms ++ m ∷ []) ↔ IsMatched ms
  alone is = (
    (λ h. matched_if_balanced ms before (is.0 (balanced_if_matched (ms ++ m ∷ []) well h))),
    (λ h. matched_if_balanced (ms ++ m ∷ []) well (is.1 (balanced_if_matched ms before h))),
  )

pub matched_after_enqueue : (ms : List Mark) (id : ℕ) (answer : Answer) → AreWellFormed (ms ++ Returned id answer ∷ []) → (v : ℤ) → IsEnqueueOf ms id v → IsMatched ms → IsMatched (ms ++ Returned id answer ∷ [])
matched_after_enqueue ms id answer well v own h = matched_if_balanced (ms ++ Returned id answer ∷ []) well (balanced_after_enqueue ms id answer well v own (balanced_if_matched ms (before ms (Returned id answer) well) h))

pub matched_after_dequeue : (ms : List Mark) (id : ℕ) (v : ℤ) → AreWellFormed (ms ++ Returned id (Number v) ∷ []) → (op : Op) → Contains ms (Invoked id op) → IsDequeue op → IsMatched (ms ++ Returned id (Number v) ∷ []) ↔ (IsMatched ms × MayDequeue ms v)
matched_after_dequeue ms id v well op invoked is = same ms (Returned id (Number v)) well (balanced_after_dequeue ms id v well op invoked is)

pub no_other_answer : (ms : List Mark) (id : ℕ) (answer : Answer) → AreWellFormed (ms ++ Returned id answer ∷ []) → (op : Op) → Contains ms (Invoked id op) → op.name ≡ Dequeue → ((v : ℤ) → answer ≢ Number v) → ¬ IsMatched (ms ++ Returned id answer ∷ [])
no_other_answer ms id answer well op invoked name none h = not_known ms id answer well op invoked (λ v e. no_both op.name name e.0) (λ d. none) h.known

pub matched_after_invoke : (ms : List Mark) (id : ℕ) (op : Op) → AreWellFormed (ms ++ Invoked id op ∷ []) → IsMatched (ms ++ Invoked id op ∷ []) ↔ IsMatched ms
matched_after_invoke ms id op well = alone ms (Invoked id op) well (balanced_after_invoke ms id op well)

pub matched_after_crash : (ms : List Mark) (id : ℕ) → AreWellFormed (ms ++ Crashed id ∷ []) → IsMatched (ms ++ Crashed id ∷ []) ↔ IsMatched ms
matched_after_crash ms id well = alone ms (Crashed id) well (balanced_after_crash ms id well)

pub matched_after_fail : (ms : List Mark) (id : ℕ) → AreWellFormed (ms ++ Failed id ∷ []) → IsMatched (ms ++ Failed id ∷ []) ↔ (IsMatched ms × MayFail ms id)
matched_after_fail ms id well = same ms (Failed id) well (balanced_after_fail ms id well)
