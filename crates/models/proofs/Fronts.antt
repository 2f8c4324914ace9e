-- the results of the table of a queue, by its front
use Rattle.std.proofs.Common.{◌≡◌, ◌<◌, ℤ, pos, List, [], ◌∷◌, get_or, length, drop, refl, arith}
use Rattle.models.specs.declared.operation.Name.TheVariants.{Dequeue}
use Rattle.models.specs.declared.operation.Part.TheVariants.{Nil}
use Rattle.models.specs.declared.finding.Found.TheVariants.{Item}
use Rattle.models.specs.Objects.{queue_apply}

pub dequeue_none : (s : List ℤ) → length s ≡ 0 → queue_apply Dequeue Nil s ≡ []
dequeue_none [] none = refl
dequeue_none (x ∷ s) none = absurd (omega arith)

pub dequeue_some : (s : List ℤ) → 0 < length s → queue_apply Dequeue Nil s ≡ (drop 1 s, Item (get_or s 0 (pos 0))) ∷ []
dequeue_some [] some = absurd (omega arith)
dequeue_some (x ∷ s) some = refl
