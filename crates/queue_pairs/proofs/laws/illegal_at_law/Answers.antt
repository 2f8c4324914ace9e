use Rattle.std.proofs.Common.{⊎_elim, [], ◌∷◌, ◌++◌}
use Rattle.queue_pairs.proofs.Budgets.{late_next, late_if_linearizable, late_if_paired}
use Rattle.queue_pairs.proofs.BadPrefixes.{ends_bad_prefix, bad_prefix_ends}
use Rattle.queue_pairs.proofs.laws.illegal_at_law.Goals as goal

pub returns-clause-late : goal.returns-clause-late
returns-clause-late c entries last well late = (
  bad_prefix_ends entries well (λ f is h. late f is) (λ f e is now legal. late (f ++ e ∷ []) is) last,
  λ h. ends_bad_prefix entries well (λ f is k. late f is) (λ f e is now legal. late (f ++ e ∷ []) is) h.0 last h.1 h.2 h.3,
)

pub returns-clause-within : goal.returns-clause-within
returns-clause-within c entries budget last well within = (
  bad_prefix_ends entries well (λ f is h. ⊎_elim (late_if_paired entries budget well within f is) (late_if_linearizable entries budget well within f is) h) (late_next entries budget well within) last,
  λ h. ends_bad_prefix entries well (λ f is k. ⊎_elim (late_if_paired entries budget well within f is) (late_if_linearizable entries budget well within f is) k) (late_next entries budget well within) h.0 last h.1 h.2 h.3,
)
