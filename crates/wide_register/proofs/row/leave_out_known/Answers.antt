use Rattle.std.proofs.Common.{◌<◌, ◌≢◌, Some, ⊎_elim, rules}
use Rattle.wide_register.specs.declared.row.Passed.{Passed}
use Rattle.wide_register.proofs.Retained.{stays_from, stays_or}
use Rattle.wide_register.proofs.row.leave_out_known.Goals as goal

pub returns : goal.returns
returns c p = (
  (λ h. (let k = stays_from _ _ (λ (q : Passed). (0 < q.gap) × (c.args.state ≢ Some q.value)) (λ (q : Passed). ¬ ((0 < q.gap) × (c.args.state ≢ Some q.value))) (λ x b g k. search rules) _ _ c.retain.ensures.filtered p h in (k.0, k.1.0, k.1.1))),
  (λ h. ⊎_elim
      (λ k. k)
      (λ n. absurd (n (h.1, h.2)))
      (stays_or _ _ (λ (q : Passed). (0 < q.gap) × (c.args.state ≢ Some q.value)) (λ (q : Passed). ¬ ((0 < q.gap) × (c.args.state ≢ Some q.value))) (λ x b g k. search rules) _ _ c.retain.ensures.filtered p h.0)),
)
