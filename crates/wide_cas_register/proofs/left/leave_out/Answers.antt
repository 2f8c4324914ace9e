use Rattle.std.proofs.Common.{rules}
use Rattle.wide_cas_register.specs.declared.row.Row.{Row}
use Rattle.wide_cas_register.specs.Facts.{IsAtMostBy}
use Rattle.wide_cas_register.proofs.Retained.{stays_from, stays_or, pairs_stay}
use Rattle.wide_cas_register.proofs.left.leave_out.Goals as goal

pub returns : goal.returns
returns c = record {
  each = stays_from _ _ (λ (r : Row). ¬ IsAtMostBy c.args.calls.now r c.args.row.now) (λ r. IsAtMostBy c.args.calls.now r c.args.row.now) (λ x b g k. search rules) _ _ c.retain.ensures.filtered;
  others = stays_or _ _ (λ (r : Row). ¬ IsAtMostBy c.args.calls.now r c.args.row.now) (λ r. IsAtMostBy c.args.calls.now r c.args.row.now) (λ x b g k. search rules) _ _ c.retain.ensures.filtered;
  apart = pairs_stay _ _ (λ (r : Row). ¬ IsAtMostBy c.args.calls.now r c.args.row.now) (λ r. IsAtMostBy c.args.calls.now r c.args.row.now) (λ x b g k. search rules) _ _ c.retain.ensures.filtered (λ a b. (¬ IsAtMostBy c.args.calls.now a b) × (¬ IsAtMostBy c.args.calls.now b a));
}
