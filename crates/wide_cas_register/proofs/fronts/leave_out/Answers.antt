use Rattle.std.proofs.Common.{⊎_elim, inl, inr, rules}
use Rattle.wide_cas_register.specs.declared.fronts.Front.{Front}
use Rattle.wide_cas_register.specs.Fronts.{IsLess, IsLessBy}
use Rattle.wide_cas_register.proofs.Retained.{stays_from, stays_or, pairs_stay}
use Rattle.wide_cas_register.proofs.fronts.leave_out.Goals as goal

pub returns : goal.returns
returns c = record {
  each = λ g h. (let k = stays_from _ _ (λ (x : Front). ¬ IsLess c.args.calls.now x c.args.front.now) (λ x. IsLess c.args.calls.now x c.args.front.now) (λ x b q k. search rules) _ _ c.retain.ensures.filtered g h in (k.0, λ m. k.1 (record { is = m })));
  others = λ g h. ⊎_elim inl (λ m. inr m.is) (stays_or _ _ (λ (x : Front). ¬ IsLess c.args.calls.now x c.args.front.now) (λ x. IsLess c.args.calls.now x c.args.front.now) (λ x b q k. search rules) _ _ c.retain.ensures.filtered g h);
  apart = pairs_stay _ _ (λ (x : Front). ¬ IsLess c.args.calls.now x c.args.front.now) (λ x. IsLess c.args.calls.now x c.args.front.now) (λ x b q k. search rules) _ _ c.retain.ensures.filtered (λ f g. (¬ IsLessBy c.args.calls.now f g) × (¬ IsLessBy c.args.calls.now g f));
}
