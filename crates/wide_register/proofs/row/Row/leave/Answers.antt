use Rattle.std.proofs.Common.{ℕ, [], refl, rules}
use Rattle.std.proofs.lemmas.Fn.{filter_same}
use Rattle.wide_register.proofs.Copies.{is_another, others_left}
use Rattle.wide_register.proofs.row.Row.leave.Goals as goal

pub returns : goal.returns
returns c = record {
  state = refl;
  needed = others_left (λ (i : ℕ). i) c.args.id c.args.self.now.needed.items c.retain.new.self.items
      (filter_same _ (is_another (λ (i : ℕ). i) c.args.id [] []) _ (λ x b f' k. search rules) _ _ c.retain.ensures.filtered);
  door = refl;
  passed = refl;
}
