use Rattle.std.proofs.Common.{◌≡◌, length, rules, arith, subst}
use Rattle.events.specs.Events.{act_by, mark_by_act}
use Rattle.wide_register.specs.Counts.{AreTries}
use Rattle.wide_register.specs.Facts.{IsEffect}
use Rattle.wide_register.proofs.Costs.{most_steps}
use Rattle.wide_register.proofs.judged.WideRegister.counted.Goals as goal

pub returns : goal.returns
returns c =
    let k = c.args.self.now.kept in
    let one : c.deref.result.now ≡ k.calls.items = search rules in
    let two : c.deref-2.result.now ≡ k.calls.items = search rules in
    let same : c.len.result ≡ length k.rows.items = search rules in
    record {
      effect = c.effect_of-effect.result;
      is_effect = subst (λ l. IsEffect l (mark_by_act c.args.id c.args.id (act_by c.args.kind c.args.op.now)) c.effect_of-effect.result) one c.effect_of-effect.ensures;
      tries = c.tries_of-tries.result;
      are_tries = subst (λ l. AreTries l c.effect_of-effect.result c.tries_of-tries.result) two c.tries_of-tries.ensures;
      grows = omega arith;
      most = most_steps c.args.self.now.applied (length k.rows.items) c.len.result c.tries_of-tries.result c.saturating_mul-steps.result c.saturating_add.result same (omega arith) (omega arith);
    }
