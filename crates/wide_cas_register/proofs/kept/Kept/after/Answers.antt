use Rattle.std.proofs.Common.{subst}
use Rattle.events.specs.Events.{act_by, mark_by_act}
use Rattle.wide_cas_register.specs.Facts.{IsEffect}
use Rattle.wide_cas_register.specs.Fronts.{AreGathered}
use Rattle.wide_cas_register.proofs.kept.Kept.after.Goals as goal

pub returns : goal.returns
returns c =
    let effect = c.effect_of-effect.result in
    let g = subst (λ l. AreGathered c.args.self.now effect l c.args.self.now.rows.items c.args.fronts.now c.in_ok-rows.rows.items) c.deref-2.ensures.value c.in_ok-rows.ensures in
    record {
      moment = c.in_ok-moment.ensures;
      calls = c.in_ok-calls.ensures;
      effect = effect;
      is_effect = subst (λ l. IsEffect l (mark_by_act c.args.id c.args.id (act_by c.args.kind c.args.op.now)) effect) c.deref.ensures.value c.effect_of-effect.ensures;
      each = g.each;
      all_rows = g.all_rows;
      all_fronts = g.all_fronts;
      apart = g.apart;
    }
