use Rattle.std.proofs.Common.{◌∷◌, ◌++◌, [], ◌∙◌}
use Rattle.events.specs.Events.{Mark}
use Rattle.judging.specs.Meaning.{mark_by}
use Rattle.wide_cas_register.specs.Views.{view_of}
use Rattle.wide_cas_register.proofs.Judging.{cost_then}
use Rattle.wide_cas_register.proofs.judged.WideCasRegister.observe.Goals as goal

pub returns : goal.returns
returns c =
    let p = c.in_ok-step.ensures in
    let m = c.commit.ensures in
    let mark : Mark = mark_by c.args.id c.args.kind c.args.op.now in
    record {
      step = p.step;
      kept = record {
        over = λ e ms h. m.stands ms (p.next.over e ms h);
        taken = λ n ms h may. m.stands (ms ++ mark ∷ []) (p.next.taken n ms h may);
      };
      budget = m.budget ∙ p.budget;
      cost = cost_then (view_of c.args.self.now) (view_of c.prepare.new.self) (view_of c.commit.new.self) m.applied mark p.cost;
    }
