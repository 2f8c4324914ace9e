use Rattle.models.specs.Objects.{of_table}
use Rattle.frontier.specs.Kept.{view_of}
use Rattle.judging.specs.Meaning.{mark_by}
use Rattle.frontier.proofs.Preparing.{observed}
use Rattle.frontier.proofs.frontier.Frontier.observe.Goals as goal

pub returns : goal.returns
returns g c =
    let o = of_table g.row.M-State.Denot g.M.SeqObject.start_state g.M.SeqObject.apply_to in
    observed o (view_of o c.args.self.now) (view_of o c.prepare.new.self) (view_of o c.commit.new.self) c.commit.ensures (mark_by c.args.id c.args.kind c.args.op.now) _ c.in_ok-step.ensures
