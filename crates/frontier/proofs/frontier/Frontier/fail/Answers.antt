use Rattle.models.specs.Objects.{of_table}
use Rattle.events.specs.Events.Mark.{Failed}
use Rattle.frontier.specs.Kept.{view_of}
use Rattle.frontier.proofs.Preparing.{observed}
use Rattle.frontier.proofs.frontier.Frontier.fail.Goals as goal

pub returns : goal.returns
returns g c =
    let o = of_table g.row.M-State.Denot g.M.SeqObject.start_state g.M.SeqObject.apply_to in
    observed o (view_of o c.args.self.now) (view_of o c.prepare_fail.new.self) (view_of o c.commit.new.self) c.commit.ensures (Failed c.args.id) _ c.in_ok-step.ensures
