use Rattle.std.proofs.Common.{◌∙◌, ap}
use Rattle.events.specs.Events.{op_event_in}
use Rattle.events.specs.declared.event.Process.TheVariants.{Client}
use Rattle.judging.specs.declared.step.Step.TheVariants as steps
use Rattle.frontier.specs.AnyFrontier.{any_view_of}
use Rattle.checkpoints.proofs.Judging.{silent_after, never_none, status_stepped, marks_stepped}
use Rattle.checkpoints.proofs.Preparing.{still_live, will_be_live}
use Rattle.checkpoints.proofs.live_key.LiveKey.prepare.Goals as goal

pub returns-in_default-clause-next : goal.returns-in_default-clause-next
returns-in_default-clause-next c kind budget events is_live alive history =
    silent_after kind budget events c.args.index c.args.event.now c.args.self.now is_live alive history
    (ap (λ process. op_event_in c.args.event.now.kind process c.args.event.now.body) c.in_default.is)

pub returns-in_default-body-clause-next : goal.returns-in_default-body-clause-next
returns-in_default-body-clause-next c kind budget events is_live alive history =
    silent_after kind budget events c.args.index c.args.event.now c.args.self.now is_live alive history
    (ap (λ process. op_event_in c.args.event.now.kind process c.args.event.now.body) c.in-Client.is
    ∙ ap (op_event_in c.args.event.now.kind (Client c.in-Client.process)) c.in_default-body.is)

pub returns-in_default-2-clause-next : goal.returns-in_default-2-clause-next
returns-in_default-2-clause-next c kind budget events is_live alive history =
    absurd (never_none kind budget events c.args.index c.args.event.now c.args.self.now is_live alive history _ c.in-Client.is _ c.in-Op.is _ c.in_ok-id.ensures.id c.in_default-2.is)

pub returns-in_err-prepare-clause-now : goal.returns-in_err-prepare-clause-now
returns-in_err-prepare-clause-now c kind budget events is_live alive history =
    still_live kind budget events c.args.index c.args.event.now c.args.self.now is_live alive history _ c.in-Client.is _ c.in-Op.is
    (record { frontier = c.prepare.new.self; invocations = c.operation_id.new.invocations; closes = c.closing-self.result })
    c.prepare.ensures.kind c.prepare.ensures.prepared.budget c.in_ok-id.ensures.invocations c.prepare.ensures.prepared.now

pub returns-in-Alive-clause-now : goal.returns-in-Alive-clause-now
returns-in-Alive-clause-now c kind budget events is_live alive history =
    still_live kind budget events c.args.index c.args.event.now c.args.self.now is_live alive history _ c.in-Client.is _ c.in-Op.is
    (record { frontier = c.prepare.new.self; invocations = c.operation_id.new.invocations; closes = c.closing-self.result })
    c.prepare.ensures.kind c.prepare.ensures.prepared.budget c.in_ok-id.ensures.invocations c.prepare.ensures.prepared.now

pub returns-in-Dead-clause-now : goal.returns-in-Dead-clause-now
returns-in-Dead-clause-now c kind budget events is_live alive history =
    still_live kind budget events c.args.index c.args.event.now c.args.self.now is_live alive history _ c.in-Client.is _ c.in-Op.is
    (record { frontier = c.prepare.new.self; invocations = c.operation_id.new.invocations; closes = c.closing-self.result })
    c.prepare.ensures.kind c.prepare.ensures.prepared.budget c.in_ok-id.ensures.invocations c.prepare.ensures.prepared.now

pub returns-in-Over-clause-now : goal.returns-in-Over-clause-now
returns-in-Over-clause-now c kind budget events is_live alive history =
    still_live kind budget events c.args.index c.args.event.now c.args.self.now is_live alive history _ c.in-Client.is _ c.in-Op.is
    (record { frontier = c.prepare.new.self; invocations = c.operation_id.new.invocations; closes = c.closing-self.result })
    c.prepare.ensures.kind c.prepare.ensures.prepared.budget c.in_ok-id.ensures.invocations c.prepare.ensures.prepared.now

pub returns-in-Alive-clause-next : goal.returns-in-Alive-clause-next
returns-in-Alive-clause-next c kind budget events is_live alive history = (
  status_stepped kind budget events c.args.index c.args.event.now c.args.self.now is_live alive history _ c.in-Client.is _ c.in-Op.is _ c.in_ok-id.ensures.id _ c.in-Some.is _ c.in_ok-prepare.ensures.prepared.step
      (record { invocation = c.never_kills_law.ensures.invocation kind; crash = c.never_kills_law.ensures.crash kind }) steps.Alive c.in-Alive.is,
  will_be_live kind budget events c.args.index c.args.event.now c.args.self.now is_live alive history _ c.in-Client.is _ c.in-Op.is
      (record { frontier = c.prepare.new.self; invocations = c.operation_id.new.invocations; closes = c.closing-self.result })
      c.prepare.ensures.kind c.prepare.ensures.prepared.budget c.in_ok-id.ensures.invocations c.closing-self.ensures
      (marks_stepped kind budget events c.args.index c.args.event.now c.args.self.now is_live alive history _ c.in-Client.is _ c.in-Op.is _ c.in_ok-id.ensures.id _ c.in-Some.is _ (any_view_of c.prepare.new.self).will_stand c.in_ok-prepare.ensures.prepared.next c.in-Alive.is),
)

pub returns-in-Dead-clause-next : goal.returns-in-Dead-clause-next
returns-in-Dead-clause-next c kind budget events is_live alive history =
    status_stepped kind budget events c.args.index c.args.event.now c.args.self.now is_live alive history _ c.in-Client.is _ c.in-Op.is _ c.in_ok-id.ensures.id _ c.in-Some.is _ c.in_ok-prepare.ensures.prepared.step
    (record { invocation = c.never_kills_law.ensures.invocation kind; crash = c.never_kills_law.ensures.crash kind }) steps.Dead c.in-Dead.is

pub returns-in-Over-clause-next : goal.returns-in-Over-clause-next
returns-in-Over-clause-next c kind budget events is_live alive history =
    status_stepped kind budget events c.args.index c.args.event.now c.args.self.now is_live alive history _ c.in-Client.is _ c.in-Op.is _ c.in_ok-id.ensures.id _ c.in-Some.is _ c.in_ok-prepare.ensures.prepared.step
    (record { invocation = c.never_kills_law.ensures.invocation kind; crash = c.never_kills_law.ensures.crash kind }) steps.Over c.in-Over.is
