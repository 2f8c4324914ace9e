use Rattle.processes.specs.MoveRule.Move.{Completes}
use Rattle.processes.proofs.Standing.{stand_after_move, have_moves_after}
use Rattle.processes.proofs.threads.Threads.complete.Goals as goal

pub invariant_of-self : goal.invariant_of-self
invariant_of-self c =
    have_moves_after c.self.inside.threads.items c.args.self.now (Completes c.args.process) c.thread_of-thread.result _ c.self.view_is c.thread_of-thread.ensures.value c.idle.ensures c.self.invariant c.in_ok-may_complete.ensures.completes

pub returns-clause-ok : goal.returns-clause-ok
returns-clause-ok c moves stand = (
  c.in_ok-may_complete.ensures.completes moves stand,
  stand_after_move c.self.inside.threads.items c.args.self.now moves (Completes c.args.process) c.thread_of-thread.result _ c.self.view_is c.thread_of-thread.ensures.value c.idle.ensures stand (c.in_ok-may_complete.ensures.completes moves stand),
)
