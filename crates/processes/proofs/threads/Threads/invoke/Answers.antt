use Rattle.std.proofs.Common.{refl}
use Rattle.processes.specs.MoveRule.Move.{Invokes}
use Rattle.processes.proofs.Standing.{stand_after_move, have_moves_after}
use Rattle.processes.proofs.threads.Threads.invoke.Goals as goal

pub invariant_of-self : goal.invariant_of-self
invariant_of-self c =
    have_moves_after c.self.inside.threads.items c.args.self.now (Invokes c.args.process) c.thread_of-thread.result _ c.self.view_is c.thread_of-thread.ensures.value refl c.self.invariant c.in_ok-may_invoke.ensures.ok

pub returns-clause-ok : goal.returns-clause-ok
returns-clause-ok c moves stand = (
  c.in_ok-may_invoke.ensures.ok moves stand,
  stand_after_move c.self.inside.threads.items c.args.self.now moves (Invokes c.args.process) c.thread_of-thread.result _ c.self.view_is c.thread_of-thread.ensures.value refl stand (c.in_ok-may_invoke.ensures.ok moves stand),
)
