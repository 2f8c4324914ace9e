use Rattle.std.proofs.Common.{◌≡◌, ◌∙◌, ℕ, ◌+◌, false, length, ap, arith}
use Rattle.processes.specs.declared.threads.Thread.{Thread}
use Rattle.processes.specs.MoveRule.Move.{Crashes}
use Rattle.processes.proofs.Standing.{stand_after_move, have_moves_after}
use Rattle.processes.proofs.threads.Threads.crash.Goals as goal

pub invariant_of-self : goal.invariant_of-self
invariant_of-self c =
    let number : c.len.result ≡ length c.args.self.now = omega (arith, c.self.inside.threads.ok.0, ap length c.self.view_is) in
    have_moves_after c.self.inside.threads.items c.args.self.now (Crashes c.args.process) c.thread_of-thread.result _ c.self.view_is c.thread_of-thread.ensures.value (c.idle.ensures ∙ ap (λ (k : ℕ). let thread : Thread = record { process = c.args.process + k; busy = false } in thread) number) c.self.invariant c.in_ok-may_complete.ensures.crashes

pub returns-clause-ok : goal.returns-clause-ok
returns-clause-ok c moves stand =
    let number : c.len.result ≡ length c.args.self.now = omega (arith, c.self.inside.threads.ok.0, ap length c.self.view_is) in (
      c.in_ok-may_complete.ensures.crashes moves stand,
      stand_after_move c.self.inside.threads.items c.args.self.now moves (Crashes c.args.process) c.thread_of-thread.result _ c.self.view_is c.thread_of-thread.ensures.value (c.idle.ensures ∙ ap (λ (k : ℕ). let thread : Thread = record { process = c.args.process + k; busy = false } in thread) number) stand (c.in_ok-may_complete.ensures.crashes moves stand),
    )
