use Rattle.std.proofs.Common.{◌≡◌, true, false, not, Bool, ◌∙◌}
use Rattle.processes.proofs.Standing.{not_open, current}
use Rattle.processes.proofs.threads.Threads.may_complete.Goals as goal
use Rattle.processes.proofs.threads.Threads.may_complete.Goals.{then-thread-process-via-then-thread-process, then-thread-process-via-else-thread-process+then-not-thread}

not_true : (b : Bool) → not b ≡ true → b ≡ false
not_true true h = cc
not_true false h = cc

not_false : (b : Bool) → not b ≡ false → b ≡ true
not_false true h = cc
not_false false h = cc

pub returns-then-thread-process-clause-refused : goal.returns-then-thread-process-clause-refused
returns-then-thread-process-clause-refused c moves stand =
    let items = c.self.inside.threads.items in
    let thread = c.index-thread.result.now in
    elim c.then-thread-process.branch [
      | then-thread-process-via-then-thread-process w ↦
          not_open items c.args.self.now moves c.args.process c.thread_of.result thread c.self.view_is stand c.thread_of.ensures.value c.index-thread.ensures w.if-thread-process.true
      | then-thread-process-via-else-thread-process+then-not-thread w ↦
          (current items c.args.self.now moves c.args.process c.thread_of.result thread c.self.view_is stand c.thread_of.ensures.value c.index-thread.ensures w.if-thread-process.false).1
          ∙ not_true thread.busy w.if-not-thread.true
    ]

pub returns-then-thread-process-clause-no_crash : goal.returns-then-thread-process-clause-no_crash
returns-then-thread-process-clause-no_crash c moves stand = returns-then-thread-process-clause-refused c moves stand

pub returns-clause-completes : goal.returns-clause-completes
returns-clause-completes c moves stand =
    (current c.self.inside.threads.items c.args.self.now moves c.args.process c.thread_of.result c.index-thread.result.now c.self.view_is stand c.thread_of.ensures.value c.index-thread.ensures c.if-thread-process.false).1
    ∙ not_false c.index-thread.result.now.busy c.if-not-thread.false

pub returns-clause-crashes : goal.returns-clause-crashes
returns-clause-crashes c moves stand = returns-clause-completes c moves stand
