use Rattle.std.proofs.Common.{◌≡◌, ℕ, take, ◌∙◌, subst, arith}
use Rattle.std.proofs.lemmas.List.{length-set}
use Rattle.machine.specs.Machine.{idle_from}
use Rattle.harness.proofs.Idle.{flags_more, idle_by}
use Rattle.harness.proofs.asking.idle_flags.Goals as goal

pub loop-thread-preserved : goal.loop-thread-preserved
loop-thread-preserved c = record {
  len = length-set c.loop-thread.flags c.loop-thread.thread c.is_none.result ∙ c.loop-thread.invariant.len;
  flags = flags_more c.args.history.now.concurrency c.args.history.now.events c.loop-thread.flags c.loop-thread.thread c.is_none.result
      (omega (arith, c.loop-thread.invariant.len, c.loop-thread-test.true, c.concurrency-thread-end.ensures.limits))
      (idle_by c.open_at.result _ c.is_none.result c.open_at.ensures c.is_none.ensures) c.loop-thread.invariant.flags;
}

pub returns-clause-flags : goal.returns-clause-flags
returns-clause-flags c =
    let h = c.args.history.now in
    let all : c.loop-thread.thread ≡ h.concurrency = omega (arith, c.loop-thread-test.false, c.loop-thread.auto.thread-end, c.concurrency-thread-end.ensures.value) in
    subst (λ (n : ℕ). take n c.loop-thread.flags ≡ idle_from h.concurrency h.events 0 n) all c.loop-thread.invariant.flags
