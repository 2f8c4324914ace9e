use Rattle.std.proofs.Common.{sym, subst, Some}
use Rattle.judging.specs.Meaning.{mark_by}
use Rattle.wide_fifo_queue.specs.Kept.{IsAfter}
use Rattle.wide_fifo_queue.specs.Facts.{facts_of}
use Rattle.wide_fifo_queue.proofs.known.Known.after_event.Goals as goal

pub returns-in_ok-known-in-Invoke : goal.returns-in_ok-known-in-Invoke
returns-in_ok-known-in-Invoke c = subst (λ k. IsAfter (facts_of c.args.self.now) (mark_by c.args.id k c.args.op.now) (Some c.in_ok-known-in-Invoke.known)) (sym c.in-Invoke.is) c.in_ok-known-in-Invoke.ensures

pub returns-in_ok-next-in-Ok : goal.returns-in_ok-next-in-Ok
returns-in_ok-next-in-Ok c = subst (λ k. IsAfter (facts_of c.args.self.now) (mark_by c.args.id k c.args.op.now) c.in_ok-next-in-Ok.next) (sym c.in-Ok.is) c.in_ok-next-in-Ok.ensures

pub returns-in_ok-next-in-Fail : goal.returns-in_ok-next-in-Fail
returns-in_ok-next-in-Fail c = subst (λ k. IsAfter (facts_of c.args.self.now) (mark_by c.args.id k c.args.op.now) c.in_ok-next-in-Fail.next) (sym c.in-Fail.is) c.in_ok-next-in-Fail.ensures

pub returns-in_ok-known-in-Info : goal.returns-in_ok-known-in-Info
returns-in_ok-known-in-Info c = subst (λ k. IsAfter (facts_of c.args.self.now) (mark_by c.args.id k c.args.op.now) (Some c.in_ok-known-in-Info.known)) (sym c.in-Info.is) c.in_ok-known-in-Info.ensures
