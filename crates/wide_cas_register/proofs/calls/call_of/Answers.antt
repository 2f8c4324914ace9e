use Rattle.std.proofs.Common.{◌≢◌}
use Rattle.wide_cas_register.specs.declared.calls.Call.{Call}
use Rattle.wide_cas_register.proofs.Loops.{with_here, of_all}
use Rattle.wide_cas_register.proofs.calls.call_of.Goals as goal

pub loop-call-preserved : goal.loop-call-preserved
loop-call-preserved c = with_here (λ (x : Call). x.id ≢ c.args.id) c.args.calls.now c.loop-call.call-index _ c.loop-call-test.true c.loop-call.invariant c.if-call-id.false

pub returns-clause-none : goal.returns-clause-none
returns-clause-none c e = of_all (λ (x : Call). x.id ≢ c.args.id) c.args.calls.now c.loop-call.call-index c.loop-call-test.false c.loop-call.invariant
