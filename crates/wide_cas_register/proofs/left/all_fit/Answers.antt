use Rattle.std.proofs.Common.{refl}
use Rattle.wide_cas_register.specs.declared.calls.Call.{Call}
use Rattle.wide_cas_register.specs.Facts.{FitsAt}
use Rattle.wide_cas_register.proofs.Loops.{with_here, of_all}
use Rattle.wide_cas_register.proofs.left.all_fit.Goals as goal

pub loop-call-preserved : goal.loop-call-preserved
loop-call-preserved c = with_here (λ (x : Call). FitsAt c.args.row.now c.args.other.now x) c.args.calls.now c.loop-call.call-index _ c.loop-call-test.true c.loop-call.invariant (c.fits.ensures.0 c.if-not-fits.false)

pub returns : goal.returns
returns c = ((λ t. of_all (λ (x : Call). FitsAt c.args.row.now c.args.other.now x) c.args.calls.now c.loop-call.call-index c.loop-call-test.false c.loop-call.invariant), (λ h. refl))
