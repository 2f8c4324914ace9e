use Rattle.std.proofs.Common.{take}
use Rattle.wide_cas_register.specs.Fronts.{AreStepped}
use Rattle.wide_cas_register.proofs.fronts.step_all.Given as goal

abbrev pub invariant-loop-call : goal.invariant-loop-call
invariant-loop-call l = AreStepped l.calls l.moment l.there l.front (take l.call-index l.calls) l.initial.layer.items l.layer.items
