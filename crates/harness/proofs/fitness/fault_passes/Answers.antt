use Rattle.std.proofs.Common.{◌↔◌, IsTrue, sym, subst}
use Rattle.harness.specs.declared.fitness.Test.{Test}
use Rattle.harness.specs.Fitness.{FaultPasses}
use Rattle.harness.proofs.fitness.fault_passes.Goals as goal

pub returns-in-IsInTables : goal.returns-in-IsInTables
returns-in-IsInTables c = subst (λ (t : Test). IsTrue c.names_once.result ↔ FaultPasses t c.args.fault.now) (sym c.in-IsInTables.is) c.names_once.ensures
