use Rattle.std.proofs.Common.{sym, subst}
use Rattle.test_store.specs.Store.{MayStrike}
use Rattle.test_store.proofs.store.Store.prepare_fault.Goals as goal

pub invariant_of-self-2 : goal.invariant_of-self-2
invariant_of-self-2 c = record { count = c.self.invariant.count; ready = subst (MayStrike c.self.inside.replicas) (sym c.in_ok-fault.ensures) c.in_ok-test.ensures.ok }
