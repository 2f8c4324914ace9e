use Rattle.store_tests.proofs.Counting.{fault_counted}
use Rattle.store_tests.proofs.counted.Counted.strike.Goals as goal

pub invariant_of-self : goal.invariant_of-self
invariant_of-self c = record {
  few = fault_counted c.versions_law.ensures.fault c.args.self.now.store.now c.fault.new.self.now c.args.fault.now c.fault.result
      c.args.self.now.serves c.fault.ensures.struck c.fault.ensures.err c.args.self.now.few;
}
