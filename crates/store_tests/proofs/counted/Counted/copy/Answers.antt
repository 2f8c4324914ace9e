use Rattle.store_tests.proofs.Counting.{rest_counted}
use Rattle.store_tests.proofs.counted.Counted.copy.Goals as goal

pub invariant_of-result : goal.invariant_of-result
invariant_of-result c = record {
  few = rest_counted c.args.self.now.store.now c.in_ok-store.store c.args.self.now.serves c.in_ok-store.ensures c.args.self.now.few;
}
