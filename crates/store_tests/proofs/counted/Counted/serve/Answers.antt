use Rattle.std.proofs.Common.{◌≤◌, arith}
use Rattle.store_tests.proofs.Counting.{serve_counted}
use Rattle.store_tests.proofs.counted.Counted.serve.Goals as goal

pub serve-outcome-requires-clause-versions : goal.serve-outcome-requires-clause-versions
serve-outcome-requires-clause-versions c held h =
    (let l : held.version ≤ c.args.self.now.serves = c.args.self.now.few 7 held h in omega arith)

pub invariant_of-self : goal.invariant_of-self
invariant_of-self c = record {
  few = serve_counted c.versions_law.ensures.serve c.args.self.now.store.now c.serve-outcome.new.self.now c.args.entry _
      c.serve-outcome.result c.args.self.now.serves c.serve-outcome.ensures.served c.serve-outcome.ensures.err c.args.self.now.few;
}
