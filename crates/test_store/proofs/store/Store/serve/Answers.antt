use Rattle.test_store.proofs.TruthKept.{serving}
use Rattle.test_store.proofs.store.Store.serve.Goals as goal

pub returns-clause-truth : goal.returns-clause-truth
returns-clause-truth c = serving c.args.self.now c.prepare_serve.new.self c.commit.new.self c.args.entry c.args.op.now _ c.in_ok-outcome.ensures.served c.commit.ensures
