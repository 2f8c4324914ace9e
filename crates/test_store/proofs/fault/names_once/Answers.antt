use Rattle.std.proofs.Common.{IsTrue, ◌↔◌, sym, ap, subst}
use Rattle.test_store.specs.Store.{AreOnce, numbers_of}
use Rattle.test_store.proofs.fault.names_once.Goals as goal

pub returns-in-Partition : goal.returns-in-Partition
returns-in-Partition c = subst (λ l. IsTrue c.are_once.result ↔ AreOnce l) (sym (ap numbers_of c.in-Partition.is)) c.are_once.ensures
