use Rattle.std.proofs.Common.{arith, sym}
use Rattle.test_store.proofs.Newest.{overflows_not}
use Rattle.test_store.proofs.store.take.Goals as goal

pub overflow_add-held : goal.overflow_add-held
overflow_add-held c = omega (arith, overflows_not c.servers-chosen.result c.args.row.now c.in-Some.held.now c.requires.versions (sym c.in-Some.ensures))
