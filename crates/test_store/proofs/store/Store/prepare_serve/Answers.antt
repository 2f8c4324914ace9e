use Rattle.std.proofs.Common.{◌^◌, ◌-◌, sym, subst}
use Rattle.test_store.specs.Store.{row_of, VersionsOf, StoreView}
use Rattle.test_store.proofs.store.Store.prepare_serve.Goals as goal

pub attempt-requires-clause-versions : goal.attempt-requires-clause-versions
attempt-requires-clause-versions c = subst (λ (s : StoreView). VersionsOf (row_of s.now c.args.op.now.key) (2 ^ 64 - 2)) (sym c.self.view_is) c.requires.versions
