use Rattle.std.proofs.Common.{sym, subst, ◌∙◌}
use Rattle.test_store.specs.StoreInvariant.{IsReady}
use Rattle.test_store.proofs.Striking.{below_more}
use Rattle.test_store.proofs.store.Store.commit.Goals as goal

pub strike-requires : goal.strike-requires
strike-requires c =
    let ready = subst (IsReady c.self.inside.replicas c.self.inside.rows c.self.inside.losing) (sym c.replace.ensures.value ∙ c.in-Strike.is) c.self.invariant.ready in
    below_more c.self.inside.replicas 7 _ c.self.invariant.count.1 ready.1
