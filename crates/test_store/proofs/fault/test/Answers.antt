use Rattle.std.proofs.Common.{refl, sym, ◌∙◌, true≢false}
use Rattle.test_store.proofs.fault.test.Goals as goal

pub returns-then-not-names_present-clause-refused : goal.returns-then-not-names_present-clause-refused
returns-then-not-names_present-clause-refused c = (c.if-not-names_once.ensures.0 refl, λ below. true≢false (sym below ∙ sym c.if-not-names_present.ensures))

pub returns-clause-ok : goal.returns-clause-ok
returns-clause-ok c = (c.if-not-names_once.ensures.0 refl, sym c.if-not-names_present.ensures)
