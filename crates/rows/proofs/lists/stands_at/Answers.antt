use Rattle.std.proofs.Common.{sym, ◌∙◌, arith}
use Rattle.std.specs.Cmp.Lexicographic.{other_text, same_text}
use Rattle.std.proofs.lemmas.Grind.{common_steps}
use Rattle.rows.proofs.Listing.{has, hash_at, same}
use Rattle.rows.proofs.lists.stands_at.Goals as goal

pub returns-then-hashes-at-clause-there : goal.returns-then-hashes-at-clause-there
returns-then-hashes-at-clause-there c is =
    has c.args.items.now c.args.at c.index-items-at.result c.args.list.now c.requires.within c.index-items-at.is
    (sym c.as_slice.ensures.value ∙ same_text c.as_slice.result.now c.args.list.now (sym is ∙ c.eq.ensures))

pub returns-then-hashes-at-clause-none : goal.returns-then-hashes-at-clause-none
returns-then-hashes-at-clause-none c not there =
    other_text c.as_slice.result.now c.args.list.now (sym not ∙ c.eq.ensures)
    (c.as_slice.ensures.value ∙ same c.args.items.now c.args.at c.index-items-at.result c.args.list.now c.requires.within c.index-items-at.is there)

pub returns-else-hashes-at-clause-none : goal.returns-else-hashes-at-clause-none
returns-else-hashes-at-clause-none c not there =
    let here = hash_at _ c.args.hashes.now c.args.at c.args.list.now c.requires.hashes there ∙ sym c.requires.hash in
    grind (arith, common_steps, here, not)
