use Rattle.std.proofs.Common.{◌≡◌, Some, length, refl, sym, ap, ◌∙◌}
use Rattle.std.proofs.lemmas.Bool.{false≢true}
use Rattle.std.proofs.lemmas.Option.{slice_get_read}
use Rattle.interner.proofs.Indexing.{hash_at}
use Rattle.interner.proofs.Lists.{one_of}
use Rattle.interner.proofs.index.stands_at.Goals as goal

pub returns-then-hashes-at-clause-there : goal.returns-then-hashes-at-clause-there
returns-then-hashes-at-clause-there g c = λ t. absurd (false≢true t)

pub returns-then-hashes-at-clause-none : goal.returns-then-hashes-at-clause-none
returns-then-hashes-at-clause-none g c =
    λ _ there. c.if-hashes-at.true (hash_at g.M.State.Hash.hash_input c.args.items.now c.args.hashes.now c.requires.hashes c.args.at c.args.state.now there ∙ sym c.requires.hash)

pub returns-clause-there : goal.returns-clause-there
returns-clause-there g c =
    let items = c.args.items.now in
    let item = c.index-items-at.result in
    λ t. slice_get_read items (length items) c.args.at item refl c.requires.within c.index-items-at.is ∙ ap Some (c.same.ensures.0 t)

pub returns-clause-none : goal.returns-clause-none
returns-clause-none g c =
    let items = c.args.items.now in
    let item = c.index-items-at.result in
    let here = slice_get_read items (length items) c.args.at item refl c.requires.within c.index-items-at.is in
    λ f there. false≢true (sym f ∙ c.same.ensures.1 (one_of item c.args.state.now (sym here ∙ there)))
