use Rattle.std.proofs.Common.{◌++◌, ◌∷◌, [], refl, slice_get, ap, ◌∙◌}
use Rattle.interner.proofs.Indexing.{with_one}
use Rattle.interner.proofs.states.numbered.Goals as goal

pub returns-clause-states : goal.returns-clause-states
returns-clause-states g c =
    let old = c.args.items.now.items in
    let r = c.requires.states in
    with_one g.M.State.Hash.hash_input old c.args.hashes.now.items r.hashed c.args.state c.args.hash c.push_reserved.new.self.items c.put_behind.new.items.items c.put_behind.new.index.last.items c.put_behind.new.index.before.items
    c.requires.hash r.once (λ at e. c.in_default.ensures.none refl at (ap (λ l. slice_get l at) c.deref.ensures.value ∙ e))
    (c.push_reserved.ensures.items ∙ ap (λ l. l ++ c.args.state ∷ []) c.make_rooms.ensures.items)
    (c.put_behind.ensures.put ∙ ap (λ l. l ++ c.args.hash ∷ []) c.make_rooms.ensures.hashes)
    c.put_behind.ensures.index
