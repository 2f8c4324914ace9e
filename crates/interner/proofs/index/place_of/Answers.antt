use Rattle.std.proofs.Common.{length, sym, ap, ◌∙◌, arith}
use Rattle.std.proofs.lemmas.List.{get_or-map}
use Rattle.std.proofs.lemmas.Option.{slice_get_within}
use Rattle.std.proofs.lemmas.Grind.{common_steps}
use Rattle.buckets.specs.Index.{hash_bucket}
use Rattle.interner.proofs.Indexing.{hash_at, long}
use Rattle.interner.proofs.index.place_of.Goals as goal

pub returns-clause-none : goal.returns-clause-none
returns-clause-none g c none at there =
    let many = length c.args.index.now.last.items in
    let hashes = c.args.hashes.now in
    let items = c.args.items.now in
    let state = c.args.state.now in
    let l = long g.M.State.Hash.hash_input items hashes c.requires.hashes in
    let w = slice_get_within items at state there in
    let here = hash_at g.M.State.Hash.hash_input items hashes c.requires.hashes at state there ∙ sym c.requires.hash in
    let asked = c.find.ensures.none none at (omega (arith, l, w)) (get_or-map (hash_bucket many) hashes at 0 0 (omega (arith, l, w)) ∙ ap (hash_bucket many) here ∙ sym c.requires.bucket) in
    grind (arith, common_steps, asked, there)
