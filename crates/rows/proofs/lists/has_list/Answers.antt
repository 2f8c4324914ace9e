use Rattle.std.proofs.Common.{◌≡◌, length, Some, slice_get, map, sym, ap, ◌∙◌, refl, rules, arith}
use Rattle.std.proofs.lemmas.List.{get_or-map, length-map}
use Rattle.std.proofs.lemmas.Option.{slice_get_read}
use Rattle.std.proofs.lemmas.Grind.{common_steps}
use Rattle.buckets.specs.Index.{hash_bucket}
use Rattle.rows.specs.Lists.{items_of, list_hash}
use Rattle.rows.proofs.Listing.{hash_at}
use Rattle.rows.proofs.lists.has_list.Goals as goal

pub returns-clause-not_there : goal.returns-clause-not_there
returns-clause-not_there c not there =
    let many = length c.args.index.now.last.items in
    let hashes = c.args.hashes.now in
    let lists = map items_of c.args.items.now in
    let list = c.args.list.now in
    let at = there.0 in
    let stands : slice_get lists at ≡ Some list = slice_get_read lists (length lists) at list refl there.1 (sym there.2) in
    let here = hash_at lists hashes at list c.requires.lists.hashed stands ∙ sym c.requires.hash in
    let long = ap length c.requires.lists.hashed ∙ length-map lists list_hash in
    let l = length-map c.args.items.now items_of in
    let w = there.1 in
    let asked = c.find.ensures.none (search rules) at (omega (arith, l, w)) (get_or-map (hash_bucket many) hashes at 0 0 (omega (arith, long, w)) ∙ ap (hash_bucket many) here ∙ sym c.requires.bucket) in
    grind (arith, common_steps, asked, stands)
