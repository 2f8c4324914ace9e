use Rattle.std.proofs.Common.{ap, ◌∙◌}
use Rattle.std.specs.Vec.Iter.{into_iter_items, into_iter_len}
use Rattle.std.proofs.lemmas.Iterator.{items_from_collect}
use Rattle.std.proofs.lemmas.Iterator.Adapters.{YieldsList-from_skip, YieldsList-from_vec}
use Rattle.command_line.proofs.order.words_behind_name.Goals as goal

-- all words but the first were collected
pub returns : goal.returns
returns c =
    let words = c.args.words in
    let all = YieldsList-from_vec (into_iter_items words) (ap into_iter_items c.skip.ensures.source) (ap into_iter_len c.skip.ensures.source ∙ words.rest.ok.0) in
    items_from_collect c.collect.result c.collect.ensures.ran (YieldsList-from_skip 1 all c.skip.ensures.count)
