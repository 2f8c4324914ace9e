use Rattle.std.proofs.Common.{sym, ap, ◌∙◌}
use Rattle.std.specs.Result.{is_ok}
use Rattle.std.proofs.lemmas.Bool.{true≢false}
use Rattle.wide_set.proofs.Searching.{found_or_not}
use Rattle.wide_set.proofs.members.place_behind.Goals as goal

pub returns-in-Err-clause-none : goal.returns-in-Err-clause-none
returns-in-Err-clause-none c e h =
    let found = (found_or_not c.args.value.now c.args.members.now c.binary_search.result c.requires c.binary_search.ensures.bound c.binary_search.ensures.position).1 h in
    true≢false (sym found ∙ ap is_ok c.in-Err.is)
