use Rattle.std.proofs.Common.{◌≡◌, arith}
use Rattle.edn.proofs.Names.{name_is_text}
use Rattle.edn.proofs.Views.{view-Keyword}
use Rattle.edn.proofs.atom.keyword_of.Goals as goal

pub unwrap-text-requires : goal.unwrap-text-requires
unwrap-text-requires c =
    let is_text = name_is_text _ c.requires in
    let cases = c.from_utf8.ensures.cases in
    grind arith

pub returns-clause-ok : goal.returns-clause-ok
returns-clause-ok c =
    let same : c.unwrap-text.result.now ≡ c.args.name.now = grind arith in
    rw (view-Keyword, c.in_ok-from_str.ensures.ok, same)
