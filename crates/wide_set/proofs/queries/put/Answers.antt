use Rattle.std.proofs.Common.{to_z, of_z, w64, rules, ◌≡◌, sym, ap, ◌∙◌, Some}
use Rattle.wide_set.proofs.Searching.{put_more, put_none}
use Rattle.wide_set.proofs.queries.put.Goals as goal

pub returns-in_default : goal.returns-in_default
returns-in_default c = put_none c.args.values.now.items c.args.value c.in_default.is

pub returns : goal.returns
returns c =
    let same : to_z w64 (of_z w64 c.in-Some.value) ≡ c.in-Some.value = search rules in
    put_more c.args.values.now.items c.push.new.self.items (to_z w64 (of_z w64 c.in-Some.value)) c.args.value (c.in-Some.is ∙ ap Some (sym same)) c.in_ok-push.ensures.items
