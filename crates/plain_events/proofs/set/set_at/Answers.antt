use Rattle.std.proofs.Common.{◌≡◌, arith}
use Rattle.std.proofs.lemmas.Grind.{common_steps}
use Rattle.plain_events.proofs.Sets.{set_by, set_found}
use Rattle.plain_events.proofs.set.set_at.Goals as goal

pub returns : goal.returns
returns c =
    let xs = c.in_ok-integers.integers.items in
    let same : c.in_ok-members.members ≡ xs = grind (arith, common_steps) in
    set_by c.args.text.now xs c.in_ok-members.members c.in_ok-rest.rest.now same
    (set_found c.args.text.now c.in_ok-inner.inner.now c.past_white.result.now c.in_ok-integers.closing.now c.in_ok-rest.rest.now xs
    c.in_ok-inner.ensures c.past_white.ensures c.in_ok-integers.ensures.integers c.in_ok-rest.ensures c.in_ok-integers.ensures.ascend)
