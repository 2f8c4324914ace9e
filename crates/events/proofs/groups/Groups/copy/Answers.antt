use Rattle.std.proofs.Common.{◌≡◌, ℕ, Vec, Global, get_or, rules}
use Rattle.events.proofs.Written.{told_more}
use Rattle.events.proofs.groups.Groups.copy.Goals as goal

pub loop-group-preserved : goal.loop-group-preserved
loop-group-preserved c =
    let items = λ (v : Vec ℕ Global). v.items in
    let groups = c.deref-group-items.result.now in
    let group = c.group-item.result in
    let same : c.in_ok-numbers.numbers.items ≡ (get_or groups c.loop-group.group-index group).items = search rules in
    told_more items items c.loop-group.groups.items c.push.new.self.items c.in_ok-numbers.numbers groups c.loop-group.group-index group c.loop-group-test.true c.in_ok-push.ensures.items same c.loop-group.invariant
