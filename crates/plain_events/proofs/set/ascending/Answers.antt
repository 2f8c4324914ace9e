use Rattle.std.proofs.Common.{◌≡◌, ◌++◌, ◌∷◌, [], arith}
use Rattle.std.proofs.lemmas.Grind.{common_steps}
use Rattle.std.proofs.lemmas.Int.{ints}
use Rattle.plain_events.proofs.Sets.{atom_shorter, one_found, next_found}
use Rattle.plain_events.proofs.set.ascending.Goals as goal

pub loop-next-init : goal.loop-next-init
loop-next-init c =
    let items : c.push.new.self.items ≡ c.in-Some.first ∷ [] = grind (arith, common_steps) in
    one_found c.args.text.now c.in-Some.behind.now c.in-Some.first _ c.push.new.self.items (grind (arith, ints)) items c.in-Some.ensures

pub loop-next-smaller : goal.loop-next-smaller
loop-next-smaller c = atom_shorter c.loop-next.rest.now _ c.in-Some-integer.behind.now c.in-Some-integer.ensures

pub loop-next-preserved : goal.loop-next-preserved
loop-next-preserved c =
    let items : c.push-in-Some-integer.new.self.items ≡ c.loop-next.integers.items ++ c.in-Some-integer.next ∷ [] = grind (arith, common_steps) in
    next_found c.args.text.now c.loop-next.rest.now c.in-Some-integer.behind.now c.loop-next.integers.items c.push-in-Some-integer.new.self.items _ c.in-Some-integer.next _
    (grind (arith, ints)) items c.loop-next.invariant c.in-Some-integer.ensures (grind (arith, ints))
