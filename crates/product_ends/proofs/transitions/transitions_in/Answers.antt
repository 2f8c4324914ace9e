use Rattle.std.proofs.Common.{◌≡◌, ◌+◌, ◌-◌, ◌≤◌, ℕ, List, length, get_or, sym, ap, arith}
use Rattle.product_ends.specs.declared.transitions.Transition.{Transition}
use Rattle.product_ends.specs.Transitions.{order_in}
use Rattle.product_ends.proofs.transitions.transitions_in.Goals as goal

pub returns-clause-tried : goal.returns-clause-tried
returns-clause-tried g c within is_tried =
    let d = c.args.transitions.now in
    let order = order_in d c.args.number in
    let same : order ≡ get_or c.deref.result.now c.args.number 0 = ap (λ (l : List ℕ). get_or l c.args.number 0) (sym c.deref.ensures.value) in
    let long : length c.deref-2.result.now ≡ length d.transitions.items = ap (λ (l : List Transition). length l) c.deref-2.ensures.value in
    let le : order - 1 + c.args.call_count ≤ length d.transitions.items = within c.args.number (order - 1) (omega (arith, is_tried)) in
    c.part_in.ensures.within (omega (arith, same, is_tried)) (omega (arith, same, long, le, is_tried))
