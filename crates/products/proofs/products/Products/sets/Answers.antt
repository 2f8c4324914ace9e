use Rattle.std.proofs.Common.{◌≡◌, ◌≤◌, ◌+◌, ◌-◌, ◌*◌, length, take, drop, ap, sym, ◌∙◌, arith}
use Rattle.products.specs.Products.{Product}
use Rattle.products.proofs.Families.{span_within, view_long, view_product}
use Rattle.products.proofs.products.Products.sets.Goals as goal

pub overflow_mul-from : goal.overflow_mul-from
overflow_mul-from c =
    let i = c.self.inside in
    let long = view_long i.places i.firsts.items i.words.items c.args.self.now c.self.view_is in
    let ok = i.words.ok in
    let small = i.words.small in
    let span = span_within c.args.at i.places (length i.firsts.items) (length i.words.items) c.self.invariant.0 (omega (arith, long)) in
    omega (arith, ok, small, span)

pub overflow_add-result : goal.overflow_add-result
overflow_add-result c =
    let i = c.self.inside in
    let long = view_long i.places i.firsts.items i.words.items c.args.self.now c.self.view_is in
    let ok = i.words.ok in
    let small = i.words.small in
    let span = span_within c.args.at i.places (length i.firsts.items) (length i.words.items) c.self.invariant.0 (omega (arith, long)) in
    omega (arith, ok, small, span)

pub offset_bounds-deref-from : goal.offset_bounds-deref-from
offset_bounds-deref-from c =
    let i = c.self.inside in
    let long = view_long i.places i.firsts.items i.words.items c.args.self.now c.self.view_is in
    let ok = i.words.ok in
    let small = i.words.small in
    let span = span_within c.args.at i.places (length i.firsts.items) (length i.words.items) c.self.invariant.0 (omega (arith, long)) in
    omega (arith, ok, small, span)

pub slice_bounds-result-end : goal.slice_bounds-result-end
slice_bounds-result-end c =
    let i = c.self.inside in
    let long = view_long i.places i.firsts.items i.words.items c.args.self.now c.self.view_is in
    let span = span_within c.args.at i.places (length i.firsts.items) (length i.words.items) c.self.invariant.0 (omega (arith, long)) in
    let within : c.args.at * i.places + i.places ≤ length c.deref.result.now = omega (arith, span, ap length c.deref.ensures.value) in
    within

pub returns-clause-sets : goal.returns-clause-sets
returns-clause-sets c product there =
    let i = c.self.inside in
    let long = view_long i.places i.firsts.items i.words.items c.args.self.now c.self.view_is in
    let one : c.args.at * i.places + i.places - c.args.at * i.places ≡ i.places = omega arith in
    ap (λ n. take n (drop (c.args.at * i.places) c.deref.result.now)) one
    ∙ ap (λ w. take i.places (drop (c.args.at * i.places) w)) c.deref.ensures.value
    ∙ sym (ap (λ (p : Product). p.1) (view_product i.places i.firsts.items i.words.items c.args.self.now c.self.view_is c.args.at (omega (arith, long)) product there))
