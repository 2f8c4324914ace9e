use Rattle.std.proofs.Common.{◌≡◌, ◌≤◌, [], ◌++◌, drop, length, arith, length-append, rules, subst, sym}
use Rattle.std.proofs.lemmas.List.{nil_from_length}
use Rattle.wide_cas_register.specs.Fronts.{AreSomeBy, IsLayerBy}
use Rattle.wide_cas_register.proofs.Layering.{rest_pushed, some_first, some_more}
use Rattle.wide_cas_register.proofs.fronts.fronts_of.Goals as goal

pub layers-init : goal.layers-init
layers-init c = record {
  tried = search rules;
  within = search rules;
  some = some_first c.args.calls.now c.args.moment c.args.rows.now c.in_ok-fronts.fronts.items c.in_ok-fronts.ensures;
}

pub layers-preserved : goal.layers-preserved
layers-preserved c =
    let fronts = c.layers.fronts.items in
    let layer = c.in_ok-layer.layer.items in
    let from = c.layers.from in
    let long : c.len-from.result ≡ length fronts = search rules in
    let items = c.in_ok-append.ensures.items in
    let whole = length-append fronts layer in
    let next : IsLayerBy c.args.calls.now c.args.moment fronts (drop from fronts) layer = subst (λ l. IsLayerBy c.args.calls.now c.args.moment l (drop from l) layer) c.deref.ensures.value c.in_ok-layer.ensures in
    record {
      tried = omega arith;
      within = subst (λ l. c.len-from.result ≤ length l) (sym items) (omega arith);
      some = subst (λ l. AreSomeBy c.args.calls.now c.args.moment c.args.rows.now l (drop c.len-from.result l)) (sym items)
          (subst (AreSomeBy c.args.calls.now c.args.moment c.args.rows.now (fronts ++ layer)) (sym (rest_pushed fronts layer c.len-from.result long))
          (some_more c.args.calls.now c.args.moment c.args.rows.now fronts (drop from fronts) layer c.layers.invariant.some next));
    }

pub returns-then-is_empty : goal.returns-then-is_empty
returns-then-is_empty c =
    let fronts = c.layers.fronts.items in
    let from = c.layers.from in
    let layer = c.in_ok-layer.layer.items in
    let none : layer ≡ [] = nil_from_length layer (search rules) in
    let next : IsLayerBy c.args.calls.now c.args.moment fronts (drop from fronts) layer = subst (λ l. IsLayerBy c.args.calls.now c.args.moment l (drop from l) layer) c.deref.ensures.value c.in_ok-layer.ensures in
    ((drop from fronts, c.layers.invariant.some, subst (IsLayerBy c.args.calls.now c.args.moment fronts (drop from fronts)) none next), search rules)

pub returns : goal.returns
returns c = (c.layers.invariant.tried, (c.layers.fronts.items, drop c.layers.from c.layers.fronts.items, c.layers.invariant.some, search rules))
