use Rattle.std.proofs.Common.{nat_eq, Some, sym, ap, ◌∙◌, arith}
use Rattle.std.specs.Map.{lookup}
use Rattle.std.proofs.lemmas.Option.{get_or_from_slice_get, slice_get_within}
use Rattle.std.proofs.lemmas.Grind.{common_steps}
use Rattle.test_store.proofs.Placing.{absent, found}
use Rattle.test_store.proofs.rows.Rows.find.Goals as goal

pub index-requires : goal.index-requires
index-requires c =
    let rows = c.self.inside.rows.items in
    let there = found rows c.args.key c.in-Some.place.now (sym (c.self.invariant c.args.key) ∙ sym c.in-Some.ensures.value) in
    let within = slice_get_within rows c.in-Some.place.now there.0 there.1 in
    grind (arith, common_steps, within)

pub returns-in-Some : goal.returns-in-Some
returns-in-Some c =
    let rows = c.self.inside.rows.items in
    let there = found rows c.args.key c.in-Some.place.now (sym (c.self.invariant c.args.key) ∙ sym c.in-Some.ensures.value) in
    ap (λ x. Some x.1) (c.index.ensures ∙ get_or_from_slice_get rows c.in-Some.place.now there.0 c.index.result.now there.1)
    ∙ sym there.2 ∙ ap (λ t. lookup (nat_eq c.args.key) t.rows) c.self.view_is

pub returns-in-None : goal.returns-in-None
returns-in-None c =
    sym (absent c.self.inside.rows.items c.args.key (sym (c.self.invariant c.args.key) ∙ sym c.in-None.ensures.value))
    ∙ ap (λ t. lookup (nat_eq c.args.key) t.rows) c.self.view_is
