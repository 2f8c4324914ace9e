use Rattle.std.proofs.Common.{nat_eq, sym, ap, ◌∙◌, arith}
use Rattle.std.proofs.lemmas.Option.{slice_get_within}
use Rattle.std.proofs.lemmas.Grind.{common_steps}
use Rattle.indexmap.specs.IndexMap.{insert_entry}
use Rattle.test_store.specs.Places.{place_of}
use Rattle.test_store.proofs.Placing.{found, places_kept, put_at, put_behind}
use Rattle.test_store.proofs.rows.Rows.put.Goals as goal

pub index_mut-requires : goal.index_mut-requires
index_mut-requires c =
    let rows = c.self.inside.rows.items in
    let there = found rows c.args.key c.in-Some.place.now (sym (c.self.invariant c.args.key) ∙ sym c.in-Some.ensures.value) in
    let within = slice_get_within rows c.in-Some.place.now there.0 there.1 in
    grind (arith, common_steps, within)

pub invariant_of-self : goal.invariant_of-self
invariant_of-self c k =
    c.self.invariant k
    ∙ sym (places_kept c.self.inside.rows.items c.args.key c.in-Some.place.now c.args.row k (sym (c.self.invariant c.args.key) ∙ sym c.in-Some.ensures.value))

pub returns-in-Some : goal.returns-in-Some
returns-in-Some c =
    sym (put_at c.self.inside.rows.items c.args.key c.in-Some.place.now c.args.row (sym (c.self.invariant c.args.key) ∙ sym c.in-Some.ensures.value))
    ∙ ap (λ t. insert_entry nat_eq t.rows c.args.key c.args.row) c.self.view_is

pub returns-in-None : goal.returns-in-None
returns-in-None c =
    c.put_new.ensures
    ∙ sym (put_behind _ c.args.key c.args.row (ap (λ t. place_of c.args.key t.rows) (sym c.self.view_is) ∙ sym (c.self.invariant c.args.key) ∙ sym c.in-None.ensures.value))
