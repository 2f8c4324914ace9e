use Rattle.std.proofs.Common.{◌≡◌, cond, nat_eq, Some, length, sym, ap, ◌∙◌, arith}
use Rattle.std.proofs.lemmas.Grind.{common_steps}
use Rattle.test_store.specs.Places.{place_of}
use Rattle.test_store.proofs.Placing.{one_place}
use Rattle.test_store.proofs.rows.Rows.put_new.Goals as goal

pub invariant_of-self : goal.invariant_of-self
invariant_of-self c k =
    let rows = c.self.inside.rows.items in
    let key = c.args.key in
    let long : c.len.result ≡ length rows = grind (arith, common_steps) in
    c.in-Ok.ensures.updates.0 k
    ∙ ap (λ r. cond (nat_eq key k) (Some c.len.result) r) (c.self.invariant k)
    ∙ ap (λ n. cond (nat_eq key k) (Some n) (place_of k rows)) long
    ∙ sym (one_place rows key c.args.row k (ap (λ t. place_of key t.rows) c.self.view_is ∙ c.requires.new))
    ∙ ap (place_of k) (sym c.push_reserved.ensures.items)
