use Rattle.std.proofs.Common.{◌≡◌, nat_eq, map, sym, ap, ◌∙◌, refl, arith}
use Rattle.std.specs.Map.{lookup}
use Rattle.std.proofs.lemmas.Grind.{common_steps}
use Rattle.test_store.specs.Copies.{healed_entry}
use Rattle.test_store.specs.Places.{place_of}
use Rattle.test_store.proofs.Placing.{cloned, places_mapped}
use Rattle.test_store.proofs.rows.Rows.healed.Goals as goal

pub invariant_of-result : goal.invariant_of-result
invariant_of-result c k =
    let ups = c.args.ups.now in
    let rows = c.self.inside.rows.items in
    let all : c.loop-place.rows.items ≡ map (healed_entry ups) rows = grind (arith, common_steps) in
    ap (lookup (nat_eq k)) (cloned c.self.inside.places.entries c.in_ok-places.places.entries c.in_ok-places.ensures.cases)
    ∙ c.self.invariant k
    ∙ sym (places_mapped (healed_entry ups) (λ x. refl) rows k)
    ∙ ap (place_of k) (sym all)
