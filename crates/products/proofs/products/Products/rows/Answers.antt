use Rattle.std.proofs.Common.{◌≤◌, ◌<◌, ◌*◌, length, length-drop, drop, ap, ◌∙◌, subst, arith}
use Rattle.std.proofs.lemmas.List.{length-take-le}
use Rattle.std.proofs.lemmas.Option.{slice_get_within}
use Rattle.products.specs.Products.{AreApart, Family, Product}
use Rattle.products.proofs.Families.{span_within, view_long, view_product}
use Rattle.products.proofs.products.Products.rows.Goals as goal

pub returns-clause-apart : goal.returns-clause-apart
returns-clause-apart c = subst AreApart (ap (λ (f : Family). f.1) c.self.view_is) c.self.invariant.1

pub returns-clause-long : goal.returns-clause-long
returns-clause-long c at product there =
    let i = c.self.inside in
    let firsts = i.firsts.items in
    let words = i.words.items in
    let view = c.self.view_is in
    let within : at < length firsts = (let l = view_long i.places firsts words c.args.self.now view in let lt = slice_get_within c.args.self.now.1 at product there in omega (arith, l, lt)) in
    let span = span_within at i.places (length firsts) (length words) c.self.invariant.0 within in
    let left = length-drop (at * i.places) words in
    let enough : i.places ≤ length (drop (at * i.places) words) = omega (arith, span, left) in
    ap (λ (p : Product). length p.1) (view_product i.places firsts words c.args.self.now view at within product there)
    ∙ length-take-le i.places (drop (at * i.places) words) enough
    ∙ ap (λ (f : Family). f.0) view
