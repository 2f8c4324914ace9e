use Rattle.std.proofs.Common.{◌<◌, ◌+◌, ◌*◌, ℕ, List, length, get_or, set, take, drop, refl, ap, sym, ◌∙◌, subst, arith}
use Rattle.products.specs.Products.{Family, Product, IsInOne, laid_out}
use Rattle.products.proofs.Families.{kept_replaced, kept_same, laid_out_set, span_within, view_at, view_long, view_product}
use Rattle.products.proofs.products.Products.replace.Goals as goal

abbrev with_set : List Product → ℕ → ℕ → List ℕ → List Product
with_set products at first sets = set products at (first, sets)

pub overflow_mul-index : goal.overflow_mul-index
overflow_mul-index c =
    let i = c.self.inside in
    let long = view_long i.places i.firsts.items i.words.items c.args.self.now c.self.view_is in
    let ok = i.words.ok in
    let small = i.words.small in
    let at = c.requires.at in
    let span = span_within c.args.at i.places (length i.firsts.items) (length i.words.items) c.self.invariant.0 (omega (arith, long, at)) in
    omega (arith, ok, small, span)

pub overflow_add-index : goal.overflow_add-index
overflow_add-index c =
    let i = c.self.inside in
    let long = view_long i.places i.firsts.items i.words.items c.args.self.now c.self.view_is in
    let ok = i.words.ok in
    let small = i.words.small in
    let at = c.requires.at in
    let place = c.requires.place in
    let places = ap (λ (f : Family). f.0) c.self.view_is in
    let span = span_within c.args.at i.places (length i.firsts.items) (length i.words.items) c.self.invariant.0 (omega (arith, long, at)) in
    omega (arith, ok, small, span, place, places)

pub index_mut-requires : goal.index_mut-requires
index_mut-requires c =
    let i = c.self.inside in
    let long = view_long i.places i.firsts.items i.words.items c.args.self.now c.self.view_is in
    let ok = i.words.ok in
    let at = c.requires.at in
    let place = c.requires.place in
    let places = ap (λ (f : Family). f.0) c.self.view_is in
    let span = span_within c.args.at i.places (length i.firsts.items) (length i.words.items) c.self.invariant.0 (omega (arith, long, at)) in
    omega (arith, ok, span, place, places)

pub invariant_of-self : goal.invariant_of-self
invariant_of-self c =
    let i = c.self.inside in
    let long = view_long i.places i.firsts.items i.words.items c.args.self.now c.self.view_is in
    let at = c.requires.at in
    let place = c.requires.place in
    let places = ap (λ (f : Family). f.0) c.self.view_is in
    let within : c.args.at < length i.firsts.items = omega (arith, long, at) in
    let there = view_at i.places i.firsts.items i.words.items c.args.self.now c.self.view_is c.args.at within in
    let others = take i.places (drop (c.args.at * i.places) i.words.items) in
    let product : Product = (get_or i.firsts.items c.args.at 0, others) in
    kept_same i.places i.places _ _ i.firsts.items i.firsts.items
    (set i.words.items (c.args.at * i.places + c.args.place) c.args.set) _
    refl c.saturating_add-self-inside.ensures refl refl
    (kept_replaced i.places i.rows c.rows_of.result c.args.at c.args.place c.args.set c.args.sets.now i.firsts.items i.words.items c.self.invariant
    within (omega (arith, place, places)) c.rows_of.ensures
    (λ row h o. c.requires.apart product there row h (subst (λ l. IsInOne l row) (ap (λ (f : Family). f.1) c.self.view_is) o))
    (c.requires.joined product there) (c.requires.rows product there))

pub returns-clause-replaced : goal.returns-clause-replaced
returns-clause-replaced c product there =
    let i = c.self.inside in
    let long = view_long i.places i.firsts.items i.words.items c.args.self.now c.self.view_is in
    let at = c.requires.at in
    let place = c.requires.place in
    let places = ap (λ (f : Family). f.0) c.self.view_is in
    let within : c.args.at < length i.firsts.items = omega (arith, long, at) in
    let is = view_product i.places i.firsts.items i.words.items c.args.self.now c.self.view_is c.args.at within product there in
    laid_out_set i.places c.args.at c.args.place c.args.set i.firsts.items i.words.items within (omega (arith, place, places))
    ∙ ap (λ (p : Product). with_set (laid_out i.places i.firsts.items i.words.items) c.args.at p.0 (set p.1 c.args.place c.args.set)) (sym is)
    ∙ ap (λ (f : Family). with_set f.1 c.args.at product.0 (set product.1 c.args.place c.args.set)) c.self.view_is
