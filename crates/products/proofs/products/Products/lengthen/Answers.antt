use Rattle.std.proofs.Common.{◌≡◌, ◌+◌, ◌-◌, ◌*◌, ◌++◌, ◌∷◌, [], ℕ, List, length, map, take, drop, ap, sym, ◌∙◌, refl, arith}
use Rattle.std.proofs.lemmas.List.{append_assoc}
use Rattle.products.specs.Products.{Family, Product, laid_out}
use Rattle.products.proofs.Families.{kept_longer, kept_same, laid_out_longer, longer, longer_more, with_zero}
use Rattle.products.proofs.products.Products.lengthen.Goals as goal

abbrev pair : ℕ → List Product → Family
pair n l = (n, l)

abbrev family_of : ℕ → List ℕ → List ℕ → Family
family_of places firsts words = (places, laid_out places firsts words)

pub loop-at-preserved : goal.loop-at-preserved
loop-at-preserved c =
    let i = c.self.inside in
    let at = c.loop-at.at in
    let one : at * i.places + i.places - at * i.places ≡ i.places = omega arith in
    c.in_ok-push.ensures.items
    ∙ ap (λ l. l ++ 1 ∷ []) (c.in_ok-append.ensures.items
    ∙ ap (λ l. l ++ take (at * i.places + i.places - at * i.places) (drop (at * i.places) c.deref.result.now)) c.loop-at.invariant
    ∙ ap (λ n. longer i.places at i.words.items ++ take n (drop (at * i.places) c.deref.result.now)) one
    ∙ ap (λ w. longer i.places at i.words.items ++ take i.places (drop (at * i.places) w)) c.deref.ensures.value)
    ∙ append_assoc (longer i.places at i.words.items) (take i.places (drop (at * i.places) i.words.items)) (1 ∷ [])
    ∙ sym (longer_more i.places at i.words.items)

-- the words behind the loop
words_after : (c : goal.After-self-1) → c.loop-at.words.items ≡ longer c.self.inside.places (length c.self.inside.firsts.items) c.self.inside.words.items
words_after c =
    let i = c.self.inside in
    let all : c.loop-at.at ≡ length i.firsts.items =
    omega (arith, c.loop-at-test.false, c.loop-at.auto.at-end, c.len-at-end.ensures, i.firsts.ok) in
    c.loop-at.invariant ∙ ap (λ n. longer i.places n i.words.items) all

pub invariant_of-self : goal.invariant_of-self
invariant_of-self c =
    let i = c.self.inside in
    kept_same (i.places + 1) c.in-Some.places i.rows i.rows i.firsts.items i.firsts.items
    (longer i.places (length i.firsts.items) i.words.items) c.loop-at.words.items
    c.in-Some.ensures.1 refl refl (words_after c)
    (kept_longer i.places i.rows i.firsts.items i.words.items c.self.invariant)

pub returns-clause-longer : goal.returns-clause-longer
returns-clause-longer c =
    let i = c.self.inside in
    ap (λ (n : ℕ). family_of n i.firsts.items c.loop-at.words.items) c.in-Some.ensures.1
    ∙ ap (family_of (i.places + 1) i.firsts.items) (words_after c)
    ∙ ap (λ (l : List Product). pair (i.places + 1) l) (laid_out_longer i.places i.firsts.items i.words.items c.self.invariant.0)
    ∙ ap (λ (f : Family). pair (f.0 + 1) (map with_zero f.1)) c.self.view_is
