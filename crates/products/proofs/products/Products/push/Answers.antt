use Rattle.std.proofs.Common.{◌++◌, ◌∷◌, [], refl, ap, sym, ◌∙◌, subst}
use Rattle.products.specs.Products.{Family, IsInOne, laid_out}
use Rattle.products.proofs.Families.{kept_pushed, kept_same, laid_out_push}
use Rattle.products.proofs.products.Products.push.Goals as goal

pub invariant_of-self : goal.invariant_of-self
invariant_of-self c =
    let i = c.self.inside in
    kept_same i.places i.places i.rows i.rows i.firsts.items _ i.words.items i.words.items refl refl c.reserve.ensures.items refl c.self.invariant

pub invariant_of-self-in_err-append : goal.invariant_of-self-in_err-append
invariant_of-self-in_err-append c =
    let i = c.self.inside in
    kept_same i.places i.places i.rows i.rows i.firsts.items _ i.words.items _ refl refl c.reserve.ensures.items c.in_err-append.ensures.same c.self.invariant

pub invariant_of-self-2 : goal.invariant_of-self-2
invariant_of-self-2 c =
    let i = c.self.inside in
    kept_same i.places i.places _ _ (i.firsts.items ++ c.args.first ∷ []) _ (i.words.items ++ c.args.sets.now) _
    refl c.saturating_add-self-inside.ensures
    (c.push_reserved.ensures.items ∙ ap (λ l. l ++ c.args.first ∷ []) c.reserve.ensures.items) c.in_ok-append.ensures.items
    (kept_pushed i.places i.rows c.rows_of.result c.args.first c.args.sets.now i.firsts.items i.words.items c.self.invariant
    (c.requires.long ∙ sym (ap (λ (f : Family). f.0) c.self.view_is)) c.rows_of.ensures
    (λ row h o. c.requires.apart row h (subst (λ l. IsInOne l row) (ap (λ (f : Family). f.1) c.self.view_is) o)))

pub returns-clause-pushed : goal.returns-clause-pushed
returns-clause-pushed c =
    let i = c.self.inside in
    ap (λ l. laid_out i.places l c.append.new.list.items) (c.push_reserved.ensures.items ∙ ap (λ l. l ++ c.args.first ∷ []) c.reserve.ensures.items)
    ∙ ap (λ l. laid_out i.places (i.firsts.items ++ c.args.first ∷ []) l) c.in_ok-append.ensures.items
    ∙ laid_out_push i.places c.args.first c.args.sets.now i.firsts.items i.words.items c.self.invariant.0 (c.requires.long ∙ sym (ap (λ (f : Family). f.0) c.self.view_is))
    ∙ ap (λ (f : Family). f.1 ++ (c.args.first, c.args.sets.now) ∷ []) c.self.view_is
