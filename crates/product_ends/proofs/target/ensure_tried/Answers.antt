use Rattle.std.proofs.Common.{inr, ◌∷◌, ◌∙◌, set, refl, sym, subst}
use Rattle.std.proofs.lemmas.Bool.{true≢false}
use Rattle.products.specs.Products.{AreIn}
use Rattle.product_ends.proofs.target.ensure_tried.Goals as goal

pub returns-in_err-try_each-clause-fresh : goal.returns-in_err-try_each-clause-fresh
returns-in_err-try_each-clause-fresh g c =
    let row = c.has_row.ensures.some c.if-not-has_row.false in
    inr ((
      λ was. true≢false (sym (c.transitions_in.ensures.tried c.requires.sound.within was) ∙ sym c.is_some.ensures ∙ c.if-is_some.false),
      (c.args.to.number ∷ row.0, (refl, subst (λ l. AreIn (set l c.args.to.place c.args.to.set) row.0) c.deref.ensures.value row.1)),
    )
    )

pub returns-clause-sound : goal.returns-clause-sound
returns-clause-sound g c = c.in_ok-try_each.ensures.sound c.requires.sound

pub returns-clause-tried : goal.returns-clause-tried
returns-clause-tried g c =
    let tried = c.in_ok-try_each.ensures.tried in
    record { kept = tried.kept; tried = λ _. tried.now; none = λ told. absurd (true≢false told) }

pub returns-clause-fresh : goal.returns-clause-fresh
returns-clause-fresh g c =
    let row = c.has_row.ensures.some c.if-not-has_row.false in
    inr ((
      λ was. true≢false (sym (c.transitions_in.ensures.tried c.requires.sound.within was) ∙ sym c.is_some.ensures ∙ c.if-is_some.false),
      (c.args.to.number ∷ row.0, (refl, subst (λ l. AreIn (set l c.args.to.place c.args.to.set) row.0) c.deref.ensures.value row.1)),
    )
    )
