use Rattle.std.proofs.Common.{ℕ, List, ap, ◌∙◌, subst}
use Rattle.checkpoints.specs.Noted.{IsNotedAt, noted_of}
use Rattle.checkpoints.proofs.Noted.{noted_others}
use Rattle.checkpoints.proofs.invocations.Invocations.forget.Goals as goal

pub returns-in-Some : goal.returns-in-Some
returns-in-Some c q ne =
    let xs : List (ℕ × ℕ) = c.self.inside.noted.items in
    let there : IsNotedAt xs c.args.process c.in-Some.at = subst (λ l. IsNotedAt l c.args.process c.in-Some.at) c.deref.ensures.value c.in-Some.ensures.there in
    ap (λ l. noted_of l q) c.remove.ensures.items
    ∙ noted_others xs c.in-Some.at c.args.process there.index there.is q ne
    ∙ ap (λ l. noted_of l q) c.self.view_is
