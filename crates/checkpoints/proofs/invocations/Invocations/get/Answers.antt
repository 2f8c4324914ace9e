use Rattle.std.proofs.Common.{◌≡◌, ℕ, List, Some, sym, ap, ◌∙◌, subst}
use Rattle.std.proofs.lemmas.Option.{get_or_from_slice_get}
use Rattle.checkpoints.specs.Noted.{IsNotedAt, noted_of}
use Rattle.checkpoints.proofs.Noted.{noted_here}
use Rattle.checkpoints.proofs.invocations.Invocations.get.Goals as goal

pub returns-in-Some : goal.returns-in-Some
returns-in-Some c =
    let xs : List (ℕ × ℕ) = c.self.inside.noted.items in
    let there : IsNotedAt xs c.args.process c.in-Some.at = subst (λ l. IsNotedAt l c.args.process c.in-Some.at) c.deref.ensures.value c.in-Some.ensures.there in
    let pair : ℕ × ℕ = c.index-pair.result.now in
    let same : pair ≡ (c.args.process, there.index) = c.index-pair.ensures ∙ get_or_from_slice_get xs c.in-Some.at (c.args.process, there.index) pair there.is in
    ap (λ (p : ℕ × ℕ). Some p.1) same
    ∙ sym (noted_here xs c.in-Some.at c.args.process there.index there.first there.is)
    ∙ ap (λ l. noted_of l c.args.process) c.self.view_is
