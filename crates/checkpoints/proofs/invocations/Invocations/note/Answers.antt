use Rattle.std.proofs.Common.{◌≡◌, ℕ, cond, nat_eq, List, Some, None, refl, ap, ◌∙◌, ◌++◌, ◌∷◌, [], subst}
use Rattle.checkpoints.specs.Noted.{noted_of}
use Rattle.checkpoints.proofs.Noted.{noted_more}
use Rattle.checkpoints.proofs.invocations.Invocations.note.Goals as goal

pub returns-in_ok-push-in-None-clause-noted : goal.returns-in_ok-push-in-None-clause-noted
returns-in_ok-push-in-None-clause-noted c q =
    let xs : List (ℕ × ℕ) = c.self.inside.noted.items in
    let none : noted_of xs c.args.process ≡ None = subst (λ l. noted_of l c.args.process ≡ None) c.deref.ensures.value (c.in-None.ensures.none refl) in
    ap (λ l. noted_of l q) c.in_ok-push-in-None.ensures.items
    ∙ ap (λ l. noted_of (l ++ (c.args.process, c.args.index) ∷ []) q) c.reserve_exact.ensures.items
    ∙ noted_more xs c.args.process none c.args.index q
    ∙ ap (λ l. cond (nat_eq q c.args.process) (Some c.args.index) (noted_of l q)) c.self.view_is
