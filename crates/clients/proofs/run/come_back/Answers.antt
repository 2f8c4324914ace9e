use Rattle.std.proofs.Common.{◌≡◌, ◌∷◌, [], Some, None, map, sym, ap, subst, ◌∙◌, inl, inr}
use Rattle.clients.specs.Playing.{first_met}
use Rattle.clients.proofs.Lowest.{met_then, met_after}
use Rattle.clients.proofs.Results.{err_from}
use Rattle.clients.proofs.run.come_back.Goals as goal

pub returns-in-Some-clause-lowest : goal.returns-in-Some-clause-lowest
returns-in-Some-clause-lowest g c =
    inl (met_then (map (λ ended. ended.why) c.args.played.items) (c.args.struck.why ∷ []) c.in-Some.why
    (subst (λ l. first_met (map (λ ended. ended.why) l) ≡ Some c.in-Some.why) c.as_slice.ensures.value (sym c.in-Some.ensures.lowest)))

pub returns-in-Some-why-clause-lowest : goal.returns-in-Some-why-clause-lowest
returns-in-Some-why-clause-lowest g c =
    let none : first_met (map (λ ended. ended.why) c.args.played.items) ≡ None = subst (λ l. first_met (map (λ ended. ended.why) l) ≡ None) c.as_slice.ensures.value (sym c.first_refusal.ensures.lowest ∙ c.in_default.is) in
    inl (met_after (map (λ ended. ended.why) c.args.played.items) (c.args.struck.why ∷ []) none ∙ ap (λ o. first_met (o ∷ [])) c.in-Some-why.is)

pub returns-in_err-back-clause-lowest : goal.returns-in_err-back-clause-lowest
returns-in_err-back-clause-lowest g c =
    let none : first_met (map (λ ended. ended.why) c.args.played.items) ≡ None = subst (λ l. first_met (map (λ ended. ended.why) l) ≡ None) c.as_slice.ensures.value (sym c.first_refusal.ensures.lowest ∙ c.in_default.is) in
    let nowhere = met_after (map (λ ended. ended.why) c.args.played.items) (c.args.struck.why ∷ []) none ∙ ap (λ o. first_met (o ∷ [])) c.in_default-why.is in
    err_from c.from_residual.result c.from_residual.ensures.1 (λ why is. inr (nowhere, is))

pub returns-in_err-push-clause-lowest : goal.returns-in_err-push-clause-lowest
returns-in_err-push-clause-lowest g c =
    let none : first_met (map (λ ended. ended.why) c.args.played.items) ≡ None = subst (λ l. first_met (map (λ ended. ended.why) l) ≡ None) c.as_slice.ensures.value (sym c.first_refusal.ensures.lowest ∙ c.in_default.is) in
    let nowhere = met_after (map (λ ended. ended.why) c.args.played.items) (c.args.struck.why ∷ []) none ∙ ap (λ o. first_met (o ∷ [])) c.in_default-why.is in
    err_from c.from_residual-in_err-push.result c.from_residual-in_err-push.ensures.1 (λ why is. inr (nowhere, is))
