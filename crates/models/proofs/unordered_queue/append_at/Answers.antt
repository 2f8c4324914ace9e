-- one more outcome
use Rattle.std.proofs.Common.{rules, ◌≡◌, ◌++◌, ◌∷◌, [], ℤ, pos, get_or, take, remove, sym, ◌∙◌, ap, subst, append_assoc, FitsSigned, to_z, of_z, w64, OnOk}
use Rattle.std.proofs.lemmas.Int.{to_z-of_z}
use Rattle.models.specs.declared.finding.Found.TheVariants.{Item}
use Rattle.values.specs.Multisets.{values_of}
use Rattle.models.specs.Objects.{taken_from}
use Rattle.models.proofs.Dequeues.{taken_new}
use Rattle.models.proofs.unordered_queue.append_at.Goals as goal

pub returns-clause-appended : goal.returns-clause-appended
returns-clause-appended c = λ others before.
    let s = c.args.state.now in
    let at = c.args.at in
    let value = c.get-value.result in
    let fits : FitsSigned w64 value = search rules in
    let passed : ℤ = to_z w64 (of_z w64 value) in
    let same : passed ≡ get_or s at (pos 0) = to_z-of_z w64 value fits ∙ c.get-value.ensures.value in
    let so_far = taken_from s (values_of (take at s)) in
    subst (λ l. OnOk c.put_outcome.result (c.put_outcome.new.outcomes.items ≡ l))
    (ap (λ l. l ++ (c.in_ok-rest.rest, Item passed) ∷ []) before
    ∙ append_assoc others so_far ((c.in_ok-rest.rest, Item passed) ∷ [])
    ∙ ap (λ r. others ++ (so_far ++ (r, Item passed) ∷ [])) c.in_ok-rest.ensures
    ∙ ap (λ w. others ++ (so_far ++ (remove s at, Item w) ∷ [])) same
    ∙ ap (λ l. others ++ l) (sym (taken_new s at (pos 0) c.requires.place c.get-value.ensures.never_falls c.requires.new)))
    c.put_outcome.ensures.put
