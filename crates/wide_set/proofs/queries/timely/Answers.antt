use Rattle.std.proofs.Common.{inl, inr, ⊎_elim, subst}
use Rattle.std.specs.List.{Contains}
use Rattle.linspec.proofs.Lists.{Contains-nil}
use Rattle.wide_set.proofs.queries.timely.Goals as goal

pub returns : goal.returns
returns c v =
    let a = c.in_ok-put_logged.ensures v in
    let b = c.in_ok-put_pending.ensures v in
    let m = c.in_ok-members.ensures.members v in (
      (λ h. ⊎_elim (λ k. ⊎_elim (λ j. absurd (Contains-nil v (subst (λ l. Contains l v) c.in_ok-values.ensures.items j))) inl (a.0 k)) inr (b.0 (m.0 h))),
      (λ h. m.1 (b.1 (⊎_elim (λ k. inl (a.1 (inr k))) inr h))),
    )
