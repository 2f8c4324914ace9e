-- which invocations are noted, where an event is prepared, and which operations are open
use Rattle.std.proofs.Common.{◌≡◌, ◌≢◌, ℕ, ⊎_elim, cond, nat_eq, Option, Some, None, refl, sym, ap, ◌∙◌, subst}
use Rattle.std.proofs.lemmas.Bool.{cases_eq}
use Rattle.models.specs.declared.operation.Op.{Op}
use Rattle.events.specs.declared.event.EventKind.{EventKind}
use Rattle.events.specs.declared.event.EventKind.TheVariants as kinds
use Rattle.events.specs.Events.{act_by, last_by}
use Rattle.events.specs.ProcessRule.{MayAct, busy_by}
use Rattle.linspec.proofs.Histories.{cond_same, cond_other}
use Rattle.checkpoints.specs.LiveKey.{id_by, closed_by}

-- an invocation is noted
abbrev pub IsNoted : ℕ → EventKind → Option ℕ → Type 0
IsNoted index kinds.Invoke at = at ≡ Some index
IsNoted index kinds.Ok at = Unit {0}
IsNoted index kinds.Fail at = Unit {0}
IsNoted index kinds.Info at = Unit {0}

-- who is busy after the event, and with what
module _ (index p key : ℕ) (op : Op) (last : ℕ → ℕ) (busy : ℕ → Option ℕ) (was now : ℕ → Option ℕ) (knows : (q k : ℕ) → busy q ≡ Some k → was q ≡ Some (last q)) (others : (q : ℕ) → q ≢ p → now q ≡ was q) where
  closed : (q k : ℕ) → cond (nat_eq q p) None (busy q) ≡ Some k → now q ≡ Some (last q)
  closed q k h =
      ⊎_elim
      (λ e. (let clash : None ≡ Some k = sym (cond_same q p None (busy q) e) ∙ h in cc))
      (λ ne. others q ne ∙ knows q k (sym (cond_other q p None (busy q) ne) ∙ h))
      (cases_eq q p)

  pub knows_after : (kind : EventKind) → IsNoted index kind (now p) → (q k : ℕ) → busy_by busy p key (act_by kind op) q ≡ Some k → now q ≡ Some (last_by index last p (act_by kind op) q)
  knows_after kinds.Invoke is q k h =
      ⊎_elim
      (λ e. ap now e ∙ is ∙ ap Some (sym (cond_same q p index (last q) e)))
      (λ ne. others q ne ∙ knows q k (sym (cond_other q p (Some key) (busy q) ne) ∙ h) ∙ ap Some (sym (cond_other q p index (last q) ne)))
      (cases_eq q p)
  knows_after kinds.Ok is q k h = closed q k h
  knows_after kinds.Fail is q k h = closed q k h
  knows_after kinds.Info is q k h = closed q k h

  -- the process of an invocation was not busy, and what a completion closes stays noted
  still_here : (kind : EventKind) → MayAct busy p key (act_by kind op) → now p ≡ id_by index kind (was p) → (k : ℕ) → busy p ≡ Some k → now p ≡ Some (last p)
  still_here kinds.Invoke may is k h = (let clash : None ≡ Some k = sym may.0 ∙ h in cc)
  still_here kinds.Ok may is k h = is ∙ knows p k h
  still_here kinds.Fail may is k h = is ∙ knows p k h
  still_here kinds.Info may is k h = is ∙ knows p k h

  pub still_known : (kind : EventKind) → MayAct busy p key (act_by kind op) → now p ≡ id_by index kind (was p) → (q k : ℕ) → busy q ≡ Some k → now q ≡ Some (last q)
  still_known kind may is q k h =
      ⊎_elim
      (λ e. subst (λ r. busy r ≡ Some k → now r ≡ Some (last r)) (sym e) (still_here kind may is k) h)
      (λ ne. others q ne ∙ knows q k h)
      (cases_eq q p)

-- the process that is closed has no open operation
module _ (p key : ℕ) (op : Op) (busy : ℕ → Option ℕ) where
  left_none : (q : ℕ) → Some p ≡ Some q → cond (nat_eq q p) None (busy q) ≡ None
  left_none q is = (let same : q ≡ p = cc in cond_same q p None (busy q) same)

  pub none_closed : (kind : EventKind) (q : ℕ) → closed_by p kind ≡ Some q → busy_by busy p key (act_by kind op) q ≡ None
  none_closed kinds.Invoke q is = (let clash : None ≡ Some q = is in cc)
  none_closed kinds.Ok q is = left_none q is
  none_closed kinds.Fail q is = left_none q is
  none_closed kinds.Info q is = left_none q is

-- an event that is prepared
module _ (index p : ℕ) (kind : EventKind) (was now : ℕ → Option ℕ) (noted : (q : ℕ) → now q ≡ cond (nat_eq q p) (id_by index kind (was q)) (was q)) where
  pub noted_others : (q : ℕ) → q ≢ p → now q ≡ was q
  noted_others q ne = noted q ∙ cond_other q p (id_by index kind (was q)) (was q) ne

  pub noted_as : now p ≡ id_by index kind (was p)
  noted_as = noted p ∙ cond_same p p (id_by index kind (was p)) (was p) refl

  pub noted_here : IsNoted index kind (now p)
  noted_here = is_noted kind noted_as
    where
      is_noted : (k : EventKind) → now p ≡ id_by index k (was p) → IsNoted index k (now p)
      is_noted kinds.Invoke is = is
      is_noted kinds.Ok is = tt
      is_noted kinds.Fail is = tt
      is_noted kinds.Info is = tt
