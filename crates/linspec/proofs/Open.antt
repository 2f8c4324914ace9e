-- which operations are open after one more mark
use Rattle.std.proofs.Common.{◌≢◌, ℕ, ⊎_elim, List, [], ◌∷◌, ◌++◌, refl, sym, ap, subst}
use Rattle.std.proofs.lemmas.List.Elements.{Contains-append_left, Contains-push, Contains-push_cases}
use Rattle.models.specs.declared.operation.Op.{Op}
use Rattle.events.specs.Events.{Mark}
use Rattle.events.specs.Events.Mark.{Invoked, Returned, Failed, Crashed}
use Rattle.linspec.specs.Operations.{IsOpen}
use Rattle.linspec.specs.MarkRule.{id_of, IsNew}

-- a completion: an ok, a fail or an info
abbrev pub IsCompletion : Mark → Type 0
IsCompletion (Invoked id op) = ⊥
IsCompletion (Returned id answer) = Unit {0}
IsCompletion (Failed id) = Unit {0}
IsCompletion (Crashed id) = Unit {0}

pub no_invocation : (m : Mark) → IsCompletion m → (id : ℕ) (op : Op) → m ≢ Invoked id op
no_invocation m c id op e = subst IsCompletion e c

no_longer : (marks : List Mark) (m : Mark) → IsCompletion m → IsOpen (marks ++ m ∷ []) (id_of m) → ⊥
no_longer marks (Invoked i op) c h = c
no_longer marks (Returned i a) c h = h.not_returned (a, Contains-push marks _)
no_longer marks (Failed i) c h = h.not_failed (Contains-push marks _)
no_longer marks (Crashed i) c h = h.not_crashed (Contains-push marks _)

module _ (marks : List Mark) (m : Mark) (c : IsCompletion m) where
  pub was_open : (i : ℕ) → IsOpen (marks ++ m ∷ []) i → IsOpen marks i × (i ≢ id_of m)
  was_open i h = (
    record {
      invoked = (h.invoked.0, ⊎_elim (λ k. k) (λ e. absurd (no_invocation m c i h.invoked.0 e)) (Contains-push_cases marks m _ h.invoked.1));
      not_returned = λ r. h.not_returned (r.0, Contains-append_left marks (m ∷ []) _ r.1);
      not_failed = λ f. h.not_failed (Contains-append_left marks (m ∷ []) _ f);
      not_crashed = λ f. h.not_crashed (Contains-append_left marks (m ∷ []) _ f);
    },
    λ e. no_longer marks m c (subst (IsOpen (marks ++ m ∷ [])) e h),
  )

  pub stays_open : (i : ℕ) → IsOpen marks i → i ≢ id_of m → IsOpen (marks ++ m ∷ []) i
  stays_open i h ne = record {
    invoked = (h.invoked.0, Contains-append_left marks (m ∷ []) _ h.invoked.1);
    not_returned = λ r. ⊎_elim (λ k. h.not_returned (r.0, k)) (λ e. ne (sym (ap id_of e))) (Contains-push_cases marks m _ r.1);
    not_failed = λ f. ⊎_elim h.not_failed (λ e. ne (sym (ap id_of e))) (Contains-push_cases marks m _ f);
    not_crashed = λ f. ⊎_elim h.not_crashed (λ e. ne (sym (ap id_of e))) (Contains-push_cases marks m _ f);
  }

module _ (marks : List Mark) (id : ℕ) (op : Op) (new : IsNew marks id) where
  pub open_with_new : (i : ℕ) → IsOpen marks i → IsOpen (marks ++ Invoked id op ∷ []) i
  open_with_new i h = record {
    invoked = (h.invoked.0, Contains-append_left marks (Invoked id op ∷ []) _ h.invoked.1);
    not_returned = λ r. ⊎_elim (λ k. h.not_returned (r.0, k)) (λ e. cc) (Contains-push_cases marks (Invoked id op) _ r.1);
    not_failed = λ f. ⊎_elim h.not_failed (λ e. cc) (Contains-push_cases marks (Invoked id op) _ f);
    not_crashed = λ f. ⊎_elim h.not_crashed (λ e. cc) (Contains-push_cases marks (Invoked id op) _ f);
  }

  pub open_without_new : (i : ℕ) → i ≢ id → IsOpen (marks ++ Invoked id op ∷ []) i → IsOpen marks i
  open_without_new i ne h = record {
    invoked = (h.invoked.0, ⊎_elim (λ k. k) (λ e. absurd (ne (sym (ap id_of e)))) (Contains-push_cases marks (Invoked id op) _ h.invoked.1));
    not_returned = λ r. h.not_returned (r.0, Contains-append_left marks (Invoked id op ∷ []) _ r.1);
    not_failed = λ f. h.not_failed (Contains-append_left marks (Invoked id op ∷ []) _ f);
    not_crashed = λ f. h.not_crashed (Contains-append_left marks (Invoked id op ∷ []) _ f);
  }

  pub new_is_open : IsOpen (marks ++ Invoked id op ∷ []) id
  new_is_open = record {
    invoked = (op, Contains-push marks _);
    not_returned = λ r. ⊎_elim (λ k. new _ k refl) (λ e. cc) (Contains-push_cases marks (Invoked id op) _ r.1);
    not_failed = λ f. ⊎_elim (λ k. new _ k refl) (λ e. cc) (Contains-push_cases marks (Invoked id op) _ f);
    not_crashed = λ f. ⊎_elim (λ k. new _ k refl) (λ e. cc) (Contains-push_cases marks (Invoked id op) _ f);
  }
