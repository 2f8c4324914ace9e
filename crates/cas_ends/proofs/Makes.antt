-- the end that a cas makes of an end
use Rattle.std.proofs.Common.{◌≡◌, ◌↔◌, ℕ, ℤ, ◌⊎◌, inl, inr, ⊎_elim, Bool, true, false, IsTrue, Some, List, refl, sym, ◌∙◌}
use Rattle.std.specs.Ordering.{int_eq}
use Rattle.std.proofs.lemmas.Bool.{cases_Bool, cases_eq, true≢false}
use Rattle.std.proofs.lemmas.Bool.Decides.{Decides-int_eq}
use Rattle.events.specs.Events.{Mark}
use Rattle.linspec.specs.MarkRule.{AreWellFormed}
use Rattle.linspec.specs.LeanEnds.{LeanEnd, MayRead}
use Rattle.lean_ends.proofs.Once.{may_read_or_not}
use Rattle.lean_ends.proofs.Makes.{Decided, is_true}
use Rattle.linspec.specs.CasEnds.{IsSetBehind}

both : {P Q : Type 0} → Decided P → Decided Q → Decided (P × Q)
both p q = ⊎_elim (λ a. ⊎_elim (λ b. inl (a, b)) (λ n. inr (λ h. n h.1)) q) (λ n. inr (λ h. n h.0)) p

either : {P Q : Type 0} → Decided P → Decided Q → Decided (P ⊎ Q)
either p q = ⊎_elim (λ a. inl (inl a)) (λ n. ⊎_elim (λ b. inl (inr b)) (λ m. inr (λ h. ⊎_elim n m h)) q) p

same_int : (v w : ℤ) → Decided (v ≡ w)
same_int v w = ⊎_elim (λ e. inl ((Decides-int_eq v w).0 e)) (λ e. inr (λ q. true≢false (sym ((Decides-int_eq v w).1 q) ∙ e))) (cases_Bool (int_eq v w))

bool_of : {P : Type 0} → Decided P → (b : Bool) × (IsTrue b ↔ P)
bool_of d = ⊎_elim (λ p. (true, ((λ e. p), (λ e. refl)))) (λ n. (false, ((λ e. absurd (true≢false (sym e))), (λ p. absurd (n p))))) d

module _ (marks : List Mark) (well : AreWellFormed marks) (e : LeanEnd) where
  need : (id i : ℕ) → Decided ((i ≡ id) ⊎ IsTrue (e.needed i))
  need id i = either (cases_eq i id) (is_true (e.needed i))

  find : (b : ℤ) (r : ℕ) (w : ℤ) → Decided (IsTrue (e.finds r w) ⊎ (MayRead marks r × (w ≡ b)))
  find b r w = either (is_true (e.finds r w)) (both (may_read_or_not marks well r) (same_int w b))

  pub some_set : (id : ℕ) (a b : ℤ) → e.state ≡ Some a → (f : LeanEnd) × IsSetBehind marks e id a b f
  some_set id a b at = (
    record { state = Some b; needed = λ i. (bool_of (need id i)).0; door = e.door; finds = λ r w. (bool_of (find b r w)).0 },
    record {
      takes = at;
      state = refl;
      needed = λ i. (bool_of (need id i)).1;
      door = λ i. ((λ h. h), (λ h. h));
      finds = λ r w. (bool_of (find b r w)).1;
    },
  )
