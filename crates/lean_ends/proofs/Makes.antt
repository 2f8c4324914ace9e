-- the ends that a write, or the end of an operation, makes of an end
use Rattle.std.proofs.Common.{◌≡◌, ◌↔◌, ℕ, ℤ, ◌⊎◌, inl, inr, ⊎_elim, Bool, true, false, IsTrue, Option, Some, None, List, refl, sym, ap, ◌∙◌}
use Rattle.std.specs.Ordering.{int_eq}
use Rattle.std.proofs.lemmas.Bool.{cases_Bool, cases_eq, true≢false}
use Rattle.std.proofs.lemmas.Bool.Decides.{Decides-int_eq}
use Rattle.events.specs.Events.{Mark}
use Rattle.linspec.specs.MarkRule.{AreWellFormed}
use Rattle.linspec.specs.LeanEnds.{LeanEnd, MayRead, MayWrite, IsPutBehind, IsPutBefore, IsWithout, IsWithRead}
use Rattle.lean_ends.proofs.Once.{may_read_or_not, may_write_or_not}

abbrev pub Decided : Type 0 → Type 0
Decided P = P ⊎ (¬ P)

pub is_true : (b : Bool) → Decided (IsTrue b)
is_true b = ⊎_elim inl (λ f. inr (λ t. true≢false (sym t ∙ f))) (cases_Bool b)

both : {P Q : Type 0} → Decided P → Decided Q → Decided (P × Q)
both p q = ⊎_elim (λ a. ⊎_elim (λ b. inl (a, b)) (λ n. inr (λ h. n h.1)) q) (λ n. inr (λ h. n h.0)) p

three : {P Q R : Type 0} → Decided P → Decided Q → Decided R → Decided (P × Q × R)
three p q r = ⊎_elim (λ a. ⊎_elim (λ b. ⊎_elim (λ c. inl (a, b, c)) (λ n. inr (λ h. n h.2)) r) (λ n. inr (λ h. n h.1)) q) (λ n. inr (λ h. n h.0)) p

either : {P Q : Type 0} → Decided P → Decided Q → Decided (P ⊎ Q)
either p q = ⊎_elim (λ a. inl (inl a)) (λ n. ⊎_elim (λ b. inl (inr b)) (λ m. inr (λ h. ⊎_elim n m h)) q) p

neither : {P : Type 0} → Decided P → Decided (¬ P)
neither p = ⊎_elim (λ a. inr (λ n. n a)) inl p

same_int : (v w : ℤ) → Decided (v ≡ w)
same_int v w = ⊎_elim (λ e. inl ((Decides-int_eq v w).0 e)) (λ e. inr (λ q. true≢false (sym ((Decides-int_eq v w).1 q) ∙ e))) (cases_Bool (int_eq v w))

same_state : (s : Option ℤ) (w : ℤ) → Decided (s ≡ Some w)
same_state None w = inr (λ e. cc)
same_state (Some v) w = ⊎_elim (λ e. inl (ap Some e)) (λ n. inr (λ e. n (let t : v ≡ w = cc in t))) (same_int v w)

bool_of : {P : Type 0} → Decided P → (b : Bool) × (IsTrue b ↔ P)
bool_of d = ⊎_elim (λ p. (true, ((λ e. p), (λ e. refl)))) (λ n. (false, ((λ e. absurd (true≢false (sym e))), (λ p. absurd (n p))))) d

abbrev Chosen : (ℕ → Type 0) → (ℕ → Bool) → Type 0
Chosen P f = (i : ℕ) → IsTrue (f i) ↔ P i

choose : (P : ℕ → Type 0) → ((i : ℕ) → Decided (P i)) → (f : ℕ → Bool) × Chosen P f
choose P dec = ((λ i. (bool_of (dec i)).0), (λ i. (bool_of (dec i)).1))

choose2 : (P : ℕ → ℤ → Type 0) → ((i : ℕ) (w : ℤ) → Decided (P i w)) → (f : ℕ → ℤ → Bool) × ((i : ℕ) (w : ℤ) → IsTrue (f i w) ↔ P i w)
choose2 P dec = ((λ i w. (bool_of (dec i w)).0), (λ i w. (bool_of (dec i w)).1))

module _ (marks : List Mark) (well : AreWellFormed marks) (e : LeanEnd) where
  pub some_behind : (id : ℕ) (v : ℤ) → (f : LeanEnd) × IsPutBehind marks e id v f
  some_behind id v =
      let n = choose (λ i. (i ≡ id) ⊎ IsTrue (e.needed i)) (λ i. either (cases_eq i id) (is_true (e.needed i))) in
      let d = choose (λ i. (MayRead marks i ⊎ ((w : ℤ) × MayWrite marks i w)) × (¬ IsTrue (n.0 i)))
      (λ i. both (either (may_read_or_not marks well i) (may_write_or_not marks well i)) (neither (is_true (n.0 i)))) in
      let s = choose2 (λ r w. IsTrue (e.finds r w) ⊎ (MayRead marks r × (w ≡ v)))
      (λ r w. either (is_true (e.finds r w)) (both (may_read_or_not marks well r) (same_int w v))) in
      (record { state = Some v; needed = n.0; door = d.0; finds = s.0 }, record { state = refl; needed = n.1; door = d.1; finds = s.1 })

  pub some_before : (id : ℕ) (v : ℤ) → IsTrue (e.door id) → (f : LeanEnd) × IsPutBefore marks e id v f
  some_before id v may =
      let n = choose (λ i. (i ≡ id) ⊎ IsTrue (e.needed i)) (λ i. either (cases_eq i id) (is_true (e.needed i))) in
      let d = choose (λ i. IsTrue (e.door i) × (¬ (i ≡ id))) (λ i. both (is_true (e.door i)) (neither (cases_eq i id))) in
      let s = choose2 (λ r w. IsTrue (e.finds r w) ⊎ (MayRead marks r × IsTrue (e.door r) × (w ≡ v)))
      (λ r w. either (is_true (e.finds r w)) (three (may_read_or_not marks well r) (is_true (e.door r)) (same_int w v))) in
      (record { state = e.state; needed = n.0; door = d.0; finds = s.0 }, record { may = may; state = refl; needed = n.1; door = d.1; finds = s.1 })

module _ (e : LeanEnd) (id : ℕ) where
  pub some_without : (f : LeanEnd) × IsWithout e id f
  some_without =
      let n = choose (λ i. IsTrue (e.needed i) × (¬ (i ≡ id))) (λ i. both (is_true (e.needed i)) (neither (cases_eq i id))) in
      let d = choose (λ i. IsTrue (e.door i) × (¬ (i ≡ id))) (λ i. both (is_true (e.door i)) (neither (cases_eq i id))) in
      let s = choose2 (λ r w. IsTrue (e.finds r w) × (¬ (r ≡ id))) (λ r w. both (is_true (e.finds r w)) (neither (cases_eq r id))) in
      (record { state = e.state; needed = n.0; door = d.0; finds = s.0 }, record { state = refl; needed = n.1; door = d.1; finds = s.1 })

  pub some_with_read : (f : LeanEnd) × IsWithRead e id f
  some_with_read =
      let s = choose2 (λ r w. IsTrue (e.finds r w) ⊎ ((r ≡ id) × (e.state ≡ Some w)))
      (λ r w. either (is_true (e.finds r w)) (both (cases_eq r id) (same_state e.state w))) in
      (record { state = e.state; needed = e.needed; door = e.door; finds = s.0 }, record { state = refl; needed = refl; door = refl; finds = s.1 })
