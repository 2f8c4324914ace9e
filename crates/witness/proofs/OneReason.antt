-- one thing alone does not fit first, for one reason
use Rattle.std.proofs.Common.{◌≡◌, ℕ, zero, suc, ◌<◌, ◌⊎◌, inl, inr, ⊎_elim, Some, List, length, slice_get, refl, sym, ap, ◌∙◌, subst, arith}
use Rattle.std.proofs.lemmas.Bool.{cases_order}
use Rattle.std.proofs.lemmas.Option.{slice_get_within}
use Rattle.kinds.specs.declared.model_kind.ModelKind.{ModelKind}
use Rattle.events.specs.declared.event.Event.{Event}
use Rattle.witness.specs.declared.mismatch.MismatchReason.{MismatchReason}
use Rattle.witness.specs.declared.mismatch.MismatchReason.TheVariants.{NoEvent, NoInvocation, Twice, Failed, TooLate, CannotTakePlace, AnotherAnswer, LeftOut}
use Rattle.witness.specs.declared.mismatch.Mismatch.{Mismatch}
use Rattle.witness.specs.Orders.{IsLeftOut, IsMismatchReason, rank_of, NoneOfLesserRank, IsMismatch, ComesFirst}

-- a rank is of one reason
why_of : ℕ → MismatchReason
why_of zero = NoEvent
why_of (suc zero) = NoInvocation
why_of (suc (suc zero)) = Failed
why_of (suc (suc (suc zero))) = Twice
why_of (suc (suc (suc (suc zero)))) = TooLate
why_of (suc (suc (suc (suc (suc zero))))) = CannotTakePlace
why_of (suc (suc (suc (suc (suc (suc zero)))))) = AnotherAnswer
why_of (suc (suc (suc (suc (suc (suc (suc n))))))) = LeftOut

its_why : (why : MismatchReason) → why_of (rank_of why) ≡ why
unfolding why_of
its_why NoEvent = refl
its_why NoInvocation = refl
its_why Failed = refl
its_why Twice = refl
its_why TooLate = refl
its_why CannotTakePlace = refl
its_why AnotherAnswer = refl
its_why LeftOut = refl

same_rank : (why other : MismatchReason) → rank_of why ≡ rank_of other → why ≡ other
same_rank why other e = sym (its_why why) ∙ ap why_of e ∙ its_why other

module _ (kind : ModelKind) (events : List Event) (order : List ℕ) where
  one_why : (place id : ℕ) (why other : MismatchReason) → IsMismatchReason kind events order place id why → NoneOfLesserRank kind events order place id why
      → IsMismatchReason kind events order place id other → NoneOfLesserRank kind events order place id other → why ≡ other
  one_why place id why other is told is' told' =
      ⊎_elim
      (λ e. same_rank why other e)
      (λ h. ⊎_elim (λ lt. absurd (told' why lt is)) (λ lt. absurd (told other lt is')) h)
      (cases_order (rank_of why) (rank_of other))

  -- there is an operation at the place, or one is left out
  positions : (place id : ℕ) (why : MismatchReason) → IsMismatchReason kind events order place id why → (slice_get order place ≡ Some id) ⊎ ((place ≡ length order) × IsLeftOut events order id)
  positions place id LeftOut m = inr m
  positions place id why m = inl m.0

  out : (place id other : ℕ) → slice_get order place ≡ Some id → (place ≡ length order) × IsLeftOut events order other → ⊥
  out place id other at h = let within = slice_get_within order place id at in let e = h.0 in omega (arith, within, e)

  first_out : (id other : ℕ) → IsLeftOut events order id → IsLeftOut events order other → id ≡ other
  first_out id other a b =
      ⊎_elim
      (λ e. e)
      (λ h. ⊎_elim (λ (lt : id < other). absurd (a.missing (b.first id lt a.returned))) (λ (lt : other < id). absurd (b.missing (a.first other lt b.returned))) h)
      (cases_order id other)

  one_event : (place id other : ℕ) (why why' : MismatchReason) → IsMismatchReason kind events order place id why → IsMismatchReason kind events order place other why' → id ≡ other
  one_event place id other why why' a b =
      ⊎_elim
      (λ at. ⊎_elim (λ at'. some_one at at') (λ h. absurd (out place id other at h)) (positions place other why' b))
      (λ h. ⊎_elim (λ at'. absurd (out place other id at' h)) (λ h'. first_out id other h.1 h'.1) (positions place other why' b))
      (positions place id why a)
    where
      some_one : slice_get order place ≡ Some id → slice_get order place ≡ Some other → id ≡ other
      some_one at at' = (let both : Some id ≡ Some other = sym at ∙ at' in cc)

  pub one_mismatch : (mismatch other : Mismatch) → IsMismatch kind events order mismatch → ComesFirst kind events order mismatch → IsMismatch kind events order other → ComesFirst kind events order other → mismatch ≡ other
  one_mismatch mismatch other a first b first' =
      let l = first other.place other.event other.why b.is_so in
      let g = first' mismatch.place mismatch.event mismatch.why a.is_so in
      let place : mismatch.place ≡ other.place = omega (arith, l, g) in
      let b_so : IsMismatchReason kind events order mismatch.place other.event other.why = subst (λ p. IsMismatchReason kind events order p other.event other.why) (sym place) b.is_so in
      let b_told = subst (λ p. NoneOfLesserRank kind events order p other.event other.why) (sym place) b.told in
      let event : mismatch.event ≡ other.event = one_event mismatch.place mismatch.event other.event mismatch.why other.why a.is_so b_so in
      let why : mismatch.why ≡ other.why = one_why mismatch.place mismatch.event mismatch.why other.why a.is_so a.told
      (subst (λ i. IsMismatchReason kind events order mismatch.place i other.why) (sym event) b_so) (subst (λ i. NoneOfLesserRank kind events order mismatch.place i other.why) (sym event) b_told) in
      ap (λ p. record { place = p; event = mismatch.event; why = mismatch.why }) place ∙ ap (λ e. record { place = other.place; event = e; why = mismatch.why }) event ∙ ap (λ w. record { place = other.place; event = other.event; why = w }) why
