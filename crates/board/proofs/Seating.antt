-- One new seat more.
use Rattle.std.proofs.Common.{◌≡◌, ◌⊎◌, ℕ, zero, suc, List, [], ◌∷◌, ◌++◌, length, Some, refl, sym, ap, subst, ◌∙◌, inl, inr, ⊎_elim}
use Rattle.std.specs.Prelude.{slice_get}
use Rattle.board.specs.declared.seat.SeatView.{SeatView}
use Rattle.board.specs.declared.tape.TapeEntry.{TapeEntry}
use Rattle.board.specs.Seat.{IsFresh}

snoc_get : {A : Type 0} (xs : List A) (x s : A) (k : ℕ) → slice_get (xs ++ x ∷ []) k ≡ Some s → (slice_get xs k ≡ Some s) ⊎ ((k ≡ length xs) × (x ≡ s))
snoc_get [] x s zero e = inr (refl, cc (e))
snoc_get [] x s (suc k) e = absurd (cc (e))
snoc_get (y ∷ ys) x s zero e = inl e
snoc_get (y ∷ ys) x s (suc k) e = ⊎_elim (λ a. inl a) (λ (t : (k ≡ length ys) × (x ≡ s)). inr (ap suc t.0, t.1)) (snoc_get ys x s k e)

-- one more, with the next number
pub fresh_on : {S C R : Type 0} (tape : List (TapeEntry S C R)) (seats all : List (SeatView S C R)) (n : ℕ) (new : SeatView S C R)
    → all ≡ seats ++ new ∷ [] → IsFresh tape seats → length seats ≡ n → (new.number ≡ n) × (new.count ≡ 0) × (new.tape ≡ tape)
    → IsFresh tape all
fresh_on tape seats all n new same fresh len is = subst (λ l. IsFresh tape l) (sym same) more where
  more : IsFresh tape (seats ++ new ∷ [])
  more k s e =
      ⊎_elim (λ a. fresh k s a)
      (λ (t : (k ≡ length seats) × (new ≡ s)). (ap (λ z. z.number) (sym t.1) ∙ is.0 ∙ sym len ∙ sym t.0, ap (λ z. z.count) (sym t.1) ∙ is.1, ap (λ z. z.tape) (sym t.1) ∙ is.2))
      (snoc_get seats new s k e)
