-- Moves that follow the rule: one more, and that busy processes are current ones
use Rattle.std.proofs.Common.{◌≡◌, ◌≢◌, ℕ, true, false, List, [], ◌∷◌, ◌++◌, refl, sym, ap, ◌∙◌, subst, append_assoc, append-nil, ⊎_elim, ◌⊎◌, inl, inr}
use Rattle.std.proofs.lemmas.Bool.{cases_eq, ne_eqb}
use Rattle.processes.specs.MoveRule.{Move, process_of, thread_of, is_crash_on, current_of, is_busy, IsCurrent, MayMove, FollowMoveRule}
use Rattle.processes.specs.MoveRule.Move.{Invokes, Completes, Crashes}
use Rattle.processes.proofs.Pushing.{is_busy-own, is_busy-other, current_of-same}

no_more : {X : Type 0} (xs ys : List X) → xs ++ ys ≡ [] → ys ≡ []
no_more [] ys h = h
no_more (x ∷ xs) ys h = cc

-- a list that ends with e, cut before an element f: f is e and ends it, or the cut is one of the list without e
snoc_cut : {X : Type 0} (before after xs : List X) (e f : X) → xs ++ e ∷ [] ≡ before ++ f ∷ after → ((f ≡ e) × (before ≡ xs)) ⊎ ((rest : List X) × (xs ≡ before ++ f ∷ rest))
snoc_cut [] after [] e f h = inl ((let q : e ≡ f = cc in sym q), refl)
snoc_cut [] after (x ∷ xs) e f h = inr (xs, (let q : x ≡ f = cc in ap (λ y. y ∷ xs) q))
snoc_cut (b ∷ before) after [] e f h = (let none : [] ≡ before ++ f ∷ after = cc in let last : f ∷ after ≡ [] = no_more before (f ∷ after) (sym none) in cc)
snoc_cut (b ∷ before) after (x ∷ xs) e f h =
    (let heads : x ≡ b = cc in let tails : xs ++ e ∷ [] ≡ before ++ f ∷ after = cc in
    ⊎_elim
    (λ s. inl (s.0, (let q : before ≡ xs = s.1 in cc)))
    (λ s. inr (s.0, (let q : xs ≡ before ++ f ∷ s.0 = s.1 in cc)))
    (snoc_cut before after xs e f tails))

pub follow-nil : (c : ℕ) → FollowMoveRule c []
follow-nil c before after m h = (let last : m ∷ after ≡ [] = no_more before (m ∷ after) (sym h) in cc)

pub follow-push : (c : ℕ) (moves : List Move) (m : Move) → FollowMoveRule c moves → MayMove c moves m → FollowMoveRule c (moves ++ m ∷ [])
follow-push c moves m h may before after f cut =
    ⊎_elim
    (λ s. subst (MayMove c before) (sym s.0) (subst (λ l. MayMove c l m) (sym s.1) may))
    (λ s. h before s.0 f s.1)
    (snoc_cut before after moves m f cut)

abbrev BusyIsCurrent : ℕ → List Move → Type 0
BusyIsCurrent c moves = (p : ℕ) → is_busy moves p ≡ true → IsCurrent c moves p

stays_current : (c : ℕ) (moves : List Move) (m : Move) (p : ℕ) → is_crash_on c (thread_of c p) m ≡ false → IsCurrent c moves p → IsCurrent c (moves ++ m ∷ []) p
stays_current c moves m p here is = is ∙ sym (current_of-same c (thread_of c p) moves m here)

not_both : (b : ℕ) (moves : List Move) (p : ℕ) → is_busy moves p ≡ false → is_busy moves p ≡ true → ⊥
not_both b moves p a h = cc

own : (c : ℕ) (moves : List Move) (m : Move) (p : ℕ) → MayMove c moves m → p ≡ process_of m → is_busy (moves ++ m ∷ []) p ≡ true → IsCurrent c (moves ++ m ∷ []) p
own c moves (Invokes q) p may same h = stays_current c moves (Invokes q) p refl (subst (IsCurrent c moves) (sym same) may.0)
own c moves (Completes q) p may same h = absurd (not_both 0 (moves ++ Completes q ∷ []) p (is_busy-own moves (Completes q) p same) h)
own c moves (Crashes q) p may same h = absurd (not_both 0 (moves ++ Crashes q ∷ []) p (is_busy-own moves (Crashes q) p same) h)

-- a move of another process crashes no process that is current
other_crash : (c : ℕ) (moves : List Move) (m : Move) (p : ℕ) → BusyIsCurrent c moves → MayMove c moves m → p ≢ process_of m → IsCurrent c moves p → is_crash_on c (thread_of c p) m ≡ false
other_crash c moves (Invokes q) p kept may ne is = refl
other_crash c moves (Completes q) p kept may ne is = refl
other_crash c moves (Crashes q) p kept may ne is =
    ne_eqb (thread_of c q) (thread_of c p) (λ same. ne (is ∙ ap (current_of c moves) (sym same) ∙ sym (kept q may)))

more : (c : ℕ) (moves : List Move) (m : Move) → BusyIsCurrent c moves → MayMove c moves m → BusyIsCurrent c (moves ++ m ∷ [])
more c moves m kept may p h =
    ⊎_elim
    (λ same. own c moves m p may same h)
    (λ ne. (let now = kept p (sym (is_busy-other moves m p ne) ∙ h) in stays_current c moves m p (other_crash c moves m p kept may ne now) now))
    (cases_eq p (process_of m))

along : (c : ℕ) (before after : List Move) → FollowMoveRule c (before ++ after) → BusyIsCurrent c before → BusyIsCurrent c (before ++ after)
along c before [] h kept = subst (BusyIsCurrent c) (sym (append-nil before)) kept
along c before (m ∷ after) h kept =
    subst (BusyIsCurrent c) (append_assoc before (m ∷ []) after)
    (along c (before ++ m ∷ []) after (subst (FollowMoveRule c) (sym (append_assoc before (m ∷ []) after)) h) (more c before m kept (h before after m refl)))

pub busy_is_current : (c : ℕ) (moves : List Move) → FollowMoveRule c moves → (p : ℕ) → is_busy moves p ≡ true → IsCurrent c moves p
busy_is_current c moves h = along c [] moves h (λ p busy. (let b : false ≡ true = busy in cc))
