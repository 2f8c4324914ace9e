-- many writes of one process are a history
use Rattle.std.proofs.Common.{◌≡◌, ℕ, zero, suc, ◌+◌, ◌*◌, ◌≤◌, Option, None, List, [], ◌∷◌, ◌++◌, slice_get, refl, sym, ap, ◌∙◌, subst, append_assoc, arith}
use Rattle.std.proofs.Math.Numerals.{add-one}
use Rattle.events.specs.declared.event.EventKind.TheVariants.{Invoke, Ok}
use Rattle.events.specs.declared.event.Event.{Event}
use Rattle.events.specs.Events.{op_event}
use Rattle.events.specs.ProcessRule.{busy_after, MayComeFrom, IsHistory}
use Rattle.checkpoints.specs.Borrowed.{AreBorrowedBy}
use Rattle.verdict_tests.specs.LongLine.{write_by, writes, writes_from}

from_free : (n i k : ℕ) (busy : ℕ → Option ℕ) → n ≤ 2 * i → busy 0 ≡ None → MayComeFrom n busy (writes_from i k)
from_free n i zero busy le free = tt
from_free n i (suc k) busy le free = (
  le,
  (free, refl),
  (
    omega arith,
    refl,
    from_free (2 * i + 1 + 1) (i + 1) k (busy_after (busy_after busy (op_event (write_by Invoke))) (op_event (write_by Ok))) (omega arith) refl,
  ),
)

more_writes : (i k m : ℕ) → m ≡ 2 * (i + k) → writes_from i (suc k) ≡ writes_from i k ++ (m, write_by Invoke) ∷ (m + 1, write_by Ok) ∷ []
more_writes i zero m e = (let q : 2 * i ≡ m = omega arith in ap (λ j. (j, write_by Invoke) ∷ (j + 1, write_by Ok) ∷ []) q)
more_writes i (suc k) m e = ap (λ l. (2 * i, write_by Invoke) ∷ (2 * i + 1, write_by Ok) ∷ l) (more_writes (i + 1) k m (omega arith))

front : (n : ℕ) (busy : ℕ → Option ℕ) (xs ys : List (ℕ × Event)) → MayComeFrom n busy (xs ++ ys) → MayComeFrom n busy xs
front n busy [] ys h = tt
front n busy (x ∷ xs) ys h = (h.0, h.1, front (x.0 + 1) (busy_after busy (op_event x.1)) xs ys h.2)

module _ (k : ℕ) where
  pub one_more_write : writes_from 0 k ++ (2 * k, write_by Invoke) ∷ (2 * k + 1, write_by Ok) ∷ [] ≡ writes_from 0 (k + 1)
  one_more_write = sym (ap (writes_from 0) (add-one k) ∙ more_writes 0 k (2 * k) (omega arith))

  pub may_return : IsHistory (writes_from 0 k ++ (2 * k, write_by Invoke) ∷ (2 * k + 1, write_by Ok) ∷ [])
  may_return = subst IsHistory (sym one_more_write) (from_free 0 0 (k + 1) (λ _. None) (omega arith) refl)

  pub may_invoke : IsHistory (writes_from 0 k ++ (2 * k, write_by Invoke) ∷ [])
  may_invoke = front 0 (λ _. None) (writes_from 0 k ++ (2 * k, write_by Invoke) ∷ []) ((2 * k + 1, write_by Ok) ∷ [])
      (subst IsHistory (sym (append_assoc (writes_from 0 k) ((2 * k, write_by Invoke) ∷ []) ((2 * k + 1, write_by Ok) ∷ []))) may_return)

  module _ (i j : ℕ) (events : List (ℕ × Event)) (first second : Event) (are : events ≡ writes_from 0 k) (at : i ≡ 2 * k) (next : j ≡ 2 * k + 1) (invokes : first ≡ write_by Invoke) (returns : second ≡ write_by Ok) where
    one_more_is : (events ++ (i, first) ∷ []) ++ (j, second) ∷ [] ≡ writes_from 0 k ++ (2 * k, write_by Invoke) ∷ (2 * k + 1, write_by Ok) ∷ []
    one_more_is =
        append_assoc events ((i, first) ∷ []) ((j, second) ∷ [])
        ∙ ap (λ l. l ++ (i, first) ∷ (j, second) ∷ []) are
        ∙ ap (λ a. writes_from 0 k ++ (a, first) ∷ (j, second) ∷ []) at
        ∙ ap (λ e. writes_from 0 k ++ (2 * k, e) ∷ (j, second) ∷ []) invokes
        ∙ ap (λ b. writes_from 0 k ++ (2 * k, write_by Invoke) ∷ (b, second) ∷ []) next
        ∙ ap (λ e. writes_from 0 k ++ (2 * k, write_by Invoke) ∷ (2 * k + 1, e) ∷ []) returns

    pub may_push_second : IsHistory ((events ++ (i, first) ∷ []) ++ (j, second) ∷ [])
    may_push_second = subst IsHistory (sym one_more_is) may_return

    pub both_pushed : (events ++ (i, first) ∷ []) ++ (j, second) ∷ [] ≡ writes_from 0 (k + 1)
    both_pushed = one_more_is ∙ one_more_write

  pub may_push_first : (i : ℕ) (events : List (ℕ × Event)) (first : Event) → events ≡ writes_from 0 k → i ≡ 2 * k → first ≡ write_by Invoke → IsHistory (events ++ (i, first) ∷ [])
  may_push_first i events first are at invokes =
      subst (λ l. IsHistory (l ++ (i, first) ∷ [])) (sym are)
      (subst (λ e. IsHistory (writes_from 0 k ++ (i, e) ∷ [])) (sym invokes)
      (subst (λ a. IsHistory (writes_from 0 k ++ (a, write_by Invoke) ∷ [])) (sym at) may_invoke))

-- the events alone
more_events : (k : ℕ) → writes (suc k) ≡ writes k ++ write_by Invoke ∷ write_by Ok ∷ []
more_events zero = refl
more_events (suc k) = ap (λ l. write_by Invoke ∷ write_by Ok ∷ l) (more_events k)

pub one_more_made : (k : ℕ) (events : List Event) (first second : Event) → events ≡ writes k → first ≡ write_by Invoke → second ≡ write_by Ok → (events ++ first ∷ []) ++ second ∷ [] ≡ writes (k + 1)
one_more_made k events first second are invokes returns =
    append_assoc events (first ∷ []) (second ∷ [])
    ∙ ap (λ l. l ++ first ∷ second ∷ []) are
    ∙ ap (λ e. writes k ++ e ∷ second ∷ []) invokes
    ∙ ap (λ e. writes k ++ write_by Invoke ∷ e ∷ []) returns
    ∙ sym (more_events k)
    ∙ sym (ap writes (add-one k))

-- the line borrows its events from them
borrowed_from : (all : List Event) (i k : ℕ) → ((j : ℕ) → slice_get all (2 * i + j) ≡ slice_get (writes k) j) → AreBorrowedBy all (writes_from i k)
borrowed_from all i zero same p d lt = absurd (omega arith)
borrowed_from all i (suc k) same zero d lt = ap (slice_get all) (let here : 2 * i ≡ 2 * i + 0 = omega arith in here) ∙ same 0
borrowed_from all i (suc k) same (suc zero) d lt = same 1
borrowed_from all i (suc k) same (suc (suc p)) d lt =
    borrowed_from all (i + 1) k (λ j. ap (slice_get all) (let next : 2 * (i + 1) + j ≡ 2 * i + suc (suc j) = omega arith in next) ∙ same (suc (suc j))) p d (omega arith)

pub writes_borrowed : (k : ℕ) (borrowed : List Event) (events : List (ℕ × Event)) → borrowed ≡ writes k → events ≡ writes_from 0 k → AreBorrowedBy borrowed events
writes_borrowed k borrowed events all are =
    subst (AreBorrowedBy borrowed) (sym are) (borrowed_from borrowed 0 k (λ j. ap (slice_get borrowed) (let here : 2 * 0 + j ≡ j = omega arith in here) ∙ ap (λ l. slice_get l j) all))
