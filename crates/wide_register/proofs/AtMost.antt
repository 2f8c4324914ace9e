-- a row is at most another one exactly if its end is
use Rattle.std.proofs.Common.{◌≡◌, ℕ, ◌+◌, ◌<◌, ℤ, inl, inr, ⊎_elim, true, List, refl, sym, ap, ◌∙◌, subst, arith}
use Rattle.std.specs.List.{Contains}
use Rattle.events.specs.Events.{Mark}
use Rattle.linspec.specs.Operations.{IsOpen}
use Rattle.linspec.specs.LeanEnds.{IsAtMost}
use Rattle.lean_ends.proofs.Sound.{IsLeft}
use Rattle.wide_register.specs.declared.calls.Call.{Call}
use Rattle.wide_register.specs.declared.calls.What.TheVariants.{Writes}
use Rattle.wide_register.specs.declared.row.Passed.{Passed}
use Rattle.wide_register.specs.declared.row.Row.{Row}
use Rattle.wide_register.specs.Facts.{AreCalls, CanFind, HasLeastGaps, IsAtMostBy, IsPassedIn, StoodAfter, end_of, moments_of}
use Rattle.wide_register.proofs.Ends.{needed_from, needed_to, door_from, door_to, finds_from, finds_to}
use Rattle.wide_register.proofs.Moves.{same_call}
use Rattle.wide_register.proofs.Trimming.{of_moments}

passed_then : (those these : List Passed) → ((p : Passed) → Contains these p → IsPassedIn those p) → (p : Passed) → IsPassedIn these p → IsPassedIn those p
passed_then those these to p h =
    let q = to h.0 h.1 in
    (q.0, q.1, q.2 ∙ h.2, (let a = h.3 in let b = q.3 in omega arith))

-- of rows
pub at_most_then : (calls : List Call) (a b c : Row) → IsAtMostBy calls a b → IsAtMostBy calls b c → IsAtMostBy calls a c
at_most_then calls a b c p q = record {
  state = p.state ∙ q.state;
  needed = λ i h. p.needed i (q.needed i h);
  passed = λ x h. passed_then c.passed.items b.passed.items q.passed x (p.passed x h);
  fits = λ x h. record {
    needed = λ n o. (q.fits x h).needed ((p.fits x h).needed n o) o;
    door = λ d. (q.fits x h).door ((p.fits x h).door d, (λ n. d.1 (p.needed x.id n)));
  };
}

pub at_most_itself : (calls : List Call) (a : Row) → IsAtMostBy calls a a
at_most_itself calls a = record { state = refl; needed = λ i h. h; passed = λ p h. (p, h, refl, omega arith); fits = λ x h. record { needed = λ n o. n; door = λ d. d.0 } }

-- what may be found in a row may be found in one that has each of its values at as late a gap
found_there : (row other : Row) → row.state ≡ other.state → ((p : Passed) → Contains row.passed.items p → IsPassedIn other.passed.items p) → (v : ℤ) (t : ℕ) → CanFind row v t → CanFind other v t
found_there row other s to v t h = ⊎_elim
    (λ k. (let q = to k.0 k.1 in inl (q.0, q.1, q.2 ∙ k.2, (let a = k.3 in let b = q.3 in omega arith))))
    (λ k. inr (sym s ∙ k))
    h

module _ (marks : List Mark) (calls : List Call) (are : AreCalls calls marks) (row other : Row) where
  pub end_at_most : IsLeft marks (end_of calls row) → IsAtMostBy calls row other → IsAtMost marks (end_of calls row) (end_of calls other)
  end_at_most left a = record {
    state = a.state;
    needed = λ i h. needed_to calls row i (a.needed i (needed_from calls other i h));
    open_ones = λ i h o.
        (let w = (left.2.needed i h).1 in
        let c = are.all i (Writes w.0) (record { write = w.1; not_returned = o.not_returned; not_failed = o.not_failed }) in
        let same : c.0.id ≡ i = c.2 in
        let n : Contains row.needed.items c.0.id = subst (Contains row.needed.items) (sym same) (needed_from calls row i h) in
        let is_open : c.0.is_open ≡ true = (are.is_open c.0 c.1).1 (subst (IsOpen marks) (sym same) o) in
        needed_to calls other i (subst (Contains other.needed.items) same ((a.fits c.0 c.1).needed n is_open)));
    door = λ i h. (let k = door_from calls row i h in
        door_to calls other i (k.0, k.1, k.2, ((a.fits k.0 k.1).door k.3, (λ n. k.3.1 (a.needed k.0.id n)))));
    finds = λ r v h. (let k = finds_from calls row r v h in finds_to calls other r v (k.0, k.1, k.2, k.3, found_there row other a.state a.passed v k.0.since k.4));
  }

  -- a read that was invoked just before the gap tells that the value stands as late in the other row
  passed_there : HasLeastGaps (moments_of calls) row → IsAtMost marks (end_of calls row) (end_of calls other) → (p : Passed) → Contains row.passed.items p → IsPassedIn other.passed.items p
  passed_there least a p h =
      let l = least p h in
      let c = of_moments calls l.1.0 l.1.1 in
      let gap : p.gap ≡ c.0.since + 1 = l.1.2 ∙ ap (λ n. n + 1) (sym c.3) in
      let here : StoodAfter row.passed.items p.value c.0.since = (p, h, refl, omega arith) in
      let k = finds_from calls other c.0.id p.value (a.finds c.0.id p.value (finds_to calls row c.0.id p.value (c.0, c.1, refl, c.2, inl here))) in
      let same : k.0.since ≡ c.0.since = ap (λ (x : Call). x.since) (same_call calls are.once k.0 c.0 k.1 c.1 k.2) in
      ⊎_elim
      (λ j. (j.0, j.1, j.2, (let late = j.3 in omega arith)))
      (λ s. absurd (l.0 (a.state ∙ s)))
      k.4

  pub row_at_most : HasLeastGaps (moments_of calls) row → IsAtMost marks (end_of calls row) (end_of calls other) → IsAtMostBy calls row other
  row_at_most least a = record {
    state = a.state;
    needed = λ i h. needed_from calls row i (a.needed i (needed_to calls other i h));
    passed = passed_there least a;
    fits = λ c h. record {
      needed = λ n o. needed_from calls other c.id (a.open_ones c.id (needed_to calls row c.id n) ((are.is_open c h).0 o));
      door = λ d.
          (let k = door_from calls other c.id (a.door c.id (door_to calls row c.id (c, h, refl, d))) in
          subst (λ (x : Call). x.since < other.door) (same_call calls are.once k.0 c k.1 h k.2) k.3.0);
    };
  }
