-- the events below an index are a prefix, since indices rise
use Rattle.std.proofs.Common.{◌≡◌, ℕ, zero, suc, ◌+◌, ◌<◌, ◌≤◌, ⊎_elim, Bool, true, false, not, nat_lt, nat_le, Option, None, List, [], ◌∷◌, ◌++◌, length, take, drop, slice_index_or, refl, sym, ap, ◌∙◌, subst, append_assoc, arith}
use Rattle.std.proofs.lemmas.Bool.{cases_Bool, cases_lt, lt-ltb, le-ltb, le-leb, lt-leb}
use Rattle.std.proofs.lemmas.List.{take_all, get_or_default, length-map, take-append-drop}
use Rattle.std.proofs.lemmas.List.Filters.{length-filter_both}
use Rattle.std.specs.List.{filter}
use Rattle.std.specs.List.Sorted.{IsNonDecreasingBy}
use Rattle.events.specs.declared.event.Event.{Event}
use Rattle.events.specs.Events.{op_event}
use Rattle.events.specs.ProcessRule.{busy_after, MayComeFrom, IsHistory}
use Rattle.linspec.proofs.Filters.{filter-yes, filter-no}
use Rattle.linspec.specs.KeyHistory.{events_below}
use Rattle.checkpoints.specs.Borrowed.{places_of}

-- the first i have an index that passes the test, and no other has
kept : (p : ℕ → Bool) (xs : List (ℕ × Event)) (i : ℕ) → i ≤ length xs
    → ((k d : ℕ) → k < i → p (slice_index_or (places_of xs) k d) ≡ true)
    → ((k d : ℕ) → i ≤ k → k < length xs → p (slice_index_or (places_of xs) k d) ≡ false)
    → take i xs ≡ filter (λ x. p x.0) xs
kept p [] zero le passes fails = refl
kept p [] (suc i) le passes fails = absurd (omega arith)
kept p (x ∷ xs) zero le passes fails = sym (filter-no (λ y. p y.0) x xs (fails 0 0 (omega arith) (omega arith)) ∙ sym (kept p xs zero (omega arith) (λ k d lt. absurd (omega arith)) (λ k d l lt. fails (suc k) d (omega arith) (omega arith))))
kept p (x ∷ xs) (suc i) le passes fails =
    ap (λ l. x ∷ l) (kept p xs i (omega arith) (λ k d lt. passes (suc k) d (omega arith)) (λ k d l lt. fails (suc k) d (omega arith) (omega arith)))
    ∙ sym (filter-yes (λ y. p y.0) x xs (passes 0 0 (omega arith)))

from_bound : (n : ℕ) (busy : ℕ → Option ℕ) (events : List (ℕ × Event)) → MayComeFrom n busy events → (k d : ℕ) → k < length (places_of events) → n ≤ slice_index_or (places_of events) k d
from_bound n busy [] h k d lt = absurd (omega arith)
from_bound n busy (x ∷ events) h zero d lt = h.0
from_bound n busy (x ∷ events) h (suc k) d lt = (let a = from_bound (x.0 + 1) (busy_after busy (op_event x.1)) events h.2 k d (omega arith) in let b : n ≤ x.0 = h.0 in omega arith)

rising : (n : ℕ) (busy : ℕ → Option ℕ) (events : List (ℕ × Event)) → MayComeFrom n busy events → IsNonDecreasingBy (λ i. i) (places_of events)
rising n busy [] h i j d le lt = absurd (omega arith)
rising n busy (x ∷ events) h zero zero d le lt = omega arith
rising n busy (x ∷ events) h zero (suc j) d le lt = (let a = from_bound (x.0 + 1) (busy_after busy (op_event x.1)) events h.2 j d (omega arith) in omega arith)
rising n busy (x ∷ events) h (suc i) zero d le lt = absurd (omega arith)
rising n busy (x ∷ events) h (suc i) (suc j) d le lt = rising (x.0 + 1) (busy_after busy (op_event x.1)) events h.2 i j d (omega arith) (omega arith)

pub indices_rise : (events : List (ℕ × Event)) → IsHistory events → IsNonDecreasingBy (λ i. i) (places_of events)
indices_rise events h = rising 0 (λ _. None) events h

pub length-places : (events : List (ℕ × Event)) → length (places_of events) ≡ length events
length-places events = length-map events (λ x. x.0)

may_come_take : (n : ℕ) (busy : ℕ → Option ℕ) (k : ℕ) (events : List (ℕ × Event)) → MayComeFrom n busy events → MayComeFrom n busy (take k events)
may_come_take n busy zero events h = tt
may_come_take n busy (suc k) [] h = tt
may_come_take n busy (suc k) (x ∷ events) h = (h.0, h.1, may_come_take (x.0 + 1) (busy_after busy (op_event x.1)) k events h.2)

-- the first events of a history are one
pub IsHistory-take : (k : ℕ) (events : List (ℕ × Event)) → IsHistory events → IsHistory (take k events)
IsHistory-take k events h = may_come_take 0 (λ _. None) k events h

may_come_front : (n : ℕ) (busy : ℕ → Option ℕ) (xs ys : List (ℕ × Event)) → MayComeFrom n busy (xs ++ ys) → MayComeFrom n busy xs
may_come_front n busy [] ys h = tt
may_come_front n busy (x ∷ xs) ys h = (h.0, h.1, may_come_front (x.0 + 1) (busy_after busy (op_event x.1)) xs ys h.2)

-- so are the first events of a part behind others
pub IsHistory-front : (before events : List (ℕ × Event)) (k : ℕ) → IsHistory (before ++ events) → IsHistory (before ++ take k events)
IsHistory-front before events k h = may_come_front 0 (λ _. None) (before ++ take k events) (drop k events)
    (subst IsHistory (sym (append_assoc before (take k events) (drop k events) ∙ ap (λ l. before ++ l) (take-append-drop k events))) h)

pub first_ones : (events : List (ℕ × Event)) (n i : ℕ) → i ≤ length events
    → ((k d : ℕ) → k < i → nat_lt (slice_index_or (places_of events) k d) n ≡ true)
    → ((k d : ℕ) → i ≤ k → k < length events → nat_lt (slice_index_or (places_of events) k d) n ≡ false)
    → take i events ≡ events_below n events
first_ones events n i le passes fails = kept (λ k. nat_lt k n) events i le passes fails

-- where the index of one does not pass, a filter keeps fewer
fewer : (p : ℕ → Bool) (xs : List (ℕ × Event)) (k d : ℕ) → k < length xs → p (slice_index_or (places_of xs) k d) ≡ false → length (filter (λ x. p x.0) xs) < length xs
fewer p [] k d lt fails = absurd (omega arith)
fewer p (x ∷ xs) zero d lt fails =
    let e : length (filter (λ y. p y.0) (x ∷ xs)) ≡ length (filter (λ y. p y.0) xs) = ap length (filter-no (λ y. p y.0) x xs fails) in
    omega (arith, e, length-filter_both (λ y. p y.0) (λ y. not (p y.0)) (λ y. refl) xs)
fewer p (x ∷ xs) (suc k) d lt fails =
    let rest : length (filter (λ y. p y.0) xs) < length xs = fewer p xs k d (omega arith) fails in
    ⊎_elim
    (λ holds. (let e : length (filter (λ y. p y.0) (x ∷ xs)) ≡ length (x ∷ filter (λ y. p y.0) xs) = ap length (filter-yes (λ y. p y.0) x xs holds) in omega arith))
    (λ not_it. (let e : length (filter (λ y. p y.0) (x ∷ xs)) ≡ length (filter (λ y. p y.0) xs) = ap length (filter-no (λ y. p y.0) x xs not_it) in omega arith))
    (cases_Bool (p x.0))

-- a cut takes events away exactly if the last index is not below it
pub loses_last : (events : List (ℕ × Event)) → IsHistory events → (n i d : ℕ) → i + 1 ≡ length events → nat_le n (slice_index_or (places_of events) i d) ≡ nat_lt (length (events_below n events)) (length events)
loses_last events history n i d last =
    ⊎_elim
    (λ (lt : slice_index_or (places_of events) i d < n).
    (let all : take (length events) events ≡ events_below n events = first_ones events n (length events) (omega arith) (below lt) (λ k e le past. absurd (omega arith)) in
    let many : length (events_below n events) ≡ length events = ap length (sym all ∙ take_all (length events) events (omega arith)) in
    lt-leb n (slice_index_or (places_of events) i d) lt ∙ sym (le-ltb (length (events_below n events)) (length events) (omega arith))))
    (λ (le : n ≤ slice_index_or (places_of events) i d).
    (let few : length (events_below n events) < length events = fewer (λ k. nat_lt k n) events i d (omega arith) (le-ltb (slice_index_or (places_of events) i d) n le) in
    le-leb n (slice_index_or (places_of events) i d) le ∙ sym (lt-ltb (length (events_below n events)) (length events) few)))
    (cases_lt (slice_index_or (places_of events) i d) n)
  where
    below : slice_index_or (places_of events) i d < n → (k e : ℕ) → k < length events → nat_lt (slice_index_or (places_of events) k e) n ≡ true
    below lt k e before =
        let many : length (places_of events) ≡ length events = length-places events in
        let le : slice_index_or (places_of events) k e ≤ slice_index_or (places_of events) i e = indices_rise events history k i e (omega arith) (omega arith) in
        let same : slice_index_or (places_of events) i e ≡ slice_index_or (places_of events) i d = get_or_default (places_of events) i e d (omega arith) in
        lt-ltb (slice_index_or (places_of events) k e) n (omega arith)

-- some are below n exactly if the first is
pub begins_first : (events : List (ℕ × Event)) → IsHistory events → (n d : ℕ) → 0 < length events → nat_lt (slice_index_or (places_of events) 0 d) n ≡ nat_lt 0 (length (events_below n events))
begins_first [] history n d some = absurd (omega arith)
begins_first (x ∷ events) history n d some =
    ⊎_elim
    (λ (lt : x.0 < n).
    (let e : length (events_below n (x ∷ events)) ≡ length (x ∷ events_below n events) = ap length (filter-yes (λ y. nat_lt y.0 n) x events (lt-ltb x.0 n lt)) in
    lt-ltb x.0 n lt ∙ sym (lt-ltb 0 (length (events_below n (x ∷ events))) (omega arith))))
    (λ (le : n ≤ x.0).
    (let none : take 0 (x ∷ events) ≡ events_below n (x ∷ events) = first_ones (x ∷ events) n 0 (omega arith) (λ k e lt. absurd (omega arith)) (past le) in
    let e : 0 ≡ length (events_below n (x ∷ events)) = ap length none in
    le-ltb x.0 n le ∙ sym (le-ltb 0 (length (events_below n (x ∷ events))) (omega arith))))
    (cases_lt x.0 n)
  where
    past : n ≤ x.0 → (k e : ℕ) → 0 ≤ k → k < length (x ∷ events) → nat_lt (slice_index_or (places_of (x ∷ events)) k e) n ≡ false
    past le k e low before =
        let many : length (places_of (x ∷ events)) ≡ length (x ∷ events) = length-places (x ∷ events) in
        let rise : x.0 ≤ slice_index_or (places_of (x ∷ events)) k e = indices_rise (x ∷ events) history 0 k e (omega arith) (omega arith) in
        le-ltb (slice_index_or (places_of (x ∷ events)) k e) n (omega arith)
