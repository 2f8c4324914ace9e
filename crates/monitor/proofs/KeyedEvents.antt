-- the keys of events, and the events of a key: with one more event, and of the first events alone
use Rattle.std.proofs.Common.{◌≡◌, ◌≢◌, ℕ, ◌+◌, ◌<◌, ◌≤◌, Bool, true, false, nat_eq, zero, suc, nat_lt, Option, Some, None, option_map, List, [], ◌∷◌, ◌++◌, length, take, refl, sym, ap, ◌∙◌, subst, ⊎_elim, arith}
use Rattle.std.specs.List.{filter_map, cons_option, Contains}
use Rattle.std.proofs.lemmas.Bool.{cases_Bool, eq-eqb, ne_eqb, eqb-true, lt-ltb, le-ltb, false≢true}
use Rattle.std.proofs.lemmas.List.{append-nil}
use Rattle.std.proofs.lemmas.List.Elements.{filter-append, filter_map-append, Contains-append_cases}
use Rattle.events.specs.declared.event.Event.{Event}
use Rattle.events.specs.Events.{OpEvent, op_event, key_of, Entry, entry_by, entries_by, last_after, entries_from, indexed_from, is_of_key, is_event_of, events_of_key}
use Rattle.linspec.proofs.Lists.{Contains-nil, Contains-head, Contains-tail, Contains-cons_cases}
use Rattle.linspec.proofs.Filters.{filter-yes, filter-no, filter-none}
use Rattle.linspec.specs.KeyHistory.{events_below}
use Rattle.linspec.specs.JudgedHistory.{each_once, keys_in_order}
use Rattle.monitor.proofs.EachOnce.{filter-swap, each_once-push_known, each_once-push_new, from_each_once, to_each_once}

-- one event: whether it is of a key
abbrev is_key : ℕ → Option ℕ → Bool
is_key k None = false
is_key k (Some j) = nat_eq j k

by_key : (k : ℕ) (e : Event) → is_event_of k e ≡ is_key k (key_of e)
by_key k e = by_event (op_event e)
  where
    by_event : (o : Option OpEvent) → is_of_key k o ≡ is_key k (option_map (λ (x : OpEvent). x.key) o)
    by_event None = refl
    by_event (Some x) = refl

pub of_its_key : (k : ℕ) (e : Event) → key_of e ≡ Some k → is_event_of k e ≡ true
of_its_key k e is = by_key k e ∙ ap (is_key k) is ∙ eq-eqb k k refl

pub of_other_key : (k j : ℕ) (e : Event) → key_of e ≡ Some j → k ≢ j → is_event_of k e ≡ false
of_other_key k j e is ne = by_key k e ∙ ap (is_key k) is ∙ ne_eqb j k (λ d. ne (sym d))

pub of_no_key : (k : ℕ) (e : Event) → key_of e ≡ None → is_event_of k e ≡ false
of_no_key k e is = by_key k e ∙ ap (is_key k) is

key_of_its : (k : ℕ) (e : Event) → is_event_of k e ≡ true → key_of e ≡ Some k
key_of_its k e is = back (key_of e) (sym (by_key k e) ∙ is)
  where
    back : (o : Option ℕ) → is_key k o ≡ true → o ≡ Some k
    back None h = absurd (false≢true h)
    back (Some j) h = ap Some (eqb-true j k h)

-- the keys, with one more event
pub keys-fault : (events : List Event) (e : Event) → key_of e ≡ None → keys_in_order (events ++ e ∷ []) ≡ keys_in_order events
keys-fault events e is =
    ap each_once (filter_map-append key_of events (e ∷ []) ∙ ap (λ o. filter_map key_of events ++ cons_option o []) is ∙ append-nil (filter_map key_of events))

pub keys-push : (events : List Event) (e : Event) (k : ℕ) → key_of e ≡ Some k → Contains (keys_in_order events) k → keys_in_order (events ++ e ∷ []) ≡ keys_in_order events
keys-push events e k is h =
    ap each_once (filter_map-append key_of events (e ∷ []) ∙ ap (λ o. filter_map key_of events ++ cons_option o []) is)
    ∙ each_once-push_known (filter_map key_of events) k (from_each_once (filter_map key_of events) k h)

pub keys-first : (events : List Event) (e : Event) (k : ℕ) → key_of e ≡ Some k → ¬ Contains (keys_in_order events) k → keys_in_order (events ++ e ∷ []) ≡ keys_in_order events ++ k ∷ []
keys-first events e k is h =
    ap each_once (filter_map-append key_of events (e ∷ []) ∙ ap (λ o. filter_map key_of events ++ cons_option o []) is)
    ∙ each_once-push_new (filter_map key_of events) k (λ i. h (to_each_once (filter_map key_of events) k i))

-- the events of a key, with one more event
pub indexed_from-push : (n : ℕ) (events : List Event) (e : Event) → indexed_from n (events ++ e ∷ []) ≡ indexed_from n events ++ (n + length events, e) ∷ []
indexed_from-push n [] e = ap (λ (i : ℕ). (i, e) ∷ []) (let z : n ≡ n + 0 = omega arith in z)
indexed_from-push n (x ∷ events) e =
    ap (λ (l : List (ℕ × Event)). (n, x) ∷ l) (indexed_from-push (n + 1) events e
    ∙ ap (λ (i : ℕ). indexed_from (n + 1) events ++ (i, e) ∷ []) (let z : n + 1 + length events ≡ n + length (x ∷ events) = omega arith in z))

split_push : (k : ℕ) (events : List Event) (e : Event) → events_of_key k (indexed_from 0 (events ++ e ∷ [])) ≡ events_of_key k (indexed_from 0 events) ++ events_of_key k ((length events, e) ∷ [])
split_push k events e =
    ap (events_of_key k) (indexed_from-push 0 events e ∙ ap (λ (i : ℕ). indexed_from 0 events ++ (i, e) ∷ []) (let z : 0 + length events ≡ length events = omega arith in z))
    ∙ filter-append (λ (x : ℕ × Event). is_event_of k x.1) (indexed_from 0 events) ((length events, e) ∷ [])

pub events-push : (k : ℕ) (events : List Event) (e : Event) → is_event_of k e ≡ true
    → events_of_key k (indexed_from 0 (events ++ e ∷ [])) ≡ events_of_key k (indexed_from 0 events) ++ (length events, e) ∷ []
events-push k events e is =
    split_push k events e ∙ ap (λ l. events_of_key k (indexed_from 0 events) ++ l) (filter-yes (λ (x : ℕ × Event). is_event_of k x.1) (length events, e) [] is)

pub events-pass : (k : ℕ) (events : List Event) (e : Event) → is_event_of k e ≡ false → events_of_key k (indexed_from 0 (events ++ e ∷ [])) ≡ events_of_key k (indexed_from 0 events)
events-pass k events e is =
    split_push k events e ∙ ap (λ l. events_of_key k (indexed_from 0 events) ++ l) (filter-no (λ (x : ℕ × Event). is_event_of k x.1) (length events, e) [] is)
    ∙ append-nil (events_of_key k (indexed_from 0 events))

-- where an event comes from
pub to_filter_map : {X Y : Type 0} (h : X → Option Y) (xs : List X) (x : X) (y : Y) → Contains xs x → h x ≡ Some y → Contains (filter_map h xs) y
to_filter_map h [] x y has is = absurd (Contains-nil x has)
to_filter_map h (z ∷ xs) x y has is =
    ⊎_elim
    (λ e. subst (λ o. Contains (cons_option o (filter_map h xs)) y) (sym (ap h e ∙ is)) (Contains-head y (filter_map h xs)))
    (λ later. keeps (h z) (filter_map h xs) (to_filter_map h xs x y later is))
    (Contains-cons_cases z xs x has)
  where
    keeps : {Y : Type 0} (o : Option Y) (ys : List Y) {y : Y} → Contains ys y → Contains (cons_option o ys) y
    keeps None ys i = i
    keeps (Some w) ys {y = y} i = Contains-tail w ys y i

from_first : {X Y : Type 0} (h : X → Option Y) (x : X) (xs : List X) (y : Y) → (Contains (filter_map h xs) y → (z : X) × Contains xs z × (h z ≡ Some y)) → (o : Option Y) → h x ≡ o
    → Contains (cons_option o (filter_map h xs)) y → (z : X) × Contains (x ∷ xs) z × (h z ≡ Some y)
from_first h x xs y rest None e i = let r = rest i in (r.0, Contains-tail x xs r.0 r.1, r.2)
from_first h x xs y rest (Some w) e i =
    ⊎_elim
    (λ s. (x, Contains-head x xs, e ∙ ap Some s))
    (λ j. let r = rest j in (r.0, Contains-tail x xs r.0 r.1, r.2))
    (Contains-cons_cases w (filter_map h xs) y i)

pub from_filter_map : {X Y : Type 0} (h : X → Option Y) (xs : List X) (y : Y) → Contains (filter_map h xs) y → (x : X) × Contains xs x × (h x ≡ Some y)
from_filter_map h [] y has = absurd (Contains-nil y has)
from_filter_map h (x ∷ xs) y has = from_first h x xs y (λ i. from_filter_map h xs y i) (h x) refl has

pub from_indexed : (n : ℕ) (events : List Event) (x : ℕ × Event) → Contains (indexed_from n events) x → Contains events x.1 × (n ≤ x.0)
from_indexed n [] x has = absurd (Contains-nil x has)
from_indexed n (e ∷ events) x has =
    ⊎_elim
    (λ s. (subst (λ (w : ℕ × Event). Contains (e ∷ events) w.1) s (Contains-head e events), subst (λ (w : ℕ × Event). n ≤ w.0) s (let z : n ≤ n = omega arith in z)))
    (λ later. let r : Contains events x.1 × (n + 1 ≤ x.0) = from_indexed (n + 1) events x later in (Contains-tail e events x.1 r.0, omega arith))
    (Contains-cons_cases (n, e) (indexed_from (n + 1) events) x has)

-- a key that is not among the keys has no events
pub events-none : (k n : ℕ) (events : List Event) → ¬ Contains (keys_in_order events) k → events_of_key k (indexed_from n events) ≡ []
events-none k n events absent =
    filter-none (λ (x : ℕ × Event). is_event_of k x.1) (indexed_from n events)
    (λ x has. ⊎_elim
    (λ yes. absurd (absent (to_each_once (filter_map key_of events) k (to_filter_map key_of events x.1 k (from_indexed n events x has).0 (key_of_its k x.1 yes)))))
    (λ no. no)
    (cases_Bool (is_event_of k x.1)))

-- and one that is has some
has_events : (k n : ℕ) (events : List Event) (e : Event) → Contains events e → is_event_of k e ≡ true → 0 < length (events_of_key k (indexed_from n events))
has_events k n [] e has is = absurd (Contains-nil e has)
has_events k n (x ∷ events) e has is =
    ⊎_elim
    (λ yes. subst (λ (l : List (ℕ × Event)). 0 < length l) (sym (filter-yes (λ (x : ℕ × Event). is_event_of k x.1) (n, x) (indexed_from (n + 1) events) yes)) (omega arith))
    (λ no. subst (λ (l : List (ℕ × Event)). 0 < length l) (sym (filter-no (λ (x : ℕ × Event). is_event_of k x.1) (n, x) (indexed_from (n + 1) events) no))
    (has_events k (n + 1) events e
    (⊎_elim (λ s. absurd (false≢true (sym no ∙ ap (is_event_of k) s ∙ is))) (λ i. i) (Contains-cons_cases x events e has)) is))
    (cases_Bool (is_event_of k x))

pub events-some : (k n : ℕ) (events : List Event) → Contains (keys_in_order events) k → 0 < length (events_of_key k (indexed_from n events))
events-some k n events has =
    let from = from_filter_map key_of events k (from_each_once (filter_map key_of events) k has) in
    has_events k n events from.0 from.1 (of_its_key k from.0 from.2)

-- the first events
first_events : (m j n : ℕ) (events : List Event) → n ≡ m + j → events_below n (indexed_from m events) ≡ indexed_from m (take j events)
first_events m zero n events is =
    filter-none (λ (x : ℕ × Event). nat_lt x.0 n) (indexed_from m events)
    (λ x has. let r : Contains events x.1 × (m ≤ x.0) = from_indexed m events x has in le-ltb x.0 n (omega arith))
first_events m (suc j) n [] is = refl
first_events m (suc j) n (e ∷ events) is =
    filter-yes (λ (x : ℕ × Event). nat_lt x.0 n) (m, e) (indexed_from (m + 1) events) (lt-ltb m n (omega arith))
    ∙ ap (λ (l : List (ℕ × Event)). (m, e) ∷ l) (first_events (m + 1) j n events (omega arith))

-- a key's events below n are those that it has in the first n events
pub events-take : (k n : ℕ) (events : List Event) → events_below n (events_of_key k (indexed_from 0 events)) ≡ events_of_key k (indexed_from 0 (take n events))
events-take k n events =
    filter-swap (λ (x : ℕ × Event). nat_lt x.0 n) (λ (x : ℕ × Event). is_event_of k x.1) (indexed_from 0 events)
    ∙ ap (events_of_key k) (first_events 0 n n events (omega arith))

-- the key of an entry is among the keys
one_entry : (e w : Entry) (ks : List ℕ) → Contains (e ∷ []) w → Contains (e.key ∷ ks) w.key
one_entry e w ks h = ⊎_elim (λ s. subst (λ (x : Entry). Contains (e.key ∷ ks) x.key) s (Contains-head e.key ks)) (λ n. absurd (Contains-nil w n)) (Contains-cons_cases e [] w h)

first_key : (n : ℕ) (last : ℕ → ℕ) (x : Event) (events : List Event) (e : Entry)
    → ((l : ℕ → ℕ) → Contains (entries_from l (indexed_from (n + 1) events)) e → Contains (filter_map key_of events) e.key)
    → (o : Option OpEvent) → Contains (entries_by n last o ++ entries_from (last_after n last o) (indexed_from (n + 1) events)) e
    → Contains (cons_option (option_map (λ (y : OpEvent). y.key) o) (filter_map key_of events)) e.key
first_key n last x events e rest None i = rest last i
first_key n last x events e rest (Some y) i =
    ⊎_elim
    (λ here. one_entry (entry_by n last y) e (filter_map key_of events) here)
    (λ there. Contains-tail y.key (filter_map key_of events) e.key (rest (last_after n last (Some y)) there))
    (Contains-append_cases (entry_by n last y ∷ []) (entries_from (last_after n last (Some y)) (indexed_from (n + 1) events)) e i)

pub entry_keys : (last : ℕ → ℕ) (n : ℕ) (events : List Event) (e : Entry) → Contains (entries_from last (indexed_from n events)) e → Contains (filter_map key_of events) e.key
entry_keys last n [] e h = absurd (Contains-nil e h)
entry_keys last n (x ∷ events) e h = first_key n last x events e (λ l i. entry_keys l (n + 1) events e i) (op_event x) h
