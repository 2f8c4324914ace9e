-- the rows of the keys after a change
use Rattle.std.proofs.Common.{◌≡◌, ◌≢◌, ℕ, Bool, true, false, nat_eq, nat_lt, Option, Some, None, unwrap_or, List, [], ◌∷◌, ◌++◌, length, take, drop, refl, sym, ap, ◌∙◌, subst}
use Rattle.std.specs.List.{filter, filter_map, Contains, position}
use Rattle.std.proofs.lemmas.Bool.{lt-ltb}
use Rattle.std.proofs.lemmas.List.{take-append-drop, map-append, append-nil}
use Rattle.std.proofs.Math.Seq.{take-append_seam}
use Rattle.std.proofs.lemmas.List.Elements.{filter-append, filter_map-append}
use Rattle.indexmap.specs.Layout.{set_value_at}
use Rattle.kinds.specs.declared.model_kind.ModelKind.{ModelKind}
use Rattle.events.specs.declared.event.Event.{Event}
use Rattle.events.specs.Events.{key_of, indexed_from, is_event_of, events_of_key}
use Rattle.linspec.proofs.Filters.{filter-all, filter-none, from_filter, from_map}
use Rattle.linspec.specs.KeyHistory.{KeyHistory, without_events, with_pushed, cut_at, begins_below}
use Rattle.linspec.specs.JudgedHistory.{JudgedHistory, each_once, keys_in_order, history_of_key, kind_of, budget_of, with_event, rewound}
use Rattle.monitor.specs.Rows.{cut_rows}
use Rattle.monitor.specs.declared.settings.Setting.{Setting}
use Rattle.monitor.specs.declared.settings.Setting.TheVariants.{Kind, Budget}
use Rattle.monitor.specs.Settings.{with_setting}
use Rattle.monitor.specs.Judged.{rows_of}
use Rattle.monitor.proofs.EachOnce.{is_new, is_new-lacks, each_once-append, from_each_once, each_once-apart}
use Rattle.monitor.proofs.KeyPlaces.{has_place, position_none, map_same, rows_by, rows_without, rows_with}
use Rattle.monitor.proofs.SetKeys.{lookup_other}
use Rattle.monitor.proofs.KeyedEvents.{of_its_key, of_other_key, of_no_key, keys-fault, keys-push, keys-first, events-push, events-pass, events-none, events-some, events-take}

-- a key's history, with one more event
pub history_pass : (h : JudgedHistory) (e : Event) (j : ℕ) → is_event_of j e ≡ false → history_of_key (with_event e h) j ≡ history_of_key h j
history_pass h e j is = ap (λ l. record { kind = kind_of h j; budget = budget_of h j; events = l }) (events-pass j h.events e is)

pub history_push : (h : JudgedHistory) (e : Event) (k : ℕ) → key_of e ≡ Some k → history_of_key (with_event e h) k ≡ with_pushed (length h.events) e (history_of_key h k)
history_push h e k is = ap (λ l. record { kind = kind_of h k; budget = budget_of h k; events = l }) (events-push k h.events e (of_its_key k e is))

-- the rows, with an event more that speaks of no operation
pub rows_fault : (h : JudgedHistory) (e : Event) → key_of e ≡ None → rows_of (with_event e h) ≡ rows_of h
rows_fault h e is =
    ap (rows_by (history_of_key (with_event e h))) (keys-fault h.events e is)
    ∙ map_same (λ j. (j, history_of_key (with_event e h) j)) (λ j. (j, history_of_key h j)) (keys_in_order h.events) (λ j has. ap (λ x. (j, x)) (history_pass h e j (of_no_key j e is)))

-- with one of a key that has events
pub rows_push : (h : JudgedHistory) (e : Event) (k i : ℕ) → key_of e ≡ Some k → position (nat_eq k) (keys_in_order h.events) ≡ Some i
    → rows_of (with_event e h) ≡ set_value_at (rows_of h) i (with_pushed (length h.events) e (history_of_key h k))
rows_push h e k i is at =
    ap (rows_by (history_of_key (with_event e h))) (keys-push h.events e k is (has_place (keys_in_order h.events) k i at))
    ∙ rows_with (history_of_key h) (history_of_key (with_event e h)) k (λ j ne. sym (history_pass h e j (of_other_key j k e is ne)))
    (keys_in_order h.events) i (each_once-apart (filter_map key_of h.events)) at
    ∙ ap (set_value_at (rows_of h) i) (history_push h e k is)

-- with the first one of a key
pub rows_first : (h : JudgedHistory) (e : Event) (k : ℕ) → key_of e ≡ Some k → position (nat_eq k) (keys_in_order h.events) ≡ None
    → rows_of (with_event e h) ≡ rows_of h ++ (k, with_pushed (length h.events) e (without_events (kind_of h k) (budget_of h k))) ∷ []
rows_first h e k is at =
    let absent : ¬ Contains (keys_in_order h.events) k = position_none (keys_in_order h.events) k at in
    ap (rows_by (history_of_key (with_event e h))) (keys-first h.events e k is absent)
    ∙ map-append (λ j. (j, history_of_key (with_event e h) j)) (keys_in_order h.events) (k ∷ [])
    ∙ ap (λ l. l ++ (k, history_of_key (with_event e h) k) ∷ [])
    (rows_without (history_of_key h) (history_of_key (with_event e h)) k (λ j ne. sym (history_pass h e j (of_other_key j k e is ne))) (keys_in_order h.events) absent)
    ∙ ap (λ x. rows_of h ++ (k, x) ∷ [])
    (history_push h e k is ∙ ap (λ (l : List (ℕ × Event)). record { kind = kind_of h k; budget = budget_of h k; events = l ++ (length h.events, e) ∷ [] }) (events-none k 0 h.events absent))

-- other keys keep their histories where something is set for one
pub others_keep : (h : JudgedHistory) (k : ℕ) (setting : Setting) (j : ℕ) → j ≢ k → history_of_key h j ≡ history_of_key (with_setting k setting h) j
others_keep h k (Kind kind) j ne =
    ap (λ (o : Option ModelKind). record { kind = unwrap_or o h.kind; budget = budget_of h j; events = events_of_key j (indexed_from 0 h.events) }) (sym (lookup_other h.kinds k j kind ne))
others_keep h k (Budget n) j ne =
    ap (λ (o : Option ℕ). record { kind = kind_of h j; budget = unwrap_or o h.budget; events = events_of_key j (indexed_from 0 h.events) }) (sym (lookup_other h.budgets k j n ne))

-- the first n events: their keys are the first ones
keys_cut : (n : ℕ) (events : List Event) → keys_in_order events ≡ keys_in_order (take n events) ++ filter (is_new (filter_map key_of (take n events))) (keys_in_order (drop n events))
keys_cut n events =
    ap keys_in_order (sym (take-append-drop n events))
    ∙ ap each_once (filter_map-append key_of (take n events) (drop n events))
    ∙ each_once-append (filter_map key_of (take n events)) (filter_map key_of (drop n events))

filter_rows : (f : ℕ → KeyHistory) (p : ℕ × KeyHistory → Bool) (js ks : List ℕ) → ((j : ℕ) → Contains js j → p (j, f j) ≡ true) → ((k : ℕ) → Contains ks k → p (k, f k) ≡ false)
    → filter p (rows_by f (js ++ ks)) ≡ rows_by f js
filter_rows f p js ks here gone =
    ap (filter p) (map-append (λ j. (j, f j)) js ks)
    ∙ filter-append p (rows_by f js) (rows_by f ks)
    ∙ ap (λ l. l ++ filter p (rows_by f ks)) (filter-all p (rows_by f js) (λ x h. let from = from_map (λ j. (j, f j)) js x h in subst (λ w. p w ≡ true) from.2 (here from.0 from.1)))
    ∙ ap (λ l. rows_by f js ++ l) (filter-none p (rows_by f ks) (λ x h. let from = from_map (λ j. (j, f j)) ks x h in subst (λ w. p w ≡ false) from.2 (gone from.0 from.1)))
    ∙ append-nil (rows_by f js)

begins_some : (h : JudgedHistory) (n j : ℕ) → Contains (keys_in_order (take n h.events)) j → begins_below n (history_of_key h j) ≡ true
begins_some h n j has =
    ap (λ (l : List (ℕ × Event)). nat_lt 0 (length l)) (events-take j n h.events)
    ∙ lt-ltb 0 (length (events_of_key j (indexed_from 0 (take n h.events)))) (events-some j 0 (take n h.events) has)

begins_none : (h : JudgedHistory) (n j : ℕ) → ¬ Contains (keys_in_order (take n h.events)) j → begins_below n (history_of_key h j) ≡ false
begins_none h n j absent =
    ap (λ (l : List (ℕ × Event)). nat_lt 0 (length l)) (events-take j n h.events ∙ events-none j 0 (take n h.events) absent)

-- the rows of the keys that have an event below n
pub rows_begun : (h : JudgedHistory) (n : ℕ) → filter (λ row. begins_below n row.1) (rows_of h) ≡ rows_by (history_of_key h) (keys_in_order (take n h.events))
rows_begun h n =
    ap (λ ks. filter (λ row. begins_below n row.1) (rows_by (history_of_key h) ks)) (keys_cut n h.events)
    ∙ filter_rows (history_of_key h) (λ row. begins_below n row.1) (keys_in_order (take n h.events))
    (filter (is_new (filter_map key_of (take n h.events))) (keys_in_order (drop n h.events)))
    (begins_some h n)
    (λ k has. begins_none h n k (λ there. is_new-lacks (filter_map key_of (take n h.events)) k
    (from_filter (is_new (filter_map key_of (take n h.events))) (keys_in_order (drop n h.events)) k has).1 (from_each_once (filter_map key_of (take n h.events)) k there)))

-- they are the first ones
pub rows_first_kept : (h : JudgedHistory) (n kept : ℕ) → kept ≡ length (filter (λ row. begins_below n row.1) (rows_of h))
    → filter (λ row. begins_below n row.1) (rows_of h) ≡ take kept (rows_of h)
rows_first_kept h n kept is =
    rows_begun h n
    ∙ sym (take-append_seam (rows_by (history_of_key h) (keys_in_order (take n h.events))) (rows_by (history_of_key h) (filter (is_new (filter_map key_of (take n h.events))) (keys_in_order (drop n h.events)))))
    ∙ ap (λ l. take (length (rows_by (history_of_key h) (keys_in_order (take n h.events)))) l)
    (sym (map-append (λ j. (j, history_of_key h j)) (keys_in_order (take n h.events)) (filter (is_new (filter_map key_of (take n h.events))) (keys_in_order (drop n h.events))))
    ∙ sym (ap (rows_by (history_of_key h)) (keys_cut n h.events)))
    ∙ ap (λ m. take m (rows_of h)) (sym (is ∙ ap length (rows_begun h n)))

-- and the rows after the cut
pub rows_cut : (h : JudgedHistory) (n : ℕ) → rows_of (rewound n h) ≡ cut_rows n (filter (λ row. begins_below n row.1) (rows_of h))
rows_cut h n =
    map_same (λ j. (j, history_of_key (rewound n h) j)) (λ j. (j, cut_at n (history_of_key h j))) (keys_in_order (take n h.events))
    (λ j has. ap (λ (l : List (ℕ × Event)). let x : KeyHistory = record { kind = kind_of h j; budget = budget_of h j; events = l } in (j, x)) (sym (events-take j n h.events)))
    ∙ sym (cut_each (history_of_key h) (keys_in_order (take n h.events)))
    ∙ ap (cut_rows n) (sym (rows_begun h n))
  where
    cut_each : (f : ℕ → KeyHistory) (ks : List ℕ) → cut_rows n (rows_by f ks) ≡ rows_by (λ j. cut_at n (f j)) ks
    cut_each f [] = refl
    cut_each f (k ∷ ks) = ap (λ l. (k, cut_at n (f k)) ∷ l) (cut_each f ks)
