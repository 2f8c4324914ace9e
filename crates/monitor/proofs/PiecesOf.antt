-- the pieces of a history, with one event more
use Rattle.std.proofs.Common.{◌≡◌, ℕ, zero, suc, ◌+◌, ◌<◌, nat_eq, Option, Some, None, IfSome, IsSomeAnd, option_map, List, [], ◌∷◌, ◌++◌, length, take, map, slice_get, slice_index_or, refl, sym, ap, ◌∙◌, subst, arith}
use Rattle.std.specs.List.{position}
use Rattle.std.proofs.lemmas.List.{map-append, take_more, length-take-le}
use Rattle.std.specs.Map.{keys_of}
use Rattle.std.proofs.lemmas.Option.{same_Some, slice_get-map}
use Rattle.indexmap.specs.Layout.{set_value_at}
use Rattle.kinds.specs.declared.model_kind.ModelKind.{ModelKind}
use Rattle.events.specs.declared.event.Event.{Event}
use Rattle.events.specs.Events.{key_of, indexed_from, events_of_key}
use Rattle.events.specs.ProcessRule.{IsHistory}
use Rattle.history.specs.WellFormed.{IsHistoryOf}
use Rattle.linspec.specs.KeyHistory.{KeyHistory, with_pushed, without_events}
use Rattle.parallel_recheck.specs.Pieces.{PieceView, piece_of}
use Rattle.linspec.specs.JudgedHistory.{history_of_key, keys_in_order}
use Rattle.monitor.specs.Judged.{rows_of}
use Rattle.monitor.specs.Loading.{alone, rows_of_pieces}
use Rattle.monitor.proofs.KeyPlaces.{keys_of-rows_by, row_at, position_none}
use Rattle.monitor.proofs.KeyedEvents.{events-none}
use Rattle.monitor.proofs.RowsAfter.{rows_fault, rows_push, rows_first}
use Rattle.history.proofs.Prefixes.{history-take}
use Rattle.monitor.proofs.Verdicts.{follows as next_of_key}

abbrev pub as_piece : ℕ × KeyHistory → ℕ × PieceView
as_piece row = (row.0, piece_of row.0 row.1)

pieces_set : (rows : List (ℕ × KeyHistory)) (place k : ℕ) (old new : KeyHistory) → slice_get rows place ≡ Some (k, old)
    → map as_piece (set_value_at rows place new) ≡ set_value_at (map as_piece rows) place (piece_of k new)
pieces_set [] place k old new at = refl
pieces_set (row ∷ rows) zero k old new at = ap (λ (r : ℕ × KeyHistory). (row.0, piece_of r.0 new) ∷ map as_piece rows) (same_Some _ _ at)
pieces_set (row ∷ rows) (suc place) k old new at = ap (λ l. as_piece row ∷ l) (pieces_set rows place k old new at)

keys_of_pieces : (rows : List (ℕ × KeyHistory)) → keys_of (map as_piece rows) ≡ keys_of rows
keys_of_pieces [] = refl
keys_of_pieces (row ∷ rows) = ap (λ l. row.0 ∷ l) (keys_of_pieces rows)

module _ (kind : ModelKind) (budget : ℕ) (events : List Event) where
  pub keys_are : keys_of (rows_of_pieces kind budget events) ≡ keys_in_order events
  keys_are = keys_of_pieces (rows_of (alone kind budget events)) ∙ keys_of-rows_by (history_of_key (alone kind budget events)) (keys_in_order events)

  module _ (e : Event) where
    pub with_fault : key_of e ≡ None → rows_of_pieces kind budget (events ++ e ∷ []) ≡ rows_of_pieces kind budget events
    with_fault is = ap (map as_piece) (rows_fault (alone kind budget events) e is)

    pub with_next : (k place : ℕ) → key_of e ≡ Some k → position (nat_eq k) (keys_in_order events) ≡ Some place
        → rows_of_pieces kind budget (events ++ e ∷ []) ≡ set_value_at (rows_of_pieces kind budget events) place (piece_of k (with_pushed (length events) e (history_of_key (alone kind budget events) k)))
    with_next k place is at =
        ap (map as_piece) (rows_push (alone kind budget events) e k place is at)
        ∙ pieces_set (rows_of (alone kind budget events)) place k (history_of_key (alone kind budget events) k) (with_pushed (length events) e (history_of_key (alone kind budget events) k))
        (row_at (history_of_key (alone kind budget events)) (keys_in_order events) k place at)

    pub with_first : (k : ℕ) → key_of e ≡ Some k → position (nat_eq k) (keys_in_order events) ≡ None
        → rows_of_pieces kind budget (events ++ e ∷ []) ≡ rows_of_pieces kind budget events ++ (k, piece_of k (with_pushed (length events) e (without_events kind budget))) ∷ []
    with_first k is at =
        ap (map as_piece) (rows_first (alone kind budget events) e k is at)
        ∙ map-append as_piece (rows_of (alone kind budget events)) ((k, with_pushed (length events) e (without_events kind budget)) ∷ [])

-- the event at an index is added to pieces of those before it
one_more : (events : List Event) (i : ℕ) (e : Event) → i < length events → e ≡ slice_index_or events i e → take (i + 1) events ≡ take i events ++ e ∷ []
one_more events i e lt is = take_more events i e lt ∙ ap (λ y. take i events ++ y ∷ []) (sym is)

module _ (kind : ModelKind) (budget : ℕ) (events : List Event) (i : ℕ) (e : Event) (entries : List (ℕ × PieceView))
    (grouped : entries ≡ rows_of_pieces kind budget (take i events)) (lt : i < length events) (is : e ≡ slice_index_or events i e) where
  long : length (take i events) ≡ i
  long = length-take-le i events (omega arith)

  pub unchanged : key_of e ≡ None → entries ≡ rows_of_pieces kind budget (take (i + 1) events)
  unchanged none = grouped ∙ sym (with_fault kind budget (take i events) e none) ∙ ap (rows_of_pieces kind budget) (sym (one_more events i e lt is))

  module _ (k : ℕ) (key : key_of e ≡ Some k) where
    found : (o : Option ℕ) → o ≡ position (nat_eq k) (keys_of entries) → position (nat_eq k) (keys_in_order (take i events)) ≡ o
    found o at = sym (ap (λ l. position (nat_eq k) (keys_of l)) grouped ∙ ap (position (nat_eq k)) (keys_are kind budget (take i events))) ∙ sym at

    here : (place : ℕ) → Some place ≡ position (nat_eq k) (keys_of entries) → slice_get entries place ≡ Some (k, piece_of k (history_of_key (alone kind budget (take i events)) k))
    here place at =
        ap (λ l. slice_get l place) grouped
        ∙ slice_get-map as_piece (rows_of (alone kind budget (take i events))) place
        ∙ ap (option_map as_piece) (row_at (history_of_key (alone kind budget (take i events))) (keys_in_order (take i events)) k place (found (Some place) at))

    pub extended : (place : ℕ) (entries' : List (ℕ × PieceView)) → Some place ≡ position (nat_eq k) (keys_of entries)
        → IfSome (slice_get entries place) (λ row. entries' ≡ set_value_at entries place (piece_of row.1.key (with_pushed i e row.1.judged)))
        → entries' ≡ rows_of_pieces kind budget (take (i + 1) events)
    extended place entries' at extends =
        subst (λ (o : Option (ℕ × PieceView)). IfSome o (λ row. entries' ≡ set_value_at entries place (piece_of row.1.key (with_pushed i e row.1.judged)))) (here place at) extends
        ∙ ap (λ l. set_value_at l place (piece_of k (with_pushed i e (history_of_key (alone kind budget (take i events)) k)))) grouped
        ∙ ap (λ n. set_value_at (rows_of_pieces kind budget (take i events)) place (piece_of k (with_pushed n e (history_of_key (alone kind budget (take i events)) k)))) (sym long)
        ∙ sym (with_next kind budget (take i events) e k place key (found (Some place) at))
        ∙ ap (rows_of_pieces kind budget) (sym (one_more events i e lt is))

    pub begun : (entries' : List (ℕ × PieceView)) → None ≡ position (nat_eq k) (keys_of entries)
        → entries' ≡ entries ++ (k, piece_of k (with_pushed i e (without_events kind budget))) ∷ []
        → entries' ≡ rows_of_pieces kind budget (take (i + 1) events)
    begun entries' at begins =
        begins
        ∙ ap (λ l. l ++ (k, piece_of k (with_pushed i e (without_events kind budget))) ∷ []) grouped
        ∙ ap (λ n. rows_of_pieces kind budget (take i events) ++ (k, piece_of k (with_pushed n e (without_events kind budget))) ∷ []) (sym long)
        ∙ sym (with_first kind budget (take i events) e k key (found None at))
        ∙ ap (rows_of_pieces kind budget) (sym (one_more events i e lt is))

    module _ (rule : (c : ℕ) (events : List Event) → IsHistoryOf c events → IsHistory (indexed_from 0 events))
        (of_key : (key : ℕ) (events : List (ℕ × Event)) → IsHistory events → IsHistory (events_of_key key events))
        (c : ℕ) (may : IsHistoryOf c events) where
      follows : IsHistory ((history_of_key (alone kind budget (take i events)) k).events ++ (i, e) ∷ [])
      follows = subst (λ n. IsHistory ((history_of_key (alone kind budget (take i events)) k).events ++ (n, e) ∷ [])) long
          (next_of_key rule of_key c k (take i events) e (subst (IsHistoryOf c) (one_more events i e lt is) (history-take c (i + 1) events may)) key)

      pub extends : (place : ℕ) → Some place ≡ position (nat_eq k) (keys_of entries)
          → IsSomeAnd (slice_get entries place) (λ row. IsHistory (row.1.judged.events ++ (i, e) ∷ []))
      extends place at = subst (λ (o : Option (ℕ × PieceView)). IsSomeAnd o (λ row. IsHistory (row.1.judged.events ++ (i, e) ∷ []))) (sym (here place at)) follows

      pub begins : None ≡ position (nat_eq k) (keys_of entries) → IsHistory ((i, e) ∷ [])
      begins at = subst (λ (l : List (ℕ × Event)). IsHistory (l ++ (i, e) ∷ [])) (events-none k 0 (take i events) (position_none (keys_in_order (take i events)) k (found None at))) follows
