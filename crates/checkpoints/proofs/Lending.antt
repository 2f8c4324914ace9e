-- borrowed events, found at their places
use Rattle.std.proofs.Common.{◌≡◌, ℕ, zero, suc, ◌+◌, ◌<◌, Some, List, [], ◌∷◌, ◌++◌, length, take, drop, slice_get, slice_index_or, sym, ap, ◌∙◌, subst, append_assoc, arith}
use Rattle.std.proofs.lemmas.List.{take-map, drop-map}
use Rattle.std.proofs.lemmas.List.Elements.{All-take, All-drop}
use Rattle.std.proofs.lemmas.Option.{get_or_from_slice_get, slice_get_within}
use Rattle.std.proofs.lemmas.Slice.{between_is}
use Rattle.std.specs.List.{between}
use Rattle.events.specs.declared.event.Event.{Event}
use Rattle.checkpoints.specs.Borrowed.{AreBorrowedBy, places_of, AreAt}

module _ (borrowed : List Event) where
  abbrev pub StandsIn : ℕ × Event → Type 0
  StandsIn x = slice_get borrowed x.0 ≡ Some x.1

  found : (events : List (ℕ × Event)) → AreBorrowedBy borrowed events → (i x d : ℕ) → i < length (places_of events) → x ≡ slice_index_or (places_of events) i d
      → (e : Event) × (slice_get borrowed x ≡ Some e) × (take (suc i) events ≡ take i events ++ (x, e) ∷ [])
  found [] are i x d lt is = absurd (omega arith)
  found (y ∷ events) are zero x d lt is = (y.1, ap (slice_get borrowed) is ∙ are 0 y (omega arith), ap (λ n. (n, y.1) ∷ []) (sym is))
  found (y ∷ events) are (suc i) x d lt is =
      let rest = found events (λ k e l. are (suc k) e (omega arith)) i x d (omega arith) is in
      (rest.0, rest.1, ap (λ l. y ∷ l) rest.2)

  module _ (places : List ℕ) (events : List (ℕ × Event)) (are : AreAt borrowed places events) where
    -- a part of them
    pub AreAt-between : (from to : ℕ) → AreAt borrowed (between from to places) (between from to events)
    AreAt-between from to = record {
      places_are = ap (between from to) are.places_are
          ∙ between_is (places_of events) from to
          ∙ ap (drop from) (take-map (λ (x : ℕ × Event). x.0) to events)
          ∙ drop-map (λ (x : ℕ × Event). x.0) from (take to events)
          ∙ ap places_of (sym (between_is events from to));
      are_borrowed = subst (AreBorrowedBy borrowed) (sym (between_is events from to)) (All-drop StandsIn from (take to events) (All-take StandsIn to events are.are_borrowed));
    }

    module _ (i x d : ℕ) (lt : i < length places) (is : x ≡ slice_index_or places i d) where
      one : (e : Event) × (slice_get borrowed x ≡ Some e) × (take (suc i) events ≡ take i events ++ (x, e) ∷ [])
      one = found events are.are_borrowed i x d (subst (λ l. i < length l) are.places_are lt) (subst (λ l. x ≡ slice_index_or l i d) are.places_are is)

      -- each place is one of the borrowed events
      pub stands_within : x < length borrowed
      stands_within = slice_get_within borrowed x one.0 one.1

      -- one more is taken, which is the event at its place
      pub one_more_borrowed : (event : Event) → event ≡ slice_index_or borrowed x event → take (i + 1) events ≡ take i events ++ (x, event) ∷ []
      one_more_borrowed event read =
          let same : one.0 ≡ event = sym (get_or_from_slice_get borrowed x one.0 event one.1) ∙ sym read in
          let next : i + 1 ≡ suc i = omega arith in
          ap (λ n. take n events) next ∙ one.2 ∙ ap (λ e. take i events ++ (x, e) ∷ []) same

      -- so it is of a part behind others
      pub one_more_behind : (before : List (ℕ × Event)) (event : Event) → event ≡ slice_index_or borrowed x event → before ++ take (i + 1) events ≡ (before ++ take i events) ++ (x, event) ∷ []
      one_more_behind before event read = ap (λ l. before ++ l) (one_more_borrowed event read) ∙ sym (append_assoc before (take i events) ((x, event) ∷ []))
