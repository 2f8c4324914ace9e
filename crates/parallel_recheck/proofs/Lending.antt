-- borrowed events, the first of them
use Rattle.std.proofs.Common.{◌≡◌, ℕ, ◌+◌, ◌<◌, List, [], ◌∷◌, ◌++◌, length, take, slice_index_or, Bor, sym, ap, ◌∙◌}
use Rattle.std.proofs.lemmas.List.{take-map, map_more, length-map}
use Rattle.events.specs.declared.event.Event.{Event}
use Rattle.parallel_recheck.specs.Pieces.{borrowed}

abbrev pub one_of : ℕ × Bor Event → ℕ × Event
one_of x = (x.0, x.1.now)

-- one more of them is taken
pub borrowed_more : (items : List (ℕ × Bor Event)) (events : List (ℕ × Event)) (i : ℕ) (x : ℕ × Bor Event) → borrowed items ≡ events
    → i < length items → x ≡ slice_index_or items i x → take (i + 1) events ≡ take i events ++ one_of x ∷ []
borrowed_more items events i x same lt is =
    ap (λ l. take (i + 1) l) (sym same)
    ∙ take-map one_of (i + 1) items
    ∙ map_more one_of items i x lt
    ∙ ap (λ y. borrowed (take i items) ++ one_of y ∷ []) (sym is)
    ∙ ap (λ l. l ++ one_of x ∷ []) (sym (take-map one_of i items) ∙ ap (λ l. take i l) same)

pub length-borrowed : (items : List (ℕ × Bor Event)) → length (borrowed items) ≡ length items
length-borrowed items = length-map items one_of
