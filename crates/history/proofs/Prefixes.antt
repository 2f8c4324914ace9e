-- The first events of a history: they are one, and an event is well-formed after those before it
use Rattle.std.proofs.Common.{◌≡◌, ℕ, ◌+◌, ◌<◌, Option, List, [], ◌∷◌, ◌++◌, length, take, drop, get_or, sym, ap, ◌∙◌, append_assoc, arith}
use Rattle.std.proofs.lemmas.List.{take_more, drop_more, take-append-drop, length-take-le}
use Rattle.processes.specs.declared.threads.Thread.{Thread}
use Rattle.events.specs.declared.event.Event.{Event}
use Rattle.history.specs.WellFormed.{IsWellFormed, IsHistoryOf}
use Rattle.history.specs.HistoryInvariant.{MovesOn, HasNext, IsSoundHistory}
use Rattle.history.proofs.Kept.{next_of, committed}

pub history-take : (c n : ℕ) (events : List Event) → IsHistoryOf c events → IsHistoryOf c (take n events)
history-take c n events h before after e cut =
    h before (after ++ drop n events) e (sym (take-append-drop n events) ∙ ap (λ l. l ++ drop n events) cut ∙ append_assoc before (e ∷ after) (drop n events))

pub well_formed_at : (c : ℕ) (events : List Event) (i : ℕ) (e : Event) → IsHistoryOf c events → i < length events → e ≡ get_or events i e → IsWellFormed c (take i events) e
well_formed_at c events i e h below is =
    (let cut : events ≡ take i events ++ e ∷ drop (i + 1) events =
    sym (take-append-drop i events) ∙ ap (λ l. take i events ++ l) (drop_more events i e below ∙ ap (λ x. x ∷ drop (i + 1) events) (sym is)) in
    h (take i events) (drop (i + 1) events) e cut)

pub next_at : (c : ℕ) (events : List Event) (threads : List Thread) (opened : List (Option ℕ)) (i : ℕ) (e : Event) → IsHistoryOf c events → i < length events → e ≡ get_or events i e → IsSoundHistory c (take i events) threads opened
    → HasNext e.process
next_at c events threads opened i e h below is kept = next_of c (take i events) threads opened e kept (well_formed_at c events i e h below is)

-- the event at i, after those before it
pub sound_more : (c : ℕ) (events : List Event) (threads threads' : List Thread) (opened later : List (Option ℕ)) (i n : ℕ) (e : Event) → IsHistoryOf c events → i < length events → e ≡ get_or events i e → n ≡ i
    → IsSoundHistory c (take i events) threads opened → MovesOn n e.kind e.process threads threads' opened later → IsSoundHistory c (take (i + 1) events) threads' later
sound_more c events threads threads' opened later i n e h below is index kept moves =
    (let len : length (take i events) ≡ i = length-take-le i events (omega arith) in
    committed c (take i events) (take (i + 1) events) threads threads' opened later n e kept (well_formed_at c events i e h below is) (index ∙ sym len) moves
    (take_more events i e below ∙ ap (λ x. take i events ++ x ∷ []) (sym is)))
