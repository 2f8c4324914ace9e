-- one more event at the end of a history: its entry, and which processes are busy
use Rattle.std.proofs.Common.{◌≡◌, ℕ, ◌+◌, Option, None, List, [], ◌∷◌, ◌++◌, refl, sym, ap, ◌∙◌, append_assoc}
use Rattle.std.proofs.lemmas.List.{append-nil}
use Rattle.events.specs.declared.event.Event.{Event}
use Rattle.events.specs.Events.{op_event, entries_by, last_after, entries_from, entries_of}
use Rattle.events.specs.ProcessRule.{MayCome, busy_after, MayComeFrom, IsHistory}
use Rattle.checkpoints.specs.LiveKey.{invocations_from, busy_from, invocation_of, busy_of}

entries_from-push : (last : ℕ → ℕ) (events : List (ℕ × Event)) (x : ℕ × Event)
    → entries_from last (events ++ x ∷ []) ≡ entries_from last events ++ entries_by x.0 (invocations_from last events) (op_event x.1)
entries_from-push last [] x = append-nil _
entries_from-push last (y ∷ events) x =
    ap (λ l. entries_by y.0 last (op_event y.1) ++ l) (entries_from-push (last_after y.0 last (op_event y.1)) events x)
    ∙ sym (append_assoc (entries_by y.0 last (op_event y.1)) (entries_from (last_after y.0 last (op_event y.1)) events) _)

invocations_from-push : (last : ℕ → ℕ) (events : List (ℕ × Event)) (x : ℕ × Event) → invocations_from last (events ++ x ∷ []) ≡ last_after x.0 (invocations_from last events) (op_event x.1)
invocations_from-push last [] x = refl
invocations_from-push last (y ∷ events) x = invocations_from-push (last_after y.0 last (op_event y.1)) events x

busy_from-push : (busy : ℕ → Option ℕ) (events : List (ℕ × Event)) (x : ℕ × Event) → busy_from busy (events ++ x ∷ []) ≡ busy_after (busy_from busy events) (op_event x.1)
busy_from-push busy [] x = refl
busy_from-push busy (y ∷ events) x = busy_from-push (busy_after busy (op_event y.1)) events x

may_come : (n : ℕ) (busy : ℕ → Option ℕ) (events : List (ℕ × Event)) (x : ℕ × Event) → MayComeFrom n busy (events ++ x ∷ []) → MayCome (busy_from busy events) (op_event x.1)
may_come n busy [] x h = h.1
may_come n busy (y ∷ events) x h = may_come (y.0 + 1) (busy_after busy (op_event y.1)) events x h.2

module _ (events : List (ℕ × Event)) (x : ℕ × Event) where
  -- the entries of the events with one more
  pub entries_of-push : entries_of (events ++ x ∷ []) ≡ entries_of events ++ entries_by x.0 (invocation_of events) (op_event x.1)
  entries_of-push = entries_from-push (λ _. 0) events x

  pub invocation_of-push : invocation_of (events ++ x ∷ []) ≡ last_after x.0 (invocation_of events) (op_event x.1)
  invocation_of-push = invocations_from-push (λ _. 0) events x

  pub busy_of-push : busy_of (events ++ x ∷ []) ≡ busy_after (busy_of events) (op_event x.1)
  busy_of-push = busy_from-push (λ _. None) events x

  pub MayCome-push : IsHistory (events ++ x ∷ []) → MayCome (busy_of events) (op_event x.1)
  MayCome-push h = may_come 0 (λ _. None) events x h
