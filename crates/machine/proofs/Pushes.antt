-- The effect of one more event on a history
use Rattle.std.proofs.Common.{◌≡◌, ℕ, ◌+◌, List, [], ◌∷◌, ◌++◌, length, refl, sym, ap, ◌∙◌, subst, arith, ⊎_elim}
use Rattle.std.proofs.lemmas.List.{append-nil}
use Rattle.events.specs.declared.event.Event.{Event}
use Rattle.events.specs.Events.{Mark, op_event, entries_by, last_after, entries_of, indexed_from, marks}
use Rattle.history.specs.WellFormed.{IsWellFormed, IsHistoryOf}
use Rattle.history.proofs.ProcessRule.{is_history}
use Rattle.linspec.specs.KeptMarks.{last_invocation, marks_made}
use Rattle.linspec.specs.MarkRule.{MayFollow, AreWellFormed, IsKeyed}
use Rattle.linspec.proofs.EventMarks.{last_invocation_from-push, entries_from-push}
use Rattle.linspec.proofs.Prefixes.{marks-append}
use Rattle.linspec.proofs.Lists.{snoc_cut}
use Rattle.linspec.proofs.Histories.{of_history}

-- the marks of the events
abbrev pub marks_in : List Event → List Mark
marks_in events = marks (entries_of (indexed_from 0 events))

-- the marks that the event makes after these
abbrev pub new_marks : List Event → Event → List Mark
new_marks events e = marks_made (length events) events e

pub marks-push : (events : List Event) (e : Event) → marks_in (events ++ e ∷ []) ≡ marks_in events ++ new_marks events e
marks-push events e =
    ap marks (entries_from-push 0 (λ _. 0) events e)
    ∙ marks-append (entries_of (indexed_from 0 events)) (entries_by (0 + length events) (last_invocation events) (op_event e))
    ∙ ap (λ n. marks_in events ++ marks (entries_by n (last_invocation events) (op_event e))) (let t : 0 + length events ≡ length events = omega arith in t)

pub last-push : (events : List Event) (e : Event) (p : ℕ) → last_invocation (events ++ e ∷ []) p ≡ last_after (length events) (last_invocation events) (op_event e) p
last-push events e p =
    ap (λ (f : ℕ → ℕ). f p) (last_invocation_from-push 0 (λ _. 0) events e)
    ∙ ap (λ n. last_after n (last_invocation events) (op_event e) p) (let t : 0 + length events ≡ length events = omega arith in t)

-- well-formed after a history
pub history-push : (c : ℕ) (events : List Event) (e : Event) → IsHistoryOf c events → IsWellFormed c events e → IsHistoryOf c (events ++ e ∷ [])
history-push c events e h well before after f cut =
    ⊎_elim (λ none. (let q : f ∷ after ≡ [] = none in cc)) (λ r. at_rest r.0 r.1 r.2) (snoc_cut before (f ∷ after) events e (sym cut))
  where
    at_rest : (rest : List Event) → f ∷ after ≡ rest ++ e ∷ [] → before ++ rest ≡ events → IsWellFormed c before f
    at_rest [] q r =
        let is : e ≡ f = cc in
        subst (IsWellFormed c before) is (subst (λ l. IsWellFormed c l e) (sym (sym (append-nil before) ∙ r)) well)
    at_rest (x ∷ rest) q r = let is : x ≡ f = cc in subst (IsWellFormed c before) is (h before rest x (sym r))

pub no_history : (c : ℕ) → IsHistoryOf c []
no_history c before after e cut = nil before cut
  where
    nil : (before : List Event) → [] ≡ before ++ e ∷ after → IsWellFormed c before e
    nil [] q = cc
    nil (x ∷ before) q = cc

-- the mark that comes next may follow
pub may_follow : (c : ℕ) (events : List Event) (e : Event) (m : Mark) → IsHistoryOf c (events ++ e ∷ []) → new_marks events e ≡ m ∷ [] → MayFollow (marks_in events) m
may_follow c events e m h is =
    (let well : AreWellFormed (marks_in (events ++ e ∷ [])) = (of_history (indexed_from 0 (events ++ e ∷ [])) (is_history c (events ++ e ∷ []) h)).1 in
    subst AreWellFormed (marks-push events e ∙ ap (λ l. marks_in events ++ l) is) well (marks_in events) [] m refl)

pub keyed : (c : ℕ) (events : List Event) → IsHistoryOf c events → IsKeyed (entries_of (indexed_from 0 events))
keyed c events h = (of_history (indexed_from 0 events) (is_history c events h)).0

pub well_formed : (c : ℕ) (events : List Event) → IsHistoryOf c events → AreWellFormed (marks_in events)
well_formed c events h = (of_history (indexed_from 0 events) (is_history c events h)).1
