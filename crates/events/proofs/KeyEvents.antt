-- The events of one key follow the process rule where all events do, and their entries are the entries of the key
use Rattle.std.proofs.Common.{◌≡◌, ◌≢◌, ℕ, ◌+◌, ◌≤◌, Bool, true, false, cond, nat_eq, Option, Some, None, List, [], ◌∷◌, ◌++◌, refl, sym, ap, ◌∙◌, subst, ⊎_elim, arith}
use Rattle.std.proofs.lemmas.Bool.{cases_eq, eq-eqb, ne_eqb}
use Rattle.std.proofs.lemmas.Option.{same_Some}
use Rattle.events.specs.declared.event.Event.{Event}
use Rattle.events.specs.Events.{Act, OpEvent, op_event, Mark, mark_by_act, Entry, entry_by, last_by, last_after, entries_by, entries_from, entries_of, is_of_key, events_of_key, of_key}
use Rattle.events.specs.Events.Act.{Invokes, Returns, Fails, Crashes}
use Rattle.events.specs.ProcessRule.{MayAct, MayCome, busy_by, busy_after, MayComeFrom, IsHistory}
use Rattle.events.proofs.OpEvents.{sooner}

kept : (key : ℕ) (x : ℕ × Event) (events : List (ℕ × Event)) → is_of_key key (op_event x.1) ≡ true → events_of_key key (x ∷ events) ≡ x ∷ events_of_key key events
kept key x events is = ap (λ b. cond b (x ∷ events_of_key key events) (events_of_key key events)) is

left_out : (key : ℕ) (x : ℕ × Event) (events : List (ℕ × Event)) → is_of_key key (op_event x.1) ≡ false → events_of_key key (x ∷ events) ≡ events_of_key key events
left_out key x events is = ap (λ b. cond b (x ∷ events_of_key key events) (events_of_key key events)) is

-- the key of an open operation, if it is this key
abbrev this_key : ℕ → Option ℕ → Option ℕ
this_key key None = None
this_key key (Some other) = cond (nat_eq other key) (Some other) None

this_key-same : (key other : ℕ) → other ≡ key → this_key key (Some other) ≡ Some other
this_key-same key other same = ap (λ b. cond b (Some other) None) (eq-eqb other key same)

this_key-other : (key other : ℕ) → other ≢ key → this_key key (Some other) ≡ None
this_key-other key other apart = ap (λ b. cond b (Some other) None) (ne_eqb other key apart)

-- a process is busy among the key's events where its open operation is of the key
abbrev BusyAgree : ℕ → (ℕ → Option ℕ) → (ℕ → Option ℕ) → Type 0
BusyAgree key busy own = (p : ℕ) → own p ≡ this_key key (busy p)

may_act : (key : ℕ) (busy own : ℕ → Option ℕ) (process k : ℕ) (act : Act) → BusyAgree key busy own → k ≡ key → MayAct busy process k act → MayAct own process k act
may_act key busy own process k (Invokes op) agree same may = (agree process ∙ ap (this_key key) may.0, may.1)
may_act key busy own process k (Returns answer) agree same may = agree process ∙ ap (this_key key) may ∙ this_key-same key k same
may_act key busy own process k Fails agree same may = agree process ∙ ap (this_key key) may ∙ this_key-same key k same
may_act key busy own process k Crashes agree same may = agree process ∙ ap (this_key key) may ∙ this_key-same key k same

-- a process, with an open operation of the key, or none, in both
set_both : (key process : ℕ) (busy own : ℕ → Option ℕ) (now : Option ℕ) → BusyAgree key busy own → this_key key now ≡ now → BusyAgree key (λ p. cond (nat_eq p process) now (busy p)) (λ p. cond (nat_eq p process) now (own p))
set_both key process busy own now agree this p = by_test (nat_eq p process)
  where
    by_test : (b : Bool) → cond b now (own p) ≡ this_key key (cond b now (busy p))
    by_test true = sym this
    by_test false = agree p

-- a process that has nothing of the key open, before and after
set_one : (key process : ℕ) (busy own : ℕ → Option ℕ) (now : Option ℕ) → BusyAgree key busy own → this_key key (busy process) ≡ None → this_key key now ≡ None → BusyAgree key (λ p. cond (nat_eq p process) now (busy p)) own
set_one key process busy own now agree before after p =
    ⊎_elim
    (λ same. agree p ∙ ap (λ q. this_key key (busy q)) same ∙ before ∙ sym after ∙ ap (λ b. this_key key (cond b now (busy p))) (sym (eq-eqb p process same)))
    (λ other. agree p ∙ ap (λ b. this_key key (cond b now (busy p))) (sym (ne_eqb p process other)))
    (cases_eq p process)

after_own : (key : ℕ) (busy own : ℕ → Option ℕ) (process k : ℕ) (act : Act) → BusyAgree key busy own → k ≡ key → BusyAgree key (busy_by busy process k act) (busy_by own process k act)
after_own key busy own process k (Invokes op) agree same = set_both key process busy own (Some k) agree (this_key-same key k same)
after_own key busy own process k (Returns answer) agree same = set_both key process busy own None agree refl
after_own key busy own process k Fails agree same = set_both key process busy own None agree refl
after_own key busy own process k Crashes agree same = set_both key process busy own None agree refl

after_other : (key : ℕ) (busy own : ℕ → Option ℕ) (process k : ℕ) (act : Act) → BusyAgree key busy own → k ≢ key → MayAct busy process k act → BusyAgree key (busy_by busy process k act) own
after_other key busy own process k (Invokes op) agree apart may = set_one key process busy own (Some k) agree (ap (this_key key) may.0) (this_key-other key k apart)
after_other key busy own process k (Returns answer) agree apart may = set_one key process busy own None agree (ap (this_key key) may ∙ this_key-other key k apart) refl
after_other key busy own process k Fails agree apart may = set_one key process busy own None agree (ap (this_key key) may ∙ this_key-other key k apart) refl
after_other key busy own process k Crashes agree apart may = set_one key process busy own None agree (ap (this_key key) may ∙ this_key-other key k apart) refl

own_may_come : (key n : ℕ) (busy own : ℕ → Option ℕ) (events : List (ℕ × Event)) → BusyAgree key busy own → MayComeFrom n busy events → MayComeFrom n own (events_of_key key events)
own_may_come key n busy own [] agree may = tt
own_may_come key n busy own (x ∷ events) agree may = by_event (op_event x.1) refl may.1 may.2 (λ m b o. own_may_come key m b o events)
  where
    by_event : (o : Option OpEvent) → op_event x.1 ≡ o → MayCome busy o → MayComeFrom (x.0 + 1) (busy_after busy o) events
        → ((m : ℕ) (b o : ℕ → Option ℕ) → BusyAgree key b o → MayComeFrom m b events → MayComeFrom m o (events_of_key key events)) → MayComeFrom n own (events_of_key key (x ∷ events))
    by_event None is here rest next =
        subst (MayComeFrom n own) (sym (left_out key x events (ap (is_of_key key) is)))
        (sooner n (x.0 + 1) own (events_of_key key events) (let b : n ≤ x.0 = may.0 in omega arith) (next (x.0 + 1) busy own agree rest))
    by_event (Some e) is here rest next =
        ⊎_elim
        (λ same. subst (MayComeFrom n own) (sym (kept key x events (ap (is_of_key key) is ∙ eq-eqb e.key key same))) (
          may.0,
          subst (MayCome own) (sym is) (may_act key busy own e.process e.key e.act agree same here),
          subst (λ o. MayComeFrom (x.0 + 1) (busy_after own o) (events_of_key key events)) (sym is)
              (next (x.0 + 1) (busy_after busy (Some e)) (busy_after own (Some e)) (after_own key busy own e.process e.key e.act agree same) rest),
        ))
        (λ other. subst (MayComeFrom n own) (sym (left_out key x events (ap (is_of_key key) is ∙ ne_eqb e.key key other)))
        (sooner n (x.0 + 1) own (events_of_key key events) (let b : n ≤ x.0 = may.0 in omega arith)
        (next (x.0 + 1) (busy_after busy (Some e)) own (after_other key busy own e.process e.key e.act agree other here) rest)))
        (cases_eq e.key key)

pub IsHistory-events_of_key : (key : ℕ) (events : List (ℕ × Event)) → IsHistory events → IsHistory (events_of_key key events)
IsHistory-events_of_key key events may = own_may_come key 0 (λ _. None) (λ _. None) events (λ p. refl) may

-- a process whose open operation is of the key has the same last invocation among the key's events
abbrev LastAgree : ℕ → (ℕ → Option ℕ) → (ℕ → ℕ) → (ℕ → ℕ) → Type 0
LastAgree key busy last own = (p : ℕ) → busy p ≡ Some key → own p ≡ last p

same_mark : (key i : ℕ) (busy : ℕ → Option ℕ) (last own : ℕ → ℕ) (process k : ℕ) (act : Act) → LastAgree key busy last own → k ≡ key → MayAct busy process k act → mark_by_act i (own process) act ≡ mark_by_act i (last process) act
same_mark key i busy last own process k (Invokes op) agree same may = refl
same_mark key i busy last own process k (Returns answer) agree same may = ap (λ l. mark_by_act i l (Returns answer)) (agree process (may ∙ ap Some same))
same_mark key i busy last own process k Fails agree same may = ap (λ l. mark_by_act i l Fails) (agree process (may ∙ ap Some same))
same_mark key i busy last own process k Crashes agree same may = ap (λ l. mark_by_act i l Crashes) (agree process (may ∙ ap Some same))

-- after an event of the key
invoked_own : (key i process : ℕ) (busy : ℕ → Option ℕ) (last own : ℕ → ℕ) (now : Option ℕ) → LastAgree key busy last own
    → LastAgree key (λ p. cond (nat_eq p process) now (busy p)) (λ p. cond (nat_eq p process) i (last p)) (λ p. cond (nat_eq p process) i (own p))
invoked_own key i process busy last own now agree p = by_test (nat_eq p process)
  where
    by_test : (b : Bool) → cond b now (busy p) ≡ Some key → cond b i (own p) ≡ cond b i (last p)
    by_test true held = refl
    by_test false held = agree p held

-- after a completion, whatever its key
completed : (key process : ℕ) (busy : ℕ → Option ℕ) (last own : ℕ → ℕ) → LastAgree key busy last own → LastAgree key (λ p. cond (nat_eq p process) None (busy p)) last own
completed key process busy last own agree p = by_test (nat_eq p process)
  where
    by_test : (b : Bool) → cond b None (busy p) ≡ Some key → own p ≡ last p
    by_test true held = (let none : ◌≡◌ {A = Option ℕ} None (Some key) = held in cc)
    by_test false held = agree p held

-- after an invocation of another key
invoked_other : (key i process k : ℕ) (busy : ℕ → Option ℕ) (last own : ℕ → ℕ) → LastAgree key busy last own → k ≢ key → LastAgree key (λ p. cond (nat_eq p process) (Some k) (busy p)) (λ p. cond (nat_eq p process) i (last p)) own
invoked_other key i process k busy last own agree apart p = by_test (nat_eq p process)
  where
    by_test : (b : Bool) → cond b (Some k) (busy p) ≡ Some key → own p ≡ cond b i (last p)
    by_test true held = absurd (apart (same_Some k key held))
    by_test false held = agree p held

last_own : (key i : ℕ) (busy : ℕ → Option ℕ) (last own : ℕ → ℕ) (process k : ℕ) (act : Act) → LastAgree key busy last own → LastAgree key (busy_by busy process k act) (last_by i last process act) (last_by i own process act)
last_own key i busy last own process k (Invokes op) agree = invoked_own key i process busy last own (Some k) agree
last_own key i busy last own process k (Returns answer) agree = completed key process busy last own agree
last_own key i busy last own process k Fails agree = completed key process busy last own agree
last_own key i busy last own process k Crashes agree = completed key process busy last own agree

last_other : (key i : ℕ) (busy : ℕ → Option ℕ) (last own : ℕ → ℕ) (process k : ℕ) (act : Act) → LastAgree key busy last own → k ≢ key → LastAgree key (busy_by busy process k act) (last_by i last process act) own
last_other key i busy last own process k (Invokes op) agree apart = invoked_other key i process k busy last own agree apart
last_other key i busy last own process k (Returns answer) agree apart = completed key process busy last own agree
last_other key i busy last own process k Fails agree apart = completed key process busy last own agree
last_other key i busy last own process k Crashes agree apart = completed key process busy last own agree

-- the entries of a key, after an event of the key, and of another
own_entry : (key : ℕ) (e : Entry) (entries : List Entry) → e.key ≡ key → of_key key (e ∷ entries) ≡ e ∷ of_key key entries
own_entry key e entries same = ap (λ b. cond b (e ∷ of_key key entries) (of_key key entries)) (eq-eqb e.key key same)

other_entry : (key : ℕ) (e : Entry) (entries : List Entry) → e.key ≢ key → of_key key (e ∷ entries) ≡ of_key key entries
other_entry key e entries other = ap (λ b. cond b (e ∷ of_key key entries) (of_key key entries)) (ne_eqb e.key key other)

own_entries : (key n : ℕ) (busy : ℕ → Option ℕ) (last own : ℕ → ℕ) (events : List (ℕ × Event)) → LastAgree key busy last own → MayComeFrom n busy events → entries_from own (events_of_key key events) ≡ of_key key (entries_from last events)
own_entries key n busy last own [] agree may = refl
own_entries key n busy last own (x ∷ events) agree may = by_event (op_event x.1) refl may.1 may.2 (λ m b l o. own_entries key m b l o events)
  where
    by_event : (o : Option OpEvent) → op_event x.1 ≡ o → MayCome busy o → MayComeFrom (x.0 + 1) (busy_after busy o) events
        → ((m : ℕ) (b : ℕ → Option ℕ) (l o : ℕ → ℕ) → LastAgree key b l o → MayComeFrom m b events → entries_from o (events_of_key key events) ≡ of_key key (entries_from l events))
        → entries_from own (events_of_key key (x ∷ events)) ≡ of_key key (entries_by x.0 last o ++ entries_from (last_after x.0 last o) events)
    by_event None is here rest next = ap (entries_from own) (left_out key x events (ap (is_of_key key) is)) ∙ next (x.0 + 1) busy last own agree rest
    by_event (Some e) is here rest next =
        ⊎_elim
        (λ same. ap (entries_from own) (kept key x events (ap (is_of_key key) is ∙ eq-eqb e.key key same))
        ∙ ap (λ o. entries_by x.0 own o ++ entries_from (last_after x.0 own o) (events_of_key key events)) is
        ∙ ap (λ (m : Mark). record { index = x.0; key = e.key; mark = m } ∷ entries_from (last_after x.0 own (Some e)) (events_of_key key events)) (same_mark key x.0 busy last own e.process e.key e.act agree same here)
        ∙ ap (λ l. entry_by x.0 last e ∷ l) (next (x.0 + 1) (busy_after busy (Some e)) (last_after x.0 last (Some e)) (last_after x.0 own (Some e)) (last_own key x.0 busy last own e.process e.key e.act agree) rest)
        ∙ sym (own_entry key (entry_by x.0 last e) (entries_from (last_after x.0 last (Some e)) events) same))
        (λ other. ap (entries_from own) (left_out key x events (ap (is_of_key key) is ∙ ne_eqb e.key key other))
        ∙ next (x.0 + 1) (busy_after busy (Some e)) (last_after x.0 last (Some e)) own (last_other key x.0 busy last own e.process e.key e.act agree other) rest
        ∙ sym (other_entry key (entry_by x.0 last e) (entries_from (last_after x.0 last (Some e)) events) other))
        (cases_eq e.key key)

pub entries_of-events_of_key : (key : ℕ) (events : List (ℕ × Event)) → IsHistory events → entries_of (events_of_key key events) ≡ of_key key (entries_of events)
entries_of-events_of_key key events may = own_entries key 0 (λ _. None) (λ _. 0) (λ _. 0) events (λ p held. refl) may
