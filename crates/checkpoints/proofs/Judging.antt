-- how a key stands with one more event
use Rattle.std.proofs.Common.{◌≡◌, ◌≢◌, ℕ, ◌⊎◌, inl, inr, ⊎_elim, Option, Some, None, List, [], ◌∷◌, ◌++◌, refl, sym, ap, ◌∙◌, subst}
use Rattle.std.proofs.lemmas.List.{append-nil}
use Rattle.models.specs.declared.operation.Op.{Op}
use Rattle.models.specs.declared.finding.Answer.{Answer}
use Rattle.models.specs.Objects.{Object}
use Rattle.kinds.specs.declared.model_kind.ModelKind.{ModelKind}
use Rattle.kinds.specs.Kinds.{object_of}
use Rattle.events.specs.declared.event.EventKind.{EventKind}
use Rattle.events.specs.declared.event.EventKind.TheVariants as kinds
use Rattle.events.specs.declared.event.Process.TheVariants as processes
use Rattle.events.specs.declared.event.Body.TheVariants as bodies
use Rattle.events.specs.declared.event.Event.{Event}
use Rattle.events.specs.Events.{OpEvent, Mark, Entry, act_by, op_event_in, op_event, mark_by_act, entry_by, entries_by, last_by, last_after, entries_of, marks}
use Rattle.events.specs.Events.Mark.{Invoked, Returned, Failed, Crashed}
use Rattle.events.specs.ProcessRule.{MayAct, MayCome, busy_by, busy_after, IsHistory}
use Rattle.linspec.specs.declared.verdict.KeyStatus.{KeyStatus}
use Rattle.linspec.specs.declared.verdict.KeyStatus.TheVariants as status
use Rattle.linspec.specs.MarkRule.{IsNew, MayFollow, AreWellFormed}
use Rattle.linspec.specs.Ends.{Count}
use Rattle.linspec.specs.Counts.{CountsMoreThan}
use Rattle.linspec.specs.Orders.{IsLinearizable}
use Rattle.linspec.specs.Verdicts.{IsKeyStatus, IsRising}
use Rattle.linspec.proofs.ByKind.{counted_order}
use Rattle.linspec.proofs.Prefixes.{marks-append}
use Rattle.linspec.proofs.Histories.{of_history}
use Rattle.judging.specs.declared.step.Step.{Step}
use Rattle.judging.specs.declared.step.Step.TheVariants as steps
use Rattle.judging.specs.Meaning.{mark_by, Blows, IsStep, IsAnswer, Answers, TakesUnlessOver}
use Rattle.frontier.specs.AnyFrontier.{any_view_of, kind_of_frontier}
use Rattle.checkpoints.specs.declared.live_key.LiveKey.{LiveKey}
use Rattle.checkpoints.specs.declared.key_state.KeyState.{KeyState}
use Rattle.checkpoints.specs.declared.key_state.KeyState.TheVariants.{Alive, Dead, Over}
use Rattle.checkpoints.specs.Noted.{noted_of}
use Rattle.checkpoints.specs.LiveKey.{invocation_of, busy_of, KnowsOpen, IsLiveKey, id_by, closed_by}
use Rattle.checkpoints.specs.KeyState.{status_of, IsAlive, IsKeyState}
use Rattle.checkpoints.proofs.Noting.{IsNoted, knows_after, still_known, none_closed}
use Rattle.checkpoints.proofs.Pushes.{entries_of-push, invocation_of-push, busy_of-push, MayCome-push}
use Rattle.checkpoints.proofs.Statuses.{IsLinearizable-empty, none_blown, fronts_of_none, over_here, over_stays, dead_here, dead_stays, alive_here}

-- the operation that an event is of, where the last invocation of its process is known
abbrev pub id_for : ℕ → EventKind → ℕ → ℕ
id_for index kinds.Invoke last = index
id_for index kinds.Ok last = last
id_for index kinds.Fail last = last
id_for index kinds.Info last = last

id_is : (index p key last : ℕ) (kind : EventKind) (op : Op) (busy : ℕ → Option ℕ) (was : Option ℕ) → MayAct busy p key (act_by kind op) → (busy p ≡ Some key → was ≡ Some last) → id_by index kind was ≡ Some (id_for index kind last)
id_is index p key last kinds.Invoke op busy was may knows = refl
id_is index p key last kinds.Ok op busy was may knows = knows may
id_is index p key last kinds.Fail op busy was may knows = knows may
id_is index p key last kinds.Info op busy was may knows = knows may

abbrev pub entry_of : ℕ → ℕ → Mark → Entry
entry_of index key mark = record { index = index; key = key; mark = mark }

one_mark : (index last : ℕ) (kind : EventKind) (op : Op) → mark_by_act index last (act_by kind op) ≡ mark_by (id_for index kind last) kind op
one_mark index last kinds.Invoke op = refl
one_mark index last kinds.Ok op = refl
one_mark index last kinds.Fail op = refl
one_mark index last kinds.Info op = refl

-- an event makes one entry or none
none_or_one : (i : ℕ) (last : ℕ → ℕ) (o : Option OpEvent) → (entries_by i last o ≡ []) ⊎ ((e : Entry) × (entries_by i last o ≡ e ∷ []))
none_or_one i last None = inl refl
none_or_one i last (Some e) = inr (entry_by i last e, refl)

module _ (kind : ModelKind) (budget : ℕ) (events : List (ℕ × Event)) (x : ℕ × Event) (history : IsHistory (events ++ x ∷ [])) where
  none_more : entries_by x.0 (invocation_of events) (op_event x.1) ≡ [] → entries_of (events ++ x ∷ []) ≡ entries_of events
  none_more none = entries_of-push events x ∙ ap (λ l. entries_of events ++ l) none ∙ append-nil (entries_of events)

  one_more : (e : Entry) → entries_by x.0 (invocation_of events) (op_event x.1) ≡ e ∷ [] → entries_of (events ++ x ∷ []) ≡ entries_of events ++ e ∷ []
  one_more e one = entries_of-push events x ∙ ap (λ l. entries_of events ++ l) one

  well_with : (e : Entry) → entries_of (events ++ x ∷ []) ≡ entries_of events ++ e ∷ [] → AreWellFormed (marks (entries_of events ++ e ∷ []))
  well_with e q = subst (λ l. AreWellFormed (marks l)) q (of_history (events ++ x ∷ []) history).1

  -- a key that is dead stays dead, and one that is over stays over
  pub dead_after : (i : ℕ) → IsKeyStatus kind budget (entries_of events) (status.Dead i) → IsKeyStatus kind budget (entries_of (events ++ x ∷ [])) (status.Dead i)
  dead_after i dead =
      ⊎_elim
      (λ none. subst (λ l. IsKeyStatus kind budget l (status.Dead i)) (sym (none_more none)) dead)
      (λ one. (let q : entries_of (events ++ x ∷ []) ≡ entries_of events ++ one.0 ∷ [] = one_more one.0 one.1 in
      let r = dead_stays (CountsMoreThan kind) (object_of kind) budget (entries_of events) one.0 dead.1.0 (λ before. counted_order kind before budget) (well_with one.0 q) dead.0 dead.1.1 in
      subst (λ l. IsKeyStatus kind budget l (status.Dead i)) (sym q) (r.0, (dead.1.0, r.1, dead.1.2))))
      (none_or_one x.0 (invocation_of events) (op_event x.1))

  pub over_after : (i : ℕ) → IsKeyStatus kind budget (entries_of events) (status.Over i) → IsKeyStatus kind budget (entries_of (events ++ x ∷ [])) (status.Over i)
  over_after i over =
      ⊎_elim
      (λ none. subst (λ l. IsKeyStatus kind budget l (status.Over i)) (sym (none_more none)) over)
      (λ one. (let q : entries_of (events ++ x ∷ []) ≡ entries_of events ++ one.0 ∷ [] = one_more one.0 one.1 in
      subst (λ l. IsKeyStatus kind budget l (status.Over i)) (sym q) (over_stays (CountsMoreThan kind) (object_of kind) budget (entries_of events) one.0 i (subst IsRising q (of_history (events ++ x ∷ []) history).2) over)))
      (none_or_one x.0 (invocation_of events) (op_event x.1))

-- an invocation and an info kill nothing
pub record KillNothing (o : Object) : Type 0 where
  pub invocation : (before : List Mark) (id : ℕ) (op : Op) → IsNew before id → IsLinearizable o before → IsLinearizable o (before ++ Invoked id op ∷ [])
  pub crash : (before : List Mark) (id : ℕ) → IsLinearizable o before → IsLinearizable o (before ++ Crashed id ∷ [])

-- the answer is the step, where the history before was linearizable
step_of_answer : (more : Count) (o : Object) → KillNothing o → (budget : ℕ) (before : List Mark) (mark : Mark) → MayFollow before mark → IsLinearizable o before → (step : Step) → IsAnswer more o budget before mark step → IsStep more o budget before mark step
step_of_answer more o kills budget before (Returned id answer) may lin step is = is
step_of_answer more o kills budget before (Failed id) may lin step is = is
step_of_answer more o kills budget before (Invoked id op) may lin step is = subst (IsStep more o budget before (Invoked id op)) (sym is) ((λ none. none), kills.invocation before id op may lin)
step_of_answer more o kills budget before (Crashed id) may lin step is = subst (IsStep more o budget before (Crashed id)) (sym is) ((λ none. none), kills.crash before id lin)

-- only an ok blows the budget
blown_at : (more : Count) (budget : ℕ) (before : List Mark) (mark : Mark) → Blows more budget before mark → ((id : ℕ) × (answer : Answer) × (mark ≡ Returned id answer)) × more before budget
blown_at more budget before (Returned id answer) many = ((id, answer, refl), many)
blown_at more budget before (Invoked id op) none = absurd none
blown_at more budget before (Failed id) none = absurd none
blown_at more budget before (Crashed id) none = absurd none

module _ (kind : ModelKind) (budget : ℕ) (events : List (ℕ × Event)) (index : ℕ) (event : Event) (live : LiveKey) (is_live : IsLiveKey kind budget events live) (alive : IsAlive kind budget events) (history : IsHistory (events ++ (index, event) ∷ [])) where
  -- an event that speaks of no operation leaves everything as it is
  pub silent_after : op_event event ≡ None → IsKeyState kind budget (events ++ (index, event) ∷ []) (Alive live)
  silent_after silent = (
    subst (λ l. IsKeyStatus kind budget l status.Alive) (sym same) alive,
    record {
      stands = subst (λ l. (any_view_of live.frontier).stands (marks l)) (sym same) is_live.stands;
      kind_is = is_live.kind_is;
      budget_is = is_live.budget_is;
      knows = λ p k h. is_live.knows p k (sym (ap (λ o. busy_after (busy_of events) o p) silent) ∙ ap (λ (f : ℕ → Option ℕ). f p) (sym (busy_of-push events (index, event))) ∙ h)
          ∙ ap Some (sym (ap (λ (f : ℕ → ℕ). f p) (invocation_of-push events (index, event)) ∙ ap (λ o. last_after index (invocation_of events) o p) silent));
    },
  )
    where
      same : entries_of (events ++ (index, event) ∷ []) ≡ entries_of events
      same = none_more kind budget events (index, event) history (ap (entries_by index (invocation_of events)) silent)

  module _ (p : ℕ) (is_client : event.process ≡ processes.Client p) (op : Op) (is_op : event.body ≡ bodies.Op op) where
    speaks : op_event event ≡ Some (record { process = p; key = op.key; act = act_by event.kind op })
    speaks = ap (λ process. op_event_in event.kind process event.body) is_client ∙ ap (op_event_in event.kind (processes.Client p)) is_op

    abbrev pub the_id : ℕ
    the_id = id_for index event.kind (invocation_of events p)

    finds_id : id_by index event.kind (noted_of live.invocations p) ≡ Some the_id
    finds_id = id_is index p op.key (invocation_of events p) event.kind op (busy_of events) _
        (subst (MayCome (busy_of events)) speaks (MayCome-push events (index, event) history))
        (λ h. is_live.knows p op.key h)

    -- a completion finds an open operation
    pub always_some : id_by index event.kind (noted_of live.invocations p) ≡ None → ⊥
    always_some none = (let clash : None ≡ Some the_id = sym none ∙ finds_id in cc)

    abbrev pub entry : Entry
    entry = entry_of index op.key (mark_by the_id event.kind op)

    entries : entries_of (events ++ (index, event) ∷ []) ≡ entries_of events ++ entry ∷ []
    entries = one_more kind budget events (index, event) history entry
        (ap (entries_by index (invocation_of events)) speaks ∙ ap (λ m. entry_of index op.key m ∷ []) (one_mark index (invocation_of events p) event.kind op))

    may_follow : MayFollow (marks (entries_of events)) (mark_by the_id event.kind op)
    may_follow = well_with kind budget events (index, event) history entry entries (marks (entries_of events)) [] (mark_by the_id event.kind op) (sym (marks-append (entries_of events) (entry ∷ [])))

    -- the open operations after the event, if it is noted
    busy_then : (q : ℕ) → busy_of (events ++ (index, event) ∷ []) q ≡ busy_by (busy_of events) p op.key (act_by event.kind op) q
    busy_then q = ap (λ (f : ℕ → Option ℕ). f q) (busy_of-push events (index, event)) ∙ ap (λ o. busy_after (busy_of events) o q) speaks

    last_then : (q : ℕ) → invocation_of (events ++ (index, event) ∷ []) q ≡ last_by index (invocation_of events) p (act_by event.kind op) q
    last_then q = ap (λ (f : ℕ → ℕ). f q) (invocation_of-push events (index, event)) ∙ ap (λ o. last_after index (invocation_of events) o q) speaks

    pub knows_then : (after : LiveKey) → ((q : ℕ) → q ≢ p → noted_of after.invocations q ≡ noted_of live.invocations q) → IsNoted index event.kind (noted_of after.invocations p) → KnowsOpen (events ++ (index, event) ∷ []) after
    knows_then after others noted q k h =
        knows_after index p op.key op (invocation_of events) (busy_of events) (noted_of live.invocations) (noted_of after.invocations) is_live.knows others event.kind noted q k (sym (busy_then q) ∙ h)
        ∙ ap Some (sym (last_then q))

    -- the events so far are known still, and the process that is closed has no open operation after the event
    pub knows_still : (after : LiveKey) → ((q : ℕ) → q ≢ p → noted_of after.invocations q ≡ noted_of live.invocations q) → noted_of after.invocations p ≡ id_by index event.kind (noted_of live.invocations p) → KnowsOpen events after
    knows_still after others here =
        still_known index p op.key op (invocation_of events) (busy_of events) (noted_of live.invocations) (noted_of after.invocations) is_live.knows others event.kind
        (subst (MayCome (busy_of events)) speaks (MayCome-push events (index, event) history)) here

    pub closed_then : (q : ℕ) → closed_by p event.kind ≡ Some q → busy_of (events ++ (index, event) ∷ []) q ≡ None
    closed_then q is = busy_then q ∙ none_closed p op.key op (busy_of events) event.kind q is

    -- the key's status after a step
    abbrev pub status_at : Step → KeyStatus
    status_at steps.Alive = status.Alive
    status_at steps.Dead = status.Dead index
    status_at steps.Over = status.Over index

    marks_with : marks (entries_of events ++ entry ∷ []) ≡ marks (entries_of events) ++ mark_by the_id event.kind op ∷ []
    marks_with = marks-append (entries_of events) (entry ∷ [])

    not_here : ¬ Blows (CountsMoreThan kind) budget (marks (entries_of events)) (mark_by the_id event.kind op) → (id : ℕ) (answer : Answer) → entry.mark ≡ Returned id answer → ¬ CountsMoreThan kind (marks (entries_of events)) budget
    not_here none id answer is = subst (λ m. ¬ Blows (CountsMoreThan kind) budget (marks (entries_of events)) m) is none

    by_step : (step : Step) → IsStep (CountsMoreThan kind) (object_of kind) budget (marks (entries_of events)) (mark_by the_id event.kind op) step → IsKeyStatus kind budget (entries_of (events ++ (index, event) ∷ [])) (status_at step)
    by_step steps.Alive s =
        subst (λ l. IsKeyStatus kind budget l status.Alive) (sym entries)
        (alive_here (CountsMoreThan kind) (object_of kind) budget (entries_of events) entry (not_here s.0) alive.0 alive.1 (subst (IsLinearizable (object_of kind)) (sym marks_with) s.1))
    by_step steps.Dead s =
        let r = dead_here (CountsMoreThan kind) (object_of kind) budget (entries_of events) entry (not_here s.0) alive.0 alive.1 (subst (λ l. ¬ IsLinearizable (object_of kind) l) (sym marks_with) s.1) in
        subst (λ l. IsKeyStatus kind budget l (status.Dead index)) (sym entries) (r.0, (entry, r.1, refl))
    by_step steps.Over s =
        let b = blown_at (CountsMoreThan kind) budget (marks (entries_of events)) (mark_by the_id event.kind op) s in
        subst (λ l. IsKeyStatus kind budget l (status.Over index)) (sym entries) (over_here (CountsMoreThan kind) (object_of kind) budget (entries_of events) entry b.0.0 b.0.1 b.0.2 alive.0 b.1)

    -- the same in the words of the code: the operation that was found, and what the step was
    module _ (found : Option ℕ) (finds : found ≡ id_by index event.kind (noted_of live.invocations p)) where
      pub never_none : found ≡ None → ⊥
      never_none none = always_some (sym finds ∙ none)

      module _ (id : ℕ) (is_id : found ≡ Some id) (step : Step) where
        same_id : id ≡ the_id
        same_id = (let both : Some id ≡ Some the_id = sym is_id ∙ (finds ∙ finds_id) in cc)

        pub status_stepped : Answers (CountsMoreThan (kind_of_frontier live.frontier)) (object_of (kind_of_frontier live.frontier)) (any_view_of live.frontier).budget (any_view_of live.frontier).stands (mark_by id event.kind op) step → KillNothing (object_of kind)
            → (s : Step) → step ≡ s → IsKeyStatus kind budget (entries_of (events ++ (index, event) ∷ [])) (status_at s)
        status_stepped answers kills s is =
            let before : IsLinearizable (object_of kind) (marks (entries_of events)) = alive.1 (entries_of events) ([], append-nil (entries_of events)) in
            let here = subst (λ k. Answers (CountsMoreThan k) (object_of k) budget (any_view_of live.frontier).stands (mark_by the_id event.kind op) step) is_live.kind_is
            (subst (λ n. Answers (CountsMoreThan (kind_of_frontier live.frontier)) (object_of (kind_of_frontier live.frontier)) n (any_view_of live.frontier).stands (mark_by the_id event.kind op) step) is_live.budget_is
            (subst (λ n. Answers (CountsMoreThan (kind_of_frontier live.frontier)) (object_of (kind_of_frontier live.frontier)) (any_view_of live.frontier).budget (any_view_of live.frontier).stands (mark_by n event.kind op) step) same_id answers)) in
            subst (λ r. IsKeyStatus kind budget (entries_of (events ++ (index, event) ∷ [])) (status_at r)) is
            (by_step step (step_of_answer (CountsMoreThan kind) (object_of kind) kills budget (marks (entries_of events)) (mark_by the_id event.kind op) may_follow before step (here.right (marks (entries_of events)) is_live.stands may_follow)))

        -- the meaning of the frontier after a step of Alive, now or once it is carried out
        pub marks_stepped : (next : List Mark → Type 0) → TakesUnlessOver (any_view_of live.frontier).stands next (mark_by id event.kind op) step → step ≡ steps.Alive → next (marks (entries_of (events ++ (index, event) ∷ [])))
        marks_stepped next kept is =
            let same_kept = subst (λ n. TakesUnlessOver (any_view_of live.frontier).stands next (mark_by n event.kind op) step) same_id kept in
            subst next (sym (ap marks entries ∙ marks_with)) (same_kept.taken (λ e. cc) (marks (entries_of events)) is_live.stands may_follow)

-- a key without events is alive
pub alive_at_first : (kind : ModelKind) (budget : ℕ) → IsKeyStatus kind budget [] status.Alive
alive_at_first kind budget = (none_blown (CountsMoreThan kind) budget, fronts_of_none (object_of kind) (IsLinearizable-empty (object_of kind)))

-- the kept state of such a key
module _ (kind : ModelKind) (budget : ℕ) (events : List (ℕ × Event)) (state : KeyState) (stands : IsKeyState kind budget events state) where
  pub is_alive : (live : LiveKey) → state ≡ Alive live → IsAlive kind budget events × IsLiveKey kind budget events live
  is_alive live is = subst (IsKeyState kind budget events) is stands

  pub is_dead : (i : ℕ) → state ≡ Dead i → IsKeyStatus kind budget (entries_of events) (status.Dead i)
  is_dead i is = subst (IsKeyState kind budget events) is stands

  pub is_over : (i : ℕ) → state ≡ Over i → IsKeyStatus kind budget (entries_of events) (status.Over i)
  is_over i is = subst (IsKeyState kind budget events) is stands

-- the status of the key is that of its events
pub status_is : (kind : ModelKind) (budget : ℕ) (events : List (ℕ × Event)) (state : KeyState) → IsKeyState kind budget events state → IsKeyStatus kind budget (entries_of events) (status_of state)
status_is kind budget events (Alive live) stands = stands.0
status_is kind budget events (Dead i) stands = stands
status_is kind budget events (Over i) stands = stands
