-- what each event makes of the facts
use Rattle.std.proofs.Common.{◌≡◌, ◌≢◌, ℕ, ◌+◌, ◌<◌, ℤ, ◌⊎◌, inl, inr, ⊎_elim, List, [], ◌∷◌, ◌++◌, refl, sym, ap, ◌∙◌, subst, arith}
use Rattle.std.specs.List.{Contains}
use Rattle.std.proofs.lemmas.List.{append-nil}
use Rattle.std.proofs.lemmas.List.Elements.{Contains-append_left}
use Rattle.models.specs.declared.operation.Op.{Op}
use Rattle.models.specs.declared.finding.Answer.{Answer}
use Rattle.models.specs.declared.finding.Answer.TheVariants.{Number}
use Rattle.models.specs.Objects.{unordered_queue}
use Rattle.models.specs.Runs.{times_in}
use Rattle.events.specs.Events.{Mark}
use Rattle.events.specs.Events.Mark.{Invoked, Returned, Failed, Crashed}
use Rattle.linspec.specs.Operations.{IsOpen}
use Rattle.linspec.specs.MarkRule.{MayFollow, AreWellFormed}
use Rattle.linspec.proofs.Lists.{snoc_cut}
use Rattle.linspec.proofs.Prefixes.{IsLinearizable-append}
use Rattle.set_chains.proofs.Once.{one_op}
use Rattle.bag_matches.specs.Counts.{enqueued, dequeued, IsBalanced}
use Rattle.bag_matches.proofs.Legal.{balanced_if_linearizable}
use Rattle.bag_matches.proofs.Events.{balanced_after_dequeue, balanced_after_fail, not_known}
use Rattle.wide_unordered_queue.specs.declared.pending.Call.{Call}
use Rattle.wide_unordered_queue.specs.declared.pending.Call.TheVariants as calls
use Rattle.wide_unordered_queue.specs.declared.pending.Pending.{Pending}
use Rattle.wide_unordered_queue.specs.declared.change.Change.{Change}
use Rattle.wide_unordered_queue.specs.declared.change.Change.TheVariants.{Dies, Invokes, Leaves, Lowers}
use Rattle.wide_unordered_queue.specs.Facts.{call_by, Facts}
use Rattle.wide_unordered_queue.specs.Kept.{IsDead, IsTakenBy}
use Rattle.wide_unordered_queue.proofs.Tests.{by_enqueue, by_dequeue}
use Rattle.wide_unordered_queue.proofs.Events.{after_ok_of_enqueue, after_crash, after_other_fail, dequeues, after_ok_of_dequeue, enqueues, may_not_fail, after_fail, after_invoke}

last_or_before : (rest : List Mark) (x m : Mark) (after : List Mark) → x ∷ after ≡ rest ++ m ∷ [] → ((rest ≡ []) × (x ≡ m)) ⊎ ((r : List Mark) × (rest ≡ x ∷ r))
last_or_before [] x m after e = inl (refl, (let h : x ≡ m = cc in h))
last_or_before (y ∷ r) x m after e = inr (r, (let h : x ≡ y = cc in ap (λ z. z ∷ r) (sym h)))

pub well_more : (ms : List Mark) (m : Mark) → AreWellFormed ms → MayFollow ms m → AreWellFormed (ms ++ m ∷ [])
well_more ms m well may before after x cut = ⊎_elim
    (λ (e : x ∷ after ≡ []). cc)
    (λ k. ⊎_elim
    (λ j. (let whole : before ≡ ms = sym (append-nil before) ∙ ap (λ l. before ++ l) (sym j.0) ∙ k.2 in subst (λ l. MayFollow l x) (sym whole) (subst (MayFollow ms) (sym j.1) may)))
    (λ j. well before j.0 x (ap (λ l. before ++ l) (sym j.1) ∙ k.2))
    (last_or_before k.0 x m after k.1))
    (snoc_cut before (x ∷ after) ms m cut)

not_balanced : (ms : List Mark) → AreWellFormed ms → ¬ IsBalanced ms → IsDead ms
not_balanced ms well n = (well, λ l. n (balanced_if_linearizable ms well l))

pub still_dead : (ms : List Mark) (m : Mark) → IsDead ms → MayFollow ms m → IsDead (ms ++ m ∷ [])
still_dead ms m dead may = let well = well_more ms m dead.0 may in (well, λ l. dead.1 (IsLinearizable-append unordered_queue ms (m ∷ []) well l))

module _ (f : Facts) where
  pub invoked : (id : ℕ) (op : Op) (call : Call) → call_by op.name op.part ≡ call → IsTakenBy f (Invoked id op) (Invokes id call)
  invoked id op call is ms facts may = after_invoke f ms facts id op (well_more ms _ facts.well may) call is

  pub crashed : (id : ℕ) → IsTakenBy f (Crashed id) (Leaves id)
  crashed id ms facts may = after_crash f ms facts id (well_more ms _ facts.well may)

  -- what is pending is open
  pub not_pending : (id : ℕ) (m : Mark) (change : Change) → ((ms : List Mark) → MayFollow ms m → IsOpen ms id) → ((p : Pending) → Contains f.pending p → p.id ≢ id) → IsTakenBy f m change
  not_pending id m change opens none ms facts may = let p = facts.pending.all id (opens ms may) in absurd (none p.0 p.1 p.2)

  module _ (p : Pending) (h : Contains f.pending p) where
    pub enqueued_now : (v : ℤ) (answer : Answer) → p.call ≡ calls.Enqueue v → IsTakenBy f (Returned p.id answer) (Leaves p.id)
    enqueued_now v answer e ms facts may = after_ok_of_enqueue f ms facts p.id answer v (enqueues f ms facts p h v e) (well_more ms _ facts.well may)

    pub dequeued_now : (v : ℤ) (times : ℕ) → p.call ≡ calls.Dequeue → times ≡ times_in v f.backlog → 0 < times → IsTakenBy f (Returned p.id (Number v)) (Lowers p.id v times)
    dequeued_now v times e is some ms facts may = after_ok_of_dequeue f ms facts p h e v (well_more ms _ facts.well may) times is some

    pub killed_by_dequeue : (v : ℤ) → p.call ≡ calls.Dequeue → times_in v f.backlog ≡ 0 → IsTakenBy f (Returned p.id (Number v)) Dies
    killed_by_dequeue v e none ms facts may =
        let well = well_more ms (Returned p.id (Number v)) facts.well may in
        let i = facts.pending.is p h in
        not_balanced (ms ++ Returned p.id (Number v) ∷ []) well (λ b. (
        let lt : dequeued ms v ms < enqueued ms v ms = ((balanced_after_dequeue ms p.id v well i.op i.invoked (dequeues f ms facts p h e)).0 b).1 in
        let c : dequeued ms v ms + times_in v f.backlog ≡ enqueued ms v ms = facts.counted v in
        omega (arith, lt, c, none)))

    -- an ok that no queue gives
    pub foreign : (answer : Answer) → ((v : ℤ) → p.call ≢ calls.Enqueue v) → (p.call ≡ calls.Dequeue → (v : ℤ) → answer ≢ Number v) → IsTakenBy f (Returned p.id answer) Dies
    foreign answer no_enqueue no_value ms facts may =
        let well = well_more ms (Returned p.id answer) facts.well may in
        let i = facts.pending.is p h in
        not_balanced (ms ++ Returned p.id answer ∷ []) well (λ b. not_known ms p.id answer well i.op i.invoked
        (λ v e. no_enqueue v (sym i.call ∙ by_enqueue i.op.name i.op.part v e))
        (λ d. no_value (sym i.call ∙ by_dequeue i.op.name i.op.part d))
        b.known)

    pub failed_now : (v : ℤ) → p.call ≡ calls.Enqueue v → 0 < p.least → IsTakenBy f (Failed p.id) (Lowers p.id v p.least)
    failed_now v e some ms facts may = after_fail f ms facts p h v e (well_more ms _ facts.well may) some

    pub killed_by_fail : (v : ℤ) → p.call ≡ calls.Enqueue v → p.least ≡ 0 → IsTakenBy f (Failed p.id) Dies
    killed_by_fail v e none ms facts may =
        let well = well_more ms (Failed p.id) facts.well may in
        not_balanced (ms ++ Failed p.id ∷ []) well (λ b. may_not_fail f ms facts p h v e none ((balanced_after_fail ms p.id well).0 b).1)

    pub other_failed : ((v : ℤ) → p.call ≢ calls.Enqueue v) → IsTakenBy f (Failed p.id) (Leaves p.id)
    other_failed none ms facts may =
        let i = facts.pending.is p h in
        after_other_fail f ms facts p.id
        (λ v front rest cut own. (
        let here : Contains ms (Invoked p.id own.0) = subst (λ l. Contains l (Invoked p.id own.0)) cut (Contains-append_left front rest _ own.1) in
        let same : own.0 ≡ i.op = one_op ms facts.well p.id own.0 i.op here i.invoked in
        none v (sym i.call ∙ ap (λ (o : Op). call_by o.name o.part) (sym same) ∙ by_enqueue own.0.name own.0.part v own.2)))
        (well_more ms _ facts.well may)
