-- what an event is answered
use Rattle.std.proofs.Common.{◌≡◌, ◌≢◌, ◌↔◌, ℕ, ⊎_elim, Option, Some, None, Bool, true, false, List, [], ◌∷◌, ◌++◌, IsTrue, refl, sym, ap, ◌∙◌, subst, arith}
use Rattle.std.proofs.lemmas.Bool.{true≢false}
use Rattle.std.specs.List.{Contains}
use Rattle.models.specs.declared.operation.Op.{Op}
use Rattle.models.specs.Objects.{fifo_queue}
use Rattle.models.specs.declared.finding.Answer.{Answer}
use Rattle.events.specs.declared.event.EventKind.{EventKind}
use Rattle.events.specs.declared.event.EventKind.TheVariants.{Invoke, Ok, Fail, Info}
use Rattle.events.specs.Events.{Mark}
use Rattle.events.specs.Events.Mark.{Invoked, Returned, Failed, Crashed}
use Rattle.linspec.specs.MarkRule.{MayFollow, AreWellFormed}
use Rattle.linspec.specs.Orders.{IsLinearizable}
use Rattle.linspec.proofs.Prefixes.{IsLinearizable-append}
use Rattle.linspec.proofs.Lists.{Contains-nil}
use Rattle.judging.specs.declared.step.Step.TheVariants.{Alive, Over}
use Rattle.judging.specs.Meaning.{mark_by, IsAnswer, IsReturn, FrontierView, Costs}
use Rattle.linspec.specs.Twins.{MayEnqueue, HasTwins, AreTwins}
use Rattle.queue_pairs.specs.Pairs.{IsPaired}
use Rattle.wide_fifo_queue.specs.declared.known.Known.{Known}
use Rattle.wide_fifo_queue.specs.declared.known.Enqueued.{Enqueued}
use Rattle.wide_fifo_queue.specs.Facts.{Facts, AreFacts, facts_of}
use Rattle.wide_fifo_queue.specs.Kept.{IsDead, Stands, IsSameKnown}
use Rattle.wide_fifo_queue.specs.Counted.{the_object, counts_more}
use Rattle.wide_fifo_queue.specs.Judges.{kills, is_an_ok, step_by, step_of_dead}
use Rattle.wide_fifo_queue.proofs.Carrying.{well_more}
use Rattle.wide_fifo_queue.proofs.Knowing.{one_entry, is_entry, entry_enqueues, twins_late}
use Rattle.wide_fifo_queue.proofs.Laws.{linearizable_if_paired, paired_if_linearizable, invocation, crash, twins_none, twins_ok, twins_stay}

pub lives : (f : Facts) (ms : List Mark) → AreFacts f ms → IsLinearizable fifo_queue ms
lives f ms facts = linearizable_if_paired ms facts.well (twins_late f ms facts) facts.paired

pub no_twins : (f : Facts) (ms : List Mark) → AreFacts f ms → f.late ≡ [] → ¬ HasTwins ms
no_twins f ms facts no_late twins =
    let t : AreTwins ms twins.0 twins.1 twins.2 = twins.3 in
    let x = facts.entries.all twins.0 twins.2 t.first in
    let y = facts.entries.all twins.1 twins.2 t.second in
    ⊎_elim
    (λ i. ⊎_elim
    (λ j. (let one : x.0 ≡ y.0 = one_entry f.entered facts.entries.by_value x.0 y.0 i j (x.3 ∙ sym y.3) in t.two (sym x.2 ∙ ap (λ (e : Enqueued). e.id) one ∙ y.2)))
    (λ j. Contains-nil y.0 (subst (λ l. Contains l y.0) no_late j))
    y.1)
    (λ i. Contains-nil x.0 (subst (λ l. Contains l x.0) no_late i))
    x.1

pub has_twins : (f : Facts) (ms : List Mark) → AreFacts f ms → (e : Enqueued) → Contains f.late e → HasTwins ms
has_twins f ms facts e h =
    let k = facts.entries.is_late e h in (
      k.3.0.id,
      e.id,
      e.value,
      record {
        two = k.3.3;
        first = subst (MayEnqueue ms k.3.0.id) k.3.2 (is_entry f ms facts k.3.0 k.3.1);
        second = entry_enqueues f ms facts e k.0;
      },
    )

-- after a mark that may follow, a history that is not paired is dead
pub dead_after_ok : (f : Facts) (ms : List Mark) → AreFacts f ms → f.late ≡ [] → (id : ℕ) (answer : Answer) → AreWellFormed (ms ++ Returned id answer ∷ []) → ¬ IsPaired (ms ++ Returned id answer ∷ []) → IsDead (ms ++ Returned id answer ∷ [])
dead_after_ok f ms facts no_late id answer well none =
    (well, λ l. none (paired_if_linearizable (ms ++ Returned id answer ∷ []) well (twins_none (ms ++ Returned id answer ∷ []) (twins_ok ms id answer well (no_twins f ms facts no_late))) l))

pub dead_after_fail : (f : Facts) (ms : List Mark) → AreFacts f ms → (id : ℕ) → AreWellFormed (ms ++ Failed id ∷ []) → ¬ IsPaired (ms ++ Failed id ∷ []) → IsDead (ms ++ Failed id ∷ [])
dead_after_fail f ms facts id well none =
    (well, λ l. none (paired_if_linearizable (ms ++ Failed id ∷ []) well (twins_stay ms (Failed id) well (λ i a q. cc) (twins_late f ms facts)) l))

-- what is dead stays so
pub still_dead : (ms : List Mark) (m : Mark) → IsDead ms → MayFollow ms m → IsDead (ms ++ m ∷ [])
still_dead ms m dead may = let well = well_more ms m dead.0 may in (well, λ l. dead.1 (IsLinearizable-append fifo_queue ms (m ∷ []) well l))

-- the answer where the history was dead
pub answer_of_dead : (budget : ℕ) (kind : EventKind) (id : ℕ) (op : Op) (ms : List Mark) → IsDead ms → MayFollow ms (mark_by id kind op)
    → IsAnswer counts_more the_object budget ms (mark_by id kind op) (step_of_dead (kills kind))
answer_of_dead budget Invoke id op ms dead may = refl
answer_of_dead budget Ok id op ms dead may = ((λ more. dead.1 more.0), (still_dead ms _ dead may).1)
answer_of_dead budget Fail id op ms dead may = ((λ none. none), (still_dead ms _ dead may).1)
answer_of_dead budget Info id op ms dead may = refl

-- the answer where something is known
module _ (budget : ℕ) (f : Facts) (ms : List Mark) (facts : AreFacts f ms) (id : ℕ) (op : Op) where
  alive : (m : Mark) (next : Option Known) → Stands next (ms ++ m ∷ []) → IsLinearizable fifo_queue (ms ++ m ∷ []) → step_by next ≡ Alive
  alive m None dead l = absurd (dead.1 l)
  alive m (Some k) st l = refl

  pub answer_of_alive : (kind : EventKind) (next : Option Known) → (IsTrue (is_an_ok kind) → f.late ≡ []) → Stands next (ms ++ mark_by id kind op ∷ []) → MayFollow ms (mark_by id kind op)
      → IsAnswer counts_more the_object budget ms (mark_by id kind op) (step_by next)
  answer_of_alive Invoke next no_late st may =
      let well = well_more ms (Invoked id op) facts.well may in
      alive (Invoked id op) next st (linearizable_if_paired (ms ++ Invoked id op ∷ []) well (twins_stay ms (Invoked id op) well (λ i a q. cc) (twins_late f ms facts)) ((invocation ms id op well).1 facts.paired))
  answer_of_alive Info next no_late st may =
      let well = well_more ms (Crashed id) facts.well may in
      alive (Crashed id) next st (linearizable_if_paired (ms ++ Crashed id ∷ []) well (twins_stay ms (Crashed id) well (λ i a q. cc) (twins_late f ms facts)) ((crash ms id well).1 facts.paired))
  answer_of_alive Ok None no_late st may = ((λ more. no_twins f ms facts (no_late refl) more.1), st.1)
  answer_of_alive Ok (Some k) no_late st may = ((λ more. no_twins f ms facts (no_late refl) more.1), lives (facts_of k) _ st)
  answer_of_alive Fail None no_late st may = ((λ none. none), st.1)
  answer_of_alive Fail (Some k) no_late st may = ((λ none. none), lives (facts_of k) _ st)

-- the answer where two values are the same
pub answer_of_twins : (budget : ℕ) (f : Facts) (ms : List Mark) → AreFacts f ms → (e : Enqueued) → Contains f.late e → (kind : EventKind) (id : ℕ) (op : Op) → IsTrue (is_an_ok kind)
    → IsAnswer counts_more the_object budget ms (mark_by id kind op) Over
answer_of_twins budget f ms facts e h Invoke id op is = absurd (true≢false (sym is))
answer_of_twins budget f ms facts e h Ok id op is = (lives f ms facts, has_twins f ms facts e h)
answer_of_twins budget f ms facts e h Fail id op is = absurd (true≢false (sym is))
answer_of_twins budget f ms facts e h Info id op is = absurd (true≢false (sym is))

pub return_of_ok : (kind : EventKind) (id : ℕ) (op : Op) → IsTrue (is_an_ok kind) → IsReturn (mark_by id kind op)
return_of_ok Invoke id op is = absurd (true≢false (sym is))
return_of_ok Ok id op is = tt
return_of_ok Fail id op is = absurd (true≢false (sym is))
return_of_ok Info id op is = absurd (true≢false (sym is))

pub never_over : (next : Option Known) → step_by next ≢ Over
never_over None e = cc
never_over (Some k) e = cc

pub never_over_dead : (b : Bool) → step_of_dead b ≢ Over
never_over_dead true e = cc
never_over_dead false e = cc

-- it makes no steps
pub no_step : (old new : FrontierView) (m : Mark) → old.applied ≡ 0 → new.applied ≡ 0 → Costs old new m
no_step old new (Returned id answer) p q = (omega (arith, p, q), λ marks st n few. omega (arith, p, q))
no_step old new (Invoked id op) p q = omega (arith, p, q)
no_step old new (Failed id) p q = omega (arith, p, q)
no_step old new (Crashed id) p q = omega (arith, p, q)

-- the same facts stand for the same histories
pub same_stands : (k l : Option Known) → IsSameKnown k l → (ms : List Mark) → Stands l ms ↔ Stands k ms
same_stands None None same ms = ((λ h. h), (λ h. h))
same_stands (Some k) None same ms = absurd same
same_stands None (Some l) same ms = absurd same
same_stands (Some k) (Some l) same ms = ((λ h. subst (λ (f : Facts). AreFacts f ms) same h), (λ h. subst (λ (f : Facts). AreFacts f ms) (sym same) h))
