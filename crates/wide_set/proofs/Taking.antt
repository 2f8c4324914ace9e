-- the effect of each event on the facts
use Rattle.std.proofs.Common.{◌≡◌, ◌≢◌, ℕ, ℤ, ⊎_elim, Option, Some, None, List, [], ◌∷◌, ◌++◌, sym, ◌∙◌, subst}
use Rattle.std.specs.List.{Contains}
use Rattle.std.proofs.lemmas.List.Elements.{Contains-push}
use Rattle.models.specs.declared.operation.Op.{Op}
use Rattle.models.specs.declared.finding.Answer.{Answer}
use Rattle.models.specs.declared.finding.Answer.TheVariants.{Many}
use Rattle.models.specs.Objects.{set_of_numbers}
use Rattle.values.specs.Members.{IsAscending}
use Rattle.events.specs.Events.{Mark}
use Rattle.events.specs.Events.Mark.{Invoked, Returned, Failed, Crashed}
use Rattle.linspec.specs.Operations.{IsOpen}
use Rattle.linspec.specs.MarkRule.{MayFollow, AreWellFormed}
use Rattle.linspec.proofs.Lists.{snoc_cut}
use Rattle.linspec.proofs.Prefixes.{IsLinearizable-append}
use Rattle.set_chains.specs.Chains.{HasRead, IsChained, MayAnswer}
use Rattle.set_chains.proofs.Once.{one_answer}
use Rattle.set_chains.proofs.Legal.{chained_if_linearizable}
use Rattle.set_chains.proofs.OkOfRead.{chained_after_ok_of_read}
use Rattle.set_chains.proofs.Quiet.{chained_after_fail}
use Rattle.wide_set.specs.declared.known.Call.TheVariants as calls
use Rattle.wide_set.specs.declared.known.Pending.{Pending}
use Rattle.wide_set.specs.declared.known.Answered.{Answered}
use Rattle.wide_set.specs.declared.queries.Place.TheVariants.{Nowhere, Known, Behind}
use Rattle.wide_set.specs.declared.change.Change.{Change}
use Rattle.wide_set.specs.declared.change.Change.TheVariants.{Dies, Invokes, Leaves, Logs, Answers}
use Rattle.wide_set.specs.Facts.{Facts, AreFacts, call_by, AreSpared}
use Rattle.wide_set.specs.Queries.{IsAnswered}
use Rattle.wide_set.specs.Kept.{IsDead, StandAfter, IsTakenBy, IsAfterAdd}
use Rattle.wide_set.proofs.Moments.{last_or_before}
use Rattle.wide_set.proofs.Calls.{read_by, by_reads, op_of, same_call, adds_of_call, call_of_add}
use Rattle.wide_set.proofs.Answering.{fits, may_answer}
use Rattle.wide_set.proofs.Failing.{others_may_fail, are_spared, may_fail}
use Rattle.wide_set.proofs.Carrying.{invoked_was, add_was}
use Rattle.wide_set.proofs.Events.{after_invoke, after_fail, after_crash}
use Rattle.wide_set.proofs.Adding.{after_crash_of_known, after_crash_of_add, after_ok_of_known, after_ok_of_add}
use Rattle.wide_set.proofs.Reading.{after_known_answer, after_new_answer}

pub well_more : (ms : List Mark) (m : Mark) → AreWellFormed ms → MayFollow ms m → AreWellFormed (ms ++ m ∷ [])
well_more ms m well may before after x cut = ⊎_elim
    (λ (e : x ∷ after ≡ []). cc)
    (λ k. ⊎_elim
    (λ j. well before j.0 x j.1)
    (λ j. subst (MayFollow before) (sym j.0) (subst (λ l. MayFollow l m) (sym j.1) may))
    (last_or_before ms m x before after k.0 k.1 k.2))
    (snoc_cut before (x ∷ after) ms m cut)

pub not_chained : (ms : List Mark) → AreWellFormed ms → ¬ IsChained ms → IsDead ms
not_chained ms well n = (well, λ l. n (chained_if_linearizable ms well l))

pub still_dead : (ms : List Mark) (m : Mark) → IsDead ms → MayFollow ms m → IsDead (ms ++ m ∷ [])
still_dead ms m dead may = let well = well_more ms m dead.0 may in (well, λ l. dead.1 (IsLinearizable-append set_of_numbers ms (m ∷ []) well l))

module _ (f : Facts) where
  pub invoked : (id : ℕ) (op : Op) (p : Pending) → p.id ≡ id → p.since ≡ f.now → call_by op.name op.part ≡ p.call → IsTakenBy f (Invoked id op) (Invokes p)
  invoked id op p e g h ms facts may = after_invoke f ms facts id op (well_more ms _ facts.well may) p e g h

  -- a pending operation is open
  pub not_pending : (id : ℕ) (m : Mark) (change : Change) → ((ms : List Mark) → MayFollow ms m → IsOpen ms id) → ((p : Pending) → Contains f.pending p → p.id ≢ id) → IsTakenBy f m change
  not_pending id m change opens none ms facts may = let p = facts.pending.all id (opens ms may) in absurd (none p.0 p.1 p.2)

  module _ (p : Pending) (h : Contains f.pending p) where
    pub done : (v : ℤ) (answer : Answer) (change : Change) → p.call ≡ calls.Add v → IsAfterAdd f p v (Some f.now) change → IsTakenBy f (Returned p.id answer) change
    done v answer change e is ms facts may =
        let k = (facts.pending.is p h).1 in
        let own = adds_of_call f ms facts p h v e in
        let well = well_more ms (Returned p.id answer) facts.well may in
        ⊎_elim
        (λ q. subst (λ c. StandAfter c f (ms ++ Returned p.id answer ∷ [])) (sym q.0) (after_ok_of_known f ms facts p.id v own answer well q.1))
        (λ q. subst (λ c. StandAfter c f (ms ++ Returned p.id answer ∷ [])) (sym q.0) (after_ok_of_add f ms facts p.id v own answer well p.since k.0 k.1))
        is

    pub crashed : (v : ℤ) (change : Change) → p.call ≡ calls.Add v → IsAfterAdd f p v None change → IsTakenBy f (Crashed p.id) change
    crashed v change e is ms facts may =
        let k = (facts.pending.is p h).1 in
        let own = adds_of_call f ms facts p h v e in
        let well = well_more ms (Crashed p.id) facts.well may in
        ⊎_elim
        (λ q. subst (λ c. StandAfter c f (ms ++ Crashed p.id ∷ [])) (sym q.0) (after_crash_of_known f ms facts p.id v own well q.1))
        (λ q. subst (λ c. StandAfter c f (ms ++ Crashed p.id ∷ [])) (sym q.0) (after_crash_of_add f ms facts p.id v own well p.since k.0 k.1))
        is

    pub after_add_lives : (v : ℤ) (by : Option ℕ) (change : Change) → IsAfterAdd f p v by change → change ≢ Dies
    after_add_lives v by change is e = ⊎_elim
        (λ q. (let r : Leaves p.id ≡ Dies = sym q.0 ∙ e in cc))
        (λ q. (let r : Logs p.id (record { value = v; since = p.since; by = by }) ≡ Dies = sym q.0 ∙ e in cc))
        is

    pub other_crashed : ((v : ℤ) → p.call ≢ calls.Add v) → IsTakenBy f (Crashed p.id) (Leaves p.id)
    other_crashed none ms facts may = after_crash f ms facts p.id (well_more ms _ facts.well may) (λ v out a. none v (call_of_add f ms facts p h v a))

    pub failed : (v : ℤ) → p.call ≡ calls.Add v → AreSpared f p.id v → IsTakenBy f (Failed p.id) (Leaves p.id)
    failed v e spared ms facts may =
        let well = well_more ms (Failed p.id) facts.well may in
        after_fail f ms facts p.id well ((chained_after_fail ms p.id well).1 (facts.chained, may_fail f ms facts p h v e spared))

    pub other_failed : ((v : ℤ) → p.call ≢ calls.Add v) → IsTakenBy f (Failed p.id) (Leaves p.id)
    other_failed none ms facts may =
        let well = well_more ms (Failed p.id) facts.well may in
        after_fail f ms facts p.id well ((chained_after_fail ms p.id well).1 (facts.chained, others_may_fail f ms facts p h none))

    pub killed_by_fail : (v : ℤ) → p.call ≡ calls.Add v → ¬ AreSpared f p.id v → IsTakenBy f (Failed p.id) Dies
    killed_by_fail v e n ms facts may =
        let well = well_more ms (Failed p.id) facts.well may in
        not_chained (ms ++ Failed p.id ∷ []) well (λ c. n (are_spared f ms facts p h v e ((chained_after_fail ms p.id well).0 c).1))

    -- an ok that no set gives
    pub foreign : (answer : Answer) → ((v : ℤ) → p.call ≢ calls.Add v) → (p.call ≡ calls.Read → (members : List ℤ) → answer ≢ Many members) → IsTakenBy f (Returned p.id answer) Dies
    foreign answer no_add no_read ms facts may =
        let last = Returned p.id answer in
        let well = well_more ms last facts.well may in
        let open' = (facts.pending.is p h).0 in
        not_chained (ms ++ last ∷ []) well (λ c. ⊎_elim
        (λ a. no_add a.0 (call_of_add f ms facts p h a.0 (add_was ms last well p.id a.0 open'.invoked a.1)))
        (λ r.
        let read : HasRead (ms ++ last ∷ []) p.id r.0 = r.1 in
        let reads : p.call ≡ calls.Read = sym (same_call f ms facts p h read.op (invoked_was ms last well p.id open'.invoked read.op read.invoked)) ∙ by_reads read.op read.reads read.of_all in
        no_read reads r.0 (one_answer (ms ++ last ∷ []) well p.id answer (Many r.0) (Contains-push ms last) read.answer))
        (c.known p.id (answer, Contains-push ms last)))

    module _ (reads : p.call ≡ calls.Read) (members : List ℤ) where
      law : (ms : List Mark) (facts : AreFacts f ms) (well : AreWellFormed (ms ++ Returned p.id (Many members) ∷ [])) → MayAnswer ms p.id members → IsChained (ms ++ Returned p.id (Many members) ∷ [])
      law ms facts well answers =
          let o = op_of f ms facts p h in
          let is = read_by o.0.name o.0.part (o.2 ∙ reads) in
          (chained_after_ok_of_read ms p.id o.0 members well o.1 is.0 is.1).1 (facts.chained, answers)

      pub killed_by_ok : IsAnswered f p.id p.since members Nowhere → IsTakenBy f (Returned p.id (Many members)) Dies
      killed_by_ok n ms facts may =
          let well = well_more ms (Returned p.id (Many members)) facts.well may in
          let o = op_of f ms facts p h in
          let is = read_by o.0.name o.0.part (o.2 ∙ reads) in
          not_chained (ms ++ Returned p.id (Many members) ∷ []) well (λ c.
          let k = fits f ms facts p h reads members ((chained_after_ok_of_read ms p.id o.0 members well o.1 is.0 is.1).0 c).1 in
          n k.0 k.1)

      pub answered_again : IsAscending members → IsAnswered f p.id p.since members Known → IsTakenBy f (Returned p.id (Many members)) (Leaves p.id)
      answered_again ascends k ms facts may =
          let well = well_more ms (Returned p.id (Many members)) facts.well may in
          let o = op_of f ms facts p h in
          let is = read_by o.0.name o.0.part (o.2 ∙ reads) in
          after_known_answer f ms facts p.id o.0 o.1 is.0 is.1 members well (law ms facts well (may_answer f ms facts p h reads members ascends k.0 k.1)) k.2.0 k.2.1 k.2.2

      pub answered : IsAscending members → (at : ℕ) (a : Answered) → a.members ≡ members → a.by ≡ f.now → IsAnswered f p.id p.since members (Behind at) → IsTakenBy f (Returned p.id (Many members)) (Answers p.id at a)
      answered ascends at a e g k ms facts may =
          let well = well_more ms (Returned p.id (Many members)) facts.well may in
          let o = op_of f ms facts p h in
          let is = read_by o.0.name o.0.part (o.2 ∙ reads) in
          after_new_answer f ms facts p.id o.0 o.1 is.0 is.1 members well (law ms facts well (may_answer f ms facts p h reads members ascends k.0 k.1)) at a e g ascends k.2
