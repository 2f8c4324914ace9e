use Rattle.std.proofs.Common.{◌≡◌, None, List, [], ◌∷◌, ◌++◌, sym, ◌∙◌, subst, to_z, of_z, w64}
use Rattle.std.proofs.lemmas.Bool.{true≢false}
use Rattle.std.proofs.lemmas.Int.{to_z-of_z}
use Rattle.events.specs.Events.Mark.{Returned}
use Rattle.linspec.specs.MarkRule.{MayFollow}
use Rattle.models.specs.declared.finding.Answer.TheVariants.{Number}
use Rattle.wide_fifo_queue.specs.declared.known.Owed.{Owed}
use Rattle.wide_fifo_queue.specs.Kept.{IsAfter, Stands}
use Rattle.wide_fifo_queue.specs.Facts.{facts_of}
use Rattle.wide_fifo_queue.specs.Queries.{IsDueOf}
use Rattle.wide_fifo_queue.proofs.After.{take_of_none, take_of_taken, take_after}
use Rattle.wide_fifo_queue.proofs.known.Known.after_answer.Goals as goal

pub returns-in_default : goal.returns-in_default
returns-in_default c =
    let f = facts_of c.args.self.now in
    let p = c.args.call.now in
    let same : to_z w64 (of_z w64 c.args.value) ≡ c.args.value = to_z-of_z w64 c.args.value c.ranges.value in
    subst (λ v. IsAfter f (Returned p.id (Number v)) None) same (take_of_none f p c.requires.pending c.requires.call c.requires.late (to_z w64 (of_z w64 c.args.value)) (λ by. c.entry_of.ensures.none by c.in_default.is))

pub returns-then-is_taken : goal.returns-then-is_taken
returns-then-is_taken c =
    let f = facts_of c.args.self.now in
    let p = c.args.call.now in
    let same : to_z w64 (of_z w64 c.args.value) ≡ c.args.value = to_z-of_z w64 c.args.value c.ranges.value in
    let taken = c.is_taken.ensures.taken c.if-is_taken.true in
    subst (λ v. IsAfter f (Returned p.id (Number v)) None) (c.in-Some.ensures.found.1 ∙ same) (take_of_taken f p c.requires.pending c.requires.call c.requires.late c.in-Some.entry taken.0 c.in-Some.ensures.found.0 taken.1)

pub returns-then-not-is_in_time : goal.returns-then-not-is_in_time
returns-then-not-is_in_time c =
    let f = facts_of c.args.self.now in
    let p = c.args.call.now in
    let same : to_z w64 (of_z w64 c.args.value) ≡ c.args.value = to_z-of_z w64 c.args.value c.ranges.value in
    let due : IsDueOf f.owed c.args.value c.owed_of-due.result = subst (λ v. IsDueOf f.owed v c.owed_of-due.result) same (subst (λ (l : List Owed). IsDueOf l (to_z w64 (of_z w64 c.args.value)) c.owed_of-due.result) c.deref.ensures.value c.owed_of-due.ensures) in
    take_after f p c.requires.pending c.requires.call c.requires.late c.args.value c.owed_of-due.result due (λ t. true≢false (sym (c.is_in_time.ensures.1 t) ∙ c.if-not-is_in_time.true))

pub returns : goal.returns
returns c ms facts may =
    let f = facts_of c.args.self.now in
    let p = c.args.call.now in
    let same : to_z w64 (of_z w64 c.args.value) ≡ c.args.value = to_z-of_z w64 c.args.value c.ranges.value in
    subst (λ v. Stands c.in_ok-next.next (ms ++ Returned p.id (Number v) ∷ [])) (c.in-Some.ensures.found.1 ∙ same) (c.in_ok-next.ensures ms facts (subst (λ v. MayFollow ms (Returned p.id (Number v))) (sym (c.in-Some.ensures.found.1 ∙ same)) may))
