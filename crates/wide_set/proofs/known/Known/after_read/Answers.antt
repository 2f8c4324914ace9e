use Rattle.std.proofs.Common.{◌≡◌, refl, sym, ◌∙◌, subst}
use Rattle.models.specs.declared.operation.Part.{Part}
use Rattle.models.specs.Objects.{answer_of}
use Rattle.events.specs.Events.Mark.{Returned}
use Rattle.wide_set.specs.declared.known.Call.TheVariants as calls
use Rattle.wide_set.specs.declared.known.Answered.{Answered}
use Rattle.wide_set.specs.declared.change.Change.TheVariants.{Dies, Leaves, Answers}
use Rattle.wide_set.specs.Facts.{facts_of}
use Rattle.wide_set.specs.Queries.{IsAnswered}
use Rattle.wide_set.specs.Kept.{IsTakenBy}
use Rattle.wide_set.proofs.Calls.{answer_many}
use Rattle.wide_set.proofs.Taking.{foreign, killed_by_ok, answered_again, answered}
use Rattle.wide_set.proofs.known.Known.after_read.Goals as goal

pub returns-in_default : goal.returns-in_default
returns-in_default c reads h = foreign (facts_of c.args.self.now) c.args.call.now h (answer_of c.args.part.now) (λ v q. (let r : calls.Read ≡ calls.Add v = sym reads ∙ q in cc)) (λ r members q. c.in_default.not-Set members (answer_many c.args.part.now members q))

pub returns-in-Nowhere : goal.returns-in-Nowhere
returns-in-Nowhere c reads h ms facts may =
    let f = facts_of c.args.self.now in
    let p = c.args.call.now in
    let m = c.in-Set.members in
    subst (λ (q : Part). IsTakenBy f (Returned p.id (answer_of q)) Dies) (sym c.in-Set.is)
    (killed_by_ok f p h reads m (subst (IsAnswered f p.id p.since m) c.in-Nowhere.is (c.in_ok-place.ensures.placed facts.nested))) ms facts may

pub returns-in-Known : goal.returns-in-Known
returns-in-Known c reads h ms facts may =
    let f = facts_of c.args.self.now in
    let p = c.args.call.now in
    let m = c.in-Set.members in
    subst (λ (q : Part). IsTakenBy f (Returned p.id (answer_of q)) (Leaves p.id)) (sym c.in-Set.is)
    (answered_again f p h reads m c.in_ok-place.ensures.ascending (subst (IsAnswered f p.id p.since m) c.in-Known.is (c.in_ok-place.ensures.placed facts.nested))) ms facts may

pub returns-in_ok-copy-in-Behind : goal.returns-in_ok-copy-in-Behind
returns-in_ok-copy-in-Behind c reads h ms facts may =
    let f = facts_of c.args.self.now in
    let p = c.args.call.now in
    let m = c.in-Set.members in
    let a : Answered = record { members = c.in_ok-copy-in-Behind.field-0; by = c.args.self.now.moment } in
    subst (λ (q : Part). IsTakenBy f (Returned p.id (answer_of q)) (Answers p.id c.in-Behind.at a)) (sym c.in-Set.is)
    (answered f p h reads m c.in_ok-place.ensures.ascending c.in-Behind.at a c.in_ok-copy-in-Behind.ensures refl (subst (IsAnswered f p.id p.since m) c.in-Behind.is (c.in_ok-place.ensures.placed facts.nested))) ms facts may
