use Rattle.std.proofs.Common.{List, sym, ◌∙◌, subst}
use Rattle.std.proofs.lemmas.Bool.{true≢false}
use Rattle.wide_set.specs.declared.known.Answered.{Answered}
use Rattle.wide_set.specs.Facts.{AreNested, facts_of}
use Rattle.wide_set.specs.Queries.{IsPlaced}
use Rattle.wide_set.proofs.Asking.{were_added, early_of, timely_if, covered_is, first_done_is, least_done_is, answered_of}
use Rattle.wide_set.proofs.known.Known.answer.Goals as goal

pub returns-then-not-is_timely-clause-placed : goal.returns-then-not-is_timely-clause-placed
returns-then-not-is_timely-clause-placed c nested chain added =
    let f = facts_of c.args.self.now in
    let m = c.args.members.now in
    let found = first_done_is f c.args.but c.args.since m c.first_beyond-limit.result c.as_slice-these.result.now c.deref-2.result.now c.as_slice-these.ensures.value (c.deref-2.ensures.value ∙ c.in_ok-log.ensures) c.first_beyond-limit.ensures.found in
    true≢false (sym (c.is_timely.ensures.1 (early_of f c.args.but c.args.since m c.first_beyond-limit.result found added)) ∙ c.if-not-is_timely.true)

pub returns-then-is_covered-clause-placed : goal.returns-then-is_covered-clause-placed
returns-then-is_covered-clause-placed c nested =
    let f = facts_of c.args.self.now in
    let m = c.args.members.now in
    let limit = c.first_beyond-limit.result in
    let least = least_done_is f c.args.but c.args.since m limit c.as_slice-these.result.now c.deref-2.result.now c.as_slice-these.ensures.value (c.deref-2.ensures.value ∙ c.in_ok-log.ensures) c.first_beyond-limit.ensures.least in
    let covered = covered_is f c.args.but c.args.since m limit c.as_slice-these.result.now c.as_slice.result.now c.in_ok-added.added c.as_slice-2.result.now c.deref-3.result.now c.deref-4.result.now c.as_slice-these.ensures.value c.as_slice.ensures.value c.as_slice-2.ensures.value (c.deref-3.ensures.value ∙ c.in_ok-log.ensures) c.deref-4.ensures.value c.in_ok-added.ensures in
    answered_of f c.args.but c.args.since m c.place_of-place.result
    (subst (λ (l : List Answered). AreNested l → IsPlaced l c.args.since m c.place_of-place.result) c.deref.ensures.value c.place_of-place.ensures nested)
    (were_added f c.args.but c.args.since m limit least (c.is_timely.ensures.0 c.if-not-is_timely.false) (covered.0 (c.is_covered.ensures.0 c.if-is_covered.true)))

pub returns-clause-placed : goal.returns-clause-placed
returns-clause-placed c nested chain added =
    let f = facts_of c.args.self.now in
    let m = c.args.members.now in
    let limit = c.first_beyond-limit.result in
    let found = first_done_is f c.args.but c.args.since m limit c.as_slice-these.result.now c.deref-2.result.now c.as_slice-these.ensures.value (c.deref-2.ensures.value ∙ c.in_ok-log.ensures) c.first_beyond-limit.ensures.found in
    let covered = covered_is f c.args.but c.args.since m limit c.as_slice-these.result.now c.as_slice.result.now c.in_ok-added.added c.as_slice-2.result.now c.deref-3.result.now c.deref-4.result.now c.as_slice-these.ensures.value c.as_slice.ensures.value c.as_slice-2.ensures.value (c.deref-3.ensures.value ∙ c.in_ok-log.ensures) c.deref-4.ensures.value c.in_ok-added.ensures in
    true≢false (sym (c.is_covered.ensures.1 (covered.1 (timely_if f c.args.but c.args.since m limit found added))) ∙ c.if-is_covered.false)
