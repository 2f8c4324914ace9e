use Rattle.std.proofs.Common.{◌≡◌, ◌<◌, length, sym, ap, ◌∙◌, arith, rules, to_z, of_z, w64}
use Rattle.wide_fifo_queue.proofs.Places.{none_at_end, none_there}
use Rattle.wide_fifo_queue.proofs.entries.entry_of.Goals as goal

pub returns-then-at-len-clause-none : goal.returns-then-at-len-clause-none
returns-then-at-len-clause-none c by e x h q =
    let same : to_z w64 (of_z w64 c.args.value) ≡ c.args.value = search rules in
    none_at_end c.args.entered.now (to_z w64 (of_z w64 c.args.value)) c.place_of-at.result c.place_of-at.ensures.within c.place_of-at.ensures.before c.place_of-at.ensures.there by
    (c.if-at-len.true ∙ c.len.ensures) x h (q ∙ sym same)

pub returns-else-entry-value-clause-none : goal.returns-else-entry-value-clause-none
returns-else-entry-value-clause-none c by e x h q =
    let same : to_z w64 (of_z w64 c.args.value) ≡ c.args.value = search rules in
    let within = c.place_of-at.ensures.within in
    let ne = c.if-at-len.false in
    let long = c.len.ensures in
    let lt : c.place_of-at.result < length c.args.entered.now = omega arith in
    none_there c.args.entered.now (to_z w64 (of_z w64 c.args.value)) c.place_of-at.result within c.place_of-at.ensures.before c.place_of-at.ensures.there by
    c.get-entry.result lt (c.get-entry.ensures c.get-entry.result) (λ r. c.if-entry-value.false (ap (of_z w64) (r ∙ same))) x h (q ∙ sym same)
