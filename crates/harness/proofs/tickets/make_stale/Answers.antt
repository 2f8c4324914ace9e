use Rattle.std.proofs.Common.{◌≤◌, ◌<◌, ◌++◌, List, length, map, drop, ap, ◌∙◌, arith}
use Rattle.std.proofs.Math.ListN.{set}
use Rattle.std.proofs.lemmas.List.{drop_all, take_all, append-nil}
use Rattle.std.proofs.lemmas.List.Edits.{map_over_more}
use Rattle.machine.specs.declared.ticket.Ticket.{Ticket}
use Rattle.machine.specs.Machine.{stale_from}
use Rattle.harness.proofs.tickets.make_stale.Goals as goal

pub loop-place-preserved : goal.loop-place-preserved
loop-place-preserved c =
    let before = c.args.tickets.now.items in
    let place = c.loop-place.place in
    let below : place < length before = omega (arith, c.loop-place-test.true, c.len-place-end.ensures) in
    ap (λ (t : Ticket). set c.loop-place.tickets.items place t) c.make_one_stale.ensures
    ∙ map_over_more (stale_from c.args.n) before c.loop-place.tickets.items place c.index_mut.result.now below c.loop-place.invariant c.index_mut.ensures.value

pub returns : goal.returns
returns c =
    let before = c.args.tickets.now.items in
    let place = c.loop-place.place in
    let all : length before ≤ place = omega (arith, c.loop-place-test.false, c.len-place-end.ensures) in
    c.loop-place.invariant
    ∙ ap (λ (l : List Ticket). map (stale_from c.args.n) l ++ drop place before) (take_all place before all)
    ∙ ap (λ (l : List Ticket). map (stale_from c.args.n) before ++ l) (drop_all place before all)
    ∙ append-nil (map (stale_from c.args.n) before)
