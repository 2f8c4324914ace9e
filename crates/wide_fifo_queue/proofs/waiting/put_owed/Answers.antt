use Rattle.std.proofs.Common.{◌≡◌, ◌<◌, List, [], ◌∷◌, ◌++◌, length, map, take, sym, ap, ◌∙◌, append_assoc, arith, rules, to_z, of_z, w64}
use Rattle.wide_fifo_queue.specs.declared.known.Waiting.{Waiting}
use Rattle.wide_fifo_queue.specs.declared.known.Owed.{Owed}
use Rattle.wide_fifo_queue.specs.Facts.{owed_by}
use Rattle.wide_fifo_queue.proofs.Loops.{map_more}
use Rattle.wide_fifo_queue.proofs.waiting.put_owed.Goals as goal

pub loop-at-preserved : goal.loop-at-preserved
loop-at-preserved c =
    let first : Waiting = c.get-first.result in
    let same : to_z w64 (of_z w64 c.get-first.result.value) ≡ c.get-first.result.value = search rules in
    let new : Owed = record { value = to_z w64 (of_z w64 c.get-first.result.value); by = c.get-first.result.by; deadline = c.args.deadline } in
    let is : new ≡ owed_by c.args.deadline first = ap (λ v. owed_by c.args.deadline (record { value = v; by = c.get-first.result.by })) same in
    let so_far : List Owed = map (owed_by c.args.deadline) (take c.loop-at.at c.args.waiting.now) in
    let many = c.requires in
    let lt : c.loop-at.at < length c.args.waiting.now = omega arith in
    c.in_ok-push.ensures.items
    ∙ ap (λ l. l ++ new ∷ []) c.loop-at.invariant
    ∙ append_assoc c.args.owed.now.items so_far (new ∷ [])
    ∙ ap (λ o. c.args.owed.now.items ++ (so_far ++ o ∷ [])) is
    ∙ ap (λ l. c.args.owed.now.items ++ l) (sym (map_more (owed_by c.args.deadline) c.args.waiting.now c.loop-at.at first lt (c.get-first.ensures first)))

pub returns : goal.returns
returns c =
    let e : c.loop-at.at ≡ c.args.many = omega arith in
    c.loop-at.invariant ∙ ap (λ n. c.args.owed.now.items ++ map (owed_by c.args.deadline) (take n c.args.waiting.now)) e
