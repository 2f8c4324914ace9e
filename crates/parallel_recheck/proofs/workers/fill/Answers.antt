use Rattle.std.proofs.Common.{◌≡◌, ◌⊎◌, ◌-◌, ◌<◌, Some, [], ◌++◌, length, take, sym, ap, ◌∙◌, subst}
use Rattle.std.specs.List.{All}
use Rattle.std.proofs.lemmas.List.Elements.{All-pop}
use Rattle.parallel_recheck.specs.declared.workers.Placed.{Placed}
use Rattle.parallel_recheck.specs.Placed.{IsAmong, HasPlace, IsFilled}
use Rattle.parallel_recheck.proofs.Slots.{put_one, all_put}
use Rattle.parallel_recheck.proofs.workers.fill.Goals as goal

pub loop-next-preserved : goal.loop-next-preserved
loop-next-preserved c =
    let before = c.loop-next.placed.items in
    let rest = c.pop.new.self.items in
    let next = c.in-Some.next in
    record {
      within = subst (λ n. All (λ (p : Placed). p.place < n) rest) (sym c.put.ensures.many)
          (All-pop (λ (p : Placed). p.place < length c.loop-next.slots) before rest (Some next) c.in-Some.ensures.items c.loop-next.invariant.within).0;
      slots = λ lines are among.
          (let now = c.loop-next.invariant.slots lines are among in
          let pops = All-pop (IsAmong lines) before rest (Some next) c.in-Some.ensures.items now.1 in
          (c.put.ensures.slots lines now.0 pops.1, pops.0));
      filled = λ place h. put_one before rest next c.loop-next.slots c.put.new.slots place c.in-Some.ensures.items c.put.ensures.filled c.put.ensures.others (c.loop-next.invariant.filled place h);
    }

pub returns-clause-filled : goal.returns-clause-filled
returns-clause-filled c place h =
    let e = c.in_default.ensures in
    let left = c.loop-next.placed.items in
    let none : left ≡ [] = e.items ∙ ap (λ l. l ++ []) (e.rest ∙ ap (λ n. take (n - 1) left) e.cases.0) in
    all_put c.loop-next.slots place (subst (λ l. HasPlace l place ⊎ IsFilled c.loop-next.slots place) none (c.loop-next.invariant.filled place h))
