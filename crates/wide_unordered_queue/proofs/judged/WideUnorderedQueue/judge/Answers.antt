use Rattle.std.proofs.Common.{◌≡◌, not, Some, List, sym, subst}
use Rattle.events.specs.Events.{Mark, act_by, mark_by_act}
use Rattle.wide_unordered_queue.specs.declared.change.Change.TheVariants.{Dies}
use Rattle.wide_unordered_queue.specs.Facts.{facts_of}
use Rattle.wide_unordered_queue.specs.Kept.{IsDead, StandBy}
use Rattle.wide_unordered_queue.specs.Judges.{IsAlive}
use Rattle.wide_unordered_queue.proofs.Taking.{still_dead}
use Rattle.wide_unordered_queue.proofs.Prepared.{alive_of, answer_of_dead}
use Rattle.wide_unordered_queue.proofs.judged.WideUnorderedQueue.judge.Goals as goal

pub returns-then-is_dead-clause-judged : goal.returns-then-is_dead-clause-judged
returns-then-is_dead-clause-judged c =
    let f = facts_of c.args.self.now.known in
    let mark : Mark = mark_by_act c.args.id c.args.id (act_by c.args.kind c.args.op.now) in
    let due : c.args.self.now.due ≡ Some Dies = c.is_dead.ensures.0 c.if-is_dead.true in
    let dead : (ms : List Mark) → StandBy c.args.self.now.due f ms → IsDead ms = λ ms st. subst (λ d. StandBy d f ms) due st in
    record {
      alive = λ ms st may. subst (λ b. IsAlive ms mark (not b)) (sym c.can_kill.ensures) (answer_of_dead c.args.kind c.args.id c.args.op.now ms (dead ms st) may);
      now = λ ms st. st;
      next = λ ms st may. still_dead ms mark (dead ms st) may;
    }

pub returns-clause-judged : goal.returns-clause-judged
returns-clause-judged c =
    let g = facts_of c.settle.new.self.known in
    let mark : Mark = mark_by_act c.args.id c.args.id (act_by c.args.kind c.args.op.now) in
    let settled = c.in_ok-settle.ensures.ok in
    record {
      alive = λ ms st may. (let facts = settled.1 ms st in alive_of g ms facts c.after_event.result c.is_dead-alive.result c.is_dead-alive.ensures mark (c.after_event.ensures.taken ms facts may));
      now = λ ms st. subst (λ d. StandBy d g ms) (sym settled.0) (settled.1 ms st);
      next = λ ms st may. c.after_event.ensures.taken ms (settled.1 ms st) may;
    }
