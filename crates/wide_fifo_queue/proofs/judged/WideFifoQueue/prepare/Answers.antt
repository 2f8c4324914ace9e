use Rattle.std.proofs.Common.{◌≡◌, Some, None, [], ◌∷◌, ◌++◌, refl, sym, ◌∙◌, subst}
use Rattle.events.specs.Events.{Mark}
use Rattle.judging.specs.Meaning.{IsAnswer, mark_by}
use Rattle.wide_fifo_queue.specs.Facts.{AreFacts, facts_of}
use Rattle.wide_fifo_queue.specs.Kept.{Stands}
use Rattle.wide_fifo_queue.specs.Counted.{counts_more, the_object}
use Rattle.wide_fifo_queue.specs.Judges.{kills}
use Rattle.wide_fifo_queue.specs.Views.{view_of}
use Rattle.wide_fifo_queue.proofs.Judging.{still_dead, answer_of_dead, answer_of_alive, answer_of_twins, return_of_ok, never_over, never_over_dead, no_step}
use Rattle.wide_fifo_queue.proofs.judged.WideFifoQueue.prepare.Goals as goal

pub returns-in_default : goal.returns-in_default
returns-in_default c =
    let m : Mark = mark_by c.args.id c.args.kind c.args.op.now in
    let e : c.args.self.now.known ≡ None = c.in_default.is in
    record {
      step = record {
        right = λ ms st may. subst (IsAnswer counts_more the_object c.args.self.now.budget ms m) (sym c.dead_step.ensures)
            (answer_of_dead c.args.self.now.budget c.args.kind c.args.id c.args.op.now ms (subst (λ k. Stands k ms) e st) may);
        over_at_ok = λ q. absurd (never_over_dead (kills c.args.kind) (sym c.dead_step.ensures ∙ q));
      };
      now = λ ms st. st;
      next = record {
        over = λ q ms st. st;
        taken = λ ne ms st may. subst (λ k. Stands k (ms ++ m ∷ [])) (sym e) (still_dead ms m (subst (λ k. Stands k ms) e st) may);
      };
      budget = refl;
      cost = no_step (view_of c.args.self.now) (view_of c.args.self.now) m refl refl;
    }

pub returns-then-is_over : goal.returns-then-is_over
returns-then-is_over c =
    let m : Mark = mark_by c.args.id c.args.kind c.args.op.now in
    let k = c.in-Some.known in
    let e : c.args.self.now.known ≡ Some k = c.in-Some.is in
    let over = c.is_over.ensures.over c.if-is_over.true in
    record {
      step = record {
        right = λ ms st may. answer_of_twins c.args.self.now.budget (facts_of k) ms (subst (λ x. Stands x ms) e st) over.1.0 over.1.1 c.args.kind c.args.id c.args.op.now over.0;
        over_at_ok = λ q. return_of_ok c.args.kind c.args.id c.args.op.now over.0;
      };
      now = λ ms st. st;
      next = record { over = λ q ms st. st; taken = λ ne. absurd (ne refl) };
      budget = refl;
      cost = no_step (view_of c.args.self.now) (view_of c.args.self.now) m refl refl;
    }

pub returns : goal.returns
returns c =
    let m : Mark = mark_by c.args.id c.args.kind c.args.op.now in
    let k = c.in-Some.known in
    let e : c.args.self.now.known ≡ Some k = c.in-Some.is in
    let next = c.in_ok-next.next in
    let is = c.step_of-step.ensures in
    record {
      step = record {
        right = λ ms st may. (let facts : AreFacts (facts_of k) ms = subst (λ x. Stands x ms) e st in
            subst (IsAnswer counts_more the_object c.args.self.now.budget ms m) (sym is)
            (answer_of_alive c.args.self.now.budget (facts_of k) ms facts c.args.id c.args.op.now c.args.kind next (c.is_over.ensures.within c.if-is_over.false) (c.in_ok-next.ensures ms facts may) may));
        over_at_ok = λ q. absurd (never_over next (sym is ∙ q));
      };
      now = λ ms st. st;
      next = record {
        over = λ q. absurd (never_over next (sym is ∙ q));
        taken = λ ne ms st may. c.in_ok-next.ensures ms (subst (λ x. Stands x ms) e st) may;
      };
      budget = refl;
      cost = no_step (view_of c.args.self.now) (view_of c.args.self.now) m refl refl;
    }
