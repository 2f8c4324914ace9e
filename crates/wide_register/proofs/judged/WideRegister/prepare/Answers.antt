use Rattle.std.proofs.Common.{◌∙◌, refl, rules, sym}
use Rattle.std.proofs.lemmas.Bool.{true≢false}
use Rattle.events.specs.Events.{Mark, act_by, mark_by_act}
use Rattle.wide_register.specs.declared.kept.Kept.{Kept}
use Rattle.wide_register.specs.Facts.{changed}
use Rattle.wide_register.proofs.Judging.{answers, answers_over, costs_of, no_cost, not_over, prepared_as}
use Rattle.wide_register.proofs.Steps.{facts_after}
use Rattle.wide_register.proofs.judged.WideRegister.prepare.Goals as goal

pub returns-then-is_over : goal.returns-then-is_over
returns-then-is_over c =
    let w = c.args.self.now in
    let is = c.is_over.ensures.0 c.if-is_over.true in
    prepared_as c.args.kind c.args.id c.args.op.now (record {
      step = answers_over w.budget w.kept c.args.id c.args.op.now c.args.kind is.0 is.1;
      now = λ ms h. h;
      next = record { over = λ e ms h. h; taken = λ n. absurd (n refl) };
      budget = refl;
      cost = no_cost c.args.kind w c.args.id c.args.op.now;
    })

pub returns : goal.returns
returns c =
    let w = c.args.self.now in
    let id = c.args.id in
    let kind = c.args.kind in
    let op = c.args.op.now in
    let mark : Mark = mark_by_act id id (act_by kind op) in
    let next : Kept = changed c.in_ok-next.next w.kept in
    let step = c.step_left-step.result in
    prepared_as kind id op (record {
      step = answers w.budget w.kept next id op step kind c.in_ok-next.ensures (λ h. true≢false (sym (c.is_over.ensures.1 h) ∙ c.if-is_over.false)) c.step_left-step.ensures;
      now = λ ms h. h;
      next = record {
        over = λ e. absurd (not_over w.budget w.kept next id op step kind c.step_left-step.ensures e);
        taken = λ n ms h may. facts_after mark w.kept next c.in_ok-next.ensures ms h may;
      };
      budget = refl;
      cost = costs_of kind w id op c.counted-self.result (λ h. true≢false (sym (c.is_over.ensures.1 h) ∙ c.if-is_over.false)) c.counted-self.ensures;
    })

pub returns-in_err-next : goal.returns-in_err-next
returns-in_err-next c = prepared_as c.args.kind c.args.id c.args.op.now (record {
  step = search rules;
  now = λ ms h. h;
  next = search rules;
  budget = refl;
  cost = costs_of c.args.kind c.args.self.now c.args.id c.args.op.now c.counted-self.result (λ h. true≢false (sym (c.is_over.ensures.1 h) ∙ c.if-is_over.false)) c.counted-self.ensures;
})
