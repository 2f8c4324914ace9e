use Rattle.std.proofs.Common.{◌≡◌, length, refl, rules, subst}
use Rattle.events.specs.Events.{Mark, act_by, mark_by_act}
use Rattle.wide_cas_register.specs.Counts.{IsCounted}
use Rattle.wide_cas_register.specs.Fronts.{IsAfter, IsReachedBy}
use Rattle.wide_cas_register.proofs.Judging.{answers, answers_over, costs_over, costs_within, met, not_over, prepared_as, within}
use Rattle.wide_cas_register.proofs.Steps.{facts_after}
use Rattle.wide_cas_register.proofs.judged.WideCasRegister.prepare.Goals as goal

pub returns-in-Over : goal.returns-in-Over
returns-in-Over c =
    let w = c.args.self.now in
    let id = c.args.id in
    let kind = c.args.kind in
    let op = c.args.op.now in
    let k = w.kept in
    let r = subst (IsReachedBy kind k.calls.items k.moment k.rows.items w.budget) c.in-Over.is c.in_ok-tried.ensures in
    prepared_as kind id op (record {
      step = answers_over w.budget c.in-Over.tried k id op kind r;
      now = λ ms h. h;
      next = record { over = λ e ms h. h; taken = λ n. absurd (n refl) };
      budget = refl;
      cost = costs_over kind w id op c.in-Over.tried c.counted-self.result r c.counted-self.ensures;
    })

pub returns-in_ok-next-in-All : goal.returns-in_ok-next-in-All
returns-in_ok-next-in-All c =
    let w = c.args.self.now in
    let id = c.args.id in
    let kind = c.args.kind in
    let op = c.args.op.now in
    let k = w.kept in
    let fronts = c.in-All.fronts in
    let next = c.in_ok-next-in-All.next in
    let step = c.step_left-step.result in
    let mark : Mark = mark_by_act id id (act_by kind op) in
    let these : c.deref.result.now ≡ fronts.items = search rules in
    let many : c.len.result ≡ length fronts.items = search rules in
    let in' = within kind k w.budget fronts (subst (IsReachedBy kind k.calls.items k.moment k.rows.items w.budget) c.in-All.is c.in_ok-tried.ensures) in
    let after = subst (λ l. IsAfter mark l k next) these c.in_ok-next-in-All.ensures in
    prepared_as kind id op (record {
      step = answers w.budget k next fronts.items id op step kind after in' c.step_left-step.ensures;
      now = λ ms h. h;
      next = record {
        over = λ e. absurd (not_over w.budget k next fronts.items id op step kind c.step_left-step.ensures e);
        taken = λ n ms h may. facts_after mark fronts.items k next after (met kind id op k w.budget fronts.items in') ms h may;
      };
      budget = refl;
      cost = costs_within kind w id op fronts.items c.counted-self-in-All.result in' (subst (λ n. IsCounted k.calls.items n w.applied c.counted-self-in-All.result) many c.counted-self-in-All.ensures);
    })

pub returns-in_err-next-in-All : goal.returns-in_err-next-in-All
returns-in_err-next-in-All c =
    let w = c.args.self.now in
    let kind = c.args.kind in
    let k = w.kept in
    let fronts = c.in-All.fronts in
    let many : c.len.result ≡ length fronts.items = search rules in
    let in' = within kind k w.budget fronts (subst (IsReachedBy kind k.calls.items k.moment k.rows.items w.budget) c.in-All.is c.in_ok-tried.ensures) in
    prepared_as kind c.args.id c.args.op.now (record {
      step = search rules;
      now = λ ms h. h;
      next = search rules;
      budget = refl;
      cost = costs_within kind w c.args.id c.args.op.now fronts.items c.counted-self-in-All.result in' (subst (λ n. IsCounted k.calls.items n w.applied c.counted-self-in-All.result) many c.counted-self-in-All.ensures);
    })
