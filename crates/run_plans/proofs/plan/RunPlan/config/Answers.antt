use Rattle.std.proofs.Common.{ap, sym, subst, ◌∙◌}
use Rattle.generators.specs.Generators.{mix, limit, these}
use Rattle.run_plans.specs.Plans.{run_setup, on_keys}
use Rattle.run_plans.proofs.Fitting.{run_fits}
use Rattle.run_plans.proofs.Limited.{limited}
use Rattle.harness.specs.Setups.{setup_of, IsSetup}
use Rattle.run_plans.proofs.plan.RunPlan.config.Goals as goal

-- the generator gives n items of the mix of the children, which are those of the keys
pub returns-clause-planned : goal.returns-clause-planned
returns-clause-planned c =
    let plan = c.args.self in
    let judging = setup_of c.args.judging in
    let made = on_keys judging.kind plan.keys in
    let drawn = limited c.from.result c.in_ok-mix.mix c.in_ok-children.children made c.in_ok-mix.ensures.ok c.in_ok-children.ensures
    ∙ ap (λ n. limit n (mix (these made))) c.from.ensures in
    ap (λ g. record (run_setup plan judging) { generator = g; schedule = c.in_ok-schedule.schedule }) drawn
    ∙ ap (λ s. record (run_setup plan judging) { schedule = s }) c.in_ok-schedule.ensures

pub returns-clause-limits : goal.returns-clause-limits
returns-clause-limits c = λ count is.
    subst (λ s. IsSetup s) (sym (returns-clause-planned c)) (run_fits c.args.self (setup_of c.args.judging) count is)
