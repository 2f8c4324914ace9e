use Rattle.std.proofs.Common.{◌≡◌, ℕ, ◌-◌, sym, subst, inr, arith}
use Rattle.harness.specs.CoreView.{CoreView}
use Rattle.harness.specs.Setups.{setup_of}
use Rattle.machine.specs.Machine.{opening}
use Rattle.clients.specs.Runs.{HasNoRun, IsRun}
use Rattle.clients.proofs.Results.{ok_then, err_then, err_from}
use Rattle.clients.proofs.Refusing.{not_begun}
use Rattle.clients.proofs.whole_run.run_trial.Goals as goal

pub returns-clause-run : goal.returns-clause-run
returns-clause-run g c =
    let blank = c.in_ok-blank.ensures in
    let threads : c.in_ok-blank.blank.seats - 1 ≡ c.args.config.concurrency = omega (arith, c.in_ok-blank.ensures.seats.0, c.in_ok-blank.ensures.seats.2, c.saturating_add-seats.ensures) in
    ok_then c.run_on.result c.run_on.ensures.run (λ core run.
    subst (λ (n : ℕ). IsRun n (opening (setup_of c.args.config)) core.machine) threads
    (subst (λ (v : CoreView). IsRun (c.in_ok-blank.blank.seats - 1) v.machine core.machine) blank.opened run))

pub returns-clause-order : goal.returns-clause-order
returns-clause-order g c = λ strict.
    ok_then c.run_on.result (returns-clause-run g c) (λ core run.
    (run, c.no_false_alarm_in_a_run.ensures.order (setup_of c.args.config) c.args.config.concurrency core.machine strict c.in_ok-blank.ensures.limits.2.0 run))

pub returns-clause-refused : goal.returns-clause-refused
returns-clause-refused g c =
    let blank = c.in_ok-blank.ensures in
    err_then c.run_on.result c.run_on.ensures.refused (λ why lost. inr (inr (blank.limits, omega (arith, blank.seats.0, blank.seats.2, c.saturating_add-seats.ensures), lost)))

pub returns-in_err-blank-clause-refused : goal.returns-in_err-blank-clause-refused
returns-in_err-blank-clause-refused g c =
    let begun = not_begun c.args.config c.saturating_add-seats.result c.in_err-blank.field-0.0 (λ less. omega (arith, less, c.saturating_add-seats.ensures)) c.in_err-blank.ensures.refused in
    err_from c.from_residual.result c.from_residual.ensures.1 (λ why is. subst (λ w. HasNoRun (setup_of c.args.config) w) (sym is) begun)

pub returns-clause-linearizable : goal.returns-clause-linearizable
returns-clause-linearizable g c = λ strict.
    let blank = c.in_ok-blank.ensures in
    ok_then c.run_on.result c.run_on.ensures.run (λ core run.
    c.no_false_alarm_in_a_run.ensures.linearizable (setup_of c.args.config) (c.in_ok-blank.blank.seats - 1) core.machine strict blank.limits.2.0
    (subst (λ (v : CoreView). IsRun (c.in_ok-blank.blank.seats - 1) v.machine core.machine) blank.opened run))

pub returns-clause-never_illegal : goal.returns-clause-never_illegal
returns-clause-never_illegal g c = λ strict.
    let blank = c.in_ok-blank.ensures in
    ok_then c.run_on.result c.run_on.ensures.run (λ core run key index.
    c.no_false_alarm_in_a_run.ensures.verdict (setup_of c.args.config) (c.in_ok-blank.blank.seats - 1) core.machine key index strict blank.limits.2.0
    (subst (λ (v : CoreView). IsRun (c.in_ok-blank.blank.seats - 1) v.machine core.machine) blank.opened run))
