use Rattle.std.proofs.Common.{OnOk, None, Some, ap, sym, ◌∙◌, subst, rules}
use Rattle.std.specs.Prelude.{ℕ}
use Rattle.linspec.specs.declared.verdict.Verdict.{Verdict}
use Rattle.history.specs.WellFormed.{HistoryView}
use Rattle.linspec.specs.JudgedHistory.{IsVerdictOn, rewound}
use Rattle.monitor.specs.Loading.{with_all}
use Rattle.harness.specs.Setups.{setup_of}
use Rattle.check_command.specs.Reading.{IsRead}
use Rattle.check_command.proofs.Recording.{whole_comes_to, refused_at}
use Rattle.check_command.proofs.recorded.found_in.Goals as goal

pub returns-in-None-clause-found : goal.returns-in-None-clause-found
returns-in-None-clause-found g c =
    let setup = setup_of c.args.config in
    let bytes = c.args.bytes.now in
    let begun = c.in_ok-history.history in
    let events = c.read_events.new.history.events in
    let read = subst (IsRead bytes begun.concurrency begun.events events) c.in-None.is c.in_ok-read_events.ensures.read in
    let threads = c.read_events.ensures.concurrency ∙ ap (λ (h : HistoryView). h.concurrency) c.in_ok-history.ensures.opened in
    whole_comes_to setup (search rules) bytes events (subst (λ (h : HistoryView). IsRead bytes h.concurrency h.events events None) c.in_ok-history.ensures.opened read) c.judge_history.result
    (λ end is. c.judge_history.ensures.found end (is ∙ ap (λ n. with_all n setup.kind setup.budget events) (sym threads)))
    (subst (λ (m : ℕ). OnOk c.judge_history.result ((n : ℕ) → (v : Verdict) × IsVerdictOn (rewound n (with_all m setup.kind setup.budget events)) v)) threads c.judge_history.ensures.verdicts)

pub returns-clause-found : goal.returns-clause-found
returns-clause-found g c =
    let bytes = c.args.bytes.now in
    let begun = c.in_ok-history.history in
    let events = c.read_events.new.history.events in
    let read = subst (IsRead bytes begun.concurrency begun.events events) c.in-Some.is c.in_ok-read_events.ensures.read in (
      search rules,
      refused_at (setup_of c.args.config) bytes events c.in-Some.taken c.in-Some.refusal
          (subst (λ (h : HistoryView). IsRead bytes h.concurrency h.events events (Some (c.in-Some.taken, c.in-Some.refusal))) c.in_ok-history.ensures.opened read),
    )
