use Rattle.std.proofs.Common.{sym, ◌∙◌, subst}
use Rattle.linspec.specs.declared.verdict.Verdict.{Verdict}
use Rattle.linspec.specs.JudgedHistory.{IsVerdictOn, rewound}
use Rattle.line_loop.proofs.Results.{on_ok}
use Rattle.check_command.proofs.Recording.{loaded_now}
use Rattle.check_command.proofs.recorded.judge_history.Goals as goal

pub returns-clause-found : goal.returns-clause-found
returns-clause-found g c = λ end is.
    c.told_by-told.ensures.found end (is ∙ sym (loaded_now c.in_ok-monitor.monitor c.args.history.concurrency c.args.kind c.args.budget c.args.history.events c.in_ok-monitor.ensures.loaded))

pub returns-clause-verdicts : goal.returns-clause-verdicts
returns-clause-verdicts g c =
    on_ok c.told_by-told.result
    (λ n. subst (λ h. (v : Verdict) × IsVerdictOn (rewound n h) v)
    (loaded_now c.in_ok-monitor.monitor c.args.history.concurrency c.args.kind c.args.budget c.args.history.events c.in_ok-monitor.ensures.loaded) (c.some_verdicts.ensures n))
