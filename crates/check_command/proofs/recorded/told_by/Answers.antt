use Rattle.std.proofs.Common.{◌++◌, sym, ap, ◌∙◌, subst}
use Rattle.linspec.specs.JudgedHistory.{IsVerdictOn}
use Rattle.report.specs.Report.{IsReport}
use Rattle.check_command.proofs.recorded.told_by.Goals as goal

pub returns-clause-found : goal.returns-clause-found
returns-clause-found g c = λ end is.
    let told = c.in_ok-report.ensures.ok in
    let h = c.args.monitor.now.now in (
      subst (λ j. IsVerdictOn j c.verdict-verdict.result) (sym is) c.verdict-verdict.ensures,
      subst (λ j. IsReport j c.report.new.bytes.items) (sym is) (subst (IsReport h) (sym (told.2 ∙ ap (λ l. l ++ told.0) c.new-text.ensures.items)) told.1),
    )
