use Rattle.std.proofs.Common.{inl, inr, sym, ◌∙◌, ap, subst, ⊎_elim}
use Rattle.harness.specs.Setups.{setup_of}
use Rattle.check_command.specs.Recorded.{ComesTo}
use Rattle.check_command.specs.declared.recorded.Findings.TheVariants.{Refused}
use Rattle.check_command.proofs.Recording.{checks}
use Rattle.check_command.proofs.check.check_text.Goals as goal
use Rattle.check_command.proofs.check.check_text.Goals.{in-Ok, in-Err}

pub returns : goal.returns
returns g c =
    let (told, which, tells) = c.tell.ensures in
    elim c.match-read_whole.branch [
      | in-Ok w ↦
          checks (setup_of c.args.config) _ _ _ _ _ _ _ _ w.in-Ok.bytes.items w.in-Ok.ensures.bytes c.match-read_whole.findings
          (inl (w.in-Ok.ensures.end, w.in-Ok.ensures.unfailed, subst (ComesTo (setup_of c.args.config) w.in-Ok.bytes.items) (sym w.findings-is) (subst (λ l. ComesTo (setup_of c.args.config) l w.judge_text-findings.result) w.as_slice.ensures.value w.judge_text-findings.ensures)))
          told which tells
      | in-Err w ↦
          checks (setup_of c.args.config) _ _ _ _ _ _ _ _ w.in-Err.ensures.some.0 w.in-Err.ensures.some.1 c.match-read_whole.findings
          (⊎_elim (λ memory. inr (inr (w.findings-is ∙ ap Refused memory.0, memory.1))) (λ failed. inr (inl (w.findings-is ∙ ap Refused failed.0, failed.1))) w.in-Err.ensures.cause)
          told which tells
    ]
