use Rattle.std.proofs.Common.{refl, sym, ◌∙◌, subst, inl, inr}
use Rattle.edn.specs.declared.refusal.Refusal.TheVariants.{NoMemory}
use Rattle.harness.specs.Setups.{setup_of}
use Rattle.line_loop.specs.RefusalLine.{refusal_line}
use Rattle.run_command.specs.RunText.{IsRunText}
use Rattle.run_command.proofs.Running.{not_one, never_one, says_why}
use Rattle.run_command.proofs.run.run_store.Goals as goal

pub returns-in-Ok-report_text-clause-never_illegal :
    goal.returns-in-Ok-report_text-clause-never_illegal
returns-in-Ok-report_text-clause-never_illegal g c = λ strict.
    let told = c.in-Ok-report_text.ensures in
    let never = c.in-Ok.ensures.never_illegal strict in
    never_one (g.W.Write.contents c.args.writer.now) (g.W.Write.contents c.put_text.new.writer) (g.W.Failed.has_failed c.put_text.new.writer) (g.W.Flushes.is_flushed c.put_text.new.writer) c.put_text.result c.as_slice.result.now c.in-Ok-report_text.status
    (λ one. not_one c.in-Ok.core.machine.judged told.verdict told.judged never (sym told.status_is ∙ one)) c.put_text.ensures

pub returns-in-Ok-report_text-clause-told : goal.returns-in-Ok-report_text-clause-told
returns-in-Ok-report_text-clause-told g c = (
  c.as_slice.result.now,
  c.in-Ok-report_text.status,
  inl (
    c.in-Ok.ensures.limits,
    (
      c.in-Ok.core.machine,
      c.in-Ok.ensures.run,
      subst (λ text. IsRunText c.in-Ok.core.machine text c.in-Ok-report_text.status) (sym c.as_slice.ensures.value) c.in-Ok-report_text.ensures,
    ),
  ),
  c.put_text.ensures,
)

pub returns-in-Err-report_text-clause-told : goal.returns-in-Err-report_text-clause-told
returns-in-Err-report_text-clause-told g c = (refusal_line NoMemory, 3, inr (NoMemory, inl c.in-Ok.ensures.limits, inl refl, refl), c.put_refused.ensures)

pub returns-in-Err-clause-told : goal.returns-in-Err-clause-told
returns-in-Err-clause-told g c =
    says_why (g.W.Write.contents c.args.writer.now) (g.W.Write.contents c.put_refused-in-Err.new.writer) (g.W.Failed.has_failed c.put_refused-in-Err.new.writer) (g.W.Flushes.is_flushed c.put_refused-in-Err.new.writer) c.put_refused-in-Err.result (setup_of c.args.config)
    c.in-Err.refusal c.in-Err.ensures.refused
    c.refusal_text.result c.refusal_text.ensures c.put_refused-in-Err.ensures
