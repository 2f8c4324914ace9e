use Rattle.std.proofs.Common.{inl, sym, subst}
use Rattle.check_command.specs.ExitStatus.{status_of}
use Rattle.check_command.specs.declared.recorded.Findings.{Findings}
use Rattle.check_command.specs.declared.recorded.Findings.TheVariants.{Judged}
use Rattle.check_command.specs.Checks.{IsPut, IsTold, StandsFor}
use Rattle.check_command.proofs.Recording.{told_event, told_refusal}
use Rattle.check_command.proofs.check.tell.Goals as goal

pub returns-in-Judged : goal.returns-in-Judged
returns-in-Judged g c =
    let before = g.W.Write.contents c.args.writer.now in
    let after = g.W.Write.contents c.put_text.new.writer in
    let failed = g.W.Failed.has_failed c.put_text.new.writer in
    let flushed = g.W.Flushes.is_flushed c.put_text.new.writer in (
      Judged c.in-Judged.verdict c.in-Judged.text,
      inl (sym c.in-Judged.is),
      subst (λ t. IsPut t (status_of c.in-Judged.verdict) before after failed flushed c.put_text.result) c.as_slice.ensures.value
          (subst (λ s. IsPut c.as_slice.result.now s before after failed flushed c.put_text.result) c.status_of_verdict.ensures c.put_text.ensures),
    )

pub returns-in-RefusedEvent : goal.returns-in-RefusedEvent
returns-in-RefusedEvent g c =
    let before = g.W.Write.contents c.args.writer.now in
    let after = g.W.Write.contents c.put_refused.new.writer in
    let failed = g.W.Failed.has_failed c.put_refused.new.writer in
    let flushed = g.W.Flushes.is_flushed c.put_refused.new.writer in
    subst (λ (f : Findings). (x : Findings) × StandsFor x f × IsTold x before after failed flushed c.put_refused.result) (sym c.in-RefusedEvent.is)
    (told_event before after failed flushed c.put_refused.result c.in-RefusedEvent.taken c.in-RefusedEvent.refusal c.event_text.result c.event_text.ensures c.put_refused.ensures)

pub returns-in-Refused : goal.returns-in-Refused
returns-in-Refused g c =
    let before = g.W.Write.contents c.args.writer.now in
    let after = g.W.Write.contents c.put_refusal.new.writer in
    let failed = g.W.Failed.has_failed c.put_refusal.new.writer in
    let flushed = g.W.Flushes.is_flushed c.put_refusal.new.writer in
    let (told, which, put) = c.put_refusal.ensures in
    subst (λ (f : Findings). (x : Findings) × StandsFor x f × IsTold x before after failed flushed c.put_refusal.result) (sym c.in-Refused.is)
    (told_refusal before after failed flushed c.put_refusal.result c.in-Refused.refusal told which put)
