use Rattle.std.proofs.Common.{refl, inl, sym, subst}
use Rattle.edn.specs.declared.refusal.Refusal.TheVariants.{ReadFailed}
use Rattle.check_command.specs.Checks.{IsPut}
use Rattle.check_command.proofs.Recording.{read_failed_line, put_line}
use Rattle.check_command.proofs.telling.put_refusal.Goals as goal

pub returns-in-ReadFailed : goal.returns-in-ReadFailed
returns-in-ReadFailed g c =
    let before = g.W.Write.contents c.args.writer.now in
    let after = g.W.Write.contents c.put_text.new.writer in
    let failed = g.W.Failed.has_failed c.put_text.new.writer in
    let flushed = g.W.Flushes.is_flushed c.put_text.new.writer in
    (ReadFailed, inl (sym c.in-ReadFailed.is), subst (λ line. IsPut line 3 before after failed flushed c.put_text.result) (read_failed_line _ refl) c.put_text.ensures)

pub returns-in_default : goal.returns-in_default
returns-in_default g c =
    put_line (g.W.Write.contents c.args.writer.now) (g.W.Write.contents c.put_refused.new.writer) (g.W.Failed.has_failed c.put_refused.new.writer) (g.W.Flushes.is_flushed c.put_refused.new.writer) c.put_refused.result
    c.args.refusal.now c.in_default.not-ReadFailed c.refusal_text.result c.refusal_text.ensures c.put_refused.ensures
