use Rattle.std.proofs.Common.{refl, sym, subst, Result, String}
use Rattle.std.specs.declared.alloc.AllocError.{AllocError}
use Rattle.std.specs.declared.alloc.Global.{Global}
use Rattle.check_command.specs.Checks.{IsPut, line_or_no_memory}
use Rattle.check_command.proofs.Recording.{no_memory_line}
use Rattle.check_command.proofs.telling.put_refused.Goals as goal

pub returns-in-Err : goal.returns-in-Err
returns-in-Err g c =
    subst (λ (l : Result (String Global) AllocError). IsPut (line_or_no_memory l) 3 (g.W.Write.contents c.args.writer.now) (g.W.Write.contents c.put_text-in-Err.new.writer) (g.W.Failed.has_failed c.put_text-in-Err.new.writer) (g.W.Flushes.is_flushed c.put_text-in-Err.new.writer) c.put_text-in-Err.result) (sym c.in-Err.is)
    (subst (λ line. IsPut line 3 (g.W.Write.contents c.args.writer.now) (g.W.Write.contents c.put_text-in-Err.new.writer) (g.W.Failed.has_failed c.put_text-in-Err.new.writer) (g.W.Flushes.is_flushed c.put_text-in-Err.new.writer) c.put_text-in-Err.result) (no_memory_line _ refl) c.put_text-in-Err.ensures)
