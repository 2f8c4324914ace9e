use Rattle.std.proofs.Common.{◌∙◌}
use Rattle.verdict_tests.proofs.LongLine.{writes_borrowed}
use Rattle.verdict_tests.proofs.key_lines.after_cut.Goals as goal

pub cut-requires : goal.cut-requires
cut-requires c = writes_borrowed 65 c.deref.result.now c.in_ok-line.line.now.events (c.deref.ensures.value ∙ c.in_ok-borrowed.ensures) c.in_ok-line.ensures
