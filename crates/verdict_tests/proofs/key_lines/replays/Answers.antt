use Rattle.std.proofs.Common.{◌∙◌, ap}
use Rattle.checkpoints.specs.KeyLineView.{KeyLineView}
use Rattle.verdict_tests.proofs.LongLine.{writes_borrowed}
use Rattle.verdict_tests.proofs.key_lines.replays.Goals as goal

pub rebuild-requires : goal.rebuild-requires
rebuild-requires c = writes_borrowed 65 c.deref.result.now c.in_ok-line.line.now.events (c.deref.ensures.value ∙ c.in_ok-borrowed.ensures) c.in_ok-line.ensures

pub prepare_cut-requires : goal.prepare_cut-requires
prepare_cut-requires c =
    writes_borrowed 65 c.deref-2.result.now c.rebuild.new.self.now.events (c.deref-2.ensures.value ∙ c.in_ok-borrowed.ensures)
    (ap (λ (v : KeyLineView). v.now.events) c.in_ok-rebuild.ensures.ok ∙ c.in_ok-line.ensures)
