use Rattle.plain_events.proofs.UsualTexts.{nil_behind}
use Rattle.plain_events.proofs.usual.part_behind.Goals as goal

pub returns-in-Some : goal.returns-in-Some
returns-in-Some c = nil_behind _ _ c.in-Some.ensures

pub returns : goal.returns
returns c = record { second = c.in_ok-inner.inner.now; closing = c.in_ok-part.closing.now; cut = c.in_ok-inner.ensures; part_at = c.in_ok-part.ensures; end = c.in_ok-rest.ensures }
