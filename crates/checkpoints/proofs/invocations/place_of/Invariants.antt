use Rattle.std.proofs.Common.{◌≡◌, None, take}
use Rattle.checkpoints.specs.Noted.{noted_of}
use Rattle.checkpoints.proofs.invocations.place_of.Given as goal

abbrev pub invariant-loop-at : goal.invariant-loop-at
invariant-loop-at l = noted_of (take l.at l.noted) l.process ≡ None
