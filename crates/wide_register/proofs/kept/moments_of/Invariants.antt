use Rattle.std.proofs.Common.{◌≡◌, take}
use Rattle.wide_register.specs.Facts.{moments_of}
use Rattle.wide_register.proofs.kept.moments_of.Given as goal

abbrev pub invariant-loop-call : goal.invariant-loop-call
invariant-loop-call l = l.moments.items ≡ moments_of (take l.call-index l.calls)
