use Rattle.std.proofs.Common.{◌≡◌, drop}
use Rattle.rules.specs.Meaning.{started, start_of}
use Rattle.rules.proofs.rules.Rules.start.Given as goal

abbrev pub invariant-loop-place : goal.invariant-loop-place
invariant-loop-place l = start_of l.self ≡ started (drop l.place l.variable-items) l.state l.place
