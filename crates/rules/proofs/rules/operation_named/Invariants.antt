use Rattle.std.proofs.Common.{◌≡◌, drop}
use Rattle.rules.specs.Meaning.{operation_named}
use Rattle.rules.proofs.rules.operation_named.Given as goal

abbrev pub invariant-loop-operation : goal.invariant-loop-operation
invariant-loop-operation l = operation_named l.operations l.name ≡ operation_named (drop l.operation-index l.operations) l.name
