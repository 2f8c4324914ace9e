use Rattle.moves.specs.Tables.{SayTheSame}
use Rattle.moves.proofs.copies.narrowed.Given as goal

abbrev pub invariant-loop-from : goal.invariant-loop-from
invariant-loop-from g l = SayTheSame l.table l.other l.from
