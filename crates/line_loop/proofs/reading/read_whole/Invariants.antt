-- All bytes that were read are held.
use Rattle.std.specs.Io.KnownBytes.{Consumes}
use Rattle.line_loop.proofs.reading.read_whole.Given as goal

abbrev pub invariant-loop : goal.invariant-loop
invariant-loop g l =
    Consumes (g.R.Read.remaining l.fn.reader) (g.R.Read.remaining l.reader) l.bytes.items
    × (goal.iterator-loop g).can_next l.iterator' × (goal.iterator-loop g).is_finite l.iterator'
