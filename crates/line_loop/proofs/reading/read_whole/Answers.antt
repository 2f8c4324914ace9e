use Rattle.std.proofs.Common.{◌++◌, ap, take, Ok}
use Rattle.std.proofs.KnownBytes.{Consumes-trans}
use Rattle.line_loop.proofs.reading.read_whole.Goals as goal

pub returns-then-is_err-clause-some : goal.returns-then-is_err-clause-some
returns-then-is_err-clause-some g c =
    let (read, _, _) = c.loop.invariant in
    let more = take c.in-Piece.n c.read_some.new.piece in
    let took = c.in_ok-n.ensures.piece c.in-Piece.n (ap Ok c.in-Piece.is) in
    (c.loop.bytes.items ++ more, Consumes-trans _ _ _ c.loop.bytes.items more read took)
