use Rattle.std.proofs.Common.{sym, arith}
use Rattle.moves.proofs.Included.{found_here, found_later, found_nowhere}
use Rattle.moves.proofs.kept_end.found_in.Goals as goal

pub returns-then-entry-id : goal.returns-then-entry-id
returns-then-entry-id c = sym (found_here c.args.pending.now c.loop-entry.entry-index c.args.id c.entry-item.result (omega arith) c.entry-item.is c.if-entry-id.true c.loop-entry.invariant)

pub loop-entry-preserved : goal.loop-entry-preserved
loop-entry-preserved c = found_later c.args.pending.now c.loop-entry.entry-index c.args.id c.entry-item.result (omega arith) c.entry-item.is c.if-entry-id.false c.loop-entry.invariant

pub returns : goal.returns
returns c = found_nowhere c.args.pending.now c.loop-entry.entry-index c.args.id (omega arith) c.loop-entry.invariant
