use Rattle.std.proofs.Common.{◌≡◌, length, ap, subst, arith}
use Rattle.moves.specs.Tables.{SayTheSame, rows_of}
use Rattle.moves.proofs.Renewing.{shown_again, shown_before}
use Rattle.moves.proofs.Showing.{no_get}
use Rattle.moves.proofs.copies.narrowed.Goals as goal

pub loop-from-init : goal.loop-from-init
loop-from-init g c = record {
  founds = c.in_ok-copied.ensures;
  once = λ i j x h k. absurd (no_get _ i x c.new.ensures h);
  long = ap length c.new-2.ensures;
  each = λ i row lt h. absurd (omega (arith, lt));
}

pub loop-from-preserved : goal.loop-from-preserved
loop-from-preserved g c = c.in_ok-put_again.ensures c.loop-from.invariant c.if-not-branch.false

pub returns : goal.returns
returns g c calls ends =
    let is : c.loop-from.from ≡ length (rows_of c.args.table.now) = omega arith in
    let same = subst (SayTheSame c.args.table.now c.loop-from.other) is c.loop-from.invariant in
    (shown_again _ _ same calls ends, shown_before _ _ same calls ends c.len.ensures.once)
