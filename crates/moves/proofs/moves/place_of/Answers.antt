use Rattle.std.proofs.Common.{◌-◌, arith}
use Rattle.std.proofs.lemmas.Nat.{mul-lt}
use Rattle.moves.proofs.moves.place_of.Goals as goal

pub overflow_mul-number : goal.overflow_mul-number
overflow_mul-number c =
    let few = mul-lt (c.args.number - c.args.base) c.args.call_count 1048576 1048576 (omega arith) (omega arith) in
    omega (arith, few)
