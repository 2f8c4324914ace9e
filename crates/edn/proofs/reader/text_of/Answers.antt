use Rattle.std.proofs.Common.{length, ap, arith, refl}
use Rattle.edn.proofs.Unique.{one_list}
use Rattle.edn.proofs.reader.text_of.Goals as goal

pub returns-else-is_empty-clause-unreadable : goal.returns-else-is_empty-clause-unreadable
returns-else-is_empty-clause-unreadable c err vs h =
    let same = one_list h c.in_ok-found.ensures.ok refl c.in_ok-found.ensures.closed in
    let n = ap length same.1 in
    grind arith
