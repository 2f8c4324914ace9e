use Rattle.std.proofs.Common.{◌≡◌, arith}
use Rattle.std.proofs.lemmas.Grind.{common_steps}
use Rattle.plain_events.proofs.Numerals.{number_by}
use Rattle.plain_events.proofs.numbers.number.Goals as goal

pub returns-clause-atom : goal.returns-clause-atom
returns-clause-atom c =
    let same : c.in_ok-small.small ≡ c.in_ok-size.size = grind (arith, common_steps) in
    number_by _ c.in_ok-size.size _ _ same c.in_ok-size.ensures
