use Rattle.std.proofs.Common.{rules, ◌≡◌, None}
use Rattle.std.proofs.lemmas.Grind.{common_steps}
use Rattle.plain_events.proofs.Told.{adds_index}
use Rattle.plain_events.proofs.found.Found.put_index.Goals as goal

pub returns : goal.returns
returns c v i =
    let none : c.args.self.now.index ≡ None = grind (rules, common_steps) in
    adds_index v c.args.self.now c.args.index none i
