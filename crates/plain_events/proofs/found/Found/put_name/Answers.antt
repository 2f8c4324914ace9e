use Rattle.std.proofs.Common.{rules, ◌≡◌, None}
use Rattle.std.proofs.lemmas.Grind.{common_steps}
use Rattle.plain_events.proofs.Told.{adds_name}
use Rattle.plain_events.proofs.found.Found.put_name.Goals as goal

pub returns : goal.returns
returns c v i =
    let none : c.args.self.now.name ≡ None = grind (rules, common_steps) in
    adds_name v c.args.self.now c.args.name none i
