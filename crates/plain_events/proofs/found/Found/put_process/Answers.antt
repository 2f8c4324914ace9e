use Rattle.std.proofs.Common.{rules, ◌≡◌, None}
use Rattle.std.proofs.lemmas.Grind.{common_steps}
use Rattle.plain_events.proofs.Told.{adds_process}
use Rattle.plain_events.proofs.found.Found.put_process.Goals as goal

pub returns : goal.returns
returns c v i =
    let none : c.args.self.now.process ≡ None = grind (rules, common_steps) in
    adds_process v c.args.self.now c.args.process none i
