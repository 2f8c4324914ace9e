use Rattle.std.proofs.Common.{rules, ◌≡◌, None}
use Rattle.std.proofs.lemmas.Grind.{common_steps}
use Rattle.plain_events.proofs.Told.{adds_value}
use Rattle.plain_events.proofs.found.Found.put_value.Goals as goal

pub returns : goal.returns
returns c v i =
    let none : c.args.self.now.value ≡ None = grind (rules, common_steps) in
    adds_value v c.args.self.now (c.args.key, c.args.part) none i
