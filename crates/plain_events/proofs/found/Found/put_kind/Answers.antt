use Rattle.std.proofs.Common.{rules, ◌≡◌, None}
use Rattle.std.proofs.lemmas.Grind.{common_steps}
use Rattle.plain_events.proofs.Told.{adds_kind}
use Rattle.plain_events.proofs.found.Found.put_kind.Goals as goal

pub returns : goal.returns
returns c v i =
    let none : c.args.self.now.kind ≡ None = grind (rules, common_steps) in
    adds_kind v c.args.self.now c.args.kind none i
