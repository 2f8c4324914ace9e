use Rattle.events.proofs.Values.{not_two}
use Rattle.events.proofs.elements.both.Goals as goal

pub returns-then-elements-ne2 : goal.returns-then-elements-ne2
returns-then-elements-ne2 c = not_two c.args.elements.now c.if-elements-ne2.true
