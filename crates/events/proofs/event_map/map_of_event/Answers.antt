use Rattle.std.proofs.Common.{arith}
use Rattle.edn.specs.View.{value_of}
use Rattle.events.proofs.Written.{map_spells}
use Rattle.events.proofs.event_map.map_of_event.Goals as goal

pub returns-clause-spells : goal.returns-clause-spells
returns-clause-spells c =
    map_spells (value_of c.in_ok-element.element) c.args.index c.args.event.now (value_of c.in_ok-process.process) (value_of c.in_ok-value.value) c.name_of_body-name.result.now c.in_ok-element.ensures
    c.name_of_body-name.ensures (omega arith) c.in_ok-process.ensures.spells c.in_ok-value.ensures.spells c.requires
