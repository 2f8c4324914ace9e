use Rattle.std.proofs.Common.{◌^◌, ap, ◌∙◌, arith}
use Rattle.events.specs.Spelling.{number_in}
use Rattle.events.proofs.Written.{number_back}
use Rattle.events.proofs.event_map.replica_element.Goals as goal

pub returns-clause-spells : goal.returns-clause-spells
returns-clause-spells c = ap (number_in (2 ^ 8)) c.number_element.ensures ∙ number_back (2 ^ 8) c.args.replica (omega arith)
