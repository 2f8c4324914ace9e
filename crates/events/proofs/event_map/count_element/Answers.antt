use Rattle.std.proofs.Common.{◌^◌, ap, ◌∙◌, arith}
use Rattle.events.specs.Spelling.{number_in}
use Rattle.events.proofs.Written.{number_back}
use Rattle.events.proofs.event_map.count_element.Goals as goal

pub returns-clause-spells : goal.returns-clause-spells
returns-clause-spells c = ap (number_in (2 ^ 16)) c.number_element.ensures ∙ number_back (2 ^ 16) c.args.count (omega arith)
