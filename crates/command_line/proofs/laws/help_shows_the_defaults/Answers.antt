use Rattle.std.proofs.Common.{refl}
use Rattle.command_line.proofs.Spelled.{judging, object, run}
use Rattle.command_line.proofs.laws.help_shows_the_defaults.Goals as goal

pub returns-clause-script : goal.returns-clause-script
returns-clause-script c = λ texts shows. judging texts shows.0.0 shows.0.1 shows.1

pub returns-clause-check : goal.returns-clause-check
returns-clause-check c = λ texts shows. judging texts shows.0.0 shows.0.1 shows.1

pub returns-clause-confirm : goal.returns-clause-confirm
returns-clause-confirm c = object

pub returns-clause-run : goal.returns-clause-run
returns-clause-run c = run

pub returns-clause-workers : goal.returns-clause-workers
returns-clause-workers c = refl
