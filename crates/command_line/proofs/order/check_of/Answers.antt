use Rattle.std.proofs.Common.{Some, refl, sym, ap, ◌∙◌}
use Rattle.command_line.proofs.order.check_of.Goals as goal

-- the file that was found, and the workers
pub returns-in-Ok-clause-found : goal.returns-in-Ok-clause-found
returns-in-Ok-clause-found c = (
  c.in-Ok.path,
  c.in-Some-workers_of.workers,
  refl,
  sym c.in-Some.ensures ∙ ap Some (sym c.in-Ok.ensures.ok),
  sym c.in-Some-workers_of.ensures.found,
)
