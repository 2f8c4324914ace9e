use Rattle.std.proofs.Common.{Some, refl, sym, ap, ◌∙◌}
use Rattle.command_line.proofs.order.confirm_of.Goals as goal

-- the file and the order that were found
pub returns-in-Ok-clause-found : goal.returns-in-Ok-clause-found
returns-in-Ok-clause-found c = (
  c.in-Ok.path,
  c.in-Ok.order_path,
  refl,
  sym c.in-Some.ensures ∙ ap Some (sym c.in-Ok.ensures.0),
  sym c.in-Some-get_str.ensures ∙ ap Some (sym c.in-Ok.ensures.1),
)
