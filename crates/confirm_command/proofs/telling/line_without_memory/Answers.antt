use Rattle.std.proofs.Common.{refl, sym, ap, ◌∙◌}
use Rattle.check_command.proofs.Recording.{read_failed_line}
use Rattle.confirm_command.specs.declared.found.Found.TheVariants.{Refused, RefusedOrder}
use Rattle.confirm_command.specs.Found.{found_text}
use Rattle.confirm_command.proofs.Told.{order_failed_line, if_some_so}
use Rattle.confirm_command.proofs.telling.line_without_memory.Goals as goal

pub returns-in-Refused-clause-line : goal.returns-in-Refused-clause-line
returns-in-Refused-clause-line c =
    if_some_so c.line_of_failed.result
    (λ line is. is.0 ∙ read_failed_line _ refl ∙ ap found_text (ap Refused (sym is.1) ∙ sym c.in-Refused.is))
    c.line_of_failed.ensures.line

pub returns-in-RefusedOrder-clause-line : goal.returns-in-RefusedOrder-clause-line
returns-in-RefusedOrder-clause-line c =
    if_some_so c.line_of_failed-in-RefusedOrder.result
    (λ line is. is.0 ∙ order_failed_line _ refl ∙ ap found_text (ap RefusedOrder (sym is.1) ∙ sym c.in-RefusedOrder.is))
    c.line_of_failed-in-RefusedOrder.ensures.line
