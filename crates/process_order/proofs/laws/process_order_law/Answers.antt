use Rattle.linspec.specs.Orders.{product}
use Rattle.process_order.proofs.InTurn.{in_turn, fails_or_precedes}
use Rattle.process_order.proofs.Legal.{keeps, crashed_is_last}
use Rattle.process_order.proofs.laws.process_order_law.Goals as goal

pub returns-clause-sequential : goal.returns-clause-sequential
returns-clause-sequential c n events p i j pos history first second less = in_turn n events p i j pos history first second less

pub returns-clause-precedes : goal.returns-clause-precedes
returns-clause-precedes c n events p i j pos history first second less = fails_or_precedes n events p i j pos history first second less

pub returns-clause-keeps : goal.returns-clause-keeps
returns-clause-keeps c n events kinds order s pos history legal = keeps n events pos history (product kinds) order s legal

pub returns-clause-crashed : goal.returns-clause-crashed
returns-clause-crashed c n events p i j pos history first second crashed = crashed_is_last n events pos history p i j first second crashed
