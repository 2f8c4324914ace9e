use Rattle.std.proofs.Common.{refl}
use Rattle.moves.proofs.Showing.{widens_itself, widens_states}
use Rattle.moves.proofs.moves.target_of.Goals as goal

pub returns-in_err-number-clause-rows : goal.returns-in_err-number-clause-rows
returns-in_err-number-clause-rows g c = record { widens = widens_states c.args.table.now c.args.table.now c.number_of.new.states (widens_itself c.args.table.now) c.in_err-number.ensures.front (λ _. c.in_err-number.ensures.once); rows = refl }
