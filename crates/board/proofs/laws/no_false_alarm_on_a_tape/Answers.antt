use Rattle.std.proofs.Common.{◌≡◌, [], ◌∷◌, sym, subst}
use mathlib.Core.List.{IsPrefix}
use Rattle.machine.specs.Machine.{Machine, opening, MayStep}
use Rattle.machine.specs.Machine as machine
use Rattle.board.specs.declared.tape.TapeEntry.TheVariants.{Opening, Call}
use Rattle.board.specs.Tape.{Runs}
use Rattle.board.specs.CoreTape.{CoreTape, LeadsTo, opening_tape, calls_on}
use Rattle.board.proofs.laws.no_false_alarm_on_a_tape.Goals as goal

run_on : (s end : Machine) (rest : CoreTape) → Runs MayStep s rest end → machine.Runs s (calls_on rest) end
run_on s end [] run = run
run_on s end (Call seat command reply ∷ rest) run = (run.0, run.1, run_on run.0 end rest run.2)
run_on s end (Opening o ∷ rest) run = absurd run

-- a tape on this opening is a run from it
run_from : (start end : Machine) (tape : CoreTape) → IsPrefix (opening_tape start) tape → LeadsTo tape end → machine.Runs start (calls_on tape) end
run_from start end [] opens leads = absurd leads
run_from start end (Call seat command reply ∷ rest) opens leads = absurd leads
run_from start end (Opening o ∷ rest) opens leads =
    let same : start ≡ o = cc (opens.1) in
    subst (λ m. machine.Runs m (calls_on rest) end) (sym same) (run_on o end rest leads)

pub returns : goal.returns
returns c = λ setup tape m strict count opens trial leads.
    c.no_false_alarm.ensures.linearizable setup (calls_on tape) m strict count trial (run_from (opening setup) m tape opens leads)
