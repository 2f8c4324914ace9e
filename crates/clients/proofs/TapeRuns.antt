-- A tape is a run of the one-thread object.
use Rattle.std.proofs.Common.{◌≡◌, [], ◌∷◌, sym, subst}
use mathlib.Core.List.{IsPrefix}
use Rattle.machine.specs.Machine.{Machine, MayStep}
use Rattle.machine.specs.Machine as machine
use Rattle.board.specs.declared.tape.TapeEntry.TheVariants.{Opening, Call}
use Rattle.board.specs.Tape.{Runs}
use Rattle.board.specs.CoreTape.{CoreTape, LeadsTo, opening_tape, calls_on}

calls_run : (s end : Machine) (rest : CoreTape) → Runs MayStep s rest end → machine.Runs s (calls_on rest) end
calls_run s end [] run = run
calls_run s end (Call seat command reply ∷ rest) run = (run.0, run.1, calls_run run.0 end rest run.2)
calls_run s end (Opening o ∷ rest) run = absurd run

pub tape_run : (start end : Machine) (tape : CoreTape) → IsPrefix (opening_tape start) tape → LeadsTo tape end → machine.Runs start (calls_on tape) end
tape_run start end [] opens leads = absurd leads
tape_run start end (Call seat command reply ∷ rest) opens leads = absurd leads
tape_run start end (Opening o ∷ rest) opens leads =
    let same : start ≡ o = cc (opens.1) in
    subst (λ m. machine.Runs m (calls_on rest) end) (sym same) (calls_run o end rest leads)
