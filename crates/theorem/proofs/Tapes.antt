-- the replies on a tape
use Rattle.std.proofs.Common.{[], ◌∷◌, Ok, sym, subst}
use mathlib.Core.List.{IsPrefix}
use Rattle.linspec.specs.declared.verdict.Verdict.{Verdict}
use Rattle.linspec.specs.JudgedHistory.{IsVerdictOn}
use Rattle.machine.specs.declared.command.Command.{Command}
use Rattle.machine.specs.declared.command.Command.TheVariants.{Append, Rewind, SetModel, SetBudget, Verdict as Ask, Finish}
use Rattle.machine.specs.declared.command.Reply.TheVariants.{Verdict as Says}
use Rattle.machine.specs.Machine.{Machine, Setup, MayStep, opening}
use Rattle.machine.proofs.Pushes.{no_history}
use Rattle.machine.proofs.HistoryKept.{history_step}
use Rattle.board.specs.declared.tape.TapeEntry.TheVariants.{Opening, Call}
use Rattle.board.specs.Tape.{Runs, Leads}
use Rattle.board.specs.CoreTape.{CoreReply, CoreTape, LeadsTo, opening_tape}
use Rattle.theorem.specs.Bridges.{SaysRight, StepsRight, IsRightTape}
use Rattle.theorem.proofs.Verdicts.{right}
use Rattle.theorem.proofs.Lines.{HasHistory}

-- each verdict that a command is answered by is the one from scratch
says : (old new : Machine) (command : Command) (v : Verdict) → MayStep old command (Ok (Says v)) new → IsVerdictOn new.judged v
says old new (Append event) v may = may.2
says old new (Rewind n) v may = may.2
says old new (SetModel key kind) v may = may.1
says old new (SetBudget key n) v may = may.2
says old new Ask v may = may.1
says old new (Finish number) v may = may.1
says old new _ v may = absurd may

step_right : (old new : Machine) (command : Command) (reply : CoreReply) → HasHistory new → MayStep old command reply new → SaysRight new reply
step_right old new command (Ok (Says v)) h may = right new.judged h v (says old new command v may)
step_right old new command _ h may = tt

runs_right : (old new : Machine) (rest : CoreTape) → HasHistory old → Runs MayStep old rest new → Runs StepsRight old rest new
runs_right old new [] h r = r
runs_right old new (Call seat command reply ∷ rest) h r =
    let (next, may, later) = r in
    let after : HasHistory next = history_step old next command reply may h in
    (next, (may, step_right old next command reply after may), runs_right next new rest after later)
runs_right old new (Opening m ∷ rest) h r = absurd r

runs_kept : (old new : Machine) (rest : CoreTape) → HasHistory old → Runs MayStep old rest new → HasHistory new
runs_kept old new [] h same = subst HasHistory same h
runs_kept old new (Call seat command reply ∷ rest) h r =
    let (next, may, later) = r in
    runs_kept next new rest (history_step old next command reply may h) later
runs_kept old new (Opening m ∷ rest) h r = absurd r

pub kept_tape : (setup : Setup) (tape : CoreTape) (m : Machine) → IsPrefix (opening_tape (opening setup)) tape → LeadsTo tape m → HasHistory m
kept_tape setup tape m opens leads =
    runs_kept (opening setup) m opens.0 (no_history setup.concurrency) (subst (λ t. Leads MayStep t m) (sym opens.1) leads)

pub right_tape : (setup : Setup) (tape : CoreTape) (m : Machine) → IsPrefix (opening_tape (opening setup)) tape → LeadsTo tape m → IsRightTape tape m
right_tape setup tape m opens leads =
    subst (λ t. Leads StepsRight t m) opens.1 (runs_right (opening setup) m opens.0 (no_history setup.concurrency) (subst (λ t. Leads MayStep t m) (sym opens.1) leads))
