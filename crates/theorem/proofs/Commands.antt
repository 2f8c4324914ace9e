-- the effects of the five commands on the one-thread object
use Rattle.std.proofs.Common.{◌≡◌, Ok, Err, ap}
use Rattle.edn.specs.declared.refusal.Refusal.{Refusal}
use Rattle.edn.specs.declared.refusal.Refusal.TheVariants.{NoSuchIndex, BadBudget}
use Rattle.linspec.specs.JudgedHistory.{IsVerdictOn}
use Rattle.linspec.specs.declared.verdict.Verdict.{Verdict}
use Rattle.machine.specs.declared.command.Command.{Command}
use Rattle.machine.specs.declared.command.Command.TheVariants.{Append, Rewind, SetModel, SetBudget, Verdict as Ask}
use Rattle.machine.specs.declared.command.Reply.TheVariants.{Verdict as Says}
use Rattle.machine.specs.Machine.{Machine, MayStep}
use Rattle.theorem.specs.Theorem.{Changes, Declines}
use Rattle.theorem.specs.Bridges.{IsOfHistory}

pub changes : (old new : Machine) (command : Command) (v : Verdict) → IsOfHistory command → MayStep old command (Ok (Says v)) new → Changes old.judged command new.judged
changes old new (Append event) v is may = (may.0, ap (λ m. m.judged) may.1)
changes old new (Rewind n) v is may = (may.0, ap (λ m. m.judged) may.1)
changes old new (SetModel key kind) v is may = ap (λ m. m.judged) may.0
changes old new (SetBudget key n) v is may = (may.0, ap (λ m. m.judged) may.1)
changes old new Ask v is may = ap (λ m. m.judged) may.0
changes old new _ v is may = absurd is

pub said : (old new : Machine) (command : Command) (v : Verdict) → IsOfHistory command → MayStep old command (Ok (Says v)) new → IsVerdictOn new.judged v
said old new (Append event) v is may = may.2
said old new (Rewind n) v is may = may.2
said old new (SetModel key kind) v is may = may.1
said old new (SetBudget key n) v is may = may.2
said old new Ask v is may = may.1
said old new _ v is may = absurd is

pub declines : (old new : Machine) (command : Command) (why : Refusal) → IsOfHistory command → MayStep old command (Err why) new → Declines old.judged command why × (new ≡ old)
declines old new (Append event) why is may = (may.0, may.1)
declines old new (Rewind n) NoSuchIndex is may = (may.0, may.1)
declines old new (Rewind n) _ is may = absurd may.0
declines old new (SetModel key kind) why is may = absurd may.0
declines old new (SetBudget key n) BadBudget is may = (may.0, may.1)
declines old new (SetBudget key n) _ is may = absurd may.0
declines old new Ask why is may = absurd may.0
declines old new _ why is may = absurd is
