-- A step raises no false alarm
use Rattle.std.proofs.Common.{◌≡◌, Result, Ok, Err, List, [], ◌∷◌, ◌++◌, refl, sym, subst}
use Rattle.edn.specs.declared.refusal.Refusal.{Refusal}
use Rattle.events.specs.Events.{marks}
use Rattle.linspec.specs.Orders.{IsLinearizable, product}
use Rattle.test_store.specs.declared.outcome.Mode.TheVariants.{Strict}
use Rattle.test_store.specs.Store.{IsCount}
use Rattle.linspec.specs.JudgedHistory.{kind_of, entries_in}
use Rattle.machine.specs.declared.command.Command.{Command}
use Rattle.machine.specs.declared.command.Reply.{Reply}
use Rattle.machine.specs.Machine.{Machine, Setup, opening, MayStep, Runs, AreOfTrial}
use Rattle.harness.specs.CoreView.{CoreView, MayCarryOut}

abbrev pub Outcome : Type 0
Outcome = Result Reply Refusal

runs_on : (m mid end : Machine) (run : List (Command × Outcome)) (x : Command × Outcome) → Runs m run mid → MayStep mid x.0 x.1 end → Runs m (run ++ x ∷ []) end
runs_on m mid end [] x is step = (end, subst (λ (s : Machine). MayStep s x.0 x.1 end) (sym is) step, refl)
runs_on m mid end (y ∷ run) x r step = (r.0, r.1, runs_on r.0 mid end run x r.2 step)

front : (run : List (Command × Outcome)) (x : Command × Outcome) → AreOfTrial (run ++ x ∷ []) → AreOfTrial run
front [] x h = tt
front (y ∷ run) x h = (h.0, front run x h.1)

abbrev pub NoAlarm : Machine → Type 0
NoAlarm m = IsLinearizable (product (kind_of m.judged)) (marks (entries_in m.judged))

abbrev pub Law : Type 0
Law = (setup : Setup) (run : List (Command × Outcome)) (m : Machine) → setup.mode ≡ Strict → IsCount setup.replicas → AreOfTrial run → Runs (opening setup) run m → NoAlarm m

-- a command that is carried out so raises no false alarm
pub no_alarm : (law : Law) (old : Machine) (new : CoreView) (command : Command) (result : Outcome) → MayCarryOut old command result new
    → (setup : Setup) (run : List (Command × Outcome)) → setup.mode ≡ Strict → IsCount setup.replicas → AreOfTrial (run ++ (command, result) ∷ []) → Runs (opening setup) run old → NoAlarm new.machine
no_alarm law old new command (Ok reply) done setup run strict count ok runs =
    subst (λ (x : CoreView). NoAlarm x.machine) (sym done.2)
    (law setup (run ++ (command, Ok reply) ∷ []) done.0 strict count ok (runs_on (opening setup) old done.0 run (command, Ok reply) runs done.1))
no_alarm law old new command (Err why) done setup run strict count ok runs =
    subst (λ (x : CoreView). NoAlarm x.machine) (sym done.1) (law setup run old strict count (front run (command, Err why) ok) runs)
