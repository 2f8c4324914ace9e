-- A machine is sound at the opening, and after each step
use Rattle.std.proofs.Common.{ℕ, Result, List, [], ◌∷◌, arith}
use Rattle.edn.specs.declared.refusal.Refusal.{Refusal}
use Rattle.events.specs.declared.event.Fault.{Fault}
use Rattle.generators.specs.declared.item.Item.{Item}
use Rattle.generators.specs.declared.item.Item.TheVariants.{Op as AnOp, Fault as AFault}
use Rattle.generators.specs.Generators.{Each}
use Rattle.test_store.specs.Store.{MayStrike}
use Rattle.test_store.proofs.Versions.{opening_versions}
use Rattle.machine.specs.declared.command.Command.{Command}
use Rattle.machine.specs.declared.command.Reply.{Reply}
use Rattle.machine.specs.Machine.{Machine, Setup, opening, MayStep}
use Rattle.machine.proofs.Counting.{counted_step, few_step}
use Rattle.machine.proofs.TicketSteps.{tickets_step}
use Rattle.machine.proofs.Tickets.{none_yet}
use Rattle.harness.specs.declared.fitness.Test.TheVariants.{IsPresent, IsInTables}
use Rattle.harness.specs.Fitness.{Passes, FaultPasses}
use Rattle.harness.specs.Setups.{IsSetup}
use Rattle.harness.specs.SoundCore.{IsGood, IsSoundMachine}
use Rattle.harness.proofs.Fitting.{Fits, fits_step, all_both}

pub fits : (m : Machine) → IsSoundMachine m → Fits m
fits m s = record { count = s.count; items = s.items; faults = s.faults }

pub sound_step : (old new : Machine) (command : Command) (outcome : Result Reply Refusal) → MayStep old command outcome new → IsSoundMachine old → IsSoundMachine new
sound_step old new command outcome may s =
    (let f : Fits new = fits_step old new command outcome may (fits old s) in
    record {
      count = f.count;
      few = few_step old new command outcome may s.few;
      counted = counted_step old new command outcome may s.counted;
      stand = tickets_step old new command outcome may s.stand;
      items = f.items;
      faults = f.faults;
    })

good : (n : ℕ) (x : Item) → Passes (IsPresent n) x → Passes IsInTables x → IsGood n x
good n (AnOp op) a b = b
good n (AFault fault) a b = (b, a)

each_strikes : (n : ℕ) (xs : List (ℕ × Fault)) → Each (λ x. FaultPasses (IsPresent n) x.1) xs → Each (λ x. FaultPasses IsInTables x.1) xs → Each (λ x. MayStrike n x.1) xs
each_strikes n [] a b = tt
each_strikes n (x ∷ xs) a b = ((b.0, a.0), each_strikes n xs a.1 b.1)

pub sound_opening : (setup : Setup) → IsSetup setup → IsSoundMachine (opening setup)
sound_opening setup is = record {
  count = is.2.0;
  few = omega arith;
  counted = opening_versions setup.replicas setup.mode setup.kind;
  stand = none_yet setup.concurrency;
  items = all_both (Passes (IsPresent setup.replicas)) (Passes IsInTables) (IsGood setup.replicas) (good setup.replicas) setup.generator is.2.1.0 is.3.0;
  faults = each_strikes setup.replicas setup.schedule is.2.1.1 is.3.1;
}
