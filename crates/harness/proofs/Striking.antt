-- Which fault strikes next, and why none does
use Rattle.std.proofs.Common.{◌≡◌, ℕ, ◌<◌, ◌≤◌, ◌⊎◌, ⊎_elim, inl, inr, Bool, true, false, nat_le, if◌then◌else◌, Option, Some, None, List, [], ◌∷◌, length, refl, sym, ap, ◌∙◌, subst, arith}
use Rattle.std.specs.Prelude.{Result, Ok, Err, IfOk, OnErr}
use Rattle.events.specs.declared.event.Event.{Event}
use Rattle.events.specs.declared.event.Fault.{Fault}
use Rattle.history.specs.WellFormed.{HistoryView, HasRoom}
use Rattle.nemesis.specs.Schedules.{due_at, after_first}
use Rattle.generators.specs.declared.item.Item.TheVariants.{Fault as AFault}
use Rattle.generators.specs.declared.item.Asker.TheVariants.{Nemesis as TheNemesis}
use Rattle.generators.specs.declared.item.Drawn.TheVariants.{Op as Gets, Pending, Done}
use Rattle.generators.specs.Generators.{Generator, Each}
use Rattle.generators.specs.Sources.{SourceView}
use Rattle.test_store.specs.Store.{StoreView, MayStrike}
use Rattle.machine.specs.declared.ticket.Ticket.{Ticket}
use Rattle.monitor.specs.Monitors.{MonitorView}
use Rattle.machine.specs.declared.command.Command.TheVariants.{Nemesis}
use Rattle.machine.specs.Machine.{Machine, HasFault, HasNoFault, first_due, idle_from}
use Rattle.harness.specs.Asking.{MayGiveFault, HasFaultFor, why_full}
use Rattle.harness.specs.CoreView.{MayDecline}
use Rattle.harness.specs.SoundCore.{machine_of, moved_on}
use Rattle.harness.proofs.Showing.{Shows}
use Rattle.harness.proofs.Driving.{GivesBy, given}

pub has_room : (n : ℕ) (events : List Event) → n ≡ length events → n < 1048576 → HasRoom events
has_room n events is l = omega arith

pub no_room : (n : ℕ) (events : List Event) → n ≡ length events → 1048576 ≤ n → ¬ HasRoom events
no_room n events is l room = omega arith

due_by_test : (n : ℕ) (x : ℕ × Fault) (fault : Fault) (b : Bool) → ◌≡◌ {A = Option Fault} (if b then Some x.1 else None) (Some fault) → MayStrike n x.1 → MayStrike n fault
due_by_test n x fault true is h = (let same : x.1 ≡ fault = cc in subst (MayStrike n) same h)
due_by_test n x fault false is h = cc

-- a fault that is due may strike
pub due_strikes : (n index : ℕ) (schedule : List (ℕ × Fault)) (fault : Fault) → Each (λ x. MayStrike n x.1) schedule → due_at index schedule ≡ Some fault → MayStrike n fault
due_strikes n index [] fault h is = cc
due_strikes n index (x ∷ schedule) fault h is = due_by_test n x fault (nat_le x.0 index) is h.0

module _ (monitor : MonitorView) (source : SourceView) (schedule : List (ℕ × Fault)) (store : StoreView) (tickets : List Ticket) where
  abbrev m : Machine
  m = machine_of monitor source schedule store tickets

  -- the due fault at the length of the history that the monitor shows
  pub due_is : (index : ℕ) (o : Option Fault) → index ≡ length monitor.now.events → o ≡ due_at index schedule → first_due m ≡ o
  due_is index o is said = ap (λ (n : ℕ). due_at n schedule) (sym is) ∙ sym said

  pub next_due : (fault : Fault) → first_due m ≡ Some fault → HasFault m
  next_due fault is = (fault, record m { schedule = after_first schedule }, inl (is, refl))

  pub next_given : (history : HistoryView) (fault : Fault) (to : Generator × ℕ) → Shows monitor history → first_due m ≡ None → GivesBy source history TheNemesis (Gets (AFault fault)) to
      → HasFault m
  next_given history fault to shows none gives =
      (fault, moved_on to m, inr (none, given monitor source schedule store tickets history TheNemesis (Gets (AFault fault)) to shows gives))

  pub no_fault : (history : HistoryView) (to : Generator × ℕ) → Shows monitor history → first_due m ≡ None
      → GivesBy source history TheNemesis Pending to ⊎ GivesBy source history TheNemesis Done to → HasNoFault m
  no_fault history to shows none gives = (
    none,
    ⊎_elim (λ g. inl (moved_on to m, given monitor source schedule store tickets history TheNemesis Pending to shows g))
        (λ g. inr (moved_on to m, given monitor source schedule store tickets history TheNemesis Done to shows g)) gives,
  )

  -- where the history is full, there is no fault, or no room for one
  pub refused_full : {E : Type 0} (history : HistoryView) (r : Result (Option Fault) E) (to : Generator × ℕ) → Shows monitor history → first_due m ≡ None → ¬ HasRoom monitor.now.events
      → IfOk r (λ (drew : Option Fault). MayGiveFault source (idle_from history.concurrency history.events 0 history.concurrency) drew to)
      → OnErr r (HasFaultFor source (idle_from history.concurrency history.events 0 history.concurrency))
      → MayDecline m Nemesis (why_full r)
  refused_full history (Ok None) to shows none full gives has = no_fault history to shows none gives
  refused_full history (Ok (Some fault)) to shows none full gives has = (next_given history fault to shows none gives, full)
  refused_full history (Err e) to shows none full gives has = (next_given history has.0 has.1 shows none has.2, full)
