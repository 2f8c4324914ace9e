-- What commit brings
use Rattle.std.proofs.Common.{◌≡◌, ℕ, zero, suc, ◌<◌, Option, Some, None, IfSome, IsSome, option_map, List, [], ◌∷◌, length, get_or, slice_get, refl, sym, ap, ◌∙◌, subst, arith}
use Rattle.std.proofs.Math.ListN.{set}
use Rattle.std.specs.declared.boxed.Box.{Box}
use Rattle.std.specs.Global.{Global}
use Rattle.events.specs.declared.event.Fault.{Fault}
use Rattle.generators.specs.Sources.{SourceView}
use Rattle.test_store.specs.declared.outcome.Outcome.{Outcome}
use Rattle.test_store.specs.Store.{Cluster, StoreView}
use Rattle.test_store.specs.Store.{at_rest as store_at_rest}
use Rattle.machine.specs.declared.ticket.Ticket.{Ticket}
use Rattle.machine.specs.Trials.{served_as}
use Rattle.monitor.specs.Monitors.{MonitorView}
use Rattle.machine.specs.Machine.{Machine}
use Rattle.harness.specs.declared.change.Change.{Change}
use Rattle.harness.specs.declared.change.Change.TheVariants.{Nothing, Serve as Serving}
use Rattle.harness.specs.CoreView.{CoreView, at_rest}
use Rattle.harness.specs.SoundCore.{machine_of, served_at, with_outcome, next_of, IsSoundMachine, IsSoundCore}
use Rattle.harness.proofs.Preparing.{seen}

-- the machine is then what the prepared change led to
pub brings : {X : Type 0} (o : Option X) (f : X → Machine) (new : CoreView) → ((x : X) → o ≡ Some x → new ≡ at_rest (f x)) → IfSome (option_map f o) (λ next. new ≡ at_rest next)
brings None f new k = tt
brings (Some x) f new k = k x refl

pub store_done : (store store' : StoreView) (s : Cluster) → IfSome store.next (λ (next : Cluster). store' ≡ store_at_rest next) → store.next ≡ Some s → store' ≡ store_at_rest s
store_done store store' s done is = subst (λ (o : Option Cluster). IfSome o (λ (next : Cluster). store' ≡ store_at_rest next)) is done

module _ (monitor monitor' : MonitorView) (source source' : SourceView) (schedule schedule' : List (ℕ × Fault)) (store store' : StoreView) (tickets tickets' : List Ticket) (change : Change) where
  abbrev old : Machine
  old = machine_of monitor source schedule store tickets

  abbrev Brings : CoreView → Type 0
  Brings new = IfSome (next_of monitor source store old change) (λ (next : Machine). new ≡ at_rest next)

  to_change : (other : Change) (new : CoreView) → change ≡ other → IfSome (next_of monitor source store old other) (λ (next : Machine). new ≡ at_rest next) → Brings new
  to_change other new is h = subst (λ (x : Change). IfSome (next_of monitor source store old x) (λ (next : Machine). new ≡ at_rest next)) (sym is) h

  pub serve_done : (number : ℕ) (outcome : Box Outcome Global) → change ≡ Serving number outcome → IfSome store.next (λ (next : Cluster). store' ≡ store_at_rest next) → tickets' ≡ with_outcome number outcome.value tickets → Brings (seen monitor source schedule store' tickets' Nothing)
  serve_done number outcome is done noted = to_change (Serving number outcome) (seen monitor source schedule store' tickets' Nothing) is
      (brings store.next (λ after. record old { store = after; tickets = with_outcome number outcome.value tickets }) (seen monitor source schedule store' tickets' Nothing)
      (λ s e. ap (λ (x : StoreView). seen monitor source schedule x tickets' Nothing) (store_done store store' s done e)
      ∙ ap (λ (l : List Ticket). seen monitor source schedule (store_at_rest s) l Nothing) noted))

-- and it is sound
pub sound_done : (next : Option Machine) (new : CoreView) (room : ℕ) → IsSome next → IfSome next IsSoundMachine → IfSome next (λ (n : Machine). new ≡ at_rest n) → IsSoundCore new.machine None room Nothing
sound_done None new room some sound is = absurd (cc some)
sound_done (Some n) new room some sound is = record { now = subst (λ (x : CoreView). IsSoundMachine x.machine) (sym is) sound; then = tt; ready = tt }

at_place : (tickets : List Ticket) (number : ℕ) (t : Ticket) → number < length tickets → t ≡ get_or tickets number t → slice_get tickets number ≡ Some t
at_place [] number t l is = (let none : ⊥ = omega (arith, l) in absurd none)
at_place (u ∷ tickets) zero t l is = ap (λ (x : Ticket). Some x) (sym is)
at_place (u ∷ tickets) (suc number) t l is = at_place tickets number t (omega (arith, l)) is

-- the outcome is noted with the ticket
pub noted : (tickets : List Ticket) (number : ℕ) (outcome : Outcome) (t after : Ticket) → number < length tickets → t ≡ get_or tickets number t → after ≡ served_as outcome t → set tickets number after ≡ with_outcome number outcome tickets
noted tickets number outcome t after l is served =
    ap (λ (x : Ticket). set tickets number x) served
    ∙ ap (λ (o : Option Ticket). served_at number outcome o tickets) (sym (at_place tickets number t l is))

-- the same if the change was taken out, so that nothing is prepared any more
pub serve_brings : (monitor : MonitorView) (source : SourceView) (schedule : List (ℕ × Fault)) (store store' : StoreView) (tickets tickets' : List Ticket) (change left : Change) (number : ℕ) (outcome : Box Outcome Global) → change ≡ Serving number outcome → left ≡ Nothing
    → IfSome store.next (λ (next : Cluster). store' ≡ store_at_rest next) → tickets' ≡ with_outcome number outcome.value tickets
    → IfSome (next_of monitor source store (machine_of monitor source schedule store tickets) change) (λ (next : Machine). seen monitor source schedule store' tickets' left ≡ at_rest next)
serve_brings monitor source schedule store store' tickets tickets' change left number outcome is nothing done same =
    subst (λ (x : Change). IfSome (next_of monitor source store (machine_of monitor source schedule store tickets) change) (λ (next : Machine). seen monitor source schedule store' tickets' x ≡ at_rest next)) (sym nothing)
    (serve_done monitor monitor source source schedule schedule store store' tickets tickets' change number outcome is done same)

pub serve_sound : (monitor : MonitorView) (source : SourceView) (schedule : List (ℕ × Fault)) (store store' : StoreView) (tickets tickets' : List Ticket) (change left : Change) (number : ℕ) (outcome : Box Outcome Global) (room : ℕ) → change ≡ Serving number outcome → left ≡ Nothing
    → IfSome store.next (λ (next : Cluster). store' ≡ store_at_rest next) → tickets' ≡ with_outcome number outcome.value tickets
    → IsSome (next_of monitor source store (machine_of monitor source schedule store tickets) change)
    → IfSome (next_of monitor source store (machine_of monitor source schedule store tickets) change) IsSoundMachine
    → IsSoundCore (machine_of monitor source schedule store' tickets') (next_of monitor source store' (machine_of monitor source schedule store' tickets') left) room left
serve_sound monitor source schedule store store' tickets tickets' change left number outcome room is nothing done same some sound =
    subst (λ (x : Change). IsSoundCore (machine_of monitor source schedule store' tickets') (next_of monitor source store' (machine_of monitor source schedule store' tickets') x) room x) (sym nothing)
    (sound_done (next_of monitor source store (machine_of monitor source schedule store tickets) change) (seen monitor source schedule store' tickets' Nothing) room some sound
    (serve_done monitor monitor source source schedule schedule store store' tickets tickets' change number outcome is done same))
