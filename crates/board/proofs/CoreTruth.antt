-- The verdict in the last reply of a legal tape.
use Rattle.std.proofs.Common.{◌≡◌, ℕ, List, [], ◌∷◌, ◌++◌, ◌≢◌, ap, refl, Option, Some, None, IsSome, IfSome, Result, Ok, Err, IfOk, IfErr, OnOk, OnErr, sym, subst}
use Rattle.edn.specs.declared.refusal.Refusal.{Refusal}
use Rattle.edn.specs.declared.refusal.Refusal.TheVariants.{TapeFull, NoMemory}
use Rattle.linspec.specs.declared.verdict.Verdict.{Verdict}
use Rattle.machine.specs.declared.command.Command.{Command}
use Rattle.machine.specs.declared.command.Command.TheVariants.{Append, Rewind, SetModel, SetBudget, Verdict as Ask, Draw, Serve, Finish, Nemesis}
use Rattle.machine.specs.declared.command.Reply.{Reply}
use Rattle.machine.specs.declared.command.Reply.TheVariants.{Verdict as Says, Drawn as HasDrawn, Pending as IsPending, Done as IsDone, Served, Fault as Struck}
use Rattle.machine.specs.Machine.{Machine, Replies, MayStep}
use Rattle.harness.specs.CoreView.{CoreView, at_rest, MayWantMemory}
use Rattle.board.specs.declared.tape.TapeEntry.{TapeEntry}
use Rattle.board.specs.declared.tape.TapeEntry.TheVariants.{Opening, Call}
use Rattle.board.specs.declared.seat.SeatView.{SeatView}
use Rattle.board.specs.Tape.{Runs, Leads, IsAnswered, IsRefused}
use Rattle.board.specs.CoreTape.{CoreReply, CoreTape, LeadsTo, IsVerdictOf, IsTrueOn, IsTrueAfter}

module _ {S C R : Type 0} (replies : S → C → R → S → Type 0) where
  runs_last : (s end : S) (rest : List (TapeEntry S C R)) (seat : ℕ) (c : C) (r : R) → Runs replies s (rest ++ Call seat c r ∷ []) end → (mid : S) × replies mid c r end
  runs_last s end [] seat c r run = (s, subst (λ e. replies s c r e) run.2 run.1)
  runs_last s end (Call a b d ∷ rest) seat c r run = runs_last run.0 end rest seat c r run.2
  runs_last s end (Opening o ∷ rest) seat c r run = absurd run

  -- the last reply of a legal tape is one that the object may give in some state, and leads to the tape's end
  pub leads_last : (tape : List (TapeEntry S C R)) (end : S) (seat : ℕ) (c : C) (r : R) → Leads replies (tape ++ Call seat c r ∷ []) end → (mid : S) × replies mid c r end
  leads_last [] end seat c r run = absurd run
  leads_last (Opening o ∷ rest) end seat c r run = runs_last o end rest seat c r run
  leads_last (Call a b d ∷ rest) end seat c r run = absurd run

-- a verdict that the one-thread object gives is the one from scratch
says_true : (mid end : Machine) (c : Command) (v : Verdict) → Replies mid c (Says v) end → IsVerdictOf end v
says_true mid end (Append event) v step = step.2
says_true mid end (Rewind n) v step = step.2
says_true mid end (SetModel key kind) v step = step.1
says_true mid end (SetBudget key n) v step = step.2
says_true mid end Ask v step = step.1
says_true mid end (Draw thread) v step = absurd step
says_true mid end (Serve number) v step = absurd step
says_true mid end (Finish number) v step = step.1
says_true mid end Nemesis v step = absurd step

step_true : (mid end : Machine) (c : Command) (r : CoreReply) → MayStep mid c r end → IsTrueOn end r
step_true mid end c (Ok (Says v)) step = says_true mid end c v step
step_true mid end c (Ok (HasDrawn ticket index)) step = tt
step_true mid end c (Ok IsPending) step = tt
step_true mid end c (Ok IsDone) step = tt
step_true mid end c (Ok (Served outcome)) step = tt
step_true mid end c (Ok (Struck fault index)) step = tt
step_true mid end c (Err why) step = tt

pub last_true : (tape whole : CoreTape) (end : Machine) (seat : ℕ) (c : Command) (r : CoreReply) → whole ≡ tape ++ Call seat c r ∷ [] → LeadsTo whole end → IsTrueOn end r
last_true tape whole end seat c r is leads =
    let last = leads_last MayStep tape end seat c r (subst (λ t. LeadsTo t end) is leads) in
    step_true last.0 end c r last.1

-- asking changes nothing
pub asks_same : (m : Machine) (r : Reply) (end : Machine) → MayStep m Ask (Ok r) end → end ≡ m
asks_same m (Says v) end step = step.0
asks_same m r end step = absurd step

-- after a call that is an entry, the verdict in its reply is the one from scratch at the end of the tape
pub truth : {A : Type 0} (result : Result A Refusal) (reply : A → CoreReply) (commit : A → ℕ) (news : A → CoreTape)
    (old new : SeatView Machine Command CoreReply) (command : Command)
    → IfOk result (λ a. IsAnswered MayStep old new command (reply a) (commit a) (news a))
    → IfOk result (λ a. IsTrueAfter new.tape (reply a))
truth (Ok a) reply commit news old new command is =
    (is.legal.0, is.legal.1, last_true is.entry.0 new.tape is.legal.0 old.number command (reply a) is.entry.2 is.legal.1)
truth (Err why) reply commit news old new command is = tt

-- to ask for the verdict wants no memory
asked_full : (whole : CoreTape) (old new : SeatView Machine Command CoreReply) (command : Command) (why : Refusal) → command ≡ Ask
    → IsRefused MayStep MayWantMemory whole old new command why → why ≡ TapeFull
asked_full whole old new command TapeFull is r = refl
asked_full whole old new command NoMemory is r = absurd (subst (λ c. MayWantMemory r.cause.1.0 c) is r.cause.1.2)
asked_full whole old new command why is r = absurd r.cause

pub asked : {A : Type 0} (result : Result A Refusal) (old new : SeatView Machine Command CoreReply) (command : Command) → command ≡ Ask
    → IfErr result (λ why. (whole : CoreTape) × IsRefused MayStep MayWantMemory whole old new command why)
    → IfErr result (λ why. why ≡ TapeFull)
asked (Ok a) old new command is refused = tt
asked (Err why) old new command is refused = asked_full refused.0 old new command why is refused.1

-- where memory ran out, the command may want it
pub wants : {A E : Type 0} (result : Result A E) (why : Refusal) (m : Machine) (command : Command)
    → OnErr result (why ≡ NoMemory)
    → (why ≡ NoMemory → MayWantMemory m command)
    → OnErr result (MayWantMemory m command)
wants (Ok a) why m command memory last = tt
wants (Err e) why m command memory last = last memory

-- a refusal that changes nothing is a step of the object
pub refused_ready : {E : Type 0} (old m : Machine) (next : Option Machine) (command : Command) (why : Refusal) (result : Result (CoreReply × Verdict) E)
    → m ≡ old → (why ≢ NoMemory → MayStep old command (Err why) old) → OnOk result (why ≢ NoMemory)
    → IfOk result (λ r. (r.0 ≡ Err why) × (next ≡ Some m) × IsVerdictOf m r.1)
    → IfOk result (λ r. (s : Machine) × MayStep old command r.0 s × (next ≡ Some s) × IsVerdictOf s r.1)
refused_ready old m next command why (Ok r) same may entry ready = (
  old,
  subst (λ x. MayStep old command x old) (sym ready.0) (may entry),
  subst (λ z. next ≡ Some z) same ready.1,
  subst (λ z. IsVerdictOf z r.1) same ready.2,
)
refused_ready old m next command why (Err e) same may entry ready = tt

-- the prepared change is carried out
pub brought : (was : Option Machine) (now : CoreView) → IsSome was → IfSome was (λ next. now ≡ at_rest next) → was ≡ Some now.machine
brought (Some m) now is eq = ap (λ (s : CoreView). Some s.machine) (sym eq)
brought None now is eq = absurd (cc is)
