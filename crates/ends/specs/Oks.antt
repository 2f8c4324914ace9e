-- Invariant: the tests of an ok, its effect on rows, and the rows that it leaves
use Rattle.std.specs.Prelude.{◌≤◌, ◌≡◌, ◌≢◌, ◌↔◌, ℕ, ◌+◌, Bool, true, false, Some, List, [], length, take, slice_get, get_or, Result, IfOk, OnOk, ◌*◌}
use Rattle.std.specs.List.{Contains, filter}
use Rattle.std.specs.declared.alloc.AllocError.{AllocError}
use Rattle.models.specs.declared.finding.Answer.{Answer}
use Rattle.models.specs.declared.finding.Found.{Found}
use Rattle.models.specs.Objects.{Object, Fits}
use Rattle.events.specs.Events.{IsPrefixOf}
use Rattle.linspec.specs.Orders.{Pairwise}
use Rattle.linspec.specs.Ends.{End}
use Rattle.moves.specs.declared.pending_op.PendingOp.{PendingOp}
use Rattle.ends.specs.declared.returning.Returning.{Returning}
use Rattle.moves.specs.declared.table.Table.{Table}
use Rattle.moves.specs.Tables.{AreShown, HasEachOnce, Shows, ShownWith, row_led, rows_of}
use Rattle.moves.specs.EndSteps.{Next, IsReached, Adds, Along, AreClosed, Grows, ReachesMoreThan, Settles, is_other}

-- rows may be put behind those of the table, which stay, and nothing else changes
pub record OnlyPuts {S : Type 0} (old new : Table S) : Type 0 where
  pub states : new.states ≡ old.states
  pub founds : new.founds ≡ old.founds
  pub front : IsPrefixOf (rows_of old) (rows_of new)

-- the rows with the numbers of each target stand behind the others, if they are to say ends
abbrev pub PutsLed : {S : Type 0} → Table S → Table S → List ℕ → ℕ → List (ℕ × ℕ) → Result (Unit {0}) AllocError → Type 0
PutsLed {S} old new row place targets result =
    (calls : List PendingOp) (ends : List (End S)) → AreShown old calls ends
    → ((to : ℕ × ℕ) → Contains targets to → (f : End S) × Shows old calls (row_led row place to) f)
    → OnOk result (ShownWith new calls ends (Along (λ to f. Shows old calls (row_led row place to) f) targets))

-- the rows say these ends and more that calls lead to; all of them if the flag is true
pub record ShownGrown (o : Object) (t : Table o.State) (calls : List PendingOp)
    (ends : List (End o.State)) (all : Bool) : Type 0 where
  pub more : List (End o.State)
  pub shown : AreShown t calls more
  pub grows : Grows o calls ends more
  pub closed : all ≡ true → (e f : End o.State) → Contains more e → Next o calls e f
      → Contains more f

-- the marks of the numbers that a row may have at the place of an open operation. Zero, with which it is not in, has none, and each other
-- number has one if its answer fits
pub record AreMarksOf (answer : Answer) (founds : List Found) (marks : List Bool) : Type 0 where
  pub none : get_or marks 0 false ≡ false
  pub each : (at : ℕ) (found : Found) → slice_get founds at ≡ Some found
      → (get_or marks (at + 1) false ≡ true) ↔ Fits found answer

-- the question of an ok: the calls, the number of tried ones among the first, the greatest number of ends just before it, the operation and
-- its answer
pub record Asked : Type 0 where
  pub calls : List PendingOp
  pub tried : ℕ
  pub budget : ℕ
  pub id : ℕ
  pub answer : Answer

abbrev pub asked_by : Returning → Asked
asked_by returning = record {
  calls = returning.calls.now;
  tried = returning.tried;
  budget = returning.budget;
  id = returning.id;
  answer = returning.answer.now;
}

-- the rows say what an ok leaves of these ends
abbrev pub IsLeft : {S : Type 0} → Table S → Asked → List (End S) → Type 0
IsLeft t ok ends =
    ShownWith t (filter (is_other ok.id) ok.calls) []
    (Along (Settles ok.id ok.answer) ends)

-- the rows say what an ok leaves of all ends that the calls lead to from these
pub record IsAdvanced (o : Object) (t : Table o.State) (ok : Asked) (ends : List (End o.State)) : Type 0 where
  pub all : List (End o.State)
  pub adds : Adds (IsReached o ok.calls ends) ends all
  pub within : length all ≤ ok.budget
  pub left : IsLeft t ok all

-- if the result is false, the ends of the table, each there once, and those that the calls lead to are more than the budget. The calls that
-- were tried lead from these ends to no others
abbrev pub ReachesOver : (o : Object) → Table o.State → Asked → Result Bool AllocError → Type 0
ReachesOver o t ok result =
    let calls = ok.calls in
    HasEachOnce calls → (ends : List (End o.State)) → Pairwise (λ d e. d ≢ e) ends
    → AreShown t calls ends → AreClosed o (take ok.tried calls) ends
    → IfOk result (λ within_budget. within_budget ≡ false → ReachesMoreThan o calls ends ok.budget)

-- the result of an ok, if the tried calls lead from the ends of the table `t` to no others. Either the table `left` has the ends that the
-- ok leaves of all ends that the calls lead to, or all ends are more than the budget. The second is reported only if the ends of `t` are
-- there once each
pub record FindsLeft (o : Object) (t left : Table o.State) (ok : Asked) (result : Result Bool AllocError) : Type 0 where
  pub all : let calls = ok.calls in
      HasEachOnce calls → (ends : List (End o.State)) → AreShown t calls ends
      → AreClosed o (take ok.tried calls) ends
      → IfOk result (λ within_budget. within_budget ≡ true → IsAdvanced o left ok ends)
  pub over : ReachesOver o t ok result

-- an ok makes no more steps than these: for each call one on each of as many ends as the budget, and one more
abbrev pub most_steps : Asked → ℕ
most_steps ok = (ok.budget + 1) * length ok.calls
