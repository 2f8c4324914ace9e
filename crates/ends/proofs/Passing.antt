-- calls that lead nowhere from an end, passed over together
use Rattle.std.proofs.Common.{◌≡◌, ℕ, ◌+◌, ◌<◌, ◌≤◌, Some, List, [], length, take, drop, zero, suc, slice_get, get_or, sym, ap, ◌∙◌, subst, arith}
use Rattle.std.proofs.lemmas.Bool.{true≢false}
use Rattle.std.proofs.lemmas.Option.{slice_get_within}
use Rattle.models.specs.declared.finding.Found.{Found}
use Rattle.models.specs.declared.operation.Op.{Op}
use Rattle.models.specs.Objects.{Object, of_table}
use Rattle.linspec.specs.Ends.{End}
use Rattle.linspec.proofs.Lists.{Contains-nil}
use Rattle.moves.specs.declared.moves.Known.{Known}
use Rattle.moves.specs.declared.moves.Move.TheVariants.{Nowhere}
use Rattle.moves.specs.declared.pending_op.PendingOp.{PendingOp}
use Rattle.moves.specs.declared.table.Table.{Table}
use Rattle.moves.specs.EndSteps.{Next, TakesLast}
use Rattle.moves.specs.Moves.{AreMoves, IsStuck}
use Rattle.moves.specs.Tables.{Shows, ShownWith}
use Rattle.interner.proofs.Lists.{some_at}
use Rattle.moves.proofs.Adding.{Adds-none, IsPrefixOf-itself}
use Rattle.moves.proofs.Leading.{led_nowhere}
use Rattle.moves.proofs.Moving.{alike_to, known_does}
use Rattle.moves.proofs.Rows.{in_unless}
use Rattle.moves.proofs.Showing.{next_there}

-- n equal calls from one place on
module _ (o : Object) (calls : List PendingOp) (e : End o.State) (ends : List (End o.State)) (from : ℕ) (t : Table o.State) where
  pub pass : (n i : ℕ) → from ≤ i → i + n ≤ length calls → ((k : ℕ) (c : PendingOp) → k < n → slice_get calls (i + k) ≡ Some c → (f : End o.State) → ¬ TakesLast o e c f)
      → ShownWith t calls ends (Next o (drop from (take i calls)) e) → ShownWith t calls ends (Next o (drop from (take (i + n) calls)) e)
  pass zero i low high none s = subst (λ k. ShownWith t calls ends (Next o (drop from (take k calls)) e)) (let same : i ≡ i + 0 = omega arith in same) s
  pass (suc n) i low high none s =
      let call = some_at calls i (omega (arith, high)) in
      let here : slice_get calls (i + 0) ≡ Some call.0 = subst (λ k. slice_get calls k ≡ Some call.0) (let same : i ≡ i + 0 = omega arith in same) call.1 in
      let nothing : ShownWith t calls s.more (TakesLast o e call.0) = record { more = s.more; shown = s.shown; front = IsPrefixOf-itself s.more; adds = Adds-none (TakesLast o e call.0) s.more (none 0 call.0 (omega arith) here) } in
      subst (λ k. ShownWith t calls ends (Next o (drop from (take k calls)) e)) (let same : i + 1 + n ≡ i + suc n = omega arith in same)
      (pass n (i + 1) (omega (arith, low)) (omega (arith, high))
      (λ k c lt there. none (suc k) c (omega (arith, lt)) (subst (λ p. slice_get calls p ≡ Some c) (let same : i + 1 + k ≡ i + suc k = omega arith in same) there))
      (next_there o calls e ends i call.0 call.1 from low t t s nothing))

-- one that is in it
pub in_already : (o : Object) (calls : List PendingOp) (t : Table o.State) (row : List ℕ) (e : End o.State) → Shows t calls row e → (at : ℕ) (c : PendingOp) → slice_get calls at ≡ Some c → ¬ (slice_get row (at + 1) ≡ Some 0) → (f : End o.State) → ¬ TakesLast o e c f
in_already o calls t row e shows at c here other f last =
    let within = slice_get_within calls at c here in
    let long = shows.long in
    true≢false (sym (in_unless t.founds e c row (at + 1) (omega (arith, within, long)) (shows.slots at c here) other) ∙ last.not_in)

-- one that is known to lead nowhere
module _ (S : Type 0) (start : S) (apply : Op → S → List (S × Found)) (calls : List PendingOp) (t : Table S) (moves : Known) (targets : List (ℕ × ℕ)) (known : AreMoves apply t calls moves targets) (row : List ℕ) (e : End S) (shows : Shows t calls row e) where
  pub stuck_there : (n at : ℕ) (c : PendingOp) → n ≡ get_or row 0 0 → slice_get calls at ≡ Some c → IsStuck calls moves n at → (f : End S) → ¬ TakesLast (of_table S start apply) e c f
  stuck_there n at c is here q f last =
      let d = q.alike c here in
      let led = led_nowhere S start apply e c t calls row at
      (alike_to t apply c d.0 e.state [] d.2 d.3 (known_does apply calls t n q.place d.0 d.1 e.state (ap (slice_get t.states) is ∙ shows.state) moves targets Nowhere known (sym q.nowhere) tt)) in
      let to = led.all f last in
      Contains-nil to.0 to.1
