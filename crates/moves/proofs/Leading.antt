-- the ends that a call leads to from the end of a row
use Rattle.std.proofs.Common.{◌≡◌, ◌+◌, ℕ, false, refl, List, [], sym, ap, subst, slice_get, Some}
use Rattle.models.specs.declared.operation.Op.{Op}
use Rattle.linspec.proofs.Lists.{Contains-nil}
use Rattle.models.specs.declared.finding.Found.{Found}
use Rattle.models.specs.Objects.{IsOneOf, of_table}
use Rattle.linspec.specs.Ends.{End}
use Rattle.moves.specs.declared.pending_op.PendingOp.{PendingOp}
use Rattle.moves.specs.declared.table.Table.{Table}
use Rattle.moves.specs.EndSteps.{TakesLast, is_in, with_call}
use Rattle.moves.specs.Moves.{AreTo}
use Rattle.moves.specs.Tables.{AreLed, HasEachOnce, Shows, row_led}
use Rattle.moves.proofs.Rows.{says_with, with_state}

module _ (S : Type 0) (start : S) (apply : Op → S → List (S × Found)) (e : End S) (c : PendingOp) (not_in : is_in e c.id c.crashed ≡ false) where
  pub takes : (s : S) (found : Found) → IsOneOf {X = S × Found} (apply c.op e.state) (s, found) → TakesLast (of_table S start apply) e c (with_call e c.id c.crashed found s)
  takes s found listed = record {
    not_in = not_in;
    found = found;
    step = subst (λ t. IsOneOf {X = S × Found} (apply c.op e.state) (t, found)) (sym (with_state e c.id c.crashed found s)) listed;
    made = ap (with_call e c.id c.crashed found) (sym (with_state e c.id c.crashed found s));
  }

  pub are_led : (t : Table S) (calls : List PendingOp) (row : List ℕ) (at : ℕ) (targets : List (ℕ × ℕ)) → HasEachOnce calls → slice_get calls at ≡ Some c → Shows t calls row e
      → AreTo t c.crashed (apply c.op e.state) targets → AreLed (of_table S start apply) t calls row at e c targets
  are_led t calls row at targets once here shows are = record {
    each = λ to h.
        let o = are.each to h in
        (with_call e c.id c.crashed o.0.1 o.0.0, takes o.0.0 o.0.1 o.1, says_with t.states t.founds calls once at c here e row shows to.0 to.1 o.0.0 o.0.1 (row_led row (at + 1) to) o.2.0 o.2.1 refl);
    all = λ f last.
        let x = are.all (f.state, last.found) last.step in
        (x.0, x.1, subst (λ g. Shows t calls (row_led row (at + 1) x.0) g) (sym last.made) (says_with t.states t.founds calls once at c here e row shows x.0.0 x.0.1 f.state last.found (row_led row (at + 1) x.0) x.2.0 x.2.1 refl));
  }

-- a call that has no outcome
pub led_nowhere : (S : Type 0) (start : S) (apply : Op → S → List (S × Found)) (e : End S) (c : PendingOp) (t : Table S) (calls : List PendingOp) (row : List ℕ) (at : ℕ) → AreTo t c.crashed (apply c.op e.state) []
    → AreLed (of_table S start apply) t calls row at e c []
led_nowhere S start apply e c t calls row at are = record {
  each = λ to h. absurd (Contains-nil to h);
  all = λ f last. let x = are.all (f.state, last.found) last.step in absurd (Contains-nil x.0 x.1);
}
