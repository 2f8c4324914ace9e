-- the ends of the kept products, and what is known before them
use Rattle.std.proofs.Common.{◌≡◌, ◌≤◌, ℕ, List, [], length, slice_get, true, sym, ap, ◌∙◌, subst, arith}
use Rattle.std.proofs.lemmas.Bool.{true≢false}
use Rattle.std.proofs.lemmas.List.{set_past}
use Rattle.std.proofs.lemmas.Option.{none-some}
use Rattle.models.specs.declared.operation.Op.{Op}
use Rattle.models.specs.declared.finding.Found.{Found}
use Rattle.models.specs.Objects.{Object}
use Rattle.linspec.specs.Ends.{End}
use Rattle.moves.specs.declared.pending_op.PendingOp.{PendingOp}
use Rattle.moves.specs.declared.table.Table.{Table}
use Rattle.moves.specs.Tables.{AreShown, with_rows}
use Rattle.moves.proofs.Reaching.{reached_itself}
use Rattle.products.specs.Products.{Product, rows_in}
use Rattle.product_ends.specs.declared.workspace.Source.{Source}
use Rattle.product_ends.specs.declared.workspace.Work.{Work}
use Rattle.product_ends.specs.declared.target.Target.{Target}
use Rattle.product_ends.specs.Transitions.{AreStays, order_in}
use Rattle.product_ends.specs.Growing.{AreGrown, HoldReached}
use Rattle.product_ends.specs.Widening.{product_in, product_to}
use Rattle.product_ends.proofs.Saying.{end_in}

-- each row that is kept says an end that is reached
pub kept_reached : (o : Object) (t : Table o.State) (calls : List PendingOp) (kept : List Product) (ends : List (End o.State)) → AreShown (with_rows t (rows_in kept)) calls ends
    → HoldReached o t calls ends kept
kept_reached o t calls kept ends shown = record {
  states_once = shown.states_once;
  founds_once = shown.founds_once;
  each = λ row is. let e = end_in t calls kept ends shown row is in (e.0, e.1, reached_itself o calls ends e.0 e.2);
}

-- of no products
pub none_reached : (o : Object) (t : Table o.State) (calls : List PendingOp) (start : List (End o.State)) (kept products : List Product) → products ≡ []
    → HoldReached o t calls start kept → HoldReached o t calls start products
none_reached o t calls start kept products empty hold =
    subst (HoldReached o t calls start) (sym empty) (record {
      states_once = hold.states_once;
      founds_once = hold.founds_once;
      each = λ row is. absurd (none-some is.1.0 is.1.1);
    })

-- a target with no place is the source itself
pub to_itself : (source : Source) (to : Target) → to.number ≡ source.number → length source.sets.items ≤ to.place → product_to source to ≡ product_in source
to_itself source to same past = λ i. (same i, set_past source.sets.items to.place to.set past i)

-- of no calls in states, and of no products
pub grown_none : {S : Type 0} (apply : Op → S → List (S × Found)) (t : Table S) (calls : List PendingOp) (w : Work S) → ((number : ℕ) → order_in w.transitions number ≡ 0)
    → AreStays w.transitions (length calls) → w.all.1 ≡ [] → (budget steps : ℕ) → AreGrown apply t calls 0 budget [] w steps steps true
grown_none apply t calls w none stays empty budget steps = record {
  known = record {
    sound = record {
      within = λ number order is. absurd (let zero = none number in omega (arith, is, zero));
      transitions = λ number order at c transition is here got. absurd (let zero = none number in omega (arith, is, zero));
      stays = stays;
    };
    tried = λ row is. absurd (none-some is.1.0 (ap (λ l. slice_get l is.0) (sym empty) ∙ is.1.1));
    apart = λ i j row one other. absurd (none-some one.0 (ap (λ l. slice_get l i) (sym empty) ∙ one.1));
  };
  gains = record {
    front = λ at before within. absurd (omega (arith, before));
    long = omega arith;
    kept = λ row is. absurd (none-some is.1.0 is.1.1);
  };
  paid = (let l = ap (λ l. length (rows_in l)) empty in omega (arith, l));
  within = λ all. let l = ap (λ l. length (rows_in l)) empty in omega (arith, l);
  over = λ all. absurd (true≢false all);
}
