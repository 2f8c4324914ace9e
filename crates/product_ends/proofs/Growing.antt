-- products that grow, and the steps for it
use Rattle.std.proofs.Common.{rules, ◌≡◌, ℕ, Bool, true, ◌+◌, ◌-◌, ◌*◌, ◌≤◌, List, [], length, get_or, refl, sym, ap, ◌∙◌, subst, arith}
use Rattle.std.proofs.lemmas.Bool.{true≢false}
use Rattle.models.specs.declared.operation.Op.{Op}
use Rattle.models.specs.declared.finding.Found.{Found}
use Rattle.moves.specs.declared.pending_op.PendingOp.{PendingOp}
use Rattle.moves.specs.declared.table.Table.{Table}
use Rattle.moves.specs.Tables.{OnlyTries}
use Rattle.moves.proofs.Showing.{tries_on}
use Rattle.products.specs.Products.{AreApart, Family, IsIn, IsInOne, Product, rows_in}
use Rattle.product_ends.specs.declared.workspace.Work.{Work}
use Rattle.product_ends.specs.Transitions.{AreSound, HasOneOutcome, IsTried, TriesAtMost}
use Rattle.product_ends.specs.Growing.{AreGrown, Gains, HasSource, IsPaid, KeepsSource, LosesNoRow, MayGrow}
use Rattle.product_ends.proofs.Counting.{cost_first, cost_rest, cost_within, paid_then}

-- products that got rows
gains_then : (from next : ℕ) (old mid new : List Product) → from ≤ next → Gains from old mid → Gains next mid new → Gains from old new
gains_then from next old mid new le a b = record {
  front = λ at lt within. let longer = a.long in b.front at (omega (arith, lt, le)) (omega (arith, within, longer)) ∙ a.front at lt within;
  long = (let x = a.long in let y = b.long in omega (arith, x, y));
  kept = λ row is. b.kept row (a.kept row is);
}

-- products that were put with others, and then more
module _ {S : Type 0} {apply : Op → S → List (S × Found)} {t u : Table S} {calls : List PendingOp} {from next budget : ℕ} {old : List Product} {mid new : Work S} {a b c : ℕ} {all told : Bool} where
  pub grown_on : AreGrown apply t calls from budget old mid a b true → AreGrown apply u calls next budget mid.all.1 new b c all → all ≡ told → from ≤ next → AreGrown apply u calls from budget old new a c told
  grown_on one more same le = record {
    known = more.known;
    gains = gains_then from next old mid.all.1 new.all.1 le one.gains more.gains;
    paid = paid_then (length calls) a b c old mid.all.1 new.all.1 one.paid more.paid;
    within = λ is. more.within (same ∙ is);
    over = λ is. more.over (same ∙ is);
  }

module _ {S : Type 0} {apply : Op → S → List (S × Found)} {t : Table S} {calls : List PendingOp} {budget : ℕ} where
  pub grown_told : {from : ℕ} {old : List Product} {w : Work S} {a b : ℕ} {all told : Bool} → AreGrown apply t calls from budget old w a b all → all ≡ told → AreGrown apply t calls from budget old w a b told
  grown_told {from = from} {old = old} {w = w} {a = a} {b = b} grown same = subst (AreGrown apply t calls from budget old w a b) same grown

  -- where they are no more than the budget, they may grow on
  pub may_grow : {from : ℕ} {old : List Product} {w : Work S} {a b : ℕ} → HasOneOutcome apply → AreGrown apply t calls from budget old w a b true → MayGrow apply t calls budget w
  may_grow single grown = record { single = single; known = grown.known; few = grown.within refl }

  -- whatever the source is
  pub may_grow_by : (w v : Work S) → v.transitions ≡ w.transitions → v.all ≡ w.all → MayGrow apply t calls budget w → MayGrow apply t calls budget v
  may_grow_by w v transitions all may = record {
    single = may.single;
    known = record {
      sound = subst (AreSound apply t calls) (sym transitions) may.known.sound;
      tried = λ row is. subst (λ d. IsTried d (get_or row 0 0)) (sym transitions) (may.known.tried row (subst (λ (f : Family). IsInOne f.1 row) all is));
      apart = subst (λ (f : Family). AreApart f.1) (sym all) may.known.apart;
    };
    few = subst (λ (f : Family). length (rows_in f.1) ≤ budget) (sym all) may.few;
  }

-- no product is put, but calls may be tried
module _ {S : Type 0} {apply : Op → S → List (S × Found)} {t u : Table S} {calls : List PendingOp} {budget : ℕ} where
  pub grown_tried : (from a b : ℕ) (w v : Work S) → v.all ≡ w.all → AreSound apply u calls v.transitions → ((n : ℕ) → IsTried w.transitions n → IsTried v.transitions n) → b ≡ a → MayGrow apply t calls budget w
      → AreGrown apply u calls from budget w.all.1 v a b true
  grown_tried from a b w v all sound tried same may = record {
    known = record {
      sound = sound;
      tried = λ row is. tried _ (may.known.tried row (subst (λ (f : Family). IsInOne f.1 row) all is));
      apart = subst (λ (f : Family). AreApart f.1) (sym all) may.known.apart;
    };
    gains = subst (λ (f : Family). Gains from w.all.1 f.1) (sym all) (record { front = λ at before within. refl; long = omega arith; kept = λ row is. is });
    paid = subst (λ (f : Family). IsPaid (length calls) a w.all.1 b f.1) (sym all) (let few = may.few in omega (arith, same));
    within = λ _. subst (λ (f : Family). length (rows_in f.1) ≤ budget) (sym all) may.few;
    over = λ told. absurd (true≢false told);
  }

module _ {S : Type 0} {apply : Op → S → List (S × Found)} {t : Table S} {calls : List PendingOp} {budget : ℕ} where
  pub grown_still : (from a : ℕ) (w : Work S) → MayGrow apply t calls budget w → AreGrown apply t calls from budget w.all.1 w a a true
  grown_still from a w may = record {
    known = may.known;
    gains = record { front = λ at before within. refl; long = omega arith; kept = λ row is. is };
    paid = omega arith;
    within = λ _. may.few;
    over = λ told. absurd (true≢false told);
  }

-- a source that stays, while no row is lost
pub source_still : {S : Type 0} (old new : Work S) → KeepsSource old new → LosesNoRow old.all.1 new.all.1 → HasSource old → HasSource new
source_still old new keeps kept has = record {
  long = ap (λ (p : Product). length p.1) keeps.source ∙ has.long ∙ sym keeps.places;
  there = λ row is. kept row (has.there row (subst (λ p. IsIn p row) keeps.source is));
}

pub source_on : {S : Type 0} (old mid new : Work S) → KeepsSource old mid → KeepsSource mid new → KeepsSource old new
source_on old mid new one more = record { source = more.source ∙ one.source; places = more.places ∙ one.places }

-- ---- steps

pub no_steps : {S : Type 0} {t : Table S} {a : ℕ} (n : ℕ) → TriesAtMost n t t a a
no_steps n = record { tries = search rules; cost = omega arith }

module _ {S : Type 0} {apply : Op → S → List (S × Found)} {t u v : Table S} {calls : List PendingOp} {budget a b c : ℕ} {w : Work S} where
  -- one product more, after those that were paid
  pub steps_within : {from : ℕ} {old : List Product} → length (rows_in old) ≤ budget → AreGrown apply u calls from budget old w a b true → OnlyTries t u a b → TriesAtMost (length calls) u v b c
      → TriesAtMost (length calls * (budget + 1 - length (rows_in old))) t v a c
  steps_within {old = old} few grown one more = record {
    tries = tries_on one more.tries;
    cost = cost_within (length calls) budget (length (rows_in old)) (length (rows_in w.all.1)) a b c grown.paid few (grown.within refl) more.cost;
  }

  -- the same, if there were no rows
  pub steps_first : AreGrown apply u calls 0 budget [] w a b true → OnlyTries t u a b → TriesAtMost (length calls) u v b c → TriesAtMost (length calls * (budget + 1)) t v a c
  steps_first grown one more = record {
    tries = tries_on one more.tries;
    cost = cost_first (length calls) budget (length (rows_in w.all.1)) a b c (let paid = grown.paid in omega (arith, paid)) (grown.within refl) more.cost;
  }

  -- all that may come after those that were paid
  pub steps_rest : AreGrown apply u calls 0 budget [] w a b true → OnlyTries t u a b → TriesAtMost (length calls * (budget + 1 - length (rows_in w.all.1))) u v b c
      → TriesAtMost (length calls * (budget + 1)) t v a c
  steps_rest grown one more = record {
    tries = tries_on one more.tries;
    cost = cost_rest (length calls) budget (length (rows_in w.all.1)) a b c (let paid = grown.paid in omega (arith, paid)) (grown.within refl) more.cost;
  }
