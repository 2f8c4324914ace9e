-- all ends that are reached, by products whose rows say them
use Rattle.std.proofs.Common.{◌≢◌, inr, ⊎_elim, ℕ, ◌<◌, ◌≤◌, List, [], length, arith}
use Rattle.models.specs.declared.finding.Answer.{Answer}
use Rattle.models.specs.Objects.{Object}
use Rattle.linspec.specs.Ends.{End}
use Rattle.linspec.specs.Orders.{Pairwise}
use Rattle.linspec.proofs.Lists.{Contains-nil}
use Rattle.moves.specs.declared.pending_op.PendingOp.{PendingOp}
use Rattle.moves.specs.declared.table.Table.{Table}
use Rattle.moves.specs.EndSteps.{Along, AreClosed, IsReached, ReachesMoreThan, Settles, is_other}
use Rattle.moves.specs.Tables.{AreShown, Shows, ShownWith, rows_of, with_rows}
use Rattle.ends.specs.Oks.{Asked, IsAdvanced}
use Rattle.ends.proofs.Growing.{Grows-itself, grown_all}
use Rattle.moves.proofs.Reaching.{reached_itself}
use Rattle.std.specs.List.{filter}
use Rattle.products.specs.Products.{AreApart, IsInOne, Product, rows_in}
use Rattle.product_ends.specs.Growing.{HoldReached}
use Rattle.product_ends.proofs.Saying.{shown_by_products}

-- the question of an ok
abbrev pub asked : List PendingOp → ℕ → ℕ → ℕ → Answer → Asked
asked calls tried budget id answer = record { calls = calls; tried = tried; budget = budget; id = id; answer = answer }

-- rows of products without a row in common say as many ends
module _ (o : Object) (t : Table o.State) (calls : List PendingOp) (ends : List (End o.State)) (products : List Product) (apart : AreApart products) (hold : HoldReached o t calls ends products) where
  abbrev IsSaidReached : End o.State → Type 0
  IsSaidReached e = ((row : List ℕ) × IsInOne products row × Shows t calls row e) × IsReached o calls ends e

  said : ShownWith (with_rows t (rows_in products)) calls [] IsSaidReached
  said = shown_by_products t calls hold.states_once hold.founds_once products apart IsSaidReached
      (λ row is. let says = hold.each row is in (says.0, says.1, ((row, is, says.1), says.2)))
      (λ e is. is.0)

  pub more_reached : (budget : ℕ) → budget < length (rows_in products) → ReachesMoreThan o calls ends budget
  more_reached budget over = record {
    more = said.more;
    reached = λ e h. ⊎_elim (λ k. absurd (Contains-nil e k)) (λ is. is.1) ((said.adds.each e).0 h);
    once = said.adds.once tt;
    many = (let long = said.shown.long in omega (arith, long, over));
  }

  module _ (all : (e : End o.State) → IsReached o calls ends e → (row : List ℕ) × IsInOne products row × Shows t calls row e) where
    reached : ShownWith (with_rows t (rows_in products)) calls [] (IsReached o calls ends)
    reached = shown_by_products t calls hold.states_once hold.founds_once products apart (IsReached o calls ends) hold.each all

    -- the ends that an ok leaves of them
    pub advanced : (tried budget id : ℕ) (answer : Answer) (rows : List (List ℕ)) → length (rows_in products) ≤ budget
        → ((list : List (End o.State)) → AreShown (with_rows t (rows_in products)) calls list → ShownWith (with_rows t rows) (filter (is_other id) calls) [] (Along (Settles id answer) list))
        → IsAdvanced o (with_rows t rows) (asked calls tried budget id answer) ends
    advanced tried budget id answer rows few left = record {
      all = reached.more;
      adds = record {
        each = λ e. (
          (λ h. ⊎_elim (λ k. absurd (Contains-nil e k)) (λ is. inr is) ((reached.adds.each e).0 h)),
          (λ h. (reached.adds.each e).1 (inr (⊎_elim (reached_itself o calls ends e) (λ is. is) h))),
        );
        once = λ _. reached.adds.once tt;
      };
      within = (let long = reached.shown.long in omega (arith, long, few));
      left = left reached.more reached.shown;
    }

-- ends that are kept, and from which the calls lead to no others
module _ (o : Object) (t : Table o.State) (calls : List PendingOp) (ends : List (End o.State)) (shown : AreShown t calls ends) where
  pub kept_beyond : (budget : ℕ) → budget < length (rows_of t) → Pairwise (λ d e. d ≢ e) ends → ReachesMoreThan o calls ends budget
  kept_beyond budget over apart = record {
    more = ends;
    reached = reached_itself o calls ends;
    once = apart;
    many = (let long = shown.long in omega (arith, long, over));
  }

  -- the ends that an ok leaves of them
  pub kept_advanced : AreClosed o calls ends → (tried budget id : ℕ) (answer : Answer) (rows : List (List ℕ)) → length (rows_of t) ≤ budget
      → ShownWith (with_rows t rows) (filter (is_other id) calls) [] (Along (Settles id answer) ends)
      → IsAdvanced o (with_rows t rows) (asked calls tried budget id answer) ends
  kept_advanced closed tried budget id answer rows few left = record {
    all = ends;
    adds = grown_all o calls ends ends (Grows-itself o calls ends) closed;
    within = (let long = shown.long in omega (arith, long, few));
    left = left;
  }
