-- products that calls lead from to no others
use Rattle.std.proofs.Common.{◌≡◌, ⊎_elim, ℕ, ◌+◌, ◌<◌, ◌≤◌, Some, List, [], ◌∷◌, length, slice_get, sym, ◌∙◌, subst, arith}
use Rattle.std.specs.List.{Contains}
use Rattle.std.proofs.lemmas.Bool.{cases_eq}
use Rattle.std.proofs.lemmas.Option.{slice_get_within}
use Rattle.models.specs.Objects.{Object}
use Rattle.linspec.specs.Ends.{End}
use Rattle.moves.specs.declared.pending_op.PendingOp.{PendingOp}
use Rattle.moves.specs.declared.table.Table.{Table}
use Rattle.moves.specs.EndSteps.{Next, TakesLast}
use Rattle.moves.specs.Tables.{Shows, Widens}
use Rattle.moves.proofs.Reaching.{closed_has}
use Rattle.moves.proofs.Rows.{one_end}
use Rattle.interner.proofs.Lists.{one_of, place_of}
use Rattle.products.specs.Products.{IsIn, IsInAt, IsInOne, Product}
use Rattle.products.proofs.Sets.{are_in_long}
use Rattle.product_ends.specs.Growing.{AreClosedTo, Gains, HoldReached, LeadsAt, SayAll}
use Rattle.product_ends.proofs.Led.{leads_still}

module _ (from : ℕ) (old new : List Product) (gains : Gains from old new) (at : ℕ) (before : at < from) (within : at < length old) (row : List ℕ) where
  pub stood : IsInAt new at row → IsInAt old at row
  stood is = (is.0, sym (gains.front at before within) ∙ is.1, is.2)

-- the rows of the product at a place
pub in_here : (products : List Product) (at : ℕ) (product : Product) → slice_get products at ≡ Some product → (row : List ℕ) → IsInAt products at row → IsIn product row
in_here products at product there row is = subst (λ p. IsIn p row) (sym (one_of product is.0 (sym there ∙ is.1))) is.2

long_in : (product : Product) (row : List ℕ) → IsIn product row → length row ≡ length product.1 + 1
long_in product [] is = absurd is
long_in product (n ∷ rest) is = let long = are_in_long product.1 rest is.1 in omega (arith, long)

module _ (o : Object) (t u : Table o.State) (calls : List PendingOp) (ends : List (End o.State)) (wide : Widens t u) (old new : List Product) where
  -- one place more
  pub closed_more : (from n : ℕ) (product : Product) → Gains (from + 1) old new → from < length old → slice_get old from ≡ Some product
      → HoldReached o u calls ends new → ((i : ℕ) → i < n → LeadsAt o u calls new product i)
      → ((i : ℕ) → i < length calls → i < length product.1 → i < n)
      → AreClosedTo o t calls old from → AreClosedTo o u calls new (from + 1)
  closed_more from n product gains within here hold led enough closed at i c row lt there is =
      let was = stood (from + 1) old new gains at lt (omega (arith, lt, within)) row is in
      ⊎_elim
      (λ same.
      let inside : IsIn product row = in_here old from product here row (subst (λ k. IsInAt old k row) same was) in
      let says = hold.each row (at, is) in
      let long = long_in product row inside in
      let all = says.1.long in
      let less = slice_get_within calls i c there in
      led i (enough i less (omega (arith, long, all, less))) c there row inside)
      (λ other. leads_still o t u calls wide old new gains.kept c row (closed at i c row (omega (arith, lt, other)) there was))
      (cases_eq at from)

-- a closed list has all ends that are reached
module _ (o : Object) (t : Table o.State) (calls : List PendingOp) (products : List Product) (n : ℕ) (enough : length products ≤ n) (closed : AreClosedTo o t calls products n) where
  abbrev IsSaid : End o.State → Type 0
  IsSaid e = (row : List ℕ) × IsInOne products row × Shows t calls row e

  next_said : (e f : End o.State) → IsSaid e → Next o calls e f → IsSaid f
  next_said e f said next =
      let c = place_of calls next.0 next.1 in
      let there = said.1.1 in
      let lt = slice_get_within products said.1.0 there.0 there.1 in
      let leads = closed said.1.0 c.0 next.0 said.0 (omega (arith, lt, enough)) c.1 there in
      leads.2 f (subst (λ d. TakesLast o d next.0 f) (one_end t.states t.founds calls said.0 e leads.0 said.2 leads.1) next.2)

  pub all_said : (ends : List (End o.State)) → ((e : End o.State) → Contains ends e → (row : List ℕ) × IsInOne products row × Shows t calls row e)
      → SayAll o t calls ends products
  all_said ends first e reached = closed_has o calls IsSaid next_said reached.0 reached.1 e (first reached.1 reached.2) reached.3
