-- the ends that a call leads to from the rows of a product, as the rows of another one
use Rattle.std.proofs.Common.{◌≡◌, ℕ, ◌+◌, ◌<◌, Some, List, [], ◌∷◌, length, slice_get, get_or, set, refl, sym, ap, ◌∙◌, subst, arith, add-one, length-set}
use Rattle.std.proofs.lemmas.List.{get_or-set_same}
use Rattle.models.specs.declared.operation.Op.{Op}
use Rattle.models.specs.declared.finding.Found.{Found}
use Rattle.models.specs.Objects.{Object, of_table}
use Rattle.linspec.specs.Ends.{End}
use Rattle.moves.specs.declared.pending_op.PendingOp.{PendingOp}
use Rattle.moves.specs.declared.table.Table.{Table}
use Rattle.moves.specs.Tables.{HasEachOnce, Shows, Widens}
use Rattle.moves.proofs.Showing.{shows_more}
use Rattle.products.specs.Products.{AreIn, Has, IsInOne, Product}
use Rattle.products.proofs.Sets.{are_in_at, are_in_long}
use Rattle.product_ends.specs.declared.transitions.Transition.{Transition}
use Rattle.product_ends.specs.declared.transitions.Transition.TheVariants.{Nowhere, To}
use Rattle.product_ends.specs.Transitions.{IsTransition}
use Rattle.product_ends.specs.Growing.{Leads, LeadsFrom, SaysReached, SayReached}
use Rattle.product_ends.proofs.Stepping.{in_there, in_without, led_all, led_reached, led_to, none_by, put_back, zero_by}

module _ (S : Type 0) (start : S) (apply : Op → S → List (S × Found)) (t : Table S) (calls : List PendingOp) (once : HasEachOnce calls) (ends : List (End S))
    (number : ℕ) (sets : List ℕ) (at : ℕ) (within : at < length sets) (c : PendingOp) (here : slice_get calls at ≡ Some c)
    (say : SayReached (of_table S start apply) t calls ends (number, sets)) where
  abbrev object : Object
  object = of_table S start apply

  -- it is what the call does in the state with the number
  abbrev pub IsDone : Transition → Type 0
  IsDone transition = (row : List ℕ) (e : End S) → Shows t calls row e → get_or row 0 0 ≡ number → IsTransition t c (apply c.op e.state) transition

  -- the set at the place may have zero, in a row that the call leads from
  zero_there : (n : ℕ) (rest : List ℕ) → AreIn sets rest → get_or (n ∷ rest) (at + 1) 0 ≡ 0 → Has (get_or sets at 0) 0
  zero_there n rest is none =
      subst (Has (get_or sets at 0)) (sym (ap (λ k. get_or (n ∷ rest) k 0) (add-one at)) ∙ none) (are_in_at sets rest at within is)

  module _ (to found : ℕ) (transition : IsDone (To to found)) where
    -- each row of the other product says an end that is reached
    pub base_reached : Has (get_or sets at 0) 0 → SayReached object t calls ends (to, set sets at found)
    base_reached zero_in [] is = absurd is
    base_reached zero_in (n ∷ rest) is =
        let slot = get_or rest at 0 in
        let from = number ∷ set rest at 0 in
        let long = are_in_long (set sets at found) rest is.1 in
        let same = length-set sets at found in
        let says : SaysReached object t calls ends from = say from (refl, in_without sets rest at found 0 within is.1 zero_in) in
        let none : get_or from (at + 1) 0 ≡ 0 = ap (λ k. get_or from k 0) (add-one at) ∙ get_or-set_same rest at 0 0 (omega arith) in
        subst (SaysReached object t calls ends) (led_to number to at slot (set rest at 0) ∙ ap (λ l. to ∷ l) (put_back rest at 0) ∙ ap (λ m. m ∷ rest) (sym is.0))
        (led_reached S start apply t calls once from says.0 says.1 at c here to found slot (transition from says.0 says.1 refl) (in_there sets rest at found within is.1) ends says.2 none)

    -- and what the call leads to is said by its rows, which are there
    pub leads_to : (products : List Product)
        → ((rest : List ℕ) (slot : ℕ) → AreIn sets rest → Has found slot → Has (get_or sets at 0) 0 → IsInOne products (to ∷ set rest at slot))
        → LeadsFrom object t calls products (number, sets) c
    leads_to products there [] is = absurd is
    leads_to products there (n ∷ rest) is =
        let says = say (n ∷ rest) is in
        let e = says.0 in
        let d = transition (n ∷ rest) e says.1 is.0 in
        let has : Has found d.3 = (d.5 d.3).1 refl in (
          e,
          says.1,
          λ f last. (
            to ∷ set rest at d.3,
            there rest d.3 is.1 has (zero_there n rest is.1 (zero_by S start apply t calls once (n ∷ rest) e says.1 at c here f last)),
            subst (λ row. Shows t calls row f) (led_to n to at d.3 rest) (led_all S start apply t calls once (n ∷ rest) e says.1 at c here to found d.3 d has f last),
          ),
        )

  pub leads_nowhere : (products : List Product) → IsDone Nowhere → LeadsFrom object t calls products (number, sets) c
  leads_nowhere products transition [] is = absurd is
  leads_nowhere products transition (n ∷ rest) is =
      let says = say (n ∷ rest) is in
      (says.0, says.1, λ f last. absurd (none_by S start apply t calls once (n ∷ rest) says.0 says.1 at c here f last (transition (n ∷ rest) says.0 says.1 is.0)))

  -- the call is in all of its ends
  pub leads_none : (products : List Product) → ¬ Has (get_or sets at 0) 0 → LeadsFrom object t calls products (number, sets) c
  leads_none products full [] is = absurd is
  leads_none products full (n ∷ rest) is =
      let says = say (n ∷ rest) is in
      (says.0, says.1, λ f last. absurd (full (zero_there n rest is.1 (zero_by S start apply t calls once (n ∷ rest) says.0 says.1 at c here f last))))

-- a table that widens, and products that have more rows
module _ (o : Object) (t u : Table o.State) (calls : List PendingOp) (wide : Widens t u) (old new : List Product) (kept : (row : List ℕ) → IsInOne old row → IsInOne new row) where
  pub leads_still : (c : PendingOp) (row : List ℕ) → Leads o t calls old c row → Leads o u calls new c row
  leads_still c row leads = (
    leads.0,
    shows_more calls t u row leads.0 wide leads.1,
    λ f last.
        let next = leads.2 f last in
        (next.0, kept next.0 next.1, shows_more calls t u next.0 f wide next.2),
  )
