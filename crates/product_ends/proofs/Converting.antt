-- rows as products
use Rattle.std.proofs.Common.{◌≡◌, ◌↔◌, ◌+◌, ◌<◌, ℕ, Some, List, [], length, slice_get, get_or, refl, sym, ap, ◌∙◌, subst}
use Rattle.std.proofs.lemmas.Option.{get_or_from_slice_get, slice_get-get_or, slice_get_within}
use Rattle.linspec.specs.Ends.{End}
use Rattle.interner.proofs.Lists.{has_place, one_of, place_of}
use Rattle.moves.specs.declared.pending_op.PendingOp.{PendingOp}
use Rattle.moves.specs.declared.table.Table.{Table}
use Rattle.moves.specs.EndSteps.{Along}
use Rattle.moves.specs.Tables.{AreShown, IsThat, Shows, ShownWith, rows_of, with_rows}
use Rattle.products.specs.Products.{AreApart, IsIn, Product, Puts, rows_in}
use Rattle.products.proofs.Leaving.{AreSoFar, puts_with, so_far_more}
use Rattle.product_ends.proofs.Saying.{end_of, row_of, shown_by_products}

-- the row stands at this place of the list
abbrev pub StandsAt : List (List ℕ) → ℕ → List ℕ → Type 0
StandsAt rows at row = slice_get rows at ≡ Some row

-- one row more
pub row_more : (rows : List (List ℕ)) (at : ℕ) (row : List ℕ) (old new : List Product) (product : Product) → StandsAt rows at row → ((other : List ℕ) → IsIn product other ↔ (other ≡ row)) → Puts product 0 old new
    → AreSoFar old (StandsAt rows) at → AreSoFar new (StandsAt rows) (at + 1)
row_more rows at row old new product here is puts so_far =
    so_far_more (StandsAt rows) at old new (IsIn product) so_far (puts_with product old new puts)
    (λ other. (
      (λ h. here ∙ ap Some (sym ((is other).0 h))),
      (λ h. (is other).1 (sym (one_of row other (sym here ∙ h)))),
    ))

-- all rows
pub all_rows : {S : Type 0} (t : Table S) (products : List Product) → AreApart products → AreSoFar products (StandsAt (rows_of t)) (length (rows_of t)) → (calls : List PendingOp) (ends : List (End S)) → AreShown t calls ends
    → ShownWith (with_rows t (rows_in products)) calls [] (Along IsThat ends)
all_rows t products apart so_far calls ends shown =
    shown_by_products t calls shown.states_once shown.founds_once products apart (Along IsThat ends)
    (λ row is.
    let p = (so_far row).0 is in
    let e = end_of t calls (rows_of t) ends shown row (has_place (rows_of t) p.0 row p.2) in
    (e.0, e.1, (e.0, e.2, refl)))
    (λ e p.
    let r = row_of t calls (rows_of t) ends shown p.0 p.1 in
    let q = place_of (rows_of t) r.0 r.1 in
    (r.0, (so_far r.0).1 (q.0, slice_get_within (rows_of t) q.0 r.0 q.1, q.1), subst (Shows t calls r.0) p.2 r.2))

-- the first number, by whatever is written for it
pub first_is : (row : List ℕ) (n : ℕ) → 0 < length row → n ≡ get_or row 0 n → n ≡ get_or row 0 0
first_is row n some is = is ∙ get_or_from_slice_get row 0 (get_or row 0 0) n (slice_get-get_or row 0 0 some)

-- the one row of a product, by equal parts
pub same_parts : (row other_row sets other_sets : List ℕ) (first : ℕ) → other_row ≡ row → other_sets ≡ sets → first ≡ get_or row 0 0
    → ((other : List ℕ) → IsIn (get_or other_row 0 0, sets) other ↔ (other ≡ other_row)) → (other : List ℕ) → IsIn (first, other_sets) other ↔ (other ≡ row)
same_parts row other_row sets other_sets first rows are firsts is other =
    subst (λ n. IsIn (n, other_sets) other ↔ (other ≡ row)) (sym firsts)
    (subst (λ l. IsIn (get_or row 0 0, l) other ↔ (other ≡ row)) (sym are) (subst (λ l. IsIn (get_or l 0 0, sets) other ↔ (other ≡ l)) rows (is other)))
