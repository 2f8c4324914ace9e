-- ends that are left of products where the number of an open operation is marked
use Rattle.std.proofs.Common.{◌≡◌, ◌↔◌, ℕ, ◌+◌, ◌≤◌, Bool, true, ⊎_elim, List, [], ◌∷◌, length, refl, sym, ap, ◌∙◌, subst, arith}
use Rattle.std.specs.List.{Contains, filter, remove}
use Rattle.std.proofs.lemmas.Option.{slice_get_within}
use Rattle.rows.specs.RowSets.{is_marked}
use Rattle.rows.proofs.Elements.{Contains-nil}
use Rattle.models.specs.declared.finding.Answer.{Answer}
use Rattle.linspec.specs.Ends.{End}
use Rattle.moves.specs.declared.pending_op.PendingOp.{PendingOp}
use Rattle.moves.specs.declared.table.Table.{Table}
use Rattle.moves.specs.EndSteps.{Along, Fails, Settles, is_other, settled}
use Rattle.moves.specs.Tables.{AreShown, HasEachOnce, IsOpenAt, Shows, ShownWith, with_rows}
use Rattle.ends.specs.Oks.{AreMarksOf}
use Rattle.ends.proofs.Marking.{fits_marked, marked_fits, marked_out, out_marked}
use Rattle.ends.proofs.Settling.{says_without, settled_out}
use Rattle.moves.proofs.Showing.{shown_no_rows}
use Rattle.products.specs.Products.{AreApart, HavePlaces, IsIn, IsInOne, IsLeft, Product, rows_in}
use Rattle.products.proofs.Sets.{are_in_long}
use Rattle.product_ends.proofs.Saying.{end_in, row_in, shown_by_products}

module _ {S : Type 0} (t : Table S) (calls : List PendingOp) (id : ℕ) (products : List Product) (ends : List (End S)) (shown : AreShown (with_rows t (rows_in products)) calls ends) where
  -- each marked row leaves its end without the operation
  module _ (once : HasEachOnce calls) (at : ℕ) (here : IsOpenAt calls at id) (left : List Product) (apart : AreApart left) (marks : List Bool)
      (are_left : (row : List ℕ) → IsInOne left row ↔ IsLeft products (at + 1) marks row) where
    -- R says what an end with a marked row becomes, and of another one nothing
    module _ (R : End S → End S → Type 0) (leaves : (e : End S) (row : List ℕ) → Shows t calls row e → is_marked (at + 1) marks row ≡ true → R e (settled e id))
        (drops : (e f : End S) (row : List ℕ) → Shows t calls row e → R e f → (is_marked (at + 1) marks row ≡ true) × (settled e id ≡ f)) where
      pub shown_left : ShownWith (with_rows t (rows_in left)) (filter (is_other id) calls) [] (Along R ends)
      shown_left =
          shown_by_products t (filter (is_other id) calls) shown.states_once shown.founds_once left apart (Along R ends)
          (λ row is.
          let l = (are_left row).0 is in
          let e = end_in t calls products ends shown l.0 l.1 in (
            settled e.0 id,
            says_without t.states t.founds calls once at id here e.0 l.0 row e.1 (sym l.3),
            (e.0, e.2, leaves e.0 l.0 e.1 l.2),
          ))
          (λ f p.
          let r = row_in t calls products ends shown p.0 p.1 in
          let d = drops p.0 f r.0 r.2 p.2 in
          let row = remove r.0 (at + 1) in (
            row,
            (are_left row).1 (r.0, r.1, d.0, refl),
            subst (Shows t (filter (is_other id) calls) row) d.1 (says_without t.states t.founds calls once at id here p.0 r.0 row r.2 refl),
          ))

    pub left_settled : (answer : Answer) → AreMarksOf answer t.founds marks → ShownWith (with_rows t (rows_in left)) (filter (is_other id) calls) [] (Along (Settles id answer) ends)
    left_settled answer are =
        shown_left (Settles id answer)
        (λ e row shows is. (fits_marked t calls at id here e row shows answer marks are is, refl))
        (λ e f row shows r. (marked_fits t calls at id here e row shows answer marks are r.0, r.1))

  -- after a fail
  module _ (once : HasEachOnce calls) (at : ℕ) (here : IsOpenAt calls at id) (left : List Product) (apart : AreApart left)
      (are_left : (row : List ℕ) → IsInOne left row ↔ IsLeft products (at + 1) (true ∷ []) row) where
    pub left_failed : ShownWith (with_rows t (rows_in left)) (filter (is_other id) calls) [] (Along (Fails id) ends)
    left_failed =
        shown_left once at here left apart (true ∷ []) are_left (Fails id)
        (λ e row shows is. let out = out_marked t calls at id here e row shows is in (out, sym (settled_out e id out)))
        (λ e f row shows r. (marked_out t calls at id here e row shows r.0, settled_out e id r.0 ∙ r.1))

  -- where rows have too few numbers, none is there
  module _ (places : ℕ) (long : HavePlaces places products) (at : ℕ) (here : IsOpenAt calls at id) (few : places ≤ at) where
    pub too_short : (e : End S) → ¬ Contains ends e
    too_short e h =
        let r = row_in t calls products ends shown e h in
        let l = row_long r.1.1.0 r.0 r.1.1.2 in
        let n = long r.1.0 r.1.1.0 r.1.1.1 in
        let m = r.2.long in
        let lt = slice_get_within calls at here.call here.there in
        omega (arith, l, n, m, lt, few)
      where
        row_long : (product : Product) (row : List ℕ) → IsIn product row → length row ≡ length product.1 + 1
        row_long product [] is = absurd is
        row_long product (number ∷ numbers) is = let l = are_in_long product.1 numbers is.1 in omega (arith, l)

  pub shown_none : (left : List Product) → left ≡ [] → (R : End S → End S → Type 0) → ((e f : End S) → Contains ends e → ¬ R e f)
      → ShownWith (with_rows t (rows_in left)) (filter (is_other id) calls) [] (Along R ends)
  shown_none left none R drops = record {
    more = [];
    shown = shown_no_rows calls (filter (is_other id) calls) (with_rows t (rows_in products)) ends shown (rows_in left) (ap rows_in none);
    front = ([], refl);
    adds = record {
      each = λ f. ((λ h. absurd (Contains-nil f h)), (λ h. ⊎_elim (λ k. k) (λ p. absurd (drops p.0 f p.1 p.2)) h));
      once = λ once. once;
    };
  }
