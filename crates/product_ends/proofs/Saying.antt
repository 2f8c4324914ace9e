-- rows, in whatever order, that say ends
use Rattle.std.proofs.Common.{◌≡◌, ◌≢◌, ◌↔◌, inr, ⊎_elim, ℕ, zero, suc, ◌<◌, Some, List, [], ◌∷◌, length, slice_get, refl, ap, ◌∙◌, subst, arith}
use Rattle.std.specs.List.{Contains}
use Rattle.std.proofs.lemmas.Option.{slice_get_within}
use Rattle.rows.proofs.Elements.{Contains-nil, Contains-head, Contains-tail, Contains-cons_cases}
use Rattle.linspec.specs.Orders.{Pairwise}
use Rattle.linspec.specs.Ends.{End}
use Rattle.interner.specs.Numbers.{IsOnceIn}
use Rattle.interner.proofs.Lists.{clash, has_place, one_of, place_of, some_at}
use Rattle.moves.specs.declared.pending_op.PendingOp.{PendingOp}
use Rattle.moves.specs.declared.table.Table.{Table}
use Rattle.moves.specs.EndSteps.{Along}
use Rattle.moves.specs.Tables.{AreShown, IsThat, Shows, ShownWith, with_rows}
use Rattle.moves.proofs.Rows.{one_end, one_row}
use Rattle.moves.proofs.Showing.{end_at}
use Rattle.products.specs.Products.{AreApart, IsInOne, Product, rows_in}
use Rattle.product_ends.proofs.RowsIn.{contains_rows_in, rows_in_once}

-- where no place has the element of another one, no two elements are the same
pub places_once : {X : Type 0} (xs : List X) → IsOnceIn xs → Pairwise (λ x y. x ≢ y) xs
places_once [] once = tt
places_once (x ∷ xs) once = (
  λ y h e. let p = place_of xs y h in let same : 0 ≡ suc p.0 = once 0 (suc p.0) y (ap Some e) p.1 in absurd (omega (arith, same)),
  places_once xs (λ i j y a b. let same : suc i ≡ suc j = once (suc i) (suc j) y a b in omega (arith, same)),
)

-- an end of each row for which P holds
record Said {S : Type 0} (t : Table S) (calls : List PendingOp) (rows : List (List ℕ)) (P : End S → Type 0) : Type 0 where
  more : List (End S)
  long : length rows ≡ length more
  each : (i : ℕ) (row : List ℕ) (e : End S) → slice_get rows i ≡ Some row → slice_get more i ≡ Some e → Shows t calls row e
  holds : (e : End S) → Contains more e → P e

module _ {S : Type 0} (t : Table S) (calls : List PendingOp) where
  each_more : (row : List ℕ) (rows : List (List ℕ)) (e : End S) (more : List (End S)) → Shows t calls row e
      → ((i : ℕ) (r : List ℕ) (f : End S) → slice_get rows i ≡ Some r → slice_get more i ≡ Some f → Shows t calls r f)
      → (i : ℕ) (r : List ℕ) (f : End S) → slice_get (row ∷ rows) i ≡ Some r → slice_get (e ∷ more) i ≡ Some f → Shows t calls r f
  each_more row rows e more shows rest zero r f h k =
      subst (λ x. Shows t calls x f) (one_of row r h) (subst (Shows t calls row) (one_of e f k) shows)
  each_more row rows e more shows rest (suc i) r f h k = rest i r f h k

  said_by : (rows : List (List ℕ)) (P : End S → Type 0) → ((row : List ℕ) → Contains rows row → (e : End S) × Shows t calls row e × P e) → Said t calls rows P
  said_by [] P each = record {
    more = [];
    long = refl;
    each = λ i row e h k. absurd (clash row _ refl h);
    holds = λ e h. absurd (Contains-nil e h);
  }
  said_by (row ∷ rows) P each =
      let s : Said t calls rows P = said_by rows P (λ r h. each r (Contains-tail row rows r h)) in
      let e = each row (Contains-head row rows) in
      record {
        more = e.0 ∷ s.more;
        long = ap suc s.long;
        each = each_more row rows e.0 s.more e.1 s.each;
        holds = λ f h. ⊎_elim (λ q. subst P q e.2) (s.holds f) (Contains-cons_cases e.0 s.more f h);
      }

  -- where each row says an end of which P holds, and each such end is said by a row, the rows say just these ends
  pub shown_by : IsOnceIn t.states → IsOnceIn t.founds → (rows : List (List ℕ)) → IsOnceIn rows → (P : End S → Type 0)
      → ((row : List ℕ) → Contains rows row → (e : End S) × Shows t calls row e × P e)
      → ((e : End S) → P e → (row : List ℕ) × Contains rows row × Shows t calls row e) → ShownWith (with_rows t rows) calls [] P
  shown_by states_once founds_once rows once P each all =
      let s : Said t calls rows P = said_by rows P each in
      record {
        more = s.more;
        shown = record { states_once = states_once; founds_once = founds_once; long = s.long; each = s.each };
        front = (s.more, refl);
        adds = record {
          each = λ e. ((λ h. inr (s.holds e h)), ⊎_elim (λ k. absurd (Contains-nil e k)) (λ p. there s e (all e p)));
          once = λ none. places_once s.more (different s);
        };
      }
    where
      there : (s : Said t calls rows P) (e : End S) → (row : List ℕ) × Contains rows row × Shows t calls row e → Contains s.more e
      there s e r =
          let p = place_of rows r.0 r.1 in
          let lt : p.0 < length s.more = (let b = slice_get_within rows p.0 r.0 p.1 in let l = s.long in omega (arith, b, l)) in
          let f = some_at s.more p.0 lt in
          subst (Contains s.more) (one_end t.states t.founds calls r.0 f.0 e (s.each p.0 r.0 f.0 p.1 f.1) r.2) (has_place s.more p.0 f.0 f.1)

      row_at : (s : Said t calls rows P) (i : ℕ) (e : End S) → slice_get s.more i ≡ Some e → (row : List ℕ) × (slice_get rows i ≡ Some row) × Shows t calls row e
      row_at s i e h =
          let lt : i < length rows = (let b = slice_get_within s.more i e h in let l = s.long in omega (arith, b, l)) in
          let r = some_at rows i lt in
          (r.0, r.1, s.each i r.0 e r.1 h)

      different : (s : Said t calls rows P) → IsOnceIn s.more
      different s i j e h k =
          let a = row_at s i e h in
          let b = row_at s j e k in
          let same = one_row t.states t.founds calls states_once founds_once a.0 b.0 e a.2 b.2 in
          once i j b.0 (a.1 ∙ ap Some same) b.1

  -- the end of a row, and the row of an end
  module _ (rows : List (List ℕ)) (ends : List (End S)) (shown : AreShown (with_rows t rows) calls ends) where
    pub end_of : (row : List ℕ) → Contains rows row → (e : End S) × Shows t calls row e × Contains ends e
    end_of row h =
        let p = place_of rows row h in
        let e = end_at calls (with_rows t rows) ends shown p.0 row p.1 in
        (e.0, e.2, has_place ends p.0 e.0 e.1)

    pub row_of : (e : End S) → Contains ends e → (row : List ℕ) × Contains rows row × Shows t calls row e
    row_of e h =
        let p = place_of ends e h in
        let lt : p.0 < length rows = (let b = slice_get_within ends p.0 e p.1 in let l = shown.long in omega (arith, b, l)) in
        let r = some_at rows p.0 lt in
        (r.0, has_place rows p.0 r.0 r.1, shown.each p.0 r.0 e r.1 p.1)

    -- rows in another order say the same ends
    pub reordered : (others : List (List ℕ)) → IsOnceIn others → ((row : List ℕ) → Contains others row ↔ Contains rows row) → ShownWith (with_rows t others) calls [] (Along IsThat ends)
    reordered others once same =
        shown_by shown.states_once shown.founds_once others once (Along IsThat ends)
        (λ row h. let e = end_of row ((same row).0 h) in (e.0, e.1, (e.0, e.2, refl)))
        (λ e p.
        let r = row_of p.0 p.1 in
        (r.0, (same r.0).1 r.1, subst (Shows t calls r.0) p.2 r.2))

  -- the same of the rows of products
  pub shown_by_products : IsOnceIn t.states → IsOnceIn t.founds → (products : List Product) → AreApart products → (P : End S → Type 0)
      → ((row : List ℕ) → IsInOne products row → (e : End S) × Shows t calls row e × P e)
      → ((e : End S) → P e → (row : List ℕ) × IsInOne products row × Shows t calls row e) → ShownWith (with_rows t (rows_in products)) calls [] P
  shown_by_products states_once founds_once products apart P each all =
      shown_by states_once founds_once (rows_in products) (rows_in_once products apart) P
      (λ row h. each row ((contains_rows_in products row).0 h))
      (λ e p. let r = all e p in (r.0, (contains_rows_in products r.0).1 r.1, r.2))

  module _ (products : List Product) (ends : List (End S)) (shown : AreShown (with_rows t (rows_in products)) calls ends) where
    pub end_in : (row : List ℕ) → IsInOne products row → (e : End S) × Shows t calls row e × Contains ends e
    end_in row is = end_of (rows_in products) ends shown row ((contains_rows_in products row).1 is)

    pub row_in : (e : End S) → Contains ends e → (row : List ℕ) × IsInOne products row × Shows t calls row e
    row_in e h = let r = row_of (rows_in products) ends shown e h in (r.0, (contains_rows_in products r.0).0 r.1, r.2)
