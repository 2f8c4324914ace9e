-- rows of keys, read and written at a place
use Rattle.std.proofs.Common.{◌≡◌, ◌≢◌, ℕ, zero, suc, ◌+◌, ◌<◌, Bool, true, false, cond, nat_eq, is_some, Option, Some, None, List, [], ◌∷◌, ◌++◌, map, length, position, take, slice_get, refl, sym, ap, ◌∙◌, arith}
use Rattle.std.specs.List.{filter}
use Rattle.std.specs.Map.{keys_of, lookup}
use Rattle.std.proofs.lemmas.List.{take_more, append-nil}
use Rattle.std.proofs.lemmas.List.Elements.{filter-append}
use Rattle.std.proofs.lemmas.Option.{none-some, same_Some, slice_get_within, get_or_from_slice_get}
use Rattle.indexmap.specs.Layout.{set_value_at}
use Rattle.indexmap.proofs.MapLemmas.{some_index}

-- the written element is read there, and the others stay
module _ {K A : Type 0} where
  pub read_written : (rows : List (K × A)) (place : ℕ) (k : K) (v w : A) → slice_get rows place ≡ Some (k, v) → slice_get (set_value_at rows place w) place ≡ Some (k, w)
  read_written [] place k v w at = absurd (none-some _ at)
  read_written (x ∷ rows) zero k v w at = ap (λ (y : K × A). Some (y.0, w)) (same_Some _ _ at)
  read_written (x ∷ rows) (suc place) k v w at = read_written rows place k v w at

  pub others_stay : (rows : List (K × A)) (place other : ℕ) (w : A) → other ≢ place → slice_get (set_value_at rows place w) other ≡ slice_get rows other
  others_stay [] place other w ne = refl
  others_stay (x ∷ rows) zero zero w ne = absurd (ne refl)
  others_stay (x ∷ rows) zero (suc other) w ne = refl
  others_stay (x ∷ rows) (suc place) zero w ne = refl
  others_stay (x ∷ rows) (suc place) (suc other) w ne = others_stay rows place other w (λ e. ne (ap suc e))

  pub same_written : (rows : List (K × A)) (place : ℕ) (k : K) (v : A) → slice_get rows place ≡ Some (k, v) → set_value_at rows place v ≡ rows
  same_written [] place k v at = refl
  same_written (x ∷ rows) zero k v at =
      let e : x ≡ (k, v) = same_Some _ _ at in
      ap (λ (y : K × A). (y.0, v) ∷ rows) e ∙ sym (ap (λ (y : K × A). y ∷ rows) e)
  same_written (x ∷ rows) (suc place) k v at = ap (λ (l : List (K × A)). x ∷ l) (same_written rows place k v at)

  pub map_written : {B : Type 0} (f : A → B) (rows : List (K × A)) (place : ℕ) (w : A) → map (λ (row : K × A). (row.0, f row.1)) (set_value_at rows place w) ≡ set_value_at (map (λ (row : K × A). (row.0, f row.1)) rows) place (f w)
  map_written f [] place w = refl
  map_written f (x ∷ rows) zero w = refl
  map_written {B} f (x ∷ rows) (suc place) w = ap (λ (l : List (K × B)). (x.0, f x.1) ∷ l) (map_written f rows place w)

-- one more is taken
module _ {X : Type 0} (xs : List X) (i : ℕ) (x : X) (at : slice_get xs i ≡ Some x) where
  pub one_more_taken : take (i + 1) xs ≡ take i xs ++ x ∷ []
  one_more_taken = take_more xs i x (slice_get_within xs i x at) ∙ ap (λ (y : X). take i xs ++ y ∷ []) (get_or_from_slice_get xs i x x at)

  pub one_more_kept : (p : X → Bool) → p x ≡ true → filter p (take (i + 1) xs) ≡ filter p (take i xs) ++ x ∷ []
  one_more_kept p passes = ap (filter p) one_more_taken ∙ filter-append p (take i xs) (x ∷ []) ∙ ap (λ b. filter p (take i xs) ++ cond b (x ∷ []) []) passes

  pub one_more_dropped : (p : X → Bool) → p x ≡ false → filter p (take (i + 1) xs) ≡ filter p (take i xs)
  one_more_dropped p fails = ap (filter p) one_more_taken ∙ filter-append p (take i xs) (x ∷ []) ∙ ap (λ b. filter p (take i xs) ++ cond b (x ∷ []) []) fails ∙ append-nil (filter p (take i xs))

-- a key that has no place has no row
pub absent_key : {A : Type 0} (rows : List (ℕ × A)) (key : ℕ) → position (nat_eq key) (keys_of rows) ≡ None → lookup (nat_eq key) rows ≡ None
absent_key {A} rows key none = is_none (lookup (nat_eq key) rows) (sym (some_index (nat_eq key) rows) ∙ ap is_some none)
  where
    is_none : (o : Option A) → is_some o ≡ false → o ≡ None
    is_none None e = refl
    is_none (Some x) e = (let q : true ≡ false = e in cc)

-- there is a row at each place
pub row_within : {X : Type 0} (xs : List X) (place : ℕ) → place < length xs → (x : X) × (slice_get xs place ≡ Some x)
row_within [] place lt = absurd (omega arith)
row_within (x ∷ xs) zero lt = (x, refl)
row_within (x ∷ xs) (suc place) lt = row_within xs place (omega arith)
