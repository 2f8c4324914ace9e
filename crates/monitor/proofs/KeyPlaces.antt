-- rows of keys that are apart: where a key stands, and the rows with another value for it
use Rattle.std.proofs.Common.{◌≡◌, ◌≢◌, ℕ, ◌<◌, Bool, true, false, not, cond, zero, suc, nat_eq, Option, Some, None, List, [], ◌∷◌, ◌++◌, length, map, get_or, slice_get, refl, sym, ap, ◌∙◌, subst, arith}
use Rattle.std.specs.List.{Contains, position, prefix_len, position_or_len}
use Rattle.std.specs.Map.{keys_of}
use Rattle.std.proofs.lemmas.Bool.{eqb-true, lt-ltb}
use Rattle.std.proofs.lemmas.Bool.Decides.{nat_tests}
use Rattle.std.proofs.lemmas.Grind.{common_steps}
use Rattle.std.proofs.lemmas.List.{map-append, length-map}
use Rattle.std.proofs.lemmas.Option.{none-some, same_Some}
use Rattle.std.proofs.lemmas.List.Elements.{Contains-append_right}
use Rattle.std.proofs.lemmas.List.Quantifiers.{position-Some}
use Rattle.indexmap.specs.Layout.{set_value_at}
use Rattle.linspec.specs.Orders.{Pairwise}
use Rattle.linspec.proofs.Lists.{Contains-nil, Contains-head, Contains-tail, Pairwise-across, Pairwise-right}

-- x stands at place i
pub record IsAt {X : Type 0} (xs : List X) (i : ℕ) (x : X) : Type 0 where
  pub before : List X
  pub after : List X
  pub cut : xs ≡ before ++ x ∷ after
  pub place : length before ≡ i

at_get_or : (xs : List ℕ) (i x : ℕ) → i < length xs → get_or xs i 0 ≡ x → IsAt xs i x
at_get_or [] i x within is = absurd (omega arith)
at_get_or (y ∷ xs) zero x within is = record { before = []; after = xs; cut = ap (λ (w : ℕ). w ∷ xs) is; place = refl }
at_get_or (y ∷ xs) (suc i) x within is =
    let rest : IsAt xs i x = at_get_or xs i x (omega arith) is in
    record { before = y ∷ rest.before; after = rest.after; cut = ap (λ (l : List ℕ). y ∷ l) rest.cut; place = ap suc rest.place }

pub position_at : (ks : List ℕ) (k i : ℕ) → position (nat_eq k) ks ≡ Some i → IsAt ks i k
position_at ks k i is =
    let found : (i < length ks) × (nat_eq k (get_or ks i 0) ≡ true) × ((j : ℕ) → j < i → nat_eq k (get_or ks j 0) ≡ false) = position-Some (nat_eq k) ks i 0 is in
    at_get_or ks i k found.0 (sym (eqb-true k (get_or ks i 0) found.1))

-- a key that is there has a place
stops : (ks : List ℕ) (k : ℕ) → Contains ks k → prefix_len (λ x. not (nat_eq k x)) ks < length ks
stops [] k h = absurd (Contains-nil k h)
stops (x ∷ ks) k h = grind (arith, common_steps, nat_tests, stops ks k)

pub position_none : (ks : List ℕ) (k : ℕ) → position (nat_eq k) ks ≡ None → ¬ Contains ks k
position_none ks k is h =
    clash (position_or_len (nat_eq k) ks) (sym (ap (λ (b : Bool). cond b (Some (position_or_len (nat_eq k) ks)) None) (lt-ltb (position_or_len (nat_eq k) ks) (length ks) (stops ks k h))) ∙ is)
  where
    clash : (n : ℕ) → ◌≡◌ {A = Option ℕ} (Some n) None → ⊥
    clash n e = cc

-- a key that has a place is there, and one that is not there has none
pub has_place : (ks : List ℕ) (k i : ℕ) → position (nat_eq k) ks ≡ Some i → Contains ks k
has_place ks k i is =
    let at : IsAt ks i k = position_at ks k i is in
    subst (λ (l : List ℕ). Contains l k) (sym at.cut) (Contains-append_right at.before (k ∷ at.after) k (Contains-head k at.after))

pub absent_position : (ks : List ℕ) (k : ℕ) → ¬ Contains ks k → position (nat_eq k) ks ≡ None
absent_position ks k absent = by_place (position (nat_eq k) ks) refl
  where
    by_place : (o : Option ℕ) → position (nat_eq k) ks ≡ o → position (nat_eq k) ks ≡ None
    by_place None is = is
    by_place (Some i) is = absurd (absent (has_place ks k i is))

-- the element at a place
pub slice_get-at : {X : Type 0} (before after : List X) (x : X) → slice_get (before ++ x ∷ after) (length before) ≡ Some x
slice_get-at [] after x = refl
slice_get-at (y ∷ before) after x = slice_get-at before after x

pub set_value_at-at : {X : Type 0} (before after : List (ℕ × X)) (k : ℕ) (v w : X) → set_value_at (before ++ (k, v) ∷ after) (length before) w ≡ before ++ (k, w) ∷ after
set_value_at-at [] after k v w = refl
set_value_at-at (y ∷ before) after k v w = ap (λ l. y ∷ l) (set_value_at-at before after k v w)

-- two functions that agree at each of the keys
pub map_same : {X : Type 0} (f g : ℕ → X) (ks : List ℕ) → ((j : ℕ) → Contains ks j → f j ≡ g j) → map f ks ≡ map g ks
map_same f g [] same = refl
map_same f g (k ∷ ks) same = ap (λ x. x ∷ map f ks) (same k (Contains-head k ks)) ∙ ap (λ l. g k ∷ l) (map_same f g ks (λ j h. same j (Contains-tail k ks j h)))

-- a row for each key
abbrev pub rows_by : {X : Type 0} → (ℕ → X) → List ℕ → List (ℕ × X)
rows_by f ks = map (λ j. (j, f j)) ks

pub keys_of-rows_by : {X : Type 0} (f : ℕ → X) (ks : List ℕ) → keys_of (rows_by f ks) ≡ ks
keys_of-rows_by f [] = refl
keys_of-rows_by f (k ∷ ks) = ap (λ l. k ∷ l) (keys_of-rows_by f ks)

-- the key at a place
pub key_back : {X : Type 0} (f : ℕ → X) (ks : List ℕ) (i k : ℕ) (x : X) → slice_get (rows_by f ks) i ≡ Some (k, x) → (slice_get ks i ≡ Some k) × (x ≡ f k)
key_back f [] i k x at = absurd (none-some (k, x) at)
key_back {X} f (j ∷ ks) zero k x at =
    let e : ◌≡◌ {A = ℕ × X} (j, f j) (k, x) = same_Some _ _ at in
    (ap (λ (p : ℕ × X). Some p.0) e, sym (ap (λ (p : ℕ × X). p.1) e) ∙ ap (λ (p : ℕ × X). f p.0) e)
key_back f (j ∷ ks) (suc i) k x at = key_back f ks i k x at

-- the row of a key that stands at a place
pub row_at : {X : Type 0} (f : ℕ → X) (ks : List ℕ) (k i : ℕ) → position (nat_eq k) ks ≡ Some i → slice_get (rows_by f ks) i ≡ Some (k, f k)
row_at f ks k i is =
    let at : IsAt ks i k = position_at ks k i is in
    ap (λ l. slice_get (rows_by f l) i) at.cut
    ∙ ap (λ l. slice_get l i) (map-append (λ j. (j, f j)) at.before (k ∷ at.after))
    ∙ ap (λ n. slice_get (rows_by f at.before ++ (k, f k) ∷ rows_by f at.after) n) (sym at.place ∙ sym (length-map at.before (λ j. (j, f j))))
    ∙ slice_get-at (rows_by f at.before) (rows_by f at.after) (k, f k)

-- two functions that agree at all keys but one
module _ {X : Type 0} (f g : ℕ → X) (k : ℕ) (same : (j : ℕ) → j ≢ k → f j ≡ g j) where
  pub rows_without : (ks : List ℕ) → ¬ Contains ks k → rows_by g ks ≡ rows_by f ks
  rows_without ks absent = map_same (λ j. (j, g j)) (λ j. (j, f j)) ks (λ j h. ap (λ x. (j, x)) (sym (same j (λ e. absent (subst (Contains ks) e h)))))

  -- the rows around that key
  pub rows_around : (ks : List ℕ) (i : ℕ) → Pairwise (λ i j. i ≢ j) ks → position (nat_eq k) ks ≡ Some i
      → (before : List ℕ) × (after : List ℕ) × (rows_by f ks ≡ rows_by f before ++ (k, f k) ∷ rows_by f after) × (rows_by g ks ≡ rows_by f before ++ (k, g k) ∷ rows_by f after)
      × (length (rows_by f before) ≡ i)
  rows_around ks i apart is =
      let at : IsAt ks i k = position_at ks k i is in
      let cut : Pairwise (λ i j. i ≢ j) (at.before ++ k ∷ at.after) = subst (Pairwise (λ i j. i ≢ j)) at.cut apart in (
        at.before,
        at.after,
        ap (rows_by f) at.cut ∙ map-append (λ j. (j, f j)) at.before (k ∷ at.after),
        ap (rows_by g) at.cut ∙ map-append (λ j. (j, g j)) at.before (k ∷ at.after)
            ∙ ap (λ l. l ++ (k, g k) ∷ rows_by g at.after) (rows_without at.before (λ h. Pairwise-across (λ i j. i ≢ j) at.before (k ∷ at.after) cut k k h (Contains-head k at.after) refl))
            ∙ ap (λ l. rows_by f at.before ++ (k, g k) ∷ l) (rows_without at.after (λ h. (Pairwise-right (λ i j. i ≢ j) at.before (k ∷ at.after) cut).0 k h refl)),
        length-map at.before (λ j. (j, f j)) ∙ at.place,
      )

  pub rows_with : (ks : List ℕ) (i : ℕ) → Pairwise (λ i j. i ≢ j) ks → position (nat_eq k) ks ≡ Some i → rows_by g ks ≡ set_value_at (rows_by f ks) i (g k)
  rows_with ks i apart is =
      let around = rows_around ks i apart is in
      around.3
      ∙ sym (set_value_at-at (rows_by f around.0) (rows_by f around.1) k (f k) (g k))
      ∙ ap (λ n. set_value_at (rows_by f around.0 ++ (k, f k) ∷ rows_by f around.1) n (g k)) around.4
      ∙ ap (λ l. set_value_at l i (g k)) (sym around.2)
