-- lists, the hash of each, and an index of these
use Rattle.std.proofs.Common.{◌≡◌, ℕ, ◌<◌, ◌≤◌, List, [], Some, Vec, Global, map, take, length, get_or, slice_get, sym, ap, ◌∙◌, arith}
use Rattle.std.specs.List.{Contains}
use Rattle.std.proofs.lemmas.Grind.{common_steps}
use Rattle.std.proofs.lemmas.List.{get_or-map, length-map, take-map}
use Rattle.std.proofs.lemmas.Option.{get_or_from_slice_get, slice_get_within}
use Rattle.buckets.specs.Index.{Indexes, IsIndex, hash_bucket}
use Rattle.rows.specs.Lists.{AreLists, items_of, list_hash}

module _ (items : List (Vec ℕ Global)) (at : ℕ) (v : Vec ℕ Global) (list : List ℕ) (lt : at < length items) (is : v ≡ get_or items at v) where
  -- the list that is read stands there
  stands : (d : List ℕ) → get_or (map items_of items) at d ≡ v.items
  stands d = get_or-map items_of items at v d lt ∙ ap items_of (sym is)

  pub has : v.items ≡ list → Contains (map items_of items) list
  has e = (at, (let l = length-map items items_of in omega (arith, l, lt)), stands list ∙ e)

  pub same : slice_get (map items_of items) at ≡ Some list → v.items ≡ list
  same e = sym (stands list) ∙ get_or_from_slice_get (map items_of items) at list list e

-- the hash of a list that stands somewhere
pub hash_at : (lists : List (List ℕ)) (hashes : List ℕ) (at : ℕ) (list : List ℕ) → hashes ≡ map list_hash lists → slice_get lists at ≡ Some list → get_or hashes at 0 ≡ list_hash list
hash_at lists hashes at list is e =
    ap (λ l. get_or l at 0) is
    ∙ get_or-map list_hash lists at list 0 (slice_get_within lists at list e)
    ∙ ap list_hash (get_or_from_slice_get lists at list list e)

-- the first indexed things
front : (buckets last before : List ℕ) (n : ℕ) → IsIndex buckets last before → length before ≤ n → IsIndex (take n buckets) last before
front buckets last before n index le = grind (arith, common_steps)

shorter : (hashes last before : List ℕ) (n : ℕ) → Indexes hash_bucket hashes last before → length before ≤ n → Indexes hash_bucket (take n hashes) last before
shorter hashes last before n index le = rw (sym (take-map (hash_bucket (length last)) n hashes)) (front (map (hash_bucket (length last)) hashes) last before n index le)

pub first_indexed : (hashes now last last' before before' : List ℕ) (n : ℕ) → Indexes hash_bucket hashes last before → length before ≤ n → now ≡ take n hashes → last' ≡ last → before' ≡ before → Indexes hash_bucket now last' before'
first_indexed hashes now last last' before before' n index le is lasts befores = rw is (rw lasts (rw befores (shorter hashes last before n index le)))

-- the hashes of the first lists
pub first_hashed : (items now : List (Vec ℕ Global)) (hashes its : List ℕ) (n : ℕ) → hashes ≡ map list_hash (map items_of items) → now ≡ take n items → its ≡ take n hashes → its ≡ map list_hash (map items_of now)
first_hashed items now hashes its n hashed is e = e ∙ ap (take n) hashed ∙ take-map list_hash n (map items_of items) ∙ ap (map list_hash) (take-map items_of n items ∙ sym (ap (map items_of) is))

-- lists of which none is indexed
pub not_indexed : (lists : List (List ℕ)) (hashes last before : List ℕ) → hashes ≡ map list_hash lists → last ≡ [] → before ≡ [] → AreLists lists hashes last before
not_indexed lists hashes last before is none empty = record {
  hashed = is;
  index = grind (arith, common_steps);
}
