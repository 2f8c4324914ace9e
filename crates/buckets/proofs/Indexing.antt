-- one thing more in an index
use Rattle.std.proofs.Common.{◌≡◌, ℕ, ◌+◌, ◌<◌, List, [], ◌∷◌, ◌++◌, map, length, get_or, slice_set, arith}
use Rattle.std.proofs.lemmas.Grind.{common_steps, elements}
use Rattle.std.proofs.lemmas.List.{get_or-map, map_push}
use Rattle.buckets.specs.Index.{Indexes, IsIndex}

one_more : (buckets last before : List ℕ) (at its place : ℕ) → IsIndex buckets last before → length before ≡ at → at < length buckets → its < length last → place ≡ get_or last its place → get_or buckets at 0 ≡ its
    → IsIndex buckets (slice_set last its (at + 1)) (before ++ place ∷ [])
one_more buckets last before at its place index is lt within old of = grind (arith, elements)

longer : (buckets last before : List ℕ) (its : ℕ) → IsIndex buckets last before → IsIndex (buckets ++ its ∷ []) last before
longer buckets last before its index = grind (arith, common_steps)

module _ {X : Type 0} (bucket : ℕ → X → ℕ) (items : List X) (last before : List ℕ) (at its place : ℕ) (x : X) (index : Indexes bucket items last before) (is : length before ≡ at) (within : its < length last) (of : its ≡ bucket (length last) x) (old : place ≡ get_or last its place) where
  same_many : length (slice_set last its (at + 1)) ≡ length last
  same_many = grind (arith, common_steps)

  -- it is the first that was not indexed
  pub one_indexed : at < length items → x ≡ get_or items at x → Indexes bucket items (slice_set last its (at + 1)) (before ++ place ∷ [])
  one_indexed lt read =
      let here = get_or-map (bucket (length last)) items at x 0 lt in
      rw same_many (one_more (map (bucket (length last)) items) last before at its place index is (grind (arith, common_steps)) within old (grind (arith, common_steps)))

  -- it is put behind the others
  pub one_behind : length items ≡ at → Indexes bucket (items ++ x ∷ []) (slice_set last its (at + 1)) (before ++ place ∷ [])
  one_behind all =
      rw same_many (rw (map_push (bucket (length last)) items x) (one_more (map (bucket (length last)) items ++ bucket (length last) x ∷ []) last before at its place (longer _ _ _ _ index) is (grind (arith, common_steps)) within old (grind (arith, common_steps))))
