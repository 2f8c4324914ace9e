-- Invariant: a number of 64 bits that is different for most values; equal values have the same one
use Rattle.std.specs.Prelude.{◌≡◌, ℕ, ◌+◌, ◌*◌, ◌/◌, ◌%◌, ◌^◌, true, false, List, [], ◌∷◌, bit_xor}
use Rattle.std.specs.Int.{cast_unsigned, w64}
use Rattle.std.specs.Ordering.{nat_cmp}
use Rattle.std.specs.BTreeSet.{BTreeSet, contains}
use Rattle.edn.specs.Value.{Value, nil, bool, int, text, keyword, vector, pairs, members, Values, none, more, Pairs, no_pairs, pair}
use Rattle.edn.specs.Scalar.{IsCollection}

-- a product of 64 bits, its upper half laid over the lower one
unfoldable pub folded : ℕ → ℕ → ℕ
folded n factor = bit_xor ((n * factor) % 2 ^ 64) ((n * factor) % 2 ^ 64 / 2 ^ 32)

unfoldable pub stirred : ℕ → ℕ
stirred n = folded (folded (bit_xor n 2685821657736338717) 11400714819323198485) 15485907386658061715

abbrev pub digest_bytes : ℕ → List ℕ → ℕ
digest_bytes told [] = told
digest_bytes told (b ∷ bs) = digest_bytes (stirred ((told + b) % 2 ^ 64)) bs

abbrev mutual
  pub digest : Value → ℕ
  digest nil = 1
  digest (bool false) = 2
  digest (bool true) = 3
  digest (int z) = stirred (cast_unsigned w64 z)
  digest (text s) = digest_bytes 4 s
  digest (keyword s) = digest_bytes 5 s
  digest (vector vs) = digest_in_order 6 vs
  digest (pairs ps) = stirred ((7 + digest_pairs ps) % 2 ^ 64)
  digest (members vs) = stirred ((8 + digest_members vs) % 2 ^ 64)

  pub digest_in_order : ℕ → Values → ℕ
  digest_in_order told none = told
  digest_in_order told (more v vs) = digest_in_order (stirred ((told + digest v) % 2 ^ 64)) vs

  pub digest_members : Values → ℕ
  digest_members none = 0
  digest_members (more v vs) = (digest v + digest_members vs) % 2 ^ 64

  pub digest_pairs : Pairs → ℕ
  digest_pairs no_pairs = 0
  digest_pairs (pair k v ps) = (stirred ((stirred (digest k) + digest v) % 2 ^ 64) + digest_pairs ps) % 2 ^ 64

-- the set has the number of each of these values that is a collection
abbrev pub HasDigests : BTreeSet ℕ → Values → Type 0
HasDigests s none = Unit {0}
HasDigests s (more v vs) = (IsCollection v → contains nat_cmp s (digest v) ≡ true) × HasDigests s vs
