-- Invariant: the hash of a value
use Rattle.std.specs.Prelude.{ℕ}
use Rattle.std.specs.Hash.{HashWrites}
use Rattle.std.specs.Hash.FoldHasher.{initial, write, finish}
use Rattle.std.specs.List.{fold}

-- the hash of a value, from the bytes that it feeds
unfoldable pub hash_by : {S : Type 0} → (S → HashWrites) → S → ℕ
hash_by feeds s = finish (fold write initial (feeds s))
