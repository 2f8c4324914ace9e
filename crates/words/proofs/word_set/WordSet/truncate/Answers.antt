use Rattle.std.proofs.Common.{ℕ, ◌≤◌, List, take, map, length, sym, arith}
use Rattle.std.proofs.lemmas.Grind.{common_steps}
use Rattle.std.proofs.lemmas.List.{take-map}
use Rattle.buckets.specs.Index.{Indexes, IsIndex, word_bucket}
use Rattle.words.proofs.word_set.WordSet.truncate.Goals as goal

front : (buckets last before : List ℕ) (n : ℕ) → IsIndex buckets last before → length before ≤ n → IsIndex (take n buckets) last before
front buckets last before n index le = grind (arith, common_steps)

shorter : (words last before : List ℕ) (n : ℕ) → Indexes word_bucket words last before → length before ≤ n → Indexes word_bucket (take n words) last before
shorter words last before n index le = rw (sym (take-map (word_bucket (length last)) n words)) (front (map (word_bucket (length last)) words) last before n index le)

pub invariant_of-self : goal.invariant_of-self
invariant_of-self c = grind (arith, common_steps, shorter)
