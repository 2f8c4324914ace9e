-- Invariant: the sum of a queue's items, each by its place, which differs for most other queues
use Rattle.std.specs.Prelude.{◌≡◌, ℕ, zero, suc, ◌+◌, ◌*◌, ◌%◌, ◌^◌, ℤ, List, [], ◌∷◌, length}
use Rattle.values.specs.Sums.{mixed}

-- the ratio of the weight of a place to that of the one behind it, and the number that takes that off again
unfoldable pub ratio : ℕ
ratio = 47026247687942121848144207491837523525

unfoldable pub back : ℕ
back = 10455382779074951524300553632856583309

-- the weight of a place with n places behind it
unfoldable pub power : ℕ → ℕ
power zero = 1
power (suc k) = (power k * ratio) % 2 ^ 128

-- the sum of all items
unfoldable pub rolled : List ℤ → ℕ
rolled [] = 0
rolled (x ∷ xs) = (rolled xs + power (length xs) * mixed x) % 2 ^ 128

-- this is what the items add, and what a place weighs that all of them stand behind
pub record AreRolled (xs : List ℤ) (sum weight : ℕ) : Type 0 where
  pub sums : sum ≡ rolled xs
  pub weighs : weight ≡ power (length xs)
