-- The faults behind the first one
use Rattle.std.proofs.Common.{◌≡◌, ℕ, zero, suc, ◌+◌, List, [], ◌∷◌, drop, refl, add-one}
use Rattle.events.specs.declared.event.Fault.{Fault}
use Rattle.nemesis.specs.Schedules.{after_first}

drop_one : (xs : List (ℕ × Fault)) (n : ℕ) → drop (suc n) xs ≡ after_first (drop n xs)
drop_one [] zero = refl
drop_one (x ∷ xs) zero = refl
drop_one [] (suc n) = refl
drop_one (x ∷ xs) (suc n) = drop_one xs n

pub drop_one_more : (xs : List (ℕ × Fault)) (n : ℕ) → drop (n + 1) xs ≡ after_first (drop n xs)
drop_one_more xs n = rw add-one (drop_one xs n)
