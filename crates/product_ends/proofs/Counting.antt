-- how many rows products have, and what is paid for them
use Rattle.std.proofs.Common.{◌≡◌, ⊎_elim, ℕ, suc, ◌+◌, ◌-◌, ◌*◌, ◌<◌, ◌≤◌, Some, List, [], ◌∷◌, length, get_or, sym, ap, ◌∙◌, subst, arith}
use Rattle.std.specs.List.{Contains}
use Rattle.std.proofs.Math.Nat.{mul-le-mul_left}
use Rattle.rows.proofs.Elements.{Contains-nil, Contains-cons_cases}
use Rattle.interner.specs.Numbers.{IsOnceIn}
use Rattle.interner.proofs.Lists.{has_place, place_of, some_at}
use Rattle.products.specs.Products.{AreApart, AreIn, Has, IsInOne, Product, numbers_of, rows_in}
use Rattle.products.proofs.Lists.{Once, fewer}
use Rattle.products.proofs.Numbers.{contains_numbers}
use Rattle.products.proofs.Sets.{are_in_at}
use Rattle.moves.specs.declared.table.Table.{Table}
use Rattle.moves.specs.Tables.{OnlyTries}
use Rattle.moves.proofs.Showing.{tries_on}
use Rattle.product_ends.specs.Transitions.{TriesAtMost}
use Rattle.product_ends.specs.Growing.{IsPaid}
use Rattle.product_ends.proofs.RowsIn.{contains_rows_in, rows_in_once}

-- ---- whether sets have a row

first_of_set : (word : ℕ) → 0 < length (numbers_of word) → (n : ℕ) × Has word n
first_of_set word lt =
    let n = some_at (numbers_of word) 0 lt in
    (n.0, (contains_numbers word n.0).0 (has_place (numbers_of word) 0 n.0 n.1))

pub some_row : (sets : List ℕ) → ((k : ℕ) → k < length sets → 0 < length (numbers_of (get_or sets k 0))) → (row : List ℕ) × AreIn sets row
some_row [] each = ([], tt)
some_row (word ∷ sets) each =
    let n = first_of_set word (each 0 (omega arith)) in
    let rest = some_row sets (λ k lt. each (suc k) (omega (arith, lt))) in
    (n.0 ∷ rest.0, (n.1, rest.1))

none_there : (xs : List ℕ) (n : ℕ) → length xs ≡ 0 → Contains xs n → ⊥
none_there [] n none h = Contains-nil n h
none_there (x ∷ xs) n none h = omega (arith, none)

pub no_row : (sets : List ℕ) (k : ℕ) → k < length sets → length (numbers_of (get_or sets k 0)) ≡ 0 → (row : List ℕ) → ¬ AreIn sets row
no_row sets k lt none row is =
    none_there (numbers_of (get_or sets k 0)) (get_or row k 0) none ((contains_numbers (get_or sets k 0) (get_or row k 0)).1 (are_in_at sets row k lt is))

-- ---- more rows

once_of : {X : Type 0} (xs : List X) → IsOnceIn xs → Once xs
once_of [] once = tt
once_of (x ∷ xs) once = (
  λ y h e. let p = place_of xs y h in let same : 0 ≡ suc p.0 = once 0 (suc p.0) y (ap Some e) p.1 in absurd (omega (arith, same)),
  once_of xs (λ i j y a b. let same : suc i ≡ suc j = once (suc i) (suc j) y a b in omega (arith, same)),
)

module _ (old new : List Product) (apart : AreApart old) (kept : (row : List ℕ) → IsInOne old row → IsInOne new row) where
  still : (row : List ℕ) → Contains (rows_in old) row → Contains (rows_in new) row
  still row h = (contains_rows_in new row).1 (kept row ((contains_rows_in old row).0 h))

  pub no_fewer : length (rows_in old) ≤ length (rows_in new)
  no_fewer = fewer (rows_in old) (rows_in new) (once_of (rows_in old) (rows_in_once old apart)) still

  pub one_more_row : (row : List ℕ) → IsInOne new row → (IsInOne old row → ⊥) → length (rows_in old) + 1 ≤ length (rows_in new)
  one_more_row row now not_yet =
      let more : suc (length (rows_in old)) ≤ length (rows_in new) =
      fewer (row ∷ rows_in old) (rows_in new)
      ((λ other h e. not_yet ((contains_rows_in old row).0 (subst (Contains (rows_in old)) (sym e) h))), once_of (rows_in old) (rows_in_once old apart))
      (λ other h. ⊎_elim (λ e. subst (Contains (rows_in new)) e ((contains_rows_in new row).1 now)) (still other) (Contains-cons_cases row (rows_in old) other h)) in
      omega (arith, more)

  pub paid_none : (steps before after : ℕ) → after ≡ before → IsPaid steps before old after new
  paid_none steps before after same =
      let more : steps * length (rows_in old) ≤ steps * length (rows_in new) = mul-le-mul_left steps no_fewer in
      omega (arith, more, same)

  pub paid_one : (steps before after : ℕ) (row : List ℕ) → IsInOne new row → (IsInOne old row → ⊥) → after ≤ before + steps → IsPaid steps before old after new
  paid_one steps before after row now not_yet le =
      let more : steps * (length (rows_in old) + 1) ≤ steps * length (rows_in new) = mul-le-mul_left steps (one_more_row row now not_yet) in
      let one : steps * (length (rows_in old) + 1) ≡ steps * length (rows_in old) + steps = grind arith in
      omega (arith, more, one, le)

pub paid_then : (steps a b c : ℕ) (xs ys zs : List Product) → IsPaid steps a xs b ys → IsPaid steps b ys c zs → IsPaid steps a xs c zs
paid_then steps a b c xs ys zs p q = omega (arith, p, q)

-- ---- steps

-- one step more
module _ {S : Type 0} {t u v : Table S} {a b c : ℕ} where
  pub tries_one_more : (n steps : ℕ) → OnlyTries t u a b → b ≤ a + n → OnlyTries u v b c → c ≤ b + 1 → n + 1 ≤ steps → TriesAtMost steps t v a c
  tries_one_more n steps one paid more cost fits = record { tries = tries_on one more; cost = omega (arith, paid, cost, fits) }

-- the cost of one row more is within that of all rows up to one more than the budget
pub cost_within : (steps budget old rows a b c : ℕ) → b + steps * old ≤ a + steps * rows → old ≤ budget → rows ≤ budget → c ≤ b + steps → c ≤ a + steps * (budget + 1 - old)
cost_within steps budget old rows a b c paid few within cost =
    let most : steps * rows ≤ steps * budget = mul-le-mul_left steps within in
    let whole : budget + 1 - old + old ≡ budget + 1 = omega (arith, few) in
    let split : steps * (budget + 1 - old) + steps * old ≡ steps * (budget + 1) = (let s : steps * (budget + 1 - old + old) ≡ steps * (budget + 1 - old) + steps * old = grind arith in sym s ∙ ap (λ n. steps * n) whole) in
    let one : steps * (budget + 1) ≡ steps * budget + steps = grind arith in
    omega (arith, paid, most, split, one, cost)

-- the same, if there were no rows
pub cost_first : (steps budget rows a b c : ℕ) → b ≤ a + steps * rows → rows ≤ budget → c ≤ b + steps → c ≤ a + steps * (budget + 1)
cost_first steps budget rows a b c paid within cost =
    let most : steps * rows ≤ steps * budget = mul-le-mul_left steps within in
    let one : steps * (budget + 1) ≡ steps * budget + steps = grind arith in
    omega (arith, paid, most, one, cost)

-- and so is what all rows more cost
pub cost_rest : (steps budget rows a b c : ℕ) → b ≤ a + steps * rows → rows ≤ budget → c ≤ b + steps * (budget + 1 - rows) → c ≤ a + steps * (budget + 1)
cost_rest steps budget rows a b c paid few cost =
    let whole : budget + 1 - rows + rows ≡ budget + 1 = omega (arith, few) in
    let split : steps * (budget + 1 - rows) + steps * rows ≡ steps * (budget + 1) = (let s : steps * (budget + 1 - rows + rows) ≡ steps * (budget + 1 - rows) + steps * rows = grind arith in sym s ∙ ap (λ n. steps * n) whole) in
    omega (arith, paid, split, cost)
