-- The copy with the greatest version
use Rattle.std.proofs.Common.{◌≡◌, ℕ, ◌+◌, ◌<◌, ◌≤◌, ◌^◌, ◌-◌, nat_lt, Bool, true, false, cond, Option, Some, None, Result, Ok, Err, IfOk, List, [], ◌∷◌, map, refl, sym, ap, ◌∙◌, subst, arith}
use Rattle.std.specs.List.{Contains}
use Rattle.std.proofs.lemmas.Option.{same_Some}
use Rattle.std.proofs.lemmas.List.Elements.{Contains-append_left, Contains-append_right, Contains-push}
use Rattle.test_store.specs.declared.held.Held.{Held}
use Rattle.std.specs.declared.alloc.AllocError.{AllocError}
use Rattle.test_store.specs.Copies.{RowsView, newest, newer, healed_entry}
use Rattle.test_store.specs.Store.{VersionsOf}

pub Contains-head : {X : Type 0} (x : X) (xs : List X) → Contains (x ∷ xs) x
Contains-head x xs = Contains-append_left (x ∷ []) xs x (Contains-push [] x)

pub Contains-tail : {X : Type 0} (x : X) (xs : List X) (y : X) → Contains xs y → Contains (x ∷ xs) y
Contains-tail x xs y h = Contains-append_right (x ∷ []) xs y h

-- it is one of the row's
pub newest_in : (chosen : List Bool) (row : List Held) (held : Held) → newest chosen row ≡ Some held → Contains row held
newest_in [] row held is = cc
newest_in (flag ∷ chosen) [] held is = cc
newest_in (flag ∷ chosen) (x ∷ row) held is = by_flag flag (newest chosen row) refl is (newest_in chosen row)
  where
    by_version : (other : Held) (b : Bool) → nat_lt x.version other.version ≡ b → newest chosen row ≡ Some other → newer true x (Some other) ≡ Some held → ((g : Held) → newest chosen row ≡ Some g → Contains row g) → Contains (x ∷ row) held
    by_version other true v e is rest = Contains-tail x row held (rest held (e ∙ ap (λ c. Some (cond c other x)) (sym v) ∙ is))
    by_version other false v e is rest = subst (Contains (x ∷ row)) (same_Some x held (ap (λ c. Some (cond c other x)) (sym v) ∙ is)) (Contains-head x row)

    by_flag : (flag : Bool) (best : Option Held) → newest chosen row ≡ best → newer flag x best ≡ Some held → ((g : Held) → newest chosen row ≡ Some g → Contains row g) → Contains (x ∷ row) held
    by_flag false best e is rest = Contains-tail x row held (rest held (e ∙ is))
    by_flag true None e is rest = subst (Contains (x ∷ row)) (same_Some x held is) (Contains-head x row)
    by_flag true (Some other) e is rest = by_version other (nat_lt x.version other.version) refl e is rest

pub newest_within : (chosen : List Bool) (row : List Held) (held : Held) (n : ℕ) → VersionsOf row n → newest chosen row ≡ Some held → held.version ≤ n
newest_within chosen row held n within is = within held (newest_in chosen row held is)

-- nobody takes over anything
nothing : (rows : List (ℕ × List Held)) → map (healed_entry []) rows ≡ rows
nothing [] = refl
nothing (x ∷ rows) = ap (λ l. x ∷ l) (nothing rows)

pub same_table : (r : Result RowsView AllocError) (rows : List (ℕ × List Held)) → IfOk r (λ (other : RowsView). other.rows ≡ map (healed_entry []) rows) → IfOk r (λ (other : RowsView). other.rows ≡ rows)
same_table (Ok t) rows is = is ∙ nothing rows
same_table (Err e) rows is = tt

pub overflows_not : (chosen : List Bool) (row : List Held) (held : Held) → VersionsOf row (2 ^ 64 - 2) → newest chosen row ≡ Some held → held.version + 1 < 2 ^ 64
overflows_not chosen row held within is = let le : held.version ≤ 2 ^ 64 - 2 = newest_within chosen row held (2 ^ 64 - 2) within is in omega arith
