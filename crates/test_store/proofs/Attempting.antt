-- The result of an attempt on a row
use Rattle.std.proofs.Common.{◌≡◌, ℕ, List, Option, Some, None, unwrap_or, Result, IfOk, MatchOption, sym, ap, nat_eq}
use Rattle.std.specs.declared.alloc.AllocError.{AllocError}
use Rattle.std.specs.Map.{lookup}
use Rattle.models.specs.declared.finding.Found.{Found}
use Rattle.models.specs.declared.operation.Op.{Op}
use Rattle.kinds.specs.declared.model_kind.ModelKind.{ModelKind}
use Rattle.test_store.specs.declared.held.Held.{Held}
use Rattle.test_store.specs.declared.links.Links.{Links}
use Rattle.test_store.specs.declared.outcome.Mode.{Mode}
use Rattle.test_store.specs.Copies.{fresh_row}
use Rattle.test_store.specs.Store.{row_in, TakesPlace, TakesNoPlace}

abbrev pub Says : Mode → ℕ → Links → ℕ → Op → List Held → Result (Option (List Held × Found)) AllocError → Type 0
Says mode n links e op row r = IfOk r (λ taken. MatchOption taken (TakesNoPlace mode n links e op row) (λ s. TakesPlace mode n links e op row s.1 s.0))

pub row_is : (rows : List (ℕ × List Held)) (n : ℕ) (kind : ModelKind) (key : ℕ) (row : List Held) → Some row ≡ lookup (nat_eq key) rows → row_in rows n kind key ≡ row
row_is rows n kind key row is = ap (λ (o : Option (List Held)). unwrap_or o (fresh_row n kind)) (sym is)

pub row_fresh : (rows : List (ℕ × List Held)) (n : ℕ) (kind : ModelKind) (key : ℕ) → None ≡ lookup (nat_eq key) rows → row_in rows n kind key ≡ fresh_row n kind
row_fresh rows n kind key is = ap (λ (o : Option (List Held)). unwrap_or o (fresh_row n kind)) (sym is)
