-- which orders an end stands for: those that come of it where more of the open and crashed writes take place, and no other cas
use Rattle.std.proofs.Common.{◌≡◌, ◌≢◌, ℕ, ℤ, ◌⊎◌, inl, inr, ⊎_elim, IsTrue, Option, Some, None, List, [], ◌∷◌, ◌++◌, refl, sym, ap, ◌∙◌, subst, append-nil}
use Rattle.std.specs.List.{Contains}
use Rattle.std.proofs.lemmas.List.Elements.{Contains-append_left, Contains-push_cases}
use Rattle.models.specs.Objects.{cas_register}
use Rattle.events.specs.Events.{Mark}
use Rattle.linspec.specs.Operations.{IsOpen, Precedes}
use Rattle.linspec.specs.Orders.{Taken, Includes, Run}
use Rattle.linspec.proofs.Lists.{Contains-nil}
use Rattle.linspec.proofs.Marks.{Run-cut}
use Rattle.linspec.specs.LeanEnds.{IsWriteOf, MayRead, LeanEnd}
use Rattle.lean_ends.proofs.Splits.{two_cuts}
use Rattle.lean_ends.proofs.Covers.{Extra}
use Rattle.linspec.specs.CasEnds.{Sets, IsCasOf}
use Rattle.cas_ends.proofs.Steps.{run_same}

-- the read may stand where the value is v: no operation behind it precedes it
abbrev pub MayFind : List Mark → List Taken → ℕ → ℤ → Type 0
MayFind marks order r v =
    (xs ys : List Taken) × (order ≡ xs ++ ys) × Run cas_register None xs (Some v) × ((y : Taken) → Contains ys y → ¬ Precedes marks y.id r)

-- no other write takes place behind: each that is open may take place before the last one
pub record CoversSame (marks : List Mark) (e : LeanEnd) (order : List Taken) (t : Option ℤ) : Type 0 where
  pub state : t ≡ e.state
  pub placed : (x : ℕ) (v : ℤ) → Extra marks e order x v → IsOpen marks x → IsTrue (e.door x)
  pub finds : (r : ℕ) (v : ℤ) → MayRead marks r → MayFind marks order r v
      → IsTrue (e.finds r v) ⊎ ((x : ℕ) × Extra marks e order x v × IsTrue (e.door x) × IsTrue (e.door r))

-- other writes take place behind
pub record CoversBehind (marks : List Mark) (e : LeanEnd) (order : List Taken) (t : Option ℤ) : Type 0 where
  pub last : (x : ℕ) × (v : ℤ) × Extra marks e order x v × (t ≡ Some v)
  pub finds : (r : ℕ) (v : ℤ) → MayRead marks r → MayFind marks order r v
      → IsTrue (e.finds r v) ⊎ ((x : ℕ) × Extra marks e order x v)

abbrev pub IsUpdate : List Mark → ℕ → Type 0
IsUpdate marks i = ((v : ℤ) × IsWriteOf marks i v) ⊎ ((a : ℤ) × (b : ℤ) × IsCasOf marks i a b)

pub record Covers (marks : List Mark) (e : LeanEnd) (order : List Taken) (t : Option ℤ) : Type 0 where
  pub needed : (i : ℕ) → IsTrue (e.needed i) → Includes order i × IsUpdate marks i
  -- each cas in the order that is open is needed
  pub sets : (y : Taken) (a b : ℤ) → Contains order y → Sets y.op a b → IsOpen marks y.id → IsTrue (e.needed y.id)
  pub how : CoversSame marks e order t ⊎ CoversBehind marks e order t

-- one more operation behind
module _ (marks : List Mark) (p : List Taken) (y : Taken) (u t : Option ℤ) (run_p : Run cas_register None p u) (step : cas_register.Steps u y.op y.found t) where
  -- where a read may stand: within what was there, or behind the operation
  pub find_push : (r : ℕ) (v : ℤ) → MayFind marks (p ++ y ∷ []) r v → MayFind marks p r v ⊎ (t ≡ Some v)
  find_push r v f = ⊎_elim
      (λ k. behind k.0 k.1 k.2)
      (λ k. inl (f.0, k.0, k.1, f.3, (λ z h. f.4 z (subst (λ ys. Contains ys z) (sym k.2) (Contains-append_left k.0 (y ∷ []) z h)))))
      (two_cuts p (y ∷ []) f.0 f.1 f.2)
    where
      behind : (m : List Taken) → f.0 ≡ p ++ m → y ∷ [] ≡ m ++ f.1 → MayFind marks p r v ⊎ (t ≡ Some v)
      behind [] at rest = inl (p, [], sym (append-nil p), subst (λ xs. Run cas_register None xs (Some v)) (at ∙ append-nil p) f.3, (λ z h. absurd (Contains-nil z h)))
      behind (z ∷ []) at rest =
          let same : y ≡ z = cc in
          let c = Run-cut cas_register None (Some v) p (z ∷ []) (subst (λ xs. Run cas_register None xs (Some v)) at f.3) in
          let there : Run cas_register u (y ∷ []) (Some v) = subst (λ s. Run cas_register s (y ∷ []) (Some v)) (run_same p None c.0 u c.1 run_p) (subst (λ w. Run cas_register c.0 (w ∷ []) (Some v)) (sym same) c.2) in
          inr (run_same (y ∷ []) u t (Some v) (t, step, refl) there)
      behind (z ∷ w ∷ m) at rest = let q : [] ≡ (w ∷ m) ++ f.1 = cc in cc

-- a write that may still take place is in the longer order too; one that is in the longer order was there, or is the new one
module _ (marks : List Mark) (e : LeanEnd) (p : List Taken) (y : Taken) (x : ℕ) (v : ℤ) where
  pub extra_up : Extra marks e p x v → Extra marks e (p ++ y ∷ []) x v
  extra_up k = record { is_in = (k.is_in.0, Contains-append_left p (y ∷ []) k.is_in.0 k.is_in.1, k.is_in.2); may = k.may; free = k.free }

  pub extra_down : x ≢ y.id → Extra marks e (p ++ y ∷ []) x v → Extra marks e p x v
  extra_down ne k = ⊎_elim
      (λ h. record { is_in = (k.is_in.0, h, k.is_in.2); may = k.may; free = k.free })
      (λ q. absurd (ne (sym (ap (λ (w : Taken). w.id) q ∙ k.is_in.2))))
      (Contains-push_cases p y k.is_in.0 k.is_in.1)
