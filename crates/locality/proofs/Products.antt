-- a run of all keys is a run of each
use Rattle.std.proofs.Common.{◌≡◌, ◌≢◌, ℕ, ⊎_elim, cond, true, nat_eq, List, [], ◌∷◌, refl, sym, ap, subst}
use mathlib.Core.Path.{fun_ext}
use Rattle.std.specs.List.{filter, Contains}
use Rattle.std.proofs.lemmas.Bool.{cases_eq, eq-eqb, eqb-true, ne_eqb}
use Rattle.kinds.specs.declared.model_kind.ModelKind.{ModelKind}
use Rattle.kinds.specs.Kinds.{object_of}
use Rattle.linspec.specs.Orders.{Taken, Run}
use Rattle.linspec.specs.Orders.{product}
use Rattle.linspec.proofs.Filters.{from_filter, to_filter}
use Rattle.linspec.proofs.Puts.{put, put_same, put_other}

-- the operations of a key, in their order
abbrev pub on_key : ℕ → List Taken → List Taken
on_key k order = filter (λ x. nat_eq x.op.key k) order

pub on_key-same : (k : ℕ) (x : Taken) (order : List Taken) → x.op.key ≡ k → on_key k (x ∷ order) ≡ x ∷ on_key k order
on_key-same k x order e = ap (λ b. cond b (x ∷ on_key k order) (on_key k order)) (eq-eqb x.op.key k e)

pub on_key-other : (k : ℕ) (x : Taken) (order : List Taken) → x.op.key ≢ k → on_key k (x ∷ order) ≡ on_key k order
on_key-other k x order ne = ap (λ b. cond b (x ∷ on_key k order) (on_key k order)) (ne_eqb x.op.key k ne)

pub from_on_key : (k : ℕ) (order : List Taken) (x : Taken) → Contains (on_key k order) x → Contains order x × (x.op.key ≡ k)
from_on_key k order x h = let r : Contains order x × (nat_eq x.op.key k ≡ true) = from_filter (λ (x : Taken). nat_eq x.op.key k) order x h in (r.0, eqb-true x.op.key k r.1)

pub to_on_key : (k : ℕ) (order : List Taken) (x : Taken) → Contains order x → x.op.key ≡ k → Contains (on_key k order) x
to_on_key k order x h e = to_filter (λ (x : Taken). nat_eq x.op.key k) order x h (eq-eqb x.op.key k e)

module _ (kinds : ℕ → ModelKind) where
  pub Run-split : (order : List Taken) (s t : (k : ℕ) → (object_of (kinds k)).State) → Run (product kinds) s order t → (k : ℕ) → Run (object_of (kinds k)) (s k) (on_key k order) (t k)
  Run-split [] s t r k = ap (λ (f : (k : ℕ) → (object_of (kinds k)).State). f k) r
  Run-split (x ∷ order) s t r k =
      ⊎_elim
      (λ e. subst (λ l. Run (object_of (kinds k)) (s k) l (t k)) (sym (on_key-same k x order e))
      (r.0 k, subst (λ j. (object_of (kinds j)).Steps (s j) x.op x.found (r.0 j)) e r.1.0, Run-split order r.0 t r.2 k))
      (λ ne. subst (λ l. Run (object_of (kinds k)) (s k) l (t k)) (sym (on_key-other k x order ne))
      (subst (λ u. Run (object_of (kinds k)) u (on_key k order) (t k)) (r.1.1 k (λ e. ne (sym e))) (Run-split order r.0 t r.2 k)))
      (cases_eq x.op.key k)

  pub Run-join : (order : List Taken) (s t : (k : ℕ) → (object_of (kinds k)).State) → ((k : ℕ) → Run (object_of (kinds k)) (s k) (on_key k order) (t k)) → Run (product kinds) s order t
  Run-join [] s t r = fun_ext r
  Run-join (x ∷ order) s t r =
      let k : ℕ = x.op.key in
      let here : Run (object_of (kinds k)) (s k) (x ∷ on_key k order) (t k) = subst (λ l. Run (object_of (kinds k)) (s k) l (t k)) (on_key-same k x order refl) (r k) in
      let mid : (j : ℕ) → (object_of (kinds j)).State = put kinds s k here.0 in (
        mid,
        (subst (λ u. (object_of (kinds k)).Steps (s k) x.op x.found u) (sym (put_same kinds s k here.0)) here.1, λ j ne. put_other kinds s k here.0 j ne),
        Run-join order mid t (λ j. ⊎_elim
            (λ e. subst (λ i. Run (object_of (kinds i)) (mid i) (on_key i order) (t i)) (sym e) (subst (λ u. Run (object_of (kinds k)) u (on_key k order) (t k)) (sym (put_same kinds s k here.0)) here.2))
            (λ ne. subst (λ u. Run (object_of (kinds j)) u (on_key j order) (t j)) (sym (put_other kinds s k here.0 j ne)) (subst (λ l. Run (object_of (kinds j)) (s j) l (t j)) (on_key-other j x order (λ e. ne (sym e))) (r j)))
            (cases_eq j k)),
      )
