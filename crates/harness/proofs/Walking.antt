-- Tests of each element in turn
use Rattle.std.proofs.Common.{◌≡◌, ℕ, suc, ◌+◌, ◌<◌, List, [], ◌∷◌, ◌++◌, length, get_or, drop, sym, ap, ◌∙◌, subst, add-one, drop-cons}
use Rattle.generators.specs.Turns.{IsTurnOf}
use Rattle.generators.specs.declared.item.Item.{Item}
use Rattle.generators.specs.declared.form.Gen.{Gen}
use Rattle.generators.specs.Generators.{generator_of, generators_of, Each, AllItems, AllItemsOf}

-- the one holds where the other does
abbrev pub Comes : Type 0 → Type 0 → Type 0
Comes A B = (A → B) × (B → A)

-- the test of the first element decided, or it failed
pub comes_on : (A B C P : Type 0) → Comes A B → Comes A (P × C) → P → Comes C B
comes_on A B C P c s p = ((λ x. c.0 (s.1 (p, x))), (λ b. (s.0 (c.1 b)).1))

pub comes_not : (A B C P : Type 0) → Comes A B → Comes A (P × C) → ¬ P → ¬ B
comes_not A B C P c s denied b = denied (s.0 (c.1 b)).0

-- the element at an index, and those behind it
pub drop_at : {X : Type 0} (xs : List X) (i : ℕ) (x : X) → i < length xs → x ≡ get_or xs i x → drop i xs ≡ x ∷ drop (i + 1) xs
drop_at xs i x l is = rw add-one (drop-cons xs i x l ∙ ap (λ y. y ∷ drop (suc i) xs) (sym is))

pub each_at : {X : Type 0} (P : X → Type 0) (xs rest more : List X) (x : X) → rest ≡ x ∷ more → Comes (Each P rest) (P x × Each P more)
each_at P xs rest more x is = ((λ h. subst (Each P) is h), (λ h. subst (Each P) (sym is) h))

each_swap : {X : Type 0} (P : X → Type 0) (xs ys : List X) → Each P (xs ++ ys) → Each P xs × Each P ys
each_swap P [] ys h = (tt, h)
each_swap P (x ∷ xs) ys h = (let r = each_swap P xs ys h.1 in ((h.0, r.0), r.1))

each_join : {X : Type 0} (P : X → Type 0) (xs ys : List X) → Each P xs → Each P ys → Each P (xs ++ ys)
each_join P [] ys a b = b
each_join P (x ∷ xs) ys a b = (a.0, each_join P xs ys a.1 b)

-- whatever the turn
pub each_turn : {X : Type 0} (P : X → Type 0) (xs ys : List X) → IsTurnOf xs ys → Comes (Each P xs) (Each P ys)
each_turn P xs ys t = (
  (λ h. (let r = each_swap P t.0 t.1 (subst (Each P) t.2 h) in subst (Each P) (sym t.3) (each_join P t.1 t.0 r.1 r.0))),
  (λ h. (let r = each_swap P t.1 t.0 (subst (Each P) t.3 h) in subst (Each P) (sym t.2) (each_join P t.0 t.1 r.1 r.0))),
)

pub children_at : (P : Item → Type 0) (rest more : List Gen) (x : Gen) → rest ≡ x ∷ more → Comes (AllItemsOf P (generators_of rest)) (AllItems P (generator_of x) × AllItemsOf P (generators_of more))
children_at P rest more x is = (
  (λ h. subst (λ (l : List Gen). AllItemsOf P (generators_of l)) is h),
  (λ h. subst (λ (l : List Gen). AllItemsOf P (generators_of l)) (sym is) h),
)
