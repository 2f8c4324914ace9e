-- one more operation within a legal order
use Rattle.std.proofs.Common.{◌≡◌, ◌≢◌, ◌⊎◌, inl, inr, ⊎_elim, List, ◌∷◌, ◌++◌, sym, subst}
use Rattle.std.specs.List.{Contains}
use Rattle.std.proofs.lemmas.List.Elements.{Contains-append_left, Contains-append_right, Contains-append_cases}
use Rattle.models.specs.Objects.{Object}
use Rattle.events.specs.Events.{Mark}
use Rattle.events.specs.Events.Mark.{Invoked, Returned, Failed}
use Rattle.linspec.specs.Operations.{HasReturned, Precedes}
use Rattle.linspec.specs.Orders.{Taken, Includes, Pairwise, Run, IsLegalOrder}
use Rattle.linspec.proofs.Lists.{Contains-head, Contains-tail, Contains-cons_cases, Pairwise-append, Pairwise-left, Pairwise-right, Pairwise-across}
use Rattle.linspec.proofs.Marks.{Run-append, Precedes-returned}

-- who is in the longer list
pub within_cases : {X : Type 0} (xs ys : List X) (x y : X) → Contains (xs ++ x ∷ ys) y → (x ≡ y) ⊎ Contains (xs ++ ys) y
within_cases xs ys x y h = ⊎_elim
    (λ k. inr (Contains-append_left xs ys y k))
    (λ k. ⊎_elim inl (λ j. inr (Contains-append_right xs ys y j)) (Contains-cons_cases x ys y k))
    (Contains-append_cases xs (x ∷ ys) y h)

pub within_it : {X : Type 0} (xs ys : List X) (x : X) → Contains (xs ++ x ∷ ys) x
within_it xs ys x = Contains-append_right xs (x ∷ ys) x (Contains-head x ys)

pub within_others : {X : Type 0} (xs ys : List X) (x y : X) → Contains (xs ++ ys) y → Contains (xs ++ x ∷ ys) y
within_others xs ys x y h = ⊎_elim
    (Contains-append_left xs (x ∷ ys) y)
    (λ k. Contains-append_right xs (x ∷ ys) y (Contains-tail x ys y k))
    (Contains-append_cases xs ys y h)

Pairwise-within : {X : Type 0} (R : X → X → Type 0) (xs ys : List X) (x : X) → Pairwise R (xs ++ ys) → ((y : X) → Contains xs y → R y x) → ((y : X) → Contains ys y → R x y) → Pairwise R (xs ++ x ∷ ys)
Pairwise-within {X} R xs ys x p before after =
    Pairwise-append R xs (x ∷ ys) (Pairwise-left R xs ys p) (after, Pairwise-right R xs ys p)
    (λ y z h k. ⊎_elim (λ e. subst (R y) e (before y h)) (λ j. Pairwise-across R xs ys p y z h j) (Contains-cons_cases x ys z k))

-- a pending operation may take place within a legal order, behind none that it precedes and before none that precedes it
pub IsLegalOrder-within : (o : Object) (marks : List Mark) (xs ys : List Taken) (s u t : o.State) (x : Taken) → IsLegalOrder o marks (xs ++ ys) t
    → Contains marks (Invoked x.id x.op) → ¬ HasReturned marks x.id → ¬ Contains marks (Failed x.id) → ¬ Includes (xs ++ ys) x.id
    → ((y : Taken) → Contains ys y → ¬ Precedes marks y.id x.id)
    → Run o o.start xs s → o.Steps s x.op x.found u → Run o u ys t
    → IsLegalOrder o marks (xs ++ x ∷ ys) t
IsLegalOrder-within o marks xs ys s u t x l invoked not_returned not_failed not_in late run_to step run_on = record {
  invoked = λ y h. ⊎_elim (λ e. subst (λ (z : Taken). Contains marks (Invoked z.id z.op)) e invoked) (l.invoked y) (within_cases xs ys x y h);
  once = Pairwise-within (λ y z. y.id ≢ z.id) xs ys x l.once
      (λ y h e. not_in (y, Contains-append_left xs ys y h, e))
      (λ y h e. not_in (y, Contains-append_right xs ys y h, sym e));
  none_failed = λ y h. ⊎_elim (λ e k. not_failed (subst (λ (z : Taken). Contains marks (Failed z.id)) (sym e) k)) (l.none_failed y) (within_cases xs ys x y h);
  all_done = λ id r. (let i : Includes (xs ++ ys) id = l.all_done id r in (i.0, within_others xs ys x i.0 i.1, i.2));
  in_time = Pairwise-within (λ y z. ¬ Precedes marks z.id y.id) xs ys x l.in_time
      (λ y h p. not_returned (Precedes-returned marks x.id y.id p))
      late;
  run = Run-append o o.start s t xs (x ∷ ys) run_to (u, step, run_on);
  fits = λ y a h k. ⊎_elim (λ e. absurd (not_returned (a, subst (λ (z : Taken). Contains marks (Returned z.id a)) (sym e) k))) (λ j. l.fits y a j k) (within_cases xs ys x y h);
}
