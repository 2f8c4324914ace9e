-- how many ends there are, where a list has each once
use Rattle.std.proofs.Common.{◌≡◌, ◌≢◌, ◌↔◌, ℕ, suc, ◌+◌, ◌≤◌, ◌<◌, ⊎_elim, Bool, List, [], ◌∷◌, ◌++◌, take, drop, length, sym, ap, subst, arith, length-append}
use Rattle.std.specs.List.{Contains}
use Rattle.std.proofs.lemmas.List.{length-take, take-append-drop}
use Rattle.std.proofs.lemmas.List.Elements.{Contains-append_left, Contains-append_right, Contains-append_cases}
use Rattle.models.specs.declared.operation.Op.{Op}
use Rattle.models.specs.Objects.{Object}
use Rattle.events.specs.Events.{Mark}
use Rattle.linspec.specs.Orders.{Pairwise}
use Rattle.linspec.specs.Ends.{End, IsEndBy, HasMoreThanBy}
use Rattle.linspec.proofs.Lists.{Contains-head, Contains-tail, Contains-cons_cases, Pairwise-left, cut_at}

-- a list without repeats is no longer than one that has all its elements
pub no_longer_than : {X : Type 0} (xs ys : List X) → Pairwise (λ x y. x ≢ y) xs → ((x : X) → Contains xs x → Contains ys x) → length xs ≤ length ys
no_longer_than [] ys once h = omega arith
no_longer_than {X} (x ∷ xs) ys once h =
    let c = cut_at ys x (h x (Contains-head x xs)) in
    let rest : length xs ≤ length (c.0 ++ c.1) = no_longer_than xs (c.0 ++ c.1) once.1 (λ y k.
    ⊎_elim
    (λ i. Contains-append_left c.0 c.1 y i)
    (λ i. ⊎_elim (λ e. absurd (once.0 y k e)) (λ j. Contains-append_right c.0 c.1 y j) (Contains-cons_cases x c.1 y i))
    (Contains-append_cases c.0 (x ∷ c.1) y (subst (λ l. Contains l y) c.2 (h y (Contains-tail x xs y k))))) in
    let whole : length ys ≡ length (c.0 ++ x ∷ c.1) = ap length c.2 in
    let a : length (c.0 ++ x ∷ c.1) ≡ length c.0 + suc (length c.1) = length-append c.0 (x ∷ c.1) in
    let b : length (c.0 ++ c.1) ≡ length c.0 + length c.1 = length-append c.0 c.1 in
    omega arith

-- a list that has each end once has as many elements as there are ends
pub more_ends : {counts : Op → Bool} (o : Object) (marks : List Mark) (ends : List (End o.State)) (n : ℕ) → Pairwise (λ e f. e ≢ f) ends → ((e : End o.State) → Contains ends e ↔ IsEndBy counts o marks e) → HasMoreThanBy counts o marks n ↔ (n < length ends)
more_ends o marks ends n once each = (
  (λ h. let l : length h.ends ≤ length ends = no_longer_than h.ends ends h.distinct (λ e k. (each e).1 (h.each e k)) in let m : length h.ends ≡ n + 1 = h.many in omega arith),
  (λ lt. record {
    ends = take (n + 1) ends;
    many = simp length-take (omega arith);
    distinct = Pairwise-left (λ e f. e ≢ f) (take (n + 1) ends) (drop (n + 1) ends) (subst (Pairwise (λ e f. e ≢ f)) (sym (take-append-drop (n + 1) ends)) once);
    each = λ e k. (each e).0 (subst (λ l. Contains l e) (take-append-drop (n + 1) ends) (Contains-append_left (take (n + 1) ends) (drop (n + 1) ends) e k));
  }),
)
