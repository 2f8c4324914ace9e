-- operations that take owed values, by the moments of their invocations
use Rattle.std.proofs.Common.{◌≡◌, ℕ, ◌≤◌, ℤ, ⊎_elim, true, false, cond, nat_eq, List, [], ◌∷◌, sym, ap, ◌∙◌, subst}
use Rattle.std.specs.List.{Contains}
use Rattle.std.specs.Ordering.{int_eq}
use Rattle.std.proofs.lemmas.Bool.{cases_Bool, true≢false, eqb-true, eq-eqb}
use Rattle.std.proofs.lemmas.Bool.Decides.{Decides-int_eq}
use Rattle.models.specs.declared.operation.Op.{Op}
use Rattle.events.specs.Events.{Mark}
use Rattle.events.specs.Events.Mark.{Invoked}
use Rattle.linspec.specs.MarkRule.{AreWellFormed}
use Rattle.linspec.specs.Orders.{Pairwise}
use Rattle.linspec.proofs.Lists.{Contains-nil, Contains-head, Contains-tail, Contains-cons_cases}
use Rattle.wide_fifo_queue.specs.declared.known.Owed.{Owed}
use Rattle.wide_fifo_queue.specs.Facts.{StandsAt, IsServed}
use Rattle.wide_fifo_queue.proofs.Moments.{invoked_at_once, stands_once}
use Rattle.wide_fifo_queue.proofs.Serving.{Serves, IsInTurn, IsLess, served_gives, gives_served}

-- a function that finds what there is for each number of the list
pub chosen : (ts : List ℕ) (Q : ℕ → ℕ → Type 0) → ((t : ℕ) → Contains ts t → (n : ℕ) × Q t n) → (pick : ℕ → ℕ) × ((t : ℕ) → Contains ts t → Q t (pick t))
chosen [] Q has = ((λ t. t), λ t h. absurd (Contains-nil t h))
chosen (s ∷ ts) Q has =
    let rest = chosen ts Q (λ t h. has t (Contains-tail s ts t h)) in
    let first = has s (Contains-head s ts) in (
      (λ t. cond (nat_eq t s) first.0 (rest.0 t)),
      λ t h. ⊎_elim
          (λ (e : nat_eq t s ≡ true). subst (Q t) (sym (ap (λ b. cond b first.0 (rest.0 t)) e)) (subst (λ x. Q x first.0) (sym (eqb-true t s e)) first.1))
          (λ (e : nat_eq t s ≡ false). subst (Q t) (sym (ap (λ b. cond b first.0 (rest.0 t)) e)) (rest.1 t (⊎_elim (λ (same : s ≡ t). absurd (true≢false (sym (eq-eqb t s (sym same)) ∙ e))) (λ k. k) (Contains-cons_cases s ts t h))))
          (cases_Bool (nat_eq t s)),
    )

-- the same for each owed value
pub chosen_for : (os : List Owed) (Q : ℤ → ℕ → Type 0) → ((o : Owed) → Contains os o → (n : ℕ) × Q o.value n) → (pick : ℤ → ℕ) × ((o : Owed) → Contains os o → Q o.value (pick o.value))
chosen_for [] Q has = ((λ u. 0), λ o h. absurd (Contains-nil o h))
chosen_for (p ∷ os) Q has =
    let rest = chosen_for os Q (λ o h. has o (Contains-tail p os o h)) in
    let first = has p (Contains-head p os) in (
      (λ u. cond (int_eq u p.value) first.0 (rest.0 u)),
      λ o h. ⊎_elim
          (λ (e : int_eq o.value p.value ≡ true). subst (Q o.value) (sym (ap (λ b. cond b first.0 (rest.0 o.value)) e)) (subst (λ x. Q x first.0) (sym ((Decides-int_eq o.value p.value).0 e)) first.1))
          (λ (e : int_eq o.value p.value ≡ false). subst (Q o.value) (sym (ap (λ b. cond b first.0 (rest.0 o.value)) e)) (rest.1 o (⊎_elim (λ (same : p ≡ o). absurd (true≢false (sym ((Decides-int_eq o.value p.value).1 (ap (λ (x : Owed). x.value) (sym same))) ∙ e))) (λ k. k) (Contains-cons_cases p os o h))))
          (cases_Bool (int_eq o.value p.value)),
    )

-- the operation may take a value, and was invoked at the moment
abbrev pub StandsFor : List Mark → (ℕ → Type 0) → ℕ → ℕ → Type 0
StandsFor ms may t id = (op : Op) × may id × StandsAt ms t (Invoked id op)

-- each owed value is taken by an operation of its own that may take one, and was invoked by the deadline
pub record Take (ms : List Mark) (may : ℕ → Type 0) (owed : List Owed) (taker : ℤ → ℕ) : Type 0 where
  pub may_take : (o : Owed) → Contains owed o → may (taker o.value)
  pub in_time : (o : Owed) (n : ℕ) (op : Op) → Contains owed o → StandsAt ms n (Invoked (taker o.value) op) → n ≤ o.deadline
  pub apart : (o p : Owed) → Contains owed o → Contains owed p → taker o.value ≡ taker p.value → o.value ≡ p.value

-- the moments are those of the operations that may take a value
pub record AreMomentsOf (ms : List Mark) (may : ℕ → Type 0) (takers : List ℕ) : Type 0 where
  pub is : (t : ℕ) → Contains takers t → (id : ℕ) × StandsFor ms may t id
  pub all : (id : ℕ) → may id → (t : ℕ) × (op : Op) × Contains takers t × StandsAt ms t (Invoked id op)
  pub in_order : Pairwise IsLess takers

module _ (ms : List Mark) (well : AreWellFormed ms) (may : ℕ → Type 0) (takers : List ℕ) (are : AreMomentsOf ms may takers) (owed : List Owed) (turn : Pairwise IsInTurn owed) where
  pub served_take : IsServed takers owed → (taker : ℤ → ℕ) × Take ms may owed taker
  served_take served =
      let give = served_gives takers owed are.in_order turn served in
      let pick = chosen takers (StandsFor ms may) are.is in
      let serves : Serves takers owed give.0 = give.1 in
      let is : (o : Owed) → Contains owed o → StandsFor ms may (give.0 o.value) (pick.0 (give.0 o.value)) = λ o h. pick.1 (give.0 o.value) (serves.among o h) in (
        (λ u. pick.0 (give.0 u)),
        record {
          may_take = λ o h. (is o h).1;
          in_time = λ o n op h s.
              let k = is o h in
              let e : n ≡ give.0 o.value = invoked_at_once ms well (pick.0 (give.0 o.value)) n (give.0 o.value) op k.0 s k.2 in
              subst (λ x. x ≤ o.deadline) (sym e) (serves.in_time o h);
          apart = λ o p h k same.
              let i = is o h in
              let j = is p k in
              let moved : StandsAt ms (give.0 p.value) (Invoked (pick.0 (give.0 o.value)) j.0) = subst (λ x. StandsAt ms (give.0 p.value) (Invoked x j.0)) (sym same) j.2 in
              serves.apart o p h k (invoked_at_once ms well (pick.0 (give.0 o.value)) (give.0 o.value) (give.0 p.value) i.0 j.0 i.2 moved);
        },
      )

  pub take_served : (taker : ℤ → ℕ) → Take ms may owed taker → IsServed takers owed
  take_served taker take =
      let at : (o : Owed) → Contains owed o → (t : ℕ) × (op : Op) × Contains takers t × StandsAt ms t (Invoked (taker o.value) op) = λ o h. are.all (taker o.value) (take.may_take o h) in
      let give = chosen_for owed (λ u t. (op : Op) × Contains takers t × StandsAt ms t (Invoked (taker u) op)) (λ o h. (let k = at o h in (k.0, (k.1, k.2, k.3)))) in
      gives_served takers owed are.in_order turn give.0 (record {
        among = λ o h. (give.1 o h).1;
        in_time = λ o h. (let k = give.1 o h in take.in_time o (give.0 o.value) k.0 h k.2);
        apart = λ o p h k same. take.apart o p h k (one_invoked (give.0 o.value) (taker o.value) (taker p.value) (give.1 o h).0 (give.1 p k).0 (give.1 o h).2
            (subst (λ t. StandsAt ms t (Invoked (taker p.value) (give.1 p k).0)) (sym same) (give.1 p k).2));
      })
    where
      one_invoked : (t a b : ℕ) (x y : Op) → StandsAt ms t (Invoked a x) → StandsAt ms t (Invoked b y) → a ≡ b
      one_invoked t a b x y s r = let e : Invoked a x ≡ Invoked b y = stands_once ms t (Invoked a x) (Invoked b y) s r in cc
