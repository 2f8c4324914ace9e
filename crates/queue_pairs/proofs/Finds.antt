-- places in a list, and what may be found in one
use Rattle.std.proofs.Common.{◌≡◌, ◌≢◌, ℕ, zero, suc, ◌<◌, ◌⊎◌, inl, inr, ⊎_elim, List, [], ◌∷◌, ◌++◌, length, refl, sym, ap, ◌∙◌, subst, arith, append_assoc}
use Rattle.std.specs.List.{Contains}
use Rattle.std.proofs.lemmas.List.Elements.{Contains-append_right}
use Rattle.events.specs.Events.{Mark}
use Rattle.events.specs.Events.Mark.{Invoked, Returned, Failed, Crashed}
use Rattle.models.specs.declared.operation.Op.{Op}
use Rattle.linspec.specs.MarkRule.{IsNew, AreWellFormed}
use Rattle.linspec.specs.Operations.{IsInvoked}
use Rattle.linspec.specs.Orders.{Pairwise}
use Rattle.linspec.proofs.Lists.{Contains-nil, Contains-head, Contains-tail, Contains-cons_cases, cut_at}

-- the first element of a list of which Q holds, if there is one
abbrev pub First : {X : Type 0} → (X → Type 0) → List X → Type 0
First {X} Q xs = (before : List X) × (x : X) × (after : List X) × (before ++ x ∷ after ≡ xs) × Q x × ((y : X) → Contains before y → ¬ Q y)

abbrev pub NoneOf : {X : Type 0} → (X → Type 0) → List X → Type 0
NoneOf {X} Q xs = (y : X) → Contains xs y → ¬ Q y

pub first_of : {X : Type 0} (Q : X → Type 0) → ((x : X) → Q x ⊎ (¬ Q x)) → (xs : List X) → First Q xs ⊎ NoneOf Q xs
first_of Q dec [] = inr (λ y h. absurd (Contains-nil y h))
first_of Q dec (x ∷ xs) = ⊎_elim
    (λ q. inl ([], x, xs, refl, q, λ y h. absurd (Contains-nil y h)))
    (λ n. ⊎_elim
    (λ k. inl (x ∷ k.0, k.1, k.2, ap (λ l. x ∷ l) k.3, k.4, λ y h. ⊎_elim (λ e. subst (λ z. ¬ Q z) e n) (k.5 y) (Contains-cons_cases x k.0 y h)))
    (λ none. inr (λ y h. ⊎_elim (λ e. subst (λ z. ¬ Q z) e n) (none y) (Contains-cons_cases x xs y h)))
    (first_of Q dec xs))
    (dec x)

-- two places in one list: everything before the second is before the first, or the first is before the second
pub compare : {X : Type 0} (b : List X) (y : X) (a c : List X) (x : X) (d : List X) → b ++ y ∷ a ≡ c ++ x ∷ d → ((z : X) → Contains c z → Contains b z) ⊎ Contains c y
compare b y a [] x d e = inl (λ z h. absurd (Contains-nil z h))
compare [] y a (w ∷ c) x d e = let h : y ≡ w = cc in inr (subst (Contains (w ∷ c)) (sym h) (Contains-head w c))
compare (u ∷ b) y a (w ∷ c) x d e =
    let h : u ≡ w = cc in
    let t : b ++ y ∷ a ≡ c ++ x ∷ d = cc in
    ⊎_elim
    (λ f. inl (λ z k. ⊎_elim (λ q. subst (Contains (u ∷ b)) (h ∙ q) (Contains-head u b)) (λ j. Contains-tail u b z (f z j)) (Contains-cons_cases w c z k)))
    (λ j. inr (Contains-tail w c y j))
    (compare b y a c x d t)

-- of two places in one list they are one, or one comes first
abbrev pub Same : {X : Type 0} → List X → X → List X → X → Type 0
Same b y c x = (b ≡ c) × (y ≡ x)

abbrev pub ComesFirst : {X : Type 0} → List X → X → List X → List X → X → List X → Type 0
ComesFirst {X} b y a c x d = (m : List X) × (c ≡ b ++ y ∷ m) × (a ≡ m ++ x ∷ d)

pub three : {X : Type 0} (b : List X) (y : X) (a c : List X) (x : X) (d : List X) → b ++ y ∷ a ≡ c ++ x ∷ d
    → ((P : Type 0) → (Same b y c x → P) → (ComesFirst b y a c x d → P) → (ComesFirst c x d b y a → P) → P)
three [] y a [] x d e P same first second = same (refl, (let h : y ≡ x = cc in h))
three [] y a (w ∷ c) x d e P same first second =
    let h : y ≡ w = cc in
    let t : a ≡ c ++ x ∷ d = cc in
    first (c, (λ i. sym h i ∷ c), t)
three (u ∷ b) y a [] x d e P same first second =
    let h : u ≡ x = cc in
    let t : b ++ y ∷ a ≡ d = cc in
    second (b, (λ i. h i ∷ b), sym t)
three (u ∷ b) y a (w ∷ c) x d e P same first second =
    let h : u ≡ w = cc in
    let t : b ++ y ∷ a ≡ c ++ x ∷ d = cc in
    three b y a c x d t P
    (λ s. same ((λ i. h i ∷ s.0 i), s.1))
    (λ f. first (f.0, (λ i. sym h i ∷ f.1 i), f.2))
    (λ f. second (f.0, (λ i. h i ∷ f.1 i), f.2))

-- two lists as long as each other, each before an element in one list
pub aligned : {X : Type 0} (xs ys : List X) (x y : X) (k l : List X) → length xs ≡ length ys → xs ++ x ∷ k ≡ ys ++ y ∷ l → x ≡ y
aligned [] [] x y k l n e = cc
aligned [] (z ∷ ys) x y k l n e = absurd (omega (arith, n))
aligned (z ∷ xs) [] x y k l n e = absurd (omega (arith, n))
aligned (z ∷ xs) (w ∷ ys) x y k l n e = aligned xs ys x y k l (omega (arith, n)) (let t : xs ++ x ∷ k ≡ ys ++ y ∷ l = cc in t)

pub cut_long : {X : Type 0} (xs : List X) (n : ℕ) → n < length xs → (ys : List X) × (y : X) × (zs : List X) × (xs ≡ ys ++ y ∷ zs) × (length ys ≡ n)
cut_long [] n lt = absurd (omega arith)
cut_long (x ∷ xs) zero lt = ([], x, xs, refl, refl)
cut_long (x ∷ xs) (suc n) lt = let r = cut_long xs n (omega arith) in (x ∷ r.0, r.1, r.2, ap (λ l. x ∷ l) r.3, ap suc r.4)

-- an element for each operation that is needed
module _ {X : Type 0} (ms : List Mark) (well : AreWellFormed ms) (key : X → ℕ) (Good : X → Type 0) (Needed : ℕ → Type 0) where
  pub record Collected (part : List Mark) (xs : List X) : Type 0 where
    pub each : (x : X) → Contains xs x → Good x × IsInvoked part (key x)
    pub all : (id : ℕ) → IsInvoked part id → Needed id → (x : X) × Contains xs x × (key x ≡ id)
    pub once : Pairwise (λ x y. key x ≢ key y) xs

  invoked_once : (before part : List Mark) (id : ℕ) (op b : Op) → before ++ Invoked id op ∷ part ≡ ms → Contains part (Invoked id b) → ⊥
  invoked_once before part id op b e h =
      let d = cut_at part (Invoked id b) h in
      let whole : (before ++ Invoked id op ∷ d.0) ++ Invoked id b ∷ d.1 ≡ ms = append_assoc before (Invoked id op ∷ d.0) (Invoked id b ∷ d.1) ∙ ap (λ l. before ++ Invoked id op ∷ l) (sym d.2) ∙ e in
      let new : IsNew (before ++ Invoked id op ∷ d.0) id = well (before ++ Invoked id op ∷ d.0) d.1 (Invoked id b) whole in
      new (Invoked id op) (Contains-append_right before (Invoked id op ∷ d.0) (Invoked id op) (Contains-head (Invoked id op) d.0)) refl

  passed : (m : Mark) (part : List Mark) → ((id : ℕ) (op : Op) → m ≢ Invoked id op) → (xs : List X) → Collected part xs → Collected (m ∷ part) xs
  passed m part other xs c = record {
    each = λ x h. (let k = c.each x h in (k.0, (k.1.0, Contains-tail m part _ k.1.1)));
    all = λ id i need. ⊎_elim (λ e. absurd (other id i.0 e)) (λ k. c.all id (i.0, k) need) (Contains-cons_cases m part (Invoked id i.0) i.1);
    once = c.once;
  }

  module _ (choose : (id : ℕ) (op : Op) → Contains ms (Invoked id op) → ((x : X) × (key x ≡ id) × Good x) ⊎ (¬ Needed id)) where
    collect : (part before : List Mark) → before ++ part ≡ ms → (xs : List X) × Collected part xs
    collect [] before e = (
      [],
      record {
        each = λ x h. absurd (Contains-nil x h);
        all = λ id i need. absurd (Contains-nil _ i.1);
        once = tt;
      },
    )
    collect (Invoked id op ∷ part) before e =
        let r = collect part (before ++ Invoked id op ∷ []) (append_assoc before (Invoked id op ∷ []) part ∙ e) in
        let here : Contains ms (Invoked id op) = subst (λ l. Contains l (Invoked id op)) e (Contains-append_right before (Invoked id op ∷ part) (Invoked id op) (Contains-head (Invoked id op) part)) in
        ⊎_elim
        (λ c.
        let x : X = c.0 in (
          x ∷ r.0,
          record {
            each = λ y h. ⊎_elim
                (λ q. subst (λ z. Good z × IsInvoked (Invoked id op ∷ part) (key z)) q (c.2, (op, subst (λ n. Contains (Invoked id op ∷ part) (Invoked n op)) (sym c.1) (Contains-head (Invoked id op) part))))
                (λ j. (let k = r.1.each y j in (k.0, (k.1.0, Contains-tail (Invoked id op) part _ k.1.1))))
                (Contains-cons_cases x r.0 y h);
            all = λ n i need. ⊎_elim
                (λ (q : Invoked id op ≡ Invoked n i.0). (let s : id ≡ n = cc in (x, Contains-head x r.0, c.1 ∙ s)))
                (λ k. (let j = r.1.all n (i.0, k) need in (j.0, Contains-tail x r.0 j.0 j.1, j.2)))
                (Contains-cons_cases (Invoked id op) part (Invoked n i.0) i.1);
            once = ((λ y h s. (let k = r.1.each y h in invoked_once before part id op k.1.0 e (subst (λ n. Contains part (Invoked n k.1.0)) (sym s ∙ c.1) k.1.1))), r.1.once);
          },
        ))
        (λ no. (
          r.0,
          record {
            each = λ y h. (let k = r.1.each y h in (k.0, (k.1.0, Contains-tail (Invoked id op) part _ k.1.1)));
            all = λ n i need. ⊎_elim
                (λ (q : Invoked id op ≡ Invoked n i.0). (let s : id ≡ n = cc in absurd (no (subst Needed (sym s) need))))
                (λ k. r.1.all n (i.0, k) need)
                (Contains-cons_cases (Invoked id op) part (Invoked n i.0) i.1);
            once = r.1.once;
          },
        ))
        (choose id op here)
    collect (Returned id a ∷ part) before e = let r = collect part (before ++ Returned id a ∷ []) (append_assoc before (Returned id a ∷ []) part ∙ e) in (r.0, passed (Returned id a) part (λ n op q. cc) r.0 r.1)
    collect (Failed id ∷ part) before e = let r = collect part (before ++ Failed id ∷ []) (append_assoc before (Failed id ∷ []) part ∙ e) in (r.0, passed (Failed id) part (λ n op q. cc) r.0 r.1)
    collect (Crashed id ∷ part) before e = let r = collect part (before ++ Crashed id ∷ []) (append_assoc before (Crashed id ∷ []) part ∙ e) in (r.0, passed (Crashed id) part (λ n op q. cc) r.0 r.1)

    pub collected : (xs : List X) × Collected ms xs
    collected = collect ms [] refl

pub some_of : {X : Type 0} (Q : X → Type 0) → ((x : X) → Q x ⊎ (¬ Q x)) → (xs : List X) → ((x : X) × Contains xs x × Q x) ⊎ NoneOf Q xs
some_of Q dec xs = ⊎_elim
    (λ k. inl (k.1, subst (λ l. Contains l k.1) k.3 (Contains-append_right k.0 (k.1 ∷ k.2) k.1 (Contains-head k.1 k.2)), k.4))
    inr
    (first_of Q dec xs)
