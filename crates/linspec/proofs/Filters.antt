-- elements of filtered and mapped lists, and two cuts of one list
use Rattle.std.proofs.Common.{◌≡◌, ◌⊎◌, inl, inr, ⊎_elim, Bool, true, false, cond, List, [], ◌∷◌, ◌++◌, map, refl, sym, ap, ◌∙◌, subst}
use Rattle.std.specs.List.{filter, Contains}
use Rattle.std.proofs.lemmas.Bool.{cases_Bool}
use Rattle.events.specs.Events.{IsPrefixOf}
use Rattle.linspec.specs.Orders.{Pairwise}
use Rattle.linspec.proofs.Lists.{Contains-nil, Contains-head, Contains-tail, Contains-cons_cases}

module _ {X : Type 0} (p : X → Bool) where
  pub filter-yes : (x : X) (xs : List X) → p x ≡ true → filter p (x ∷ xs) ≡ x ∷ filter p xs
  filter-yes x xs e = ap (λ b. cond b (x ∷ filter p xs) (filter p xs)) e

  pub filter-no : (x : X) (xs : List X) → p x ≡ false → filter p (x ∷ xs) ≡ filter p xs
  filter-no x xs e = ap (λ b. cond b (x ∷ filter p xs) (filter p xs)) e

  pub from_filter : (xs : List X) (x : X) → Contains (filter p xs) x → Contains xs x × (p x ≡ true)
  from_filter [] x h = absurd (Contains-nil x h)
  from_filter (y ∷ xs) x h =
      ⊎_elim
      (λ e. ⊎_elim
      (λ is. (subst (Contains (y ∷ xs)) is (Contains-head y xs), subst (λ w. p w ≡ true) is e))
      (λ k. let r : Contains xs x × (p x ≡ true) = from_filter xs x k in (Contains-tail y xs x r.0, r.1))
      (Contains-cons_cases y (filter p xs) x (subst (λ l. Contains l x) (filter-yes y xs e) h)))
      (λ e. let r : Contains xs x × (p x ≡ true) = from_filter xs x (subst (λ l. Contains l x) (filter-no y xs e) h) in (Contains-tail y xs x r.0, r.1))
      (cases_Bool (p y))

  pub to_filter : (xs : List X) (x : X) → Contains xs x → p x ≡ true → Contains (filter p xs) x
  to_filter [] x h e = absurd (Contains-nil x h)
  to_filter (y ∷ xs) x h e =
      ⊎_elim
      (λ is. subst (λ l. Contains l x) (sym (filter-yes y xs (subst (λ w. p w ≡ true) (sym is) e))) (subst (Contains (y ∷ filter p xs)) is (Contains-head y (filter p xs))))
      (λ k. ⊎_elim
      (λ yes. subst (λ l. Contains l x) (sym (filter-yes y xs yes)) (Contains-tail y (filter p xs) x (to_filter xs x k e)))
      (λ not. subst (λ l. Contains l x) (sym (filter-no y xs not)) (to_filter xs x k e))
      (cases_Bool (p y)))
      (Contains-cons_cases y xs x h)

  pub filter-all : (xs : List X) → ((x : X) → Contains xs x → p x ≡ true) → filter p xs ≡ xs
  filter-all [] h = refl
  filter-all (x ∷ xs) h = filter-yes x xs (h x (Contains-head x xs)) ∙ ap (λ l. x ∷ l) (filter-all xs (λ y k. h y (Contains-tail x xs y k)))

  pub filter-none : (xs : List X) → ((x : X) → Contains xs x → p x ≡ false) → filter p xs ≡ []
  filter-none [] h = refl
  filter-none (x ∷ xs) h = filter-no x xs (h x (Contains-head x xs)) ∙ filter-none xs (λ y k. h y (Contains-tail x xs y k))

  pub Pairwise-filter : (R : X → X → Type 0) (xs : List X) → Pairwise R xs → Pairwise R (filter p xs)
  Pairwise-filter R [] h = tt
  Pairwise-filter R (x ∷ xs) h =
      ⊎_elim
      (λ yes. subst (Pairwise R) (sym (filter-yes x xs yes)) ((λ y k. h.0 y (from_filter xs y k).0), Pairwise-filter R xs h.1))
      (λ not. subst (Pairwise R) (sym (filter-no x xs not)) (Pairwise-filter R xs h.1))
      (cases_Bool (p x))

-- a cut of a filtered list is a cut of the list
pub filter-cut : {X : Type 0} (p : X → Bool) (xs before after : List X) → before ++ after ≡ filter p xs
    → (ys : List X) × (zs : List X) × (xs ≡ ys ++ zs) × (before ≡ filter p ys) × (after ≡ filter p zs)
filter-cut p xs [] after h = ([], xs, refl, refl, h)
filter-cut p [] (b ∷ before) after h = cc
filter-cut p (x ∷ xs) (b ∷ before) after h =
    ⊎_elim
    (λ yes.
    let e : b ∷ (before ++ after) ≡ x ∷ filter p xs = h ∙ filter-yes p x xs yes in
    let head : b ≡ x = cc in
    let tail : before ++ after ≡ filter p xs = cc in
    let r = filter-cut p xs before after tail in
    (x ∷ r.0, r.1, ap (λ l. x ∷ l) r.2, (λ i. head i ∷ r.3 i) ∙ sym (filter-yes p x r.0 yes), r.4))
    (λ not.
    let r = filter-cut p xs (b ∷ before) after (h ∙ filter-no p x xs not) in
    (x ∷ r.0, r.1, ap (λ l. x ∷ l) r.2, r.3 ∙ sym (filter-no p x r.0 not), r.4))
    (cases_Bool (p x))

-- a filtered list at an element is the list at that element
pub filter-cut_at : {X : Type 0} (p : X → Bool) (xs before after : List X) (z : X) → before ++ z ∷ after ≡ filter p xs
    → (us : List X) × (vs : List X) × (xs ≡ us ++ z ∷ vs) × (before ≡ filter p us) × (after ≡ filter p vs) × (p z ≡ true)
filter-cut_at p [] [] after z h = cc
filter-cut_at p [] (b ∷ before) after z h = cc
filter-cut_at p (x ∷ xs) [] after z h =
    ⊎_elim
    (λ yes.
    let e : z ∷ after ≡ x ∷ filter p xs = h ∙ filter-yes p x xs yes in
    let head : z ≡ x = cc in
    let tail : after ≡ filter p xs = cc in
    ([], xs, (λ i. sym head i ∷ xs), refl, tail, subst (λ w. p w ≡ true) (sym head) yes))
    (λ not.
    let r = filter-cut_at p xs [] after z (h ∙ filter-no p x xs not) in
    (x ∷ r.0, r.1, ap (λ l. x ∷ l) r.2, r.3 ∙ sym (filter-no p x r.0 not), r.4, r.5))
    (cases_Bool (p x))
filter-cut_at p (x ∷ xs) (b ∷ before) after z h =
    ⊎_elim
    (λ yes.
    let e : b ∷ (before ++ z ∷ after) ≡ x ∷ filter p xs = h ∙ filter-yes p x xs yes in
    let head : b ≡ x = cc in
    let tail : before ++ z ∷ after ≡ filter p xs = cc in
    let r = filter-cut_at p xs before after z tail in
    (x ∷ r.0, r.1, ap (λ l. x ∷ l) r.2, (λ i. head i ∷ r.3 i) ∙ sym (filter-yes p x r.0 yes), r.4, r.5))
    (λ not.
    let r = filter-cut_at p xs (b ∷ before) after z (h ∙ filter-no p x xs not) in
    (x ∷ r.0, r.1, ap (λ l. x ∷ l) r.2, r.3 ∙ sym (filter-no p x r.0 not), r.4, r.5))
    (cases_Bool (p x))

pub to_map : {X Y : Type 0} (f : X → Y) (xs : List X) (x : X) → Contains xs x → Contains (map f xs) (f x)
to_map f [] x h = absurd (Contains-nil x h)
to_map f (y ∷ xs) x h =
    ⊎_elim
    (λ e. subst (λ w. Contains (f y ∷ map f xs) (f w)) e (Contains-head (f y) (map f xs)))
    (λ k. Contains-tail (f y) (map f xs) (f x) (to_map f xs x k))
    (Contains-cons_cases y xs x h)

pub from_map : {X Y : Type 0} (f : X → Y) (xs : List X) (y : Y) → Contains (map f xs) y → (x : X) × Contains xs x × (f x ≡ y)
from_map f [] y h = absurd (Contains-nil y h)
from_map f (x ∷ xs) y h =
    ⊎_elim
    (λ e. (x, Contains-head x xs, e))
    (λ k. let {- the same in the rest -} r = from_map f xs y k in (r.0, Contains-tail x xs r.0 r.1, r.2))
    (Contains-cons_cases (f x) (map f xs) y h)

-- a cut of a mapped list is a cut of the list
pub map-cut : {X Y : Type 0} (f : X → Y) (xs : List X) (before after : List Y) → before ++ after ≡ map f xs
    → (ys : List X) × (zs : List X) × (xs ≡ ys ++ zs) × (before ≡ map f ys) × (after ≡ map f zs)
map-cut f xs [] after h = ([], xs, refl, refl, h)
map-cut f [] (b ∷ before) after h = cc
map-cut f (x ∷ xs) (b ∷ before) after h =
    let head : b ≡ f x = cc in
    let tail : before ++ after ≡ map f xs = cc in
    let r = map-cut f xs before after tail in
    (x ∷ r.0, r.1, ap (λ l. x ∷ l) r.2, (λ i. head i ∷ r.3 i), r.4)

-- of two cuts of one list one comes first
pub two_cuts : {X : Type 0} (a b c d : List X) → a ++ b ≡ c ++ d → IsPrefixOf a c ⊎ IsPrefixOf c a
two_cuts [] b c d h = inl (c, refl)
two_cuts (x ∷ a) b [] d h = inr (x ∷ a, refl)
two_cuts (x ∷ a) b (y ∷ c) d h =
    let head : x ≡ y = cc in
    let tail : a ++ b ≡ c ++ d = cc in
    ⊎_elim
    (λ f. inl (f.0, (λ i. head i ∷ f.1 i)))
    (λ f. inr (f.0, (λ i. sym head i ∷ f.1 i)))
    (two_cuts a b c d tail)
