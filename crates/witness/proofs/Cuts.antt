-- an order cut at a place, and the operations of a key in it
use Rattle.std.proofs.Common.{◌≡◌, ◌≢◌, ℕ, ◌+◌, ◌-◌, ◌≤◌, true, Some, List, [], ◌∷◌, ◌++◌, take, drop, get_or, slice_get, refl, sym, ap, ◌∙◌, subst, arith}
use Rattle.std.specs.List.{Contains}
use Rattle.std.proofs.lemmas.List.{length-drop, get_or-drop}
use Rattle.std.proofs.lemmas.Option.{slice_get_within, get_or_from_slice_get}
use Rattle.std.proofs.lemmas.List.Elements.{Contains-append_right, filter-append}
use Rattle.events.specs.declared.event.Event.{Event}
use Rattle.events.specs.Events.{IsPrefixOf}
use Rattle.linspec.specs.Orders.{Pairwise}
use Rattle.linspec.proofs.Filters.{filter-yes}
use Rattle.linspec.proofs.Lists.{Contains-head, Contains-tail}
use Rattle.witness.specs.Orders.{is_of, among}
use Rattle.witness.proofs.InTurn.{cut_at}

pub cut_there : {X : Type 0} (xs : List X) (place : ℕ) (x : X) → slice_get xs place ≡ Some x → take place xs ++ x ∷ drop (place + 1) xs ≡ xs
cut_there xs place x at = cut_at xs place x (slice_get_within xs place x at) (sym (get_or_from_slice_get xs place x x at))

pub key_cut : (events : List Event) (key : ℕ) (xs : List ℕ) (place id : ℕ) → slice_get xs place ≡ Some id → is_of key (slice_get events id) ≡ true
    → among events key (take place xs) ++ id ∷ among events key (drop (place + 1) xs) ≡ among events key xs
key_cut events key xs place id at of =
    ap (λ l. among events key (take place xs) ++ l) (sym (filter-yes (λ i. is_of key (slice_get events i)) id (drop (place + 1) xs) of))
    ∙ sym (filter-append (λ i. is_of key (slice_get events i)) (take place xs) (id ∷ drop (place + 1) xs))
    ∙ ap (among events key) (cut_there xs place id at)

-- an element at a place or behind it is among the rest
pub in_rest : {X : Type 0} (xs : List X) (n place : ℕ) (x : X) → n ≤ place → slice_get xs place ≡ Some x → Contains (drop n xs) x
in_rest xs n place x le at = (
  place - n,
  (let within = slice_get_within xs place x at in let long = length-drop n xs in omega (arith, within, long)),
  get_or-drop n xs (place - n) x ∙ ap (λ k. get_or xs k x) (let t : n + (place - n) ≡ place = omega arith in t) ∙ get_or_from_slice_get xs place x x at,
)

-- one list has one cut at an element that it has once
pub one_cut : {X : Type 0} (a b c d : List X) (x : X) → Pairwise (λ y z. y ≢ z) (a ++ x ∷ b) → a ++ x ∷ b ≡ c ++ x ∷ d → a ≡ c
one_cut [] b [] d x once e = refl
one_cut [] b (z ∷ c) d x once e =
    let tail : b ≡ c ++ x ∷ d = cc in
    absurd (once.0 x (subst (λ l. Contains l x) (sym tail) (Contains-append_right c (x ∷ d) x (Contains-head x d))) refl)
one_cut (y ∷ a) b [] d x once e =
    let head : y ≡ x = cc in
    absurd (once.0 x (Contains-append_right a (x ∷ b) x (Contains-head x b)) head)
one_cut (y ∷ a) b (z ∷ c) d x once e =
    let head : y ≡ z = cc in
    let tail : a ++ x ∷ b ≡ c ++ x ∷ d = cc in
    let rest : a ≡ c = one_cut a b c d x once.1 tail in
    ap (λ l. y ∷ l) rest ∙ ap (λ h. h ∷ c) head

-- if one list is cut twice, and the second cut's element is not in the first cut's prefix, then that prefix is a prefix of the second one
pub front_of : {X : Type 0} (a b c d : List X) (x y : X) → a ++ x ∷ b ≡ c ++ y ∷ d → ¬ Contains (a ++ x ∷ []) y → IsPrefixOf (a ++ x ∷ []) c
front_of [] b [] d x y e out = (let head : x ≡ y = cc in absurd (out (subst (Contains (x ∷ [])) head (Contains-head x []))))
front_of [] b (z ∷ c) d x y e out = (let head : x ≡ z = cc in (c, ap (λ h. h ∷ c) head))
front_of (w ∷ a) b [] d x y e out = (let head : w ≡ y = cc in absurd (out (subst (Contains (w ∷ (a ++ x ∷ []))) head (Contains-head w (a ++ x ∷ [])))))
front_of (w ∷ a) b (z ∷ c) d x y e out =
    let head : w ≡ z = cc in
    let tail : a ++ x ∷ b ≡ c ++ y ∷ d = cc in
    let rest = front_of a b c d x y tail (λ h. out (Contains-tail w (a ++ x ∷ []) y h)) in
    (rest.0, ap (λ l. w ∷ l) rest.1 ∙ ap (λ h. h ∷ c) head)
