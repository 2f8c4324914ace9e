-- Seats that came back, from the work of each of their threads.
use Rattle.std.proofs.Common.{◌≡◌, ◌⊎◌, ℕ, zero, suc, ◌+◌, ◌-◌, ◌<◌, ◌≤◌, Option, None, List, [], ◌∷◌, ◌++◌, length, map, Some, refl, ap, ap₂, subst, ◌∙◌, inl, inr, ⊎_elim, arith, length-append}
use Rattle.std.proofs.lemmas.List.{length-map}
use Rattle.std.specs.Prelude.{slice_get, slice_index_or}
use Rattle.std.specs.List.{All, enumerate_from}
use Rattle.std.proofs.lemmas.Option.{slice_get_within, get_or_from_slice_get}
use Rattle.edn.specs.declared.refusal.Refusal.{Refusal}
use Rattle.clients.specs.Calls.{CoreSeat}
use Rattle.clients.specs.Plays.{HasPlayed, HasStruck, HaveRun}
use Rattle.clients.specs.Playing.{HavePlayed}

last_or_before : {A : Type 0} (xs : List A) (x y : A) (k : ℕ) → slice_get (xs ++ x ∷ []) k ≡ Some y → (slice_get xs k ≡ Some y) ⊎ ((k ≡ length xs) × (x ≡ y))
last_or_before [] x y zero e = inr (refl, cc e)
last_or_before [] x y (suc k) e = absurd (cc e)
last_or_before (z ∷ zs) x y zero e = inl e
last_or_before (z ∷ zs) x y (suc k) e =
    ⊎_elim (λ a. inl a) (λ (t : (k ≡ length zs) × (x ≡ y)). inr (ap suc t.0, t.1)) (last_or_before zs x y k e)

map_get : {A B : Type 0} (f : A → B) (xs : List A) (k : ℕ) (y : B) → slice_get (map f xs) k ≡ Some y → (x : A) × (slice_get xs k ≡ Some x) × (f x ≡ y)
map_get f [] k y e = absurd (cc e)
map_get f (x ∷ xs) zero y e = (x, refl, cc e)
map_get f (x ∷ xs) (suc k) y e = map_get f xs k y e

numbered_get : {A : Type 0} (n : ℕ) (xs : List A) (k : ℕ) (x : A) → slice_get xs k ≡ Some x → slice_get (enumerate_from n xs) k ≡ Some (n + k, x)
numbered_get n [] k x e = absurd (cc e)
numbered_get n (y ∷ ys) zero x e = let same : y ≡ x = cc e in let z : n ≡ n + 0 = omega arith in ap₂ (λ (m : ℕ) (w : _). Some (m, w)) z same
numbered_get n (y ∷ ys) (suc k) x e = numbered_get (n + 1) ys k x e ∙ ap (λ (m : ℕ). Some (m, x)) (omega arith)

numbered_length : {A : Type 0} (n : ℕ) (xs : List A) → length (enumerate_from n xs) ≡ length xs
numbered_length n [] = refl
numbered_length n (x ∷ xs) = omega (arith, numbered_length (n + 1) xs)

module _ {A E : Type 0} (view : A → CoreSeat) (seat_of : E → A) (why_of : E → Option Refusal) where
  one_client : (front : List A) (all : List E) → HavePlayed view seat_of why_of (enumerate_from 0 front) all → All (λ (e : E). why_of e ≡ None) all
      → (place : ℕ) (old : A) (e : E) (new : A) → slice_get front place ≡ Some old → slice_get all place ≡ Some e → seat_of e ≡ new
      → HasPlayed place (view old) (view new)
  one_client front all played well place old e new at_old at_new is =
      let n : slice_get (enumerate_from 0 front) place ≡ Some (0 + place, old) = numbered_get 0 front place old at_old in
      let mine : slice_index_or (enumerate_from 0 front) place (0 + place, old) ≡ (0 + place, old) = get_or_from_slice_get _ place (0 + place, old) (0 + place, old) n in
      let theirs : slice_index_or all place e ≡ e = get_or_from_slice_get all place e e at_new in
      let done = played.each place (0 + place, old) e (slice_get_within _ place (0 + place, old) n) (well place e (slice_get_within all place e at_new)) in
      let one = subst (λ (x : ℕ × A). HasPlayed x.0 (view x.1) (view (seat_of (slice_index_or all place e)))) mine done in
      let two = subst (λ (x : E). HasPlayed (0 + place) (view old) (view (seat_of x))) theirs one in
      let three = subst (λ (x : A). HasPlayed (0 + place) (view old) (view x)) is two in
      let zero_place : 0 + place ≡ place = omega arith in
      subst (λ (x : ℕ). HasPlayed x (view old) (view new)) zero_place three

  pub have_run : (front : List A) (last struck : A) (all : List E) → HavePlayed view seat_of why_of (enumerate_from 0 front) all
      → All (λ (e : E). why_of e ≡ None) all → HasStruck (view last) (view struck)
      → HaveRun view (front ++ last ∷ []) (map seat_of all ++ struck ∷ [])
  have_run front last struck all played well nemesis = record { count = count; clients = clients; nemesis = the_nemesis } where
    len : length all ≡ length front
    len = omega (arith, played.count, numbered_length 0 front)

    size : length (front ++ last ∷ []) ≡ length front + 1
    size = omega (arith, length-append front (last ∷ []))

    count : length (map seat_of all ++ struck ∷ []) ≡ length (front ++ last ∷ [])
    count = omega (arith, len, size, length-append (map seat_of all) (struck ∷ []), length-map all seat_of)

    clients : (place : ℕ) (old new : A) → place + 1 < length (front ++ last ∷ []) → slice_get (front ++ last ∷ []) place ≡ Some old
        → slice_get (map seat_of all ++ struck ∷ []) place ≡ Some new → HasPlayed place (view old) (view new)
    clients place old new before at_old at_new =
        ⊎_elim
        (λ old_there.
        ⊎_elim
        (λ new_there. let e = map_get seat_of all place new new_there in one_client front all played well place old e.0 new old_there e.1 e.2)
        (λ (last_of : (place ≡ length (map seat_of all)) × (struck ≡ new)). absurd (omega (arith, before, size, len, last_of.0, length-map all seat_of)))
        (last_or_before (map seat_of all) struck new place at_new))
        (λ (last_of : (place ≡ length front) × (last ≡ old)). absurd (omega (arith, before, size, last_of.0)))
        (last_or_before front last old place at_old)

    the_nemesis : (old new : A) → slice_get (front ++ last ∷ []) (length (front ++ last ∷ []) - 1) ≡ Some old
        → slice_get (map seat_of all ++ struck ∷ []) (length (front ++ last ∷ []) - 1) ≡ Some new → HasStruck (view old) (view new)
    the_nemesis old new at_old at_new =
        ⊎_elim
        (λ old_there. absurd (omega (arith, size, slice_get_within front (length (front ++ last ∷ []) - 1) old old_there)))
        (λ (mine : (length (front ++ last ∷ []) - 1 ≡ length front) × (last ≡ old)).
        ⊎_elim
        (λ new_there. absurd (omega (arith, size, len, length-map all seat_of, slice_get_within (map seat_of all) (length (front ++ last ∷ []) - 1) new new_there)))
        (λ (theirs : (length (front ++ last ∷ []) - 1 ≡ length (map seat_of all)) × (struck ≡ new)).
        subst (λ (x : A). HasStruck (view x) (view new)) mine.1 (subst (λ (x : A). HasStruck (view last) (view x)) theirs.1 nemesis))
        (last_or_before (map seat_of all) struck new (length (front ++ last ∷ []) - 1) at_new))
        (last_or_before front last old (length (front ++ last ∷ []) - 1) at_old)

numbered_at : {A : Type 0} (n : ℕ) (xs : List A) (k : ℕ) (d : ℕ × A) → k < length xs → (slice_index_or (enumerate_from n xs) k d).0 ≡ n + k
numbered_at n [] k d within = absurd (omega (arith, within))
numbered_at n (x ∷ xs) zero d within = omega arith
numbered_at n (x ∷ xs) (suc k) d within = omega (arith, numbered_at (n + 1) xs k d (omega (arith, within)))

-- the numbers are small where there are few
pub numbered_few : {A : Type 0} (xs : List A) (most : ℕ) → length xs ≤ most → All (λ (x : ℕ × A). x.0 < most) (enumerate_from 0 xs)
numbered_few xs most few k d within =
    let inside : k < length xs = omega (arith, within, numbered_length 0 xs) in
    omega (arith, numbered_at 0 xs k d inside, inside, few)
