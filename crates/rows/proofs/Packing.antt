-- words put with others, by the rows that they stand for
use Rattle.std.proofs.Common.{◌≡◌, inl, inr, ⊎_elim, ℕ, ◌+◌, ◌*◌, ◌/◌, ◌%◌, ◌^◌, ◌<◌, ◌≤◌, Bool, false, List, [], ◌∷◌, ◌++◌, map, length, take, drop, slice_get, Some, None, option_map, Result, Ok, Err, OnOk, OnErr, zero, suc, get_or, Vec, Global, refl, sym, ap, ◌∙◌, subst, arith, add-one}
use Rattle.std.specs.List.{AllZip, Contains, each_same}
use Rattle.std.proofs.lemmas.List.{get_or-take, length-take, map_push, take-append-drop}
use Rattle.std.proofs.lemmas.Grind.{get_or_default_zero}
use Rattle.std.proofs.lemmas.List.Elements.{Contains-append_left, Contains-push_cases}
use Rattle.rows.specs.Lists.{items_of}
use Rattle.words.specs.Puts.{IsPut}
use Rattle.words.specs.Words.{AreApart, ArePacked, IsWordOf, digits, rows_in, value}
use Rattle.std.specs.Vec.{vec_len}
use Rattle.std.proofs.Math.Nat.{mod-add-div, mul-zero, zero-mod}
use Rattle.std.proofs.lemmas.Nat.{pow_pos}
use Rattle.std.proofs.lemmas.Option.{get_or_from_slice_get, slice_get-map, slice_get_within}
use Rattle.words.proofs.Digits.{length-digits}
use Rattle.words.proofs.Removing.{rest_exact}
use Rattle.rows.proofs.Elements.{Contains-head, Contains-tail, from_map, has_place, taken_more, to_map}

module _ (bits long : ℕ) (row : List ℕ) (w : ℕ) (is_long : length row ≡ long) (is_word : IsWordOf (2 ^ bits) row w) where
  its_digits : digits (2 ^ bits) long w ≡ row
  its_digits = subst (λ n. digits (2 ^ bits) n w ≡ row) is_long is_word.1

  pub exact_word : value (2 ^ bits) (digits (2 ^ bits) long w) ≡ w
  exact_word = ap (value (2 ^ bits)) its_digits ∙ is_word.0

  module _ (ws now : List ℕ) (are : ArePacked bits long ws) (put : IsPut w ws now) where
    pub put_word : IsPut row (map (digits (2 ^ bits) long) ws) (map (digits (2 ^ bits) long) now)
    put_word =
        ⊎_elim
        (λ old. inl (subst (Contains (map (digits (2 ^ bits) long) ws)) its_digits (to_map (digits (2 ^ bits) long) ws w old.0), ap (map (digits (2 ^ bits) long)) old.1))
        (λ new. inr (
          (λ h.
              let k = from_map (digits (2 ^ bits) long) ws row h in
              let same : k.0 ≡ w = sym (are.exact k.0 k.1) ∙ ap (value (2 ^ bits)) k.2 ∙ is_word.0 in
              new.0 (subst (Contains ws) same k.1)),
          ap (map (digits (2 ^ bits) long)) new.1 ∙ map_push (digits (2 ^ bits) long) ws w ∙ ap (λ r. map (digits (2 ^ bits) long) ws ++ r ∷ []) its_digits,
        ))
        put

    pub packed_still : ArePacked bits long now
    packed_still =
        ⊎_elim
        (λ old. subst (ArePacked bits long) (sym old.1) are)
        (λ new. subst (ArePacked bits long) (sym new.1) (record {
          few = are.few;
          room = are.room;
          exact = λ k h. ⊎_elim (are.exact k) (λ q. subst (λ x. value (2 ^ bits) (digits (2 ^ bits) long x) ≡ x) q exact_word) (Contains-push_cases ws w k h);
        }))
        put

  -- where there was no memory for it all is as before
  pub packed_after : {E : Type 0} (r : Result (Unit {0}) E) (ws now : List ℕ) → ArePacked bits long ws → OnOk r (IsPut w ws now) → OnErr r (now ≡ ws) → ArePacked bits long now
  packed_after (Ok _) ws now are put kept = packed_still ws now are put
  packed_after (Err _) ws now are put kept = subst (ArePacked bits long) (sym kept) are

-- words that are made lists, one after another
not_before : (ws : List ℕ) → AreApart ws → (i x : ℕ) → slice_get ws i ≡ Some x → ¬ Contains (take i ws) x
not_before ws apart i x here (k, lt, is) =
    let within = slice_get_within ws i x here in
    let before : k < i = omega (arith, lt, length-take i ws) in
    apart k i before within (sym (get_or-take i ws k 0 before) ∙ sym (get_or_default_zero (take i ws) k x lt) ∙ is ∙ sym (get_or_from_slice_get ws i x 0 here))

pub listed_more : (bits long : ℕ) (ws : List ℕ) → ArePacked bits long ws → AreApart ws → (i w : ℕ) → slice_get ws i ≡ Some w → (row : List ℕ) → row ≡ digits (2 ^ bits) long w
    → (old new : List (List ℕ)) → IsPut row old new → old ≡ map (digits (2 ^ bits) long) (take i ws) → new ≡ map (digits (2 ^ bits) long) (take (i + 1) ws)
listed_more bits long ws are apart i w here row is old new put so_far =
    ⊎_elim
    (λ p.
    let k = from_map (digits (2 ^ bits) long) (take i ws) row (subst (λ l. Contains l row) so_far p.0) in
    let among : Contains ws k.0 = subst (λ l. Contains l k.0) (take-append-drop i ws) (Contains-append_left (take i ws) (drop i ws) k.0 k.1) in
    let same : k.0 ≡ w = sym (are.exact k.0 among) ∙ ap (value (2 ^ bits)) (k.2 ∙ is) ∙ are.exact w (has_place ws i w here) in
    absurd (not_before ws apart i w here (subst (Contains (take i ws)) same k.1)))
    (λ p.
    p.1 ∙ (λ j. so_far j ++ is j ∷ []) ∙ sym (map_push (digits (2 ^ bits) long) (take i ws) w) ∙ ap (map (digits (2 ^ bits) long)) (sym (taken_more ws i w here)))
    put

-- the rows that a set of rows shows, and its numbers below the base
pub shows_words : (wide : Bool) (bits long : ℕ) (words : List ℕ) (lists : List (List ℕ)) → wide ≡ false → rows_in wide bits long words lists ≡ map (digits (2 ^ bits) long) words
shows_words wide bits long words lists e = ap (λ b. rows_in b bits long words lists) e

pub row_there : (rows : List (List ℕ)) (bits long from w : ℕ) (words : List ℕ) → map (digits (2 ^ bits) long) words ≡ rows → slice_get words from ≡ Some w → get_or rows from [] ≡ digits (2 ^ bits) long w
row_there rows bits long from w words is here =
    get_or_from_slice_get rows from (digits (2 ^ bits) long w) []
    (ap (λ l. slice_get l from) (sym is) ∙ slice_get-map (digits (2 ^ bits) long) words from ∙ ap (option_map (digits (2 ^ bits) long)) here)

pub no_row : (bits long at : ℕ) (words : List ℕ) → slice_get words at ≡ None → get_or (map (digits (2 ^ bits) long) words) at [] ≡ []
no_row bits long at [] none = refl
no_row bits long zero (w ∷ ws) none = absurd (cc none)
no_row bits long (suc at) (w ∷ ws) none = no_row bits long at ws none

pub row_long : (bits long at : ℕ) (words : List ℕ) (rows : List (List ℕ)) → map (digits (2 ^ bits) long) words ≡ rows → at < length rows → length (get_or rows at []) ≡ long
row_long bits long at words rows is lt =
    ap (λ l. length (get_or l at [])) (sym is) ∙ each_long words at (subst (λ (l : List (List ℕ)). at < length l) (sym is) lt)
  where
    each_long : (ws : List ℕ) (at : ℕ) → at < length (map (digits (2 ^ bits) long) ws) → length (get_or (map (digits (2 ^ bits) long) ws) at []) ≡ long
    each_long [] at lt = absurd (omega (arith, lt))
    each_long (w ∷ ws) zero lt = length-digits (2 ^ bits) long w
    each_long (w ∷ ws) (suc at) lt = each_long ws at (omega (arith, lt))

-- rows with a zero more, fewer rows, and copies of rows
zeros_more : (base n w : ℕ) → 0 < base → value base (digits base n w) ≡ w → (digits base (suc n) w ≡ digits base n w ++ 0 ∷ []) × (value base (digits base (suc n) w) ≡ w)
zeros_more base zero w some is =
    let none : w ≡ 0 = sym is in
    let zero' : 0 % base ≡ 0 = zero-mod base in
    let first : w % base ≡ 0 = ap (λ x. x % base) none ∙ zero' in
    ((λ i. first i ∷ []), (let m : base * 0 ≡ 0 = mul-zero base in let v : w % base + base * 0 ≡ w = omega (arith, first, m, none) in v))
zeros_more base (suc n) w some is =
    let rest : value base (digits base n (w / base)) ≡ w / base = rest_exact base some n w is in
    let r = zeros_more base n (w / base) some rest in (
      ap (λ l. w % base ∷ l) r.0,
      ap (λ v. w % base + base * v) r.1 ∙ mod-add-div w base,
    )

pub longer_rows : (bits long : ℕ) (ws : List ℕ) → ((w : ℕ) → Contains ws w → value (2 ^ bits) (digits (2 ^ bits) long w) ≡ w) → map (digits (2 ^ bits) (long + 1)) ws ≡ map (λ row. row ++ 0 ∷ []) (map (digits (2 ^ bits) long) ws)
longer_rows bits long [] exact = refl
longer_rows bits long (w ∷ ws) exact =
    λ i. (ap (λ n. digits (2 ^ bits) n w) (add-one long) ∙ (zeros_more (2 ^ bits) long w (pow_pos bits) (exact w (Contains-head w ws))).0) i ∷ longer_rows bits long ws (λ x h. exact x (Contains-tail w ws x h)) i

pub packed_longer : (bits long : ℕ) (ws : List ℕ) → bits * (long + 1) ≤ 128 → ArePacked bits long ws → ArePacked bits (long + 1) ws
packed_longer bits long ws room are = record {
  few = are.few;
  room = room;
  exact = λ w h. ap (λ n. value (2 ^ bits) (digits (2 ^ bits) n w)) (add-one long) ∙ (zeros_more (2 ^ bits) long w (pow_pos bits) (are.exact w h)).1;
}

pub copied_lists : (ls now : List (Vec ℕ Global)) → AllZip (λ (v w : Vec ℕ Global). AllZip (λ (x y : ℕ). y ≡ x) v.items w.items × (vec_len w ≡ vec_len v)) ls now → map items_of now ≡ map items_of ls
copied_lists [] [] h = refl
copied_lists [] (w ∷ ws) h = absurd h
copied_lists (v ∷ vs) [] h = absurd h
copied_lists (v ∷ vs) (w ∷ ws) h = λ i. each_same v.items w.items h.0.0 i ∷ copied_lists vs ws h.1 i
