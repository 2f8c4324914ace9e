-- lists that are the same as far as they were compared
use Rattle.std.proofs.Common.{◌≡◌, ℕ, ◌+◌, ◌-◌, ◌<◌, ◌≤◌, List, [], ◌∷◌, ◌++◌, length, take, drop, get_or, refl, sym, ap, ◌∙◌, arith}
use Rattle.std.proofs.lemmas.List.{take_more, take_all, take-append-drop, length-drop}
use Rattle.persistent.specs.Eights.{AreSameAt}

-- a value of a list that has one
pub some_value : {T : Type 0} (xs : List T) → 0 < length xs → T
some_value [] some = absurd (omega arith)
some_value (x ∷ xs) some = x

pub same_at : {T : Type 0} (xs ys : List T) (at : ℕ) (d : T) → xs ≡ ys → AreSameAt xs ys at d
same_at xs ys at d e = (here at, here (at + 1), here (at + 2), here (at + 3), here (at + 4), here (at + 5), here (at + 6), here (at + 7))
  where
    here : (k : ℕ) → get_or xs k d ≡ get_or ys k d
    here k = ap (λ l. get_or l k d) e

one_more : {T : Type 0} (xs ys : List T) (n m : ℕ) (d : T) → m ≡ n + 1 → n < length xs → length xs ≡ length ys → get_or xs n d ≡ get_or ys n d → take n xs ≡ take n ys → take m xs ≡ take m ys
one_more xs ys n m d is within len e so_far =
    ap (λ k. take k xs) is ∙ take_more xs n d within ∙ ap (λ l. l ++ get_or xs n d ∷ []) so_far ∙ ap (λ x. take n ys ++ x ∷ []) e
    ∙ sym (take_more ys n d (omega arith)) ∙ ap (λ k. take k ys) (sym is)

pub eight_more : {T : Type 0} (xs ys : List T) (at : ℕ) (d : T) → at + 8 ≤ length xs → length xs ≡ length ys → AreSameAt xs ys at d → take at xs ≡ take at ys → take (at + 8) xs ≡ take (at + 8) ys
eight_more xs ys at d within len same so_far =
    let one = one_more xs ys at (at + 1) d refl (omega arith) len same.0 so_far in
    let two = one_more xs ys (at + 1) (at + 2) d (omega arith) (omega arith) len same.1 one in
    let three = one_more xs ys (at + 2) (at + 3) d (omega arith) (omega arith) len same.2 two in
    let four = one_more xs ys (at + 3) (at + 4) d (omega arith) (omega arith) len same.3 three in
    let five = one_more xs ys (at + 4) (at + 5) d (omega arith) (omega arith) len same.4 four in
    let six = one_more xs ys (at + 5) (at + 6) d (omega arith) (omega arith) len same.5 five in
    let seven = one_more xs ys (at + 6) (at + 7) d (omega arith) (omega arith) len same.6 six in
    one_more xs ys (at + 7) (at + 8) d (omega arith) (omega arith) len same.7 seven

-- the part that was not compared yet
abbrev pub rest : {T : Type 0} → ℕ → List T → List T
rest at l = take (length l - at) (drop at l)

rest_is : {T : Type 0} (at : ℕ) (l : List T) → rest at l ≡ drop at l
rest_is at l = take_all (length l - at) (drop at l) (omega (arith, length-drop at l))

pub same_whole : {T : Type 0} (xs ys : List T) (at : ℕ) → take at xs ≡ take at ys → rest at xs ≡ rest at ys → xs ≡ ys
same_whole xs ys at front same =
    sym (take-append-drop at xs) ∙ ap (λ l. l ++ drop at xs) front ∙ ap (λ l. take at ys ++ l) (sym (rest_is at xs) ∙ same ∙ rest_is at ys) ∙ take-append-drop at ys
