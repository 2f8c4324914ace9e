-- rows, one behind the other
use Rattle.std.proofs.Common.{◌≡◌, ℕ, zero, suc, ◌+◌, ◌-◌, ◌<◌, ◌≤◌, ℤ, ◌<ℤ◌, ◌≤ℤ◌, List, [], ◌∷◌, ◌++◌, get_or, length, take, drop, refl, sym, ap, subst, ◌∙◌, append_assoc, add-one, arith}
use Rattle.std.specs.List.{insert, remove}
use Rattle.std.proofs.Math.Seq.{take-append-add, drop-append-add, drop-append_seam, take-append_seam}
use Rattle.std.proofs.lemmas.Int.{ints}
use Rattle.std.proofs.lemmas.List.{get_or-append-add, take-append-drop, length-append, take-append-le, length-take-le}
use Rattle.std.proofs.lemmas.List.Edits.{insert-append_right, remove-append_right}

-- a part of the second one
pub part_right : {T : Type 0} (l r part : List T) (many at : ℕ) → length l ≡ many → many ≤ at → take ((at - many) + length part) r ≡ take (at - many) r ++ part
    → take (at + length part) (l ++ r) ≡ take at (l ++ r) ++ part
part_right l r part many at is behind here =
    let on : at ≡ length l + (at - many) = omega arith in
    let far : at + length part ≡ length l + ((at - many) + length part) = omega arith in
    ap (λ n. take n (l ++ r)) far ∙ take-append-add l r ((at - many) + length part) ∙ ap (λ x. l ++ x) here
    ∙ sym (append_assoc l (take (at - many) r) part) ∙ ap (λ x. x ++ part) (sym (ap (λ n. take n (l ++ r)) on ∙ take-append-add l r (at - many)))

pub part_of_right : {T : Type 0} (now l r same part : List T) (many at : ℕ) → now ≡ l ++ r → same ≡ r → length l ≡ many → many ≤ at
    → take ((at - many) + length part) same ≡ take (at - many) same ++ part → take (at + length part) now ≡ take at now ++ part
part_of_right now l r same part many at is again len behind here =
    subst (λ x. take (at + length part) x ≡ take at x ++ part) (sym is)
    (part_right l r part many at len behind (subst (λ x. take ((at - many) + length part) x ≡ take (at - many) x ++ part) again here))

-- one more in the second one, and one less
pub with_right : {T : Type 0} (now l r same new other : List T) (many at : ℕ) (v passed : T) → now ≡ l ++ r → other ≡ l → same ≡ r → length l ≡ many → many ≤ at
    → passed ≡ v → new ≡ insert same (at - many) passed → other ++ new ≡ insert now at v
with_right now l r same new other many at v passed is left again len behind value made =
    ap (λ x. x ++ new) left ∙ ap (λ x. l ++ x) (made ∙ ap (λ x. insert x (at - many) passed) again ∙ ap (insert r (at - many)) value)
    ∙ sym (insert-append_right l r many at v len behind) ∙ ap (λ x. insert x at v) (sym is)

pub without_right : {T : Type 0} (now l r same new other : List T) (many at : ℕ) → now ≡ l ++ r → other ≡ l → same ≡ r → length l ≡ many → many ≤ at
    → new ≡ remove same (at - many) → other ++ new ≡ remove now at
without_right now l r same new other many at is left again len behind made =
    ap (λ x. x ++ new) left ∙ ap (λ x. l ++ x) (made ∙ ap (λ x. remove x (at - many)) again)
    ∙ sym (remove-append_right l r many at len behind) ∙ ap (λ x. remove x at) (sym is)

pub replaced_right : {T : Type 0} (now l r same new other : List T) (many at : ℕ) (v passed : T) → now ≡ l ++ r → other ≡ l → same ≡ r → length l ≡ many → many ≤ at
    → passed ≡ v → new ≡ take (at - many) same ++ passed ∷ drop ((at - many) + 1) same → other ++ new ≡ take at now ++ v ∷ drop (at + 1) now
replaced_right now l r same new other many at v passed is left again len behind value made =
    let on : at ≡ length l + (at - many) = omega arith in
    let past : at + 1 ≡ length l + ((at - many) + 1) = omega arith in
    let front : take at (l ++ r) ≡ l ++ take (at - many) r = ap (λ n. take n (l ++ r)) on ∙ take-append-add l r (at - many) in
    let back : drop (at + 1) (l ++ r) ≡ drop ((at - many) + 1) r = ap (λ n. drop n (l ++ r)) past ∙ drop-append-add l r ((at - many) + 1) in
    ap (λ x. x ++ new) left ∙ ap (λ x. l ++ x) (made ∙ ap (λ x. take (at - many) x ++ passed ∷ drop ((at - many) + 1) x) again
    ∙ ap (λ z. take (at - many) r ++ z ∷ drop ((at - many) + 1) r) value)
    ∙ sym (append_assoc l (take (at - many) r) (v ∷ drop ((at - many) + 1) r)) ∙ ap (λ x. x ++ v ∷ drop ((at - many) + 1) r) (sym front)
    ∙ ap (λ x. take at (l ++ r) ++ v ∷ x) (sym back) ∙ ap (λ x. take at x ++ v ∷ drop (at + 1) x) (sym is)

-- where the second one begins below v, its place is the place in both
pub before_right : {T : Type 0} (place : T → ℤ) (l r : List T) (v : ℤ) (at : ℕ) (d : T) → place (get_or r 0 d) <ℤ v → 0 < length r
    → ((k : ℕ) → at ≡ k + 1 → place (get_or r k d) <ℤ v) → (at < length r → v ≤ℤ place (get_or r at d))
    → (k : ℕ) → length l + at ≡ k + 1 → place (get_or (l ++ r) k d) <ℤ v
before_right place l r v zero d low some before there k is = let h : v ≤ℤ place (get_or r 0 d) = there some in absurd (omega (arith, ints))
before_right place l r v (suc j) d low some before there k is =
    let on : k ≡ length l + j = omega arith in
    subst (λ z. place z <ℤ v) (sym (ap (λ n. get_or (l ++ r) n d) on ∙ get_or-append-add l r j d)) (before j (sym (add-one j)))

pub there_right : {T : Type 0} (place : T → ℤ) (l r : List T) (v : ℤ) (at : ℕ) (d : T) → (at < length r → v ≤ℤ place (get_or r at d))
    → length l + at < length (l ++ r) → v ≤ℤ place (get_or (l ++ r) (length l + at) d)
there_right place l r v at d there within =
    let long = length-append l r in
    subst (λ z. v ≤ℤ place z) (sym (get_or-append-add l r at d)) (there (omega (arith, long, within)))

-- where it begins at v or behind, the place in the first one is the place in both
pub there_left : {T : Type 0} (place : T → ℤ) (l r : List T) (v : ℤ) (at : ℕ) (d : T) → at ≤ length l → (at < length l → v ≤ℤ place (get_or l at d))
    → v ≤ℤ place (get_or r 0 d) → v ≤ℤ place (get_or (l ++ r) at d)
there_left place [] r v zero d within there first = first
there_left place [] r v (suc at) d within there first = absurd (omega arith)
there_left place (x ∷ l) r v zero d within there first = there (omega arith)
there_left place (x ∷ l) r v (suc at) d within there first = there_left place l r v at d (omega arith) (λ h. there (omega arith)) first

-- some of a part
pub take_part : {T : Type 0} (s p : List T) (at many : ℕ) → at + length p ≤ length s → take (at + length p) s ≡ take at s ++ p → many ≤ length p
    → take (at + many) s ≡ take at s ++ take many p
take_part s p at many within part few =
    let front = take at s in
    let rest = drop (at + length p) s in
    let long : length front ≡ at = length-take-le at s (omega arith) in
    let whole : s ≡ front ++ (p ++ rest) = sym (take-append-drop (at + length p) s) ∙ ap (λ l. l ++ rest) part ∙ append_assoc front p rest in
    ap (λ l. take (at + many) l) whole ∙ ap (λ n. take (n + many) (front ++ (p ++ rest))) (sym long)
    ∙ take-append-add front (p ++ rest) many ∙ ap (λ l. front ++ l) (take-append-le many p rest few)

piece_is : {T : Type 0} (s p : List T) (at many : ℕ) → at + length p ≤ length s → take (at + length p) s ≡ take at s ++ p → many ≤ length p
    → take many p ≡ drop at (take (at + many) s)
piece_is s p at many within part few =
    let front = take at s in
    let long : length front ≡ at = length-take-le at s (omega arith) in
    sym (ap (drop at) (take_part s p at many within part few) ∙ ap (λ n. drop n (front ++ take many p)) (sym long) ∙ drop-append_seam front (take many p))

-- equal rows have equal parts
pub same_pieces : {T : Type 0} (s t p q : List T) (at many : ℕ) → at + length p ≤ length s → take (at + length p) s ≡ take at s ++ p → many ≤ length p
    → at + length q ≤ length t → take (at + length q) t ≡ take at t ++ q → many ≤ length q → s ≡ t → take many p ≡ take many q
same_pieces s t p q at many s_within s_part s_few t_within t_part t_few e =
    piece_is s p at many s_within s_part s_few ∙ ap (λ l. drop at (take (at + many) l)) e ∙ sym (piece_is t q at many t_within t_part t_few)

-- two rows, one behind the other, that are the same as two others; the first ones are equally long
pub left_same : {T : Type 0} (l r m s : List T) → length l ≡ length m → l ++ r ≡ m ++ s → l ≡ m
left_same l r m s long e =
    sym (take-append_seam l r) ∙ ap (take (length l)) e ∙ ap (λ n. take n (m ++ s)) long ∙ take-append_seam m s

pub right_same : {T : Type 0} (l r m s : List T) → length l ≡ length m → l ++ r ≡ m ++ s → r ≡ s
right_same l r m s long e =
    sym (drop-append_seam l r) ∙ ap (drop (length l)) e ∙ ap (λ n. drop n (m ++ s)) long ∙ drop-append_seam m s

-- one of them in place of two
pub one_for_two : {T : Type 0} (s : List T) (at : ℕ) (value : T) → at + 2 ≤ length s
    → take at (remove s at) ++ value ∷ drop (at + 1) (remove s at) ≡ take at s ++ value ∷ drop (at + 2) s
one_for_two s at value fits =
    let one : at + 1 ≡ suc at = omega arith in
    let two : suc (suc at) ≡ at + 2 = omega arith in
    ap (λ n. take at (remove s at) ++ value ∷ drop n (remove s at)) one ∙ two_less s at value fits ∙ ap (λ n. take at s ++ value ∷ drop n s) two
  where
    two_less : {T : Type 0} (s : List T) (at : ℕ) (value : T) → at + 2 ≤ length s → take at (remove s at) ++ value ∷ drop (suc at) (remove s at) ≡ take at s ++ value ∷ drop (suc (suc at)) s
    two_less [] at value fits = absurd (omega arith)
    two_less (x ∷ []) at value fits = absurd (omega arith)
    two_less (x ∷ y ∷ s) zero value fits = refl
    two_less (x ∷ y ∷ s) (suc at) value fits = ap (λ l. x ∷ l) (two_less (y ∷ s) at value (omega arith))

-- all but one of them
pub one_left_out : {T : Type 0} (s : List T) (at : ℕ) → at < length s → take at s ++ drop (suc at) s ≡ remove s at
one_left_out [] at within = absurd (omega arith)
one_left_out (x ∷ s) zero within = refl
one_left_out (x ∷ s) (suc at) within = ap (λ l. x ∷ l) (one_left_out s at (omega arith))

-- three of them, the one in the middle first put to the right one, or to the left one
pub behind_two : {T : Type 0} (first second third first_again both : List T) → first_again ≡ first → both ≡ second ++ third → first_again ++ both ≡ (first ++ second) ++ third
behind_two first second third first_again both one two = ap (λ l. l ++ both) one ∙ ap (λ l. first ++ l) two ∙ sym (append_assoc first second third)

pub before_two : {T : Type 0} (first second third both third_again : List T) → both ≡ first ++ second → third_again ≡ third → both ++ third_again ≡ (first ++ second) ++ third
before_two first second third both third_again one two = ap (λ l. l ++ third_again) one ∙ ap (λ l. (first ++ second) ++ l) two

-- four of them by twos; the two in the middle are one
pub four_as_three : {T : Type 0} (left first first_again second second_again right middle : List T) → first_again ≡ first → second_again ≡ second → middle ≡ first ++ second
    → (left ++ first_again) ++ (second_again ++ right) ≡ (left ++ middle) ++ right
four_as_three left first first_again second second_again right middle one two both =
    ap (λ l. (left ++ l) ++ (second_again ++ right)) one ∙ ap (λ l. (left ++ first) ++ (l ++ right)) two ∙ sym (append_assoc (left ++ first) second right)
    ∙ ap (λ l. l ++ right) (append_assoc left first second ∙ ap (λ l. left ++ l) (sym both))
