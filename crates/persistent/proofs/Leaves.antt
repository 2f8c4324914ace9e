-- the values of a leaf
use Rattle.std.proofs.Common.{◌≡◌, ℕ, ◌-◌, ◌≤◌, List, [], ◌∷◌, ◌++◌, length, take, drop, sym, ap, ◌∙◌, append_assoc, append-nil, arith}
use Rattle.std.specs.List.{insert}
use Rattle.std.proofs.Math.Seq.{take-add}
use Rattle.std.proofs.lemmas.List.{drop-drop, take-append-drop, take_rest}

-- two halves, one of them with one more
pub made_in_front : {T : Type 0} (xs left right : List T) (at half : ℕ) (v : T) → at ≤ half → left ≡ take at xs ++ v ∷ take (half - at) (drop at xs)
    → right ≡ take (length xs - half) (drop half xs) ++ [] → left ++ right ≡ insert xs at v
made_in_front xs left right at half v before l r =
    let part = take (half - at) (drop at xs) in
    let rest = drop (half - at) (drop at xs) in
    let far : drop half xs ≡ rest = ap (λ n. drop n xs) (omega arith) ∙ sym (drop-drop (half - at) at xs) in
    ap (λ x. x ++ right) l ∙ ap (λ x. (take at xs ++ v ∷ part) ++ x) (r ∙ append-nil (take (length xs - half) (drop half xs)) ∙ take_rest xs half ∙ far)
    ∙ append_assoc (take at xs) (v ∷ part) rest ∙ ap (λ x. take at xs ++ v ∷ x) (take-append-drop (half - at) (drop at xs))

pub made_behind : {T : Type 0} (xs left right : List T) (at half : ℕ) (v : T) → half ≤ at → left ≡ take half xs ++ []
    → right ≡ take (at - half) (drop half xs) ++ v ∷ take (length xs - at) (drop at xs) → left ++ right ≡ insert xs at v
made_behind xs left right at half v behind l r =
    let front = take half xs in
    let part = take (at - half) (drop half xs) in
    let near : take at xs ≡ front ++ part = ap (λ n. take n xs) (omega arith) ∙ take-add half (at - half) xs in
    ap (λ x. x ++ right) (l ∙ append-nil front) ∙ ap (λ x. front ++ x) (r ∙ ap (λ x. part ++ v ∷ x) (take_rest xs at))
    ∙ sym (append_assoc front part (v ∷ drop at xs)) ∙ ap (λ x. x ++ v ∷ drop at xs) (sym near)
