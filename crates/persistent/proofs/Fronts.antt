-- two rows, one behind the other; the first one is changed
use Rattle.std.proofs.Common.{◌≡◌, ℕ, suc, ◌+◌, ◌<◌, List, ◌∷◌, ◌++◌, length, take, drop, sym, ap, ◌∙◌, append_assoc, arith}
use Rattle.std.specs.List.{insert, remove}
use Rattle.std.proofs.lemmas.List.{take-append-le, drop-append-le}
use Rattle.std.proofs.lemmas.List.Edits.{insert-append_left, remove-append_left}

pub with_left : {T : Type 0} (now l r same new other : List T) (at : ℕ) (v passed : T) → now ≡ l ++ r → same ≡ l → other ≡ r → at < length l
    → passed ≡ v → new ≡ insert same at passed → new ++ other ≡ insert now at v
with_left now l r same new other at v passed is again right before value made =
    ap (λ x. new ++ x) right ∙ ap (λ x. x ++ r) (made ∙ ap (λ x. insert x at passed) again ∙ ap (insert l at) value)
    ∙ sym (insert-append_left l r at v (omega arith)) ∙ ap (λ x. insert x at v) (sym is)

pub without_left : {T : Type 0} (now l r same new other : List T) (at : ℕ) → now ≡ l ++ r → same ≡ l → other ≡ r → at < length l
    → new ≡ remove same at → new ++ other ≡ remove now at
without_left now l r same new other at is again right before made =
    ap (λ x. new ++ x) right ∙ ap (λ x. x ++ r) (made ∙ ap (λ x. remove x at) again)
    ∙ sym (remove-append_left l r at before) ∙ ap (λ x. remove x at) (sym is)

pub replaced_left : {T : Type 0} (now l r same new other : List T) (at : ℕ) (v passed : T) → now ≡ l ++ r → same ≡ l → other ≡ r → at < length l
    → passed ≡ v → new ≡ take at same ++ passed ∷ drop (at + 1) same → new ++ other ≡ take at now ++ v ∷ drop (at + 1) now
replaced_left now l r same new other at v passed is again right before value made =
    let front : take at (l ++ r) ≡ take at l = take-append-le at l r (omega arith) in
    let back : drop (at + 1) (l ++ r) ≡ drop (at + 1) l ++ r = drop-append-le (at + 1) l r (omega arith) in
    ap (λ x. new ++ x) right ∙ ap (λ x. x ++ r) (made ∙ ap (λ x. take at x ++ passed ∷ drop (at + 1) x) again ∙ ap (λ z. take at l ++ z ∷ drop (at + 1) l) value)
    ∙ append_assoc (take at l) (v ∷ drop (at + 1) l) r ∙ ap (λ x. x ++ v ∷ (drop (at + 1) l ++ r)) (sym front)
    ∙ ap (λ x. take at (l ++ r) ++ v ∷ x) (sym back) ∙ ap (λ x. take at x ++ v ∷ drop (at + 1) x) (sym is)
