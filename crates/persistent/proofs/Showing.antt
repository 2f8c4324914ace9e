-- facts about the values as they are looked at, for the row that has them
use Rattle.std.proofs.Common.{◌≡◌, ℕ, ◌+◌, ◌-◌, ◌<◌, ◌≤◌, ℤ, ◌<ℤ◌, ◌≤ℤ◌, List, ◌∷◌, ◌++◌, get_or, length, take, drop, sym, ap, subst, ◌∙◌, arith}
use Rattle.std.proofs.lemmas.List.{take_rest, take_all, take-append-drop, length-drop}

pub before_in : {T : Type 0} (place : T → ℤ) (now shown : List T) (at : ℕ) (v passed : ℤ) → shown ≡ now → passed ≡ v
    → ((k : ℕ) (d : T) → at ≡ k + 1 → place (get_or shown k d) <ℤ passed) → (k : ℕ) (d : T) → at ≡ k + 1 → place (get_or now k d) <ℤ v
before_in place now shown at v passed same is before k d e =
    subst (λ l. place (get_or l k d) <ℤ v) same (subst (λ z. place (get_or shown k d) <ℤ z) is (before k d e))

pub there_in : {T : Type 0} (place : T → ℤ) (now shown : List T) (at : ℕ) (v passed : ℤ) → shown ≡ now → passed ≡ v
    → ((d : T) → at < length shown → passed ≤ℤ place (get_or shown at d)) → (d : T) → at < length now → v ≤ℤ place (get_or now at d)
there_in {T} place now shown at v passed same is there =
    subst (λ (l : List T). (d : T) → at < length l → v ≤ℤ place (get_or l at d)) same (subst (λ z. (d : T) → at < length shown → z ≤ℤ place (get_or shown at d)) is there)

pub around_in : {T : Type 0} (now shown : List T) (from to : ℕ) (v : T) → shown ≡ now
    → take from shown ++ v ∷ take (length shown - to) (drop to shown) ≡ take from now ++ v ∷ drop to now
around_in now shown from to v same = ap (λ l. take from shown ++ v ∷ l) (take_rest shown to) ∙ ap (λ l. take from l ++ v ∷ drop to l) same

-- the rest of them from one place on
rest_long : {T : Type 0} (now : List T) (at : ℕ) → at ≤ length now → at + length (drop at now) ≡ length now
rest_long now at within = let long = length-drop at now in omega arith

rest_is : {T : Type 0} (now shown : List T) (at : ℕ) → shown ≡ now → take (length shown - at) (drop at shown) ≡ drop at now
rest_is now shown at same = take_rest shown at ∙ ap (drop at) same

pub rest_some : {T : Type 0} (now shown : List T) (at : ℕ) → shown ≡ now → at < length now → 0 < length (take (length shown - at) (drop at shown))
rest_some now shown at same within =
    let long = rest_long now at (omega arith) in
    subst (λ l. 0 < length l) (sym (rest_is now shown at same)) (omega arith)

pub rest_within : {T : Type 0} (now shown : List T) (at : ℕ) → shown ≡ now → at < length now → at + length (take (length shown - at) (drop at shown)) ≤ length now
rest_within now shown at same within =
    let long = rest_long now at (omega arith) in
    subst (λ l. at + length l ≤ length now) (sym (rest_is now shown at same)) (omega arith)

pub rest_part : {T : Type 0} (now shown : List T) (at : ℕ) → shown ≡ now → at < length now
    → take (at + length (take (length shown - at) (drop at shown))) now ≡ take at now ++ take (length shown - at) (drop at shown)
rest_part now shown at same within =
    subst (λ l. take (at + length l) now ≡ take at now ++ l) (sym (rest_is now shown at same))
    (ap (λ n. take n now) (rest_long now at (omega arith)) ∙ take_all (length now) now (omega arith) ∙ sym (take-append-drop at now))
