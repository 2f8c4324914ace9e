-- places among values that never fall: where a value belongs, and what stands behind the last of its kind
use Rattle.std.proofs.Common.{◌≡◌, ◌≢◌, ℕ, zero, suc, ◌+◌, ◌-◌, ◌<◌, ◌≤◌, ℤ, pos, ◌+ℤ◌, ◌<ℤ◌, ◌≤ℤ◌, ⊎_elim, List, get_or, length, take, sym, ap, ◌∙◌, subst, arith, eq-or-lt_of_le}
use Rattle.std.specs.List.{insert}
use Rattle.std.proofs.lemmas.Bool.{cases_order}
use Rattle.std.proofs.lemmas.Int.{ints}
use Rattle.std.proofs.lemmas.List.{get_or_default}
use Rattle.values.specs.Multisets.{NeverFalls, values_of, with_one}
use Rattle.values.proofs.Bags.{insert-with_one}
use Rattle.values.proofs.Firsts.{never_falls_to, values_old}

-- no value is above a later one
pub no_higher : (s : List ℤ) → NeverFalls s → (k j : ℕ) → k ≤ j → j < length s → get_or s k (pos 0) ≤ℤ get_or s j (pos 0)
no_higher s is k j h fits =
    ⊎_elim
    (λ (e : k ≡ j). let same : get_or s k (pos 0) ≤ℤ get_or s k (pos 0) = omega (arith, ints) in subst (λ n. get_or s k (pos 0) ≤ℤ get_or s n (pos 0)) e same)
    (λ (l : k < j). never_falls_to s is k j (pos 0) l fits)
    (eq-or-lt_of_le h)

-- one more of a value at its place
below_place : (s : List ℤ) (at : ℕ) (v : ℤ) → NeverFalls s → at ≤ length s → ((k : ℕ) → at ≡ k + 1 → get_or s k (pos 0) <ℤ v)
    → (k : ℕ) (d : ℤ) → k < at → get_or s k d <ℤ v
below_place s at v is fits before k d h =
    let j = at - 1 in
    let next : at ≡ j + 1 = omega arith in
    let low : j < length s = omega arith in
    let here : k < length s = omega arith in
    let last : get_or s j (pos 0) <ℤ v = before j next in
    let under : get_or s k (pos 0) ≤ℤ get_or s j (pos 0) = no_higher s is k j (omega arith) low in
    let m : get_or s k (pos 0) <ℤ v = omega (arith, ints) in
    subst (λ z. z <ℤ v) (get_or_default s k (pos 0) d here) m

pub with_one-place : (s : List ℤ) (at : ℕ) (v : ℤ) → NeverFalls s → at ≤ length s → ((k : ℕ) → at ≡ k + 1 → get_or s k (pos 0) <ℤ v)
    → (at < length s → v ≤ℤ get_or s at (pos 0)) → insert s at v ≡ with_one v s
with_one-place s at v is fits before there =
    insert-with_one v s at fits (below_place s at v is fits before) (λ d h. subst (λ z. v ≤ℤ z) (get_or_default s at (pos 0) d h) (there h))

-- equal ones are one value
values_same : (s : List ℤ) (at : ℕ) → NeverFalls s → (n : ℕ) → at + 1 + n ≤ length s
    → ((k : ℕ) → at < k → k < at + 1 + n → get_or s k (pos 0) ≡ get_or s at (pos 0)) → values_of (take (at + 1 + n) s) ≡ values_of (take (at + 1) s)
values_same s at is zero fits same = ap (λ m. values_of (take m s)) (let e : at + 1 + zero ≡ at + 1 = omega arith in e)
values_same s at is (suc n) fits same =
    let m = at + 1 + n in
    let more : at + 1 + suc n ≡ m + 1 = omega arith in
    let last : get_or s m (pos 0) ≡ get_or s at (pos 0) = same m (omega arith) (omega arith) in
    let before : get_or s (at + n) (pos 0) ≡ get_or s at (pos 0) =
    ⊎_elim (λ (e : at ≡ at + n). ap (λ j. get_or s j (pos 0)) (sym e)) (λ (l : at < at + n). same (at + n) l (omega arith)) (eq-or-lt_of_le (omega arith)) in
    ap (λ j. values_of (take j s)) more ∙ values_old s m (pos 0) (omega arith) is (at + n) (omega arith) (before ∙ sym last)
    ∙ values_same s at is n (omega arith) (λ k h l. same k h (omega arith))

squeezed : (a b c : ℤ) → a ≤ℤ b → b ≤ℤ c → c ≡ a → b ≡ a
squeezed a b c h k e = omega (arith, ints)

same_up_to : (s : List ℤ) (at place : ℕ) → NeverFalls s → at < place → place ≤ length s → get_or s (place - 1) (pos 0) ≡ get_or s at (pos 0)
    → values_of (take place s) ≡ values_of (take (at + 1) s)
same_up_to s at place is later fits last =
    let n = place - (at + 1) in
    let e : place ≡ at + 1 + n = omega arith in
    ap (λ m. values_of (take m s)) e ∙ values_same s at is n (omega arith) (λ k h l.
    squeezed (get_or s at (pos 0)) (get_or s k (pos 0)) (get_or s (place - 1) (pos 0))
    (no_higher s is at k (omega arith) (omega arith)) (no_higher s is k (place - 1) (omega arith) (omega arith)) last)

pub past_last : (s : List ℤ) (at many : ℕ) → NeverFalls s → at < length s → many ≡ length s → get_or s (many - 1) (pos 0) ≡ get_or s at (pos 0)
    → values_of (take many s) ≡ values_of (take (at + 1) s)
past_last s at many is fits all last = same_up_to s at many is (omega arith) (omega arith) last

-- the place behind a value that is not the last
pub record IsPast (s : List ℤ) (at place : ℕ) : Type 0 where
  pub later : at < place
  pub same : values_of (take place s) ≡ values_of (take (at + 1) s)
  pub new : (p : ℕ) (d : ℤ) → p + 1 ≡ place → place < length s → get_or s p d ≢ get_or s place d

no_more : (a b c : ℤ) → a ≤ℤ b → b <ℤ c → c ≡ a +ℤ pos 1 → b ≡ a
no_more a b c h k e = omega (arith, ints)

pub past_place : (s : List ℤ) (at place : ℕ) (v next : ℤ) → NeverFalls s → at < length s → v ≡ get_or s at (pos 0) → next ≡ v +ℤ pos 1
    → place ≤ length s → ((k : ℕ) → place ≡ k + 1 → get_or s k (pos 0) <ℤ next) → (place < length s → next ≤ℤ get_or s place (pos 0)) → IsPast s at place
past_place s at place v next is fits here one within before there =
    let none : place ≤ at → ⊥ = (λ h.
    let low : next ≤ℤ get_or s place (pos 0) = there (omega arith) in
    let under : get_or s place (pos 0) ≤ℤ get_or s at (pos 0) = no_higher s is place at h fits in
    absurd (omega (arith, ints))) in
    let later : at < place = ⊎_elim (λ (e : at ≡ place). absurd (none (omega arith))) (λ o. ⊎_elim (λ l. l) (λ (l : place < at). absurd (none (omega arith))) o) (cases_order at place) in
    let j = place - 1 in
    let last : get_or s j (pos 0) <ℤ next = before j (omega arith) in
    let above : get_or s at (pos 0) ≤ℤ get_or s j (pos 0) = no_higher s is at j (omega arith) (omega arith) in
    record {
      later = later;
      same = same_up_to s at place is later within (no_more (get_or s at (pos 0)) (get_or s j (pos 0)) next above last (one ∙ ap (λ z. z +ℤ pos 1) here));
      new = λ p d q l e.
          let a : get_or s p (pos 0) <ℤ next = before p (sym q) in
          let b : next ≤ℤ get_or s place (pos 0) = there l in
          let f : get_or s p (pos 0) ≡ get_or s place (pos 0) = get_or_default s p (pos 0) d (omega arith) ∙ e ∙ get_or_default s place d (pos 0) l in
          absurd (omega (arith, ints));
    }
