-- the rows of a product with the answers of calls that stay in its state
use Rattle.std.proofs.Common.{◌≡◌, ℕ, ◌+◌, ◌<◌, ◌⊎◌, inl, inr, ⊎_elim, zero, suc, List, [], ◌∷◌, length, set, get_or, length-set, get_or-set_same, get_or-set_other, refl, sym, ap, ◌∙◌, subst, arith}
use Rattle.std.proofs.lemmas.Bool.{cases_eq}
use Rattle.products.specs.Products.{AreIn, Has, IsIn}
use Rattle.products.proofs.Sets.{inside_each}
use Rattle.product_ends.specs.Widening.{AreWidened, IsWidened, TakesIn, TakesOne, TakesOneIn}

-- if an operation is repeated n times on lists, it is repeated n times on lists made of these
taken_in : (A B : List ℕ → List ℕ → Type 0) (f : List ℕ → List ℕ) → ((old new : List ℕ) → A old new → B (f old) (f new)) → (n : ℕ) (old new : List ℕ) → TakesIn A n old new → TakesIn B n (f old) (f new)
taken_in A B f lift zero old new h = ap f h
taken_in A B f lift (suc n) old new h = (f h.0, taken_in A B f lift n old h.0 h.1, lift h.0 new h.2)

-- all but the first
rest : List ℕ → List ℕ
rest [] = []
rest (stay ∷ stays) = stays

rest_at : (stays : List ℕ) (at : ℕ) → get_or stays (suc at) 0 ≡ get_or (rest stays) at 0
unfolding rest
rest_at [] at = refl
rest_at (stay ∷ stays) at = refl

-- the set keeps its numbers, and its numbers are the old ones or those that the call finds
kept : (stay old new n : ℕ) → IsWidened stay old new → Has old n → Has new n
kept stay old new n (inl is) h = subst (λ s. Has s n) (sym is) h
kept stay old new n (inr is) h = (is.1 n).1 (inl h)

was : (stay old new n : ℕ) → IsWidened stay old new → Has new n → Has old n ⊎ (Has old 0 × Has stay n)
was stay old new n (inl is) h = inl (subst (λ s. Has s n) is h)
was stay old new n (inr is) h = ⊎_elim (λ k. inl k) (λ k. inr (is.0, k)) ((is.1 n).0 h)

module _ (stays : List ℕ) where
  widened_rest : (s new : ℕ) (sets next : List ℕ) → AreWidened stays (s ∷ sets) (new ∷ next) → AreWidened (rest stays) sets next
  widened_rest s new sets next are = record {
    long = (let long = are.long in omega arith);
    each = λ at lt. subst (λ stay. IsWidened stay (get_or sets at 0) (get_or next at 0)) (rest_at stays at) (are.each (suc at) (omega (arith, lt)));
  }

  one_behind : (first : ℕ) (old new : List ℕ) → TakesOneIn (rest stays) old new → TakesOneIn stays (first ∷ old) (first ∷ new)
  one_behind first old new h = record {
    at = suc h.at;
    slot = h.slot;
    within = (let within = h.within in omega arith);
    zero_there = h.zero_there;
    has = subst (λ stay. Has stay h.slot) (sym (rest_at stays h.at)) h.has;
    made = ap (λ l. first ∷ l) h.made;
  }

  one_here : (slot : ℕ) (numbers : List ℕ) → Has (get_or stays 0 0) slot → TakesOneIn stays (0 ∷ numbers) (slot ∷ numbers)
  one_here slot numbers has = record { at = 0; slot = slot; within = omega arith; zero_there = refl; has = has; made = refl }

  one_in_row : (number : ℕ) (old new : List ℕ) → TakesOneIn stays old new → TakesOne number stays (number ∷ old) (number ∷ new)
  one_in_row number old new h =
      let next : h.at + 1 ≡ suc h.at = omega arith in
      record {
        at = h.at;
        slot = h.slot;
        within = (let within = h.within in omega arith);
        first = refl;
        zero_there = ap (λ k. get_or (number ∷ old) k 0) next ∙ h.zero_there;
        has = h.has;
        made = ap (λ l. number ∷ l) h.made ∙ ap (λ k. set (number ∷ old) k h.slot) (sym next);
      }

-- the same numbers, or zero if a call finds the number
numbers_from : (stays sets next : List ℕ) → AreWidened stays sets next → (numbers : List ℕ) → AreIn next numbers
    → (from : List ℕ) × AreIn sets from × (n : ℕ) × TakesIn (TakesOneIn stays) n from numbers
numbers_from stays [] [] are [] h = ([], tt, 0, refl)
numbers_from stays [] [] are (m ∷ numbers) h = absurd h
numbers_from stays [] (new ∷ next) are numbers h = absurd (let long = are.long in omega arith)
numbers_from stays (s ∷ sets) [] are numbers h = absurd (let long = are.long in omega arith)
numbers_from stays (s ∷ sets) (new ∷ next) are [] h = absurd h
numbers_from stays (s ∷ sets) (new ∷ next) are (m ∷ numbers) h =
    let p = numbers_from (rest stays) sets next (widened_rest stays s new sets next are) numbers h.1 in
    let behind = λ (first : ℕ). taken_in (TakesOneIn (rest stays)) (TakesOneIn stays) (λ l. first ∷ l) (one_behind stays first) p.2 p.0 numbers p.3 in
    ⊎_elim
    (λ k. (m ∷ p.0, (k, p.1), p.2, behind m))
    (λ k. (0 ∷ p.0, (k.0, p.1), suc p.2, (0 ∷ numbers, behind 0, one_here stays m numbers k.1)))
    (was (get_or stays 0 0) s new m (are.each 0 (omega arith)) h.0)

module _ (number : ℕ) (stays sets next : List ℕ) (are : AreWidened stays sets next) where
  -- each row of the product is one of the widened one
  pub widened_has : (row : List ℕ) → IsIn (number, sets) row → IsIn (number, next) row
  widened_has [] h = absurd h
  widened_has (first ∷ numbers) h = (
    h.0,
    inside_each sets next (sym are.long) (λ k n lt. kept (get_or stays k 0) (get_or sets k 0) (get_or next k 0) n (are.each k lt)) numbers h.1,
  )

  -- each row of the widened product becomes of one of the product, by zeros that are replaced one after another
  pub widened_from : (row : List ℕ) → IsIn (number, next) row
      → (from : List ℕ) × IsIn (number, sets) from × (n : ℕ) × TakesIn (TakesOne number stays) n from row
  widened_from [] h = absurd h
  widened_from (first ∷ numbers) h =
      let p = numbers_from stays sets next are numbers h.1 in (
        number ∷ p.0,
        (refl, p.1),
        p.2,
        subst (λ k. TakesIn (TakesOne number stays) p.2 (number ∷ p.0) (k ∷ numbers)) (sym h.0)
            (taken_in (TakesOneIn stays) (TakesOne number stays) (λ l. number ∷ l) (one_in_row stays number) p.2 p.0 numbers p.3),
      )

-- one set more is widened
pub widened_more : (stays old next : List ℕ) (n v : ℕ) → length next ≡ length old → n < length old → IsWidened (get_or stays n 0) (get_or old n 0) v
    → ((k : ℕ) → k < n → IsWidened (get_or stays k 0) (get_or old k 0) (get_or next k 0))
    → (length (set next n v) ≡ length old) × ((k : ℕ) → k < n + 1 → IsWidened (get_or stays k 0) (get_or old k 0) (get_or (set next n v) k 0))
widened_more stays old next n v long lt one so_far = (length-set next n v ∙ long, each)
  where
    each : (k : ℕ) → k < n + 1 → IsWidened (get_or stays k 0) (get_or old k 0) (get_or (set next n v) k 0)
    each k less =
        ⊎_elim
        (λ same.
        subst (λ i. IsWidened (get_or stays i 0) (get_or old i 0) (get_or (set next n v) i 0)) (sym same)
        (subst (IsWidened (get_or stays n 0) (get_or old n 0)) (sym (get_or-set_same next n v 0 (omega (arith, long, lt)))) one))
        (λ other. subst (IsWidened (get_or stays k 0) (get_or old k 0)) (sym (get_or-set_other next n k v 0 other)) (so_far k (omega (arith, less, other))))
        (cases_eq k n)
