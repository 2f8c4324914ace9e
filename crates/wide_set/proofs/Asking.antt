-- the meaning of the limit by which a value must be added
use Rattle.std.proofs.Common.{◌≡◌, ◌↔◌, ℕ, ◌≤◌, ◌<◌, ℤ, ◌⊎◌, inl, inr, ⊎_elim, Option, Some, None, IfSome, List, length, take, drop, get_or, refl, sym, subst, arith}
use Rattle.std.specs.List.{Contains}
use Rattle.std.proofs.lemmas.Bool.{cases_lt}
use Rattle.set_chains.proofs.Sorts.{has_or_not}
use Rattle.wide_set.specs.declared.known.Pending.{Pending}
use Rattle.wide_set.specs.declared.log.Added.{Added}
use Rattle.wide_set.specs.declared.known.Answered.{Answered}
use Rattle.wide_set.specs.declared.queries.Place.{Place}
use Rattle.wide_set.specs.declared.queries.Place.TheVariants.{Nowhere, Known, Behind}
use Rattle.wide_set.specs.Facts.{Facts, AreNested, HasAdd, IsDoneBeyond, WereAdded, AreSpared}
use Rattle.wide_set.specs.Queries.{IsPlaced, IsAnswered, IsNoLater, IsWithinLimit, HasTimely, HasBefore}
use Rattle.wide_set.proofs.Places.{in_right, left_or_right, first_is_in, from_first}

pub within_no_later : (limit : Option ℕ) (n k : ℕ) → IsWithinLimit n limit → IsNoLater limit k → n ≤ k
within_no_later None n k h later = absurd later
within_no_later (Some m) n k h later = omega arith

module _ (f : Facts) (but since : ℕ) (members : List ℤ) where
  -- the limit is when the first add of another value was done
  abbrev pub IsFirstDone : Option ℕ → Type 0
  IsFirstDone limit = IfSome limit (λ n. (a : Added) × IsDoneBeyond f.log members a n)

  abbrev pub IsLeastDone : Option ℕ → Type 0
  IsLeastDone limit = (a : Added) (n : ℕ) → IsDoneBeyond f.log members a n → IsNoLater limit n

  abbrev pub AreTimely : Option ℕ → Type 0
  AreTimely limit = (v : ℤ) → Contains members v → Contains f.base v ⊎ HasTimely f.log f.pending but limit v

  add_of : (limit : Option ℕ) (v : ℤ) → HasTimely f.log f.pending but limit v → (n : ℕ) × HasAdd f but v n × IsWithinLimit n limit
  add_of limit v h = ⊎_elim
      (λ a. (a.0.since, inl (a.0, a.1, a.2.0, refl), a.2.1))
      (λ p. (p.0.since, inr (p.0, p.1, p.2.0, p.2.1, refl), p.2.2))
      h

  timely_of : (limit : Option ℕ) (v : ℤ) (n : ℕ) → HasAdd f but v n → IsWithinLimit n limit → HasTimely f.log f.pending but limit v
  timely_of limit v n h w = ⊎_elim
      (λ a. inl (a.0, a.1, (a.2, subst (λ k. IsWithinLimit k limit) (sym a.3) w)))
      (λ p. inr (p.0, p.1, (p.2, p.3, subst (λ k. IsWithinLimit k limit) (sym p.4) w)))
      h

  pub were_added : (limit : Option ℕ) → IsLeastDone limit → IsWithinLimit since limit → AreTimely limit → WereAdded f but since members
  were_added limit least early timely = record {
    has_add = λ v k out. ⊎_elim (λ i. absurd (out i)) (λ t. (let a = add_of limit v t in (a.0, a.1))) (timely v k);
    in_time = λ v d by k out i. ⊎_elim (λ j. absurd (out j)) (λ t. (let a = add_of limit v t in (a.0, a.1, within_no_later limit a.0 by a.2 (least d by i)))) (timely v k);
    not_before = λ d by i. within_no_later limit since by early (least d by i);
  }

  pub early_of : (limit : Option ℕ) → IsFirstDone limit → WereAdded f but since members → IsWithinLimit since limit
  early_of None found w = tt
  early_of (Some n) found w = w.not_before found.0 n found.1

  timely_by : (limit : Option ℕ) → IsFirstDone limit → WereAdded f but since members → (v : ℤ) → Contains members v → ¬ Contains f.base v → HasTimely f.log f.pending but limit v
  timely_by None found w v k out = let a = w.has_add v k out in timely_of None v a.0 a.1 tt
  timely_by (Some n) found w v k out = let a = w.in_time v found.0 n k out found.1 in timely_of (Some n) v a.0 a.1 a.2

  pub timely_if : (limit : Option ℕ) → IsFirstDone limit → WereAdded f but since members → AreTimely limit
  timely_if limit found w v k = ⊎_elim inl (λ out. inr (timely_by limit found w v k out)) (has_or_not v f.base)

  -- the members are covered exactly if each has an add in time, or is in the base
  pub covered_is : (limit : Option ℕ) (these base added slice : List ℤ) (log : List Added) (pending : List Pending)
      → these ≡ members → base ≡ f.base → slice ≡ added → log ≡ f.log → pending ≡ f.pending
      → ((v : ℤ) → Contains added v ↔ HasTimely log pending but limit v)
      → ((v : ℤ) → Contains these v → Contains base v ⊎ Contains slice v) ↔ AreTimely limit
  covered_is limit these base added slice log pending e g h j k is = (
    (λ c v i. ⊎_elim
        (λ b. inl (subst (λ l. Contains l v) g b))
        (λ b. inr (subst (λ l. HasTimely l f.pending but limit v) j (subst (λ l. HasTimely log l but limit v) k ((is v).0 (subst (λ l. Contains l v) h b)))))
        (c v (subst (λ l. Contains l v) (sym e) i))),
    (λ t v i. ⊎_elim
        (λ b. inl (subst (λ l. Contains l v) (sym g) b))
        (λ b. inr (subst (λ l. Contains l v) (sym h) ((is v).1 (subst (λ l. HasTimely log l but limit v) (sym k) (subst (λ l. HasTimely l f.pending but limit v) (sym j) b)))))
        (t v (subst (λ l. Contains l v) e i))),
  )

  -- the limit, by the lists that it was found in
  pub first_done_is : (limit : Option ℕ) (these : List ℤ) (log : List Added) → these ≡ members → log ≡ f.log → IfSome limit (λ n. (a : Added) × IsDoneBeyond log these a n) → IsFirstDone limit
  first_done_is limit these log e g found =
      subst (λ (l : List Added). IfSome limit (λ n. (a : Added) × IsDoneBeyond l members a n)) g
      (subst (λ (l : List ℤ). IfSome limit (λ n. (a : Added) × IsDoneBeyond log l a n)) e found)

  pub least_done_is : (limit : Option ℕ) (these : List ℤ) (log : List Added) → these ≡ members → log ≡ f.log → ((a : Added) (n : ℕ) → IsDoneBeyond log these a n → IsNoLater limit n) → IsLeastDone limit
  least_done_is limit these log e g least =
      subst (λ (l : List Added). (a : Added) (n : ℕ) → IsDoneBeyond l members a n → IsNoLater limit n) g
      (subst (λ (l : List ℤ). (a : Added) (n : ℕ) → IsDoneBeyond log l a n → IsNoLater limit n) e least)

  pub answered_of : (place : Place) → IsPlaced f.answers since members place → WereAdded f but since members → IsAnswered f but since members place
  answered_of Nowhere h w = λ chain. absurd (h chain)
  answered_of Known h w = (h.0, w, h.1)
  answered_of (Behind at) h w = (h.0, w, h.1)

-- whether an add of the value may fail, which is not in the base, where the answers from this place on have it
module _ (f : Facts) (are : AreNested f.answers) (but : ℕ) (v : ℤ) (out : ¬ Contains f.base v) (at : ℕ)
    (with : (a : Answered) → Contains (drop at f.answers) a → Contains a.members v)
    (lacking : (a : Answered) → Contains (take at f.answers) a → ¬ Contains a.members v) where
  has_it : (a : Answered) → Contains f.answers a → Contains a.members v → Contains (drop at f.answers) a
  has_it a h k = ⊎_elim (λ j. absurd (lacking a j k)) (λ j. j) (left_or_right f.answers are at a h)

  pub spared_by_none : ((a : Answered) → ¬ Contains (drop at f.answers) a) → AreSpared f but v
  spared_by_none none o a h k = absurd (none a (has_it a h k))

  pub not_spared_by_none : (a : Answered) → Contains (drop at f.answers) a → ((moment : ℕ) → HasAdd f but v moment → IsNoLater None moment) → ¬ AreSpared f but v
  not_spared_by_none a h none spared = let k = (spared out a (in_right f.answers are at a h) (with a h)).in_time in none k.0 k.1

  module _ (first : ℕ) (found : HasAdd f but v first) (least : (moment : ℕ) → HasAdd f but v moment → first ≤ moment) where
    pub not_spared_before : HasBefore (drop at f.answers) first → ¬ AreSpared f but v
    not_spared_before b spared =
        let k = (spared out b.0 (in_right f.answers are at b.0 b.1) (with b.0 b.1)).in_time in
        let x : k.0 ≤ b.0.by = k.2 in
        let y : first ≤ k.0 = least k.0 k.1 in
        let z : b.0.by < first = b.2 in
        omega arith

    module _ (a : Answered) (lt : at < length f.answers) (is : a ≡ get_or f.answers at a) where
      pub first_in_time : (limit : Option ℕ) → IfSome limit (λ n. (d : Added) × IsDoneBeyond f.log a.members d n) → AreSpared f but v → IsWithinLimit first limit
      first_in_time None done spared = tt
      first_in_time (Some n) done spared =
          let i = first_is_in f.answers are at a lt is in
          let k = (spared out a (in_right f.answers are at a i) (with a i)).before_done done.0 n done.1 in
          let x : k.0 ≤ n = k.2 in
          let y : first ≤ k.0 = least k.0 k.1 in
          omega arith

      pub spared : (limit : Option ℕ) → ((d : Added) (n : ℕ) → IsDoneBeyond f.log a.members d n → IsNoLater limit n) → ¬ HasBefore (drop at f.answers) first → IsWithinLimit first limit → AreSpared f but v
      spared limit done none early o b h k = record {
        in_time = (first, found, ⊎_elim (λ (l : b.by < first). absurd (none (b, has_it b h k, l))) (λ (l : first ≤ b.by). l) (cases_lt b.by first));
        before_done = λ d by i. (
          first,
          found,
          within_no_later limit first by early (done d by (i.0, i.1, (λ c. i.2 ((from_first f.answers are at a lt is b (has_it b h k)).0 d.value c)))),
        );
      }
