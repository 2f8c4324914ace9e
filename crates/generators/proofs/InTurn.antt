-- Generators that are asked in turn, and mixes
use Rattle.std.proofs.Common.{◌≡◌, ℕ, suc, ◌+◌, ◌%◌, ◌<◌, ◌≤◌, Bool, true, false, ◌||◌, List, [], ◌∷◌, length, get_or, take, drop, refl, ap, sym, ◌∙◌, subst, arith, length-take}
use Rattle.std.proofs.lemmas.List.{at_drop_more, at_drop_all}
use Rattle.generators.specs.declared.item.Item.{Item}
use Rattle.generators.specs.declared.form.Gen.{Gen}
use Rattle.generators.specs.Generators.{Generators, more, mix, joined, count, generator_of, generators_of}
use Rattle.generators.specs.Draws.{Ask, Draws, mix_gives, mix_declines, mix_of_none, DrawsInTurn, nobody_left, gives_here, gives_behind, none_gives, gives, declines, next_place}
use Rattle.generators.specs.declared.search_result.SearchResult.{SearchResult}
use Rattle.generators.specs.declared.search_result.SearchResult.TheVariants.{Gives, Declines}
use Rattle.generators.specs.SearchResults.{under, IsBelow}
use Rattle.generators.specs.Moves.{moved, moved_at, outcome, outcome_at}
use Rattle.generators.proofs.Children.{counted, joined_parts, count_moved, moved_behind, moved_before}

or_assoc : (a b c : Bool) → (a || b) || c ≡ a || (b || c)
or_assoc true b c = refl
or_assoc false b c = refl

or_false : (a : Bool) → a || false ≡ a
or_false true = refl
or_false false = refl

or_comm : (a b : Bool) → a || b ≡ b || a
or_comm true true = refl
or_comm true false = refl
or_comm false true = refl
or_comm false false = refl

module _ (words : ℕ → ℕ) (ask : Ask) where
  -- further ones behind those of which one gives an item
  pub then_more : {gs hs : Generators} {p q : ℕ} {x : Item} (ks : Generators) → DrawsInTurn words ask gs p (gives x hs q)
      → DrawsInTurn words ask (joined gs ks) p (gives x (joined hs ks) q)
  then_more ks (gives_here a) = gives_here a
  then_more ks (gives_behind a t) = gives_behind a (then_more ks t)

  pub then_gives : {gs ks hs : Generators} {p q r : ℕ} {x : Item} {later : Bool} → DrawsInTurn words ask gs p (declines later q)
      → DrawsInTurn words ask ks q (gives x hs r) → DrawsInTurn words ask (joined gs ks) p (gives x (joined gs hs) r)
  then_gives nobody_left u = u
  then_gives (none_gives a t) u = gives_behind a (then_gives t u)

  pub then_declines : {gs ks : Generators} {p q r : ℕ} {later others : Bool} → DrawsInTurn words ask gs p (declines later q)
      → DrawsInTurn words ask ks q (declines others r) → DrawsInTurn words ask (joined gs ks) p (declines (later || others) r)
  then_declines nobody_left u = u
  then_declines {ks = ks} {r = r} {others = o} (none_gives {g = g} {gs = gs} {p = p} {later = l} {others = m} a t) u =
      subst (λ b. DrawsInTurn words ask (joined (more g gs) ks) p (declines b r)) (sym (or_assoc l m o)) (none_gives a (then_declines t u))

  -- those before i gave nothing on the way from place p0 to p
  pub record VainTo (p0 p : ℕ) (xs : List Gen) (i : ℕ) (later : Bool) : Type 0 where
    pub giving : (x : Item) (j : ℕ) (path : List ℕ) (q : ℕ)
        → DrawsInTurn words ask (generators_of (drop i xs)) p (gives x (moved_at (generators_of (drop i xs)) j path) q)
        → DrawsInTurn words ask (generators_of xs) p0 (gives x (moved_at (generators_of xs) (i + j) path) q)
    pub declining : (others : Bool) (q : ℕ) → DrawsInTurn words ask (generators_of (drop i xs)) p (declines others q)
        → DrawsInTurn words ask (generators_of xs) p0 (declines (later || others) q)

  pub vain_more : (p0 p p' : ℕ) (xs : List Gen) (i : ℕ) (d : Gen) (later pending : Bool) → i < length xs
      → Draws words ask (generator_of (get_or xs i d)) p (declines pending p') → VainTo p0 p xs i later
      → VainTo p0 p' xs (i + 1) (later || pending)
  vain_more p0 p p' xs i d later pending h a before =
      let g = generator_of (get_or xs i d) in
      let rest = generators_of (drop (i + 1) xs) in
      let e = at_drop_more generators_of xs i d h in
      record {
        giving = λ x j path q k.
            let here : DrawsInTurn words ask (more g rest) p (gives x (moved_at (more g rest) (suc j) path) q) = gives_behind a k in
            let there = before.giving x (suc j) path q (subst (λ gs. DrawsInTurn words ask gs p (gives x (moved_at gs (suc j) path) q)) (sym e) here) in
            let n : i + suc j ≡ i + 1 + j = omega arith in
            subst (λ m. DrawsInTurn words ask (generators_of xs) p0 (gives x (moved_at (generators_of xs) m path) q)) n there;
        declining = λ others q k.
            let here : DrawsInTurn words ask (more g rest) p (declines (pending || others) q) = none_gives a k in
            let there = before.declining (pending || others) q (subst (λ gs. DrawsInTurn words ask gs p (declines (pending || others) q)) (sym e) here) in
            subst (λ b. DrawsInTurn words ask (generators_of xs) p0 (declines b q)) (sym (or_assoc later pending others)) there;
      }

  pub vain_then_gives : (p0 p q : ℕ) (xs : List Gen) (i : ℕ) (d : Gen) (later : Bool) (x : Item) (path : List ℕ) → i < length xs
      → Draws words ask (generator_of (get_or xs i d)) p (gives x (moved (generator_of (get_or xs i d)) path) q) → VainTo p0 p xs i later
      → DrawsInTurn words ask (generators_of xs) p0 (gives x (moved_at (generators_of xs) i path) q)
  vain_then_gives p0 p q xs i d later x path h a before =
      let g = generator_of (get_or xs i d) in
      let rest = generators_of (drop (i + 1) xs) in
      let here : DrawsInTurn words ask (more g rest) p (gives x (moved_at (more g rest) 0 path) q) = gives_here a in
      let there = before.giving x 0 path q (subst (λ gs. DrawsInTurn words ask gs p (gives x (moved_at gs 0 path) q)) (sym (at_drop_more generators_of xs i d h)) here) in
      let n : i + 0 ≡ i = omega arith in
      subst (λ m. DrawsInTurn words ask (generators_of xs) p0 (gives x (moved_at (generators_of xs) m path) q)) n there

  pub vain_all : (p0 p : ℕ) (xs : List Gen) (i : ℕ) (later : Bool) → length xs ≤ i → VainTo p0 p xs i later
      → DrawsInTurn words ask (generators_of xs) p0 (declines later p)
  vain_all p0 p xs i later h before =
      let none_left = subst (λ gs. DrawsInTurn words ask gs p (declines false p)) (sym (at_drop_all generators_of xs i h)) nobody_left in
      subst (λ b. DrawsInTurn words ask (generators_of xs) p0 (declines b p)) (or_false later) (before.declining false p none_left)

  pub mix_none : (xs : List Gen) (p : ℕ) → length xs ≡ 0 → Draws words ask (mix (generators_of xs)) p (declines false p)
  mix_none [] p h = mix_of_none
  mix_none (x ∷ xs) p h = absurd (omega arith)

  front_count : (xs : List Gen) (n : ℕ) → n ≤ length xs → count (generators_of (take n xs)) ≡ n
  front_count xs n h = counted (take n xs) ∙ simp length-take (omega arith)

  -- one of those from the n-th on gives an item
  pub mix_back : (xs : List Gen) (n p q : ℕ) (x : Item) (j : ℕ) (path : List ℕ) → n < length xs → n ≡ words p % length xs
      → DrawsInTurn words ask (generators_of (drop n xs)) (next_place p) (gives x (moved_at (generators_of (drop n xs)) j path) q)
      → Draws words ask (mix (generators_of xs)) p (gives x (mix (moved_at (generators_of xs) (n + j) path)) q)
  mix_back [] n p q x j path h w t = absurd (omega arith)
  mix_back (y ∷ ys) n p q x j path h w t =
      let xs = y ∷ ys in
      let front = generators_of (take n xs) in
      let back = generators_of (drop n xs) in
      let c = front_count xs n (omega arith) in
      let parts = joined_parts xs n in
      let step = mix_gives front back front (moved_at back j path) parts (c ∙ w ∙ ap (λ m. words p % m) (sym (counted xs)))
      (then_more front t) (count_moved back j path) refl in
      let same : moved_at (generators_of xs) (n + j) path ≡ joined front (moved_at back j path) =
      ap (λ gs. moved_at gs (n + j) path) parts ∙ ap (λ m. moved_at (joined front back) (m + j) path) (sym c) ∙ moved_behind front back j path in
      subst (λ gs. Draws words ask (mix (generators_of xs)) p (gives x (mix gs) q)) (sym same) step

  -- those from the n-th on give nothing, and one of those before it gives an item
  pub mix_front : (xs : List Gen) (n p q r : ℕ) (x : Item) (j : ℕ) (path : List ℕ) (later : Bool) → n < length xs → n ≡ words p % length xs
      → DrawsInTurn words ask (generators_of (drop n xs)) (next_place p) (declines later q)
      → DrawsInTurn words ask (generators_of (take n xs)) q (gives x (moved_at (generators_of (take n xs)) j path) r)
      → j < length (take n xs)
      → Draws words ask (mix (generators_of xs)) p (gives x (mix (moved_at (generators_of xs) j path)) r)
  mix_front [] n p q r x j path later h w t u below = absurd (omega arith)
  mix_front (y ∷ ys) n p q r x j path later h w t u below =
      let xs = y ∷ ys in
      let front = generators_of (take n xs) in
      let back = generators_of (drop n xs) in
      let c = front_count xs n (omega arith) in
      let parts = joined_parts xs n in
      let step = mix_gives front back (moved_at front j path) back parts (c ∙ w ∙ ap (λ m. words p % m) (sym (counted xs)))
      (then_gives t u) refl (count_moved front j path) in
      let within : j < count front = subst (λ m. j < m) (sym (counted (take n xs))) below in
      let same : moved_at (generators_of xs) j path ≡ joined (moved_at front j path) back =
      ap (λ gs. moved_at gs j path) parts ∙ moved_before front back j path within in
      subst (λ gs. Draws words ask (mix (generators_of xs)) p (gives x (mix gs) r)) (sym same) step

  pub mix_vain : (xs : List Gen) (n p q r : ℕ) (later others : Bool) → n < length xs → n ≡ words p % length xs
      → DrawsInTurn words ask (generators_of (drop n xs)) (next_place p) (declines later q)
      → DrawsInTurn words ask (generators_of (take n xs)) q (declines others r)
      → Draws words ask (mix (generators_of xs)) p (declines (later || others) r)
  mix_vain [] n p q r later others h w t u = absurd (omega arith)
  mix_vain (y ∷ ys) n p q r later others h w t u =
      let xs = y ∷ ys in
      let c = front_count xs n (omega arith) in
      mix_declines (generators_of (take n xs)) (generators_of (drop n xs)) (joined_parts xs n)
      (c ∙ w ∙ ap (λ m. words p % m) (sym (counted xs))) (then_declines t u)

  -- those from the n-th on give nothing, and those before it answer
  pub mix_then : (xs : List Gen) (n p q r : ℕ) (j : ℕ) (later : Bool) (answer : SearchResult) → n < length xs → n ≡ words p % length xs
      → DrawsInTurn words ask (generators_of (drop n xs)) (next_place p) (declines later q)
      → DrawsInTurn words ask (generators_of (take n xs)) q (outcome_at (generators_of (take n xs)) j answer r)
      → IsBelow (length (take n xs)) j answer
      → Draws words ask (mix (generators_of xs)) p (outcome (mix (generators_of xs)) (under j later answer) r)
  mix_then xs n p q r j later (Gives x path) h w t u below = mix_front xs n p q r x j path later h w t u below
  mix_then xs n p q r j later (Declines others) h w t u below =
      subst (λ b. Draws words ask (mix (generators_of xs)) p (declines b r)) (or_comm later others) (mix_vain xs n p q r later others h w t u)
