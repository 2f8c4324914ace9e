-- Forms that ask their first child that is not over
use Rattle.std.proofs.Common.{◌≡◌, ℕ, ◌+◌, ◌<◌, Bool, true, false, ◌||◌, List, [], ◌∷◌, length, get_or, drop, sym, subst, arith}
use Rattle.std.proofs.lemmas.List.{at_drop_more}
use Rattle.generators.specs.declared.search_result.SearchResult.{SearchResult}
use Rattle.generators.specs.declared.search_result.SearchResult.TheVariants.{Gives, Declines}
use Rattle.generators.specs.declared.form.Gen.{Gen}
use Rattle.generators.specs.Generators.{Generator, Generators, more, seq, phases, generator_of, generators_of, is_over, is_some}
use Rattle.generators.specs.Draws.{Ask, Draws, seq_of_none, seq_passes, seq_gives, seq_declines, phases_of_none, phases_waits, phases_passes, phases_gives, phases_declines, DrawOutcome, gives, declines, all_idle}
use Rattle.generators.specs.SearchResults.{under}
use Rattle.generators.specs.Moves.{moved, outcome, outcome_first, DrawsFirst}
use Rattle.generators.proofs.Children.{moved_first_at, follower}

module _ (words : ℕ → ℕ) (ask : Ask) where
  pub seq_first : DrawsFirst words ask seq true
  seq_first = record {
    of_none = λ p. seq_of_none;
    waits = λ g gs p o s f. absurd cc;
    passes = λ g gs p o e _ k. seq_passes e k;
    first_gives = λ g h gs p q x e k. seq_gives e k;
    first_declines = λ g gs p q later e k. seq_declines e k;
  }

  pub phases_first : DrawsFirst words ask phases (all_idle ask.idle)
  phases_first = record {
    of_none = λ p. phases_of_none;
    waits = λ g gs p o s f. phases_waits o s f;
    passes = λ g gs p o e f k. phases_passes e f k;
    first_gives = λ g h gs p q x e k. phases_gives e k;
    first_declines = λ g gs p q later e k. phases_declines e k;
  }

  pub asks_seq : (gs : Generators) (p q : ℕ) (a : SearchResult) → Draws words ask (seq gs) p (outcome_first seq gs a q)
      → Draws words ask (seq gs) p (outcome (seq gs) a q)
  asks_seq gs p q (Gives x []) k = k
  asks_seq gs p q (Gives x (i ∷ path)) k = k
  asks_seq gs p q (Declines later) k = k

  pub asks_phases : (gs : Generators) (p q : ℕ) (a : SearchResult) → Draws words ask (phases gs) p (outcome_first phases gs a q)
      → Draws words ask (phases gs) p (outcome (phases gs) a q)
  asks_phases gs p q (Gives x []) k = k
  asks_phases gs p q (Gives x (i ∷ path)) k = k
  asks_phases gs p q (Declines later) k = k

  -- the children before i are passed
  pub record PassedTo (passing : Bool) (p : ℕ) (xs : List Gen) (i : ℕ) : Type 0 where
    pub passed : (form : Generators → Generator) → DrawsFirst words ask form passing → (o : DrawOutcome Generator)
        → Draws words ask (form (generators_of (drop i xs))) p o → Draws words ask (form (generators_of xs)) p o

  pub waits_here : (passing : Bool) (p : ℕ) (xs : List Gen) (i : ℕ) (d : Gen) → i + 1 < length xs
      → is_over (generator_of (get_or xs i d)) ≡ true → passing ≡ false → PassedTo passing p xs i
      → (form : Generators → Generator) → DrawsFirst words ask form passing → Draws words ask (form (generators_of xs)) p (declines true p)
  waits_here passing p xs i d h over free before form f =
      let next = f.waits (generator_of (get_or xs i d)) (generators_of (drop (i + 1) xs)) p over (follower xs (i + 1) h) free in
      before.passed form f (declines true p)
      (subst (λ gs. Draws words ask (form gs) p (declines true p)) (sym (at_drop_more generators_of xs i d (omega arith))) next)

  pub asks_here : (passing : Bool) (p q : ℕ) (xs : List Gen) (i : ℕ) (d : Gen) (follows : Bool) (a : SearchResult) → i < length xs
      → is_over (generator_of (get_or xs i d)) ≡ false → follows ≡ is_some (generators_of (drop (i + 1) xs))
      → PassedTo passing p xs i
      → Draws words ask (generator_of (get_or xs i d)) p (outcome (generator_of (get_or xs i d)) a q)
      → (form : Generators → Generator) → DrawsFirst words ask form passing
      → Draws words ask (form (generators_of xs)) p (outcome_first form (generators_of xs) (under i follows a) q)
  asks_here passing p q xs i d follows (Gives x path) h over e before k form f =
      let g = generator_of (get_or xs i d) in
      let rest = generators_of (drop (i + 1) xs) in
      let o : DrawOutcome Generator = gives x (form (more (moved g path) rest)) q in
      let next = f.first_gives g (moved g path) rest p q x over k in
      let here = before.passed form f o (subst (λ gs. Draws words ask (form gs) p o) (sym (at_drop_more generators_of xs i d h)) next) in
      subst (λ hs. Draws words ask (form (generators_of xs)) p (gives x (form hs) q)) (sym (moved_first_at xs i d path h)) here
  asks_here passing p q xs i d follows (Declines later) h over e before k form f =
      let g = generator_of (get_or xs i d) in
      let rest = generators_of (drop (i + 1) xs) in
      let next = f.first_declines g rest p q later over k in
      let o : DrawOutcome Generator = declines (later || is_some rest) q in
      let here = before.passed form f o (subst (λ gs. Draws words ask (form gs) p o) (sym (at_drop_more generators_of xs i d h)) next) in
      subst (λ b. Draws words ask (form (generators_of xs)) p (declines (later || b) q)) (sym e) here
