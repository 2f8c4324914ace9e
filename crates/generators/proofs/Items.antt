-- An item that is found inside a form is one that the form gives
use Rattle.std.proofs.Common.{◌≡◌, ℕ, ◌+◌, ◌%◌, ◌<◌, Bool, true, false, List, ◌∷◌, length, get_or, take, drop, sym, subst}
use Rattle.std.specs.Prelude.{Result, Ok, Err, OnErr}
use Rattle.generators.specs.declared.item.Asker.TheVariants.{Thread}
use Rattle.generators.specs.declared.search_result.SearchResult.{SearchResult}
use Rattle.generators.specs.declared.search_result.SearchResult.TheVariants.{Gives, Declines}
use Rattle.generators.specs.declared.form.Gen.{Gen}
use Rattle.generators.specs.Generators.{Generator, Generators, mix, limit, seq, phases, each_thread, clients, nemesis, generator_of, generators_of, is_over, is_some}
use Rattle.generators.specs.Draws.{Ask, Draws, DrawsInTurn, GivesItem, declines, next_place, is_thread, all_idle}
use Rattle.generators.specs.SearchResults.{under, IsItem}
use Rattle.generators.specs.Moves.{moved, outcome, FindsItem, FindsInTurn, FindsFirst}
use Rattle.generators.proofs.Children.{counted}
use Rattle.generators.proofs.Asked.{asks_limit, asks_clients, asks_nemesis, asks_copy}
use Rattle.generators.proofs.First.{PassedTo, asks_seq, asks_phases, asks_here, seq_first, phases_first}
use Rattle.generators.proofs.InTurn.{VainTo, vain_then_gives, mix_back, mix_front}

pub on_err : {T E P : Type 0} (r : Result T E) → P → OnErr r P
on_err (Ok x) p = tt
on_err (Err e) p = p

pub item_under : (i : ℕ) (others : Bool) (a : SearchResult) → IsItem a → IsItem (under i others a)
item_under i others (Gives x path) is = tt
item_under i others (Declines later) is = absurd is

module _ (words : ℕ → ℕ) (ask : Ask) where
  -- the answer is an item
  pub finds_by : (g : Generator) (p q : ℕ) (a : SearchResult) → IsItem a → Draws words ask g p (outcome g a q) → FindsItem words ask g p
  finds_by g p q (Gives x path) is k = (x, path, q, k)
  finds_by g p q (Declines later) is k = absurd is

  pub gives_found : (g : Generator) (p : ℕ) → FindsItem words ask g p → GivesItem words ask g p
  gives_found g p f = (f.0, moved g f.1, f.2, f.3)

  -- the same generator, seen at another level
  pub finds_as : (g h : Generator) (p : ℕ) → g ≡ h → FindsItem words ask h p → FindsItem words ask g p
  finds_as g h p e = subst (λ x. FindsItem words ask x p) (sym e)

  pub finds_limit : (n : ℕ) (g : Generator) (p : ℕ) → 0 < n → FindsItem words ask g p → FindsItem words ask (limit n g) p
  finds_limit n g p h f = (f.0, f.1, f.2, asks_limit words ask n g p f.2 (Gives f.0 f.1) h f.3)

  pub finds_clients : (g : Generator) (p : ℕ) → is_thread ask.asker ≡ true → FindsItem words ask g p → FindsItem words ask (clients g) p
  finds_clients g p t f = (f.0, f.1, f.2, asks_clients words ask g p f.2 (Gives f.0 f.1) t f.3)

  pub finds_nemesis : (g : Generator) (p : ℕ) → is_thread ask.asker ≡ false → FindsItem words ask g p → FindsItem words ask (nemesis g) p
  finds_nemesis g p t f = (f.0, f.1, f.2, asks_nemesis words ask g p f.2 (Gives f.0 f.1) t f.3)

  pub finds_seq : (gs : Generators) (p : ℕ) → FindsFirst words ask true gs p → FindsItem words ask (seq gs) p
  finds_seq gs p f = (f.0, f.1, f.2, asks_seq words ask gs p f.2 (Gives f.0 f.1) (f.3 seq (seq_first words ask)))

  pub finds_phases : (gs : Generators) (p : ℕ) → FindsFirst words ask (all_idle ask.idle) gs p → FindsItem words ask (phases gs) p
  finds_phases gs p f = (f.0, f.1, f.2, asks_phases words ask gs p f.2 (Gives f.0 f.1) (f.3 phases (phases_first words ask)))

  pub finds_copy : (xs : List Gen) (i : ℕ) (d : Gen) (p : ℕ) → ask.asker ≡ Thread i → i < length xs
      → FindsItem words ask (generator_of (get_or xs i d)) p → FindsItem words ask (each_thread (generators_of xs)) p
  finds_copy xs i d p e h f = (f.0, i ∷ f.1, f.2, asks_copy words ask xs i d p f.2 (Gives f.0 f.1) e h f.3)

  pub finds_here : (passing : Bool) (p : ℕ) (xs : List Gen) (i : ℕ) (d : Gen) (follows : Bool) → i < length xs
      → is_over (generator_of (get_or xs i d)) ≡ false → follows ≡ is_some (generators_of (drop (i + 1) xs))
      → PassedTo words ask passing p xs i → FindsItem words ask (generator_of (get_or xs i d)) p
      → FindsFirst words ask passing (generators_of xs) p
  finds_here passing p xs i d follows h over e before f =
      (f.0, i ∷ f.1, f.2, asks_here words ask passing p f.2 xs i d follows (Gives f.0 f.1) h over e before f.3)

  pub finds_in_turn : (p0 p : ℕ) (xs : List Gen) (i : ℕ) (d : Gen) (later : Bool) → i < length xs → VainTo words ask p0 p xs i later
      → FindsItem words ask (generator_of (get_or xs i d)) p → FindsInTurn words ask (generators_of xs) p0
  finds_in_turn p0 p xs i d later h before f =
      (f.0, i, f.1, f.2, vain_then_gives words ask p0 p f.2 xs i d later f.0 f.1 h f.3 before, subst (λ n. i < n) (sym (counted xs)) h)

  pub finds_behind : (xs : List Gen) (n p : ℕ) → n < length xs → n ≡ words p % length xs
      → FindsInTurn words ask (generators_of (drop n xs)) (next_place p) → FindsItem words ask (mix (generators_of xs)) p
  finds_behind xs n p h w f = (f.0, (n + f.1) ∷ f.2, f.3, mix_back words ask xs n p f.3 f.0 f.1 f.2 h w f.4)

  pub finds_before : (xs : List Gen) (n p q : ℕ) (later : Bool) → n < length xs → n ≡ words p % length xs
      → DrawsInTurn words ask (generators_of (drop n xs)) (next_place p) (declines later q)
      → FindsInTurn words ask (generators_of (take n xs)) q → FindsItem words ask (mix (generators_of xs)) p
  finds_before xs n p q later h w t f =
      (f.0, f.1 ∷ f.2, f.3, mix_front words ask xs n p q f.3 f.0 f.1 f.2 later h w t f.4 (subst (λ m. f.1 < m) (counted (take n xs)) f.5))
