-- Draws of one generator, by the answer that the search found
use Rattle.std.proofs.Common.{◌≡◌, ℕ, zero, suc, ◌-◌, ◌<◌, ◌≤◌, true, false, List, [], ◌∷◌, ◌++◌, length, get_or, ap, sym, ◌∙◌, subst, arith}
use Rattle.std.specs.Prelude.{Some, None, not}
use Rattle.generators.specs.declared.item.Item.{Item}
use Rattle.generators.specs.declared.item.Asker.TheVariants.{Thread, Nemesis}
use Rattle.generators.specs.declared.search_result.SearchResult.{SearchResult}
use Rattle.generators.specs.declared.search_result.SearchResult.TheVariants.{Gives, Declines}
use Rattle.generators.specs.declared.form.Gen.{Gen}
use Rattle.generators.specs.Turns.{first_of, turned}
use Rattle.generators.specs.Generators.{Generator, ops, limit, each_thread, clients, nemesis, generator_of, generators_of, all_over}
use Rattle.generators.specs.Draws.{Ask, Draws, no_items, next_item, for_others, limit_reached, limit_gives, limit_declines, no_copy, copy_gives, copy_declines, clients_gives, clients_declines, nemesis_gives, nemesis_declines, gives, declines, is_for, is_thread, copy_for, with_copy}
use Rattle.generators.specs.SearchResults.{under}
use Rattle.generators.specs.Moves.{moved, moved_at, outcome}
use Rattle.generators.proofs.Children.{at_of, at_past, with_at_moved}

module _ (words : ℕ → ℕ) (ask : Ask) where
  -- the same generator, seen at another level
  pub seen_as : (g h : Generator) (p q : ℕ) (a : SearchResult) → g ≡ h → Draws words ask h p (outcome h a q) → Draws words ask g p (outcome g a q)
  seen_as g h p q a e = subst (λ x. Draws words ask x p (outcome x a q)) (sym e)

  pub asks_none : (items : List Item) (p : ℕ) → None ≡ first_of items → Draws words ask (ops items) p (declines false p)
  asks_none [] p e = no_items
  asks_none (x ∷ items) p e = absurd cc

  pub asks_next : (items : List Item) (x : Item) (p : ℕ) → Some x ≡ first_of items → is_for ask.asker x ≡ true
      → Draws words ask (ops items) p (gives x (ops (turned items)) p)
  asks_next [] x p e f = absurd cc
  asks_next (y ∷ items) x p e f =
      let same : x ≡ y = cc in
      subst (λ z. Draws words ask (ops (y ∷ items)) p (gives z (ops (items ++ y ∷ [])) p)) (sym same)
      (next_item (ap (is_for ask.asker) (sym same) ∙ f))

  pub asks_others : (items : List Item) (x : Item) (p : ℕ) → Some x ≡ first_of items → is_for ask.asker x ≡ false
      → Draws words ask (ops items) p (declines true p)
  asks_others [] x p e f = absurd cc
  asks_others (y ∷ items) x p e f = let same : x ≡ y = cc in for_others (ap (is_for ask.asker) (sym same) ∙ f)

  pub asks_limit : (n : ℕ) (g : Generator) (p q : ℕ) (a : SearchResult) → 0 < n → Draws words ask g p (outcome g a q)
      → Draws words ask (limit n g) p (outcome (limit n g) a q)
  asks_limit zero g p q a h k = absurd (omega arith)
  asks_limit (suc n) g p q (Gives x path) h k =
      let e : suc n - 1 ≡ n = omega arith in
      subst (λ m. Draws words ask (limit (suc n) g) p (gives x (limit m (moved g path)) q)) (sym e) (limit_gives k)
  asks_limit (suc n) g p q (Declines later) h k = limit_declines k

  pub asks_reached : (n : ℕ) (g : Generator) (p : ℕ) → n ≡ 0 → Draws words ask (limit n g) p (declines false p)
  asks_reached n g p e = subst (λ m. Draws words ask (limit m g) p (declines false p)) (sym e) limit_reached

  pub asks_clients : (g : Generator) (p q : ℕ) (a : SearchResult) → is_thread ask.asker ≡ true → Draws words ask g p (outcome g a q)
      → Draws words ask (clients g) p (outcome (clients g) a q)
  asks_clients g p q (Gives x path) t k = clients_gives t k
  asks_clients g p q (Declines later) t k = clients_declines t k

  pub asks_nemesis : (g : Generator) (p q : ℕ) (a : SearchResult) → is_thread ask.asker ≡ false → Draws words ask g p (outcome g a q)
      → Draws words ask (nemesis g) p (outcome (nemesis g) a q)
  asks_nemesis g p q (Gives x path) t k = nemesis_gives t k
  asks_nemesis g p q (Declines later) t k = nemesis_declines t k

  pub asks_copy : (xs : List Gen) (i : ℕ) (d : Gen) (p q : ℕ) (a : SearchResult) → ask.asker ≡ Thread i → i < length xs
      → Draws words ask (generator_of (get_or xs i d)) p (outcome (generator_of (get_or xs i d)) a q)
      → Draws words ask (each_thread (generators_of xs)) p (outcome (each_thread (generators_of xs)) (under i (not (all_over (generators_of xs))) a) q)
  asks_copy xs i d p q (Gives x path) e h k =
      let gs = generators_of xs in
      let there : copy_for ask.asker gs ≡ Some (generator_of (get_or xs i d)) = ap (λ a. copy_for a gs) e ∙ at_of xs i d h in
      let after : with_copy ask.asker gs (moved (generator_of (get_or xs i d)) path) ≡ moved_at gs i path =
      ap (λ a. with_copy a gs (moved (generator_of (get_or xs i d)) path)) e ∙ with_at_moved xs i d path h in
      subst (λ hs. Draws words ask (each_thread gs) p (gives x (each_thread hs) q)) after (copy_gives there k)
  asks_copy xs i d p q (Declines later) e h k =
      let gs = generators_of xs in
      let there : copy_for ask.asker gs ≡ Some (generator_of (get_or xs i d)) = ap (λ a. copy_for a gs) e ∙ at_of xs i d h in
      copy_declines there k

  pub asks_no_copy : (xs : List Gen) (i p : ℕ) → ask.asker ≡ Thread i → length xs ≤ i
      → Draws words ask (each_thread (generators_of xs)) p (declines false p)
  asks_no_copy xs i p e h = no_copy (ap (λ a. copy_for a (generators_of xs)) e ∙ at_past xs i h)

  pub asks_no_thread : (xs : List Gen) (p : ℕ) → ask.asker ≡ Nemesis
      → Draws words ask (each_thread (generators_of xs)) p (declines false p)
  asks_no_thread xs p e = no_copy (ap (λ a. copy_for a (generators_of xs)) e)
