-- The given item was in the generator, and is for the asker
use Rattle.std.proofs.Common.{◌≡◌, ℕ, zero, suc, true, List, [], ◌∷◌, ◌++◌, subst}
use Rattle.std.specs.Prelude.{Some}
use Rattle.generators.specs.declared.item.Item.{Item}
use Rattle.generators.specs.declared.item.Asker.{Asker}
use Rattle.generators.specs.declared.item.Asker.TheVariants.{Thread, Nemesis}
use Rattle.generators.specs.Generators.{Generator, Generators, none, more, joined, at, with_at, Each, AllItems, AllItemsOf}
use Rattle.generators.specs.Draws.{Ask, Draws, next_item, limit_gives, mix_gives, seq_passes, seq_gives, phases_passes, phases_gives, copy_gives, clients_gives, nemesis_gives, DrawsInTurn, gives_here, gives_behind, gives, is_for, copy_for, with_copy}

module _ (P : Item → Type 0) where
  each_push : (xs : List Item) (x : Item) → P x → Each P xs → Each P (xs ++ x ∷ [])
  each_push [] x h c = (h, tt)
  each_push (y ∷ xs) x h c = (c.0, each_push xs x h c.1)

  all_parts : (a b : Generators) → AllItemsOf P (joined a b) → AllItemsOf P a × AllItemsOf P b
  all_parts none b c = (tt, c)
  all_parts (more g a) b c = let r = all_parts a b c.1 in ((c.0, r.0), r.1)

  all_joined : (a b : Generators) → AllItemsOf P a → AllItemsOf P b → AllItemsOf P (joined a b)
  all_joined none b c d = d
  all_joined (more g a) b c d = (c.0, all_joined a b c.1 d)

  turned_parts : (a b : Generators) → AllItemsOf P (joined a b) → AllItemsOf P (joined b a)
  turned_parts a b c = let r = all_parts a b c in all_joined b a r.1 r.0

  all_at : (gs : Generators) (i : ℕ) (g : Generator) → at gs i ≡ Some g → AllItemsOf P gs → AllItems P g
  all_at none i g e c = absurd cc
  all_at (more h gs) zero g e c = let same : h ≡ g = cc in subst (AllItems P) same c.0
  all_at (more h gs) (suc i) g e c = all_at gs i g e c.1

  all_with : (gs : Generators) (i : ℕ) (h : Generator) → AllItemsOf P gs → AllItems P h → AllItemsOf P (with_at gs i h)
  all_with none i h c d = tt
  all_with (more g gs) zero h c d = (d, c.1)
  all_with (more g gs) (suc i) h c d = (c.0, all_with gs i h c.1 d)

  all_copy : (a : Asker) (gs : Generators) (g : Generator) → copy_for a gs ≡ Some g → AllItemsOf P gs → AllItems P g
  all_copy (Thread t) gs g e c = all_at gs t g e c
  all_copy Nemesis gs g e c = absurd cc

  all_with_copy : (a : Asker) (gs : Generators) (h : Generator) → AllItemsOf P gs → AllItems P h → AllItemsOf P (with_copy a gs h)
  all_with_copy (Thread t) gs h c d = all_with gs t h c d
  all_with_copy Nemesis gs h c d = c

  module _ (words : ℕ → ℕ) (ask : Ask) where
    mutual
      pub stays : {g h : Generator} {p q : ℕ} {x : Item} → Draws words ask g p (gives x h q) → AllItems P g → P x × AllItems P h
      stays (next_item {x = x} {xs = xs} e) c = (c.0, each_push xs x c.0 c.1)
      stays (limit_gives k) c = stays k c
      stays (mix_gives front back front' back' e n t b f) c =
          let r = stays_turn t (turned_parts front back (subst (AllItemsOf P) e c)) in
          (r.0, turned_parts back' front' r.1)
      stays (seq_passes e k) c = stays k c.1
      stays (seq_gives e k) c = let r = stays k c.0 in (r.0, (r.1, c.1))
      stays (phases_passes e f k) c = stays k c.1
      stays (phases_gives e k) c = let r = stays k c.0 in (r.0, (r.1, c.1))
      stays (copy_gives {gs = gs} {g = g} {h = h} e k) c =
          let r = stays k (all_copy ask.asker gs g e c) in (r.0, all_with_copy ask.asker gs h c r.1)
      stays (clients_gives e k) c = stays k c
      stays (nemesis_gives e k) c = stays k c

      stays_turn : {gs hs : Generators} {p q : ℕ} {x : Item} → DrawsInTurn words ask gs p (gives x hs q) → AllItemsOf P gs → P x × AllItemsOf P hs
      stays_turn (gives_here k) c = let r = stays k c.0 in (r.0, (r.1, c.1))
      stays_turn (gives_behind k t) c = let r = stays_turn t c.1 in (r.0, (c.0, r.1))

module _ (words : ℕ → ℕ) (ask : Ask) where
  mutual
    pub for_asker : {g h : Generator} {p q : ℕ} {x : Item} → Draws words ask g p (gives x h q) → is_for ask.asker x ≡ true
    for_asker (next_item e) = e
    for_asker (limit_gives k) = for_asker k
    for_asker (mix_gives front back front' back' e n t b f) = for_asker_turn t
    for_asker (seq_passes e k) = for_asker k
    for_asker (seq_gives e k) = for_asker k
    for_asker (phases_passes e f k) = for_asker k
    for_asker (phases_gives e k) = for_asker k
    for_asker (copy_gives e k) = for_asker k
    for_asker (clients_gives e k) = for_asker k
    for_asker (nemesis_gives e k) = for_asker k

    for_asker_turn : {gs hs : Generators} {p q : ℕ} {x : Item} → DrawsInTurn words ask gs p (gives x hs q) → is_for ask.asker x ≡ true
    for_asker_turn (gives_here k) = for_asker k
    for_asker_turn (gives_behind k t) = for_asker_turn t
