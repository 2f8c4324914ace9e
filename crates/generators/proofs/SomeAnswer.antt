-- Each ask comes to some outcome
use Rattle.std.proofs.Common.{◌≡◌, ℕ, zero, suc, ◌+◌, ◌%◌, ◌≤◌, Bool, true, false, ◌&&◌, ◌||◌, List, [], ◌∷◌, ◌++◌, refl, ap, ◌∙◌, subst, arith}
use Rattle.std.specs.Prelude.{Option, Some, None, not}
use Rattle.generators.specs.declared.item.Item.{Item}
use Rattle.generators.specs.declared.item.Asker.{Asker}
use Rattle.generators.specs.declared.item.Asker.TheVariants.{Thread, Nemesis}
use Rattle.generators.specs.Generators.{Generator, Generators, none, more, ops, mix, limit, seq, phases, each_thread, clients, nemesis, joined, count, is_some, is_over, all_over, at}
use Rattle.generators.specs.Draws.{Ask, Draws, no_items, next_item, for_others, limit_reached, limit_gives, limit_declines, mix_of_none, mix_gives, mix_declines, seq_of_none, seq_passes, seq_gives, seq_declines, phases_of_none, phases_waits, phases_passes, phases_gives, phases_declines, no_copy, copy_gives, copy_declines, clients_not, clients_gives, clients_declines, nemesis_not, nemesis_gives, nemesis_declines, DrawsInTurn, nobody_left, gives_here, gives_behind, none_gives, DrawOutcome, gives, declines, with_copy, copy_for, is_for, is_thread, next_place, all_idle}

-- the first n, and the others
record Cut (gs : Generators) (n : ℕ) : Type 0 where
  front : Generators
  back : Generators
  parts : gs ≡ joined front back
  counted : count front ≡ n

cut : (gs : Generators) (n : ℕ) → n ≤ count gs → Cut gs n
cut gs zero h = record { front = none; back = gs; parts = refl; counted = refl }
cut none (suc n) h = absurd (omega arith)
cut (more g gs) (suc n) h =
    let c = cut gs n (omega arith) in
    let counted : count c.front + 1 ≡ suc n = omega (arith, c.counted) in
    record { front = more g c.front; back = c.back; parts = ap (more g) c.parts; counted = counted }

count_joined : (a b : Generators) → count (joined a b) ≡ count a + count b
count_joined none b = omega arith
count_joined (more g a) b = omega (arith, count_joined a b)

module _ (words : ℕ → ℕ) (ask : Ask) where
  pub record Comes (g : Generator) (p : ℕ) : Type 0 where
    pub outcome : DrawOutcome Generator
    pub asked : Draws words ask g p outcome

  record ComesInTurn (gs : Generators) (p : ℕ) : Type 0 where
    outcome : DrawOutcome Generators
    asked : DrawsInTurn words ask gs p outcome

  abbrev AllCome : Generators → Type 0
  AllCome none = Unit {0}
  AllCome (more g gs) = ((p : ℕ) → Comes g p) × AllCome gs

  behind : (g : Generator) (gs : Generators) (p q : ℕ) (later : Bool) (o : DrawOutcome Generators) → Draws words ask g p (declines later q)
      → DrawsInTurn words ask gs q o → ComesInTurn (more g gs) p
  behind g gs p q later (gives x hs r) a t = record { outcome = gives x (more g hs) r; asked = gives_behind a t }
  behind g gs p q later (declines others r) a t = record { outcome = declines (later || others) r; asked = none_gives a t }

  then_others : (g : Generator) (gs : Generators) (p : ℕ) (o : DrawOutcome Generator) → Draws words ask g p o
      → ((q : ℕ) → ComesInTurn gs q) → ComesInTurn (more g gs) p
  then_others g gs p (gives x h q) a rest = record { outcome = gives x (more h gs) q; asked = gives_here a }
  then_others g gs p (declines later q) a rest = behind g gs p q later (rest q).outcome a (rest q).asked

  in_turn : (gs : Generators) → AllCome gs → (p : ℕ) → ComesInTurn gs p
  in_turn none c p = record { outcome = declines false p; asked = nobody_left }
  in_turn (more g gs) c p = then_others g gs p (c.0 p).outcome (c.0 p).asked (in_turn gs c.1)

  all_front : (a b : Generators) → AllCome (joined a b) → AllCome a × AllCome b
  all_front none b c = (tt, c)
  all_front (more g a) b c = let r = all_front a b c.1 in ((c.0, r.0), r.1)

  all_joined : (a b : Generators) → AllCome a → AllCome b → AllCome (joined a b)
  all_joined none b c d = d
  all_joined (more g a) b c d = (c.0, all_joined a b c.1 d)

  kept_count : {gs hs : Generators} {p q : ℕ} {x : Item} → DrawsInTurn words ask gs p (gives x hs q) → count hs ≡ count gs
  kept_count (gives_here a) = refl
  kept_count (gives_behind a t) = ap (λ n. n + 1) (kept_count t)

  mix_then : (g : Generator) (gs front back : Generators) (p : ℕ) (o : DrawOutcome Generators) → more g gs ≡ joined front back
      → count front ≡ words p % count (more g gs) → DrawsInTurn words ask (joined back front) (next_place p) o → Comes (mix (more g gs)) p
  mix_then g gs front back p (declines later q) e c t = record { outcome = declines later q; asked = mix_declines front back e c t }
  mix_then g gs front back p (gives x hs q) e c t =
      let kept : count hs ≡ count back + count front = kept_count t ∙ count_joined back front in
      let k = cut hs (count back) (omega (arith, kept)) in
      let whole : count hs ≡ count k.front + count k.back = ap count k.parts ∙ count_joined k.front k.back in
      let fronts : count k.back ≡ count front = omega (arith, kept, whole, k.counted) in
      let t2 = subst (λ z. DrawsInTurn words ask (joined back front) (next_place p) (gives x z q)) k.parts t in
      record { outcome = gives x (mix (joined k.back k.front)) q; asked = mix_gives front back k.back k.front e c t2 k.counted fronts }

  mix_comes : (gs : Generators) → AllCome gs → (p : ℕ) → Comes (mix gs) p
  mix_comes none c p = record { outcome = declines false p; asked = mix_of_none }
  mix_comes (more g gs) c p =
      let n = words p % count (more g gs) in
      let k = cut (more g gs) n (omega arith) in
      let all = all_front k.front k.back (subst AllCome k.parts c) in
      let t = in_turn (joined k.back k.front) (all_joined k.back k.front all.1 all.0) (next_place p) in
      mix_then g gs k.front k.back p t.outcome k.parts k.counted t.asked

  ops_come : (x : Item) (xs : List Item) (p : ℕ) (b : Bool) → is_for ask.asker x ≡ b → Comes (ops (x ∷ xs)) p
  ops_come x xs p true e = record { outcome = gives x (ops (xs ++ x ∷ [])) p; asked = next_item e }
  ops_come x xs p false e = record { outcome = declines true p; asked = for_others e }

  limit_comes : (n : ℕ) (g : Generator) (p : ℕ) (o : DrawOutcome Generator) → Draws words ask g p o → Comes (limit n g) p
  limit_comes zero g p o a = record { outcome = declines false p; asked = limit_reached }
  limit_comes (suc n) g p (gives x h q) a = record { outcome = gives x (limit n h) q; asked = limit_gives a }
  limit_comes (suc n) g p (declines later q) a = record { outcome = declines later q; asked = limit_declines a }

  seq_more : (g : Generator) (gs : Generators) (p : ℕ) (b : Bool) (o : DrawOutcome Generator) → is_over g ≡ b → Draws words ask g p o → Comes (seq gs) p
      → Comes (seq (more g gs)) p
  seq_more g gs p true o e a rest = record { outcome = rest.outcome; asked = seq_passes e rest.asked }
  seq_more g gs p false (gives x h q) e a rest = record { outcome = gives x (seq (more h gs)) q; asked = seq_gives e a }
  seq_more g gs p false (declines later q) e a rest = record { outcome = declines (later || is_some gs) q; asked = seq_declines e a }

  seq_comes : (gs : Generators) → AllCome gs → (p : ℕ) → Comes (seq gs) p
  seq_comes none c p = record { outcome = declines false p; asked = seq_of_none }
  seq_comes (more g gs) c p = seq_more g gs p (is_over g) (c.0 p).outcome refl (c.0 p).asked (seq_comes gs c.1 p)

  phases_more : (g : Generator) (gs : Generators) (p : ℕ) (b w i : Bool) (o : DrawOutcome Generator) → is_over g ≡ b → is_some gs ≡ w → all_idle ask.idle ≡ i
      → Draws words ask g p o → Comes (phases gs) p → Comes (phases (more g gs)) p
  phases_more g gs p true true false o e f h a rest = record { outcome = declines true p; asked = phases_waits e f h }
  phases_more g gs p true true true o e f h a rest =
      let passing : is_some gs && not (all_idle ask.idle) ≡ false = ap (λ z. is_some gs && not z) h ∙ ap (λ z. z && false) f in
      record { outcome = rest.outcome; asked = phases_passes e passing rest.asked }
  phases_more g gs p true false i o e f h a rest =
      let passing : is_some gs && not (all_idle ask.idle) ≡ false = ap (λ z. z && not (all_idle ask.idle)) f in
      record { outcome = rest.outcome; asked = phases_passes e passing rest.asked }
  phases_more g gs p false w i (gives x h q) e f j a rest = record { outcome = gives x (phases (more h gs)) q; asked = phases_gives e a }
  phases_more g gs p false w i (declines later q) e f j a rest = record { outcome = declines (later || is_some gs) q; asked = phases_declines e a }

  phases_come : (gs : Generators) → AllCome gs → (p : ℕ) → Comes (phases gs) p
  phases_come none c p = record { outcome = declines false p; asked = phases_of_none }
  phases_come (more g gs) c p =
      phases_more g gs p (is_over g) (is_some gs) (all_idle ask.idle) (c.0 p).outcome refl refl refl (c.0 p).asked (phases_come gs c.1 p)

  all_at : (gs : Generators) (i : ℕ) (g : Generator) → AllCome gs → at gs i ≡ Some g → (p : ℕ) → Comes g p
  all_at none i g c e = absurd cc
  all_at (more h gs) zero g c e = let same : h ≡ g = cc in subst (λ z. (p : ℕ) → Comes z p) same c.0
  all_at (more h gs) (suc i) g c e = all_at gs i g c.1 e

  copy_of : (a : Asker) (gs : Generators) (g : Generator) → AllCome gs → copy_for a gs ≡ Some g → (p : ℕ) → Comes g p
  copy_of (Thread t) gs g c e = all_at gs t g c e
  copy_of Nemesis gs g c e = absurd cc

  copy_then : (gs : Generators) (g : Generator) (p : ℕ) (o : DrawOutcome Generator) → copy_for ask.asker gs ≡ Some g → Draws words ask g p o → Comes (each_thread gs) p
  copy_then gs g p (gives x h q) e a = record { outcome = gives x (each_thread (with_copy ask.asker gs h)) q; asked = copy_gives e a }
  copy_then gs g p (declines later q) e a = record { outcome = declines (later || not (all_over gs)) q; asked = copy_declines e a }

  each_comes : (gs : Generators) (p : ℕ) (m : Option Generator) → AllCome gs → copy_for ask.asker gs ≡ m → Comes (each_thread gs) p
  each_comes gs p None c e = record { outcome = declines false p; asked = no_copy e }
  each_comes gs p (Some g) c e = let k = copy_of ask.asker gs g c e p in copy_then gs g p k.outcome e k.asked

  clients_come : (g : Generator) (p : ℕ) (b : Bool) (o : DrawOutcome Generator) → is_thread ask.asker ≡ b → Draws words ask g p o → Comes (clients g) p
  clients_come g p false o e a = record { outcome = declines false p; asked = clients_not e }
  clients_come g p true (gives x h q) e a = record { outcome = gives x (clients h) q; asked = clients_gives e a }
  clients_come g p true (declines later q) e a = record { outcome = declines later q; asked = clients_declines e a }

  nemesis_comes : (g : Generator) (p : ℕ) (b : Bool) (o : DrawOutcome Generator) → is_thread ask.asker ≡ b → Draws words ask g p o → Comes (nemesis g) p
  nemesis_comes g p true o e a = record { outcome = declines false p; asked = nemesis_not e }
  nemesis_comes g p false (gives x h q) e a = record { outcome = gives x (nemesis h) q; asked = nemesis_gives e a }
  nemesis_comes g p false (declines later q) e a = record { outcome = declines later q; asked = nemesis_declines e a }

  mutual
    pub come : (g : Generator) (p : ℕ) → Comes g p
    come (ops []) p = record { outcome = declines false p; asked = no_items }
    come (ops (x ∷ xs)) p = ops_come x xs p (is_for ask.asker x) refl
    come (mix gs) p = mix_comes gs (come_all gs) p
    come (limit n g) p = limit_comes n g p (come g p).outcome (come g p).asked
    come (seq gs) p = seq_comes gs (come_all gs) p
    come (phases gs) p = phases_come gs (come_all gs) p
    come (each_thread gs) p = each_comes gs p (copy_for ask.asker gs) (come_all gs) refl
    come (clients g) p = clients_come g p (is_thread ask.asker) (come g p).outcome refl (come g p).asked
    come (nemesis g) p = nemesis_comes g p (is_thread ask.asker) (come g p).outcome refl (come g p).asked

    come_all : (gs : Generators) → AllCome gs
    come_all none = tt
    come_all (more g gs) = (come g, come_all gs)
