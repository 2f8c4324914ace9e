-- Each ask comes to one outcome
use Rattle.std.proofs.Common.{◌≡◌, ℕ, Bool, true, false, ◌&&◌, ◌||◌, refl, ap, sym, ◌∙◌, subst, arith}
use Rattle.std.specs.Prelude.{not}
use Rattle.generators.specs.declared.item.Drawn.{Drawn}
use Rattle.generators.specs.declared.item.Drawn.TheVariants.{Op, Pending, Done}
use Rattle.generators.specs.Generators.{Generator, Generators, none, more, mix, limit, seq, phases, each_thread, clients, nemesis, joined, count, is_some, all_over}
use Rattle.generators.specs.Draws.{Ask, Draws, no_items, next_item, for_others, limit_reached, limit_gives, limit_declines, mix_of_none, mix_gives, mix_declines, seq_of_none, seq_passes, seq_gives, seq_declines, phases_of_none, phases_waits, phases_passes, phases_gives, phases_declines, no_copy, copy_gives, copy_declines, clients_not, clients_gives, clients_declines, nemesis_not, nemesis_gives, nemesis_declines, DrawsInTurn, nobody_left, gives_here, gives_behind, none_gives, DrawOutcome, gives, declines, with_copy, next_place, all_idle, MayDraw}

-- the outcome of a part, as that of the whole
abbrev whole : {A B : Type 0} → Bool → (A → B) → DrawOutcome A → DrawOutcome B
whole others f (gives x h q) = gives x (f h) q
whole others f (declines later q) = declines (later || others) q

abbrev same_whole : {A B : Type 0} → (A → B) → DrawOutcome A → DrawOutcome B
same_whole f (gives x h q) = gives x (f h) q
same_whole f (declines later q) = declines later q

joined_cancel : (a b c d : Generators) → joined a b ≡ joined c d → count a ≡ count c → (a ≡ c) × (b ≡ d)
joined_cancel none b none d e f = (refl, e)
joined_cancel none b (more g c) d e f = absurd (omega arith)
joined_cancel (more g a) b none d e f = absurd (omega arith)
joined_cancel (more g a) b (more h c) d e f =
    let first : g ≡ h = cc in
    let others : joined a b ≡ joined c d = cc in
    let r = joined_cancel a b c d others (omega arith) in
    let front : more g a ≡ more h c = ap (λ x. more x a) first ∙ ap (more h) r.0 in
    (front, r.1)

waits_or_passes : (a b : Bool) → a ≡ true → b ≡ false → a && not b ≡ false → ⊥
waits_or_passes true false e f h = cc
waits_or_passes true true e f h = cc
waits_or_passes false b e f h = cc

module _ (words : ℕ → ℕ) (ask : Ask) where
  mutual
    pub one : {g : Generator} {p : ℕ} {o u : DrawOutcome Generator} → Draws words ask g p o → Draws words ask g p u → o ≡ u
    one no_items no_items = refl
    one (next_item e) (next_item f) = refl
    one (next_item e) (for_others f) = absurd cc
    one (for_others e) (next_item f) = absurd cc
    one (for_others e) (for_others f) = refl
    one limit_reached limit_reached = refl
    one (limit_gives {n = n} k) (limit_gives l) = ap (same_whole (limit n)) (one k l)
    one (limit_gives {n = n} k) (limit_declines l) = ap (same_whole (limit n)) (one k l)
    one (limit_declines {n = n} k) (limit_gives l) = ap (same_whole (limit n)) (one k l)
    one (limit_declines {n = n} k) (limit_declines l) = ap (same_whole (limit n)) (one k l)
    one mix_of_none mix_of_none = refl
    one (mix_gives {g = g} {gs = gs} front back front' back' {p = p} {q = q} {x = x} e c t b f) (mix_gives front2 back2 front2' back2' {q = q2} {x = x2} e2 c2 t2 b2 f2) = let s = joined_cancel front back front2 back2 (sym e ∙ e2) (c ∙ sym c2) in
        let same : joined back2 front2 ≡ joined back front = ap (λ z. joined z front2) (sym s.1) ∙ ap (joined back) (sym s.0) in
        let t3 = subst (λ z. DrawsInTurn words ask z (next_place p) (gives x2 (joined back2' front2') q2)) same t2 in
        let o = one_turn t t3 in
        let xs : x ≡ x2 = cc in
        let qs : q ≡ q2 = cc in
        let after : joined back' front' ≡ joined back2' front2' = cc in
        let counts : count back' ≡ count back2' = b ∙ ap count s.1 ∙ sym b2 in
        let r = joined_cancel back' front' back2' front2' after counts in
        let hs : joined front' back' ≡ joined front2' back2' = ap (λ z. joined z back') r.1 ∙ ap (joined front2') r.0 in
        ap (λ y. gives y (mix (joined front' back')) q) xs ∙ ap (λ z. gives x2 (mix z) q) hs ∙ ap (λ n. gives x2 (mix (joined front2' back2')) n) qs
    one (mix_gives {g = g} {gs = gs} front back front' back' {p = p} {q = q} {x = x} e c t b f) (mix_declines front2 back2 {q = q2} {later = later2} e2 c2 t2) = let s = joined_cancel front back front2 back2 (sym e ∙ e2) (c ∙ sym c2) in
        let same : joined back2 front2 ≡ joined back front = ap (λ z. joined z front2) (sym s.1) ∙ ap (joined back) (sym s.0) in
        let t3 = subst (λ z. DrawsInTurn words ask z (next_place p) (declines later2 q2)) same t2 in
        let o = one_turn t t3 in absurd cc
    one (mix_declines {g = g} {gs = gs} front back {p = p} {q = q} {later = later} e c t) (mix_gives front2 back2 front2' back2' {q = q2} {x = x2} e2 c2 t2 b2 f2) = let s = joined_cancel front back front2 back2 (sym e ∙ e2) (c ∙ sym c2) in
        let same : joined back2 front2 ≡ joined back front = ap (λ z. joined z front2) (sym s.1) ∙ ap (joined back) (sym s.0) in
        let t3 = subst (λ z. DrawsInTurn words ask z (next_place p) (gives x2 (joined back2' front2') q2)) same t2 in
        let o = one_turn t t3 in absurd cc
    one (mix_declines {g = g} {gs = gs} front back {p = p} {q = q} {later = later} e c t) (mix_declines front2 back2 {q = q2} {later = later2} e2 c2 t2) = let s = joined_cancel front back front2 back2 (sym e ∙ e2) (c ∙ sym c2) in
        let same : joined back2 front2 ≡ joined back front = ap (λ z. joined z front2) (sym s.1) ∙ ap (joined back) (sym s.0) in
        let t3 = subst (λ z. DrawsInTurn words ask z (next_place p) (declines later2 q2)) same t2 in
        let o = one_turn t t3 in
        let ls : later ≡ later2 = cc in
        let qs : q ≡ q2 = cc in
        ap (λ z. declines z q) ls ∙ ap (declines later2) qs
    one seq_of_none seq_of_none = refl
    one (seq_passes e k) (seq_passes f l) = one k l
    one (seq_passes e k) (seq_gives f l) = absurd cc
    one (seq_gives e k) (seq_passes f l) = absurd cc
    one (seq_passes e k) (seq_declines f l) = absurd cc
    one (seq_declines e k) (seq_passes f l) = absurd cc
    one (seq_gives {gs = gs} e k) (seq_gives f l) = ap (whole (is_some gs) (λ h. seq (more h gs))) (one k l)
    one (seq_gives {gs = gs} e k) (seq_declines f l) = ap (whole (is_some gs) (λ h. seq (more h gs))) (one k l)
    one (seq_declines {gs = gs} e k) (seq_gives f l) = ap (whole (is_some gs) (λ h. seq (more h gs))) (one k l)
    one (seq_declines {gs = gs} e k) (seq_declines f l) = ap (whole (is_some gs) (λ h. seq (more h gs))) (one k l)
    one phases_of_none phases_of_none = refl
    one (phases_waits o s w) (phases_waits o2 s2 w2) = refl
    one (phases_waits {gs = gs} o s w) (phases_passes f b l) = absurd (waits_or_passes (is_some gs) (all_idle ask.idle) s w b)
    one (phases_passes {gs = gs} e b k) (phases_waits o s w) = absurd (waits_or_passes (is_some gs) (all_idle ask.idle) s w b)
    one (phases_passes e b k) (phases_passes f d l) = one k l
    one (phases_waits o s w) (phases_gives f l) = absurd cc
    one (phases_gives e k) (phases_waits o s w) = absurd cc
    one (phases_waits o s w) (phases_declines f l) = absurd cc
    one (phases_declines e k) (phases_waits o s w) = absurd cc
    one (phases_passes e b k) (phases_gives f l) = absurd cc
    one (phases_gives e k) (phases_passes f d l) = absurd cc
    one (phases_passes e b k) (phases_declines f l) = absurd cc
    one (phases_declines e k) (phases_passes f d l) = absurd cc
    one (phases_gives {gs = gs} e k) (phases_gives f l) = ap (whole (is_some gs) (λ h. phases (more h gs))) (one k l)
    one (phases_gives {gs = gs} e k) (phases_declines f l) = ap (whole (is_some gs) (λ h. phases (more h gs))) (one k l)
    one (phases_declines {gs = gs} e k) (phases_gives f l) = ap (whole (is_some gs) (λ h. phases (more h gs))) (one k l)
    one (phases_declines {gs = gs} e k) (phases_declines f l) = ap (whole (is_some gs) (λ h. phases (more h gs))) (one k l)
    one (no_copy e) (no_copy f) = refl
    one (no_copy e) (copy_gives f l) = absurd cc
    one (copy_gives e k) (no_copy f) = absurd cc
    one (no_copy e) (copy_declines f l) = absurd cc
    one (copy_declines e k) (no_copy f) = absurd cc
    one (copy_gives {gs = gs} {g = g} {p = p} e k) (copy_gives {g = g2} {h = h2} {q = q2} {x = x2} f l) =
        let same : g2 ≡ g = cc in
        let l2 = subst (λ z. Draws words ask z p (gives x2 h2 q2)) same l in
        ap (whole (not (all_over gs)) (λ h. each_thread (with_copy ask.asker gs h))) (one k l2)
    one (copy_gives {gs = gs} {g = g} {p = p} e k) (copy_declines {g = g2} {q = q2} {later = later2} f l) =
        let same : g2 ≡ g = cc in
        let l2 = subst (λ z. Draws words ask z p (declines later2 q2)) same l in
        ap (whole (not (all_over gs)) (λ h. each_thread (with_copy ask.asker gs h))) (one k l2)
    one (copy_declines {gs = gs} {g = g} {p = p} e k) (copy_gives {g = g2} {h = h2} {q = q2} {x = x2} f l) =
        let same : g2 ≡ g = cc in
        let l2 = subst (λ z. Draws words ask z p (gives x2 h2 q2)) same l in
        ap (whole (not (all_over gs)) (λ h. each_thread (with_copy ask.asker gs h))) (one k l2)
    one (copy_declines {gs = gs} {g = g} {p = p} e k) (copy_declines {g = g2} {q = q2} {later = later2} f l) =
        let same : g2 ≡ g = cc in
        let l2 = subst (λ z. Draws words ask z p (declines later2 q2)) same l in
        ap (whole (not (all_over gs)) (λ h. each_thread (with_copy ask.asker gs h))) (one k l2)
    one (clients_not e) (clients_not f) = refl
    one (clients_not e) (clients_gives f l) = absurd cc
    one (clients_gives e k) (clients_not f) = absurd cc
    one (clients_not e) (clients_declines f l) = absurd cc
    one (clients_declines e k) (clients_not f) = absurd cc
    one (clients_gives e k) (clients_gives f l) = ap (same_whole clients) (one k l)
    one (clients_gives e k) (clients_declines f l) = ap (same_whole clients) (one k l)
    one (clients_declines e k) (clients_gives f l) = ap (same_whole clients) (one k l)
    one (clients_declines e k) (clients_declines f l) = ap (same_whole clients) (one k l)
    one (nemesis_not e) (nemesis_not f) = refl
    one (nemesis_not e) (nemesis_gives f l) = absurd cc
    one (nemesis_gives e k) (nemesis_not f) = absurd cc
    one (nemesis_not e) (nemesis_declines f l) = absurd cc
    one (nemesis_declines e k) (nemesis_not f) = absurd cc
    one (nemesis_gives e k) (nemesis_gives f l) = ap (same_whole nemesis) (one k l)
    one (nemesis_gives e k) (nemesis_declines f l) = ap (same_whole nemesis) (one k l)
    one (nemesis_declines e k) (nemesis_gives f l) = ap (same_whole nemesis) (one k l)
    one (nemesis_declines e k) (nemesis_declines f l) = ap (same_whole nemesis) (one k l)

    pub one_turn : {gs : Generators} {p : ℕ} {o u : DrawOutcome Generators} → DrawsInTurn words ask gs p o → DrawsInTurn words ask gs p u → o ≡ u
    one_turn nobody_left nobody_left = refl
    one_turn (gives_here {gs = gs} k) (gives_here l) = ap (same_whole (λ h. more h gs)) (one k l)
    one_turn (gives_here k) (gives_behind l u) = let e = one k l in absurd cc
    one_turn (gives_here k) (none_gives l u) = let e = one k l in absurd cc
    one_turn (gives_behind k t) (gives_here l) = let e = one k l in absurd cc
    one_turn (none_gives k t) (gives_here l) = let e = one k l in absurd cc
    one_turn (gives_behind {g = g} {gs = gs} {q = q} k t) (gives_behind {hs = hs2} {q = q2} {r = r2} {x = x2} l u) =
        let e = one k l in
        let same : q2 ≡ q = cc in
        ap (same_whole (more g)) (one_turn t (subst (λ z. DrawsInTurn words ask gs z (gives x2 hs2 r2)) same u))
    one_turn (gives_behind {gs = gs} {q = q} k t) (none_gives {q = q2} {r = r2} {others = others2} l u) =
        let e = one k l in
        let same : q2 ≡ q = cc in
        let f = one_turn t (subst (λ z. DrawsInTurn words ask gs z (declines others2 r2)) same u) in
        absurd cc
    one_turn (none_gives {gs = gs} {q = q} k t) (gives_behind {hs = hs2} {q = q2} {r = r2} {x = x2} l u) =
        let e = one k l in
        let same : q2 ≡ q = cc in
        let f = one_turn t (subst (λ z. DrawsInTurn words ask gs z (gives x2 hs2 r2)) same u) in
        absurd cc
    one_turn (none_gives {gs = gs} {q = q} {r = r} {later = later} {others = others} k t) (none_gives {q = q2} {r = r2} {later = later2} {others = others2} l u) =
        let e = one k l in
        let same : q2 ≡ q = cc in
        let ls : later ≡ later2 = cc in
        let f = one_turn t (subst (λ z. DrawsInTurn words ask gs z (declines others2 r2)) same u) in
        let os : others ≡ others2 = cc in
        let rs : r ≡ r2 = cc in
        ap (λ z. declines (z || others) r) ls ∙ ap (λ z. declines (later2 || z) r) os ∙ ap (declines (later2 || others2)) rs

  -- so a draw has one answer, and leaves one generator at one place
  pub record SameEnd (d e : Drawn) (h k : Generator) (q r : ℕ) : Type 0 where
    pub answer : d ≡ e
    pub generator : h ≡ k
    pub place : q ≡ r

  pub one_draw : (g : Generator) (p : ℕ) (d e : Drawn) (h k : Generator) (q r : ℕ) → MayDraw words ask g p d h q → MayDraw words ask g p e k r
      → SameEnd d e h k q r
  one_draw g p (Op x) (Op y) h k q r s t = let o = one s t in
      let xs : x ≡ y = cc in record { answer = ap Op xs; generator = cc; place = cc }
  one_draw g p (Op x) Pending h k q r s t = let o = one s t.0.1 in absurd cc
  one_draw g p (Op x) Done h k q r s t = let o = one s t.0.1 in absurd cc
  one_draw g p Pending (Op y) h k q r s t = let o = one s.0.1 t in absurd cc
  one_draw g p Done (Op y) h k q r s t = let o = one s.0.1 t in absurd cc
  one_draw g p Pending Pending h k q r s t = record { answer = refl; generator = s.1 ∙ sym t.1; place = s.2 ∙ sym t.2 }
  one_draw g p Done Done h k q r s t = record { answer = refl; generator = s.1 ∙ sym t.1; place = s.2 ∙ sym t.2 }
  one_draw g p Pending Done h k q r s t = let o = one s.0.1 t.0.1 in absurd cc
  one_draw g p Done Pending h k q r s t = let o = one s.0.1 t.0.1 in absurd cc
