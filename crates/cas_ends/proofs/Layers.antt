-- the fronts that belong to the ends, layer upon layer
use Rattle.std.proofs.Common.{◌≡◌, ℕ, ℤ, ◌⊎◌, inl, inr, ⊎_elim, Bool, true, false, IsTrue, List, [], ◌∷◌, ◌++◌, map, refl, sym, ◌∙◌, subst}
use Rattle.std.specs.List.{Contains}
use Rattle.std.proofs.lemmas.Bool.{true≢false, cases_Bool}
use Rattle.std.proofs.lemmas.List.Elements.{Contains-append_left, Contains-append_cases}
use Rattle.events.specs.Events.{Mark}
use Rattle.linspec.specs.MarkRule.{AreWellFormed}
use Rattle.linspec.proofs.Lists.{Contains-nil, Contains-head, Contains-tail, Contains-cons_cases}
use Rattle.linspec.specs.LeanEnds.{LeanEnd, IsAtMost, IsPutBehind}
use Rattle.lean_ends.proofs.Left.{at_most_each_other, at_most_itself}
use Rattle.lean_ends.proofs.Makes.{some_behind}
use Rattle.linspec.specs.CasEnds.{WalksBy, Walks, Front, IsLess, IsNext, AreLayers, stays, AreFronts}
use Rattle.cas_ends.proofs.Makes.{some_set}
use Rattle.cas_ends.proofs.Left.{at_most_then}

-- less is an order
pub less_itself : (marks : List Mark) (f : Front) → IsLess marks f f
less_itself marks f = (at_most_itself marks f.end, λ w. w)

pub less_then : (marks : List Mark) (e f g : Front) → IsLess marks e f → IsLess marks f g → IsLess marks e g
less_then marks e f g a b = (at_most_then marks e.end f.end g.end a.0 b.0, λ w. a.1 (b.1 w))

same_bool : (a b : Bool) → (a ≡ true → b ≡ true) → (b ≡ true → a ≡ true) → a ≡ b
same_bool true b f g = sym (f refl)
same_bool false true f g = g refl
same_bool false false f g = refl

pub less_each_other : (marks : List Mark) (e f : Front) → IsLess marks e f → IsLess marks f e → e ≡ f
less_each_other marks e f a b =
    let ends = at_most_each_other marks e.end f.end a.0 b.0 in
    let bools = same_bool e.writes f.writes b.1 a.1 in
    λ i. record { end = ends i; writes = bools i }

-- the effect of one more operation on a front is its effect on a greater one
module _ (marks : List Mark) (well : AreWellFormed marks) where
  pub next_of_greater : (d g f : Front) → IsLess marks d g → IsNext marks d f → (h : Front) × IsNext marks g h × IsLess marks f h
  next_of_greater d g f most n = ⊎_elim
      (λ k.
      let x : ℕ = n.0 in
      let set = k.0 in
      let h = some_set marks well g.end x set.1.0 set.1.1 (sym most.0.state ∙ set.1.3.takes) in (
        record { end = h.0; writes = false },
        (x, inl (((λ q. set.0 (most.0.needed x q)), (set.1.0, set.1.1, set.1.2, h.1)), refl)),
        (
          record {
            state = set.1.3.state ∙ sym h.1.state;
            needed = λ i q. (set.1.3.needed i).1 (⊎_elim inl (λ j. inr (most.0.needed i j)) ((h.1.needed i).0 q));
            open_ones = λ i q o. (h.1.needed i).1 (⊎_elim inl (λ j. inr (most.0.open_ones i j o)) ((set.1.3.needed i).0 q));
            door = λ i q. (h.1.door i).1 (most.0.door i ((set.1.3.door i).0 q));
            finds = λ r w q. (h.1.finds r w).1 (⊎_elim (λ j. inl (most.0.finds r w j)) inr ((set.1.3.finds r w).0 q));
          },
          λ w. absurd (true≢false (sym w)),
        ),
      ))
      (λ k.
      let x : ℕ = n.0 in
      let write = k.1 in
      let h = some_behind marks well g.end x write.1.0 in
      let free : g.writes ≡ false = ⊎_elim (λ w. absurd (true≢false (sym (most.1 w) ∙ k.0))) (λ w. w) (cases_Bool g.writes) in (
        record { end = h.0; writes = true },
        (x, inr (free, ((λ q. write.0 (most.0.needed x q)), (write.1.0, write.1.1, h.1)), refl)),
        (
          record {
            state = write.1.2.state ∙ sym h.1.state;
            needed = λ i q. more_needed d.end g.end f.end h.0 x write.1.0 most.0 write.1.2 h.1 i q;
            open_ones = λ i q o. (h.1.needed i).1 (⊎_elim inl (λ j. inr (most.0.open_ones i j o)) ((write.1.2.needed i).0 q));
            door = λ i q. (let c = (write.1.2.door i).0 q in (h.1.door i).1 (c.0, (λ m. c.1 (more_needed d.end g.end f.end h.0 x write.1.0 most.0 write.1.2 h.1 i m))));
            finds = λ r w q. (h.1.finds r w).1 (⊎_elim (λ j. inl (most.0.finds r w j)) inr ((write.1.2.finds r w).0 q));
          },
          λ w. k.2,
        ),
      ))
      n.1
    where
      more_needed : (d g f h : LeanEnd) (x : ℕ) (v : ℤ) → IsAtMost marks d g → IsPutBehind marks d x v f → IsPutBehind marks g x v h → (i : ℕ) → IsTrue (h.needed i) → IsTrue (f.needed i)
      more_needed d g f h x v a p q i n = (p.needed i).1 (⊎_elim inl (λ j. inr (a.needed i j)) ((q.needed i).0 n))

-- whatever is made of the fronts is less than a front
abbrev pub AreClosed : List Mark → List Front → Type 0
AreClosed marks fronts = (e f : Front) → Contains fronts e → IsNext marks e f → (g : Front) × Contains fronts g × IsLess marks f g

-- except for the last layer
abbrev pub AreClosedBelow : List Mark → List Front → List Front → Type 0
AreClosedBelow marks there layer = (e f : Front) → Contains there e → IsNext marks e f → Contains layer e ⊎ ((g : Front) × Contains there g × IsLess marks f g)

closed_below : (marks : List Mark) (there layer : List Front) (layers : List (List Front)) (fronts last : List Front) → AreClosedBelow marks there layer → AreLayers marks there layer layers fronts last → AreClosedBelow marks fronts last
closed_below marks there layer [] fronts last c a = subst (λ l. AreClosedBelow marks fronts l) a.1 (subst (λ l. AreClosedBelow marks l layer) a.0 c)
closed_below marks there layer (next ∷ more) fronts last c a = closed_below marks (there ++ next) next more fronts last
    (λ e f h n. ⊎_elim
    (λ k. ⊎_elim
    (λ j. inr (a.0.all e f j n))
    (λ g. inr (g.0, Contains-append_left there next g.0 g.1, g.2))
    (c e f k n))
    inl
    (Contains-append_cases there next e h))
    a.1

pub closed : (marks : List Mark) (ends : List LeanEnd) (fronts : List Front) → AreFronts marks ends fronts → AreClosed marks fronts
closed marks ends fronts are e f h n = ⊎_elim
    (λ k. (let g = are.2.all e f k n in (g.0, ⊎_elim (λ j. j) (λ j. absurd (Contains-nil g.0 j)) (Contains-append_cases fronts [] g.0 g.1), g.2)))
    (λ g. g)
    (closed_below marks (map stays ends) (map stays ends) are.1.layers fronts are.0 (λ e f h n. inl h) are.1.are e f h n)

-- a front that was there is among the fronts
pub there_still : (marks : List Mark) (there layer : List Front) (layers : List (List Front)) (fronts last : List Front) → AreLayers marks there layer layers fronts last → (e : Front) → Contains there e → Contains fronts e
there_still marks there layer [] fronts last a e h = subst (λ l. Contains l e) a.0 h
there_still marks there layer (next ∷ more) fronts last a e h = there_still marks (there ++ next) next more fronts last a.1 e (Contains-append_left there next e h)

pub stays_there : (ends : List LeanEnd) (e : LeanEnd) → Contains ends e → Contains (map stays ends) (stays e)
stays_there [] e h = absurd (Contains-nil e h)
stays_there (x ∷ ends) e h = ⊎_elim
    (λ q. subst (λ y. Contains (stays x ∷ map stays ends) (stays y)) q (Contains-head (stays x) (map stays ends)))
    (λ k. Contains-tail (stays x) (map stays ends) (stays e) (stays_there ends e k))
    (Contains-cons_cases x ends e h)

pub stays_of : (ends : List LeanEnd) (f : Front) → Contains (map stays ends) f → (e : LeanEnd) × Contains ends e × (stays e ≡ f)
stays_of [] f h = absurd (Contains-nil f h)
stays_of (x ∷ ends) f h = ⊎_elim
    (λ q. (x, Contains-head x ends, q))
    (λ k. (let r = stays_of ends f k in (r.0, Contains-tail x ends r.0 r.1, r.2)))
    (Contains-cons_cases (stays x) (map stays ends) f h)

module _ (marks : List Mark) (well : AreWellFormed marks) (ends : List LeanEnd) (fronts : List Front) (are : AreFronts marks ends fronts) where
  all_closed : AreClosed marks fronts
  all_closed = closed marks ends fronts are

  walked_on : (e f : LeanEnd) (h k : Bool) (xs : List ℕ) → WalksBy marks e h xs f k → (g : Front) → Contains fronts g → IsLess marks (record { end = e; writes = h }) g
      → (m : Front) × Contains fronts m × IsLess marks (record { end = f; writes = k }) m
  walked_on e f h k [] w g there most = (
    g,
    there,
    (subst (λ d. IsAtMost marks d g.end) w.0 most.0, λ q. sym w.1 ∙ most.1 q),
  )
  walked_on e f h k (x ∷ xs) w g there most = ⊎_elim
      (λ c.
      let n = next_of_greater marks well (record { end = e; writes = h }) g (record { end = w.0; writes = false }) most (x, inl (c.0, refl)) in
      let m = all_closed g n.0 there n.1 in
      walked_on w.0 f false k xs c.1 m.0 m.1 (less_then marks (record { end = w.0; writes = false }) n.0 m.0 n.2 m.2))
      (λ c.
      let n = next_of_greater marks well (record { end = e; writes = h }) g (record { end = w.0; writes = true }) most (x, inr (c.0, c.1, refl)) in
      let m = all_closed g n.0 there n.1 in
      walked_on w.0 f true k xs c.2 m.0 m.1 (less_then marks (record { end = w.0; writes = true }) n.0 m.0 n.2 m.2))
      w.1

  -- the end that a walk makes of an end is less than a front
  pub walk_is_less : (e f : LeanEnd) (k : Bool) → Contains ends e → Walks marks e f k → (m : Front) × Contains fronts m × IsLess marks (record { end = f; writes = k }) m
  walk_is_less e f k h w = walked_on e f false k w.0 w.1 (stays e)
      (there_still marks (map stays ends) (map stays ends) are.1.layers fronts are.0 are.1.are (stays e) (stays_there ends e h)) (less_itself marks (stays e))
