-- the history of a queue whose values differ is paired where it has a legal order
use Rattle.std.proofs.Common.{◌≡◌, ◌≢◌, ℕ, ◌<◌, ℤ, ◌⊎◌, inl, inr, ⊎_elim, List, [], ◌∷◌, ◌++◌, length, refl, sym, ap, ◌∙◌, subst, arith, append_assoc}
use Rattle.std.specs.List.{Contains}
use Rattle.std.proofs.lemmas.List.Elements.{Contains-append_left, Contains-append_right, Contains-append_cases}
use Rattle.models.specs.declared.operation.Op.{Op}
use Rattle.models.specs.declared.finding.Found.TheVariants.{Unit as Done, Item}
use Rattle.models.specs.declared.finding.Answer.TheVariants.{Number}
use Rattle.models.specs.Objects.{fifo_queue, Fits}
use Rattle.events.specs.Events.{Mark}
use Rattle.events.specs.Events.Mark.{Invoked, Returned, Failed}
use Rattle.linspec.specs.MarkRule.{AreWellFormed}
use Rattle.linspec.specs.Operations.{HasReturned, Precedes}
use Rattle.linspec.specs.Orders.{Taken, Includes, Pairwise, Run, IsLegalOrder, IsLinearizable}
use Rattle.linspec.proofs.Lists.{Contains-head, Contains-cons_cases, Pairwise-across, Pairwise-right, cut_at}
use Rattle.linspec.proofs.Marks.{Run-cut, Precedes-returned}
use Rattle.linspec.specs.Twins.{Enqueues, IsEnqueueOf, MayEnqueue}
use Rattle.queue_pairs.specs.Pairs.{HasDequeued, MayDequeue, IsBefore, IsOwedTo, AreTakers, IsPaired, IsLate, TwinsAreLate}
use Rattle.queue_pairs.proofs.Once.{one_op, returned_not_failed, not_before_itself}
use Rattle.queue_pairs.proofs.Finds.{First, NoneOf, first_of, compare, three}
use Rattle.queue_pairs.proofs.Steps.{no_both, same_item, fits_number, finds_or_not, queue_view, put_or_get, ins, outs, in_and_out, PutBy, cut_ins, ins_more, outs_more_at, came_out}
use Rattle.queue_pairs.proofs.Twins.{done_not_late, one_enqueue}

module _ (ms : List Mark) (well : AreWellFormed ms) (late : TwinsAreLate ms) (order : List Taken) (end : List ℤ) (l : IsLegalOrder fifo_queue ms order end) where
  abbrev InTime : Taken → Taken → Type 0
  InTime x y = ¬ Precedes ms y.id x.id

  abbrev Differ : Taken → Taken → Type 0
  Differ x y = x.id ≢ y.id

  -- the facts about an operation before another in the order
  module _ (b m d : List Taken) (y x : Taken) (whole : b ++ y ∷ (m ++ x ∷ d) ≡ order) where
    behind : Contains (m ++ x ∷ d) x
    behind = Contains-append_right m (x ∷ d) x (Contains-head x d)

    first_in_time : ¬ Precedes ms x.id y.id
    first_in_time = (Pairwise-right InTime b (y ∷ (m ++ x ∷ d)) (subst (Pairwise InTime) (sym whole) l.in_time)).0 x behind

    first_differs : y.id ≢ x.id
    first_differs = (Pairwise-right Differ b (y ∷ (m ++ x ∷ d)) (subst (Pairwise Differ) (sym whole) l.once)).0 x behind

  -- the operation that dequeued a value, and the one that enqueued it
  record Told (d : ℕ) (v : ℤ) : Type 0 where
    before : List Taken
    x : Taken
    after : List Taken
    whole : before ++ x ∷ after ≡ order
    is : x.id ≡ d
    found : x.found ≡ Item v
    b : List Taken
    e : Taken
    a : List Taken
    split : b ++ e ∷ a ≡ before
    enqueues : Enqueues e.op v
    count : length (ins b) ≡ length (outs before)

  put_told : (d : ℕ) (v : ℤ) (before : List Taken) (x : Taken) (after : List Taken) → before ++ x ∷ after ≡ order → x.id ≡ d → x.found ≡ Item v → PutBy before (outs before) v → Told d v
  put_told d v before x after whole is found q = record {
    before = before;
    x = x;
    after = after;
    whole = whole;
    is = is;
    found = found;
    b = q.0;
    e = q.1;
    a = q.2;
    split = q.3;
    enqueues = q.4;
    count = ap length q.5;
  }

  told_of : (d : ℕ) (v : ℤ) → HasDequeued ms d v → Told d v
  told_of d v h =
      let i : Includes order d = l.all_done d (Number v, h.answer) in
      let x : Taken = i.0 in
      let c = cut_at order x i.1 in
      let r = Run-cut fifo_queue [] end c.0 (x ∷ c.1) (subst (λ k. Run fifo_queue [] k end) c.2 l.run) in
      let same : h.op ≡ x.op = one_op ms well d h.op x.op h.invoked (subst (λ n. Contains ms (Invoked n x.op)) i.2 (l.invoked x i.1)) in
      ⊎_elim
      (λ p. absurd (no_both x.op.name p.1.0 (ap (λ (o : Op). o.name) (sym same) ∙ h.dequeues.0)))
      (λ p.
      let fits : Fits (Item p.0) (Number v) = subst (λ f. Fits f (Number v)) p.3 (l.fits x (Number v) i.1 (subst (λ n. Contains ms (Returned n (Number v))) (sym i.2) h.answer)) in
      let value : p.0 ≡ v = fits in
      let both : ins c.0 ≡ outs c.0 ++ v ∷ r.2.0 = in_and_out c.0 [] r.0 r.1 ∙ ap (λ k. outs c.0 ++ k) (p.2 ∙ ap (λ w. w ∷ r.2.0) value) in
      put_told d v c.0 x c.1 (sym c.2) i.2 (p.3 ∙ ap Item value) (cut_ins c.0 (outs c.0) v r.2.0 both))
      (queue_view x.op.name x.op.part r.0 r.2.0 x.found r.2.1)

  module _ (d : ℕ) (v : ℤ) (t : Told d v) where
    e_whole : t.b ++ t.e ∷ (t.a ++ t.x ∷ t.after) ≡ order
    e_whole = sym (append_assoc t.b (t.e ∷ t.a) (t.x ∷ t.after)) ∙ ap (λ k. k ++ t.x ∷ t.after) t.split ∙ t.whole

    e_there : Contains order t.e
    e_there = subst (λ k. Contains k t.e) e_whole (Contains-append_right t.b (t.e ∷ (t.a ++ t.x ∷ t.after)) t.e (Contains-head t.e (t.a ++ t.x ∷ t.after)))

    e_may : MayEnqueue ms t.e.id v
    e_may = ((t.e.op, l.invoked t.e e_there, t.enqueues), l.none_failed t.e e_there)

    e_in_time : ¬ Precedes ms d t.e.id
    e_in_time p = first_in_time t.b t.a t.after t.e t.x e_whole (subst (λ n. Precedes ms n t.e.id) (sym t.is) p)

    e_not_late : HasReturned ms d → ¬ IsLate ms t.e.id
    e_not_late r k = e_in_time (k d r)

  told_returned : (d : ℕ) (v : ℤ) → HasDequeued ms d v → HasReturned ms d
  told_returned d v h = (Number v, h.answer)

  added : (d : ℕ) (v : ℤ) → HasDequeued ms d v → (a : ℕ) × MayEnqueue ms a v × (¬ Precedes ms d a)
  added d v h = let t : Told d v = told_of d v h in (t.e.id, e_may d v t, e_in_time d v t)

  known : (id : ℕ) → HasReturned ms id → ((v : ℤ) × IsEnqueueOf ms id v) ⊎ ((v : ℤ) × HasDequeued ms id v)
  known id r =
      let i : Includes order id = l.all_done id r in
      let x : Taken = i.0 in
      let invoked : Contains ms (Invoked id x.op) = subst (λ n. Contains ms (Invoked n x.op)) i.2 (l.invoked x i.1) in
      ⊎_elim
      (λ p. inl (p.0, (x.op, invoked, p.1)))
      (λ p.
      let fits : Fits (Item p.0) r.0 = subst (λ f. Fits f r.0) p.2 (l.fits x r.0 i.1 (subst (λ n. Contains ms (Returned n r.0)) (sym i.2) r.1)) in
      inr (p.0, record { op = x.op; invoked = invoked; dequeues = p.1; answer = subst (λ a. Contains ms (Returned id a)) (fits_number p.0 r.0 fits) r.1 }))
      (put_or_get order [] end l.run x i.1)

  -- who dequeues first had its value enqueued elsewhere
  other_place : (c d : ℕ) (u v : ℤ) (s : Told c u) (t : Told d v) → length (outs s.before) < length (outs t.before) → s.e.id ≢ t.e.id
  other_place c d u v s t lt same =
      let x : length (ins s.b) ≡ length (outs s.before) = s.count in
      let y : length (ins t.b) ≡ length (outs t.before) = t.count in
      three s.b s.e (s.a ++ s.x ∷ s.after) t.b t.e (t.a ++ t.x ∷ t.after) (e_whole c u s ∙ sym (e_whole d v t)) ⊥
      (λ k. (let z : length (ins s.b) ≡ length (ins t.b) = ap (λ q. length (ins q)) k.0 in omega (arith, x, y, z)))
      (λ k. first_differs s.b k.0 (t.a ++ t.x ∷ t.after) s.e t.e (ap (λ q. s.b ++ s.e ∷ q) (sym k.2) ∙ e_whole c u s) same)
      (λ k. first_differs t.b k.0 (s.a ++ s.x ∷ s.after) t.e s.e (ap (λ q. t.b ++ t.e ∷ q) (sym k.2) ∙ e_whole d v t) (sym same))

  -- a value is not dequeued again
  twice : (c d : ℕ) (v : ℤ) → HasReturned ms c → HasReturned ms d → (s : Told c v) (t : Told d v) → length (outs s.before) < length (outs t.before) → ⊥
  twice c d v rc rd s t lt = ⊎_elim
      (λ e. other_place c d v v s t lt e)
      (λ k. e_not_late d v t rd k)
      (one_enqueue ms well late s.e.id t.e.id v (e_may c v s) (e_may d v t) (e_not_late c v s rc))

  more_out : (s t : List Taken) (x : Taken) (v : ℤ) → x.found ≡ Item v → (m : List Taken) → t ≡ s ++ x ∷ m → length (outs s) < length (outs t)
  more_out s t x v f m e = subst (λ q. length (outs s) < length (outs q)) (sym e) (outs_more_at s m x v f)

  once : (c d : ℕ) (v : ℤ) → HasDequeued ms c v → HasDequeued ms d v → c ≡ d
  once c d v h k =
      let s : Told c v = told_of c v h in
      let t : Told d v = told_of d v k in
      three s.before s.x s.after t.before t.x t.after (s.whole ∙ sym t.whole) (c ≡ d)
      (λ q. sym s.is ∙ ap (λ (z : Taken). z.id) q.1 ∙ t.is)
      (λ q. absurd (twice c d v (told_returned c v h) (told_returned d v k) s t (more_out s.before t.before s.x v s.found q.0 q.1)))
      (λ q. absurd (twice d c v (told_returned d v k) (told_returned c v h) t s (more_out t.before s.before t.x v t.found q.0 q.1)))

  -- an enqueue that precedes the one of a dequeued value stands before it
  module _ (a : Taken) (ba aa : List Taken) (there : ba ++ a ∷ aa ≡ order) (d : ℕ) (v : ℤ) (t : Told d v) (p : Precedes ms a.id t.e.id) (u : ℤ) (is : Enqueues a.op u) where
    stands_before : length (ins ba) < length (outs t.before)
    stands_before = three ba a aa t.b t.e (t.a ++ t.x ∷ t.after) (there ∙ sym (e_whole d v t)) (length (ins ba) < length (outs t.before))
        (λ q. absurd (not_before_itself ms well t.e.id (subst (λ (z : Taken). Precedes ms z.id t.e.id) q.1 p)))
        (λ q.
        let more : length (ins ba) < length (ins t.b) = subst (λ k. length (ins ba) < length (ins k)) (sym q.1) (ins_more ba q.0 a u is) in
        let y : length (ins t.b) ≡ length (outs t.before) = t.count in
        omega (arith, y))
        (λ q. absurd (first_in_time t.b q.0 aa t.e a (ap (λ k. t.b ++ t.e ∷ k) (sym q.2) ∙ e_whole d v t) p))

  in_turn : (u v : ℤ) (c d : ℕ) → IsBefore ms u v → HasDequeued ms c u → HasDequeued ms d v → ¬ Precedes ms d c
  in_turn u v c d before h k =
      let s : Told c u = told_of c u h in
      let t : Told d v = told_of d v k in
      let p : Precedes ms before.0 t.e.id = before.2 t.e.id (e_may d v t) in
      let r : HasReturned ms before.0 = Precedes-returned ms before.0 t.e.id p in
      ⊎_elim
      (λ same.
      let lt : length (ins s.b) < length (outs t.before) = stands_before s.e s.b (s.a ++ s.x ∷ s.after) (e_whole c u s) d v t (subst (λ n. Precedes ms n t.e.id) (sym same) p) u s.enqueues in
      let x : length (ins s.b) ≡ length (outs s.before) = s.count in
      three s.before s.x s.after t.before t.x t.after (s.whole ∙ sym t.whole) (¬ Precedes ms d c)
      (λ q. (let z : length (outs s.before) ≡ length (outs t.before) = ap (λ w. length (outs w)) q.0 in absurd (omega (arith, x, z))))
      (λ q f. first_in_time s.before q.0 t.after s.x t.x (ap (λ w. s.before ++ s.x ∷ w) (sym q.2) ∙ s.whole) (subst₂ s.x.id t.x.id s.is t.is f))
      (λ q. (let z : length (outs t.before) < length (outs s.before) = more_out t.before s.before t.x v t.found q.0 q.1 in absurd (omega (arith, x)))))
      (λ late_one. absurd (done_not_late ms well before.0 r late_one))
      (one_enqueue ms well late s.e.id before.0 u (e_may c u s) (before.1, returned_not_failed ms well before.0 r.0 r.1) (e_not_late c u s (told_returned c u h)))
    where
      subst₂ : (x y : ℕ) → x ≡ c → y ≡ d → Precedes ms d c → Precedes ms y x
      subst₂ x y e f q = subst (λ n. Precedes ms n x) (sym f) (subst (Precedes ms d) (sym e) q)

  -- the first operation that finds the value takes it
  abbrev Finding : ℤ → Taken → Type 0
  Finding u x = x.found ≡ Item u

  found_first : (u : ℤ) → First (Finding u) order ⊎ NoneOf (Finding u) order
  found_first u = first_of (Finding u) (λ (x : Taken). finds_or_not u x.found) order

  abbrev id_by : (u : ℤ) → First (Finding u) order ⊎ NoneOf (Finding u) order → ℕ
  id_by u (inl k) = k.1.id
  id_by u (inr none) = 0

  abbrev taker : ℤ → ℕ
  taker u = id_by u (found_first u)

  -- before a dequeue that a value is owed to someone finds it
  owed_found : (u : ℤ) (d : ℕ) → (o : IsOwedTo ms u d) → (t : Told d o.v) → (z : Taken) × Contains t.before z × (z.found ≡ Item u)
  owed_found u d o t =
      let p : Precedes ms o.before.0 t.e.id = o.before.2 t.e.id (e_may d o.v t) in
      let r : HasReturned ms o.before.0 = Precedes-returned ms o.before.0 t.e.id p in
      let i : Includes order o.before.0 = l.all_done o.before.0 r in
      let y : Taken = i.0 in
      let c = cut_at order y i.1 in
      let same : o.before.1.0 ≡ y.op = one_op ms well o.before.0 o.before.1.0 y.op o.before.1.1 (subst (λ n. Contains ms (Invoked n y.op)) i.2 (l.invoked y i.1)) in
      let is : Enqueues y.op u = (ap (λ (w : Op). w.name) (sym same) ∙ o.before.1.2.0, ap (λ (w : Op). w.part) (sym same) ∙ o.before.1.2.1) in
      came_out order end l.run c.0 y c.1 u (sym c.2) is t.before (t.x ∷ t.after) t.whole
      (stands_before y c.0 c.1 (sym c.2) d o.v t (subst (λ n. Precedes ms n t.e.id) (sym i.2) p) u is)

  -- the first that finds it
  record FoundBy (u : ℤ) (d : ℕ) (id : ℕ) : Type 0 where
    z : Taken
    there : Contains order z
    found : z.found ≡ Item u
    is : z.id ≡ id
    in_time : ¬ Precedes ms d id

  found_by : (u : ℤ) (d : ℕ) (v : ℤ) (t : Told d v) → (z : Taken) × Contains t.before z × (z.found ≡ Item u) → (r : First (Finding u) order ⊎ NoneOf (Finding u) order) → FoundBy u d (id_by u r)
  found_by u d v t w (inl k) = ⊎_elim
      (λ f. absurd (k.5 w.0 (f w.0 w.1) w.2))
      (λ j. record {
        z = k.1;
        there = subst (λ q. Contains q k.1) k.3 (Contains-append_right k.0 (k.1 ∷ k.2) k.1 (Contains-head k.1 k.2));
        found = k.4;
        is = refl;
        in_time = λ p. Pairwise-across InTime t.before (t.x ∷ t.after) (subst (Pairwise InTime) (sym t.whole) l.in_time) k.1 t.x j (Contains-head t.x t.after) (subst (λ n. Precedes ms n k.1.id) (sym t.is) p);
      })
      (compare k.0 k.1 k.2 t.before t.x t.after (k.3 ∙ sym t.whole))
  found_by u d v t w (inr none) = absurd (none w.0 (subst (λ q. Contains q w.0) t.whole (Contains-append_left t.before (t.x ∷ t.after) w.0 w.1)) w.2)

  taker_is : (u : ℤ) (d : ℕ) → IsOwedTo ms u d → FoundBy u d (taker u)
  taker_is u d o = let t : Told d o.v = told_of d o.v o.dequeued in found_by u d o.v t (owed_found u d o t) (found_first u)

  same_taken : (x y : Taken) → Contains order x → Contains order y → x.id ≡ y.id → x ≡ y
  same_taken x y h k same =
      let c = cut_at order x h in
      let once : Pairwise Differ (c.0 ++ x ∷ c.1) = subst (Pairwise Differ) c.2 l.once in
      ⊎_elim
      (λ j. absurd (Pairwise-across Differ c.0 (x ∷ c.1) once y x j (Contains-head x c.1) (sym same)))
      (λ j. ⊎_elim
      (λ e. e)
      (λ i. absurd ((Pairwise-right Differ c.0 (x ∷ c.1) once).0 y i same))
      (Contains-cons_cases x c.1 y j))
      (Contains-append_cases c.0 (x ∷ c.1) y (subst (λ q. Contains q y) c.2 k))

  may_take : (u : ℤ) (d : ℕ) → IsOwedTo ms u d → MayDequeue ms (taker u)
  may_take u d o =
      let f : FoundBy u d (taker u) = taker_is u d o in
      let invoked : Contains ms (Invoked (taker u) f.z.op) = subst (λ n. Contains ms (Invoked n f.z.op)) f.is (l.invoked f.z f.there) in
      ⊎_elim
      (λ p. (let clash : Done ≡ Item u = sym p.2 ∙ f.found in cc))
      (λ p. record {
        op = f.z.op;
        invoked = invoked;
        dequeues = p.1;
        not_returned = λ r.
            (let fits : Fits (Item u) r.0 = subst (λ q. Fits q r.0) f.found (l.fits f.z r.0 f.there (subst (λ n. Contains ms (Returned n r.0)) (sym f.is) r.1)) in
            o.untold (taker u) (record { op = f.z.op; invoked = invoked; dequeues = p.1; answer = subst (λ a. Contains ms (Returned (taker u) a)) (fits_number u r.0 fits) r.1 }));
        not_failed = λ k. l.none_failed f.z f.there (subst (λ n. Contains ms (Failed n)) (sym f.is) k);
      })
      (put_or_get order [] end l.run f.z f.there)

  takers : AreTakers ms taker
  takers = record {
    may = may_take;
    in_time = λ u d o. (taker_is u d o).in_time;
    apart = λ u w d e o r same.
        (let f : FoundBy u d (taker u) = taker_is u d o in
        let g : FoundBy w e (taker w) = taker_is w e r in
        let one : f.z ≡ g.z = same_taken f.z g.z f.there g.there (f.is ∙ same ∙ sym g.is) in
        same_item u w g.z.found (ap (λ (z : Taken). z.found) (sym one) ∙ f.found) g.found);
  }

pub paired_if_linearizable : (ms : List Mark) → AreWellFormed ms → TwinsAreLate ms → IsLinearizable fifo_queue ms → IsPaired ms
paired_if_linearizable ms well late h = record {
  known = known ms well late h.0 h.1 h.2;
  added = added ms well late h.0 h.1 h.2;
  once = once ms well late h.0 h.1 h.2;
  in_turn = in_turn ms well late h.0 h.1 h.2;
  taken = (taker ms well late h.0 h.1 h.2, takers ms well late h.0 h.1 h.2);
}
