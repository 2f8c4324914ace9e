-- values in turn give an order of their operations: a dequeue comes as soon as no enqueue is left that precedes it
use Rattle.std.proofs.Common.{◌≡◌, ◌≢◌, ℕ, zero, suc, ◌+◌, ◌≤◌, ◌<◌, ℤ, ◌⊎◌, inl, inr, ⊎_elim, Option, Some, None, List, [], ◌∷◌, ◌++◌, length, map, refl, sym, ap, ◌∙◌, subst, arith, append_assoc, append-nil, length-append}
use Rattle.std.specs.List.{Contains}
use Rattle.std.proofs.lemmas.Bool.{cases_lt}
use Rattle.std.proofs.lemmas.List.{map-append}
use Rattle.std.proofs.lemmas.List.Elements.{Contains-append_left, Contains-append_right, Contains-append_cases}
use Rattle.models.specs.declared.operation.Op.{Op}
use Rattle.models.specs.declared.finding.Found.TheVariants.{Unit as Done, Item}
use Rattle.models.specs.Objects.{fifo_queue}
use Rattle.events.specs.Events.{Mark}
use Rattle.events.specs.Events.Mark.{Invoked}
use Rattle.linspec.specs.MarkRule.{AreWellFormed}
use Rattle.linspec.specs.Operations.{Precedes}
use Rattle.linspec.specs.Orders.{Taken, Pairwise, Run}
use Rattle.linspec.proofs.Lists.{Contains-nil, Contains-head, Contains-tail, Contains-cons_cases, Pairwise-right}
use Rattle.linspec.specs.Twins.{Enqueues}
use Rattle.queue_pairs.specs.Pairs.{Dequeues}
use Rattle.queue_pairs.proofs.Once.{one_op}
use Rattle.queue_pairs.proofs.Times.{moment, ended, ends_before, ended_within}
use Rattle.queue_pairs.proofs.Turns.{MayLead}
use Rattle.queue_pairs.proofs.Steps.{by_enqueue, by_dequeue, no_both}

-- a value that is enqueued, with its enqueue, and with its dequeue if it is dequeued
pub record Passage : Type 0 where
  pub value : ℤ
  pub add : Taken
  pub take : Option Taken

abbrev pub moment_of : List Mark → Option Taken → ℕ
moment_of ms None = suc (length ms)
moment_of ms (Some t) = moment ms t.id

abbrev pub ended_of : List Mark → Option Taken → ℕ
ended_of ms None = suc (length ms)
ended_of ms (Some t) = ended ms t.id

module _ (ms : List Mark) (well : AreWellFormed ms) where
  -- when the value is enqueued, from and to, and when it is dequeued; behind all else if it stays
  abbrev pub in_from : Passage → ℕ
  in_from x = moment ms x.add.id

  abbrev pub in_to : Passage → ℕ
  in_to x = ended ms x.add.id

  abbrev pub out_from : Passage → ℕ
  out_from x = moment_of ms x.take

  abbrev pub out_to : Passage → ℕ
  out_to x = ended_of ms x.take

  abbrev pub Leads : Passage → Passage → Type 0
  Leads = MayLead in_from in_to out_from out_to

  -- the operations are those of the value
  pub record IsPassage (x : Passage) : Type 0 where
    pub invoked : Contains ms (Invoked x.add.id x.add.op)
    pub enqueues : Enqueues x.add.op x.value
    pub done : x.add.found ≡ Done
    pub taken : (t : Taken) → x.take ≡ Some t → Contains ms (Invoked t.id t.op) × Dequeues t.op × (t.found ≡ Item x.value)

  pub record AreApart (x y : Passage) : Type 0 where
    pub adds : x.add.id ≢ y.add.id
    pub takes : (t u : Taken) → x.take ≡ Some t → y.take ≡ Some u → t.id ≢ u.id

  pub turned : (x y : Passage) → AreApart x y → AreApart y x
  turned x y h = record { adds = λ e. h.adds (sym e); takes = λ t u e f g. h.takes u t f e (sym g) }

  -- the values in q are in, and those in es come in yet
  pub record AreReady (q es : List Passage) : Type 0 where
    pub leads : Pairwise Leads (q ++ es)
    pub own : (x : Passage) → Contains (q ++ es) x → Leads x x
    pub each : (x : Passage) → Contains (q ++ es) x → IsPassage x
    pub apart : Pairwise AreApart (q ++ es)

  pub record IsMerged (q es : List Passage) (order : List Taken) (end : List ℤ) : Type 0 where
    pub run : Run fifo_queue (map (λ x. x.value) q) order end
    pub from : (z : Taken) → Contains order z → ((x : Passage) × Contains es x × (x.add ≡ z)) ⊎ ((x : Passage) × Contains (q ++ es) x × (x.take ≡ Some z))
    pub adds : (x : Passage) → Contains es x → Contains order x.add
    pub takes : (x : Passage) (z : Taken) → Contains (q ++ es) x → x.take ≡ Some z → Contains order z
    pub in_time : Pairwise (λ x y. ¬ Precedes ms y.id x.id) order
    pub once : Pairwise (λ x y. x.id ≢ y.id) order

  out_from_some : (x : Passage) (t : Taken) → x.take ≡ Some t → out_from x ≡ moment ms t.id
  out_from_some x t e = ap (moment_of ms) e

  out_to_some : (x : Passage) (t : Taken) → x.take ≡ Some t → out_to x ≡ ended ms t.id
  out_to_some x t e = ap (ended_of ms) e

  -- an enqueue is not a dequeue
  add_no_take : (x y : Passage) (t : Taken) → IsPassage x → IsPassage y → y.take ≡ Some t → x.add.id ≢ t.id
  add_no_take x y t p q e s =
      let k = q.taken t e in
      no_both x.add.op.name p.enqueues.0 (ap (λ (o : Op). o.name) (one_op ms well x.add.id x.add.op t.op p.invoked (subst (λ n. Contains ms (Invoked n t.op)) (sym s) k.0)) ∙ k.1.0)

  -- a list at its front
  module _ (h : Passage) (q es : List Passage) (t : Taken) (is : h.take ≡ Some t) (ready : AreReady (h ∷ q) es)
      (free : (y : Passage) → Contains es y → out_from h ≤ in_to y) where
    take_ready : AreReady q es
    take_ready = record {
      leads = ready.leads.1;
      own = λ x k. ready.own x (Contains-tail h (q ++ es) x k);
      each = λ x k. ready.each x (Contains-tail h (q ++ es) x k);
      apart = ready.apart.1;
    }

    own_passage : IsPassage h
    own_passage = ready.each h (Contains-head h (q ++ es))

    module _ (order : List Taken) (end : List ℤ) (r : IsMerged q es order end) where
      in_time_head : (z : Taken) → Contains order z → ¬ Precedes ms z.id t.id
      in_time_head z k p =
          let lt : ended ms z.id < moment ms t.id = ends_before ms well z.id t.id p in
          let e : out_from h ≡ moment ms t.id = out_from_some h t is in
          ⊎_elim
          (λ j. (let f : out_from h ≤ in_to j.0 = free j.0 j.1 in let g : in_to j.0 ≡ ended ms z.id = ap (λ (w : Taken). ended ms w.id) j.2 in omega (arith, e, g)))
          (λ j. (let l : Leads h j.0 = ready.leads.0 j.0 j.1 in let f : out_from h ≤ out_to j.0 = l.out_first in let g : out_to j.0 ≡ ended ms z.id = out_to_some j.0 z j.2 in omega (arith, e, g)))
          (r.from z k)

      once_head : (z : Taken) → Contains order z → t.id ≢ z.id
      once_head z k s = ⊎_elim
          (λ j. add_no_take j.0 h t (ready.each j.0 (Contains-append_right (h ∷ q) es j.0 j.1)) own_passage is (ap (λ (w : Taken). w.id) j.2 ∙ sym s))
          (λ j. (let a : AreApart h j.0 = ready.apart.0 j.0 j.1 in a.takes t z is j.2 s))
          (r.from z k)

      with_take : IsMerged (h ∷ q) es (t ∷ order) end
      with_take = record {
        run = (map (λ x. x.value) q, by_dequeue t.op.name t.op.part (h.value ∷ map (λ x. x.value) q) (map (λ x. x.value) q) t.found (h.value, (own_passage.taken t is).1, refl, (own_passage.taken t is).2), r.run);
        from = λ z k. ⊎_elim
            (λ e. inr (h, Contains-head h (q ++ es), is ∙ ap Some e))
            (λ j. ⊎_elim inl (λ i. inr (i.0, Contains-tail h (q ++ es) i.0 i.1, i.2)) (r.from z j))
            (Contains-cons_cases t order z k);
        adds = λ x k. Contains-tail t order x.add (r.adds x k);
        takes = λ x z k e. ⊎_elim
            (λ (s : h ≡ x). (let f : Some t ≡ Some z = sym is ∙ ap (λ (w : Passage). w.take) s ∙ e in let g : t ≡ z = cc in subst (Contains (t ∷ order)) g (Contains-head t order)))
            (λ j. Contains-tail t order z (r.takes x z j e))
            (Contains-cons_cases h (q ++ es) x k);
        in_time = (in_time_head, r.in_time);
        once = (once_head, r.once);
      }

  module _ (q es : List Passage) (e : Passage) (ready : AreReady q (e ∷ es))
      (early : (y : Passage) → Contains q y → out_to y < in_from e → ⊥) where
    over : (q ++ e ∷ []) ++ es ≡ q ++ e ∷ es
    over = append_assoc q (e ∷ []) es

    to_here : (x : Passage) → Contains ((q ++ e ∷ []) ++ es) x → Contains (q ++ e ∷ es) x
    to_here x k = subst (λ l. Contains l x) over k

    to_there : (x : Passage) → Contains (q ++ e ∷ es) x → Contains ((q ++ e ∷ []) ++ es) x
    to_there x k = subst (λ l. Contains l x) (sym over) k

    here : Contains (q ++ e ∷ es) e
    here = Contains-append_right q (e ∷ es) e (Contains-head e es)

    add_ready : AreReady (q ++ e ∷ []) es
    add_ready = record {
      leads = subst (Pairwise Leads) (sym over) ready.leads;
      own = λ x k. ready.own x (to_here x k);
      each = λ x k. ready.each x (to_here x k);
      apart = subst (Pairwise AreApart) (sym over) ready.apart;
    }

    lead_later : (y : Passage) → Contains es y → Leads e y
    lead_later y k = (Pairwise-right Leads q (e ∷ es) ready.leads).0 y k

    apart_later : (y : Passage) → Contains es y → AreApart e y
    apart_later y k = (Pairwise-right AreApart q (e ∷ es) ready.apart).0 y k

    module _ (order : List Taken) (end : List ℤ) (r : IsMerged (q ++ e ∷ []) es order end) where
      no_earlier_take : (y : Passage) → Contains (q ++ e ∷ es) y → out_to y < in_from e → ⊥
      no_earlier_take y k lt = ⊎_elim
          (λ j. early y j lt)
          (λ j. ⊎_elim
          (λ (s : e ≡ y). (let l : Leads e y = subst (Leads e) s (ready.own e here) in let f : in_from e ≤ out_to y = l.in_first_out in omega arith))
          (λ i. (let l : Leads e y = lead_later y i in let f : in_from e ≤ out_to y = l.in_first_out in omega arith))
          (Contains-cons_cases e es y j))
          (Contains-append_cases q (e ∷ es) y k)

      in_time_first : (z : Taken) → Contains order z → ¬ Precedes ms z.id e.add.id
      in_time_first z k p =
          let lt : ended ms z.id < moment ms e.add.id = ends_before ms well z.id e.add.id p in
          ⊎_elim
          (λ j. (let l : Leads e j.0 = lead_later j.0 j.1 in let f : in_from e ≤ in_to j.0 = l.in_first in let g : in_to j.0 ≡ ended ms z.id = ap (λ (w : Taken). ended ms w.id) j.2 in omega (arith, g)))
          (λ j. (let g : out_to j.0 ≡ ended ms z.id = out_to_some j.0 z j.2 in no_earlier_take j.0 (to_here j.0 j.1) (omega (arith, g))))
          (r.from z k)

      once_first : (z : Taken) → Contains order z → e.add.id ≢ z.id
      once_first z k s = ⊎_elim
          (λ j. (apart_later j.0 j.1).adds (s ∙ ap (λ (w : Taken). w.id) (sym j.2)))
          (λ j. add_no_take e j.0 z (ready.each e here) (ready.each j.0 (to_here j.0 j.1)) j.2 s)
          (r.from z k)

      with_add : IsMerged q (e ∷ es) (e.add ∷ order) end
      with_add = record {
        run = (
          map (λ x. x.value) (q ++ e ∷ []),
          by_enqueue e.add.op.name e.add.op.part (map (λ x. x.value) q) (map (λ x. x.value) (q ++ e ∷ [])) e.add.found (e.value, (ready.each e here).enqueues, map-append (λ (x : Passage). x.value) q (e ∷ []), (ready.each e here).done),
          r.run,
        );
        from = λ z k. ⊎_elim
            (λ s. inl (e, Contains-head e es, s))
            (λ j. ⊎_elim (λ i. inl (i.0, Contains-tail e es i.0 i.1, i.2)) (λ i. inr (i.0, to_here i.0 i.1, i.2)) (r.from z j))
            (Contains-cons_cases e.add order z k);
        adds = λ x k. ⊎_elim
            (λ s. subst (λ (y : Passage). Contains (e.add ∷ order) y.add) s (Contains-head e.add order))
            (λ j. Contains-tail e.add order x.add (r.adds x j))
            (Contains-cons_cases e es x k);
        takes = λ x z k s. Contains-tail e.add order z (r.takes x z (to_there x k) s);
        in_time = (in_time_first, r.in_time);
        once = (once_first, r.once);
      }

  -- an enqueue that is left and ends before a number
  some_earlier : (n : ℕ) (es : List Passage) → ((y : Passage) × Contains es y × (in_to y < n)) ⊎ ((y : Passage) → Contains es y → n ≤ in_to y)
  some_earlier n [] = inr (λ y h. absurd (Contains-nil y h))
  some_earlier n (x ∷ es) = ⊎_elim
      (λ lt. inl (x, Contains-head x es, lt))
      (λ not_lt. ⊎_elim
      (λ k. inl (k.0, Contains-tail x es k.0 k.1, k.2))
      (λ none. inr (λ y h. ⊎_elim (λ e. subst (λ (z : Passage). n ≤ in_to z) e (omega arith)) (none y) (Contains-cons_cases x es y h)))
      (some_earlier n es))
      (cases_lt (in_to x) n)

  take_or_not : (take : Option Taken) → ((t : Taken) × (take ≡ Some t)) ⊎ (take ≡ None)
  take_or_not None = inr refl
  take_or_not (Some t) = inl (t, refl)

  -- no value behind one that stays is dequeued
  none_after : (h : Passage) (q : List Passage) → h.take ≡ None → Pairwise Leads (h ∷ q) → (x : Passage) (z : Taken) → Contains (h ∷ q) x → x.take ≡ Some z → ⊥
  none_after h q none leads x z k e = ⊎_elim
      (λ (s : h ≡ x). (let f : None ≡ Some z = sym none ∙ ap (λ (w : Passage). w.take) s ∙ e in cc))
      (λ j.
      let l : Leads h x = leads.0 x j in
      let a : out_from h ≡ suc (length ms) = ap (moment_of ms) none in
      let b : out_to x ≡ ended ms z.id = out_to_some x z e in
      let c : ended ms z.id ≤ length ms = ended_within ms z.id in
      let d : out_from h ≤ out_to x = l.out_first in
      omega (arith, a, b))
      (Contains-cons_cases h q x k)

  abbrev Merge : List Passage → List Passage → Type 0
  Merge q es = (order : List Taken) × (end : List ℤ) × IsMerged q es order end

  -- where an enqueue is left that ends before the first dequeue may begin, no dequeue precedes the next enqueue
  next_is_early : (h : Passage) (q : List Passage) (e : Passage) (es : List Passage) → AreReady (h ∷ q) (e ∷ es)
      → (y : Passage) → Contains (e ∷ es) y → in_to y < out_from h → (x : Passage) → Contains (h ∷ q) x → out_to x < in_from e → ⊥
  next_is_early h q e es ready y k lt x j early =
      let first : out_from h ≤ out_to x = ⊎_elim
      (λ (s : h ≡ x). (let l : Leads h h = ready.own h (Contains-head h (q ++ e ∷ es)) in subst (λ (w : Passage). out_from h ≤ out_to w) s l.out_first))
      (λ i. (let l : Leads h x = ready.leads.0 x (Contains-append_left q (e ∷ es) x i) in l.out_first))
      (Contains-cons_cases h q x j) in
      let next : in_from e ≤ in_to y = ⊎_elim
      (λ (s : e ≡ y). (let l : Leads e e = ready.own e (Contains-append_right (h ∷ q) (e ∷ es) e (Contains-head e es)) in subst (λ (w : Passage). in_from e ≤ in_to w) s l.in_first))
      (λ i. (let l : Leads e y = (Pairwise-right Leads (h ∷ q) (e ∷ es) ready.leads).0 y i in l.in_first))
      (Contains-cons_cases e es y k) in
      omega arith

  nothing_left : (q : List Passage) → ((x : Passage) (z : Taken) → Contains (q ++ []) x → x.take ≡ Some z → ⊥) → Merge q []
  nothing_left q none = (
    [],
    map (λ x. x.value) q,
    record {
      run = refl;
      from = λ z k. absurd (Contains-nil z k);
      adds = λ x k. absurd (Contains-nil x k);
      takes = λ x z k e. absurd (none x z k e);
      in_time = tt;
      once = tt;
    },
  )

  length_snoc : (q : List Passage) (e : Passage) → length (q ++ e ∷ []) ≡ suc (length q)
  length_snoc q e = (let l = length-append q (e ∷ []) in omega (arith, l))

  pub merge : (n : ℕ) (q es : List Passage) → length q + (length es + length es) ≤ n → AreReady q es → Merge q es
  merge n [] [] le ready = nothing_left [] (λ x z k e. Contains-nil x k)
  merge zero (h ∷ q) es le ready = absurd (omega arith)
  merge zero [] (e ∷ es) le ready = absurd (omega arith)
  merge (suc n) [] (e ∷ es) le ready =
      let early : (y : Passage) → Contains [] y → out_to y < in_from e → ⊥ = λ y k lt. Contains-nil y k in
      let r = merge n (e ∷ []) es (omega arith) (add_ready [] es e ready early) in
      (e.add ∷ r.0, r.1, with_add [] es e ready early r.0 r.1 r.2)
  merge (suc n) (h ∷ q) [] le ready = ⊎_elim
      (λ k.
      let free : (y : Passage) → Contains [] y → out_from h ≤ in_to y = λ y j. absurd (Contains-nil y j) in
      let r = merge n q [] (omega arith) (take_ready h q [] k.0 k.1 ready free) in
      (k.0 ∷ r.0, r.1, with_take h q [] k.0 k.1 ready free r.0 r.1 r.2))
      (λ none. nothing_left (h ∷ q) (λ x z k e. none_after h q none (subst (Pairwise Leads) (append-nil (h ∷ q)) ready.leads) x z (subst (λ l. Contains l x) (append-nil (h ∷ q)) k) e))
      (take_or_not h.take)
  merge (suc n) (h ∷ q) (e ∷ es) le ready = ⊎_elim
      (λ k.
      let early : (y : Passage) → Contains (h ∷ q) y → out_to y < in_from e → ⊥ = next_is_early h q e es ready k.0 k.1 k.2 in
      let l : length ((h ∷ q) ++ e ∷ []) ≡ suc (length (h ∷ q)) = length_snoc (h ∷ q) e in
      let r = merge n ((h ∷ q) ++ e ∷ []) es (omega (arith, l)) (add_ready (h ∷ q) es e ready early) in
      (e.add ∷ r.0, r.1, with_add (h ∷ q) es e ready early r.0 r.1 r.2))
      (λ free. ⊎_elim
      (λ k. (let r = merge n q (e ∷ es) (omega arith) (take_ready h q (e ∷ es) k.0 k.1 ready free) in
      (k.0 ∷ r.0, r.1, with_take h q (e ∷ es) k.0 k.1 ready free r.0 r.1 r.2)))
      (λ none.
      let a : out_from h ≡ suc (length ms) = ap (moment_of ms) none in
      let b : out_from h ≤ in_to e = free e (Contains-head e es) in
      let c : in_to e ≤ length ms = ended_within ms e.add.id in
      absurd (omega (arith, a)))
      (take_or_not h.take))
      (some_earlier (out_from h) (e ∷ es))
