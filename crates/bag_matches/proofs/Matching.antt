-- a history of a queue without an order is matched exactly where it is balanced
use Rattle.std.proofs.Common.{◌≡◌, ◌≢◌, ◌↔◌, ℕ, zero, suc, ◌+◌, ◌<◌, ◌≤◌, ℤ, ◌⊎◌, inl, inr, ⊎_elim, true, cond, List, [], ◌∷◌, ◌++◌, length, get_or, refl, sym, ap, ◌∙◌, subst, append_assoc, arith, length-append}
use Rattle.std.specs.List.{Contains, filter}
use Rattle.std.proofs.lemmas.List.{append-nil, append_cancel_left, get_or_append_left}
use Rattle.std.proofs.lemmas.List.Elements.{Contains-get_or, filter-append}
use Rattle.std.proofs.lemmas.List.Sums.{length-filter}
use Rattle.models.specs.declared.operation.Op.{Op}
use Rattle.models.specs.declared.finding.Answer.{Answer}
use Rattle.models.specs.declared.finding.Answer.TheVariants.{Nothing, Number, Numbers, Many}
use Rattle.events.specs.Events.{Mark, IsPrefixOf}
use Rattle.events.specs.Events.Mark.{Invoked, Returned, Failed}
use Rattle.linspec.specs.MarkRule.{id_of, AreWellFormed}
use Rattle.linspec.specs.Operations.{HasReturned, IsOpen}
use Rattle.linspec.specs.Orders.{Pairwise}
use Rattle.linspec.proofs.Lists.{Pairwise-weaker, cut_at}
use Rattle.linspec.proofs.Filters.{from_filter, Pairwise-filter, two_cuts}
use Rattle.linspec.proofs.Fates.{returned_or_not}
use Rattle.set_chains.proofs.Once.{one_op, one_answer}
use Rattle.bag_matches.specs.Matches.{HasDequeued, MayServe, IsMatched}
use Rattle.bag_matches.specs.Counts.{puts, takes, enqueued, dequeued, IsBalanced}
use Rattle.bag_matches.proofs.Tests.{IsPut, IsTake, same_int_part, puts_is, takes_is}
use Rattle.bag_matches.proofs.Counting.{Apart, count_append, count_cons, count_push, count_le}
use Rattle.bag_matches.proofs.Prefixes.{in_whole, in_front, puts_apart, takes_apart, not_preceded}

-- elements with different keys are at one place each
one_place : {X : Type 0} (f : X → ℕ) (xs : List X) → Pairwise (λ x y. f x ≢ f y) xs → (i j : ℕ) (d : X) → i < length xs → j < length xs → f (get_or xs i d) ≡ f (get_or xs j d) → i ≡ j
one_place f [] once i j d lt le e = absurd (omega arith)
one_place f (x ∷ xs) once zero zero d lt le e = refl
one_place f (x ∷ xs) once zero (suc j) d lt le e = absurd (once.0 (get_or xs j d) (Contains-get_or xs j d (omega arith)) e)
one_place f (x ∷ xs) once (suc i) zero d lt le e = absurd (once.0 (get_or xs i d) (Contains-get_or xs i d (omega arith)) (sym e))
one_place f (x ∷ xs) once (suc i) (suc j) d lt le e = ap suc (one_place f xs once.1 i j d (omega arith) (omega arith) e)

module _ (ms : List Mark) (well : AreWellFormed ms) where
  has_dequeued : (v : ℤ) (m : Mark) (i : IsTake ms v m) → Contains ms m → HasDequeued ms i.0 v
  has_dequeued v m i h = record { op = i.2; invoked = i.3; dequeues = i.4.0; of_any = i.4.1; answer = subst (Contains ms) i.1 h }

  module _ (matched : IsMatched ms) (v : ℤ) (front rest : List Mark) (cut : front ++ rest ≡ ms) where
    abbrev source_of : Mark → ℕ
    source_of m = matched.source (id_of m)

    served : (m : Mark) → Contains front m → takes ms v m ≡ true → (y : Mark) × Contains front y × (puts ms v y ≡ true) × (id_of y ≡ source_of m)
    served m h t =
        let i : IsTake ms v m = (takes_is ms v m).0 t in
        let s : MayServe ms (matched.source i.0) i.0 v = matched.serves i.0 v (has_dequeued v m i (in_whole ms well front rest cut m h)) in
        let e = s.enqueues in (
          Invoked (matched.source i.0) e.0,
          in_front ms well front rest cut i.0 (matched.source i.0) e.0 (Number v, subst (Contains front) i.1 h) e.1 s.in_time,
          (puts_is ms v (Invoked (matched.source i.0) e.0)).1 (matched.source i.0, e.0, refl, e.2, s.not_failed),
          ap matched.source (sym (ap id_of i.1)),
        )

    apart : Pairwise (Apart (takes ms v) (puts ms v) source_of id_of) front
    apart = Pairwise-weaker (Apart (takes ms v) (takes ms v) id_of id_of) (Apart (takes ms v) (puts ms v) source_of id_of) front
        (λ a b h k ne p q same. (
        let i : IsTake ms v a = (takes_is ms v a).0 p in
        let j : IsTake ms v b = (takes_is ms v b).0 q in
        let e : matched.source i.0 ≡ matched.source j.0 = ap matched.source (sym (ap id_of i.1)) ∙ same ∙ ap matched.source (ap id_of j.1) in
        ne p q (ap id_of i.1 ∙ matched.once i.0 j.0 v v (has_dequeued v a i (in_whole ms well front rest cut a h)) (has_dequeued v b j (in_whole ms well front rest cut b k)) e ∙ sym (ap id_of j.1))))
        (takes_apart ms well front rest cut v)

    pub covered : dequeued ms v front ≤ enqueued ms v front
    covered = count_le (takes ms v) (puts ms v) source_of id_of front front apart served

  -- the first dequeue of a value gets the first enqueue of it, the second the second, and so on
  module _ (balanced : IsBalanced ms) where
    abbrev bringers : ℤ → List Mark
    bringers v = filter (puts ms v) ms

    abbrev nth : ℤ → ℕ → Mark
    nth v k = get_or (bringers v) k (Failed 0)

    record IsServed (id : ℕ) (v : ℤ) (e : ℕ) : Type 0 where
      front : List Mark
      rest : List Mark
      cut : front ++ Returned id (Number v) ∷ rest ≡ ms
      is : e ≡ id_of (nth v (dequeued ms v front))

    abbrev by_answer : (id : ℕ) (a : Answer) → Contains ms (Returned id a) → ℕ
    by_answer id (Number v) h = id_of (nth v (dequeued ms v (cut_at ms (Returned id (Number v)) h).0))
    by_answer id _ h = 0

    abbrev by_return : (id : ℕ) → HasReturned ms id ⊎ (¬ HasReturned ms id) → ℕ
    by_return id (inl r) = by_answer id r.0 r.1
    by_return id (inr n) = 0

    abbrev source : ℕ → ℕ
    source id = by_return id (returned_or_not ms id)

    served_by : (id : ℕ) (v : ℤ) (a : Answer) (h : Contains ms (Returned id a)) → HasDequeued ms id v → IsServed id v (by_answer id a h)
    served_by id v (Number w) h d =
        let q : Number w ≡ Number v = one_answer ms well id (Number w) (Number v) h d.answer in
        let e : w ≡ v = cc in
        let c = cut_at ms (Returned id (Number w)) h in
        subst (λ u. IsServed id u (by_answer id (Number w) h)) e (record { front = c.0; rest = c.1; cut = sym c.2; is = refl })
    served_by id v Nothing h d = let q : Nothing ≡ Number v = one_answer ms well id Nothing (Number v) h d.answer in cc
    served_by id v (Numbers a b) h d = let q : Numbers a b ≡ Number v = one_answer ms well id (Numbers a b) (Number v) h d.answer in cc
    served_by id v (Many s) h d = let q : Many s ≡ Number v = one_answer ms well id (Many s) (Number v) h d.answer in cc

    is_served : (id : ℕ) (v : ℤ) → HasDequeued ms id v → IsServed id v (source id)
    is_served id v d = by_cases (returned_or_not ms id)
      where
        by_cases : (o : HasReturned ms id ⊎ (¬ HasReturned ms id)) → IsServed id v (by_return id o)
        by_cases (inl r) = served_by id v r.0 r.1 d
        by_cases (inr n) = absurd (n (Number v, d.answer))

    module _ (id : ℕ) (v : ℤ) (d : HasDequeued ms id v) (e : ℕ) (s : IsServed id v e) where
      abbrev place : ℕ
      place = dequeued ms v s.front

      abbrev its_mark : Mark
      its_mark = nth v place

      in_time_at : place < length (filter (puts ms v) s.front)
      in_time_at =
          let ok : Mark = Returned id (Number v) in
          let le : dequeued ms v (s.front ++ ok ∷ []) ≤ enqueued ms v (s.front ++ ok ∷ []) = balanced.covered v (s.front ++ ok ∷ []) s.rest (append_assoc s.front (ok ∷ []) s.rest ∙ s.cut) in
          let a : dequeued ms v (s.front ++ ok ∷ []) ≡ place + cond (takes ms v ok) 1 0 = count_push (takes ms v) s.front ok in
          let b : enqueued ms v (s.front ++ ok ∷ []) ≡ enqueued ms v s.front + 0 = count_push (puts ms v) s.front ok in
          let c : cond {A = ℕ} (takes ms v ok) 1 0 ≡ 1 = ap (λ t. cond t 1 0) ((takes_is ms v ok).1 (id, refl, d.op, d.invoked, (d.dequeues, d.of_any))) in
          let f : length (filter (puts ms v) s.front) ≡ enqueued ms v s.front = length-filter (puts ms v) s.front in
          omega (arith, le, a, b, c, f)

      mark_is : its_mark ≡ get_or (filter (puts ms v) s.front) place (Failed 0)
      mark_is =
          let parts : bringers v ≡ filter (puts ms v) s.front ++ filter (puts ms v) (Returned id (Number v) ∷ s.rest) = ap (filter (puts ms v)) (sym s.cut) ∙ filter-append (puts ms v) s.front (Returned id (Number v) ∷ s.rest) in
          ap (λ l. get_or l place (Failed 0)) parts ∙ get_or_append_left (filter (puts ms v) s.front) (filter (puts ms v) (Returned id (Number v) ∷ s.rest)) (Failed 0) place in_time_at

      in_place : place < length (bringers v)
      in_place =
          let parts : bringers v ≡ filter (puts ms v) s.front ++ filter (puts ms v) (Returned id (Number v) ∷ s.rest) = ap (filter (puts ms v)) (sym s.cut) ∙ filter-append (puts ms v) s.front (Returned id (Number v) ∷ s.rest) in
          let a : length (bringers v) ≡ length (filter (puts ms v) s.front) + length (filter (puts ms v) (Returned id (Number v) ∷ s.rest)) = ap length parts ∙ length-append (filter (puts ms v) s.front) (filter (puts ms v) (Returned id (Number v) ∷ s.rest)) in
          let b = in_time_at in
          omega (arith, a, b)

      found : Contains s.front its_mark × (puts ms v its_mark ≡ true)
      found = subst (λ m. Contains s.front m × (puts ms v m ≡ true)) (sym mark_is) (from_filter (puts ms v) s.front _ (Contains-get_or (filter (puts ms v) s.front) place (Failed 0) in_time_at))

      its_put : IsPut ms v its_mark
      its_put = (puts_is ms v its_mark).0 found.1

      own : e ≡ its_put.0
      own = s.is ∙ ap id_of its_put.2

      early : Contains s.front (Invoked e its_put.1)
      early = subst (λ n. Contains s.front (Invoked n its_put.1)) (sym own) (subst (Contains s.front) its_put.2 found.0)

      invoked : Contains ms (Invoked e its_put.1)
      invoked = in_whole ms well s.front (Returned id (Number v) ∷ s.rest) s.cut _ early

      not_yet : ¬ HasReturned s.front id
      not_yet r = let is : IsOpen s.front id = well s.front s.rest (Returned id (Number v)) s.cut in is.not_returned r

      may_serve : MayServe ms e id v
      may_serve = record {
        enqueues = (its_put.1, invoked, its_put.3);
        not_failed = subst (λ n. ¬ Contains ms (Failed n)) (sym own) its_put.4;
        in_time = not_preceded ms well s.front (Returned id (Number v) ∷ s.rest) s.cut id e (its_put.1, early) not_yet;
      }

    -- of two cuts of the history at the ok of a dequeue of v, as many such before each: then they are one
    ahead : (a b : ℕ) (v : ℤ) (front more rest others : List Mark) → HasDequeued ms a v → front ++ Returned a (Number v) ∷ rest ≡ ms
        → (front ++ more) ++ Returned b (Number v) ∷ others ≡ ms → dequeued ms v front ≡ dequeued ms v (front ++ more) → a ≡ b
    ahead a b v front [] rest others d cut other same =
        let e : Returned a (Number v) ∷ rest ≡ Returned b (Number v) ∷ others = append_cancel_left front _ _ (cut ∙ sym other ∙ ap (λ l. l ++ Returned b (Number v) ∷ others) (append-nil front)) in
        cc
    ahead a b v front (m ∷ more) rest others d cut other same =
        let e : Returned a (Number v) ∷ rest ≡ m ∷ (more ++ Returned b (Number v) ∷ others) = append_cancel_left front _ _ (cut ∙ sym other ∙ append_assoc front (m ∷ more) (Returned b (Number v) ∷ others)) in
        let is : Returned a (Number v) ≡ m = cc in
        let t : takes ms v m ≡ true = (takes_is ms v m).1 (a, sym is, d.op, d.invoked, (d.dequeues, d.of_any)) in
        let p : dequeued ms v (front ++ m ∷ more) ≡ dequeued ms v front + dequeued ms v (m ∷ more) = count_append (takes ms v) front (m ∷ more) in
        let q : dequeued ms v (m ∷ more) ≡ cond (takes ms v m) 1 0 + dequeued ms v more = count_cons (takes ms v) m more in
        let r : cond {A = ℕ} (takes ms v m) 1 0 ≡ 1 = ap (λ b. cond b 1 0) t in
        absurd (omega (arith, p, q, r, same))

    bringers_apart : (v : ℤ) → Pairwise (λ x y. id_of x ≢ id_of y) (bringers v)
    bringers_apart v = Pairwise-weaker (Apart (puts ms v) (puts ms v) id_of id_of) (λ x y. id_of x ≢ id_of y) (bringers v)
        (λ x y h k ne. ne (from_filter (puts ms v) ms x h).1 (from_filter (puts ms v) ms y k).1)
        (Pairwise-filter (puts ms v) (Apart (puts ms v) (puts ms v) id_of id_of) ms (puts_apart ms well ms [] (append-nil ms) v))

    one_dequeue : (a b : ℕ) (v : ℤ) (c : HasDequeued ms a v) (d : HasDequeued ms b v) (e f : ℕ) → IsServed a v e → IsServed b v f → e ≡ f → a ≡ b
    one_dequeue a b v c d e f s t same =
        let places : place a v c e s ≡ place b v d f t = one_place id_of (bringers v) (bringers_apart v) (place a v c e s) (place b v d f t) (Failed 0) (in_place a v c e s) (in_place b v d f t) (sym s.is ∙ same ∙ t.is) in
        ⊎_elim
        (λ (g : IsPrefixOf s.front t.front). ahead a b v s.front g.0 s.rest t.rest c s.cut (ap (λ l. l ++ Returned b (Number v) ∷ t.rest) g.1 ∙ t.cut) (places ∙ sym (ap (dequeued ms v) g.1)))
        (λ (g : IsPrefixOf t.front s.front). sym (ahead b a v t.front g.0 t.rest s.rest d t.cut (ap (λ l. l ++ Returned a (Number v) ∷ s.rest) g.1 ∙ s.cut) (sym places ∙ sym (ap (dequeued ms v) g.1))))
        (two_cuts s.front (Returned a (Number v) ∷ s.rest) t.front (Returned b (Number v) ∷ t.rest) (s.cut ∙ sym t.cut))

    once_served : (a b : ℕ) (v w : ℤ) → HasDequeued ms a v → HasDequeued ms b w → source a ≡ source b → a ≡ b
    once_served a b v w c d same =
        let s : IsServed a v (source a) = is_served a v c in
        let t : IsServed b w (source b) = is_served b w d in
        let i : IsPut ms v (its_mark a v c (source a) s) = its_put a v c (source a) s in
        let j : IsPut ms w (its_mark b w d (source b) t) = its_put b w d (source b) t in
        let o : i.1 ≡ j.1 = one_op ms well (source b) i.1 j.1 (subst (λ n. Contains ms (Invoked n i.1)) same (invoked a v c (source a) s)) (invoked b w d (source b) t) in
        let e : w ≡ v = same_int_part w v j.1.part j.3.1 (ap (λ (op : Op). op.part) (sym o) ∙ i.3.1) in
        one_dequeue a b v c (subst (HasDequeued ms b) e d) (source a) (source b) s (subst (λ u. IsServed b u (source b)) e t) same

    pub matched_if_balanced : IsMatched ms
    matched_if_balanced = record {
      known = balanced.known;
      source = source;
      serves = λ id v d. may_serve id v d (source id) (is_served id v d);
      once = once_served;
    }

  pub balanced_if_matched : IsMatched ms → IsBalanced ms
  balanced_if_matched matched = record { known = matched.known; covered = covered matched }

  pub matched_is : IsMatched ms ↔ IsBalanced ms
  matched_is = (balanced_if_matched, matched_if_balanced)
