-- an order of the operations of a balanced history: each enqueue at its invocation, and each dequeue at its ok
use Rattle.std.proofs.Common.{◌≡◌, ◌≢◌, ℕ, ◌+◌, ◌≤◌, ℤ, ◌⊎◌, inl, inr, ⊎_elim, Bool, false, cond, List, [], ◌∷◌, ◌++◌, refl, sym, ap, ◌∙◌, subst, append_assoc, arith}
use Rattle.std.specs.List.{Contains}
use Rattle.std.specs.Ordering.{int_eq}
use Rattle.std.proofs.lemmas.Bool.{false_from_ne_true}
use Rattle.std.proofs.lemmas.Bool.Decides.{Decides-int_eq, same_from_decides}
use Rattle.std.proofs.lemmas.List.Elements.{Contains-append_left, Contains-append_right, Contains-push}
use Rattle.models.specs.declared.operation.Op.{Op}
use Rattle.models.specs.declared.finding.Found.TheVariants.{Unit as Done, Item}
use Rattle.models.specs.declared.finding.Answer.{Answer}
use Rattle.models.specs.declared.finding.Answer.TheVariants.{Nothing, Number, Numbers, Many}
use Rattle.models.specs.Objects.{unordered_queue, Fits}
use Rattle.models.specs.Runs.{times_in}
use Rattle.values.specs.Multisets.{with_one, without_one}
use Rattle.values.proofs.Bags.{same_int}
use Rattle.events.specs.Events.{Mark}
use Rattle.events.specs.Events.Mark.{Invoked, Returned, Failed, Crashed}
use Rattle.linspec.specs.MarkRule.{id_of, IsNew, MayFollow, AreWellFormed}
use Rattle.linspec.specs.Operations.{IsInvoked, HasReturned, IsOpen, Precedes}
use Rattle.linspec.specs.Orders.{Taken, Includes, Pairwise, Run, IsLinearizable}
use Rattle.linspec.proofs.Lists.{Contains-nil, Contains-head, Contains-tail, Contains-cons_cases, cut_at}
use Rattle.linspec.proofs.Fates.{failed_or_not}
use Rattle.set_chains.proofs.Once.{one_op, one_answer, returned_not_failed, returned_invoked}
use Rattle.bag_matches.specs.Matches.{Enqueues, HasDequeued}
use Rattle.bag_matches.specs.Counts.{puts, takes, enqueued, dequeued, IsBalanced}
use Rattle.bag_matches.proofs.Tests.{IsDequeue, IsPut, IsTake, same_int_part, puts_is, takes_is, no_both, enqueues_any, dequeue_or_not}
use Rattle.bag_matches.proofs.Counting.{count_push}
use Rattle.bag_matches.proofs.Prefixes.{not_preceded, returned_in_front}
use Rattle.bag_matches.proofs.Steps.{put_step, take_step, times_with, times_without, in_if_counted}

module _ (ms : List Mark) (well : AreWellFormed ms) where
  -- the operation takes place at the mark: an enqueue at its invocation, a dequeue at its ok
  abbrev PutsAt : Mark → Taken → Type 0
  PutsAt m x = (v : ℤ) × Enqueues x.op v × (x.found ≡ Done) × (¬ Contains ms (Failed x.id)) × (m ≡ Invoked x.id x.op)

  abbrev TakesAt : Mark → Taken → Type 0
  TakesAt m x = (v : ℤ) × IsDequeue x.op × (x.found ≡ Item v) × Contains ms (Invoked x.id x.op) × (m ≡ Returned x.id (Number v))

  abbrev PlacesAt : Mark → Taken → Type 0
  PlacesAt m x = PutsAt m x ⊎ TakesAt m x

  at_mark : (m : Mark) → Contains ms m → ((x : Taken) × PlacesAt m x) ⊎ ((x : Taken) → ¬ PlacesAt m x)
  at_mark (Invoked id op) h = ⊎_elim
      (λ a. ⊎_elim
      (λ f. inr (λ x p. ⊎_elim
      (λ q. (let e : Invoked id op ≡ Invoked x.id x.op = q.4 in let s : id ≡ x.id = cc in q.3 (subst (λ n. Contains ms (Failed n)) s f)))
      (λ q. (let e : Invoked id op ≡ Returned x.id (Number q.0) = q.4 in cc))
      p))
      (λ n. inl (record { id = id; op = op; found = Done }, inl (a.0, a.1, refl, n, refl)))
      (failed_or_not ms id))
      (λ none. inr (λ x p. ⊎_elim
      (λ q. (let e : Invoked id op ≡ Invoked x.id x.op = q.4 in let s : op ≡ x.op = cc in none q.0 (subst (λ o. Enqueues o q.0) (sym s) q.1)))
      (λ q. (let e : Invoked id op ≡ Returned x.id (Number q.0) = q.4 in cc))
      p))
      (enqueues_any op.name op.part)
  at_mark (Returned id (Number v)) h =
      let i : IsInvoked ms id = returned_invoked ms well id (Number v) h in
      ⊎_elim
      (λ d. inl (record { id = id; op = i.0; found = Item v }, inr (v, d, refl, i.1, refl)))
      (λ n. inr (λ x p. ⊎_elim
      (λ q. (let e : Returned id (Number v) ≡ Invoked x.id x.op = q.4 in cc))
      (λ q.
      let e : Returned id (Number v) ≡ Returned x.id (Number q.0) = q.4 in
      let s : id ≡ x.id = cc in
      let o : i.0 ≡ x.op = one_op ms well id i.0 x.op i.1 (subst (λ k. Contains ms (Invoked k x.op)) (sym s) q.3) in
      n (subst IsDequeue (sym o) q.1))
      p))
      (dequeue_or_not i.0)
  at_mark (Returned id Nothing) h = inr (λ x p. ⊎_elim (λ q. (let e : Returned id Nothing ≡ Invoked x.id x.op = q.4 in cc)) (λ q. (let e : Returned id Nothing ≡ Returned x.id (Number q.0) = q.4 in cc)) p)
  at_mark (Returned id (Numbers a b)) h = inr (λ x p. ⊎_elim (λ q. (let e : Returned id (Numbers a b) ≡ Invoked x.id x.op = q.4 in cc)) (λ q. (let e : Returned id (Numbers a b) ≡ Returned x.id (Number q.0) = q.4 in cc)) p)
  at_mark (Returned id (Many s)) h = inr (λ x p. ⊎_elim (λ q. (let e : Returned id (Many s) ≡ Invoked x.id x.op = q.4 in cc)) (λ q. (let e : Returned id (Many s) ≡ Returned x.id (Number q.0) = q.4 in cc)) p)
  at_mark (Failed id) h = inr (λ x p. ⊎_elim (λ q. (let e : Failed id ≡ Invoked x.id x.op = q.4 in cc)) (λ q. (let e : Failed id ≡ Returned x.id (Number q.0) = q.4 in cc)) p)
  at_mark (Crashed id) h = inr (λ x p. ⊎_elim (λ q. (let e : Crashed id ≡ Invoked x.id x.op = q.4 in cc)) (λ q. (let e : Crashed id ≡ Returned x.id (Number q.0) = q.4 in cc)) p)

  placed_invoked : (m : Mark) (x : Taken) → Contains ms m → PlacesAt m x → Contains ms (Invoked x.id x.op)
  placed_invoked m x h p = ⊎_elim (λ q. subst (Contains ms) q.4 h) (λ q. q.3) p

  -- two marks, one behind the other
  module _ (before part : List Mark) (m : Mark) (whole : (before ++ m ∷ []) ++ part ≡ ms) (x : Taken) (p : PlacesAt m x) where
    front_has : (n : Mark) → Contains (before ++ m ∷ []) n → Contains ms n
    front_has n h = subst (λ l. Contains l n) whole (Contains-append_left (before ++ m ∷ []) part n h)

    was_invoked : IsInvoked (before ++ m ∷ []) x.id
    was_invoked = ⊎_elim
        (λ q. (x.op, subst (Contains (before ++ m ∷ [])) q.4 (Contains-push before m)))
        (λ q. returned_in_front ms well (before ++ m ∷ []) part whole x.id (Number q.0) (subst (Contains (before ++ m ∷ [])) q.4 (Contains-push before m)))
        p

    op_is : Contains ms (Invoked x.id x.op)
    op_is = placed_invoked m x (front_has m (Contains-push before m)) p

    module _ (n : Mark) (behind : Contains part n) (y : Taken) (q : PlacesAt n y) where
      -- what comes before the mark
      abbrev gap : List Mark
      gap = (cut_at part n behind).0

      may : MayFollow ((before ++ m ∷ []) ++ gap) n
      may =
          let d = cut_at part n behind in
          well ((before ++ m ∷ []) ++ d.0) d.1 n (append_assoc (before ++ m ∷ []) d.0 (n ∷ d.1) ∙ ap (λ l. (before ++ m ∷ []) ++ l) (sym d.2) ∙ whole)

      stays : (k : Mark) → Contains (before ++ m ∷ []) k → Contains ((before ++ m ∷ []) ++ gap) k
      stays k h = Contains-append_left (before ++ m ∷ []) gap k h

      not_returned : ¬ HasReturned (before ++ m ∷ []) y.id
      not_returned r = ⊎_elim
          (λ a. (let new : IsNew ((before ++ m ∷ []) ++ gap) y.id = subst (MayFollow ((before ++ m ∷ []) ++ gap)) a.4 may in new (Returned y.id r.0) (stays _ r.1) refl))
          (λ a. (let is : IsOpen ((before ++ m ∷ []) ++ gap) y.id = subst (MayFollow ((before ++ m ∷ []) ++ gap)) a.4 may in is.not_returned (r.0, stays _ r.1)))
          q

      placed_behind : Contains ms n
      placed_behind = subst (λ l. Contains l n) whole (Contains-append_right (before ++ m ∷ []) part n behind)

      pub apart : x.id ≢ y.id
      apart e =
          let other : Contains ms (Invoked y.id y.op) = placed_invoked n y placed_behind q in
          let same : x.op ≡ y.op = one_op ms well y.id x.op y.op (subst (λ k. Contains ms (Invoked k x.op)) e op_is) other in
          ⊎_elim
          (λ a. ⊎_elim
          (λ b. (let new : IsNew ((before ++ m ∷ []) ++ gap) y.id = subst (MayFollow ((before ++ m ∷ []) ++ gap)) b.4 may in new m (stays m (Contains-push before m)) (ap id_of a.4 ∙ e)))
          (λ b. no_both y.op.name b.1.0 (ap (λ (o : Op). o.name) (sym same) ∙ a.1.0))
          q)
          (λ a. not_returned (Number a.0, subst (λ k. Contains (before ++ m ∷ []) (Returned k (Number a.0))) e (subst (Contains (before ++ m ∷ [])) a.4 (Contains-push before m))))
          p

      pub in_time : ¬ Precedes ms y.id x.id
      in_time = not_preceded ms well (before ++ m ∷ []) part whole y.id x.id was_invoked not_returned

  -- how often each value is in
  abbrev Holds : List Mark → List ℤ → Type 0
  Holds front s = (w : ℤ) → times_in w s + dequeued ms w front ≡ enqueued ms w front

  module _ (balanced : IsBalanced ms) (before part : List Mark) (m : Mark) (whole : (before ++ m ∷ []) ++ part ≡ ms) (s : List ℤ) (holds : Holds before s) where
    put_more : (w : ℤ) → enqueued ms w (before ++ m ∷ []) ≡ enqueued ms w before + cond (puts ms w m) 1 0
    put_more w = count_push (puts ms w) before m

    take_more : (w : ℤ) → dequeued ms w (before ++ m ∷ []) ≡ dequeued ms w before + cond (takes ms w m) 1 0
    take_more w = count_push (takes ms w) before m

    one_if : (b c : Bool) → b ≡ c → cond {A = ℕ} b 1 0 ≡ cond c 1 0
    one_if b c e = ap (λ t. cond t 1 0) e

    none_placed : ((x : Taken) → ¬ PlacesAt m x) → Holds (before ++ m ∷ []) s
    none_placed none w =
        let no_put : puts ms w m ≡ false = false_from_ne_true (puts ms w m) (λ t. (let i : IsPut ms w m = (puts_is ms w m).0 t in none (record { id = i.0; op = i.1; found = Done }) (inl (w, i.3, refl, i.4, i.2)))) in
        let no_take : takes ms w m ≡ false = false_from_ne_true (takes ms w m) (λ t. (let i : IsTake ms w m = (takes_is ms w m).0 t in none (record { id = i.0; op = i.2; found = Item w }) (inr (w, i.4, refl, i.3, i.1)))) in
        let a = put_more w in
        let b = take_more w in
        let c : cond {A = ℕ} (puts ms w m) 1 0 ≡ 0 = one_if _ _ no_put in
        let d : cond {A = ℕ} (takes ms w m) 1 0 ≡ 0 = one_if _ _ no_take in
        let h = holds w in
        omega (arith, a, b, c, d, h)

    abbrev Steps : Taken → Type 0
    Steps x = (t : List ℤ) × unordered_queue.Steps s x.op x.found t × Holds (before ++ m ∷ []) t

    put_placed : (x : Taken) → PutsAt m x → Steps x
    put_placed x q = (
      with_one q.0 s,
      put_step x.op.name x.op.part s (with_one q.0 s) x.found (q.0, q.1.0, q.1.1, refl, q.2),
      λ w.
          let puts_it : puts ms w m ≡ int_eq q.0 w = same_from_decides (puts ms w m) (int_eq q.0 w) (
            (λ t.
                let i : IsPut ms w m = (puts_is ms w m).0 t in
                let e : Invoked i.0 i.1 ≡ Invoked x.id x.op = sym i.2 ∙ q.4 in
                let o : i.1 ≡ x.op = cc in
                same_int_part q.0 w x.op.part q.1.1 (ap (λ (op : Op). op.part) (sym o) ∙ i.3.1)),
            (λ e. (puts_is ms w m).1 (x.id, x.op, q.4, subst (Enqueues x.op) e q.1, q.3)),
          )
          (Decides-int_eq q.0 w) in
          let no_take : takes ms w m ≡ false = false_from_ne_true (takes ms w m) (λ t. (let i : IsTake ms w m = (takes_is ms w m).0 t in let e : Invoked x.id x.op ≡ Returned i.0 (Number w) = sym q.4 ∙ i.1 in cc)) in
          let a = put_more w in
          let b = take_more w in
          let c : cond {A = ℕ} (puts ms w m) 1 0 ≡ cond (int_eq q.0 w) 1 0 = one_if _ _ puts_it in
          let d : cond {A = ℕ} (takes ms w m) 1 0 ≡ 0 = one_if _ _ no_take in
          let h = holds w in
          let t = times_with w q.0 s in
          omega (arith, a, b, c, d, h, t),
    )

    takes_it : (x : Taken) (q : TakesAt m x) (w : ℤ) → takes ms w m ≡ int_eq q.0 w
    takes_it x q w = same_from_decides (takes ms w m) (int_eq q.0 w) (
      (λ t.
          let i : IsTake ms w m = (takes_is ms w m).0 t in
          let e : Returned x.id (Number q.0) ≡ Returned i.0 (Number w) = sym q.4 ∙ i.1 in
          let a : Number q.0 ≡ Number w = cc in
          let v : q.0 ≡ w = cc in
          v),
      (λ e. (takes_is ms w m).1 (x.id, q.4 ∙ ap (λ v. Returned x.id (Number v)) e, x.op, q.3, q.1)),
    )
        (Decides-int_eq q.0 w)

    no_put_at : (x : Taken) (q : TakesAt m x) (w : ℤ) → puts ms w m ≡ false
    no_put_at x q w = false_from_ne_true (puts ms w m) (λ t. (let i : IsPut ms w m = (puts_is ms w m).0 t in let e : Returned x.id (Number q.0) ≡ Invoked i.0 i.1 = sym q.4 ∙ i.2 in cc))

    there_is : (x : Taken) (q : TakesAt m x) → Contains s q.0
    there_is x q =
        let v : ℤ = q.0 in
        let le : dequeued ms v (before ++ m ∷ []) ≤ enqueued ms v (before ++ m ∷ []) = balanced.covered v (before ++ m ∷ []) part whole in
        let a = put_more v in
        let b = take_more v in
        let c : cond {A = ℕ} (puts ms v m) 1 0 ≡ 0 = one_if _ _ (no_put_at x q v) in
        let d : cond {A = ℕ} (takes ms v m) 1 0 ≡ 1 = one_if _ _ (takes_it x q v ∙ same_int v v refl) in
        let h = holds v in
        in_if_counted v s (omega (arith, le, a, b, c, d, h))

    take_placed : (x : Taken) → TakesAt m x → Steps x
    take_placed x q = (
      without_one q.0 s,
      take_step x.op.name x.op.part s (without_one q.0 s) x.found (q.0, q.1.0, q.1.1, there_is x q, refl, q.2),
      λ w.
          let a = put_more w in
          let b = take_more w in
          let c : cond {A = ℕ} (puts ms w m) 1 0 ≡ 0 = one_if _ _ (no_put_at x q w) in
          let d : cond {A = ℕ} (takes ms w m) 1 0 ≡ cond (int_eq q.0 w) 1 0 = one_if _ _ (takes_it x q w) in
          let h = holds w in
          let t = times_without w q.0 s (there_is x q) in
          omega (arith, a, b, c, d, h, t),
    )

    steps_at : (x : Taken) → PlacesAt m x → Steps x
    steps_at x p = ⊎_elim (put_placed x) (take_placed x) p

  record Built (part : List Mark) (s t : List ℤ) (xs : List Taken) : Type 0 where
    places : (x : Taken) → Contains xs x → (m : Mark) × Contains part m × PlacesAt m x
    all : (m : Mark) (x : Taken) → Contains part m → PlacesAt m x → Includes xs x.id
    once : Pairwise (λ x y. x.id ≢ y.id) xs
    in_time : Pairwise (λ x y. ¬ Precedes ms y.id x.id) xs
    run : Run unordered_queue s xs t

  one_place : (m : Mark) (x y : Taken) → PlacesAt m x → PlacesAt m y → x.id ≡ y.id
  one_place m x y p q = id_at x p ∙ sym (id_at y q)
    where
      id_at : (z : Taken) → PlacesAt m z → z.id ≡ id_of m
      id_at z r = ⊎_elim (λ a. sym (ap id_of a.4)) (λ a. sym (ap id_of a.4)) r

  module _ (balanced : IsBalanced ms) where
    build : (part before : List Mark) → before ++ part ≡ ms → (s : List ℤ) → Holds before s → (xs : List Taken) × (t : List ℤ) × Built part s t xs
    build [] before e s holds = (
      [],
      s,
      record {
        places = λ x h. absurd (Contains-nil x h);
        all = λ m x h p. absurd (Contains-nil m h);
        once = tt;
        in_time = tt;
        run = refl;
      },
    )
    build (m ∷ part) before e s holds =
        let whole : (before ++ m ∷ []) ++ part ≡ ms = append_assoc before (m ∷ []) part ∙ e in
        ⊎_elim
        (λ c.
        let x : Taken = c.0 in
        let step = steps_at balanced before part m whole s holds x c.1 in
        let r = build part (before ++ m ∷ []) whole step.0 step.2 in (
          x ∷ r.0,
          r.1,
          record {
            places = λ y h. ⊎_elim
                (λ (q : x ≡ y). (m, Contains-head m part, subst (PlacesAt m) q c.1))
                (λ k. (let i = r.2.places y k in (i.0, Contains-tail m part i.0 i.1, i.2)))
                (Contains-cons_cases x r.0 y h);
            all = λ n y h p. ⊎_elim
                (λ (q : m ≡ n). (x, Contains-head x r.0, one_place n x y (subst (λ k. PlacesAt k x) q c.1) p))
                (λ k. (let i : Includes r.0 y.id = r.2.all n y k p in (i.0, Contains-tail x r.0 i.0 i.1, i.2)))
                (Contains-cons_cases m part n h);
            once = ((λ y h. (let i = r.2.places y h in apart before part m whole x c.1 i.0 i.1 y i.2)), r.2.once);
            in_time = ((λ y h. (let i = r.2.places y h in in_time before part m whole x c.1 i.0 i.1 y i.2)), r.2.in_time);
            run = (step.0, step.1, r.2.run);
          },
        ))
        (λ none.
        let r = build part (before ++ m ∷ []) whole s (none_placed balanced before part m whole s holds none) in (
          r.0,
          r.1,
          record {
            places = λ y h. (let i = r.2.places y h in (i.0, Contains-tail m part i.0 i.1, i.2));
            all = λ n y h p. ⊎_elim
                (λ (q : m ≡ n). absurd (none y (subst (λ k. PlacesAt k y) (sym q) p)))
                (λ k. r.2.all n y k p)
                (Contains-cons_cases m part n h);
            once = r.2.once;
            in_time = r.2.in_time;
            run = r.2.run;
          },
        ))
        (at_mark m (subst (λ l. Contains l m) e (Contains-append_right before (m ∷ part) m (Contains-head m part))))

    none_in : Holds [] []
    none_in w = refl

    module _ (xs : List Taken) (t : List ℤ) (is : Built ms [] t xs) where
      is_there : (id : ℕ) → HasReturned ms id → Includes xs id
      is_there id d = ⊎_elim
          (λ a. is.all (Invoked id a.1.0) (record { id = id; op = a.1.0; found = Done }) a.1.1 (inl (a.0, a.1.2, refl, returned_not_failed ms well id d.0 d.1, refl)))
          (λ a. (let h : HasDequeued ms id a.0 = a.1 in is.all (Returned id (Number a.0)) (record { id = id; op = h.op; found = Item a.0 }) h.answer (inr (a.0, (h.dequeues, h.of_any), refl, h.invoked, refl))))
          (balanced.known id d)

      its_fit : (x : Taken) (answer : Answer) → Contains xs x → Contains ms (Returned x.id answer) → Fits x.found answer
      its_fit x answer h d =
          let i = is.places x h in
          ⊎_elim
          (λ a. subst (λ f. Fits f answer) (sym a.2) tt)
          (λ a. subst (λ f. Fits f answer) (sym a.2) (subst (Fits (Item a.0)) (one_answer ms well x.id (Number a.0) answer (subst (Contains ms) a.4 i.1) d) refl))
          i.2

      legal : IsLinearizable unordered_queue ms
      legal = (
        xs,
        t,
        record {
          invoked = λ x h. (let i = is.places x h in placed_invoked i.0 x i.1 i.2);
          once = is.once;
          none_failed = λ x h. (let i = is.places x h in ⊎_elim (λ a. a.3) (λ a. returned_not_failed ms well x.id (Number a.0) (subst (Contains ms) a.4 i.1)) i.2);
          all_done = is_there;
          in_time = is.in_time;
          run = is.run;
          fits = its_fit;
        },
      )

pub linearizable_if_balanced : (ms : List Mark) → AreWellFormed ms → IsBalanced ms → IsLinearizable unordered_queue ms
linearizable_if_balanced ms well balanced =
    let r = build ms well balanced ms [] refl [] (none_in ms well balanced) in
    legal ms well balanced r.0 r.1 r.2
