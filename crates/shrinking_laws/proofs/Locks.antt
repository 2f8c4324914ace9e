-- the operations that may be left out of the history of a lock
use Rattle.std.proofs.Common.{◌≡◌, ◌≢◌, ℕ, inl, ⊎_elim, Bool, true, false, not, nat_eq, List, [], ◌∷◌, ◌++◌, refl, sym, ap, ◌∙◌, subst}
use Rattle.std.specs.List.{Contains}
use Rattle.std.proofs.lemmas.Bool.{cases_Bool, true≢false, eqb-true, eq-eqb, ne_eqb}
use Rattle.std.proofs.lemmas.List.Elements.{Contains-append_left, Contains-append_right, Contains-append_cases}
use Rattle.models.specs.declared.operation.Name.{Name}
use Rattle.models.specs.declared.operation.Name.TheVariants.{Acquire, Release}
use Rattle.models.specs.declared.operation.Part.{Part}
use Rattle.models.specs.declared.operation.Part.TheVariants.{Nil}
use Rattle.models.specs.declared.operation.Op.{Op}
use Rattle.models.specs.declared.finding.Found.{Found}
use Rattle.models.specs.declared.finding.Found.TheVariants.{Unit as Done}
use Rattle.models.specs.Objects.{IsOneOf, mutex_apply, mutex}
use Rattle.models.proofs.Steps.{same_outcome}
use Rattle.events.specs.Events.{Mark}
use Rattle.events.specs.Events.Mark.{Invoked}
use Rattle.linspec.specs.MarkRule.{AreWellFormed}
use Rattle.linspec.specs.Operations.{Precedes}
use Rattle.linspec.specs.Orders.{Taken, Includes, Pairwise, Run, IsLegalOrder, IsLinearizable}
use Rattle.linspec.proofs.Lists.{Contains-nil, Contains-head, Contains-tail, Contains-cons_cases, Pairwise-append, Pairwise-left, Pairwise-right, Pairwise-across, Pairwise-weaker, cut_at}
use Rattle.linspec.proofs.Marks.{Precedes-returned, Run-append, Run-cut}
use Rattle.linspec.proofs.Invocations.{Around, around}
use Rattle.shrinking_laws.specs.LeftOut.{without}
use Rattle.shrinking_laws.specs.Counts.{is_one_of}
use Rattle.shrinking_laws.specs.Locks.{IsCalled, MayTakePlace, MayStandBetween, IsPair, IsLast}
use Rattle.shrinking_laws.proofs.Once.{one_op, not_before_itself}
use Rattle.shrinking_laws.proofs.LeftOut.{from_without, to_without, Precedes-from_without, IsLegalOrder-rest}
use Rattle.shrinking_laws.proofs.Ranks.{is_neither, is_not_first, is_not_second}

-- the operation that takes place in a state, held or not
abbrev pub name_at : Bool → Name
name_at false = Acquire
name_at true = Release

pub name_at-once : (a b : Bool) → name_at a ≡ name_at b → a ≡ b
name_at-once false false e = refl
name_at-once true true e = refl
name_at-once false true e = cc
name_at-once true false e = cc

not_not : (b : Bool) → not (not b) ≡ b
not_not true = refl
not_not false = refl

not_itself : (b : Bool) → not b ≡ b → ⊥
not_itself true e = true≢false (sym e)
not_itself false e = true≢false e

abbrev IsStep : Name → Part → Bool → Found → Bool → Type 0
IsStep name part s found t = (name ≡ name_at s) × (part ≡ Nil) × (t ≡ not s) × (found ≡ Done)

pub mutex_view : (name : Name) (part : Part) (s t : Bool) (found : Found) → IsOneOf (mutex_apply name part s) (t, found) → IsStep name part s found t
mutex_view Acquire Nil false t found h = let e = same_outcome (true, Done) (t, found) h in (refl, refl, sym e.0, sym e.1)
mutex_view Release Nil true t found h = let e = same_outcome (false, Done) (t, found) h in (refl, refl, sym e.0, sym e.1)
mutex_view _ _ s t found h = absurd h

by_name : (s : Bool) → IsOneOf (mutex_apply (name_at s) Nil s) (not s, Done)
by_name false = inl refl
by_name true = inl refl

by_lock : (name : Name) (part : Part) (s : Bool) (found : Found) → name ≡ name_at s → part ≡ Nil → found ≡ Done → IsOneOf (mutex_apply name part s) (not s, found)
by_lock name part s found e p f =
    subst (λ n. IsOneOf (mutex_apply n part s) (not s, found)) (sym e)
    (subst (λ q. IsOneOf (mutex_apply (name_at s) q s) (not s, found)) (sym p)
    (subst (λ g. IsOneOf (mutex_apply (name_at s) Nil s) (not s, g)) (sym f) (by_name s)))

Pairwise-drop : {X : Type 0} (T : X → X → Type 0) (xs ys : List X) (x : X) → Pairwise T (xs ++ x ∷ ys) → Pairwise T (xs ++ ys)
Pairwise-drop T [] ys x p = p.1
Pairwise-drop T (z ∷ xs) ys x p = (
  (λ y h. p.0 y (⊎_elim (λ k. Contains-append_left xs (x ∷ ys) y k) (λ k. Contains-append_right xs (x ∷ ys) y (Contains-tail x ys y k)) (Contains-append_cases xs ys y h))),
  Pairwise-drop T xs ys x p.1,
)

-- operations that take place in turn from state b back to it, each two of them swapped
record Swapped (b : Bool) (ys : List Taken) : Type 1 where
  swaps : List Taken
  run : Run mutex (not b) swaps (not b)
  from : (x : Taken) → Contains swaps x → Contains ys x
  to : (x : Taken) → Contains ys x → Contains swaps x
  pairwise : (T : Taken → Taken → Type 0) → Pairwise T ys
      → ((x y : Taken) → Contains ys x → Contains ys y → x.op.name ≡ name_at b → y.op.name ≡ name_at (not b) → T x y → T y x) → Pairwise T swaps

module _ (b : Bool) where
  abbrev TakesAt : Taken → Bool → Type 0
  TakesAt x s = (x.op.name ≡ name_at s) × (x.op.part ≡ Nil) × (x.found ≡ Done)

  two_more : (x y : Taken) (ys : List Taken) → TakesAt x b → TakesAt y (not b) → Swapped b ys → Swapped b (x ∷ y ∷ ys)
  two_more x y ys at_x at_y s = record {
    swaps = y ∷ x ∷ s.swaps;
    run = (
      not (not b),
      by_lock y.op.name y.op.part (not b) y.found at_y.0 at_y.1 at_y.2,
      subst (λ z. Run mutex z (x ∷ s.swaps) (not b)) (sym (not_not b)) (not b, by_lock x.op.name x.op.part b x.found at_x.0 at_x.1 at_x.2, s.run),
    );
    from = λ z h. ⊎_elim
        (λ e. Contains-tail x (y ∷ ys) z (subst (Contains (y ∷ ys)) e (Contains-head y ys)))
        (λ k. ⊎_elim
        (λ e. subst (Contains (x ∷ y ∷ ys)) e (Contains-head x (y ∷ ys)))
        (λ j. Contains-tail x (y ∷ ys) z (Contains-tail y ys z (s.from z j)))
        (Contains-cons_cases x s.swaps z k))
        (Contains-cons_cases y (x ∷ s.swaps) z h);
    to = λ z h. ⊎_elim
        (λ e. Contains-tail y (x ∷ s.swaps) z (subst (Contains (x ∷ s.swaps)) e (Contains-head x s.swaps)))
        (λ k. ⊎_elim
        (λ e. subst (Contains (y ∷ x ∷ s.swaps)) e (Contains-head y (x ∷ s.swaps)))
        (λ j. Contains-tail y (x ∷ s.swaps) z (Contains-tail x s.swaps z (s.to z j)))
        (Contains-cons_cases y ys z k))
        (Contains-cons_cases x (y ∷ ys) z h);
    pairwise = λ T p flip. (
      (λ z h. ⊎_elim
          (λ e. subst (T y) e (flip x y (Contains-head x (y ∷ ys)) (Contains-tail x (y ∷ ys) y (Contains-head y ys)) at_x.0 at_y.0 (p.0 y (Contains-head y ys))))
          (λ k. p.1.0 z (s.from z k))
          (Contains-cons_cases x s.swaps z h)),
      (
        (λ z h. p.0 z (Contains-tail y ys z (s.from z h))),
        s.pairwise T p.1.1 (λ u w i j. flip u w (Contains-tail x (y ∷ ys) u (Contains-tail y ys u i)) (Contains-tail x (y ∷ ys) w (Contains-tail y ys w j))),
      ),
    );
  }

  swapped_both : (ys : List Taken) → (Run mutex b ys b → Swapped b ys) × ((x : Taken) → TakesAt x b → Run mutex (not b) ys b → Swapped b (x ∷ ys))
  swapped_both [] = (
    (λ run. record { swaps = []; run = refl; from = λ x h. h; to = λ x h. h; pairwise = λ T p flip. p }),
    (λ x is run. absurd (not_itself b run)),
  )
  swapped_both (y ∷ ys) =
      let r = swapped_both ys in (
        (λ run. (let k = mutex_view y.op.name y.op.part b run.0 y.found run.1 in
            r.1 y (k.0, k.1, k.3) (subst (λ s. Run mutex s ys b) k.2 run.2))),
        (λ x is run. (let k = mutex_view y.op.name y.op.part (not b) run.0 y.found run.1 in
            two_more x y ys is (k.0, k.1, k.3) (r.0 (subst (λ s. Run mutex s ys b) (k.2 ∙ not_not b) run.2)))),
      )

  swapped : (ys : List Taken) → Run mutex b ys b → Swapped b ys
  swapped ys run = (swapped_both ys).0 run

joined : (order xs rest ys zs : List Taken) (p q : Taken) → order ≡ xs ++ p ∷ rest → rest ≡ ys ++ q ∷ zs → order ≡ xs ++ p ∷ (ys ++ q ∷ zs)
joined order xs rest ys zs p q e f = subst (λ k. order ≡ xs ++ p ∷ k) f e

-- who is called so, in an order
pub called_in : (ms : List Mark) → AreWellFormed ms → (name : Name) (id : ℕ) (x : Taken) → IsCalled ms name id → x.id ≡ id → Contains ms (Invoked x.id x.op) → x.op.name ≡ name
called_in ms well name id x called same h =
    let own : called.0 ≡ x.op = one_op ms well id called.0 x.op called.1 (subst (λ n. Contains ms (Invoked n x.op)) same h) in
    ap (λ (p : Op). p.name) (sym own) ∙ called.2

module _ (ms : List Mark) (well : AreWellFormed ms) (b : Bool) (first second : ℕ) (pair : IsPair ms (name_at (not b)) (name_at b) first second) where
  abbrev out : ℕ → Bool
  out = is_one_of first second

  module _ (order : List Taken) (end : Bool) (l : IsLegalOrder mutex ms order end)
      (xs ys zs : List Taken) (p q : Taken) (whole : order ≡ xs ++ p ∷ (ys ++ q ∷ zs)) (p_is : p.id ≡ first) (q_is : q.id ≡ second) where
    abbrev Apart : Taken → Taken → Type 0
    Apart x y = x.id ≢ y.id

    abbrev InTime : Taken → Taken → Type 0
    InTime x y = ¬ Precedes ms y.id x.id

    apart : Pairwise Apart (xs ++ p ∷ (ys ++ q ∷ zs))
    apart = subst (Pairwise Apart) whole l.once

    in_time : Pairwise InTime (xs ++ p ∷ (ys ++ q ∷ zs))
    in_time = subst (Pairwise InTime) whole l.in_time

    in_order : (x : Taken) → Contains (xs ++ p ∷ (ys ++ q ∷ zs)) x → Contains order x
    in_order x h = subst (λ k. Contains k x) (sym whole) h

    p_there : Contains order p
    p_there = in_order p (Contains-append_right xs (p ∷ (ys ++ q ∷ zs)) p (Contains-head p (ys ++ q ∷ zs)))

    q_behind : Contains (ys ++ q ∷ zs) q
    q_behind = Contains-append_right ys (q ∷ zs) q (Contains-head q zs)

    q_there : Contains order q
    q_there = in_order q (Contains-append_right xs (p ∷ (ys ++ q ∷ zs)) q (Contains-tail p (ys ++ q ∷ zs) q q_behind))

    -- relations that hold of two in the order, by where they stand
    from_p : (T : Taken → Taken → Type 0) → Pairwise T (xs ++ p ∷ (ys ++ q ∷ zs)) → (y : Taken) → Contains (ys ++ q ∷ zs) y → T p y
    from_p T h y k = (Pairwise-right T xs (p ∷ (ys ++ q ∷ zs)) h).0 y k

    to_q : (T : Taken → Taken → Type 0) → Pairwise T (xs ++ p ∷ (ys ++ q ∷ zs)) → (y : Taken) → Contains ys y → T y q
    to_q T h y k = Pairwise-across T ys (q ∷ zs) (Pairwise-right T xs (p ∷ (ys ++ q ∷ zs)) h).1 y q k (Contains-head q zs)

    between : (y : Taken) → Contains ys y → Contains (ys ++ q ∷ zs) y
    between y k = Contains-append_left ys (q ∷ zs) y k

    ys_there : (y : Taken) → Contains ys y → Contains order y
    ys_there y k = in_order y (Contains-append_right xs (p ∷ (ys ++ q ∷ zs)) y (Contains-tail p (ys ++ q ∷ zs) y (between y k)))

    may_stand : (y : Taken) → Contains ys y → MayStandBetween ms first second y.id
    may_stand y k = (
      (λ h. from_p InTime in_time y (between y k) (subst (Precedes ms y.id) (sym p_is) h)),
      (λ h. to_q InTime in_time y k (subst (λ n. Precedes ms n y.id) (sym q_is) h)),
    )

    may_take_place : (y : Taken) (name : Name) → Contains ys y → y.op.name ≡ name → MayTakePlace ms name y.id
    may_take_place y name k e = ((y.op, l.invoked y (ys_there y k), e), l.none_failed y (ys_there y k))

    -- two between them that stand in turn do not precede each other
    flip : (x y : Taken) → Contains ys x → Contains ys y → x.op.name ≡ name_at b → y.op.name ≡ name_at (not b) → InTime x y → InTime y x
    flip x y i j at_x at_y n h =
        let called : Contains (h.before ++ h.after) (Invoked first pair.called.0) = subst (λ k. Contains k (Invoked first pair.called.0)) (sym h.cut) pair.called.1 in
        ⊎_elim
        (λ k. pair.none_between x.id y.id
        (λ e. to_q Apart apart x i (e ∙ sym q_is))
        (λ e. from_p Apart apart y (between y j) (p_is ∙ sym e))
        (may_take_place x (name_at b) i at_x) (may_take_place y (name_at (not b)) j at_y) (may_stand x i) (may_stand y j) n
        (record { before = h.before; after = h.after; cut = h.cut; first = (pair.called.0, k); second = h.invoked }))
        (λ k. (may_stand x i).0 (record { before = h.before; after = h.after; cut = h.cut; returned = h.returned; invoked = (pair.called.0, k) }))
        (Contains-append_cases h.before h.after (Invoked first pair.called.0) called)

    flip_apart : (x y : Taken) → Contains ys x → Contains ys y → x.op.name ≡ name_at b → y.op.name ≡ name_at (not b) → Apart x y → Apart y x
    flip_apart x y i j at_x at_y n e = n (sym e)

    -- the runs of the parts
    parts : (u : Bool) × Run mutex false xs u × Run mutex u (p ∷ (ys ++ q ∷ zs)) end
    parts = Run-cut mutex false end xs (p ∷ (ys ++ q ∷ zs)) (subst (λ k. Run mutex false k end) whole l.run)

    at_p : IsStep p.op.name p.op.part parts.0 p.found parts.2.0
    at_p = mutex_view p.op.name p.op.part parts.0 parts.2.0 p.found parts.2.1

    before_p : parts.0 ≡ not b
    before_p = name_at-once parts.0 (not b) (sym at_p.0 ∙ called_in ms well (name_at (not b)) first p pair.called p_is (l.invoked p p_there))

    after_p : parts.2.0 ≡ b
    after_p = at_p.2 ∙ ap not before_p ∙ not_not b

    middle : (w : Bool) × Run mutex b ys w × Run mutex w (q ∷ zs) end
    middle = Run-cut mutex b end ys (q ∷ zs) (subst (λ s. Run mutex s (ys ++ q ∷ zs) end) after_p parts.2.2)

    at_q : IsStep q.op.name q.op.part middle.0 q.found middle.2.0
    at_q = mutex_view q.op.name q.op.part middle.0 middle.2.0 q.found middle.2.1

    before_q : middle.0 ≡ b
    before_q = name_at-once middle.0 b (sym at_q.0 ∙ called_in ms well (name_at b) second q pair.called_other q_is (l.invoked q q_there))

    swaps : Swapped b ys
    swaps = swapped b ys (subst (Run mutex b ys) before_q middle.1)

    left : List Taken
    left = xs ++ (swaps.swaps ++ zs)

    left_runs : Run mutex false left end
    unfolding left
    left_runs = Run-append mutex false (not b) end xs (swaps.swaps ++ zs) (subst (Run mutex false xs) before_p parts.1)
        (Run-append mutex (not b) (not b) end swaps.swaps zs swaps.run (subst (λ s. Run mutex s zs end) (at_q.2 ∙ ap not before_q) middle.2.2))

    pairwise_left : (T : Taken → Taken → Type 0) → Pairwise T (xs ++ p ∷ (ys ++ q ∷ zs))
        → ((x y : Taken) → Contains ys x → Contains ys y → x.op.name ≡ name_at b → y.op.name ≡ name_at (not b) → T x y → T y x) → Pairwise T left
    unfolding left
    pairwise_left T h flips =
        let behind : Pairwise T (ys ++ q ∷ zs) = (Pairwise-right T xs (p ∷ (ys ++ q ∷ zs)) h).1 in
        let rest : Pairwise T (ys ++ zs) = Pairwise-drop T ys zs q behind in
        Pairwise-append T xs (swaps.swaps ++ zs) (Pairwise-left T xs (p ∷ (ys ++ q ∷ zs)) h)
        (Pairwise-append T swaps.swaps zs (swaps.pairwise T (Pairwise-left T ys zs rest) flips) (Pairwise-right T ys zs rest)
        (λ x y i j. Pairwise-across T ys zs rest x y (swaps.from x i) j))
        (λ x y i j. Pairwise-across T xs (p ∷ (ys ++ q ∷ zs)) h x y i (Contains-tail p (ys ++ q ∷ zs) y
        (⊎_elim (λ k. between y (swaps.from y k)) (λ k. Contains-append_right ys (q ∷ zs) y (Contains-tail q zs y k)) (Contains-append_cases swaps.swaps zs y j))))

    -- the rest is of the order, and neither of the two
    from_left : (x : Taken) → Contains left x → Contains order x × (out x.id ≡ false)
    unfolding left
    from_left x h = ⊎_elim
        (λ k. (
          in_order x (Contains-append_left xs (p ∷ (ys ++ q ∷ zs)) x k),
          is_neither first second x.id
              (λ e. Pairwise-across Apart xs (p ∷ (ys ++ q ∷ zs)) apart x p k (Contains-head p (ys ++ q ∷ zs)) (e ∙ sym p_is))
              (λ e. Pairwise-across Apart xs (p ∷ (ys ++ q ∷ zs)) apart x q k (Contains-tail p (ys ++ q ∷ zs) q q_behind) (e ∙ sym q_is)),
        ))
        (λ k. ⊎_elim
        (λ i. (let j = swaps.from x i in (
          ys_there x j,
          is_neither first second x.id (λ e. from_p Apart apart x (between x j) (p_is ∙ sym e)) (λ e. to_q Apart apart x j (e ∙ sym q_is)),
        )))
        (λ i. (let j : Contains (ys ++ q ∷ zs) x = Contains-append_right ys (q ∷ zs) x (Contains-tail q zs x i) in (
          in_order x (Contains-append_right xs (p ∷ (ys ++ q ∷ zs)) x (Contains-tail p (ys ++ q ∷ zs) x j)),
          is_neither first second x.id (λ e. from_p Apart apart x j (p_is ∙ sym e))
              (λ e. (Pairwise-right Apart ys (q ∷ zs) (Pairwise-right Apart xs (p ∷ (ys ++ q ∷ zs)) apart).1).0 x i (q_is ∙ sym e)),
        )))
        (Contains-append_cases swaps.swaps zs x k))
        (Contains-append_cases xs (swaps.swaps ++ zs) x h)

    to_left : (x : Taken) → Contains order x → out x.id ≡ false → Contains left x
    unfolding left
    to_left x h e = ⊎_elim
        (λ k. Contains-append_left xs (swaps.swaps ++ zs) x k)
        (λ k. ⊎_elim
        (λ (same : p ≡ x). absurd (is_not_first first second x.id e (ap (λ (w : Taken). w.id) (sym same) ∙ p_is)))
        (λ j. ⊎_elim
        (λ i. Contains-append_right xs (swaps.swaps ++ zs) x (Contains-append_left swaps.swaps zs x (swaps.to x i)))
        (λ i. ⊎_elim
        (λ (same : q ≡ x). absurd (is_not_second first second x.id e (ap (λ (w : Taken). w.id) (sym same) ∙ q_is)))
        (λ z. Contains-append_right xs (swaps.swaps ++ zs) x (Contains-append_right swaps.swaps zs x z))
        (Contains-cons_cases q zs x i))
        (Contains-append_cases ys (q ∷ zs) x j))
        (Contains-cons_cases p (ys ++ q ∷ zs) x k))
        (Contains-append_cases xs (p ∷ (ys ++ q ∷ zs)) x (subst (λ k. Contains k x) whole h))

    left_is_legal : IsLegalOrder mutex (without out ms) left end
    left_is_legal = record {
      invoked = λ x h. (let r = from_left x h in to_without out ms _ (l.invoked x r.0) r.1);
      once = pairwise_left Apart apart flip_apart;
      none_failed = λ x h f. l.none_failed x (from_left x h).0 (from_without out ms _ f).0;
      all_done = λ id d. (
          let r = from_without out ms _ d.1 in
          let i : Includes order id = l.all_done id (d.0, r.0) in
          (i.0, to_left i.0 i.1 (ap out i.2 ∙ r.1), i.2));
      in_time = Pairwise-weaker InTime (λ x y. ¬ Precedes (without out ms) y.id x.id) left (λ x y i j n h. n (Precedes-from_without out ms y.id x.id h)) (pairwise_left InTime in_time flip);
      run = left_runs;
      fits = λ x answer h d. l.fits x answer (from_left x h).0 (from_without out ms _ d).0;
    }

  pub without_pair : IsLinearizable mutex ms → IsLinearizable mutex (without out ms)
  without_pair h =
      let order : List Taken = h.0 in
      let l : IsLegalOrder mutex ms order h.1 = h.2 in
      let i : Includes order first = l.all_done first (Precedes-returned ms first second pair.precedes) in
      let j : Includes order second = l.all_done second pair.returned in
      let c = cut_at order i.0 i.1 in
      let is_before : Precedes ms i.0.id j.0.id = subst (λ n. Precedes ms n j.0.id) (sym i.2) (subst (Precedes ms first) (sym j.2) pair.precedes) in
      let behind : Contains c.1 j.0 = ⊎_elim
      (λ k. absurd (Pairwise-across (λ x y. ¬ Precedes ms y.id x.id) c.0 (i.0 ∷ c.1) (subst (Pairwise (λ x y. ¬ Precedes ms y.id x.id)) c.2 l.in_time) j.0 i.0 k (Contains-head i.0 c.1) is_before))
      (λ k. ⊎_elim
      (λ (same : i.0 ≡ j.0). absurd (not_before_itself ms well i.0.id (subst (λ (w : Taken). Precedes ms i.0.id w.id) (sym same) is_before)))
      (λ m. m)
      (Contains-cons_cases i.0 c.1 j.0 k))
      (Contains-append_cases c.0 (i.0 ∷ c.1) j.0 (subst (λ k. Contains k j.0) c.2 j.1)) in
      let d = cut_at c.1 j.0 behind in
      let whole : order ≡ c.0 ++ i.0 ∷ (d.0 ++ j.0 ∷ d.1) = joined order c.0 c.1 d.0 d.1 i.0 j.0 c.2 d.2 in
      (left order h.1 l c.0 d.0 d.1 i.0 j.0 whole i.2 j.2, h.1, left_is_legal order h.1 l c.0 d.0 d.1 i.0 j.0 whole i.2 j.2)

-- an operation that each one of the other name precedes is last, or takes no place
module _ (ms : List Mark) (well : AreWellFormed ms) (b : Bool) (id : ℕ) (is : IsLast ms (name_at (not b)) (name_at b) id) where
  abbrev only : ℕ → Bool
  only n = nat_eq n id

  pub without_last : IsLinearizable mutex ms → IsLinearizable mutex (without only ms)
  without_last h = ⊎_elim at_end not_there (around h.0 id)
    where
      order : List Taken
      order = h.0

      l : IsLegalOrder mutex ms h.0 h.1
      l = h.2

      not_there : ¬ Includes h.0 id → IsLinearizable mutex (without only ms)
      not_there n = (h.0, h.1, IsLegalOrder-rest only mutex ms h.0 h.1 l (λ x k. ⊎_elim (λ e. absurd (n (x, k, eqb-true x.id id e))) (λ e. e) (cases_Bool (nat_eq x.id id))))

      -- nothing stands behind it
      none_after : (a : Around h.0 id) → a.after ≡ []
      none_after a = empty a.after refl
        where
          l' : IsLegalOrder mutex ms (a.before ++ a.here ∷ a.after) h.1
          l' = subst (λ k. IsLegalOrder mutex ms k h.1) a.whole l

          run : (u : Bool) × Run mutex false a.before u × Run mutex u (a.here ∷ a.after) h.1
          run = Run-cut mutex false h.1 a.before (a.here ∷ a.after) l'.run

          here : IsStep a.here.op.name a.here.op.part run.0 a.here.found run.2.0
          here = mutex_view a.here.op.name a.here.op.part run.0 run.2.0 a.here.found run.2.1

          there : Contains (a.before ++ a.here ∷ a.after) a.here
          there = Contains-append_right a.before (a.here ∷ a.after) a.here (Contains-head a.here a.after)

          state : run.0 ≡ not b
          state = name_at-once run.0 (not b) (sym here.0 ∙ called_in ms well (name_at (not b)) id a.here is.0 a.is (l'.invoked a.here there))

          empty : (after : List Taken) → a.after ≡ after → a.after ≡ []
          empty [] e = e
          empty (z ∷ after) e =
              let rest : Run mutex run.2.0 (z ∷ after) h.1 = subst (λ k. Run mutex run.2.0 k h.1) e run.2.2 in
              let next : IsStep z.op.name z.op.part run.2.0 z.found rest.0 = mutex_view z.op.name z.op.part run.2.0 rest.0 z.found rest.1 in
              let name : z.op.name ≡ name_at b = next.0 ∙ ap name_at (here.2 ∙ ap not state ∙ not_not b) in
              let in_after : Contains a.after z = subst (λ k. Contains k z) (sym e) (Contains-head z after) in
              let z_there : Contains (a.before ++ a.here ∷ a.after) z = Contains-append_right a.before (a.here ∷ a.after) z (Contains-tail a.here a.after z in_after) in
              let earlier : Precedes ms z.id id = is.1 z.id ((z.op, l'.invoked z z_there, name), l'.none_failed z z_there) in
              absurd ((Pairwise-right (λ x y. ¬ Precedes ms y.id x.id) a.before (a.here ∷ a.after) l'.in_time).0 z in_after (subst (Precedes ms z.id) (sym a.is) earlier))

      at_end : Around h.0 id → IsLinearizable mutex (without only ms)
      at_end a =
          let w : h.0 ≡ a.before ++ a.here ∷ [] = a.whole ∙ ap (λ k. a.before ++ a.here ∷ k) (none_after a) in
          let l' : IsLegalOrder mutex ms (a.before ++ a.here ∷ []) h.1 = subst (λ k. IsLegalOrder mutex ms k h.1) w l in
          let run : (u : Bool) × Run mutex false a.before u × Run mutex u (a.here ∷ []) h.1 = Run-cut mutex false h.1 a.before (a.here ∷ []) l'.run in
          let was : (x : Taken) → Contains a.before x → Contains (a.before ++ a.here ∷ []) x = (λ x k. Contains-append_left a.before (a.here ∷ []) x k) in
          let stays : (x : Taken) → Contains a.before x → only x.id ≡ false = (λ x k. ne_eqb x.id id (λ e. Pairwise-across (λ x y. x.id ≢ y.id) a.before (a.here ∷ []) l'.once x a.here k (Contains-head a.here []) (e ∙ sym a.is))) in (
            a.before,
            run.0,
            record {
              invoked = λ x k. to_without only ms _ (l'.invoked x (was x k)) (stays x k);
              once = Pairwise-left (λ x y. x.id ≢ y.id) a.before (a.here ∷ []) l'.once;
              none_failed = λ x k f. l'.none_failed x (was x k) (from_without only ms _ f).0;
              all_done = λ n d. (
                  let r = from_without only ms _ d.1 in
                  let i : Includes (a.before ++ a.here ∷ []) n = l'.all_done n (d.0, r.0) in (
                    i.0,
                    ⊎_elim (λ k. k) (λ k. ⊎_elim (λ (e : a.here ≡ i.0). absurd (true≢false (sym (eq-eqb n id (sym i.2 ∙ ap (λ (z : Taken). z.id) (sym e) ∙ a.is)) ∙ r.1))) (λ j. absurd (Contains-nil _ j)) (Contains-cons_cases a.here [] i.0 k))
                        (Contains-append_cases a.before (a.here ∷ []) i.0 i.1),
                    i.2,
                  ));
              in_time = Pairwise-weaker (λ x y. ¬ Precedes ms y.id x.id) (λ x y. ¬ Precedes (without only ms) y.id x.id) a.before (λ x y i j n k. n (Precedes-from_without only ms y.id x.id k))
                  (Pairwise-left (λ x y. ¬ Precedes ms y.id x.id) a.before (a.here ∷ []) l'.in_time);
              run = run.1;
              fits = λ x answer k d. l'.fits x answer (was x k) (from_without only ms _ d).0;
            },
          )
