-- a paired history has a legal order
use Rattle.std.proofs.Common.{◌≡◌, ◌≢◌, ℕ, suc, ◌+◌, ◌≤◌, ◌<◌, ℤ, ◌⊎◌, inl, inr, ⊎_elim, Option, Some, None, List, [], ◌++◌, length, refl, sym, ap, ◌∙◌, subst, arith}
use Rattle.std.specs.List.{Contains}
use Rattle.std.specs.Ordering.{int_eq}
use Rattle.std.proofs.lemmas.Bool.{cases_lt, cases_Bool, true≢false}
use Rattle.std.proofs.lemmas.Bool.Decides.{Decides-int_eq}
use Rattle.std.proofs.lemmas.List.Elements.{Contains-append_left, Contains-append_right, Contains-append_cases}
use Rattle.models.specs.declared.operation.Op.{Op}
use Rattle.models.specs.declared.finding.Found.TheVariants.{Unit as Done, Item}
use Rattle.models.specs.declared.finding.Answer.{Answer}
use Rattle.models.specs.declared.finding.Answer.TheVariants.{Number}
use Rattle.models.specs.Objects.{fifo_queue, Fits}
use Rattle.events.specs.Events.{Mark}
use Rattle.events.specs.Events.Mark.{Invoked, Returned, Failed}
use Rattle.linspec.specs.MarkRule.{AreWellFormed}
use Rattle.linspec.specs.Operations.{HasReturned, Precedes}
use Rattle.linspec.specs.Orders.{Taken, Includes, Pairwise, IsLinearizable}
use Rattle.linspec.proofs.Lists.{Pairwise-append, Pairwise-weaker}
use Rattle.linspec.proofs.Fates.{returned_or_not}
use Rattle.linspec.specs.Twins.{Enqueues, IsEnqueueOf, MayEnqueue}
use Rattle.queue_pairs.specs.Pairs.{Dequeues, HasDequeued, MayDequeue, IsBefore, IsUntold, IsOwedTo, AreTakers, IsPaired, IsLate, TwinsAreLate}
use Rattle.queue_pairs.proofs.Once.{one_op, one_answer, returned_not_failed, not_before_itself}
use Rattle.queue_pairs.proofs.Times.{moment, ended, moment_within, ended_never}
use Rattle.queue_pairs.proofs.Finds.{some_of, Collected, collected}
use Rattle.queue_pairs.proofs.Steps.{enqueues_any}
use Rattle.queue_pairs.proofs.Twins.{begins_within, precedes_if, done_not_late, enqueue_value, enqueue_no_dequeue, one_enqueue, before_each}
use Rattle.queue_pairs.proofs.Turns.{AreFair, AreInTurn, in_turn}
use Rattle.queue_pairs.proofs.Merge.{Passage, in_from, in_to, out_from, out_to, Leads, IsPassage, AreApart, turned, AreReady, IsMerged, merge, moment_of, ended_of}

module _ (ms : List Mark) (well : AreWellFormed ms) (late : TwinsAreLate ms) (paired : IsPaired ms) where
  abbrev taker : ℤ → ℕ
  taker = paired.taken.0

  takers : AreTakers ms taker
  takers = paired.taken.1

  abbrev key_of : Option Taken → ℕ
  key_of None = 0
  key_of (Some t) = t.id

  abbrev key : Passage → ℕ
  key x = key_of x.take

  -- a value that was dequeued
  record IsTold (x : Passage) : Type 0 where
    passage : IsPassage ms well x
    may : MayEnqueue ms x.add.id x.value
    t : Taken
    take : x.take ≡ Some t
    told : HasDequeued ms t.id x.value
    in_time : ¬ Precedes ms t.id x.add.id

  only_take : (t u : Taken) (take : Option Taken) → take ≡ Some t → take ≡ Some u → t ≡ u
  only_take t u take e f = let g : Some t ≡ Some u = sym e ∙ f in cc

  make_told : (id : ℕ) (v : ℤ) → HasDequeued ms id v → (x : Passage) × (key x ≡ id) × IsTold x
  make_told id v h =
      let a = paired.added id v h in
      let t : Taken = record { id = id; op = h.op; found = Item v } in
      let x : Passage = record { value = v; add = record { id = a.0; op = a.1.0.0; found = Done }; take = Some t } in (
        x,
        refl,
        record {
          passage = record {
            invoked = a.1.0.1;
            enqueues = a.1.0.2;
            done = refl;
            taken = λ u e. (let s : t ≡ u = only_take t u (Some t) refl e in subst (λ (w : Taken). Contains ms (Invoked w.id w.op) × Dequeues w.op × (w.found ≡ Item v)) s (h.invoked, h.dequeues, refl));
          };
          may = a.1;
          t = t;
          take = refl;
          told = h;
          in_time = a.2;
        },
      )

  choose_told : (id : ℕ) (op : Op) → Contains ms (Invoked id op) → ((x : Passage) × (key x ≡ id) × IsTold x) ⊎ (¬ ((v : ℤ) × HasDequeued ms id v))
  choose_told id op i = ⊎_elim
      (λ d. ⊎_elim
      (λ e. inr (λ h. enqueue_no_dequeue ms well id e.0 h.0 e.1 h.1))
      (λ h. inl (make_told id h.0 h.1))
      (paired.known id d))
      (λ n. inr (λ h. n (Number h.0, h.1.answer)))
      (returned_or_not ms id)

  abbrev AreTold : List Passage → Type 0
  AreTold = Collected ms well key IsTold (λ id. (v : ℤ) × HasDequeued ms id v) ms

  module _ (told : List Passage) (all_told : AreTold told) where
    told_is : (x : Passage) → Contains told x → IsTold x
    told_is x h = (all_told.each x h).0

    told_or_not : (v : ℤ) → ((x : Passage) × Contains told x × (x.value ≡ v)) ⊎ IsUntold ms v
    told_or_not v = ⊎_elim
        inl
        (λ none. inr (λ id h.
        let x = all_told.all id (h.op, h.invoked) (v, h) in
        let is : IsTold x.0 = told_is x.0 x.1 in
        let same : is.t.id ≡ id = ap key_of (sym is.take) ∙ x.2 in
        let other : HasDequeued ms id x.0.value = subst (λ n. HasDequeued ms n x.0.value) same is.told in
        none x.0 x.1 (let e : Number x.0.value ≡ Number v = one_answer ms well id (Number x.0.value) (Number v) other.answer h.answer in cc)))
        (some_of (λ (x : Passage). x.value ≡ v) (λ (x : Passage). is_or_not x.value v) told)
      where
        is_or_not : (w v : ℤ) → (w ≡ v) ⊎ (w ≢ v)
        is_or_not w v = ⊎_elim
            (λ e. inl ((Decides-int_eq w v).0 e))
            (λ e. inr (λ h. true≢false (sym ((Decides-int_eq w v).1 h) ∙ e)))
            (cases_Bool (int_eq w v))

    told_not_late : (x : Passage) → IsTold x → ¬ IsLate ms x.add.id
    told_not_late x is l = is.in_time (l is.t.id (Number x.value, is.told.answer))

    -- who precedes the enqueue of a value that was dequeued precedes each of that value
    before_told : (a c : ℕ) (x : Passage) → IsTold x → Precedes ms a x.add.id → MayEnqueue ms c x.value → Precedes ms a c
    before_told a c x is p k = before_each ms well late a x.add.id c x.value is.may (told_not_late x is) p k

    -- a value that is in and has no answered dequeue: it stays, or is dequeued later
    abbrev Stays : Passage → Type 0
    Stays x = (x.take ≡ None) × ((y : Passage) → Contains told y → in_from ms well y ≤ in_to ms well x)

    record GoesOut (x : Passage) : Type 0 where
      t : Taken
      take : x.take ≡ Some t
      by : t.id ≡ taker x.value
      y : Passage
      y_told : Contains told y
      passed : in_to ms well x < in_from ms well y

    record IsHeld (x : Passage) : Type 0 where
      passage : IsPassage ms well x
      may : MayEnqueue ms x.add.id x.value
      returned : HasReturned ms x.add.id
      untold : IsUntold ms x.value
      fate : Stays x ⊎ GoesOut x

    -- such a value is owed to who dequeued the other
    owed_by : (v : ℤ) (id : ℕ) → IsEnqueueOf ms id v → IsUntold ms v → (y : Passage) → Contains told y → ended ms id < in_from ms well y → (d : ℕ) × IsOwedTo ms v d
    owed_by v id e untold y h lt =
        let is : IsTold y = told_is y h in
        let p : Precedes ms id y.add.id = precedes_if ms well id y.add.id (y.add.op, is.passage.invoked) lt in (
          is.t.id,
          record {
            untold = untold;
            v = y.value;
            before = (id, e, λ b k. before_told id b y is p k);
            dequeued = is.told;
          },
        )

    choose_held : (id : ℕ) (op : Op) → Contains ms (Invoked id op) → ((x : Passage) × (x.add.id ≡ id) × IsHeld x) ⊎ (¬ (HasReturned ms id × ((v : ℤ) × IsEnqueueOf ms id v × IsUntold ms v)))
    choose_held id op i = ⊎_elim
        (λ d. ⊎_elim
        (λ e. ⊎_elim
        (λ told. inr (λ need.
        let v : ℤ = need.1.0 in
        let is : IsTold told.0 = told_is told.0 told.1 in
        let same : told.0.value ≡ v = told.2 ∙ enqueue_value ms well id e.0 v (op, i, e.1) need.1.1 in
        need.1.2 is.t.id (subst (HasDequeued ms is.t.id) same is.told)))
        (λ untold. inl (make_held id d e.0 (op, i, e.1) untold))
        (told_or_not e.0))
        (λ none. inr (λ need. none need.1.0 (enqueue_is id op i need.1.0 need.1.1)))
        (enqueues_any op.name op.part))
        (λ n. inr (λ need. n need.0))
        (returned_or_not ms id)
      where
        enqueue_is : (id : ℕ) (op : Op) → Contains ms (Invoked id op) → (v : ℤ) → IsEnqueueOf ms id v → Enqueues op v
        enqueue_is id op i v e =
            let same : e.0 ≡ op = one_op ms well id e.0 op e.1 i in
            (ap (λ (o : Op). o.name) (sym same) ∙ e.2.0, ap (λ (o : Op). o.part) (sym same) ∙ e.2.1)

        no_take : (x : Taken) → None ≡ Some x → ⊥
        no_take x e = cc

        make_held : (id : ℕ) → HasReturned ms id → (v : ℤ) → IsEnqueueOf ms id v → IsUntold ms v → (x : Passage) × (x.add.id ≡ id) × IsHeld x
        make_held id d v e untold = ⊎_elim
            (λ k.
            let o : (d : ℕ) × IsOwedTo ms v d = owed_by v id e untold k.0 k.1 k.2 in
            let m : MayDequeue ms (taker v) = takers.may v o.0 o.1 in
            let t : Taken = record { id = taker v; op = m.op; found = Item v } in
            let x : Passage = record { value = v; add = record { id = id; op = e.0; found = Done }; take = Some t } in (
              x,
              refl,
              record {
                passage = record {
                  invoked = e.1;
                  enqueues = e.2;
                  done = refl;
                  taken = λ u q. (let s : t ≡ u = only_take t u (Some t) refl q in subst (λ (w : Taken). Contains ms (Invoked w.id w.op) × Dequeues w.op × (w.found ≡ Item v)) s (m.invoked, m.dequeues, refl));
                };
                may = (e, returned_not_failed ms well id d.0 d.1);
                returned = d;
                untold = untold;
                fate = inr (record { t = t; take = refl; by = refl; y = k.0; y_told = k.1; passed = k.2 });
              },
            ))
            (λ none.
            let x : Passage = record { value = v; add = record { id = id; op = e.0; found = Done }; take = None } in (
              x,
              refl,
              record {
                passage = record { invoked = e.1; enqueues = e.2; done = refl; taken = λ u q. absurd (no_take u q) };
                may = (e, returned_not_failed ms well id d.0 d.1);
                returned = d;
                untold = untold;
                fate = inl (refl, λ y h. ⊎_elim (λ lt. absurd (none y h lt)) (λ nlt. omega arith) (cases_lt (ended ms id) (in_from ms well y)));
              },
            ))
            (some_of (λ (y : Passage). ended ms id < in_from ms well y) (λ (y : Passage). lt_or_not (ended ms id) (in_from ms well y)) told)
          where
            lt_or_not : (a b : ℕ) → (a < b) ⊎ (¬ (a < b))
            lt_or_not a b = ⊎_elim inl (λ le. inr (λ lt. omega arith)) (cases_lt a b)

    abbrev AreHeld : List Passage → Type 0
    AreHeld = Collected ms well (λ (x : Passage). x.add.id) IsHeld (λ id. HasReturned ms id × ((v : ℤ) × IsEnqueueOf ms id v × IsUntold ms v)) ms

    module _ (held : List Passage) (all_held : AreHeld held) where
      held_is : (x : Passage) → Contains held x → IsHeld x
      held_is x h = (all_held.each x h).0

      abbrev all : List Passage
      all = told ++ held

      abbrev Kind : Passage → Type 0
      Kind x = (Contains told x × IsTold x) ⊎ IsHeld x

      kind_of : (x : Passage) → Contains all x → Kind x
      kind_of x h = ⊎_elim (λ k. inl (k, told_is x k)) (λ k. inr (held_is x k)) (Contains-append_cases told held x h)

      passage_of : (x : Passage) → Kind x → IsPassage ms well x
      passage_of x k = ⊎_elim (λ t. t.1.passage) (λ h. h.passage) k

      -- numbers of a value that is dequeued
      from_some : (x : Passage) (t : Taken) → x.take ≡ Some t → out_from ms well x ≡ moment ms t.id
      from_some x t e = ap (moment_of ms) e

      to_some : (x : Passage) (t : Taken) → x.take ≡ Some t → out_to ms well x ≡ ended ms t.id
      to_some x t e = ap (ended_of ms) e

      stays_from : (x : Passage) → x.take ≡ None → out_from ms well x ≡ suc (length ms)
      stays_from x e = ap (moment_of ms) e

      stays_to : (x : Passage) → x.take ≡ None → out_to ms well x ≡ suc (length ms)
      stays_to x e = ap (ended_of ms) e

      owed_out : (x : Passage) → IsHeld x → (g : GoesOut x) → (d : ℕ) × IsOwedTo ms x.value d
      owed_out x h g = owed_by x.value x.add.id h.may.0 h.untold g.y g.y_told g.passed

      taker_of : (x : Passage) → IsHeld x → (g : GoesOut x) → MayDequeue ms g.t.id
      taker_of x h g = let o = owed_out x h g in subst (MayDequeue ms) (sym g.by) (takers.may x.value o.0 o.1)

      own_add : (x : Passage) → IsPassage ms well x → in_from ms well x ≤ in_to ms well x
      own_add x p = begins_within ms well x.add.id x.add.id (x.add.op, p.invoked) (not_before_itself ms well x.add.id)

      own_told : (x : Passage) → IsTold x → Leads ms well x x
      own_told x is =
          let f : out_from ms well x ≡ moment ms is.t.id = from_some x is.t is.take in
          let g : out_to ms well x ≡ ended ms is.t.id = to_some x is.t is.take in
          let a : moment ms x.add.id ≤ ended ms is.t.id = begins_within ms well is.t.id x.add.id (x.add.op, is.passage.invoked) is.in_time in
          let b : moment ms is.t.id ≤ ended ms is.t.id = begins_within ms well is.t.id is.t.id (is.told.op, is.told.invoked) (not_before_itself ms well is.t.id) in
          record { in_first = own_add x is.passage; in_first_out = omega (arith, f, g); out_first = omega (arith, f, g) }

      own_held : (x : Passage) → IsHeld x → Leads ms well x x
      own_held x is = ⊎_elim
          (λ s.
          let f : out_from ms well x ≡ suc (length ms) = stays_from x s.0 in
          let g : out_to ms well x ≡ suc (length ms) = stays_to x s.0 in
          let a : moment ms x.add.id ≤ length ms = moment_within ms x.add.id in
          record { in_first = own_add x is.passage; in_first_out = omega (arith, f, g); out_first = omega (arith, f, g) })
          (λ s.
          let f : out_from ms well x ≡ moment ms s.t.id = from_some x s.t s.take in
          let g : out_to ms well x ≡ ended ms s.t.id = to_some x s.t s.take in
          let n : ended ms s.t.id ≡ length ms = ended_never ms s.t.id (taker_of x is s).not_returned in
          let a : moment ms x.add.id ≤ length ms = moment_within ms x.add.id in
          let b : moment ms s.t.id ≤ length ms = moment_within ms s.t.id in
          record { in_first = own_add x is.passage; in_first_out = omega (arith, f, g, n); out_first = omega (arith, f, g, n) })
          is.fate

      own : (x : Passage) → Contains all x → Leads ms well x x
      own x h = ⊎_elim (λ t. own_told x t.1) (λ k. own_held x k) (kind_of x h)

      out_within : (x : Passage) → Kind x → out_from ms well x ≤ suc (length ms)
      out_within x k = ⊎_elim
          (λ t. (let f : out_from ms well x ≡ moment ms t.1.t.id = from_some x t.1.t t.1.take in let a : moment ms t.1.t.id ≤ length ms = moment_within ms t.1.t.id in omega (arith, f)))
          (λ h. ⊎_elim
          (λ s. (let f : out_from ms well x ≡ suc (length ms) = stays_from x s.0 in omega (arith, f)))
          (λ s. (let f : out_from ms well x ≡ moment ms s.t.id = from_some x s.t s.take in let a : moment ms s.t.id ≤ length ms = moment_within ms s.t.id in omega (arith, f)))
          h.fate)
          k

      -- the first of two values that is not dequeued last
      turn_told : (x y : Passage) → Kind x → Contains told y → IsTold y → in_to ms well x < in_from ms well y → out_to ms well y < out_from ms well x → ⊥
      turn_told x y k h is lt gt =
          let p : Precedes ms x.add.id y.add.id = precedes_if ms well x.add.id y.add.id (y.add.op, is.passage.invoked) lt in
          let e : IsEnqueueOf ms x.add.id x.value = (x.add.op, (passage_of x k).invoked, (passage_of x k).enqueues) in
          let before : IsBefore ms x.value y.value = (x.add.id, e, λ b m. before_told x.add.id b y is p m) in
          let g : out_to ms well y ≡ ended ms is.t.id = to_some y is.t is.take in
          ⊎_elim
          (λ t.
          let f : out_from ms well x ≡ moment ms t.1.t.id = from_some x t.1.t t.1.take in
          paired.in_turn x.value y.value t.1.t.id is.t.id before t.1.told is.told (precedes_if ms well is.t.id t.1.t.id (t.1.told.op, t.1.told.invoked) (omega (arith, f, g))))
          (λ m. ⊎_elim
          (λ s. (let a : in_from ms well y ≤ in_to ms well x = s.1 y h in omega arith))
          (λ s.
          let f : out_from ms well x ≡ moment ms s.t.id = from_some x s.t s.take in
          let own_taker = taker_of x m s in
          takers.in_time x.value is.t.id (record { untold = m.untold; v = y.value; before = before; dequeued = is.told })
          (subst (Precedes ms is.t.id) s.by (precedes_if ms well is.t.id s.t.id (own_taker.op, own_taker.invoked) (omega (arith, f, g)))))
          m.fate)
          k

      turn_held : (x y : Passage) → Kind x → IsHeld y → in_to ms well x < in_from ms well y → out_to ms well y < out_from ms well x → ⊥
      turn_held x y k is lt gt =
          let w : out_from ms well x ≤ suc (length ms) = out_within x k in
          ⊎_elim
          (λ s. (let g : out_to ms well y ≡ suc (length ms) = stays_to y s.0 in omega (arith, g)))
          (λ s.
          let g : out_to ms well y ≡ ended ms s.t.id = to_some y s.t s.take in
          let n : ended ms s.t.id ≡ length ms = ended_never ms s.t.id (taker_of y is s).not_returned in
          ⊎_elim
          (λ t. (let f : out_from ms well x ≡ moment ms t.1.t.id = from_some x t.1.t t.1.take in let a : moment ms t.1.t.id ≤ length ms = moment_within ms t.1.t.id in omega (arith, f, g, n)))
          (λ m. ⊎_elim
          (λ r.
          let a : in_from ms well s.y ≤ in_to ms well x = r.1 s.y s.y_told in
          let b : in_from ms well y ≤ in_to ms well y = own_add y is.passage in
          let c : in_to ms well y < in_from ms well s.y = s.passed in
          omega arith)
          (λ r. (let f : out_from ms well x ≡ moment ms r.t.id = from_some x r.t r.take in let a : moment ms r.t.id ≤ length ms = moment_within ms r.t.id in omega (arith, f, g, n)))
          m.fate)
          k)
          is.fate

      fair : AreFair (in_from ms well) (in_to ms well) (out_from ms well) (out_to ms well) all
      fair = record {
        own = own;
        turn = λ x y h k lt gt. ⊎_elim (λ t. turn_told x y (kind_of x h) t.0 t.1 lt gt) (λ m. turn_held x y (kind_of x h) m lt gt) (kind_of y k);
      }

      -- no two values have one operation

      apart_told : (x y : Passage) → IsTold x → IsTold y → key x ≢ key y → AreApart ms well x y
      apart_told x y p q ne = record {
        adds = λ s.
            let same : x.value ≡ y.value = enqueue_value ms well y.add.id x.value y.value (subst (λ n. IsEnqueueOf ms n x.value) s p.may.0) q.may.0 in
            let one : p.t.id ≡ q.t.id = paired.once p.t.id q.t.id y.value (subst (HasDequeued ms p.t.id) same p.told) q.told in
            ne (ap key_of p.take ∙ one ∙ ap key_of (sym q.take));
        takes = λ t u e f s. ne (ap key_of e ∙ s ∙ ap key_of (sym f));
      }

      apart_held : (x y : Passage) → IsHeld x → IsHeld y → x.add.id ≢ y.add.id → AreApart ms well x y
      apart_held x y p q ne = record {
        adds = ne;
        takes = λ t u e f s. out t u e f s p.fate q.fate;
      }
        where
          same_value : x.value ≡ y.value → ⊥
          same_value s = ⊎_elim
              (λ l. done_not_late ms well x.add.id p.returned l)
              (λ l. done_not_late ms well y.add.id q.returned l)
              (late x.add.id y.add.id y.value (record { two = ne; first = subst (MayEnqueue ms x.add.id) s p.may; second = q.may }))

          no_some : (t : Taken) (take : Option Taken) → take ≡ None → take ≡ Some t → ⊥
          no_some t take e f = let g : None ≡ Some t = sym e ∙ f in cc

          out : (t u : Taken) → x.take ≡ Some t → y.take ≡ Some u → t.id ≡ u.id → Stays x ⊎ GoesOut x → Stays y ⊎ GoesOut y → ⊥
          out t u e f s a b = ⊎_elim
              (λ k. no_some t x.take k.0 e)
              (λ k. ⊎_elim
              (λ j. no_some u y.take j.0 f)
              (λ j.
              let o = owed_out x p k in
              let r = owed_out y q j in
              let g : k.t.id ≡ t.id = ap key_of (sym k.take ∙ e) in
              let h : j.t.id ≡ u.id = ap key_of (sym j.take ∙ f) in
              same_value (takers.apart x.value y.value o.0 r.0 o.1 r.1 (sym k.by ∙ g ∙ s ∙ sym h ∙ j.by)))
              b)
              a

      apart_both : (x y : Passage) → IsTold x → IsHeld y → AreApart ms well x y
      apart_both x y p q = record {
        adds = λ s.
            let same : x.value ≡ y.value = enqueue_value ms well y.add.id x.value y.value (subst (λ n. IsEnqueueOf ms n x.value) s p.may.0) q.may.0 in
            q.untold p.t.id (subst (HasDequeued ms p.t.id) same p.told);
        takes = λ t u e f s. ⊎_elim
            (λ k. (let g : None ≡ Some u = sym k.0 ∙ f in cc))
            (λ k.
            let g : p.t.id ≡ t.id = ap key_of (sym p.take ∙ e) in
            let h : k.t.id ≡ u.id = ap key_of (sym k.take ∙ f) in
            (taker_of y q k).not_returned (subst (HasReturned ms) (g ∙ s ∙ sym h) (Number x.value, p.told.answer)))
            q.fate;
      }

      apart : Pairwise (AreApart ms well) all
      apart = Pairwise-append (AreApart ms well) told held
          (Pairwise-weaker (λ (x y : Passage). key x ≢ key y) (AreApart ms well) told (λ x y h k ne. apart_told x y (told_is x h) (told_is y k) ne) all_told.once)
          (Pairwise-weaker (λ (x y : Passage). x.add.id ≢ y.add.id) (AreApart ms well) held (λ x y h k ne. apart_held x y (held_is x h) (held_is y k) ne) all_held.once)
          (λ x y h k. apart_both x y (told_is x h) (held_is y k))

      module _ (es : List Passage) (turns : AreInTurn (in_from ms well) (in_to ms well) (out_from ms well) (out_to ms well) (AreApart ms well) all es) where
        ready : AreReady ms well [] es
        ready = record {
          leads = turns.lead;
          own = λ x h. own x (turns.from x h);
          each = λ x h. passage_of x (kind_of x (turns.from x h));
          apart = turns.apart;
        }

        module _ (order : List Taken) (end : List ℤ) (m : IsMerged ms well [] es order end) where
          kind_at : (x : Passage) → Contains es x → Kind x
          kind_at x h = kind_of x (turns.from x h)

          invoked_in : (z : Taken) → Contains order z → Contains ms (Invoked z.id z.op)
          invoked_in z h = ⊎_elim
              (λ k. subst (λ (w : Taken). Contains ms (Invoked w.id w.op)) k.2 (passage_of k.0 (kind_at k.0 k.1)).invoked)
              (λ k. ((passage_of k.0 (kind_at k.0 k.1)).taken z k.2).0)
              (m.from z h)

          may_of : (x : Passage) → Kind x → MayEnqueue ms x.add.id x.value
          may_of x k = ⊎_elim (λ t. t.1.may) (λ h. h.may) k

          none_failed : (z : Taken) → Contains order z → ¬ Contains ms (Failed z.id)
          none_failed z h f = ⊎_elim
              (λ k. (may_of k.0 (kind_at k.0 k.1)).1 (subst (λ (w : Taken). Contains ms (Failed w.id)) (sym k.2) f))
              (λ k. ⊎_elim
              (λ t. (let g : t.1.t.id ≡ z.id = ap key_of (sym t.1.take ∙ k.2) in returned_not_failed ms well t.1.t.id (Number k.0.value) t.1.told.answer (subst (λ n. Contains ms (Failed n)) (sym g) f)))
              (λ w. ⊎_elim
              (λ s. (let g : None ≡ Some z = sym s.0 ∙ k.2 in cc))
              (λ s. (let g : s.t.id ≡ z.id = ap key_of (sym s.take ∙ k.2) in (taker_of k.0 w s).not_failed (subst (λ n. Contains ms (Failed n)) (sym g) f)))
              w.fate)
              (kind_at k.0 k.1))
              (m.from z h)

          its_fit : (z : Taken) (answer : Answer) → Contains order z → Contains ms (Returned z.id answer) → Fits z.found answer
          its_fit z answer h d = ⊎_elim
              (λ k. subst (λ (w : Taken). Fits w.found answer) k.2 (subst (λ f. Fits f answer) (sym (passage_of k.0 (kind_at k.0 k.1)).done) tt))
              (λ k.
              let found : z.found ≡ Item k.0.value = ((passage_of k.0 (kind_at k.0 k.1)).taken z k.2).2 in
              ⊎_elim
              (λ t.
              let g : t.1.t.id ≡ z.id = ap key_of (sym t.1.take ∙ k.2) in
              let a : Number k.0.value ≡ answer = one_answer ms well z.id (Number k.0.value) answer (subst (λ n. Contains ms (Returned n (Number k.0.value))) g t.1.told.answer) d in
              subst (λ f. Fits f answer) (sym found) (subst (λ b. Fits (Item k.0.value) b) a refl))
              (λ w. ⊎_elim
              (λ s. (let g : None ≡ Some z = sym s.0 ∙ k.2 in cc))
              (λ s. (let g : s.t.id ≡ z.id = ap key_of (sym s.take ∙ k.2) in absurd ((taker_of k.0 w s).not_returned (subst (HasReturned ms) (sym g) (answer, d)))))
              w.fate)
              (kind_at k.0 k.1))
              (m.from z h)

          in_es : (x : Passage) → Contains all x → Contains es x
          in_es x h = turns.to x h

          add_in : (x : Passage) → Contains all x → Includes order x.add.id
          add_in x h = (x.add, m.adds x (in_es x h), refl)

          told_in : (x : Passage) → Contains told x → Contains all x
          told_in x h = Contains-append_left told held x h

          held_in : (x : Passage) → Contains held x → Contains all x
          held_in x h = Contains-append_right told held x h

          all_done : (id : ℕ) → HasReturned ms id → Includes order id
          all_done id d = ⊎_elim
              (λ e. ⊎_elim
              (λ t.
              let is : IsTold t.0 = told_is t.0 t.1 in
              let same : t.0.add.id ≡ id = ⊎_elim
              (λ q. q)
              (λ l. absurd (done_not_late ms well id d l))
              (one_enqueue ms well late t.0.add.id id t.0.value is.may (subst (IsEnqueueOf ms id) (sym t.2) e.1, returned_not_failed ms well id d.0 d.1) (told_not_late t.0 is)) in
              subst (Includes order) same (add_in t.0 (told_in t.0 t.1)))
              (λ untold. (let x = all_held.all id (e.1.0, e.1.1) (d, (e.0, e.1, untold)) in subst (Includes order) x.2 (add_in x.0 (held_in x.0 x.1))))
              (told_or_not e.0))
              (λ h.
              let x = all_told.all id (h.1.op, h.1.invoked) h in
              let is : IsTold x.0 = told_is x.0 x.1 in
              (is.t, m.takes x.0 is.t (in_es x.0 (told_in x.0 x.1)) is.take, ap key_of (sym is.take) ∙ x.2))
              (paired.known id d)

          legal : IsLinearizable fifo_queue ms
          legal = (
            order,
            end,
            record {
              invoked = invoked_in;
              once = m.once;
              none_failed = none_failed;
              all_done = all_done;
              in_time = m.in_time;
              run = m.run;
              fits = its_fit;
            },
          )

  pub linearizable_if_paired : IsLinearizable fifo_queue ms
  linearizable_if_paired =
      let t = collected ms well key IsTold (λ id. (v : ℤ) × HasDequeued ms id v) choose_told in
      let h = collected ms well (λ (x : Passage). x.add.id) (IsHeld t.0 t.1) (λ id. HasReturned ms id × ((v : ℤ) × IsEnqueueOf ms id v × IsUntold ms v)) (choose_held t.0 t.1) in
      from_both t.0 t.1 h.0 h.1
    where
      from_both : (told : List Passage) (all_told : AreTold told) (held : List Passage) (all_held : AreHeld told all_told held) → IsLinearizable fifo_queue ms
      from_both told all_told held all_held =
          let r = in_turn (in_from ms well) (in_to ms well) (out_from ms well) (out_to ms well) (AreApart ms well) (turned ms well) (length (told ++ held)) (told ++ held) (omega arith) (fair told all_told held all_held) (apart told all_told held all_held) in
          let m = merge ms well (0 + (length r.0 + length r.0)) [] r.0 (omega arith) (ready told all_told held all_held r.0 r.1) in
          legal told all_told held all_held r.0 r.1 m.0 m.1 m.2
