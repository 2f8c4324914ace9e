-- the operations that may be left out of the history of a queue without an order
use Rattle.std.proofs.Common.{◌≡◌, ◌≢◌, ℕ, suc, ◌≤◌, ℤ, inl, inr, ⊎_elim, Bool, true, false, not, ◌||◌, nat_eq, List, [], ◌∷◌, ◌++◌, length, refl, sym, ap, ◌∙◌, subst, arith}
use Rattle.std.specs.List.{filter, Contains}
use Rattle.std.proofs.lemmas.Bool.{cases_Bool, cases_eq, true≢false, eq-eqb, ne_eqb}
use Rattle.std.proofs.lemmas.List.Elements.{Contains-append_left, Contains-append_right}
use Rattle.models.specs.declared.operation.Name.TheVariants.{Enqueue, Dequeue}
use Rattle.models.specs.declared.operation.Part.TheVariants.{Int}
use Rattle.models.specs.declared.operation.Op.{Op}
use Rattle.models.specs.declared.finding.Answer.TheVariants.{Number}
use Rattle.models.specs.Objects.{unordered_queue}
use Rattle.events.specs.Events.{Mark, IsPrefixOf}
use Rattle.events.specs.Events.Mark.{Invoked, Returned}
use Rattle.linspec.specs.MarkRule.{id_of, IsNew, AreWellFormed}
use Rattle.linspec.specs.Operations.{IsInvoked, HasReturned}
use Rattle.linspec.specs.Orders.{IsLinearizable}
use Rattle.linspec.proofs.Lists.{Contains-head, Contains-tail, Contains-cons_cases}
use Rattle.linspec.proofs.Filters.{two_cuts, filter-cut, to_filter, from_filter, Pairwise-filter}
use Rattle.linspec.proofs.Counts.{no_longer_than}
use Rattle.linspec.proofs.Fates.{invoked_or_not, returned_or_not}
use Rattle.shrinking_laws.specs.LeftOut.{without}
use Rattle.shrinking_laws.specs.Queues.{Enqueues, AreEnqueuesIn, AreDequeuesOf}
use Rattle.shrinking_laws.specs.Counts.{AreQueueOperations, NeverRunsOut, AreDequeues, IsLeftOver, AreOfOneRank, is_one_of}
use Rattle.shrinking_laws.proofs.Once.{one_op, one_answer, returned_invoked}
use Rattle.shrinking_laws.proofs.LeftOut.{from_without, to_without, AreWellFormed-without}
use Rattle.shrinking_laws.proofs.BadPrefixes.{well_front}
use Rattle.shrinking_laws.proofs.Multisets.{equal_or_not}
use Rattle.shrinking_laws.proofs.Enough.{never_runs_out, linearizable_by_counts}

-- a front without the mark ends before it; one with the mark does not
pub up_to : (front rest before after : List Mark) (m : Mark) → front ++ rest ≡ before ++ m ∷ after → ¬ Contains front m → IsPrefixOf front before
up_to [] rest before after m e n = (before, refl)
up_to (x ∷ front) rest [] after m e n =
    let head : x ≡ m = cc in
    absurd (n (subst (Contains (x ∷ front)) head (Contains-head x front)))
up_to (x ∷ front) rest (y ∷ before) after m e n =
    let head : x ≡ y = cc in
    let tail : front ++ rest ≡ before ++ m ∷ after = cc in
    let f = up_to front rest before after m tail (λ h. n (Contains-tail x front m h)) in
    (f.0, (λ i. head i ∷ f.1 i))

pub reaches : (front rest before after : List Mark) (m : Mark) → front ++ rest ≡ before ++ m ∷ after → Contains front m → ¬ Contains before m → IsPrefixOf before front
reaches front rest before after m e h n =
    ⊎_elim
    (λ (f : IsPrefixOf front before). absurd (n (subst (λ k. Contains k m) f.1 (Contains-append_left front f.0 m h))))
    (λ (f : IsPrefixOf before front). f)
    (two_cuts front rest before (m ∷ after) e)

pub in_longer : (front whole : List Mark) (m : Mark) → IsPrefixOf front whole → Contains front m → Contains whole m
in_longer front whole m f h = subst (λ k. Contains k m) f.1 (Contains-append_left front f.0 m h)

module _ (ms : List Mark) (well : AreWellFormed ms) (out : ℕ → Bool) where
  -- in each prefix of the whole the rest has enough
  abbrev LeavesEnough : Type 0
  LeavesEnough =
      (front : List Mark) (v : ℤ) → IsPrefixOf front ms → (dequeues : List ℕ) → AreDequeuesOf front v dequeues → ((id : ℕ) → Contains dequeues id → out id ≡ false)
      → (enqueues : List ℕ) × AreEnqueuesIn front ms v enqueues × ((id : ℕ) → Contains enqueues id → out id ≡ false) × (length dequeues ≤ length enqueues)

  pub left_dequeues : (front : List Mark) (v : ℤ) (ids : List ℕ) → AreDequeuesOf (without out front) v ids → AreDequeuesOf front v ids × ((id : ℕ) → Contains ids id → out id ≡ false)
  left_dequeues front v ids those = (
    record {
      once = those.once;
      each = λ id h. (let d = those.each id h in ((d.0.0, (from_without out front _ d.0.1).0, d.0.2), (from_without out front _ d.1).0));
    },
    (λ id h. (from_without out front _ (those.each id h).1).1),
  )

  pub left_enqueues : (front : List Mark) (v : ℤ) (ids : List ℕ) → AreEnqueuesIn front ms v ids → ((id : ℕ) → Contains ids id → out id ≡ false) → AreEnqueuesIn (without out front) (without out ms) v ids
  left_enqueues front v ids those stay = record {
    once = those.once;
    each = λ id h. (let e = those.each id h in ((e.0.0, to_without out front _ e.0.1 (stay id h), e.0.2), (λ f. e.1 (from_without out ms _ f).0)));
  }

  rest_never_runs_out : LeavesEnough → NeverRunsOut (without out ms)
  rest_never_runs_out enough front v is dequeues those =
      let c = filter-cut (λ m. not (out (id_of m))) ms front is.0 is.1 in
      let l = left_dequeues c.0 v dequeues (subst (λ k. AreDequeuesOf k v dequeues) c.3 those) in
      let r = enough c.0 v (c.1, sym c.2) dequeues l.0 l.1 in
      (r.0, subst (λ k. AreEnqueuesIn k (without out ms) v r.0) (sym c.3) (left_enqueues c.0 v r.0 r.1 r.2), r.3)

  rest_operations : AreQueueOperations ms → AreQueueOperations (without out ms)
  rest_operations are id op h d =
      let i = from_without out ms _ h in
      ⊎_elim
      (λ put. inl put)
      (λ take. inr (take.0, take.1, take.2, to_without out ms (Returned id (Number take.0)) take.3 i.1))
      (are id op i.0 (d.0, (from_without out ms _ d.1).0))

  rest_linearizable : AreQueueOperations ms → LeavesEnough → IsLinearizable unordered_queue (without out ms)
  rest_linearizable are enough = linearizable_by_counts (without out ms) (AreWellFormed-without out ms well) (rest_operations are) (rest_never_runs_out enough)

  is_in_ms : (front : List Mark) (m : Mark) → IsPrefixOf front ms → Contains front m → Contains ms m
  is_in_ms front m is h = in_longer front ms m is h

  pub no_dequeue : (id : ℕ) (a b : Op) → Contains ms (Invoked id a) → Contains ms (Invoked id b) → a.name ≡ Enqueue → b.name ≢ Dequeue
  no_dequeue id a b h k e f = (let same : a ≡ b = one_op ms well id a b h k in let clash : Enqueue ≡ Dequeue = sym e ∙ ap (λ (p : Op). p.name) same ∙ f in absurd (let none : ⊥ = cc in none))

  -- dequeues may be left out
  pub without_dequeues : AreQueueOperations ms → AreDequeues out ms → IsLinearizable unordered_queue ms → IsLinearizable unordered_queue (without out ms)
  without_dequeues are dequeues h = rest_linearizable are (λ front v is ids those stay.
      let r = never_runs_out ms well h front v is ids those in (
        r.0,
        r.1,
        (λ id k. ⊎_elim
            (λ e. (let q = r.1.each id k in absurd (no_dequeue id q.0.0 q.0.0 (is_in_ms front _ is q.0.1) (is_in_ms front _ is q.0.1) q.0.2.0 (dequeues id q.0.0 e (is_in_ms front _ is q.0.1)))))
            (λ e. e)
            (cases_Bool (out id))),
        r.2,
      ))

-- which numbers are named
pub is_neither : (a b id : ℕ) → id ≢ a → id ≢ b → is_one_of a b id ≡ false
is_neither a b id ne me = ap (λ r. r || nat_eq id b) (ne_eqb id a ne) ∙ ne_eqb id b me

pub is_not_first : (a b id : ℕ) → is_one_of a b id ≡ false → id ≢ a
is_not_first a b id e q = true≢false (sym (ap (λ r. r || nat_eq id b) (eq-eqb id a q)) ∙ e)

pub is_not_second : (a b id : ℕ) → is_one_of a b id ≡ false → id ≢ b
is_not_second a b id e q = ⊎_elim
    (λ y. true≢false (sym (ap (λ r. r || nat_eq id b) y) ∙ e))
    (λ n. true≢false (sym (eq-eqb id b q) ∙ sym (ap (λ r. r || nat_eq id b) n) ∙ e))
    (cases_Bool (nat_eq id a))

pub another_value : (op other : Op) (v w : ℤ) → op ≡ other → Enqueues op v → Enqueues other w → v ≡ w
another_value op other v w e p q = let same : Int v ≡ Int w = sym p.1 ∙ ap (λ (z : Op). z.part) e ∙ q.1 in cc

-- an enqueue, and a dequeue of its rank
module _ (ms : List Mark) (well : AreWellFormed ms) (v : ℤ) (e d : ℕ) (rank : AreOfOneRank ms v e d) where
  e_new : IsNew rank.before_enqueue e
  e_new = well rank.before_enqueue rank.after_enqueue (Invoked e rank.op) rank.invoked

  e_there : Contains ms (Invoked e rank.op)
  e_there = subst (λ k. Contains k (Invoked e rank.op)) rank.invoked (Contains-append_right rank.before_enqueue (Invoked e rank.op ∷ rank.after_enqueue) (Invoked e rank.op) (Contains-head (Invoked e rank.op) rank.after_enqueue))

  d_there : Contains ms (Returned d (Number v))
  d_there = subst (λ k. Contains k (Returned d (Number v))) rank.returned (Contains-append_right rank.before_dequeue (Returned d (Number v) ∷ rank.after_dequeue) (Returned d (Number v)) (Contains-head (Returned d (Number v)) rank.after_dequeue))

  -- no enqueue is the dequeue
  no_taker : (front : List Mark) (w : ℤ) (ids : List ℕ) → IsPrefixOf front ms → AreEnqueuesIn front ms w ids → (id : ℕ) → Contains ids id → id ≢ d
  no_taker front w ids is those id h q =
      let p = those.each id h in
      no_dequeue ms well (λ n. true) id p.0.0 rank.taker (in_longer front ms _ is p.0.1) (subst (λ n. Contains ms (Invoked n rank.taker)) (sym q) rank.invokes) p.0.2.0 rank.dequeues

  module _ (front : List Mark) (is : IsPrefixOf front ms) (dequeues : List ℕ) (those : AreDequeuesOf front v dequeues) (stay : (id : ℕ) → Contains dequeues id → is_one_of e d id ≡ false) (never : NeverRunsOut ms) where
    abbrev Enough : Type 0
    Enough = (enqueues : List ℕ) × AreEnqueuesIn front ms v enqueues × ((id : ℕ) → Contains enqueues id → is_one_of e d id ≡ false) × (length dequeues ≤ length enqueues)

    -- the enqueue is not there yet
    not_yet : ¬ IsInvoked front e → Enough
    not_yet n =
        let r = never front v is dequeues those in (
          r.0,
          r.1,
          (λ id h. is_neither e d id (λ q. (let p = r.1.each id h in n (p.0.0, subst (λ j. Contains front (Invoked j p.0.0)) q p.0.1))) (no_taker front v r.0 is r.1 id h)),
          r.2,
        )

    -- both are there
    both : HasReturned front d → Enough
    both done =
        let well_there : AreWellFormed front = well_front front is.0 (subst AreWellFormed (sym is.1) well) in
        let i = returned_invoked front well_there d done.0 done.1 in
        let same : i.0 ≡ rank.taker = one_op ms well d i.0 rank.taker (in_longer front ms _ is i.1) rank.invokes in
        let answer : done.0 ≡ Number v = one_answer ms well d done.0 (Number v) (in_longer front ms _ is done.1) d_there in
        let more : AreDequeuesOf front v (d ∷ dequeues) = record {
          once = ((λ id h q. is_not_second e d id (stay id h) (sym q)), those.once);
          each = λ id h. ⊎_elim
              (λ q. subst (λ n. ((op : Op) × Contains front (Invoked n op) × (op.name ≡ Dequeue)) × Contains front (Returned n (Number v))) q
              ((i.0, i.1, ap (λ (p : Op). p.name) same ∙ rank.dequeues), subst (λ a. Contains front (Returned d a)) answer done.1))
              (those.each id)
              (Contains-cons_cases d dequeues id h);
        } in
        let r = never front v is (d ∷ dequeues) more in
        let rest : List ℕ = filter (λ id. not (nat_eq id e)) r.0 in
        let bound : suc (length dequeues) ≤ length r.0 = r.2 in
        let fewer : length r.0 ≤ suc (length rest) = no_longer_than r.0 (e ∷ rest) r.1.once (λ id h. ⊎_elim
        (λ (q : id ≡ e). subst (Contains (e ∷ rest)) (sym q) (Contains-head e rest))
        (λ ne. Contains-tail e rest id (to_filter (λ id. not (nat_eq id e)) r.0 id h (ap not (ne_eqb id e ne))))
        (cases_eq id e)) in (
          rest,
          record { once = Pairwise-filter (λ id. not (nat_eq id e)) (λ a b. a ≢ b) r.0 r.1.once; each = λ id h. r.1.each id (from_filter (λ id. not (nat_eq id e)) r.0 id h).0 },
          (λ id h. (let q = from_filter (λ id. not (nat_eq id e)) r.0 id h in
              is_neither e d id (λ same. true≢false (sym q.1 ∙ ap not (eq-eqb id e same))) (no_taker front v r.0 is r.1 id q.0))),
          omega (arith, bound, fewer),
        )

    -- the enqueue alone is there: each dequeue that has answered has done so before the dequeue
    one_alone : IsInvoked front e → ¬ HasReturned front d → Enough
    one_alone here pending =
        let op_is : here.0 ≡ rank.op = one_op ms well e here.0 rank.op (in_longer front ms _ is here.1) e_there in
        let before : IsPrefixOf front rank.before_dequeue = up_to front is.0 rank.before_dequeue rank.after_dequeue (Returned d (Number v)) (is.1 ∙ sym rank.returned) (λ h. pending (Number v, h)) in
        let behind : IsPrefixOf rank.before_enqueue front = reaches front is.0 rank.before_enqueue rank.after_enqueue (Invoked e rank.op) (is.1 ∙ sym rank.invoked)
        (subst (λ p. Contains front (Invoked e p)) op_is here.1) (λ h. e_new (Invoked e rank.op) h refl) in
        let earlier : AreDequeuesOf rank.before_dequeue v dequeues = record {
          once = those.once;
          each = λ id h. (let q = those.each id h in ((q.0.0, in_longer front rank.before_dequeue _ before q.0.1, q.0.2), in_longer front rank.before_dequeue _ before q.1));
        } in
        let r = rank.enough dequeues earlier in
        let there : AreEnqueuesIn front ms v r.0 = record {
          once = r.1.once;
          each = λ id h. (let q = r.1.each id h in ((q.0.0, in_longer rank.before_enqueue front _ behind q.0.1, q.0.2), q.1));
        } in (
          r.0,
          there,
          (λ id h. is_neither e d id (λ same. (let q = r.1.each id h in e_new (Invoked id q.0.0) q.0.1 same)) (no_taker front v r.0 is there id h)),
          r.2,
        )

    its_value : Enough
    its_value = ⊎_elim
        (λ here. ⊎_elim both (one_alone here) (returned_or_not front d))
        not_yet
        (invoked_or_not front e)

  pair_leaves_enough : NeverRunsOut ms → LeavesEnough ms well (is_one_of e d)
  pair_leaves_enough never front w is dequeues those stay = ⊎_elim
      (λ (q : v ≡ w). subst (λ z. (enqueues : List ℕ) × AreEnqueuesIn front ms z enqueues × ((id : ℕ) → Contains enqueues id → is_one_of e d id ≡ false) × (length dequeues ≤ length enqueues)) q
      (its_value front is dequeues (subst (λ z. AreDequeuesOf front z dequeues) (sym q) those) stay never))
      (λ other.
      let r = never front w is dequeues those in (
        r.0,
        r.1,
        (λ id h. is_neither e d id
            (λ q. (let p = r.1.each id h in
            other (sym (another_value p.0.0 rank.op w v (one_op ms well e p.0.0 rank.op (in_longer front ms _ is (subst (λ n. Contains front (Invoked n p.0.0)) q p.0.1)) e_there) p.0.2 rank.enqueues))))
            (no_taker front w r.0 is r.1 id h)),
        r.2,
      ))
      (equal_or_not v w)

  pub without_pair : AreQueueOperations ms → IsLinearizable unordered_queue ms → IsLinearizable unordered_queue (without (is_one_of e d) ms)
  without_pair are h = rest_linearizable ms well (is_one_of e d) are (pair_leaves_enough (never_runs_out ms well h))

-- an enqueue whose rank no dequeue has
module _ (ms : List Mark) (well : AreWellFormed ms) (v : ℤ) (e : ℕ) (left : IsLeftOver ms v e) where
  alone_new : IsNew left.before e
  alone_new = well left.before left.after (Invoked e left.op) left.invoked

  alone_there : Contains ms (Invoked e left.op)
  alone_there = subst (λ k. Contains k (Invoked e left.op)) left.invoked (Contains-append_right left.before (Invoked e left.op ∷ left.after) (Invoked e left.op) (Contains-head (Invoked e left.op) left.after))

  abbrev only : ℕ → Bool
  only id = nat_eq id e

  alone_leaves_enough : NeverRunsOut ms → LeavesEnough ms well only
  alone_leaves_enough never front w is dequeues those stay = ⊎_elim
      (λ here. ⊎_elim
      (λ (q : v ≡ w).
      let op_is : here.0 ≡ left.op = one_op ms well e here.0 left.op (in_longer front ms _ is here.1) alone_there in
      let behind : IsPrefixOf left.before front = reaches front is.0 left.before left.after (Invoked e left.op) (is.1 ∙ sym left.invoked)
      (subst (λ p. Contains front (Invoked e p)) op_is here.1) (λ h. alone_new (Invoked e left.op) h refl) in
      let all : AreDequeuesOf ms v dequeues = subst (λ z. AreDequeuesOf ms z dequeues) (sym q) (record {
        once = those.once;
        each = λ id h. (let p = those.each id h in ((p.0.0, in_longer front ms _ is p.0.1, p.0.2), in_longer front ms _ is p.1));
      }) in
      let r = left.enough dequeues all in (
        r.0,
        subst (λ z. AreEnqueuesIn front ms z r.0) q (record { once = r.1.once; each = λ id h. (let p = r.1.each id h in ((p.0.0, in_longer left.before front _ behind p.0.1, p.0.2), p.1)) }),
        (λ id h. ne_eqb id e (λ same. (let p = r.1.each id h in alone_new (Invoked id p.0.0) p.0.1 same))),
        r.2,
      ))
      (λ other.
      let r = never front w is dequeues those in (
        r.0,
        r.1,
        (λ id h. ne_eqb id e (λ q. (let p = r.1.each id h in
            other (sym (another_value p.0.0 left.op w v (one_op ms well e p.0.0 left.op (in_longer front ms _ is (subst (λ n. Contains front (Invoked n p.0.0)) q p.0.1)) alone_there) p.0.2 left.enqueues))))),
        r.2,
      ))
      (equal_or_not v w))
      (λ n.
      let r = never front w is dequeues those in (
        r.0,
        r.1,
        (λ id h. ne_eqb id e (λ q. (let p = r.1.each id h in n (p.0.0, subst (λ j. Contains front (Invoked j p.0.0)) q p.0.1)))),
        r.2,
      ))
      (invoked_or_not front e)

  pub without_left_over : AreQueueOperations ms → IsLinearizable unordered_queue ms → IsLinearizable unordered_queue (without only ms)
  without_left_over are h = rest_linearizable ms well only are (alone_leaves_enough (never_runs_out ms well h))
