-- the conditions of the rules still hold if others are left out
use Rattle.std.proofs.Common.{◌≡◌, ◌≢◌, ℕ, suc, ◌≤◌, ℤ, ⊎_elim, Bool, true, false, not, nat_eq, List, [], ◌∷◌, ◌++◌, length, refl, sym, ap, ◌∙◌, subst, append_assoc, arith}
use Rattle.std.specs.List.{filter, Contains}
use Rattle.std.proofs.lemmas.Bool.{cases_eq, true≢false, eq-eqb, ne_eqb}
use Rattle.std.proofs.lemmas.List.{append-nil}
use Rattle.std.proofs.lemmas.List.Elements.{Contains-append_left, Contains-append_right, Contains-push, Contains-push_cases, filter-append}
use Rattle.models.specs.declared.operation.Name.{Name}
use Rattle.models.specs.declared.operation.Name.TheVariants.{Dequeue}
use Rattle.models.specs.declared.operation.Op.{Op}
use Rattle.models.specs.declared.finding.Answer.TheVariants.{Number}
use Rattle.events.specs.Events.{Mark, IsPrefixOf}
use Rattle.events.specs.Events.Mark.{Invoked, Returned, Failed}
use Rattle.linspec.specs.MarkRule.{id_of, IsNew, AreWellFormed}
use Rattle.linspec.specs.Operations.{IsInvoked, HasReturned, IsOpen, Precedes}
use Rattle.linspec.proofs.Lists.{Contains-head, Contains-tail, Contains-cons_cases}
use Rattle.linspec.proofs.Filters.{filter-cut, filter-yes, from_filter, to_filter, Pairwise-filter}
use Rattle.linspec.proofs.Counts.{no_longer_than}
use Rattle.linspec.proofs.Fates.{invoked_or_not, returned_or_not}
use Rattle.shrinking_laws.specs.LeftOut.{without}
use Rattle.shrinking_laws.specs.Locks.{IsInvokedAfter, IsCalled, MayTakePlace, IsPair, IsLast}
use Rattle.shrinking_laws.specs.Queues.{AreEnqueuesIn, AreDequeuesOf}
use Rattle.shrinking_laws.specs.Counts.{HasEnough, IsLeftOver, AreOfOneRank, is_one_of}
use Rattle.shrinking_laws.proofs.Once.{one_op, one_answer, returned_invoked}
use Rattle.shrinking_laws.proofs.LeftOut.{from_without, to_without, Precedes-to_without}
use Rattle.shrinking_laws.proofs.BadPrefixes.{well_front}
use Rattle.shrinking_laws.proofs.Multisets.{equal_or_not}
use Rattle.shrinking_laws.proofs.Ranks.{up_to, reaches, in_longer, is_neither, is_not_second, another_value, no_dequeue, left_dequeues, left_enqueues}

module _ (ms : List Mark) (out : ℕ → Bool) where
  abbrev rest : List Mark
  rest = without out ms

  called_still : (name : Name) (id : ℕ) → out id ≡ false → IsCalled ms name id → IsCalled rest name id
  called_still name id e c = (c.0, to_without out ms _ c.1 e, c.2)

  took_place : (name : Name) (id : ℕ) → MayTakePlace rest name id → MayTakePlace ms name id × (out id ≡ false)
  took_place name id t =
      let r = from_without out ms _ t.0.1 in
      (((t.0.0, r.0, t.0.2), (λ f. t.1 (to_without out ms (Failed id) f r.1))), r.1)

  invoked_after : (a b : ℕ) → IsInvokedAfter rest a b → IsInvokedAfter ms a b
  invoked_after a b h =
      let c = filter-cut (λ m. not (out (id_of m))) ms h.before h.after h.cut in
      record {
        before = c.0;
        after = c.1;
        cut = sym c.2;
        first = (h.first.0, (from_without out c.0 _ (subst (λ l. Contains l (Invoked a h.first.0)) c.3 h.first.1)).0);
        second = (h.second.0, (from_without out c.1 _ (subst (λ l. Contains l (Invoked b h.second.0)) c.4 h.second.1)).0);
      }

  not_preceded : (a b : ℕ) → out a ≡ false → out b ≡ false → ¬ Precedes rest a b → ¬ Precedes ms a b
  not_preceded a b e f n p = n (Precedes-to_without out ms a b e f p)

  pub pair_stays : (name other : Name) (first second : ℕ) → out first ≡ false → out second ≡ false → IsPair ms name other first second → IsPair rest name other first second
  pair_stays name other first second e f pair = record {
    called = called_still name first e pair.called;
    called_other = called_still other second f pair.called_other;
    precedes = Precedes-to_without out ms first second e f pair.precedes;
    returned = (pair.returned.0, to_without out ms _ pair.returned.1 f);
    none_between = λ x y ne me others own m n k after. (
        let p = took_place other x others in
        let q = took_place name y own in
        pair.none_between x y ne me p.0 q.0
        (not_preceded x first p.1 e m.0, not_preceded second x f p.1 m.1)
        (not_preceded y first q.1 e n.0, not_preceded second y f q.1 n.1)
        (not_preceded y x q.1 p.1 k)
        (invoked_after first y after));
  }

  pub last_stays : (name other : Name) (id : ℕ) → out id ≡ false → IsLast ms name other id → IsLast rest name other id
  last_stays name other id e is = (
    called_still name id e is.0,
    (λ x others. (let p = took_place other x others in Precedes-to_without out ms x id p.1 e (is.1 x p.0))),
  )

  cut_still : (before after : List Mark) (m : Mark) → out (id_of m) ≡ false → before ++ m ∷ after ≡ ms → without out before ++ m ∷ without out after ≡ rest
  cut_still before after m e cut =
      sym (filter-append (λ n. not (out (id_of n))) before (m ∷ after) ∙ ap (λ l. without out before ++ l) (filter-yes (λ n. not (out (id_of n))) m after (ap not e))) ∙ ap (without out) cut

-- a pair of one rank, where another pair of one rank is left out
module _ (ms : List Mark) (well : AreWellFormed ms) (v : ℤ) (e d : ℕ) (rank : AreOfOneRank ms v e d) (w : ℤ) (f g : ℕ) (other : AreOfOneRank ms w f g) (f_not_e : f ≢ e) (f_not_d : f ≢ d) (g_not_e : g ≢ e) (g_not_d : g ≢ d) where
  abbrev gone : ℕ → Bool
  gone = is_one_of e d

  f_stays : gone f ≡ false
  f_stays = is_neither e d f f_not_e f_not_d

  g_stays : gone g ≡ false
  g_stays = is_neither e d g g_not_e g_not_d

  there : (before after : List Mark) (m : Mark) → before ++ m ∷ after ≡ ms → Contains ms m
  there before after m cut = subst (λ k. Contains k m) cut (Contains-append_right before (m ∷ after) m (Contains-head m after))

  e_there : Contains ms (Invoked e rank.op)
  e_there = there rank.before_enqueue rank.after_enqueue (Invoked e rank.op) rank.invoked

  d_there : Contains ms (Returned d (Number v))
  d_there = there rank.before_dequeue rank.after_dequeue (Returned d (Number v)) rank.returned

  e_new : IsNew rank.before_enqueue e
  e_new = well rank.before_enqueue rank.after_enqueue (Invoked e rank.op) rank.invoked

  g_open : IsOpen other.before_dequeue g
  g_open = well other.before_dequeue other.after_dequeue (Returned g (Number w)) other.returned

  front_of : (before after : List Mark) (m : Mark) → before ++ m ∷ after ≡ ms → IsPrefixOf before ms
  front_of before after m cut = (m ∷ after, cut)

  abbrev invoked_front : List Mark
  invoked_front = other.before_enqueue

  abbrev answered_front : List Mark
  answered_front = other.before_dequeue

  invoked_in : IsPrefixOf invoked_front ms
  invoked_in = front_of invoked_front other.after_enqueue (Invoked f other.op) other.invoked

  answered_in : IsPrefixOf answered_front ms
  answered_in = front_of answered_front other.after_dequeue (Returned g (Number w)) other.returned

  -- no enqueue is the dequeue that is left out
  no_taker : (z : ℤ) (ids : List ℕ) → AreEnqueuesIn invoked_front ms z ids → (id : ℕ) → Contains ids id → id ≢ d
  no_taker z ids those id h q =
      let p = those.each id h in
      no_dequeue ms well (λ n. true) id p.0.0 rank.taker (in_longer invoked_front ms _ invoked_in p.0.1) (subst (λ n. Contains ms (Invoked n rank.taker)) (sym q) rank.invokes) p.0.2.0 rank.dequeues

  module _ (dequeues : List ℕ) (those : AreDequeuesOf answered_front w dequeues) (stay : (id : ℕ) → Contains dequeues id → gone id ≡ false) where
    abbrev Enough : Type 0
    Enough = (enqueues : List ℕ) × AreEnqueuesIn invoked_front ms w enqueues × ((id : ℕ) → Contains enqueues id → gone id ≡ false) × (length dequeues ≤ length enqueues)

    another : v ≢ w → Enough
    another ne =
        let r = other.enough dequeues those in (
          r.0,
          r.1,
          (λ id h. is_neither e d id
              (λ q. (let p = r.1.each id h in
              ne (sym (another_value p.0.0 rank.op w v (one_op ms well e p.0.0 rank.op (in_longer invoked_front ms _ invoked_in (subst (λ n. Contains invoked_front (Invoked n p.0.0)) q p.0.1)) e_there) p.0.2 rank.enqueues))))
              (no_taker w r.0 r.1 id h)),
          r.2,
        )

    module _ (same : v ≡ w) where
      -- the dequeue that is left out has answered before
      answered_before : HasReturned answered_front d → Contains answered_front (Returned d (Number w)) → Enough
      answered_before done told =
          let well_there : AreWellFormed answered_front = well_front answered_front answered_in.0 (subst AreWellFormed (sym answered_in.1) well) in
          let i = returned_invoked answered_front well_there d (Number w) told in
          let own : i.0 ≡ rank.taker = one_op ms well d i.0 rank.taker (in_longer answered_front ms _ answered_in i.1) rank.invokes in
          let more : AreDequeuesOf answered_front w (d ∷ dequeues) = record {
            once = ((λ id h q. is_not_second e d id (stay id h) (sym q)), those.once);
            each = λ id h. ⊎_elim
                (λ q. subst (λ n. ((op : Op) × Contains answered_front (Invoked n op) × (op.name ≡ Dequeue)) × Contains answered_front (Returned n (Number w))) q
                ((i.0, i.1, ap (λ (p : Op). p.name) own ∙ rank.dequeues), told))
                (those.each id)
                (Contains-cons_cases d dequeues id h);
          } in
          let r = other.enough (d ∷ dequeues) more in
          let left : List ℕ = filter (λ id. not (nat_eq id e)) r.0 in
          let bound : suc (length dequeues) ≤ length r.0 = r.2 in
          let fewer : length r.0 ≤ suc (length left) = no_longer_than r.0 (e ∷ left) r.1.once (λ id h. ⊎_elim
          (λ (q : id ≡ e). subst (Contains (e ∷ left)) (sym q) (Contains-head e left))
          (λ ne. Contains-tail e left id (to_filter (λ id. not (nat_eq id e)) r.0 id h (ap not (ne_eqb id e ne))))
          (cases_eq id e)) in (
            left,
            record { once = Pairwise-filter (λ id. not (nat_eq id e)) (λ a b. a ≢ b) r.0 r.1.once; each = λ id h. r.1.each id (from_filter (λ id. not (nat_eq id e)) r.0 id h).0 },
            (λ id h. (let q = from_filter (λ id. not (nat_eq id e)) r.0 id h in
                is_neither e d id (λ is. true≢false (sym q.1 ∙ ap not (eq-eqb id e is))) (no_taker w r.0 r.1 id q.0))),
            omega (arith, bound, fewer),
          )

      -- the enqueue that is left out was not invoked before
      not_invoked : ¬ IsInvoked invoked_front e → Enough
      not_invoked n =
          let r = other.enough dequeues those in (
            r.0,
            r.1,
            (λ id h. is_neither e d id (λ q. (let p = r.1.each id h in n (p.0.0, subst (λ j. Contains invoked_front (Invoked j p.0.0)) q p.0.1))) (no_taker w r.0 r.1 id h)),
            r.2,
          )

      -- else it has the lower rank, and so has the dequeue: the dequeue of the lower rank answers first
      invoked_before : IsInvoked invoked_front e → ¬ HasReturned answered_front d → Enough
      invoked_before here unanswered =
          let own : here.0 ≡ rank.op = one_op ms well e here.0 rank.op (in_longer invoked_front ms _ invoked_in here.1) e_there in
          let behind : IsPrefixOf rank.before_enqueue invoked_front = reaches invoked_front invoked_in.0 rank.before_enqueue rank.after_enqueue (Invoked e rank.op) (invoked_in.1 ∙ sym rank.invoked)
          (subst (λ p. Contains invoked_front (Invoked e p)) own here.1) (λ h. e_new (Invoked e rank.op) h refl) in
          let cuts : answered_front ++ Returned g (Number w) ∷ other.after_dequeue ≡ rank.before_dequeue ++ Returned d (Number v) ∷ rank.after_dequeue = other.returned ∙ sym rank.returned in
          let next : (answered_front ++ Returned g (Number w) ∷ []) ++ other.after_dequeue ≡ rank.before_dequeue ++ Returned d (Number v) ∷ rank.after_dequeue =
          append_assoc answered_front (Returned g (Number w) ∷ []) other.after_dequeue ∙ cuts in
          let earlier : IsPrefixOf (answered_front ++ Returned g (Number w) ∷ []) rank.before_dequeue = up_to (answered_front ++ Returned g (Number w) ∷ []) other.after_dequeue rank.before_dequeue rank.after_dequeue (Returned d (Number v)) next
          (λ h. ⊎_elim
          (λ k. unanswered (Number v, k))
          (λ (q : Returned g (Number w) ≡ Returned d (Number v)). g_not_d (let t : g ≡ d = cc in t))
          (Contains-push_cases answered_front (Returned g (Number w)) (Returned d (Number v)) h)) in
          let in_earlier : (m : Mark) → Contains answered_front m → Contains rank.before_dequeue m = (λ m h. in_longer (answered_front ++ Returned g (Number w) ∷ []) rank.before_dequeue m earlier (Contains-append_left answered_front (Returned g (Number w) ∷ []) m h)) in
          let told : Contains rank.before_dequeue (Returned g (Number v)) = subst (λ z. Contains rank.before_dequeue (Returned g (Number z))) (sym same) (in_longer (answered_front ++ Returned g (Number w) ∷ []) rank.before_dequeue _ earlier (Contains-push answered_front (Returned g (Number w)))) in
          let taker : g_open.invoked.0 ≡ other.taker = one_op ms well g g_open.invoked.0 other.taker (in_longer answered_front ms _ answered_in g_open.invoked.1) other.invokes in
          let more : AreDequeuesOf rank.before_dequeue v (g ∷ dequeues) = record {
            once = ((λ id h q. g_open.not_returned (Number w, subst (λ n. Contains answered_front (Returned n (Number w))) (sym q) (those.each id h).1)), those.once);
            each = λ id h. ⊎_elim
                (λ q. subst (λ n. ((op : Op) × Contains rank.before_dequeue (Invoked n op) × (op.name ≡ Dequeue)) × Contains rank.before_dequeue (Returned n (Number v))) q
                ((g_open.invoked.0, in_earlier _ g_open.invoked.1, ap (λ (p : Op). p.name) taker ∙ other.dequeues), told))
                (λ k. (let p = those.each id k in ((p.0.0, in_earlier _ p.0.1, p.0.2), subst (λ z. Contains rank.before_dequeue (Returned id (Number z))) (sym same) (in_earlier _ p.1))))
                (Contains-cons_cases g dequeues id h);
          } in
          let r = rank.enough (g ∷ dequeues) more in
          let bound : suc (length dequeues) ≤ length r.0 = r.2 in
          let there_too : AreEnqueuesIn invoked_front ms w r.0 = subst (λ z. AreEnqueuesIn invoked_front ms z r.0) same (record {
            once = r.1.once;
            each = λ id h. (let q = r.1.each id h in ((q.0.0, in_longer rank.before_enqueue invoked_front _ behind q.0.1, q.0.2), q.1));
          }) in (
            r.0,
            there_too,
            (λ id h. is_neither e d id (λ q. (let p = r.1.each id h in e_new (Invoked id p.0.0) p.0.1 q)) (no_taker w r.0 there_too id h)),
            omega (arith, bound),
          )

      its_value : Enough
      its_value = ⊎_elim
          (λ done. (let i = in_longer answered_front ms _ answered_in done.1 in
          answered_before done (subst (λ a. Contains answered_front (Returned d a)) (one_answer ms well d done.0 (Number v) i d_there ∙ ap Number same) done.1)))
          (λ unanswered. ⊎_elim (λ here. invoked_before here unanswered) not_invoked (invoked_or_not invoked_front e))
          (returned_or_not answered_front d)

    enough_left : Enough
    enough_left = ⊎_elim its_value another (equal_or_not v w)

  pub rank_stays : AreOfOneRank (without gone ms) w f g
  rank_stays = record {
    op = other.op;
    enqueues = other.enqueues;
    before_enqueue = without gone invoked_front;
    after_enqueue = without gone other.after_enqueue;
    invoked = cut_still ms gone invoked_front other.after_enqueue (Invoked f other.op) f_stays other.invoked;
    taker = other.taker;
    dequeues = other.dequeues;
    invokes = to_without gone ms _ other.invokes g_stays;
    before_dequeue = without gone answered_front;
    after_dequeue = without gone other.after_dequeue;
    returned = cut_still ms gone answered_front other.after_dequeue (Returned g (Number w)) g_stays other.returned;
    enough = λ dequeues those. (
        let l = left_dequeues ms well gone answered_front w dequeues those in
        let r = enough_left dequeues l.0 l.1 in
        (r.0, left_enqueues ms well gone invoked_front w r.0 r.1 r.2, r.3));
  }

-- an enqueue of no dequeue's rank
module _ (ms : List Mark) (well : AreWellFormed ms) (w : ℤ) (f : ℕ) (other : IsLeftOver ms w f) where
  left_in : IsPrefixOf other.before ms
  left_in = (Invoked f other.op ∷ other.after, other.invoked)

  -- where a pair of one rank is left out
  module _ (v : ℤ) (e d : ℕ) (rank : AreOfOneRank ms v e d) (f_stays : is_one_of e d f ≡ false) where
    pair_there : Contains ms (Invoked e rank.op)
    pair_there = subst (λ k. Contains k (Invoked e rank.op)) rank.invoked (Contains-append_right rank.before_enqueue (Invoked e rank.op ∷ rank.after_enqueue) (Invoked e rank.op) (Contains-head (Invoked e rank.op) rank.after_enqueue))

    answer_there : Contains ms (Returned d (Number v))
    answer_there = subst (λ k. Contains k (Returned d (Number v))) rank.returned (Contains-append_right rank.before_dequeue (Returned d (Number v) ∷ rank.after_dequeue) (Returned d (Number v)) (Contains-head (Returned d (Number v)) rank.after_dequeue))

    not_the_taker : (ids : List ℕ) → AreEnqueuesIn other.before ms w ids → (id : ℕ) → Contains ids id → id ≢ d
    not_the_taker ids those id h q =
        let p = those.each id h in
        no_dequeue ms well (λ n. true) id p.0.0 rank.taker (in_longer other.before ms _ left_in p.0.1) (subst (λ n. Contains ms (Invoked n rank.taker)) (sym q) rank.invokes) p.0.2.0 rank.dequeues

    enough_beside : (dequeues : List ℕ) → AreDequeuesOf ms w dequeues → ((id : ℕ) → Contains dequeues id → is_one_of e d id ≡ false)
        → (enqueues : List ℕ) × AreEnqueuesIn other.before ms w enqueues × ((id : ℕ) → Contains enqueues id → is_one_of e d id ≡ false) × (length dequeues ≤ length enqueues)
    enough_beside dequeues those stay = ⊎_elim
        (λ (same : v ≡ w).
        let more : AreDequeuesOf ms w (d ∷ dequeues) = record {
          once = ((λ id h q. is_not_second e d id (stay id h) (sym q)), those.once);
          each = λ id h. ⊎_elim
              (λ q. subst (λ n. ((op : Op) × Contains ms (Invoked n op) × (op.name ≡ Dequeue)) × Contains ms (Returned n (Number w))) q
              ((rank.taker, rank.invokes, rank.dequeues), subst (λ z. Contains ms (Returned d (Number z))) same answer_there))
              (those.each id)
              (Contains-cons_cases d dequeues id h);
        } in
        let r = other.enough (d ∷ dequeues) more in
        let left : List ℕ = filter (λ id. not (nat_eq id e)) r.0 in
        let bound : suc (length dequeues) ≤ length r.0 = r.2 in
        let fewer : length r.0 ≤ suc (length left) = no_longer_than r.0 (e ∷ left) r.1.once (λ id h. ⊎_elim
        (λ (q : id ≡ e). subst (Contains (e ∷ left)) (sym q) (Contains-head e left))
        (λ ne. Contains-tail e left id (to_filter (λ id. not (nat_eq id e)) r.0 id h (ap not (ne_eqb id e ne))))
        (cases_eq id e)) in (
          left,
          record { once = Pairwise-filter (λ id. not (nat_eq id e)) (λ a b. a ≢ b) r.0 r.1.once; each = λ id h. r.1.each id (from_filter (λ id. not (nat_eq id e)) r.0 id h).0 },
          (λ id h. (let q = from_filter (λ id. not (nat_eq id e)) r.0 id h in
              is_neither e d id (λ is. true≢false (sym q.1 ∙ ap not (eq-eqb id e is))) (not_the_taker r.0 r.1 id q.0))),
          omega (arith, bound, fewer),
        ))
        (λ ne.
        let r = other.enough dequeues those in (
          r.0,
          r.1,
          (λ id h. is_neither e d id
              (λ q. (let p = r.1.each id h in
              ne (sym (another_value p.0.0 rank.op w v (one_op ms well e p.0.0 rank.op (in_longer other.before ms _ left_in (subst (λ n. Contains other.before (Invoked n p.0.0)) q p.0.1)) pair_there) p.0.2 rank.enqueues))))
              (not_the_taker r.0 r.1 id h)),
          r.2,
        ))
        (equal_or_not v w)

    pub left_stays_by_pair : IsLeftOver (without (is_one_of e d) ms) w f
    left_stays_by_pair = record {
      op = other.op;
      enqueues = other.enqueues;
      before = without (is_one_of e d) other.before;
      after = without (is_one_of e d) other.after;
      invoked = cut_still ms (is_one_of e d) other.before other.after (Invoked f other.op) f_stays other.invoked;
      enough = λ dequeues those. (
          let l = left_dequeues ms well (is_one_of e d) ms w dequeues those in
          let r = enough_beside dequeues l.0 l.1 in
          (r.0, left_enqueues ms well (is_one_of e d) other.before w r.0 r.1 r.2, r.3));
    }

-- the rest after an enqueue of no dequeue's rank is left out
module _ (ms : List Mark) (well : AreWellFormed ms) (v : ℤ) (e : ℕ) (gone : IsLeftOver ms v e) where
  abbrev alone : ℕ → Bool
  alone id = nat_eq id e

  alone_there : Contains ms (Invoked e gone.op)
  alone_there = subst (λ k. Contains k (Invoked e gone.op)) gone.invoked (Contains-append_right gone.before (Invoked e gone.op ∷ gone.after) (Invoked e gone.op) (Contains-head (Invoked e gone.op) gone.after))

  alone_new : IsNew gone.before e
  alone_new = well gone.before gone.after (Invoked e gone.op) gone.invoked

  -- as many enqueues in a front, where there are enough with it
  enough_alone : (w : ℤ) (front answered : List Mark) → IsPrefixOf front ms → IsPrefixOf answered ms → HasEnough ms front answered w → (dequeues : List ℕ) → AreDequeuesOf answered w dequeues
      → (enqueues : List ℕ) × AreEnqueuesIn front ms w enqueues × ((id : ℕ) → Contains enqueues id → alone id ≡ false) × (length dequeues ≤ length enqueues)
  enough_alone w front answered is is_too enough dequeues those = ⊎_elim
      (λ here. ⊎_elim
      (λ (same : v ≡ w).
      let own : here.0 ≡ gone.op = one_op ms well e here.0 gone.op (in_longer front ms _ is here.1) alone_there in
      let behind : IsPrefixOf gone.before front = reaches front is.0 gone.before gone.after (Invoked e gone.op) (is.1 ∙ sym gone.invoked)
      (subst (λ p. Contains front (Invoked e p)) own here.1) (λ h. alone_new (Invoked e gone.op) h refl) in
      let all : AreDequeuesOf ms v dequeues = subst (λ z. AreDequeuesOf ms z dequeues) (sym same) (record {
        once = those.once;
        each = λ id h. (let p = those.each id h in ((p.0.0, in_longer answered ms _ is_too p.0.1, p.0.2), in_longer answered ms _ is_too p.1));
      }) in
      let r = gone.enough dequeues all in (
        r.0,
        subst (λ z. AreEnqueuesIn front ms z r.0) same (record { once = r.1.once; each = λ id h. (let p = r.1.each id h in ((p.0.0, in_longer gone.before front _ behind p.0.1, p.0.2), p.1)) }),
        (λ id h. ne_eqb id e (λ q. (let p = r.1.each id h in alone_new (Invoked id p.0.0) p.0.1 q))),
        r.2,
      ))
      (λ ne.
      let r = enough dequeues those in (
        r.0,
        r.1,
        (λ id h. ne_eqb id e (λ q. (let p = r.1.each id h in
            ne (sym (another_value p.0.0 gone.op w v (one_op ms well e p.0.0 gone.op (in_longer front ms _ is (subst (λ n. Contains front (Invoked n p.0.0)) q p.0.1)) alone_there) p.0.2 gone.enqueues))))),
        r.2,
      ))
      (equal_or_not v w))
      (λ n.
      let r = enough dequeues those in (
        r.0,
        r.1,
        (λ id h. ne_eqb id e (λ q. (let p = r.1.each id h in n (p.0.0, subst (λ j. Contains front (Invoked j p.0.0)) q p.0.1)))),
        r.2,
      ))
      (invoked_or_not front e)

  pub left_stays : (w : ℤ) (f : ℕ) → f ≢ e → IsLeftOver ms w f → IsLeftOver (without alone ms) w f
  left_stays w f ne other = record {
    op = other.op;
    enqueues = other.enqueues;
    before = without alone other.before;
    after = without alone other.after;
    invoked = cut_still ms alone other.before other.after (Invoked f other.op) (ne_eqb f e ne) other.invoked;
    enough = λ dequeues those. (
        let l = left_dequeues ms well alone ms w dequeues those in
        let r = enough_alone w other.before ms (Invoked f other.op ∷ other.after, other.invoked) ([], append-nil ms) other.enough dequeues l.0 in
        (r.0, left_enqueues ms well alone other.before w r.0 r.1 r.2, r.3));
  }

  pub rank_stays_alone : (w : ℤ) (f g : ℕ) → f ≢ e → g ≢ e → AreOfOneRank ms w f g → AreOfOneRank (without alone ms) w f g
  rank_stays_alone w f g ne me other = record {
    op = other.op;
    enqueues = other.enqueues;
    before_enqueue = without alone other.before_enqueue;
    after_enqueue = without alone other.after_enqueue;
    invoked = cut_still ms alone other.before_enqueue other.after_enqueue (Invoked f other.op) (ne_eqb f e ne) other.invoked;
    taker = other.taker;
    dequeues = other.dequeues;
    invokes = to_without alone ms _ other.invokes (ne_eqb g e me);
    before_dequeue = without alone other.before_dequeue;
    after_dequeue = without alone other.after_dequeue;
    returned = cut_still ms alone other.before_dequeue other.after_dequeue (Returned g (Number w)) (ne_eqb g e me) other.returned;
    enough = λ dequeues those. (
        let l = left_dequeues ms well alone other.before_dequeue w dequeues those in
        let r = enough_alone w other.before_enqueue other.before_dequeue (Invoked f other.op ∷ other.after_enqueue, other.invoked) (Returned g (Number w) ∷ other.after_dequeue, other.returned) other.enough dequeues l.0 in
        (r.0, left_enqueues ms well alone other.before_enqueue w r.0 r.1 r.2, r.3));
  }
