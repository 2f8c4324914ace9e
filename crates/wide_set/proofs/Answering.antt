-- a read may answer these members exactly if they are in the chain and were added in time
use Rattle.std.proofs.Common.{◌≡◌, ◌≢◌, ℕ, ◌≤◌, ◌<◌, ℤ, ◌⊎◌, inl, inr, ⊎_elim, Some, List, sym, ap, ◌∙◌, subst, arith}
use Rattle.std.specs.List.{Contains}
use Rattle.models.specs.declared.operation.Name.TheVariants.{Read}
use Rattle.models.specs.declared.operation.Part.TheVariants.{Nil}
use Rattle.models.specs.declared.operation.Op.{Op}
use Rattle.models.specs.declared.finding.Answer.{Answer}
use Rattle.models.specs.declared.finding.Answer.TheVariants.{Many}
use Rattle.values.specs.Members.{IsAscending}
use Rattle.events.specs.Events.{Mark}
use Rattle.events.specs.Events.Mark.{Invoked, Returned, Failed}
use Rattle.linspec.specs.Operations.{IsOpen, Precedes}
use Rattle.set_chains.specs.Chains.{IsAddOf, HasRead, IsWithin, IsDoneAddBeyond, ComesWith, MayAnswer}
use Rattle.set_chains.proofs.Once.{one_op}
use Rattle.set_chains.proofs.Steps.{no_both}
use Rattle.set_chains.proofs.Sorts.{has_or_not}
use Rattle.wide_set.specs.declared.known.Call.TheVariants as calls
use Rattle.wide_set.specs.declared.known.Pending.{Pending}
use Rattle.wide_set.specs.declared.known.Answered.{Answered}
use Rattle.wide_set.specs.declared.log.Added.{Added}
use Rattle.wide_set.specs.Facts.{StandsAt, IsSettledBy, Facts, AreFacts, IsDoneBeyond, IsInChain, WereAdded}
use Rattle.wide_set.proofs.Moments.{stands_contains, stands_of, not_precedes, no_later}
use Rattle.wide_set.proofs.Calls.{read_by, op_of, from_has_add, to_has_add}

module _ (f : Facts) (ms : List Mark) (facts : AreFacts f ms) where
  -- a done add beyond the base is logged, or one of the same value with at most its moment
  pub known_done : (members : List ℤ) → IsWithin f.base members → (id : ℕ) → IsDoneAddBeyond ms members id → (n : ℕ) × (answer : Answer) × StandsAt ms n (Returned id answer)
      × ((a : Added) × (by : ℕ) × IsDoneBeyond f.log members a by × (by ≤ n))
  known_done members within id b =
      let s = stands_of ms (Returned id b.2.0) b.2.1 in
      let d = facts.logged.done b.0 id s.0 b.2.0 b.1 (λ k. b.3 (within b.0 k)) s.1 in
      (s.0, b.2.0, s.1, (d.0, d.1, (d.2, d.4, (λ h. b.3 (subst (Contains members) d.3 h))), d.5))

  pub done_beyond : (members : List ℤ) (a : Added) (by : ℕ) → IsDoneBeyond f.log members a by → (id : ℕ) × (answer : Answer) × IsDoneAddBeyond ms members id × StandsAt ms by (Returned id answer)
  done_beyond members a by h =
      let k = facts.logged.is a h.0 in
      let r : IsSettledBy ms k.0 (Some by) = subst (IsSettledBy ms k.0) h.1 k.4 in
      (k.0, r.0, (a.value, k.2, (r.0, stands_contains ms by (Returned k.0 r.0) r.1), h.2), r.1)

  -- an answer is within the base, or known, with at most its moment
  pub known_answer : (id : ℕ) (members : List ℤ) → HasRead ms id members → (n : ℕ) × StandsAt ms n (Returned id (Many members))
      × (IsWithin members f.base ⊎ ((a : Answered) × Contains f.answers a × (a.members ≡ members) × (a.by ≤ n)))
  known_answer id members r =
      let s = stands_of ms (Returned id (Many members)) r.answer in
      (s.0, s.1, facts.answers.all id s.0 members r s.1)

  -- a value of the base has an add that none precedes which comes with an answer of the base
  pub base_added : (v : ℤ) → Contains f.base v → (id : ℕ) → ComesWith ms f.base id → (add : ℕ) × IsAddOf ms add v × (¬ Contains ms (Failed add)) × (¬ Precedes ms id add)
  base_added v i id comes =
      let b = facts.based v i in
      let r = facts.answers.is b.0 b.1 in
      facts.chained.added r.0 b.0.members v id r.1 (subst (λ l. Contains l v) (sym b.2) i) (subst (λ l. ComesWith ms l id) (sym b.2) comes)

  -- the read that answered the base
  pub base_read : (v : ℤ) → Contains f.base v → (id : ℕ) × HasRead ms id f.base
  base_read v i =
      let b = facts.based v i in
      let r = facts.answers.is b.0 b.1 in
      (r.0, subst (HasRead ms r.0) b.2 r.1)

  module _ (p : Pending) (h : Contains f.pending p) (reads : p.call ≡ calls.Read) (members : List ℤ) where
    abbrev op : Op
    op = (op_of f ms facts p h).0

    is_read : (op.name ≡ Read) × (op.part ≡ Nil)
    is_read = read_by op.name op.part ((op_of f ms facts p h).2 ∙ reads)

    since : StandsAt ms p.since (Invoked p.id (facts.pending.is p h).1.0)
    since = (facts.pending.is p h).1.1

    is_open : IsOpen ms p.id
    is_open = (facts.pending.is p h).0

    no_add : (id : ℕ) (v : ℤ) → IsAddOf ms id v → id ≢ p.id
    no_add id v a e =
        let same : a.0 ≡ op = one_op ms facts.well p.id a.0 op (subst (λ i. Contains ms (Invoked i a.0)) e a.1) (op_of f ms facts p h).1 in
        no_both op.name is_read.0 (ap (λ (o : Op). o.name) (sym same) ∙ a.2.0)

    -- an answer in the chain has all of the base
    base_within : (members : List ℤ) → IsInChain f.answers p.since members → IsWithin f.base members
    base_within members chain v i =
        let b = facts.based v i in
        let has : Contains b.0.members v = subst (λ l. Contains l v) (sym b.2) i in
        ⊎_elim
        (λ less. ⊎_elim
        (λ k. k)
        (λ none.
        let le : p.since ≤ b.0.by = chain.in_turn b.0 b.1 less (λ more. none (more v has)) in
        let lt : b.0.by < p.since = b.3 p h in
        absurd (omega arith))
        (has_or_not v members))
        (λ more. more v has)
        (chain.chain b.0 b.1)

    pub fits : MayAnswer ms p.id members → IsInChain f.answers p.since members × WereAdded f p.id p.since members
    fits may = (
      record {
        chain = λ a k. (let r = facts.answers.is a k in may.chain r.0 a.members r.1);
        in_turn = λ a k more less. (let r = facts.answers.is a k in no_later ms r.0 p.id a.by p.since (Many a.members) _ r.2 since (may.in_turn r.0 (inl (a.members, r.1, more, less))));
      },
      record {
        has_add = λ v k out. (let a = may.has_add v k in let g = to_has_add f ms facts p.id v a.0 out a.1 a.2 (no_add a.0 v a.1) in (g.3.0, g.3.1));
        in_time = λ v d by k out i.
            let b = done_beyond members d by i in
            let a = may.added v b.0 k b.2 in
            let g = to_has_add f ms facts p.id v a.0 out a.1 a.2 (no_add a.0 v a.1) in
            let le : g.1 ≤ by = no_later ms b.0 a.0 by g.1 b.1 g.0 b.3 g.2 a.3 in
            let less : g.3.0 ≤ g.1 = g.3.2 in
            (g.3.0, g.3.1, omega arith);
        not_before = λ d by i. (let b = done_beyond members d by i in no_later ms b.0 p.id by p.since b.1 _ b.3 since (may.in_turn b.0 (inr b.2)));
      },
    )

    module _ (ascends : IsAscending members) (chain : IsInChain f.answers p.since members) (added : WereAdded f p.id p.since members) where
      within : IsWithin f.base members
      within = base_within members chain

      beyond : (other : ℕ) → IsDoneAddBeyond ms members other → IsDoneAddBeyond ms f.base other
      beyond other b = (b.0, b.1, b.2, (λ k. b.3 (within b.0 k)))

      pub may_answer : MayAnswer ms p.id members
      may_answer = record {
        ascending = ascends;
        chain = λ other those r. ⊎_elim
            (λ less. inr (λ v i. within v (less v i)))
            (λ a. subst (λ l. IsWithin members l ⊎ IsWithin l members) a.2 (chain.chain a.0 a.1))
            (known_answer other those r).2;
        has_add = λ v k. ⊎_elim
            (λ i. (let r = base_read v i in let a = base_added v i r.0 (inl r.1) in (a.0, a.1, a.2)))
            (λ out. (let g = added.has_add v k out in let a = from_has_add f ms facts p.id is_open v g.0 g.1 in (a.0, a.2, a.3)))
            (has_or_not v f.base);
        added = λ v other k b. ⊎_elim
            (λ i. base_added v i other (inr (beyond other b)))
            (λ out.
            let d = known_done members within other b in
            let g = added.in_time v d.3.0 d.3.1 k out d.3.2 in
            let a = from_has_add f ms facts p.id is_open v g.0 g.1 in
            let x : g.0 ≤ d.3.1 = g.2 in
            let y : d.3.1 ≤ d.0 = d.3.3 in
            (a.0, a.2, a.3, not_precedes ms facts.well other a.0 d.0 g.0 d.1 a.1 d.2 a.5 (omega arith)))
            (has_or_not v f.base);
        in_turn = λ other comes. ⊎_elim
            (λ r.
            let k = known_answer other r.0 r.1 in
            ⊎_elim
            (λ less. absurd (r.3 (λ v i. within v (less v i))))
            (λ a.
            let x : p.since ≤ a.0.by = chain.in_turn a.0 a.1 (subst (IsWithin members) (sym a.2) r.2) (λ w. r.3 (subst (λ l. IsWithin l members) a.2 w)) in
            let y : a.0.by ≤ k.0 = a.3 in
            not_precedes ms facts.well other p.id k.0 p.since (Many r.0) _ k.1 since (omega arith))
            k.2)
            (λ b.
            let d = known_done members within other b in
            let x : p.since ≤ d.3.1 = added.not_before d.3.0 d.3.1 d.3.2 in
            let y : d.3.1 ≤ d.0 = d.3.3 in
            not_precedes ms facts.well other p.id d.0 p.since d.1 _ d.2 since (omega arith))
            comes;
      }
