-- an open operation may fail exactly if each answer with the value that it puts in has another add in time
use Rattle.std.proofs.Common.{◌≡◌, ◌≢◌, ℕ, ◌≤◌, ◌<◌, ℤ, inl, inr, ⊎_elim, List, sym, ◌∙◌, subst, arith}
use Rattle.std.specs.List.{Contains}
use Rattle.models.specs.declared.finding.Answer.{Answer}
use Rattle.models.specs.declared.finding.Answer.TheVariants.{Many}
use Rattle.events.specs.Events.{Mark}
use Rattle.events.specs.Events.Mark.{Invoked, Returned, Failed}
use Rattle.linspec.specs.Operations.{HasReturned, IsOpen, Precedes}
use Rattle.set_chains.specs.Chains.{IsAddOf, HasRead, IsWithin, ComesWith, MayFail}
use Rattle.set_chains.proofs.Sorts.{has_or_not}
use Rattle.wide_set.specs.declared.known.Call.TheVariants as calls
use Rattle.wide_set.specs.declared.known.Pending.{Pending}
use Rattle.wide_set.specs.declared.known.Answered.{Answered}
use Rattle.wide_set.specs.Facts.{StandsAt, Facts, AreFacts, HasAdd, IsDoneBeyond, AreSpared}
use Rattle.wide_set.proofs.Moments.{stands_of, invoked_at_once, not_precedes, no_later}
use Rattle.wide_set.proofs.Calls.{call_of_add, adds_of_call, from_has_add, to_has_add}
use Rattle.wide_set.proofs.Answering.{known_done, done_beyond, known_answer, base_read}
use Rattle.wide_set.proofs.Carrying.{same_or_not}

module _ (f : Facts) (ms : List Mark) (facts : AreFacts f ms) (p : Pending) (h : Contains f.pending p) where
  is_open : IsOpen ms p.id
  is_open = (facts.pending.is p h).0

  -- an operation that puts no value in may always fail
  pub others_may_fail : ((v : ℤ) → p.call ≢ calls.Add v) → MayFail ms p.id
  others_may_fail no' read members v other r i a comes = absurd (no' v (call_of_add f ms facts p h v a))

  module _ (v : ℤ) (adds : p.call ≡ calls.Add v) where
    pub are_spared : MayFail ms p.id → AreSpared f p.id v
    are_spared may out a k i =
        let r = facts.answers.is a k in
        let own = adds_of_call f ms facts p h v adds in record {
          in_time =
              let x = may r.0 a.members v r.0 r.1 i own (inl r.1) in
              let g = to_has_add f ms facts p.id v x.0 out x.1 x.2 x.4 in
              let le : g.1 ≤ a.by = no_later ms r.0 x.0 a.by g.1 (Many a.members) g.0 r.2 g.2 x.3 in
              let less : g.3.0 ≤ g.1 = g.3.2 in
              (g.3.0, g.3.1, omega arith);
          before_done = λ d by j.
              let b = done_beyond f ms facts a.members d by j in
              let x = may r.0 a.members v b.0 r.1 i own (inr b.2) in
              let g = to_has_add f ms facts p.id v x.0 out x.1 x.2 x.4 in
              let le : g.1 ≤ by = no_later ms b.0 x.0 by g.1 b.1 g.0 b.3 g.2 x.3 in
              let less : g.3.0 ≤ g.1 = g.3.2 in
              (g.3.0, g.3.1, omega arith);
        }

    same_value : (w : ℤ) → IsAddOf ms p.id w → v ≡ w
    same_value w a = let q : calls.Add v ≡ calls.Add w = sym adds ∙ call_of_add f ms facts p h w a in cc

    with_add : (other n k : ℕ) (answer : Answer) → StandsAt ms n (Returned other answer) → (g : (moment : ℕ) × HasAdd f p.id v moment × (moment ≤ k)) → k ≤ n
        → (add : ℕ) × IsAddOf ms add v × (¬ Contains ms (Failed add)) × (¬ Precedes ms other add) × (add ≢ p.id)
    with_add other n k answer s g le =
        let a = from_has_add f ms facts p.id is_open v g.0 g.1 in
        let x : g.0 ≤ k = g.2 in
        (a.0, a.2, a.3, not_precedes ms facts.well other a.0 n g.0 answer a.1 s a.5 (omega arith), a.4)

    -- another add of the value that has not failed, and that the operation does not precede
    abbrev HasOther : ℕ → Type 0
    HasOther other = (add : ℕ) × IsAddOf ms add v × (¬ Contains ms (Failed add)) × (¬ Precedes ms other add) × (add ≢ p.id)

    module _ (read : ℕ) (members : List ℤ) (r : HasRead ms read members) (i : Contains members v) (other : ℕ) (comes : ComesWith ms members other) where
      returned : HasReturned ms other
      returned = ⊎_elim (λ o. (Many members, o.answer)) (λ b. b.2) comes

      -- a value of the base has an add that was invoked before this one
      based_other : Contains f.base v → HasOther other
      based_other known =
          let x = facts.chained.added read members v other r i comes in
          ⊎_elim
          (λ (same : x.0 ≡ p.id).
          let b = facts.based v known in
          let a = facts.answers.is b.0 b.1 in
          let y = facts.chained.added a.0 b.0.members v a.0 a.1 (subst (λ l. Contains l v) (sym b.2) known) (inl a.1) in
          let s = stands_of ms (Invoked y.0 y.1.0) y.1.1 in
          let t = stands_of ms (Returned other returned.0) returned.1 in
          let mine = facts.pending.is p h in
          let early : s.0 ≤ b.0.by = no_later ms a.0 y.0 b.0.by s.0 (Many b.0.members) y.1.0 a.2 s.1 y.3 in
          let lt : b.0.by < p.since = b.3 p h in
          let late : p.since ≤ t.0 = no_later ms other p.id t.0 p.since returned.0 mine.1.0 t.1 mine.1.1 (subst (λ n. ¬ Precedes ms other n) same x.3) in (
            y.0,
            y.1,
            y.2,
            not_precedes ms facts.well other y.0 t.0 s.0 returned.0 y.1.0 t.1 s.1 (omega arith),
            (λ e. (let at : s.0 ≡ p.since = invoked_at_once ms facts.well p.id s.0 p.since y.1.0 mine.1.0 (subst (λ n. StandsAt ms s.0 (Invoked n y.1.0)) e s.1) mine.1.1 in omega arith)),
          ))
          (λ ne. (x.0, x.1, x.2, x.3, ne))
          (same_or_not x.0 p.id)

      module _ (out : ¬ Contains f.base v) where
        -- the answer has all of the base, whose reads are in the chain
        within : IsWithin f.base members
        within w k =
            let a = base_read f ms facts w k in
            ⊎_elim (λ less. less w k) (λ more. absurd (out (more v i))) (facts.chained.chain a.0 read f.base members a.1 r)

        known : (id : ℕ) → HasRead ms id members → (n : ℕ) × StandsAt ms n (Returned id (Many members)) × ((a : Answered) × Contains f.answers a × (a.members ≡ members) × (a.by ≤ n))
        known id o =
            let k = known_answer f ms facts id members o in
            (k.0, k.1, ⊎_elim (λ less. absurd (out (less v i))) (λ a. a) k.2)

        beyond_other : AreSpared f p.id v → HasOther other
        beyond_other spared = ⊎_elim
            (λ o.
            let k = known other o in
            let s = spared out k.2.0 k.2.1 (subst (λ l. Contains l v) (sym k.2.2) i) in
            with_add other k.0 k.2.0.by (Many members) k.1 s.in_time k.2.3)
            (λ b.
            let k = known read r in
            let s = spared out k.2.0 k.2.1 (subst (λ l. Contains l v) (sym k.2.2) i) in
            let d = known_done f ms facts members within other b in
            with_add other d.0 d.3.1 d.1 d.2 (s.before_done d.3.0 d.3.1 (subst (λ l. IsDoneBeyond f.log l d.3.0 d.3.1) (sym k.2.2) d.3.2)) d.3.3)
            comes

    pub may_fail : AreSpared f p.id v → MayFail ms p.id
    may_fail spared read members w other r i a comes =
        let here : Contains members v = subst (Contains members) (sym (same_value w a)) i in
        subst (λ u. (add : ℕ) × IsAddOf ms add u × (¬ Contains ms (Failed add)) × (¬ Precedes ms other add) × (add ≢ p.id)) (same_value w a)
        (⊎_elim (based_other read members r here other comes) (λ out. beyond_other read members r here other comes out spared) (has_or_not v f.base))
