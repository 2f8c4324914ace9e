-- operations by their effects
use Rattle.std.proofs.Common.{◌≡◌, ◌≢◌, ℕ, ◌≤◌, ℤ, ◌⊎◌, inl, inr, ⊎_elim, Option, Some, None, List, refl, sym, ap, ◌∙◌, subst, arith}
use Rattle.std.specs.List.{Contains}
use Rattle.models.specs.declared.operation.Name.{Name}
use Rattle.models.specs.declared.operation.Name.TheVariants.{Read, Add}
use Rattle.models.specs.declared.operation.Part.{Part}
use Rattle.models.specs.declared.operation.Part.TheVariants.{Nil, Int, Pair, Set}
use Rattle.models.specs.declared.operation.Op.{Op}
use Rattle.models.specs.declared.finding.Answer.TheVariants.{Many}
use Rattle.models.specs.Objects.{answer_of}
use Rattle.events.specs.Events.{Mark}
use Rattle.events.specs.Events.Mark.{Invoked, Returned, Failed, Crashed}
use Rattle.linspec.specs.Operations.{IsOpen, IsInvoked}
use Rattle.linspec.specs.MarkRule.{AreWellFormed}
use Rattle.linspec.proofs.Fates.{returned_or_not, crashed_or_not}
use Rattle.set_chains.specs.Chains.{Adds, IsAddOf}
use Rattle.set_chains.proofs.Once.{one_op, one_completion, returned_not_failed}
use Rattle.wide_set.specs.declared.known.Call.TheVariants as calls
use Rattle.wide_set.specs.declared.known.Pending.{Pending}
use Rattle.wide_set.specs.Facts.{call_by, StandsAt, CannotFail, IsSettledBy, Facts, AreFacts, HasAdd}
use Rattle.wide_set.proofs.Moments.{stands_contains, stands_of, invoked_at_once}

pub read_by : (name : Name) (part : Part) → call_by name part ≡ calls.Read → (name ≡ Read) × (part ≡ Nil)
read_by Read Nil e = (refl, refl)
read_by Add (Int v) e = cc
read_by _ _ e = cc

pub add_by : (name : Name) (part : Part) (v : ℤ) → call_by name part ≡ calls.Add v → (name ≡ Add) × (part ≡ Int v)
add_by Add (Int w) v e = (refl, (let q : calls.Add w ≡ calls.Add v = e in let s : w ≡ v = cc in ap Int s))
add_by Read Nil v e = cc
add_by _ _ v e = cc

pub by_adds : (op : Op) (v : ℤ) → Adds op v → call_by op.name op.part ≡ calls.Add v
by_adds op v a = ap (λ n. call_by n op.part) a.0 ∙ ap (call_by Add) a.1

pub by_reads : (op : Op) → op.name ≡ Read → op.part ≡ Nil → call_by op.name op.part ≡ calls.Read
by_reads op e f = ap (λ n. call_by n op.part) e ∙ ap (call_by Read) f

pub answer_many : (part : Part) (members : List ℤ) → answer_of part ≡ Many members → part ≡ Set members
answer_many Nil members e = cc
answer_many (Int a) members e = cc
answer_many (Pair a b) members e = cc
answer_many (Set those) members e = let q : Many those ≡ Many members = e in let r : those ≡ members = cc in ap Set r

pub settled_by : (ms : List Mark) (id : ℕ) (by : Option ℕ) → IsSettledBy ms id by → CannotFail ms id
settled_by ms id None c = inr c
settled_by ms id (Some n) r = inl (r.0, stands_contains ms n (Returned id r.0) r.1)

module _ (f : Facts) (ms : List Mark) (facts : AreFacts f ms) where
  well : AreWellFormed ms
  well = facts.well

  -- the operation of a pending call
  pub op_of : (p : Pending) → Contains f.pending p → (op : Op) × Contains ms (Invoked p.id op) × (call_by op.name op.part ≡ p.call)
  op_of p h = let k = (facts.pending.is p h).1 in (k.0, stands_contains ms p.since (Invoked p.id k.0) k.1, k.2)

  pub same_call : (p : Pending) (h : Contains f.pending p) (op : Op) → Contains ms (Invoked p.id op) → call_by op.name op.part ≡ p.call
  same_call p h op i = let k = op_of p h in let same : op ≡ k.0 = one_op ms well p.id op k.0 i k.1 in ap (λ (o : Op). call_by o.name o.part) same ∙ k.2

  pub adds_of_call : (p : Pending) (h : Contains f.pending p) (v : ℤ) → p.call ≡ calls.Add v → IsAddOf ms p.id v
  adds_of_call p h v e = let k = op_of p h in (k.0, k.1, add_by k.0.name k.0.part v (k.2 ∙ e))

  pub call_of_add : (p : Pending) (h : Contains f.pending p) (v : ℤ) → IsAddOf ms p.id v → p.call ≡ calls.Add v
  call_of_add p h v a = sym (same_call p h a.0 a.1) ∙ by_adds a.0 v a.2

  -- an operation that can no longer fail has not failed, and is not open
  pub not_failed : (id : ℕ) → CannotFail ms id → ¬ Contains ms (Failed id)
  not_failed id c failed = ⊎_elim
      (λ r. returned_not_failed ms well id r.0 r.1 failed)
      (λ k. one_completion ms well (Crashed id) (Failed id) tt tt refl k failed (λ e. cc))
      c

  pub not_open : (id : ℕ) → CannotFail ms id → ¬ IsOpen ms id
  not_open id c o = ⊎_elim o.not_returned o.not_crashed c

  open_or_settled : (id : ℕ) → IsInvoked ms id → ¬ Contains ms (Failed id) → IsOpen ms id ⊎ CannotFail ms id
  open_or_settled id i nf = ⊎_elim
      (λ r. inr (inl r))
      (λ nr. ⊎_elim
      (λ c. inr (inr c))
      (λ nc. inl (record { invoked = i; not_returned = nr; not_failed = nf; not_crashed = nc }))
      (crashed_or_not ms id))
      (returned_or_not ms id)

  -- an add that is known is one of the history
  abbrev pub IsAdd : ℕ → ℤ → ℕ → Type 0
  IsAdd but v moment = (id : ℕ) × (op : Op) × IsAddOf ms id v × (¬ Contains ms (Failed id)) × (id ≢ but) × StandsAt ms moment (Invoked id op)

  pub from_has_add : (but : ℕ) → IsOpen ms but → (v : ℤ) (moment : ℕ) → HasAdd f but v moment → IsAdd but v moment
  from_has_add but open' v moment h = ⊎_elim
      (λ s.
      let k = facts.logged.is s.0 s.1 in
      let c = settled_by ms k.0 s.0.by k.4 in
      (k.0, k.1, subst (IsAddOf ms k.0) s.2 k.2, not_failed k.0 c, (λ e. not_open k.0 c (subst (IsOpen ms) (sym e) open')), subst (λ n. StandsAt ms n (Invoked k.0 k.1)) s.3 k.3))
      (λ p. (let k = facts.pending.is p.0 p.1 in (p.0.id, k.1.0, adds_of_call p.0 p.1 v p.3, k.0.not_failed, p.2, subst (λ n. StandsAt ms n (Invoked p.0.id k.1.0)) p.4 k.1.1)))
      h

  -- an add of a value beyond the base is known, or one with at most its moment
  pub to_has_add : (but : ℕ) (v : ℤ) (id : ℕ) → ¬ Contains f.base v → IsAddOf ms id v → ¬ Contains ms (Failed id) → id ≢ but → (op : Op) × (n : ℕ) × StandsAt ms n (Invoked id op) × ((moment : ℕ) × HasAdd f but v moment × (moment ≤ n))
  to_has_add but v id out a nf ne =
      let s = stands_of ms (Invoked id a.0) a.1 in (
        a.0,
        s.0,
        s.1,
        ⊎_elim
            (λ o.
            let p = facts.pending.all id o in
            let k = facts.pending.is p.0 p.1 in
            let there : StandsAt ms p.0.since (Invoked id k.1.0) = subst (λ i. StandsAt ms p.0.since (Invoked i k.1.0)) p.2 k.1.1 in
            let same : p.0.since ≡ s.0 = invoked_at_once ms well id p.0.since s.0 k.1.0 a.0 there s.1 in (
              p.0.since,
              inr (p.0, p.1, (λ e. ne (sym p.2 ∙ e)), call_of_add p.0 p.1 v (subst (λ i. IsAddOf ms i v) (sym p.2) a), refl),
              omega arith,
            ))
            (λ c. (let k = facts.logged.all v id s.0 a.0 a out c s.1 in (k.0.since, inl (k.0, k.1, k.2, refl), k.3)))
            (open_or_settled id (a.0, a.1) nf),
      )
