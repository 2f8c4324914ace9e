-- known facts stay with one more mark, apart from the facts of that mark
use Rattle.std.proofs.Common.{◌≡◌, ◌≢◌, ℕ, ◌≤◌, ℤ, ◌⊎◌, inl, inr, ⊎_elim, Option, Some, None, List, [], ◌∷◌, ◌++◌, length, refl, sym, ap, ◌∙◌, subst, append_assoc, nat_eq, not, true}
use Rattle.std.specs.List.{Contains, filter}
use Rattle.std.proofs.lemmas.List.Elements.{Contains-append_left, Contains-push, Contains-push_cases}
use Rattle.std.proofs.lemmas.Bool.{cases_Bool, true≢false, eqb-true, eq-eqb, ne_eqb}
use Rattle.models.specs.declared.operation.Op.{Op}
use Rattle.models.specs.declared.finding.Answer.{Answer}
use Rattle.models.specs.declared.finding.Answer.TheVariants.{Many}
use Rattle.events.specs.Events.{Mark}
use Rattle.events.specs.Events.Mark.{Invoked, Returned}
use Rattle.linspec.specs.Operations.{IsInvoked, IsOpen}
use Rattle.linspec.specs.MarkRule.{id_of, IsNew, MayFollow, AreWellFormed}
use Rattle.linspec.proofs.Open.{IsCompletion, was_open, stays_open, open_with_new, open_without_new, new_is_open}
use Rattle.set_chains.specs.Chains.{IsAddOf, HasRead}
use Rattle.set_chains.proofs.Once.{returned_invoked}
use Rattle.wide_set.specs.declared.known.Pending.{Pending}
use Rattle.wide_set.specs.declared.known.Answered.{Answered}
use Rattle.wide_set.specs.declared.log.Added.{Added}
use Rattle.wide_set.specs.Facts.{StandsAt, ArePending, CannotFail, IsSettledBy, AreLogged, AreAnswers, Facts, IsBase, call_by, is_other, without}
use Rattle.wide_set.proofs.Moments.{stands_contains, stands_on, stands_cases, stands_last}
use Rattle.wide_set.proofs.Lists.{was_in, passes, stays_in}

not_same : (a b : ℕ) → not (nat_eq a b) ≡ true → a ≢ b
not_same a b e same = let t : nat_eq a b ≡ true = eq-eqb a b same in true≢false (sym e ∙ ap not t)

is_not_same : (a b : ℕ) → a ≢ b → not (nat_eq a b) ≡ true
is_not_same a b ne = ap not (ne_eqb a b ne)

pub same_or_not : (a b : ℕ) → (a ≡ b) ⊎ (a ≢ b)
same_or_not a b = ⊎_elim (λ e. inl (eqb-true a b e)) (λ e. inr (λ same. true≢false (sym (eq-eqb a b same) ∙ e))) (cases_Bool (nat_eq a b))

-- the log entry of an add
abbrev pub IsLogged : List Mark → Added → Type 0
IsLogged marks a = (id : ℕ) × (op : Op) × IsAddOf marks id a.value × StandsAt marks a.since (Invoked id op) × IsSettledBy marks id a.by

module _ (ms : List Mark) (m : Mark) (well : AreWellFormed (ms ++ m ∷ [])) where
  abbrev pub longer : List Mark
  longer = ms ++ m ∷ []

  pub may : MayFollow ms m
  may = well ms [] m refl

  pub kept : (x : Mark) → Contains ms x → Contains longer x
  kept x h = Contains-append_left ms (m ∷ []) x h

  pub add_is : (id : ℕ) (v : ℤ) → IsAddOf ms id v → IsAddOf longer id v
  add_is id v a = (a.0, kept _ a.1, a.2)

  pub read_is : (id : ℕ) (s : List ℤ) → HasRead ms id s → HasRead longer id s
  read_is id s r = record { op = r.op; invoked = kept _ r.invoked; reads = r.reads; of_all = r.of_all; answer = kept _ r.answer }

  -- an operation that was invoked before is not invoked by the last mark
  pub not_last : (id : ℕ) (op : Op) → IsInvoked ms id → m ≢ Invoked id op
  not_last id op i e = (subst (MayFollow ms) e may) (Invoked id i.0) i.1 refl

  pub invoked_was : (id : ℕ) → IsInvoked ms id → (op : Op) → Contains longer (Invoked id op) → Contains ms (Invoked id op)
  invoked_was id i op h = ⊎_elim (λ k. k) (λ e. absurd (not_last id op i e)) (Contains-push_cases ms m _ h)

  pub stood : (id : ℕ) → IsInvoked ms id → (op : Op) (n : ℕ) → StandsAt longer n (Invoked id op) → StandsAt ms n (Invoked id op)
  stood id i op n s = ⊎_elim (λ k. k) (λ e. absurd (not_last id op i (sym e.0))) (stands_cases ms m n (Invoked id op) s)

  pub add_was : (id : ℕ) (v : ℤ) → IsInvoked ms id → IsAddOf longer id v → IsAddOf ms id v
  add_was id v i a = (a.0, invoked_was id i a.0 a.1, a.2)

  pub well_before : AreWellFormed ms
  well_before before after x cut = well before (after ++ m ∷ []) x (sym (append_assoc before (x ∷ after) (m ∷ [])) ∙ ap (λ l. l ++ m ∷ []) cut)

  pub invoked_before : (id : ℕ) (answer : Answer) → Contains ms (Returned id answer) → IsInvoked ms id
  invoked_before id answer h = returned_invoked ms well_before id answer h

  settled_is : (id : ℕ) (by : Option ℕ) → IsSettledBy ms id by → IsSettledBy longer id by
  settled_is id None c = kept _ c
  settled_is id (Some n) r = (r.0, stands_on ms (m ∷ []) n _ r.1)

  pub logged_is : (a : Added) → IsLogged ms a → IsLogged longer a
  logged_is a k = (k.0, k.1, add_is k.0 a.value k.2, stands_on ms (m ∷ []) a.since _ k.3, settled_is k.0 a.by k.4)

  -- the log stays that of the history, if the mark makes no add of a value beyond the base one that can no longer fail
  pub logged_carried : (log : List Added) (base : List ℤ)
      → ((id : ℕ) (v : ℤ) → IsAddOf longer id v → ¬ Contains base v → CannotFail longer id → IsInvoked ms id × CannotFail ms id)
      → ((id : ℕ) (v : ℤ) (answer : Answer) → IsAddOf longer id v → ¬ Contains base v → m ≢ Returned id answer)
      → AreLogged log base ms → AreLogged log base longer
  logged_carried log base back other are = record {
    is = λ a h. logged_is a (are.is a h);
    all = λ v id n op a out c s. (let b = back id v a out c in are.all v id n op (add_was id v b.0 a) out b.1 (stood id b.0 op n s));
    done = λ v id n answer a out s. ⊎_elim
        (λ k. are.done v id n answer (add_was id v (invoked_before id answer (stands_contains ms n _ k)) a) out k)
        (λ e. absurd (other id v answer a out (sym e.0)))
        (stands_cases ms m n (Returned id answer) s);
  }

  -- the answers of reads
  pub answers_carried : (base : List ℤ) (answers more : List Answered) → ((a : Answered) → Contains answers a → Contains more a)
      → ((a : Answered) → Contains more a → Contains answers a ⊎ ((id : ℕ) × HasRead longer id a.members × StandsAt longer a.by (Returned id (Many a.members))))
      → ((id n : ℕ) (members : List ℤ) → HasRead longer id members → m ≡ Returned id (Many members) → n ≡ length ms → (a : Answered) × Contains more a × (a.members ≡ members) × (a.by ≤ n))
      → AreAnswers base answers ms → AreAnswers base more longer
  answers_carried base answers more stay new own are = record {
    is = λ a h. ⊎_elim
        (λ k. (let r = are.is a k in (r.0, read_is r.0 a.members r.1, stands_on ms (m ∷ []) a.by _ r.2)))
        (λ r. r)
        (new a h);
    all = λ id n members r s. ⊎_elim
        (λ k.
        let contained : Contains ms (Returned id (Many members)) = stands_contains ms n _ k in
        let was : HasRead ms id members = record { op = r.op; invoked = invoked_was id (invoked_before id _ contained) r.op r.invoked; reads = r.reads; of_all = r.of_all; answer = contained } in
        ⊎_elim inl (λ a. inr (a.0, stay a.0 a.1, a.2, a.3)) (are.all id n members was k))
        (λ e. inr (own id n members r (sym e.0) e.1))
        (stands_cases ms m n (Returned id (Many members)) s);
  }

-- the pending operations after a completion, and after an invocation
module _ (ms : List Mark) (m : Mark) (completes : IsCompletion m) where
  pub pending_without : (pending : List Pending) → ArePending pending ms → ArePending (filter (is_other (id_of m)) pending) (ms ++ m ∷ [])
  pending_without pending are = record {
    is = λ p h. (let k = are.is p (was_in (is_other (id_of m)) pending p h) in (
      stays_open ms m completes p.id k.0 (not_same p.id (id_of m) (passes (is_other (id_of m)) pending p h)),
      (k.1.0, stands_on ms (m ∷ []) p.since _ k.1.1, k.1.2),
    ));
    all = λ id o. (let w = was_open ms m completes id o in let k = are.all id w.0 in (k.0, stays_in (is_other (id_of m)) pending k.0 k.1 (is_not_same k.0.id (id_of m) (λ e. w.1 (sym k.2 ∙ e))), k.2));
  }

-- the base stays one after a completion
pub still_based : (f : Facts) (id : ℕ) → ((v : ℤ) → Contains f.base v → IsBase f) → (v : ℤ) → Contains f.base v → IsBase (without id f)
still_based f id based v h = let b = based v h in (b.0, b.1, b.2, (λ p k. b.3 p (was_in (is_other id) f.pending p k)))

module _ (ms : List Mark) (id : ℕ) (op : Op) (new : IsNew ms id) where
  pub pending_with : (pending : List Pending) (p : Pending) → p.id ≡ id → p.since ≡ length ms → call_by op.name op.part ≡ p.call → ArePending pending ms → ArePending (pending ++ p ∷ []) (ms ++ Invoked id op ∷ [])
  pending_with pending p e f g are = record {
    is = λ q h. ⊎_elim
        (λ k. (let i = are.is q k in (open_with_new ms id op new q.id i.0, (i.1.0, stands_on ms (Invoked id op ∷ []) q.since _ i.1.1, i.1.2))))
        (λ same. subst (λ (x : Pending). IsOpen (ms ++ Invoked id op ∷ []) x.id × ((o : Op) × StandsAt (ms ++ Invoked id op ∷ []) x.since (Invoked x.id o) × (call_by o.name o.part ≡ x.call))) same own)
        (Contains-push_cases pending p q h);
    all = λ i o. ⊎_elim
        (λ (s : i ≡ id). (p, Contains-push pending p, e ∙ sym s))
        (λ (n : i ≢ id). (let k = are.all i (open_without_new ms id op new i n o) in (k.0, Contains-append_left pending (p ∷ []) k.0 k.1, k.2)))
        (same_or_not i id);
  }
    where
      own : IsOpen (ms ++ Invoked id op ∷ []) p.id × ((o : Op) × StandsAt (ms ++ Invoked id op ∷ []) p.since (Invoked p.id o) × (call_by o.name o.part ≡ p.call))
      own = (
        subst (IsOpen (ms ++ Invoked id op ∷ [])) (sym e) (new_is_open ms id op new),
        (op, subst (λ n. StandsAt (ms ++ Invoked id op ∷ []) n (Invoked p.id op)) (sym f) (subst (λ i. StandsAt (ms ++ Invoked id op ∷ []) (length ms) (Invoked i op)) (sym e) (stands_last ms (Invoked id op))), g),
      )
