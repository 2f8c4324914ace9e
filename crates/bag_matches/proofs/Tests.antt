-- what the tests of marks decide
use Rattle.std.proofs.Common.{◌≡◌, ℕ, ℤ, ◌⊎◌, inl, inr, ⊎_elim, Bool, true, List, [], ◌∷◌, refl, sym, ap, ◌∙◌, subst}
use Rattle.std.specs.Bool.{Decides}
use Rattle.std.specs.List.{Contains, list_any}
use Rattle.std.proofs.lemmas.Bool.{true≢false, false≢true, cases_Bool, eqb-true, eq-eqb, or_cases, or_left, or_right}
use Rattle.std.proofs.lemmas.Bool.Decides.{Decides-int_eq, Decides-and, Decides-not}
use Rattle.models.specs.declared.operation.Name.{Name}
use Rattle.models.specs.declared.operation.Name.TheVariants.{Enqueue, Dequeue}
use Rattle.models.specs.declared.operation.Part.{Part}
use Rattle.models.specs.declared.operation.Part.TheVariants.{Nil, Int}
use Rattle.models.specs.declared.operation.Op.{Op}
use Rattle.models.specs.declared.finding.Answer.TheVariants.{Nothing, Number, Numbers, Many}
use Rattle.models.specs.Runs.{is_enqueue_of}
use Rattle.events.specs.Events.{Mark}
use Rattle.events.specs.Events.Mark.{Invoked, Returned, Failed, Crashed}
use Rattle.linspec.proofs.Lists.{Contains-nil, Contains-head, Contains-tail, Contains-cons_cases}
use Rattle.bag_matches.specs.Matches.{Enqueues}
use Rattle.bag_matches.specs.Counts.{is_fail_of, is_dequeue, invokes_dequeue, puts, takes}

-- a test of the elements finds one
pub any_is : {X : Type 0} (p : X → Bool) (xs : List X) → Decides (list_any p xs) ((x : X) × Contains xs x × (p x ≡ true))
any_is p [] = ((λ e. absurd (false≢true e)), (λ h. absurd (Contains-nil h.0 h.1)))
any_is p (x ∷ xs) = (
  (λ e. ⊎_elim
      (λ k. (x, Contains-head x xs, k))
      (λ k. (let r = (any_is p xs).0 k in (r.0, Contains-tail x xs r.0 r.1, r.2)))
      (or_cases (p x) (list_any p xs) e)),
  (λ h. ⊎_elim
      (λ q. or_left (p x) (list_any p xs) (subst (λ z. p z ≡ true) (sym q) h.2))
      (λ k. or_right (p x) (list_any p xs) ((any_is p xs).1 (h.0, k, h.2)))
      (Contains-cons_cases x xs h.0 h.1)),
)

pub same_int_part : (a b : ℤ) (part : Part) → part ≡ Int a → part ≡ Int b → a ≡ b
same_int_part a b part e f = let q : Int a ≡ Int b = sym e ∙ f in cc

pub enqueue_is : (v : ℤ) (name : Name) (part : Part) → Decides (is_enqueue_of v name part) ((name ≡ Enqueue) × (part ≡ Int v))
enqueue_is v Enqueue (Int w) = (
  (λ e. (refl, ap Int ((Decides-int_eq w v).0 e))),
  (λ h. (Decides-int_eq w v).1 (same_int_part w v (Int w) refl h.1)),
)
enqueue_is v _ _ = ((λ e. absurd (false≢true e)), (λ h. (let e = h.0 in let f = h.1 in cc)))

pub dequeue_test_is : (name : Name) (part : Part) → Decides (is_dequeue name part) ((name ≡ Dequeue) × (part ≡ Nil))
dequeue_test_is Dequeue Nil = ((λ e. (refl, refl)), (λ h. refl))
dequeue_test_is _ _ = ((λ e. absurd (false≢true e)), (λ h. (let e = h.0 in let f = h.1 in cc)))

fail_is : (id : ℕ) (m : Mark) → Decides (is_fail_of id m) (m ≡ Failed id)
fail_is id (Failed n) = ((λ e. ap Failed (eqb-true n id e)), (λ (q : Failed n ≡ Failed id). eq-eqb n id (let s : n ≡ id = cc in s)))
fail_is id (Invoked n op) = ((λ e. absurd (false≢true e)), (λ (q : Invoked n op ≡ Failed id). cc))
fail_is id (Returned n a) = ((λ e. absurd (false≢true e)), (λ (q : Returned n a ≡ Failed id). cc))
fail_is id (Crashed n) = ((λ e. absurd (false≢true e)), (λ (q : Crashed n ≡ Failed id). cc))

pub failed_is : (marks : List Mark) (id : ℕ) → Decides (list_any (is_fail_of id) marks) (Contains marks (Failed id))
failed_is marks id = (
  (λ e. (let r = (any_is (is_fail_of id) marks).0 e in subst (Contains marks) ((fail_is id r.0).0 r.2) r.1)),
  (λ h. (any_is (is_fail_of id) marks).1 (Failed id, h, (fail_is id (Failed id)).1 refl)),
)

-- the operation is a dequeue
abbrev pub IsDequeue : Op → Type 0
IsDequeue op = (op.name ≡ Dequeue) × (op.part ≡ Nil)

abbrev InvokesDequeue : ℕ → Mark → Type 0
InvokesDequeue id m = (op : Op) × (m ≡ Invoked id op) × IsDequeue op

invokes_is : (id : ℕ) (m : Mark) → Decides (invokes_dequeue id m) (InvokesDequeue id m)
invokes_is id (Invoked n op) =
    let both : Decides (invokes_dequeue id (Invoked n op)) ((n ≡ id) × IsDequeue op) = Decides-and _ _ ((λ e. eqb-true n id e), (λ e. eq-eqb n id e)) (dequeue_test_is op.name op.part) in (
      (λ e. (let r = both.0 e in (op, ap (λ k. Invoked k op) r.0, r.1))),
      (λ h. (let q : Invoked n op ≡ Invoked id h.0 = h.1 in let s : n ≡ id = cc in let t : op ≡ h.0 = cc in both.1 (s, subst IsDequeue (sym t) h.2))),
    )
invokes_is id (Returned n a) = ((λ e. absurd (false≢true e)), (λ h. (let q : Returned n a ≡ Invoked id h.0 = h.1 in cc)))
invokes_is id (Failed n) = ((λ e. absurd (false≢true e)), (λ h. (let q : Failed n ≡ Invoked id h.0 = h.1 in cc)))
invokes_is id (Crashed n) = ((λ e. absurd (false≢true e)), (λ h. (let q : Crashed n ≡ Invoked id h.0 = h.1 in cc)))

dequeue_in : (marks : List Mark) (id : ℕ) → Decides (list_any (invokes_dequeue id) marks) ((op : Op) × Contains marks (Invoked id op) × IsDequeue op)
dequeue_in marks id = (
  (λ e. (let r = (any_is (invokes_dequeue id) marks).0 e in let i = (invokes_is id r.0).0 r.2 in (i.0, subst (Contains marks) i.1 r.1, i.2))),
  (λ h. (any_is (invokes_dequeue id) marks).1 (Invoked id h.0, h.1, (invokes_is id (Invoked id h.0)).1 (h.0, refl, h.2))),
)

-- what puts a value in, and what takes it out
abbrev pub IsPut : List Mark → ℤ → Mark → Type 0
IsPut marks v m = (id : ℕ) × (op : Op) × (m ≡ Invoked id op) × Enqueues op v × (¬ Contains marks (Failed id))

abbrev pub IsTake : List Mark → ℤ → Mark → Type 0
IsTake marks v m = (id : ℕ) × (m ≡ Returned id (Number v)) × (op : Op) × Contains marks (Invoked id op) × IsDequeue op

pub puts_is : (marks : List Mark) (v : ℤ) (m : Mark) → Decides (puts marks v m) (IsPut marks v m)
puts_is marks v (Invoked n op) =
    let both : Decides (puts marks v (Invoked n op)) (Enqueues op v × (¬ Contains marks (Failed n))) = Decides-and _ _ (enqueue_is v op.name op.part) (Decides-not _ (failed_is marks n)) in (
      (λ e. (let r = both.0 e in (n, op, refl, r.0, r.1))),
      (λ h.
          let q : Invoked n op ≡ Invoked h.0 h.1 = h.2 in
          let s : n ≡ h.0 = cc in
          let t : op ≡ h.1 = cc in
          both.1 (subst (λ o. Enqueues o v) (sym t) h.3, subst (λ k. ¬ Contains marks (Failed k)) (sym s) h.4)),
    )
puts_is marks v (Returned n a) = ((λ e. absurd (false≢true e)), (λ h. (let q : Returned n a ≡ Invoked h.0 h.1 = h.2 in cc)))
puts_is marks v (Failed n) = ((λ e. absurd (false≢true e)), (λ h. (let q : Failed n ≡ Invoked h.0 h.1 = h.2 in cc)))
puts_is marks v (Crashed n) = ((λ e. absurd (false≢true e)), (λ h. (let q : Crashed n ≡ Invoked h.0 h.1 = h.2 in cc)))

pub takes_is : (marks : List Mark) (v : ℤ) (m : Mark) → Decides (takes marks v m) (IsTake marks v m)
takes_is marks v (Returned n (Number w)) =
    let both : Decides (takes marks v (Returned n (Number w))) ((w ≡ v) × ((op : Op) × Contains marks (Invoked n op) × IsDequeue op)) = Decides-and _ _ (Decides-int_eq w v) (dequeue_in marks n) in (
      (λ e. (let r = both.0 e in (n, ap (λ x. Returned n (Number x)) r.0, r.1.0, r.1.1, r.1.2))),
      (λ h.
          let q : Returned n (Number w) ≡ Returned h.0 (Number v) = h.1 in
          let s : n ≡ h.0 = cc in
          let t : Number w ≡ Number v = cc in
          let u : w ≡ v = cc in
          both.1 (u, (h.2, subst (λ k. Contains marks (Invoked k h.2)) (sym s) h.3, h.4))),
    )
takes_is marks v (Returned n Nothing) = ((λ e. absurd (false≢true e)), (λ h. (let q : Returned n Nothing ≡ Returned h.0 (Number v) = h.1 in cc)))
takes_is marks v (Returned n (Numbers a b)) = ((λ e. absurd (false≢true e)), (λ h. (let q : Returned n (Numbers a b) ≡ Returned h.0 (Number v) = h.1 in cc)))
takes_is marks v (Returned n (Many s)) = ((λ e. absurd (false≢true e)), (λ h. (let q : Returned n (Many s) ≡ Returned h.0 (Number v) = h.1 in cc)))
takes_is marks v (Invoked n op) = ((λ e. absurd (false≢true e)), (λ h. (let q : Invoked n op ≡ Returned h.0 (Number v) = h.1 in cc)))
takes_is marks v (Failed n) = ((λ e. absurd (false≢true e)), (λ h. (let q : Failed n ≡ Returned h.0 (Number v) = h.1 in cc)))
takes_is marks v (Crashed n) = ((λ e. absurd (false≢true e)), (λ h. (let q : Crashed n ≡ Returned h.0 (Number v) = h.1 in cc)))

pub no_both : (name : Name) → name ≡ Dequeue → name ≡ Enqueue → ⊥
no_both name e f = let clash : Dequeue ≡ Enqueue = sym e ∙ f in cc

pub enqueues_any : (name : Name) (part : Part) → ((v : ℤ) × ((name ≡ Enqueue) × (part ≡ Int v))) ⊎ ((v : ℤ) → ¬ ((name ≡ Enqueue) × (part ≡ Int v)))
enqueues_any Enqueue (Int v) = inl (v, (refl, refl))
enqueues_any _ _ = inr (λ v h. (let e = h.0 in let f = h.1 in cc))

pub dequeue_or_not : (op : Op) → IsDequeue op ⊎ (¬ IsDequeue op)
dequeue_or_not op = ⊎_elim
    (λ e. inl ((dequeue_test_is op.name op.part).0 e))
    (λ e. inr (λ h. true≢false (sym ((dequeue_test_is op.name op.part).1 h) ∙ e)))
    (cases_Bool (is_dequeue op.name op.part))
