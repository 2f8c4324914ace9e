-- each legal order has an end, and only one with its state
use Rattle.std.proofs.Common.{◌≡◌, ◌≢◌, ◌↔◌, ℕ, ◌⊎◌, inl, inr, ⊎_elim, Bool, IsTrue, Option, Some, None, List, [], ◌∷◌, ◌++◌, refl, sym, ap, ◌∙◌, subst, append_assoc}
use Rattle.std.specs.List.{Contains}
use Rattle.std.specs.Ordering.{nat_cmp}
use Rattle.std.specs.FinMap as map
use Rattle.std.specs.FinSet as set
use Rattle.std.proofs.lemmas.Bool.{cases_Bool, cases_eq, true≢false}
use Rattle.std.proofs.lemmas.List.{append-nil}
use Rattle.models.specs.declared.operation.Op.{Op}
use Rattle.models.specs.declared.finding.Found.{Found}
use Rattle.models.specs.declared.finding.Answer.{Answer}
use Rattle.models.specs.Objects.{Object}
use Rattle.events.specs.Events.{Mark}
use Rattle.events.specs.Events.Mark.{Invoked, Returned, Failed, Crashed}
use Rattle.linspec.specs.Operations.{IsInvoked, HasReturned, IsOpen}
use Rattle.linspec.specs.Orders.{Taken, Pairwise, Includes, IsLegalOrder}
use Rattle.linspec.specs.Ends.{End, CountsIn, HasCrashedBy, LeavesBy, every, is_no_read, Leaves}
use Rattle.linspec.proofs.Lists.{Contains-nil, Contains-head, Contains-tail, Contains-cons_cases, Pairwise-across}
use Rattle.linspec.proofs.Parts.{Records, Marks, Records-add, Records-skip, Records-unique, Marks-add, Marks-skip, Marks-unique}

-- a mark of which P holds, or none
pub some_mark : (P : Mark → Type 0) → ((m : Mark) → P m ⊎ (¬ P m)) → (marks : List Mark) → ((m : Mark) × Contains marks m × P m) ⊎ ((m : Mark) → Contains marks m → ¬ P m)
some_mark P dec [] = inr (λ m h. absurd (Contains-nil m h))
some_mark P dec (m ∷ marks) =
    ⊎_elim
    (λ here. inl (m, Contains-head m marks, here))
    (λ not_here. ⊎_elim
    (λ found. inl (found.0, Contains-tail m marks found.0 found.1, found.2))
    (λ none. inr (λ n h. ⊎_elim (λ e. subst (λ w. ¬ P w) e not_here) (none n) (Contains-cons_cases m marks n h)))
    (some_mark P dec marks))
    (dec m)

is_invocation : (id : ℕ) (m : Mark) → ((op : Op) × (m ≡ Invoked id op)) ⊎ (¬ ((op : Op) × (m ≡ Invoked id op)))
is_invocation id (Invoked i op) = ⊎_elim (λ e. inl (op, ap (λ j. Invoked j op) e)) (λ ne. inr (λ h. ne (let q : Invoked i op ≡ Invoked id h.0 = h.1 in let t : i ≡ id = cc in t))) (cases_eq i id)
is_invocation id (Returned i answer) = inr (λ h. (let q : Returned i answer ≡ Invoked id h.0 = h.1 in cc))
is_invocation id (Failed i) = inr (λ h. (let q : Failed i ≡ Invoked id h.0 = h.1 in cc))
is_invocation id (Crashed i) = inr (λ h. (let q : Crashed i ≡ Invoked id h.0 = h.1 in cc))

is_return : (id : ℕ) (m : Mark) → ((a : Answer) × (m ≡ Returned id a)) ⊎ (¬ ((a : Answer) × (m ≡ Returned id a)))
is_return id (Returned i a) = ⊎_elim (λ e. inl (a, ap (λ j. Returned j a) e)) (λ ne. inr (λ h. ne (let q : Returned i a ≡ Returned id h.0 = h.1 in let t : i ≡ id = cc in t))) (cases_eq i id)
is_return id (Invoked i op) = inr (λ h. (let q : Invoked i op ≡ Returned id h.0 = h.1 in cc))
is_return id (Failed i) = inr (λ h. (let q : Failed i ≡ Returned id h.0 = h.1 in cc))
is_return id (Crashed i) = inr (λ h. (let q : Crashed i ≡ Returned id h.0 = h.1 in cc))

is_fail : (id : ℕ) (m : Mark) → (m ≡ Failed id) ⊎ (m ≢ Failed id)
is_fail id (Failed i) = ⊎_elim (λ e. inl (ap Failed e)) (λ ne. inr (λ h. ne (let t : i ≡ id = cc in t))) (cases_eq i id)
is_fail id (Invoked i op) = inr (λ h. cc)
is_fail id (Returned i a) = inr (λ h. cc)
is_fail id (Crashed i) = inr (λ h. cc)

is_crash : (id : ℕ) (m : Mark) → (m ≡ Crashed id) ⊎ (m ≢ Crashed id)
is_crash id (Crashed i) = ⊎_elim (λ e. inl (ap Crashed e)) (λ ne. inr (λ h. ne (let t : i ≡ id = cc in t))) (cases_eq i id)
is_crash id (Invoked i op) = inr (λ h. cc)
is_crash id (Returned i a) = inr (λ h. cc)
is_crash id (Failed i) = inr (λ h. cc)

pub invoked_or_not : (marks : List Mark) (id : ℕ) → IsInvoked marks id ⊎ (¬ IsInvoked marks id)
invoked_or_not marks id = ⊎_elim (λ h. inl (h.2.0, subst (Contains marks) h.2.1 h.1)) (λ none. inr (λ r. none _ r.1 (r.0, refl))) (some_mark _ (is_invocation id) marks)

pub returned_or_not : (marks : List Mark) (id : ℕ) → HasReturned marks id ⊎ (¬ HasReturned marks id)
returned_or_not marks id = ⊎_elim (λ h. inl (h.2.0, subst (Contains marks) h.2.1 h.1)) (λ none. inr (λ r. none _ r.1 (r.0, refl))) (some_mark _ (is_return id) marks)

pub failed_or_not : (marks : List Mark) (id : ℕ) → Contains marks (Failed id) ⊎ (¬ Contains marks (Failed id))
failed_or_not marks id = ⊎_elim (λ h. inl (subst (Contains marks) h.2 h.1)) (λ none. inr (λ r. none _ r refl)) (some_mark _ (is_fail id) marks)

pub crashed_or_not : (marks : List Mark) (id : ℕ) → Contains marks (Crashed id) ⊎ (¬ Contains marks (Crashed id))
crashed_or_not marks id = ⊎_elim (λ h. inl (subst (Contains marks) h.2 h.1)) (λ none. inr (λ r. none _ r refl)) (some_mark _ (is_crash id) marks)

is_counted : (counts : Op → Bool) (id : ℕ) (m : Mark) → ((op : Op) × (m ≡ Invoked id op) × IsTrue (counts op)) ⊎ (¬ ((op : Op) × (m ≡ Invoked id op) × IsTrue (counts op)))
is_counted counts id (Invoked i op) =
    ⊎_elim
    (λ e. ⊎_elim
    (λ t. inl (op, ap (λ j. Invoked j op) e, t))
    (λ f. inr (λ h. (let q : Invoked i op ≡ Invoked id h.0 = h.1 in let same : op ≡ h.0 = cc in true≢false (sym h.2 ∙ ap counts (sym same) ∙ f))))
    (cases_Bool (counts op)))
    (λ ne. inr (λ h. ne (let q : Invoked i op ≡ Invoked id h.0 = h.1 in let t : i ≡ id = cc in t)))
    (cases_eq i id)
is_counted counts id (Returned i a) = inr (λ h. (let q : Returned i a ≡ Invoked id h.0 = h.1 in cc))
is_counted counts id (Failed i) = inr (λ h. (let q : Failed i ≡ Invoked id h.0 = h.1 in cc))
is_counted counts id (Crashed i) = inr (λ h. (let q : Crashed i ≡ Invoked id h.0 = h.1 in cc))

pub counted_or_not : (counts : Op → Bool) (marks : List Mark) (id : ℕ) → CountsIn counts marks id ⊎ (¬ CountsIn counts marks id)
counted_or_not counts marks id =
    ⊎_elim
    (λ h. inl (h.2.0, subst (Contains marks) h.2.1 h.1, h.2.2))
    (λ none. inr (λ r. none _ r.1 (r.0, refl, r.2)))
    (some_mark _ (is_counted counts id) marks)

pub has_crashed_or_not : (counts : Op → Bool) (marks : List Mark) (id : ℕ) → HasCrashedBy counts marks id ⊎ (¬ HasCrashedBy counts marks id)
has_crashed_or_not counts marks id =
    ⊎_elim
    (λ c. ⊎_elim (λ k. inl (c, k)) (λ nk. inr (λ h. nk h.1)) (counted_or_not counts marks id))
    (λ nc. inr (λ h. nc h.0))
    (crashed_or_not marks id)

pub open_or_not : (marks : List Mark) (id : ℕ) → IsOpen marks id ⊎ (¬ IsOpen marks id)
open_or_not marks id =
    ⊎_elim
    (λ i. ⊎_elim (λ r. inr (λ h. h.not_returned r))
    (λ nr. ⊎_elim (λ f. inr (λ h. h.not_failed f))
    (λ nf. ⊎_elim (λ c. inr (λ h. h.not_crashed c)) (λ nc. inl (record { invoked = i; not_returned = nr; not_failed = nf; not_crashed = nc })) (crashed_or_not marks id))
    (failed_or_not marks id))
    (returned_or_not marks id))
    (λ ni. inr (λ h. ni h.invoked))
    (invoked_or_not marks id)

pub not_before : (xs ys : List Taken) (x : Taken) → Pairwise (λ x y. x.id ≢ y.id) (xs ++ x ∷ ys) → ¬ Includes xs x.id
not_before xs ys x once h = Pairwise-across (λ x y. x.id ≢ y.id) xs (x ∷ ys) once h.0 x h.1 (Contains-head x ys) h.2

module _ (Q : ℕ → Type 0) (dec : (i : ℕ) → Q i ⊎ (¬ Q i)) where
  records_from : (xs ys : List Taken) (p : map.FinMap nat_cmp Found) → Pairwise (λ x y. x.id ≢ y.id) (xs ++ ys) → Records Q xs p → (q : map.FinMap nat_cmp Found) × Records Q (xs ++ ys) q
  records_from xs [] p once r = (p, subst (λ l. Records Q l p) (sym (append-nil xs)) r)
  records_from xs (x ∷ ys) p once r =
      let e : (xs ++ x ∷ []) ++ ys ≡ xs ++ x ∷ ys = append_assoc xs (x ∷ []) ys in
      let once' : Pairwise (λ x y. x.id ≢ y.id) ((xs ++ x ∷ []) ++ ys) = subst (Pairwise (λ x y. x.id ≢ y.id)) (sym e) once in
      let result : (q : map.FinMap nat_cmp Found) × Records Q ((xs ++ x ∷ []) ++ ys) q =
      ⊎_elim
      (λ q. records_from (xs ++ x ∷ []) ys (map.insert p x.id x.found) once' (Records-add Q xs p x q (not_before xs ys x once) r))
      (λ nq. records_from (xs ++ x ∷ []) ys p once' (Records-skip Q xs p x nq r))
      (dec x.id) in
      (result.0, subst (λ l. Records Q l result.0) e result.1)

  marks_from : (xs ys : List Taken) (s : set.FinSet nat_cmp) → Marks Q xs s → (t : set.FinSet nat_cmp) × Marks Q (xs ++ ys) t
  marks_from xs [] s r = (s, subst (λ l. Marks Q l s) (sym (append-nil xs)) r)
  marks_from xs (x ∷ ys) s r =
      let e : (xs ++ x ∷ []) ++ ys ≡ xs ++ x ∷ ys = append_assoc xs (x ∷ []) ys in
      let result : (t : set.FinSet nat_cmp) × Marks Q ((xs ++ x ∷ []) ++ ys) t =
      ⊎_elim
      (λ q. marks_from (xs ++ x ∷ []) ys (set.insert s x.id) (Marks-add Q xs s x q r))
      (λ nq. marks_from (xs ++ x ∷ []) ys s (Marks-skip Q xs s x nq r))
      (dec x.id) in
      (result.0, subst (λ l. Marks Q l result.0) e result.1)

  pub records_of : (xs : List Taken) → Pairwise (λ x y. x.id ≢ y.id) xs → (q : map.FinMap nat_cmp Found) × Records Q xs q
  records_of xs once = records_from [] xs map.empty once
      (λ id f. ((λ h. absurd (none_some _ f (map.get-empty {X = Found} nat_cmp id) h)), (λ h. absurd (Contains-nil _ h.0.1))))
    where
      none_some : (o : Option Found) (f : Found) → o ≡ None → o ≡ Some f → ⊥
      none_some o f e g = cc

  pub marks_of : (xs : List Taken) → (t : set.FinSet nat_cmp) × Marks Q xs t
  marks_of xs = marks_from [] xs set.empty
      (λ id. ((λ h. absurd (true≢false (sym h ∙ set.contains-empty nat_cmp id))), (λ h. absurd (Contains-nil _ h.0.1))))

-- a legal order leaves an end
pub end_of_by : (counts : Op → Bool) (o : Object) (marks : List Mark) (order : List Taken) (s : o.State) → IsLegalOrder o marks order s → (e : End o.State) × LeavesBy counts o marks order e × (e.state ≡ s)
end_of_by counts o marks order s l =
    let p : (q : map.FinMap nat_cmp Found) × Records (IsOpen marks) order q = records_of (IsOpen marks) (open_or_not marks) order l.once in
    let c : (t : set.FinSet nat_cmp) × Marks (HasCrashedBy counts marks) order t = marks_of (HasCrashedBy counts marks) (has_crashed_or_not counts marks) order in
    (record { state = s; pending = p.0; crashed = c.0 }, record { legal = l; pending = p.1; crashed = c.1 }, refl)

pub end_of : (o : Object) (marks : List Mark) (order : List Taken) (s : o.State) → IsLegalOrder o marks order s → (e : End o.State) × Leaves o marks order e × (e.state ≡ s)
end_of = end_of_by is_no_read

-- and one only
pub end_is : {counts : Op → Bool} (o : Object) (marks : List Mark) (order : List Taken) (e f : End o.State) → e.state ≡ f.state → LeavesBy counts o marks order e → LeavesBy counts o marks order f → e ≡ f
end_is {counts} o marks order e f s l k =
    let p : e.pending ≡ f.pending = Records-unique (IsOpen marks) order e.pending f.pending l.pending k.pending in
    let c : e.crashed ≡ f.crashed = Marks-unique (HasCrashedBy counts marks) order e.crashed f.crashed l.crashed k.crashed in
    λ i. record { state = s i; pending = p i; crashed = c i }

-- where each operation counts, the crashed part has just the crashed operations of the order
pub crashed_part : (o : Object) (marks : List Mark) (order : List Taken) (e : End o.State) → LeavesBy every o marks order e → (id : ℕ) → IsTrue (set.contains e.crashed id) ↔ (Includes order id × Contains marks (Crashed id))
crashed_part o marks order e v id = (
  (λ h. (let r : Includes order id × HasCrashedBy every marks id = (v.crashed id).0 h in (r.0, r.1.0))),
  (λ h. (v.crashed id).1 (h.0, (h.1, (h.0.0.op, subst (λ j. Contains marks (Invoked j h.0.0.op)) h.0.2 (v.legal.invoked h.0.0 h.0.1), refl)))),
)
