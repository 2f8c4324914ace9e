-- the meaning of a status for the marks of a well-formed history
use Rattle.std.proofs.Common.{◌≡◌, ◌≢◌, ℕ, cond, List, [], ◌∷◌, ◌++◌, refl, sym, ap, ◌∙◌, subst, ⊎_elim, append_assoc}
use Rattle.std.specs.List.{Contains}
use Rattle.std.proofs.lemmas.Bool.{cases_eq, eq-eqb, ne_eqb}
use Rattle.std.proofs.lemmas.List.{append-nil}
use Rattle.std.proofs.lemmas.List.Elements.{Contains-append_left, Contains-push, Contains-push_cases}
use Rattle.models.specs.declared.finding.Answer.{Answer}
use Rattle.events.specs.Events.{Mark, Entry, marks}
use Rattle.events.specs.Events.Mark.{Invoked, Returned, Failed, Crashed}
use Rattle.linspec.specs.Operations.{IsInvoked, HasReturned}
use Rattle.linspec.specs.MarkRule.{id_of, IsNew, MayFollow, AreWellFormed}
use Rattle.linspec.proofs.Lists.{Contains-nil}
use Rattle.linspec.proofs.Filters.{to_map}
use Rattle.linspec.proofs.Prefixes.{marks-append}
use Rattle.witness.specs.declared.statuses.OperationStatus.{OperationStatus}
use Rattle.witness.specs.declared.statuses.OperationStatus.TheVariants.{NoOperation, Pending, Returned as ReturnedAt, Failed as HasFailed}
use Rattle.witness.specs.Statuses.{status_by, status_after, status_from, status_in}

pub record IsPending (entries : List Entry) (id : ℕ) : Type 0 where
  pub invoked : IsInvoked (marks entries) id
  pub not_returned : ¬ HasReturned (marks entries) id
  pub not_failed : ¬ Contains (marks entries) (Failed id)

pub record IsReturned (entries : List Entry) (id index : ℕ) : Type 0 where
  pub invoked : IsInvoked (marks entries) id
  pub entry : Entry
  pub there : Contains entries entry
  pub at : entry.index ≡ index
  pub answer : Answer
  pub says : entry.mark ≡ Returned id answer
  pub alone : (e : Entry) (a : Answer) → Contains entries e → e.mark ≡ Returned id a → e.index ≡ index
  pub not_failed : ¬ Contains (marks entries) (Failed id)

pub record HasAFailure (entries : List Entry) (id : ℕ) : Type 0 where
  pub invoked : IsInvoked (marks entries) id
  pub not_returned : ¬ HasReturned (marks entries) id
  pub failed : Contains (marks entries) (Failed id)

abbrev pub Knows : List Entry → ℕ → OperationStatus → Type 0
Knows entries id NoOperation = IsNew (marks entries) id
Knows entries id Pending = IsPending entries id
Knows entries id (ReturnedAt index) = IsReturned entries id index
Knows entries id HasFailed = HasAFailure entries id

module _ (es : List Entry) (e : Entry) (m : Mark) (is : e.mark ≡ m) where
  pushed : marks (es ++ e ∷ []) ≡ marks es ++ m ∷ []
  pushed = marks-append es (e ∷ []) ∙ ap (λ n. marks es ++ n ∷ []) is

  into : (n : Mark) → Contains (marks es) n → Contains (marks (es ++ e ∷ [])) n
  into n h = subst (λ l. Contains l n) (sym pushed) (Contains-append_left (marks es) (m ∷ []) n h)

  last_in : Contains (marks (es ++ e ∷ [])) m
  last_in = subst (λ l. Contains l m) (sym pushed) (Contains-push (marks es) m)

  -- a mark is an earlier one, or the last
  out_of : (n : Mark) → Contains (marks (es ++ e ∷ [])) n → (Contains (marks es) n → ⊥) → m ≡ n
  out_of n h none = ⊎_elim (λ k. absurd (none k)) (λ q. q) (Contains-push_cases (marks es) m n (subst (λ l. Contains l n) pushed h))

  was : (n : Mark) → Contains (marks (es ++ e ∷ [])) n → m ≢ n → Contains (marks es) n
  was n h other = ⊎_elim (λ k. k) (λ q. absurd (other q)) (Contains-push_cases (marks es) m n (subst (λ l. Contains l n) pushed h))

-- the mark is of the operation
here : (es : List Entry) (e : Entry) (m : Mark) → e.mark ≡ m → MayFollow (marks es) m → Knows (es ++ e ∷ []) (id_of m) (status_by e.index m)
here es e (Invoked i op) is new = record {
  invoked = (op, last_in es e (Invoked i op) is);
  not_returned = λ r. (let q = out_of es e (Invoked i op) is (Returned i r.0) r.1 (λ k. new (Returned i r.0) k refl) in cc);
  not_failed = λ h. (let q = out_of es e (Invoked i op) is (Failed i) h (λ k. new (Failed i) k refl) in cc);
}
here es e (Returned i a) is still = record {
  invoked = (still.invoked.0, into es e (Returned i a) is (Invoked i still.invoked.0) still.invoked.1);
  entry = e;
  there = Contains-push es e;
  at = refl;
  answer = a;
  says = is;
  alone = λ f b h s. ⊎_elim
      (λ k. absurd (still.not_returned (b, subst (Contains (marks es)) s (to_map (λ (w : Entry). w.mark) es f k))))
      (λ q. ap (λ (w : Entry). w.index) (sym q))
      (Contains-push_cases es e f h);
  not_failed = λ h. still.not_failed (was es e (Returned i a) is (Failed i) h (λ q. cc));
}
here es e (Failed i) is still = record {
  invoked = (still.invoked.0, into es e (Failed i) is (Invoked i still.invoked.0) still.invoked.1);
  not_returned = λ r. still.not_returned (r.0, was es e (Failed i) is (Returned i r.0) r.1 (λ q. cc));
  failed = last_in es e (Failed i) is;
}
here es e (Crashed i) is still = record {
  invoked = (still.invoked.0, into es e (Crashed i) is (Invoked i still.invoked.0) still.invoked.1);
  not_returned = λ r. still.not_returned (r.0, was es e (Crashed i) is (Returned i r.0) r.1 (λ q. cc));
  not_failed = λ h. still.not_failed (was es e (Crashed i) is (Failed i) h (λ q. cc));
}

-- it is of another one
module _ (es : List Entry) (e : Entry) (id : ℕ) (other : id_of e.mark ≢ id) where
  not_this : (n : Mark) → id_of n ≡ id → e.mark ≢ n
  not_this n q s = other (ap id_of s ∙ q)

  returned_before : HasReturned (marks (es ++ e ∷ [])) id → HasReturned (marks es) id
  returned_before r = (r.0, was es e e.mark refl (Returned id r.0) r.1 (not_this (Returned id r.0) refl))

  failed_before : Contains (marks (es ++ e ∷ [])) (Failed id) → Contains (marks es) (Failed id)
  failed_before h = was es e e.mark refl (Failed id) h (not_this (Failed id) refl)

  there_too : (f : OperationStatus) → Knows es id f → Knows (es ++ e ∷ []) id f
  there_too NoOperation new = λ n h q. new n (was es e e.mark refl n h (not_this n q)) q
  there_too Pending p = record {
    invoked = (p.invoked.0, into es e e.mark refl (Invoked id p.invoked.0) p.invoked.1);
    not_returned = λ r. p.not_returned (returned_before r);
    not_failed = λ h. p.not_failed (failed_before h);
  }
  there_too (ReturnedAt index) p = record {
    invoked = (p.invoked.0, into es e e.mark refl (Invoked id p.invoked.0) p.invoked.1);
    entry = p.entry;
    there = Contains-append_left es (e ∷ []) p.entry p.there;
    at = p.at;
    answer = p.answer;
    says = p.says;
    alone = λ f a h s. ⊎_elim (λ k. p.alone f a k s) (λ q. absurd (not_this (Returned id a) refl (ap (λ (w : Entry). w.mark) q ∙ s))) (Contains-push_cases es e f h);
    not_failed = λ h. p.not_failed (failed_before h);
  }
  there_too HasFailed p = record {
    invoked = (p.invoked.0, into es e e.mark refl (Invoked id p.invoked.0) p.invoked.1);
    not_returned = λ r. p.not_returned (returned_before r);
    failed = into es e e.mark refl (Failed id) p.failed;
  }

step : (es : List Entry) (e : Entry) (id : ℕ) (f : OperationStatus) → MayFollow (marks es) e.mark → Knows es id f → Knows (es ++ e ∷ []) id (status_after f id e)
step es e id f may k =
    ⊎_elim
    (λ q. subst (Knows (es ++ e ∷ []) id) (sym (ap (λ b. cond b (status_by e.index e.mark) f) (eq-eqb (id_of e.mark) id q)))
    (subst (λ i. Knows (es ++ e ∷ []) i (status_by e.index e.mark)) q (here es e e.mark refl may)))
    (λ ne. subst (Knows (es ++ e ∷ []) id) (sym (ap (λ b. cond b (status_by e.index e.mark) f) (ne_eqb (id_of e.mark) id ne))) (there_too es e id ne f k))
    (cases_eq (id_of e.mark) id)

known_from : (rest done : List Entry) (id : ℕ) (f : OperationStatus) → AreWellFormed (marks (done ++ rest)) → Knows done id f → Knows (done ++ rest) id (status_from f id rest)
known_from [] done id f well k = subst (λ l. Knows l id f) (sym (append-nil done)) k
known_from (e ∷ rest) done id f well k =
    let q : (done ++ e ∷ []) ++ rest ≡ done ++ e ∷ rest = append_assoc done (e ∷ []) rest in
    let may : MayFollow (marks done) e.mark = well (marks done) (marks rest) e.mark (sym (marks-append done (e ∷ rest))) in
    subst (λ l. Knows l id (status_from (status_after f id e) id rest)) q
    (known_from rest (done ++ e ∷ []) id (status_after f id e) (subst (λ l. AreWellFormed (marks l)) (sym q) well) (step done e id f may k))

pub knows : (entries : List Entry) → AreWellFormed (marks entries) → (id : ℕ) → Knows entries id (status_in entries id)
knows entries well id = known_from entries [] id NoOperation well (λ m h. absurd (Contains-nil m h))
