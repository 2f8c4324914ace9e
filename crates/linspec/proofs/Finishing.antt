-- a history is linearizable just where its operations can be taken one after another
use Rattle.std.proofs.Common.{◌≢◌, ◌↔◌, ℕ, ◌⊎◌, inl, inr, ⊎_elim, List, [], ◌∷◌, ◌++◌, refl, sym, ap, ◌∙◌, subst}
use Rattle.std.specs.List.{Contains}
use Rattle.std.proofs.lemmas.List.Elements.{Contains-append_left, Contains-push, Contains-push_cases}
use Rattle.models.specs.declared.finding.Answer.{Answer}
use Rattle.models.specs.Objects.{Object, Fits}
use Rattle.events.specs.Events.{Mark}
use Rattle.events.specs.Events.Mark.{Invoked, Returned}
use Rattle.linspec.specs.Operations.{HasReturned, Precedes}
use Rattle.linspec.specs.Orders.{Taken, Includes, Pairwise, Run, IsLegalOrder, IsLinearizable}
use Rattle.linspec.specs.Finishing.{MayStandAfter, MayComeNext, Finishes, CanFinish}
use Rattle.linspec.proofs.Lists.{Contains-nil, Contains-head, Contains-tail, Contains-cons_cases}

module _ (o : Object) (marks : List Mark) where
  -- the rest of a legal order, after the taken ones
  record IsRest (taken : List ℕ) (s : o.State) (rest : List Taken) (t : o.State) : Type 0 where
    invoked : (x : Taken) → Contains rest x → Contains marks (Invoked x.id x.op)
    once : Pairwise (λ x y. x.id ≢ y.id) rest
    stands : (x : Taken) → Contains rest x → MayStandAfter marks taken x.id
    all_done : (id : ℕ) → HasReturned marks id → Contains taken id ⊎ Includes rest id
    in_time : Pairwise (λ x y. ¬ Precedes marks y.id x.id) rest
    run : Run o s rest t
    fits : (x : Taken) (answer : Answer) → Contains rest x → Contains marks (Returned x.id answer) → Fits x.found answer

  -- the first of the rest
  with_first : (taken : List ℕ) (x : Taken) (rest : List Taken) (s mid t : o.State) → MayComeNext marks taken x → o.Steps s x.op x.found mid → IsRest (taken ++ x.id ∷ []) mid rest t → IsRest taken s (x ∷ rest) t
  with_first taken x rest s mid t next step r = record {
    invoked = λ y h. ⊎_elim (λ e. subst (λ (z : Taken). Contains marks (Invoked z.id z.op)) e next.invoked) (λ k. r.invoked y k) (Contains-cons_cases x rest y h);
    once = ((λ y h e. (r.stands y h).fresh (subst (Contains (taken ++ x.id ∷ [])) e (Contains-push taken x.id))), r.once);
    stands = λ y h. ⊎_elim
        (λ e. subst (λ (z : Taken). MayStandAfter marks taken z.id) e next.stands)
        (λ k. record {
          fresh = λ i. (r.stands y k).fresh (Contains-append_left taken (x.id ∷ []) y.id i);
          not_failed = (r.stands y k).not_failed;
          in_time = λ z i. (r.stands y k).in_time z (Contains-append_left taken (x.id ∷ []) z i);
        })
        (Contains-cons_cases x rest y h);
    all_done = λ id d. ⊎_elim
        (λ k. ⊎_elim inl (λ e. inr (x, Contains-head x rest, e)) (Contains-push_cases taken x.id id k))
        (λ i. inr (i.0, Contains-tail x rest i.0 i.1, i.2))
        (r.all_done id d);
    in_time = ((λ y h. (r.stands y h).in_time x.id (Contains-push taken x.id)), r.in_time);
    run = (mid, step, r.run);
    fits = λ y a h k. ⊎_elim
        (λ e. subst (λ (z : Taken). Fits z.found a) e (next.fits a (subst (λ (z : Taken). Contains marks (Returned z.id a)) (sym e) k)))
        (λ i. r.fits y a i k)
        (Contains-cons_cases x rest y h);
  }

  without_first : (taken : List ℕ) (x : Taken) (rest : List Taken) (s t : o.State) (r : IsRest taken s (x ∷ rest) t) → IsRest (taken ++ x.id ∷ []) r.run.0 rest t
  without_first taken x rest s t r = record {
    invoked = λ y h. r.invoked y (Contains-tail x rest y h);
    once = r.once.1;
    stands = λ y h. (let before = r.stands y (Contains-tail x rest y h) in record {
      fresh = λ i. ⊎_elim before.fresh (r.once.0 y h) (Contains-push_cases taken x.id y.id i);
      not_failed = before.not_failed;
      in_time = λ z i. ⊎_elim (before.in_time z) (λ e. subst (λ w. ¬ Precedes marks y.id w) e (r.in_time.0 y h)) (Contains-push_cases taken x.id z i);
    });
    all_done = λ id d. ⊎_elim
        (λ k. inl (Contains-append_left taken (x.id ∷ []) id k))
        (λ i. ⊎_elim
        (λ e. inl (subst (Contains (taken ++ x.id ∷ [])) (ap (λ (z : Taken). z.id) e ∙ i.2) (Contains-push taken x.id)))
        (λ k. inr (i.0, k, i.2))
        (Contains-cons_cases x rest i.0 i.1))
        (r.all_done id d);
    in_time = r.in_time.1;
    run = r.run.2;
    fits = λ y a h k. r.fits y a (Contains-tail x rest y h) k;
  }

  rest_of : (taken : List ℕ) (s : o.State) (rest : List Taken) → Finishes o.Steps marks taken s rest → (t : o.State) × IsRest taken s rest t
  rest_of taken s [] f = (
    s,
    record {
      invoked = λ x h. absurd (Contains-nil x h);
      once = tt;
      stands = λ x h. absurd (Contains-nil x h);
      all_done = λ id d. inl (f id d);
      in_time = tt;
      run = refl;
      fits = λ x a h k. absurd (Contains-nil x h);
    },
  )
  rest_of taken s (x ∷ rest) f =
      let r : (t : o.State) × IsRest (taken ++ x.id ∷ []) f.1.0 rest t = rest_of (taken ++ x.id ∷ []) f.1.0 rest f.1.2 in
      (r.0, with_first taken x rest s f.1.0 r.0 f.0 f.1.1 r.1)

  finish_of : (taken : List ℕ) (s : o.State) (rest : List Taken) (t : o.State) → IsRest taken s rest t → Finishes o.Steps marks taken s rest
  finish_of taken s [] t r = λ id d. ⊎_elim (λ k. k) (λ i. absurd (Contains-nil i.0 i.1)) (r.all_done id d)
  finish_of taken s (x ∷ rest) t r = (
    record { invoked = r.invoked x (Contains-head x rest); stands = r.stands x (Contains-head x rest); fits = λ a k. r.fits x a (Contains-head x rest) k },
    (r.run.0, r.run.1, finish_of (taken ++ x.id ∷ []) r.run.0 rest t (without_first taken x rest s t r)),
  )

  legal_of : (rest : List Taken) (t : o.State) → IsRest [] o.start rest t → IsLegalOrder o marks rest t
  legal_of rest t r = record {
    invoked = r.invoked;
    once = r.once;
    none_failed = λ x h. (r.stands x h).not_failed;
    all_done = λ id d. ⊎_elim (λ k. absurd (Contains-nil id k)) (λ i. i) (r.all_done id d);
    in_time = r.in_time;
    run = r.run;
    fits = r.fits;
  }

  of_legal : (order : List Taken) (t : o.State) → IsLegalOrder o marks order t → IsRest [] o.start order t
  of_legal order t l = record {
    invoked = l.invoked;
    once = l.once;
    stands = λ x h. record { fresh = Contains-nil x.id; not_failed = l.none_failed x h; in_time = λ y k. absurd (Contains-nil y k) };
    all_done = λ id d. inr (l.all_done id d);
    in_time = l.in_time;
    run = l.run;
    fits = l.fits;
  }

  pub IsLinearizable-can_finish : IsLinearizable o marks ↔ CanFinish o.Steps marks [] o.start
  IsLinearizable-can_finish = (
    (λ h. (h.0, finish_of [] o.start h.0 h.1 (of_legal h.0 h.1 h.2))),
    (λ c. let r : (t : o.State) × IsRest [] o.start c.0 t = rest_of [] o.start c.0 c.1 in (c.0, r.0, legal_of c.0 r.0 r.1)),
  )
