-- the effect of one more mark on the legal orders
use Rattle.std.proofs.Common.{◌≡◌, ◌≢◌, ℕ, ◌⊎◌, inl, inr, ⊎_elim, List, [], ◌∷◌, ◌++◌, refl, sym, ap, ◌∙◌, subst, append_assoc}
use Rattle.std.specs.List.{Contains}
use Rattle.std.proofs.lemmas.List.Elements.{Contains-append_left, Contains-push_cases, Contains-append_cases}
use Rattle.models.specs.declared.operation.Op.{Op}
use Rattle.models.specs.declared.finding.Answer.{Answer}
use Rattle.models.specs.Objects.{Object, Fits}
use Rattle.events.specs.Events.{Mark}
use Rattle.events.specs.Events.Mark.{Invoked, Returned, Failed}
use Rattle.linspec.specs.Operations.{HasReturned, Precedes}
use Rattle.linspec.specs.Orders.{Taken, Includes, Run, IsLegalOrder}
use Rattle.linspec.proofs.Lists.{Contains-nil, Contains-cons_cases, snoc_cut, Pairwise-append, Pairwise-left, Pairwise-weaker}

-- precedence stays, and a new one is of the operation that the mark invokes
pub Precedes-kept : (marks : List Mark) (m : Mark) {a b : ℕ} → Precedes marks a b → Precedes (marks ++ m ∷ []) a b
Precedes-kept marks m p = record {
  before = p.before;
  after = p.after ++ m ∷ [];
  cut = sym (append_assoc p.before p.after (m ∷ [])) ∙ ap (λ l. l ++ m ∷ []) p.cut;
  returned = p.returned;
  invoked = (p.invoked.0, Contains-append_left p.after (m ∷ []) _ p.invoked.1);
}

returned_in_front : (before rest marks : List Mark) (a : ℕ) → before ++ rest ≡ marks → HasReturned before a → HasReturned marks a
returned_in_front before rest marks a e r = (r.0, subst (λ l. Contains l (Returned a r.0)) e (Contains-append_left before rest _ r.1))

pub Precedes-cases : (marks : List Mark) (m : Mark) {a b : ℕ} → Precedes (marks ++ m ∷ []) a b → Precedes marks a b ⊎ ((op : Op) × (m ≡ Invoked b op) × HasReturned marks a)
Precedes-cases marks m {a} {b} p =
    ⊎_elim
    (λ none. absurd (Contains-nil _ (subst (λ l. Contains l (Invoked b p.invoked.0)) none p.invoked.1)))
    (λ c.
    let here : Contains (c.0 ++ m ∷ []) (Invoked b p.invoked.0) = subst (λ l. Contains l (Invoked b p.invoked.0)) c.1 p.invoked.1 in
    ⊎_elim
    (λ h. inl (record { before = p.before; after = c.0; cut = c.2; returned = p.returned; invoked = (p.invoked.0, h) }))
    (λ e. inr (p.invoked.0, e, returned_in_front p.before c.0 marks a c.2 p.returned))
    (Contains-push_cases c.0 m _ here))
    (snoc_cut p.before p.after marks m p.cut)

-- who precedes has returned
pub Precedes-returned : (marks : List Mark) (a b : ℕ) → Precedes marks a b → HasReturned marks a
Precedes-returned marks a b p = returned_in_front p.before p.after marks a p.cut p.returned

-- a legal order of more events is one of fewer, where the last invokes none of its operations
pub IsLegalOrder-fewer : (o : Object) (marks : List Mark) (m : Mark) (order : List Taken) (s : o.State) → ((x : Taken) → Contains order x → m ≢ Invoked x.id x.op) → IsLegalOrder o (marks ++ m ∷ []) order s → IsLegalOrder o marks order s
IsLegalOrder-fewer o marks m order s other l = record {
  invoked = λ x h. ⊎_elim (λ k. k) (λ e. absurd (other x h e)) (Contains-push_cases marks m _ (l.invoked x h));
  once = l.once;
  none_failed = λ x h k. l.none_failed x h (Contains-append_left marks (m ∷ []) _ k);
  all_done = λ id r. l.all_done id (r.0, Contains-append_left marks (m ∷ []) _ r.1);
  in_time = Pairwise-weaker (λ x y. ¬ Precedes (marks ++ m ∷ []) y.id x.id) (λ x y. ¬ Precedes marks y.id x.id) order (λ x y h k n p. n (Precedes-kept marks m p)) l.in_time;
  run = l.run;
  fits = λ x a h k. l.fits x a h (Contains-append_left marks (m ∷ []) _ k);
}

-- and the other way round, where the mark agrees with the order
pub IsLegalOrder-more : (o : Object) (marks : List Mark) (m : Mark) (order : List Taken) (s : o.State) → IsLegalOrder o marks order s
    → ((x : Taken) (op : Op) → Contains order x → m ≢ Invoked x.id op)
    → ((x : Taken) → Contains order x → m ≢ Failed x.id)
    → ((id : ℕ) (a : Answer) → m ≡ Returned id a → Includes order id)
    → ((x : Taken) (a : Answer) → Contains order x → m ≡ Returned x.id a → Fits x.found a)
    → IsLegalOrder o (marks ++ m ∷ []) order s
IsLegalOrder-more o marks m order s l not_invoked not_failed done fits = record {
  invoked = λ x h. Contains-append_left marks (m ∷ []) _ (l.invoked x h);
  once = l.once;
  none_failed = λ x h k. ⊎_elim (l.none_failed x h) (not_failed x h) (Contains-push_cases marks m _ k);
  all_done = λ id r. ⊎_elim (λ k. l.all_done id (r.0, k)) (done id r.0) (Contains-push_cases marks m _ r.1);
  in_time = Pairwise-weaker (λ x y. ¬ Precedes marks y.id x.id) (λ x y. ¬ Precedes (marks ++ m ∷ []) y.id x.id) order (λ x y h k n p. ⊎_elim n (λ c. not_invoked x c.0 h c.1) (Precedes-cases marks m p)) l.in_time;
  run = l.run;
  fits = λ x a h k. ⊎_elim (l.fits x a h) (fits x a h) (Contains-push_cases marks m _ k);
}

-- a run in two parts
pub Run-append : (o : Object) (s t u : o.State) (xs ys : List Taken) → Run o s xs t → Run o t ys u → Run o s (xs ++ ys) u
Run-append o s t u [] ys p q = subst (λ w. Run o w ys u) (sym p) q
Run-append o s t u (x ∷ xs) ys p q = (p.0, p.1, Run-append o p.0 t u xs ys p.2 q)

pub Run-cut : (o : Object) (s u : o.State) (xs ys : List Taken) → Run o s (xs ++ ys) u → (t : o.State) × Run o s xs t × Run o t ys u
Run-cut o s u [] ys p = (s, refl, p)
Run-cut o s u (x ∷ xs) ys p = let r : (t : o.State) × Run o p.0 xs t × Run o t ys u = Run-cut o p.0 u xs ys p.2 in (r.0, (p.0, p.1, r.1), r.2)

-- a pending operation may take place at the end of a legal order
pub IsLegalOrder-extend : (o : Object) (marks : List Mark) (order : List Taken) (s t : o.State) (x : Taken) → IsLegalOrder o marks order s
    → Contains marks (Invoked x.id x.op) → ¬ HasReturned marks x.id → ¬ Contains marks (Failed x.id) → ¬ Includes order x.id → o.Steps s x.op x.found t
    → IsLegalOrder o marks (order ++ x ∷ []) t
IsLegalOrder-extend o marks order s t x l invoked not_returned not_failed not_in step = record {
  invoked = λ y h. ⊎_elim (l.invoked y) (λ e. subst (λ (z : Taken). Contains marks (Invoked z.id z.op)) e invoked) (Contains-push_cases order x y h);
  once = Pairwise-append (λ y z. y.id ≢ z.id) order (x ∷ []) l.once ((λ y h. absurd (Contains-nil y h)), tt) (λ y z h k e. not_in (y, h, e ∙ ap (λ (w : Taken). w.id) (only x z k)));
  none_failed = λ y h. ⊎_elim (l.none_failed y) (λ e k. not_failed (subst (λ (z : Taken). Contains marks (Failed z.id)) (sym e) k)) (Contains-push_cases order x y h);
  all_done = λ id r. (let i : Includes order id = l.all_done id r in (i.0, Contains-append_left order (x ∷ []) _ i.1, i.2));
  in_time = Pairwise-append (λ y z. ¬ Precedes marks z.id y.id) order (x ∷ []) l.in_time ((λ y h. absurd (Contains-nil y h)), tt) (λ y z h k p. not_returned (Precedes-returned marks x.id y.id (subst (λ (w : Taken). Precedes marks w.id y.id) (only x z k) p)));
  run = Run-append o o.start s t order (x ∷ []) l.run (t, step, refl);
  fits = λ y a h k. ⊎_elim (λ j. l.fits y a j k) (λ e. absurd (not_returned (a, subst (λ (z : Taken). Contains marks (Returned z.id a)) (sym e) k))) (Contains-push_cases order x y h);
}
  where
    only : (x z : Taken) → Contains (x ∷ []) z → z ≡ x
    only x z k = ⊎_elim sym (λ j. absurd (Contains-nil z j)) (Contains-cons_cases x [] z k)

-- a legal order without pending ones at its end is legal too
pub IsLegalOrder-cut : (o : Object) (marks : List Mark) (xs ys : List Taken) (t : o.State) → IsLegalOrder o marks (xs ++ ys) t → ((y : Taken) → Contains ys y → ¬ HasReturned marks y.id)
    → (s : o.State) × IsLegalOrder o marks xs s × Run o s ys t
IsLegalOrder-cut o marks xs ys t l pending =
    let r : (s : o.State) × Run o o.start xs s × Run o s ys t = Run-cut o o.start t xs ys l.run in (
      r.0,
      record {
        invoked = λ x h. l.invoked x (Contains-append_left xs ys x h);
        once = Pairwise-left (λ x y. x.id ≢ y.id) xs ys l.once;
        none_failed = λ x h. l.none_failed x (Contains-append_left xs ys x h);
        all_done = λ id d. (let i : Includes (xs ++ ys) id = l.all_done id d in
            ⊎_elim (λ k. (i.0, k, i.2)) (λ k. absurd (pending i.0 k (subst (HasReturned marks) (sym i.2) d))) (Contains-append_cases xs ys i.0 i.1));
        in_time = Pairwise-left (λ x y. ¬ Precedes marks y.id x.id) xs ys l.in_time;
        run = r.1;
        fits = λ x a h. l.fits x a (Contains-append_left xs ys x h);
      },
      r.2,
    )
