-- an order that has, for each operation of another one that is not passed over, one that matches it
use Rattle.std.proofs.Common.{◌≡◌, ◌≢◌, ℕ, ◌⊎◌, inl, inr, ⊎_elim, List, [], ◌∷◌, ◌++◌, refl, sym, ◌∙◌, subst, append_assoc}
use Rattle.std.specs.List.{Contains}
use Rattle.models.specs.declared.finding.Answer.{Answer}
use Rattle.models.specs.Objects.{Object, Fits}
use Rattle.events.specs.Events.{Mark}
use Rattle.events.specs.Events.Mark.{Invoked, Returned, Failed}
use Rattle.linspec.specs.Operations.{HasReturned, Precedes}
use Rattle.linspec.specs.Orders.{Taken, Includes, Pairwise, Run, IsLegalOrder}
use Rattle.linspec.proofs.Lists.{Contains-nil, Contains-head, Contains-tail, Contains-cons_cases}

module _ (Skip : Taken → Type 0) (R : Taken → Taken → Type 0) where
  abbrev pub Matches : List Taken → List Taken → Type 0
  Matches [] ys = ys ≡ []
  Matches (x ∷ xs) ys = (Skip x × Matches xs ys) ⊎ ((y : Taken) × (rest : List Taken) × (ys ≡ y ∷ rest) × R x y × Matches xs rest)

  pub from_match : (xs ys : List Taken) → Matches xs ys → (y : Taken) → Contains ys y → (x : Taken) × Contains xs x × R x y
  from_match [] ys m y h = absurd (Contains-nil y (subst (λ l. Contains l y) m h))
  from_match (x ∷ xs) ys m y h =
      ⊎_elim
      (λ s. let r = from_match xs ys s.1 y h in (r.0, Contains-tail x xs r.0 r.1, r.2))
      (λ t. ⊎_elim
      (λ e. (x, Contains-head x xs, subst (R x) e t.3))
      (λ k. let r = from_match xs t.1 t.4 y k in (r.0, Contains-tail x xs r.0 r.1, r.2))
      (Contains-cons_cases t.0 t.1 y (subst (λ l. Contains l y) t.2 h)))
      m

  pub to_match : (xs ys : List Taken) → Matches xs ys → (x : Taken) → Contains xs x → ¬ Skip x → (y : Taken) × Contains ys y × R x y
  to_match [] ys m x h n = absurd (Contains-nil x h)
  to_match (z ∷ xs) ys m x h n =
      ⊎_elim
      (λ s. ⊎_elim (λ e. absurd (n (subst Skip e s.0))) (λ k. to_match xs ys s.1 x k n) (Contains-cons_cases z xs x h))
      (λ t. ⊎_elim
      (λ e. (t.0, subst (λ l. Contains l t.0) (sym t.2) (Contains-head t.0 t.1), subst (λ w. R w t.0) e t.3))
      (λ k. let r = to_match xs t.1 t.4 x k n in (r.0, subst (λ l. Contains l r.0) (sym t.2) (Contains-tail t.0 t.1 r.0 r.1), r.2))
      (Contains-cons_cases z xs x h))
      m

  pub Pairwise-match : (S T : Taken → Taken → Type 0) (xs ys : List Taken) → Matches xs ys → ((x z y w : Taken) → R x y → R z w → S x z → T y w) → Pairwise S xs → Pairwise T ys
  Pairwise-match S T [] ys m h p = subst (Pairwise T) (sym m) tt
  Pairwise-match S T (x ∷ xs) ys m h p =
      ⊎_elim
      (λ s. Pairwise-match S T xs ys s.1 h p.1)
      (λ t. subst (Pairwise T) (sym t.2) ((λ w k. let r = from_match xs t.1 t.4 w k in h x r.0 t.0 w t.3 r.2 (p.0 r.0 r.1)), Pairwise-match S T xs t.1 t.4 h p.1))
      m

  -- a legal order of the whole makes one of the other history, by a run that matches it
  pub IsLegalOrder-match : (whole other : List Mark) → ((x y : Taken) → R x y → y.id ≡ x.id) → ((a b : ℕ) → Precedes other a b → Precedes whole a b)
      → (o u : Object) (xs ys : List Taken) (s : o.State) (t : u.State) → IsLegalOrder o whole xs s → Matches xs ys → Run u u.start ys t
      → ((x y : Taken) → Contains xs x → R x y → Contains other (Invoked y.id y.op))
      → ((x y : Taken) → Contains xs x → R x y → Contains other (Failed y.id) → Contains whole (Failed x.id))
      → ((id : ℕ) → HasReturned other id → HasReturned whole id × ((x : Taken) → Contains xs x → x.id ≡ id → ¬ Skip x))
      → ((x y : Taken) (answer : Answer) → Contains xs x → R x y → Contains other (Returned y.id answer) → Fits y.found answer)
      → IsLegalOrder u other ys t
  IsLegalOrder-match whole other same precedes o u xs ys s t l m run invoked failed done fits = record {
    invoked = λ y h. (let r = from_match xs ys m y h in invoked r.0 y r.1 r.2);
    once = Pairwise-match (λ x z. x.id ≢ z.id) (λ y w. y.id ≢ w.id) xs ys m (λ x z y w r q ne e. ne (sym (same x y r) ∙ e ∙ same z w q)) l.once;
    none_failed = λ y h f. (let r = from_match xs ys m y h in l.none_failed r.0 r.1 (failed r.0 y r.1 r.2 f));
    all_done = λ id d. (
        let is = done id d in
        let i : Includes xs id = l.all_done id is.0 in
        let r = to_match xs ys m i.0 i.1 (is.1 i.0 i.1 i.2) in
        (r.0, r.1, same i.0 r.0 r.2 ∙ i.2));
    in_time = Pairwise-match (λ x z. ¬ Precedes whole z.id x.id) (λ y w. ¬ Precedes other w.id y.id) xs ys m
        (λ x z y w r q n p. n (subst (λ i. Precedes whole i x.id) (same z w q) (subst (λ i. Precedes whole w.id i) (same x y r) (precedes w.id y.id p)))) l.in_time;
    run = run;
    fits = λ y answer h k. (let r = from_match xs ys m y h in fits r.0 y answer r.1 r.2 k);
  }

  -- the same, if an operation may have another name there
  pub IsLegalOrder-similar : (whole other : List Mark) (o u : Object) (xs ys : List Taken) (s : o.State) (t : u.State) → IsLegalOrder o whole xs s → Matches xs ys → Run u u.start ys t
      → ((x z y w : Taken) → R x y → R z w → x.id ≢ z.id → y.id ≢ w.id)
      → ((x z y w : Taken) → R x y → R z w → Precedes other w.id y.id → Precedes whole z.id x.id)
      → ((x y : Taken) → Contains xs x → R x y → Contains other (Invoked y.id y.op))
      → ((x y : Taken) → Contains xs x → R x y → Contains other (Failed y.id) → Contains whole (Failed x.id))
      → ((id : ℕ) → HasReturned other id → (was : ℕ) × HasReturned whole was × ((x : Taken) → Contains xs x → x.id ≡ was → ¬ Skip x) × ((x y : Taken) → x.id ≡ was → R x y → y.id ≡ id))
      → ((x y : Taken) (answer : Answer) → Contains xs x → R x y → Contains other (Returned y.id answer) → Fits y.found answer)
      → IsLegalOrder u other ys t
  IsLegalOrder-similar whole other o u xs ys s t l m run apart precedes invoked failed done fits = record {
    invoked = λ y h. (let r = from_match xs ys m y h in invoked r.0 y r.1 r.2);
    once = Pairwise-match (λ x z. x.id ≢ z.id) (λ y w. y.id ≢ w.id) xs ys m (λ x z y w r q. apart x z y w r q) l.once;
    none_failed = λ y h f. (let r = from_match xs ys m y h in l.none_failed r.0 r.1 (failed r.0 y r.1 r.2 f));
    all_done = λ id d. (
        let is = done id d in
        let i : Includes xs is.0 = l.all_done is.0 is.1 in
        let r = to_match xs ys m i.0 i.1 (is.2 i.0 i.1 i.2) in
        (r.0, r.1, is.3 i.0 r.0 i.2 r.2));
    in_time = Pairwise-match (λ x z. ¬ Precedes whole z.id x.id) (λ y w. ¬ Precedes other w.id y.id) xs ys m
        (λ x z y w r q n p. n (precedes x z y w r q p)) l.in_time;
    run = run;
    fits = λ y answer h k. (let r = from_match xs ys m y h in fits r.0 y answer r.1 r.2 k);
  }

-- a run of one object makes one of another, if each step does: P says how the states compare after each prefix of the order
module _ (o u : Object) (Skip : Taken → Type 0) (R : Taken → Taken → Type 0) (P : List Taken → o.State → u.State → Type 0) (order : List Taken)
    (step : (before after : List Taken) (x : Taken) (s t : o.State) (v : u.State) → before ++ x ∷ after ≡ order → P before s v → o.Steps s x.op x.found t
    → (Skip x × P (before ++ x ∷ []) t v) ⊎ ((y : Taken) × (w : u.State) × R x y × u.Steps v y.op y.found w × P (before ++ x ∷ []) t w)) where
  pub simulated : (before after : List Taken) (s t : o.State) (v : u.State) → before ++ after ≡ order → P before s v → Run o s after t
      → (ys : List Taken) × (w : u.State) × Matches Skip R after ys × Run u v ys w
  simulated before [] s t v whole p run = ([], v, refl, refl)
  simulated before (x ∷ after) s t v whole p run =
      let next : (before ++ x ∷ []) ++ after ≡ order = append_assoc before (x ∷ []) after ∙ whole in
      ⊎_elim
      (λ k. let r = simulated (before ++ x ∷ []) after run.0 t v next k.1 run.2 in (r.0, r.1, inl (k.0, r.2), r.3))
      (λ k. let r = simulated (before ++ x ∷ []) after run.0 t k.1 next k.4 run.2 in (k.0 ∷ r.0, r.1, inr (k.0, r.0, refl, k.2, r.2), (k.1, k.3, r.3)))
      (step before after x s run.0 v whole p run.1)
