-- the orders of all keys, merged into one: for each ok in turn, the operations of its key's order up to the one that returns
use Rattle.std.proofs.Common.{◌≡◌, ◌≢◌, ℕ, zero, suc, ◌≤◌, ◌<◌, ◌⊎◌, inl, inr, ⊎_elim, cond, nat_eq, List, [], ◌∷◌, ◌++◌, refl, sym, ap, ◌∙◌, subst, append_assoc, arith}
use Rattle.std.specs.List.{Contains}
use Rattle.std.proofs.lemmas.Bool.{cases_eq, cases_order, eq-eqb, ne_eqb}
use Rattle.std.proofs.lemmas.List.{append-nil}
use Rattle.std.proofs.lemmas.List.Elements.{Contains-append_left, Contains-append_right, Contains-push, Contains-push_cases, Contains-append_cases, filter-append}
use Rattle.models.specs.declared.finding.Answer.{Answer}
use Rattle.events.specs.Events.{Mark, Entry, marks}
use Rattle.events.specs.Events.Mark.{Invoked, Returned, Failed, Crashed}
use Rattle.linspec.specs.MarkRule.{id_of, IsNew, AreWellFormed, IsKeyed}
use Rattle.linspec.specs.Operations.{HasReturned, Precedes}
use Rattle.linspec.specs.Orders.{Taken, Pairwise}
use Rattle.linspec.proofs.Lists.{Contains-nil, Contains-head, Pairwise-append, Pairwise-left, Pairwise-right, Pairwise-across, cut_at}
use Rattle.linspec.proofs.Filters.{filter-all, filter-none, to_map, two_cuts}
use Rattle.linspec.proofs.Marks.{Precedes-returned}
use Rattle.linspec.proofs.Invocations.{Around, around}
use Rattle.linspec.proofs.Prefixes.{marks-append}
use Rattle.locality.proofs.Products.{on_key, to_on_key}
use Rattle.linspec.proofs.Keyed.{from_marks}

-- the list at a key, and the others as they were
abbrev give : (ℕ → List Taken) → ℕ → List Taken → ℕ → List Taken
give rem k l j = cond (nat_eq j k) l (rem j)

give-same : (rem : ℕ → List Taken) (k : ℕ) (l : List Taken) → give rem k l k ≡ l
give-same rem k l = ap (λ b. cond b l (rem k)) (eq-eqb k k refl)

give-other : (rem : ℕ → List Taken) (k : ℕ) (l : List Taken) (j : ℕ) → j ≢ k → give rem k l j ≡ rem j
give-other rem k l j ne = ap (λ b. cond b l (rem j)) (ne_eqb j k ne)

-- the lists of the keys below n, one after another
left : ℕ → (ℕ → List Taken) → List Taken
left zero rem = []
left (suc n) rem = left n rem ++ rem n

returns_of : (m : Mark) → ((id : ℕ) × (a : Answer) × (m ≡ Returned id a)) ⊎ ((id : ℕ) (a : Answer) → m ≢ Returned id a)
returns_of (Invoked i op) = inr (λ id a e. cc)
returns_of (Returned i b) = inl (i, b, refl)
returns_of (Failed i) = inr (λ id a e. cc)
returns_of (Crashed i) = inr (λ id a e. cc)

on_key-append : (k : ℕ) (xs ys : List Taken) → on_key k (xs ++ ys) ≡ on_key k xs ++ on_key k ys
on_key-append k xs ys = filter-append (λ (x : Taken). nat_eq x.op.key k) xs ys

on_key-all : (k : ℕ) (xs : List Taken) → ((x : Taken) → Contains xs x → x.op.key ≡ k) → on_key k xs ≡ xs
on_key-all k xs h = filter-all (λ (x : Taken). nat_eq x.op.key k) xs (λ x c. eq-eqb x.op.key k (h x c))

on_key-none : (k : ℕ) (xs : List Taken) → ((x : Taken) → Contains xs x → x.op.key ≢ k) → on_key k xs ≡ []
on_key-none k xs h = filter-none (λ (x : Taken). nat_eq x.op.key k) xs (λ x c. ne_eqb x.op.key k (h x c))

-- who precedes itself has returned before it was invoked
pub not_itself : (marks : List Mark) (id : ℕ) → AreWellFormed marks → ¬ Precedes marks id id
not_itself marks id well p =
    let c = cut_at p.after (Invoked id p.invoked.0) p.invoked.1 in
    let new : IsNew (p.before ++ c.0) id = well (p.before ++ c.0) c.1 (Invoked id p.invoked.0) (append_assoc p.before c.0 (Invoked id p.invoked.0 ∷ c.1) ∙ ap (λ l. p.before ++ l) (sym c.2) ∙ p.cut) in
    new (Returned id p.returned.0) (Contains-append_left p.before c.0 _ p.returned.1) refl

module _ (entries : List Entry) (keyed : IsKeyed entries) (well : AreWellFormed (marks entries)) where
  abbrev InTime : Taken → Taken → Type 0
  InTime x y = ¬ Precedes (marks entries) y.id x.id

  -- the rest of each key's order after the entries ds
  pub record Rest (ds : List Entry) (rem : ℕ → List Taken) : Type 0 where
    pub own : (k : ℕ) (x : Taken) → Contains (rem k) x → x.op.key ≡ k
    pub invoked : (k : ℕ) (x : Taken) → Contains (rem k) x → Contains (marks entries) (Invoked x.id x.op)
    pub once : (k : ℕ) → Pairwise (λ x y. x.id ≢ y.id) (rem k)
    pub in_time : (k : ℕ) → Pairwise InTime (rem k)
    pub waiting : (k : ℕ) (x : Taken) → Contains (rem k) x → ¬ HasReturned (marks ds) x.id

  left_in : (n : ℕ) (rem : ℕ → List Taken) (x : Taken) → Contains (left n rem) x → (k : ℕ) × (k < n) × Contains (rem k) x
  unfolding left
  left_in zero rem x h = absurd (Contains-nil x h)
  left_in (suc n) rem x h =
      ⊎_elim (λ k. (let r : (k : ℕ) × (k < n) × Contains (rem k) x = left_in n rem x k in (r.0, omega (arith, r.1), r.2))) (λ k. (n, omega arith, k)) (Contains-append_cases (left n rem) (rem n) x h)

  left_time : (n : ℕ) (rem : ℕ → List Taken) → Rest entries rem → Pairwise InTime (left n rem)
  unfolding left
  left_time zero rem r = tt
  left_time (suc n) rem r =
      Pairwise-append InTime (left n rem) (rem n) (left_time n rem r) (r.in_time n) (λ x y h k p. r.waiting n y k (Precedes-returned (marks entries) y.id x.id p))

  left_key : (n : ℕ) (rem : ℕ → List Taken) (ds : List Entry) → Rest ds rem → (k : ℕ) → ((k < n) × (on_key k (left n rem) ≡ rem k)) ⊎ ((n ≤ k) × (on_key k (left n rem) ≡ []))
  unfolding left
  left_key zero rem ds r k = inr (omega arith, refl)
  left_key (suc n) rem ds r k =
      ⊎_elim
      (λ e. inl (
        omega arith,
        on_key-append k (left n rem) (rem n)
            ∙ ap (λ l. l ++ on_key k (rem n)) (on_key-none k (left n rem) (λ x h q. (let i = left_in n rem x h in let s : x.op.key ≡ i.0 = r.own i.0 x i.2 in omega (arith, i.1))))
            ∙ on_key-all k (rem n) (λ x h. r.own n x h ∙ sym e) ∙ ap rem (sym e),
      ))
      (λ c.
      let far : k ≢ n = ⊎_elim (λ l. omega arith) (λ l. omega arith) c in
      let others : on_key k (rem n) ≡ [] = on_key-none k (rem n) (λ x h q. far (sym q ∙ r.own n x h)) in
      let step : on_key k (left n rem ++ rem n) ≡ on_key k (left n rem) = on_key-append k (left n rem) (rem n) ∙ ap (λ l. on_key k (left n rem) ++ l) others ∙ append-nil (on_key k (left n rem)) in
      ⊎_elim
      (λ l. inl (omega arith, step ∙ l.1))
      (λ l. inr (omega arith, step ∙ l.1))
      (left_key n rem ds r k))
      (cases_order k n)

  -- an entry other than an ok changes nothing
  skip : (ds : List Entry) (rem : ℕ → List Taken) (e : Entry) → Rest ds rem → ((k : ℕ) (x : Taken) (a : Answer) → Contains (rem k) x → e.mark ≢ Returned x.id a) → Rest (ds ++ e ∷ []) rem
  skip ds rem e r other = record {
    own = r.own;
    invoked = r.invoked;
    once = r.once;
    in_time = r.in_time;
    waiting = λ k x h d. ⊎_elim (λ j. r.waiting k x h (d.0, j)) (other k x d.0 h)
        (Contains-push_cases (marks ds) e.mark _ (subst (λ l. Contains l (Returned x.id d.0)) (marks-append ds (e ∷ [])) d.1));
  }

  -- an operation that the entry returns is of the entry's key
  key_of_returned : (rem : ℕ → List Taken) (ds : List Entry) (e : Entry) (a : Answer) → Rest ds rem → Contains entries e → (k : ℕ) (x : Taken) → Contains (rem k) x → e.mark ≡ Returned x.id a → k ≡ e.key
  key_of_returned rem ds e a r in' k x h is =
      let i = from_marks entries _ (r.invoked k x h) in
      sym (r.own k x h) ∙ keyed.op_key i.0 x.id x.op i.1 i.2 ∙ keyed.one_key i.0 e i.1 in' (ap id_of i.2 ∙ sym (ap id_of is))

  abbrev MergesTo : (ℕ → List Taken) → Type 0
  MergesTo rem = (zs : List Taken) × ((k : ℕ) → on_key k zs ≡ rem k) × Pairwise InTime zs

  module _ (ds es : List Entry) (rem : ℕ → List Taken) (e : Entry) (whole : ds ++ e ∷ es ≡ entries) (r : Rest ds rem) (id : ℕ) (a : Answer) (is : e.mark ≡ Returned id a) (at : Around (rem e.key) id) where
    here_in : Contains entries e
    here_in = subst (λ l. Contains l e) whole (Contains-append_right ds (e ∷ es) e (Contains-head e es))

    batch : List Taken
    batch = at.before ++ at.here ∷ []

    parts : batch ++ at.after ≡ rem e.key
    unfolding batch
    parts = append_assoc at.before (at.here ∷ []) at.after ∙ sym at.whole

    here_batch : Contains batch at.here
    unfolding batch
    here_batch = Contains-push at.before at.here

    batch_cases : (x : Taken) → Contains batch x → Contains at.before x ⊎ (at.here ≡ x)
    unfolding batch
    batch_cases x h = Contains-push_cases at.before at.here x h

    in_batch : (x : Taken) → Contains batch x → Contains (rem e.key) x
    in_batch x h = subst (λ l. Contains l x) parts (Contains-append_left batch at.after x h)

    in_after : (x : Taken) → Contains at.after x → Contains (rem e.key) x
    in_after x h = subst (λ l. Contains l x) parts (Contains-append_right batch at.after x h)

    rem' : ℕ → List Taken
    rem' = give rem e.key at.after

    at_key : (k : ℕ) → k ≡ e.key → rem' k ≡ at.after
    unfolding rem'
    at_key k q = ap (give rem e.key at.after) q ∙ give-same rem e.key at.after

    at_other : (k : ℕ) → k ≢ e.key → rem' k ≡ rem k
    unfolding rem'
    at_other k ne = give-other rem e.key at.after k ne

    in_rem' : (k : ℕ) (x : Taken) → Contains (rem' k) x → ((k ≡ e.key) × Contains at.after x) ⊎ ((k ≢ e.key) × Contains (rem k) x)
    unfolding rem'
    in_rem' k x h =
        ⊎_elim
        (λ q. inl (q, subst (λ l. Contains l x) (ap (give rem e.key at.after) q ∙ give-same rem e.key at.after) h))
        (λ ne. inr (ne, subst (λ l. Contains l x) (give-other rem e.key at.after k ne) h))
        (cases_eq k e.key)

    still_in : (k : ℕ) (x : Taken) → Contains (rem' k) x → Contains (rem k) x
    still_in k x h = ⊎_elim (λ q. subst (λ j. Contains (rem j) x) (sym q.0) (in_after x q.1)) (λ q. q.1) (in_rem' k x h)

    pairwise' : (R : Taken → Taken → Type 0) → ((k : ℕ) → Pairwise R (rem k)) → (k : ℕ) → Pairwise R (rem' k)
    unfolding rem'
    pairwise' R h k =
        ⊎_elim
        (λ q. subst (Pairwise R) (sym (ap (give rem e.key at.after) q ∙ give-same rem e.key at.after)) (Pairwise-right R batch at.after (subst (Pairwise R) (sym parts) (h e.key))))
        (λ ne. subst (Pairwise R) (sym (give-other rem e.key at.after k ne)) (h k))
        (cases_eq k e.key)

    rest' : Rest (ds ++ e ∷ []) rem'
    rest' = record {
      own = λ k x h. r.own k x (still_in k x h);
      invoked = λ k x h. r.invoked k x (still_in k x h);
      once = pairwise' (λ x y. x.id ≢ y.id) r.once;
      in_time = pairwise' InTime r.in_time;
      waiting = λ k x h d. ⊎_elim
          (λ j. r.waiting k x (still_in k x h) (d.0, j))
          (λ same.
          let x_id : x.id ≡ id = (let t : Returned x.id d.0 ≡ Returned id a = sym same ∙ is in let u : x.id ≡ id = cc in u) in
          ⊎_elim
          (λ q. Pairwise-across (λ x y. x.id ≢ y.id) batch at.after (subst (Pairwise (λ x y. x.id ≢ y.id)) (sym parts) (r.once e.key)) at.here x (here_batch) q.1 (at.is ∙ sym x_id))
          (λ q. q.0 (key_of_returned rem ds e d.0 r here_in k x q.1 same))
          (in_rem' k x h))
          (Contains-push_cases (marks ds) e.mark _ (subst (λ l. Contains l (Returned x.id d.0)) (marks-append ds (e ∷ [])) d.1));
    }

    -- none that is left precedes one of the batch
    across : (x y : Taken) (k : ℕ) → Contains batch x → Contains (rem' k) y → InTime x y
    across x y k h j p =
        ⊎_elim
        (λ q. Pairwise-across InTime batch at.after (subst (Pairwise InTime) (sym parts) (r.in_time e.key)) x y h q.1 p)
        (λ q.
        let whole' : marks (ds ++ e ∷ []) ++ marks es ≡ marks entries = sym (marks-append (ds ++ e ∷ []) es) ∙ ap marks (append_assoc ds (e ∷ []) es ∙ whole) in
        ⊎_elim
        (λ front.  -- y has returned by e
        let d : HasReturned (marks (ds ++ e ∷ [])) y.id = (p.returned.0, subst (λ l. Contains l (Returned y.id p.returned.0)) front.1 (Contains-append_left p.before front.0 _ p.returned.1)) in
        ⊎_elim
        (λ i. r.waiting k y q.1 (d.0, i))
        (λ same. q.0 (key_of_returned rem ds e d.0 r here_in k y q.1 same))
        (Contains-push_cases (marks ds) e.mark _ (subst (λ l. Contains l (Returned y.id d.0)) (marks-append ds (e ∷ [])) d.1)))
        (λ front.  -- e is before x is invoked
        let e_in : Contains (marks (ds ++ e ∷ [])) (Returned id a) = subst (Contains (marks (ds ++ e ∷ []))) is (to_map (λ (e : Entry). e.mark) (ds ++ e ∷ []) e (Contains-push ds e)) in
        let early : Precedes (marks entries) id x.id = record {
          before = p.before;
          after = p.after;
          cut = p.cut;
          returned = (a, subst (λ l. Contains l (Returned id a)) front.1 (Contains-append_left (marks (ds ++ e ∷ [])) front.0 _ e_in));
          invoked = p.invoked;
        } in
        ⊎_elim
        (λ i. Pairwise-across InTime at.before (at.here ∷ at.after) (subst (Pairwise InTime) at.whole (r.in_time e.key)) x at.here i (Contains-head at.here at.after)
        (subst (λ n. Precedes (marks entries) n x.id) (sym at.is) early))
        (λ same. not_itself (marks entries) id well (subst (Precedes (marks entries) id) (ap (λ (w : Taken). w.id) (sym same) ∙ at.is) early))
        (batch_cases x h))
        (two_cuts p.before p.after (marks (ds ++ e ∷ [])) (marks es) (p.cut ∙ sym whole')))
        (in_rem' k y j)

    -- the batch, and then what the rest merges into
    with_batch : MergesTo rem' → MergesTo rem
    with_batch m = (batch ++ m.0, each, in_time)
      where
        in_rest : (y : Taken) → Contains m.0 y → Contains (rem' y.op.key) y
        in_rest y h = subst (λ l. Contains l y) (m.1 y.op.key) (to_on_key y.op.key m.0 y h refl)

        in_time : Pairwise InTime (batch ++ m.0)
        in_time = Pairwise-append InTime batch m.0 (Pairwise-left InTime batch at.after (subst (Pairwise InTime) (sym parts) (r.in_time e.key))) m.2 (λ x y h j. across x y y.op.key h (in_rest y j))

        each : (k : ℕ) → on_key k (batch ++ m.0) ≡ rem k
        each k = on_key-append k batch m.0 ∙ ap (λ l. on_key k batch ++ l) (m.1 k) ∙
            ⊎_elim
            (λ q. ap (λ l. l ++ rem' k) (on_key-all k batch (λ x h. r.own e.key x (in_batch x h) ∙ sym q)) ∙ ap (λ l. batch ++ l) (at_key k q) ∙ parts ∙ ap rem (sym q))
            (λ ne. ap (λ l. l ++ rem' k) (on_key-none k batch (λ x h q. ne (sym q ∙ r.own e.key x (in_batch x h)))) ∙ at_other k ne)
            (cases_eq k e.key)

  no_element : (k : ℕ) (l : List Taken) (x : Taken) → Contains l x → l ≡ [] → ⊥
  no_element k l x h e = Contains-nil x (subst (λ l. Contains l x) e h)

  pub merge : (n : ℕ) (es ds : List Entry) (rem : ℕ → List Taken) → ds ++ es ≡ entries → ((k : ℕ) → n ≤ k → rem k ≡ []) → Rest ds rem → MergesTo rem
  merge n [] ds rem whole bound r =
      let r' : Rest entries rem = subst (λ l. Rest l rem) (sym (append-nil ds) ∙ whole) r in
      (left n rem, (λ k. ⊎_elim (λ c. c.1) (λ c. c.1 ∙ sym (bound k c.0)) (left_key n rem entries r' k)), left_time n rem r')
  merge n (e ∷ es) ds rem whole bound r =
      let whole' : (ds ++ e ∷ []) ++ es ≡ entries = append_assoc ds (e ∷ []) es ∙ whole in
      let e_in : Contains entries e = subst (λ l. Contains l e) whole (Contains-append_right ds (e ∷ es) e (Contains-head e es)) in
      ⊎_elim
      (λ c. ⊎_elim
      (λ at. with_batch ds es rem e whole r c.0 c.1 c.2 at
      (merge n es (ds ++ e ∷ []) (rem' ds es rem e whole r c.0 c.1 c.2 at) whole'
      (λ k le. ⊎_elim
      (λ q. absurd (no_element k (rem e.key) at.here (subst (λ l. Contains l at.here) (sym at.whole) (Contains-append_right at.before (at.here ∷ at.after) at.here (Contains-head at.here at.after))) (ap rem (sym q) ∙ bound k le)))
      (λ ne. at_other ds es rem e whole r c.0 c.1 c.2 at k ne ∙ bound k le)
      (cases_eq k e.key))
      (rest' ds es rem e whole r c.0 c.1 c.2 at)))
      (λ not_in. merge n es (ds ++ e ∷ []) rem whole' bound (skip ds rem e r (λ k x a h q.
      let x_id : x.id ≡ c.0 = (let t : Returned x.id a ≡ Returned c.0 c.1 = sym q ∙ c.2 in let u : x.id ≡ c.0 = cc in u) in
      not_in (x, subst (λ j. Contains (rem j) x) (key_of_returned rem ds e a r e_in k x h q) h, x_id))))
      (around (rem e.key) c.0))
      (λ other. merge n es (ds ++ e ∷ []) rem whole' bound (skip ds rem e r (λ k x a h. other x.id a)))
      (returns_of e.mark)
