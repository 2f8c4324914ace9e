-- the history of a set is chained where it has a legal order
use Rattle.std.proofs.Common.{◌≡◌, ℕ, ℤ, ◌⊎◌, inl, inr, ⊎_elim, List, [], ◌∷◌, ◌++◌, refl, sym, ap, ◌∙◌, subst, append_assoc}
use Rattle.std.specs.List.{Contains}
use Rattle.std.proofs.lemmas.List.Elements.{Contains-append_left, Contains-append_right, Contains-append_cases}
use Rattle.models.specs.declared.operation.Op.{Op}
use Rattle.models.specs.declared.finding.Found.TheVariants.{Elements}
use Rattle.models.specs.declared.finding.Answer.TheVariants.{Many}
use Rattle.values.specs.Members.{IsAscending}
use Rattle.models.specs.Objects.{set_of_numbers, Fits}
use Rattle.events.specs.Events.{Mark, IsPrefixOf}
use Rattle.events.specs.Events.Mark.{Invoked, Returned, Failed}
use Rattle.linspec.specs.MarkRule.{AreWellFormed}
use Rattle.linspec.specs.Operations.{HasReturned, Precedes}
use Rattle.linspec.specs.Orders.{Taken, Includes, Pairwise, Run, IsLegalOrder, IsLinearizable}
use Rattle.linspec.proofs.Lists.{Contains-nil, Contains-head, Contains-tail, Contains-cons_cases, Pairwise-across, Pairwise-right, cut_at}
use Rattle.linspec.proofs.Filters.{two_cuts}
use Rattle.linspec.proofs.Marks.{Run-cut}
use Rattle.set_chains.specs.Chains.{Adds, IsAddOf, HasRead, IsWithin, IsDoneAddBeyond, ComesWith, ComesAfter, IsChained}
use Rattle.set_chains.proofs.Once.{one_op}
use Rattle.set_chains.proofs.Steps.{set_view, no_both, fits_many, adds_or_not, AddedIn, run_from, run_to, run_ascends}

-- the first element of a list of which Q holds, if there is one
first_of : {X : Type 0} (Q : X → Type 0) → ((x : X) → Q x ⊎ (¬ Q x)) → (xs : List X)
    → ((before : List X) × (x : X) × (after : List X) × (xs ≡ before ++ x ∷ after) × Q x × ((y : X) → Contains before y → ¬ Q y)) ⊎ ((y : X) → Contains xs y → ¬ Q y)
first_of Q dec [] = inr (λ y h. absurd (Contains-nil y h))
first_of Q dec (x ∷ xs) = ⊎_elim
    (λ q. inl ([], x, xs, refl, q, λ y h. absurd (Contains-nil y h)))
    (λ n. ⊎_elim
    (λ k. inl (x ∷ k.0, k.1, k.2, ap (λ l. x ∷ l) k.3, k.4, λ y h. ⊎_elim (λ e. subst (λ z. ¬ Q z) e n) (k.5 y) (Contains-cons_cases x k.0 y h)))
    (λ none. inr (λ y h. ⊎_elim (λ e. subst (λ z. ¬ Q z) e n) (none y) (Contains-cons_cases x xs y h)))
    (first_of Q dec xs))
    (dec x)

-- two places in one list: everything before the second is before the first, or the first is before the second
compare : {X : Type 0} (b : List X) (y : X) (a c : List X) (x : X) (d : List X) → b ++ y ∷ a ≡ c ++ x ∷ d → ((z : X) → Contains c z → Contains b z) ⊎ Contains c y
compare b y a [] x d e = inl (λ z h. absurd (Contains-nil z h))
compare [] y a (w ∷ c) x d e = let h : y ≡ w = cc in inr (subst (Contains (w ∷ c)) (sym h) (Contains-head w c))
compare (u ∷ b) y a (w ∷ c) x d e =
    let h : u ≡ w = cc in
    let t : b ++ y ∷ a ≡ c ++ x ∷ d = cc in
    ⊎_elim
    (λ f. inl (λ z k. ⊎_elim (λ q. subst (Contains (u ∷ b)) (h ∙ q) (Contains-head u b)) (λ j. Contains-tail u b z (f z j)) (Contains-cons_cases w c z k)))
    (λ j. inr (Contains-tail w c y j))
    (compare b y a c x d t)

module _ (ms : List Mark) (well : AreWellFormed ms) (order : List Taken) (end : List ℤ) (l : IsLegalOrder set_of_numbers ms order end) where
  abbrev InTime : Taken → Taken → Type 0
  InTime x y = ¬ Precedes ms y.id x.id

  -- where an operation stands, and the state there
  record Place (id : ℕ) : Type 0 where
    before : List Taken
    x : Taken
    after : List Taken
    whole : before ++ x ∷ after ≡ order
    is : x.id ≡ id
    s : List ℤ
    t : List ℤ
    run : Run set_of_numbers [] before s
    step : set_of_numbers.Steps s x.op x.found t

  place_of : (id : ℕ) → HasReturned ms id → Place id
  place_of id d =
      let i : Includes order id = l.all_done id d in
      let c = cut_at order i.0 i.1 in
      let r = Run-cut set_of_numbers [] end c.0 (i.0 ∷ c.1) (subst (λ k. Run set_of_numbers [] k end) c.2 l.run) in
      record { before = c.0; x = i.0; after = c.1; whole = sym c.2; is = i.2; s = r.0; t = r.2.0; run = r.1; step = r.2.1 }

  there : (id : ℕ) (p : Place id) → Contains order p.x
  there id p = subst (λ k. Contains k p.x) p.whole (Contains-append_right p.before (p.x ∷ p.after) p.x (Contains-head p.x p.after))

  op_of : (id : ℕ) (p : Place id) (op : Op) → Contains ms (Invoked id op) → op ≡ p.x.op
  op_of id p op h = one_op ms well id op p.x.op h (subst (λ n. Contains ms (Invoked n p.x.op)) p.is (l.invoked p.x (there id p)))

  in_time_at : (id : ℕ) (p : Place id) → Pairwise InTime (p.before ++ p.x ∷ p.after)
  in_time_at id p = subst (Pairwise InTime) (sym p.whole) l.in_time

  -- the state at a read is its answer
  state_is : (id : ℕ) (members : List ℤ) (h : HasRead ms id members) (p : Place id) → p.s ≡ members
  state_is id members h p =
      let same : h.op ≡ p.x.op = op_of id p h.op h.invoked in
      ⊎_elim
      (λ j. absurd (no_both p.x.op.name (ap (λ (o : Op). o.name) (sym same) ∙ h.reads) j.1))
      (λ j. subst (λ f. Fits f (Many members)) j.3 (l.fits p.x (Many members) (there id p) (subst (λ n. Contains ms (Returned n (Many members))) (sym p.is) h.answer)))
      (set_view p.x.op.name p.x.op.part p.s p.t p.x.found p.step)

  read_place : (id : ℕ) (members : List ℤ) → HasRead ms id members → Place id
  read_place id members h = place_of id (Many members, h.answer)

  from_answer : (id : ℕ) (members : List ℤ) (h : HasRead ms id members) (v : ℤ) → Contains members v → AddedIn (read_place id members h).before v
  from_answer id members h v k = unfolding_from (read_place id members h) k
    where
      unfolding_from : (p : Place id) → Contains members v → AddedIn p.before v
      unfolding_from p k = ⊎_elim (λ n. absurd (Contains-nil v n)) (λ j. j) (run_from p.before [] p.s p.run v (subst (λ q. Contains q v) (sym (state_is id members h p)) k))

  to_answer : (id : ℕ) (members : List ℤ) (h : HasRead ms id members) (v : ℤ) → AddedIn (read_place id members h).before v → Contains members v
  to_answer id members h v k = let p : Place id = read_place id members h in
      subst (λ q. Contains q v) (state_is id members h p) (run_to p.before [] p.s p.run v (inr k))

  known : (id : ℕ) → HasReturned ms id → ((v : ℤ) × IsAddOf ms id v) ⊎ ((members : List ℤ) × HasRead ms id members × IsAscending members)
  known id d =
      let p : Place id = place_of id d in
      let invoked : Contains ms (Invoked id p.x.op) = subst (λ n. Contains ms (Invoked n p.x.op)) p.is (l.invoked p.x (there id p)) in
      ⊎_elim
      (λ j. inl (j.0, (p.x.op, invoked, (j.1, j.2))))
      (λ j.
      let fits : Fits (Elements p.s) d.0 = subst (λ f. Fits f d.0) j.3 (l.fits p.x d.0 (there id p) (subst (λ n. Contains ms (Returned n d.0)) (sym p.is) d.1)) in
      inr (p.s, record { op = p.x.op; invoked = invoked; reads = j.0; of_all = j.1; answer = subst (λ a. Contains ms (Returned id a)) (fits_many p.s d.0 fits) d.1 }, run_ascends p.before [] p.s p.run tt))
      (set_view p.x.op.name p.x.op.part p.s p.t p.x.found p.step)

  more_before : (a b : ℕ) (these those : List ℤ) (h : HasRead ms a these) (k : HasRead ms b those) → ((z : Taken) → Contains (read_place a these h).before z → Contains (read_place b those k).before z) → IsWithin these those
  more_before a b these those h k f v i = let y = from_answer a these h v i in to_answer b those k v (y.0, f y.0 y.1, y.2)

  chain : (a b : ℕ) (these those : List ℤ) → HasRead ms a these → HasRead ms b those → IsWithin these those ⊎ IsWithin those these
  chain a b these those h k =
      let p : Place a = read_place a these h in
      let q : Place b = read_place b those k in
      ⊎_elim
      (λ (f : IsPrefixOf p.before q.before). inl (more_before a b these those h k (λ z i. subst (λ m. Contains m z) f.1 (Contains-append_left p.before f.0 z i))))
      (λ (f : IsPrefixOf q.before p.before). inr (more_before b a those these k h (λ z i. subst (λ m. Contains m z) f.1 (Contains-append_left q.before f.0 z i))))
      (two_cuts p.before (p.x ∷ p.after) q.before (q.x ∷ q.after) (p.whole ∙ sym q.whole))

  -- a done add of a value that an answer lacks stands behind the read
  add_behind : (read : ℕ) (members : List ℤ) (h : HasRead ms read members) (id : ℕ) → IsDoneAddBeyond ms members id
      → (x : Taken) × (x.id ≡ id) × Contains (read_place read members h).after x
  add_behind read members h id beyond =
      let p : Place read = read_place read members h in
      let q : Place id = place_of id beyond.2 in
      let same : beyond.1.0 ≡ q.x.op = op_of id q beyond.1.0 beyond.1.1 in
      let adds : Adds q.x.op beyond.0 = (ap (λ (o : Op). o.name) (sym same) ∙ beyond.1.2.0, ap (λ (o : Op). o.part) (sym same) ∙ beyond.1.2.1) in
      let own : h.op ≡ p.x.op = op_of read p h.op h.invoked in
      ⊎_elim
      (λ i. absurd (beyond.3 (to_answer read members h beyond.0 (q.x, i, adds))))
      (λ i. ⊎_elim
      (λ (e : p.x ≡ q.x). absurd (no_both q.x.op.name (ap (λ (z : Taken). z.op.name) (sym e) ∙ ap (λ (o : Op). o.name) (sym own) ∙ h.reads) adds.0))
      (λ j. (q.x, q.is, j))
      (Contains-cons_cases p.x p.after q.x i))
      (Contains-append_cases p.before (p.x ∷ p.after) q.x (subst (λ k. Contains k q.x) (sym p.whole) (there id q)))

  added : (read : ℕ) (members : List ℤ) (v : ℤ) (id : ℕ) → HasRead ms read members → Contains members v → ComesWith ms members id
      → (add : ℕ) × IsAddOf ms add v × (¬ Contains ms (Failed add)) × (¬ Precedes ms id add)
  added read members v id h i comes =
      let p : Place read = read_place read members h in
      let some = from_answer read members h v i in
      ⊎_elim
      (λ c.
      let y : Taken = c.1 in
      let early : Contains p.before y = subst (λ k. Contains k y) (sym c.3) (Contains-append_right c.0 (y ∷ c.2) y (Contains-head y c.2)) in
      let y_there : Contains order y = subst (λ k. Contains k y) p.whole (Contains-append_left p.before (p.x ∷ p.after) y early) in
      let parts : c.0 ++ y ∷ (c.2 ++ p.x ∷ p.after) ≡ order = sym (append_assoc c.0 (y ∷ c.2) (p.x ∷ p.after)) ∙ ap (λ k. k ++ p.x ∷ p.after) (sym c.3) ∙ p.whole in (
        y.id,
        (y.op, l.invoked y y_there, c.4),
        l.none_failed y y_there,
        λ before.
            ⊎_elim
            (λ m.
            let q : Place id = read_place id members m in
            ⊎_elim
            (λ f. (let z = from_answer id members m v i in c.5 z.0 (f z.0 z.1) z.2))
            (λ k. Pairwise-across InTime q.before (q.x ∷ q.after) (in_time_at id q) y q.x k (Contains-head q.x q.after) (subst (λ n. Precedes ms n y.id) (sym q.is) before))
            (compare c.0 y (c.2 ++ p.x ∷ p.after) q.before q.x q.after (parts ∙ sym q.whole)))
            (λ beyond.
            let x = add_behind read members h id beyond in
            Pairwise-across InTime p.before (p.x ∷ p.after) (in_time_at read p) y x.0 early (Contains-tail p.x p.after x.0 x.2) (subst (λ n. Precedes ms n y.id) (sym x.1) before))
            comes,
      ))
      (λ none. absurd (none some.0 some.1 some.2))
      (first_of (λ (y : Taken). Adds y.op v) (λ (y : Taken). adds_or_not y.op.name y.op.part v) p.before)

  in_turn : (read : ℕ) (members : List ℤ) (id : ℕ) → HasRead ms read members → ComesAfter ms members id → ¬ Precedes ms id read
  in_turn read members id h comes before =
      let p : Place read = read_place read members h in
      ⊎_elim
      (λ m.
      let q : Place id = read_place id m.0 m.1 in
      ⊎_elim
      (λ f. m.3 (more_before id read m.0 members m.1 h f))
      (λ k. Pairwise-across InTime q.before (q.x ∷ q.after) (in_time_at id q) p.x q.x k (Contains-head q.x q.after) (subst (λ n. Precedes ms n p.x.id) (sym q.is) (subst (λ n. Precedes ms id n) (sym p.is) before)))
      (compare p.before p.x p.after q.before q.x q.after (p.whole ∙ sym q.whole)))
      (λ beyond.
      let x = add_behind read members h id beyond in
      (Pairwise-right InTime p.before (p.x ∷ p.after) (in_time_at read p)).0 x.0 x.2 (subst (λ n. Precedes ms n p.x.id) (sym x.1) (subst (λ n. Precedes ms id n) (sym p.is) before)))
      comes

pub chained_if_linearizable : (ms : List Mark) → AreWellFormed ms → IsLinearizable set_of_numbers ms → IsChained ms
chained_if_linearizable ms well h = record {
  known = known ms well h.0 h.1 h.2;
  chain = chain ms well h.0 h.1 h.2;
  added = added ms well h.0 h.1 h.2;
  in_turn = in_turn ms well h.0 h.1 h.2;
}
