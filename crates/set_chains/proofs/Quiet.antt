-- the conditions of an event other than an ok
use Rattle.std.proofs.Common.{◌≡◌, ◌≢◌, ◌↔◌, ℕ, ℤ, inl, inr, ⊎_elim, List, [], ◌∷◌, ◌++◌, refl, sym, ap, ◌∙◌, subst, append_assoc}
use Rattle.std.specs.List.{Contains}
use Rattle.std.proofs.lemmas.List.Elements.{Contains-append_left, Contains-push, Contains-push_cases}
use Rattle.std.proofs.lemmas.Bool.{cases_eq}
use Rattle.models.specs.declared.operation.Op.{Op}
use Rattle.models.specs.declared.finding.Answer.{Answer}
use Rattle.models.specs.declared.finding.Answer.TheVariants.{Many}
use Rattle.events.specs.Events.{Mark}
use Rattle.events.specs.Events.Mark.{Invoked, Returned, Failed}
use Rattle.linspec.specs.MarkRule.{AreWellFormed}
use Rattle.linspec.specs.Operations.{IsInvoked, HasReturned, Precedes}
use Rattle.linspec.proofs.Lists.{Contains-head}
use Rattle.linspec.proofs.Marks.{Precedes-kept, Precedes-cases}
use Rattle.set_chains.specs.Chains.{IsAddOf, HasRead, IsDoneAddBeyond, ComesWith, ComesAfter, IsChained, MayFail}
use Rattle.set_chains.proofs.Once.{one_op, returned_invoked}

module _ (ms : List Mark) (m : Mark) (well : AreWellFormed (ms ++ m ∷ [])) (no_ok : (n : ℕ) (a : Answer) → m ≢ Returned n a) where
  abbrev longer : List Mark
  longer = ms ++ m ∷ []

  kept : (n : Mark) → Contains ms n → Contains longer n
  kept n h = Contains-append_left ms (m ∷ []) n h

  front_well : AreWellFormed ms
  front_well before after n cut = well before (after ++ m ∷ []) n (sym (append_assoc before (n ∷ after) (m ∷ [])) ∙ ap (λ l. l ++ m ∷ []) cut)

  returned_was : (n : ℕ) (a : Answer) → Contains longer (Returned n a) → Contains ms (Returned n a)
  returned_was n a h = ⊎_elim (λ k. k) (λ e. absurd (no_ok n a e)) (Contains-push_cases ms m _ h)

  -- who has returned was invoked before
  op_was : (n : ℕ) (a : Answer) (o : Op) → Contains ms (Returned n a) → Contains longer (Invoked n o) → Contains ms (Invoked n o)
  op_was n a o d h =
      let i : IsInvoked ms n = returned_invoked ms front_well n a d in
      subst (λ p. Contains ms (Invoked n p)) (one_op longer well n i.0 o (kept _ i.1) h) i.1

  -- and who was invoked before is not invoked now
  not_now : (n : ℕ) (o p : Op) → Contains ms (Invoked n o) → m ≢ Invoked n p
  not_now n o p h e = fresh (subst (λ k. AreWellFormed (ms ++ k ∷ [])) e well)
    where
      fresh : AreWellFormed (ms ++ Invoked n p ∷ []) → ⊥
      fresh w = w ms [] (Invoked n p) refl (Invoked n o) h refl

  earlier : (a b : ℕ) → IsInvoked ms b → Precedes longer a b → Precedes ms a b
  earlier a b i p = ⊎_elim (λ k. k) (λ k. absurd (not_now b i.0 k.0 i.1 k.1)) (Precedes-cases ms m p)

  still : (a b : ℕ) → Precedes ms a b → Precedes longer a b
  still a b p = Precedes-kept ms m p

  add_is : (n : ℕ) (v : ℤ) → IsAddOf ms n v → IsAddOf longer n v
  add_is n v a = (a.0, kept _ a.1, a.2)

  -- an add that who has returned does not precede was invoked before
  add_was : (x n : ℕ) (v : ℤ) → HasReturned ms x → IsAddOf longer n v → ¬ Precedes longer x n → IsAddOf ms n v
  add_was x n v d a np = (
    a.0,
    ⊎_elim
        (λ k. k)
        (λ (e : m ≡ Invoked n a.0). absurd (np (record { before = ms; after = m ∷ []; cut = refl; returned = d; invoked = (a.0, subst (Contains (m ∷ [])) e (Contains-head m [])) })))
        (Contains-push_cases ms m _ a.1),
    a.2,
  )

  read_is : (n : ℕ) (s : List ℤ) → HasRead ms n s → HasRead longer n s
  read_is n s r = record { op = r.op; invoked = kept _ r.invoked; reads = r.reads; of_all = r.of_all; answer = kept _ r.answer }

  read_was : (n : ℕ) (s : List ℤ) → HasRead longer n s → HasRead ms n s
  read_was n s r = let d : Contains ms (Returned n (Many s)) = returned_was n (Many s) r.answer in
      record { op = r.op; invoked = op_was n (Many s) r.op d r.invoked; reads = r.reads; of_all = r.of_all; answer = d }

  beyond_is : (s : List ℤ) (n : ℕ) → IsDoneAddBeyond ms s n → IsDoneAddBeyond longer s n
  beyond_is s n b = (b.0, add_is n b.0 b.1, (b.2.0, kept _ b.2.1), b.3)

  beyond_was : (s : List ℤ) (n : ℕ) → IsDoneAddBeyond longer s n → IsDoneAddBeyond ms s n
  beyond_was s n b = let d : Contains ms (Returned n b.2.0) = returned_was n b.2.0 b.2.1 in
      (b.0, (b.1.0, op_was n b.2.0 b.1.0 d b.1.1, b.1.2), (b.2.0, d), b.3)

  with_is : (s : List ℤ) (n : ℕ) → ComesWith ms s n → ComesWith longer s n
  with_is s n c = ⊎_elim (λ k. inl (read_is n s k)) (λ k. inr (beyond_is s n k)) c

  with_was : (s : List ℤ) (n : ℕ) → ComesWith longer s n → ComesWith ms s n
  with_was s n c = ⊎_elim (λ k. inl (read_was n s k)) (λ k. inr (beyond_was s n k)) c

  after_is : (s : List ℤ) (n : ℕ) → ComesAfter ms s n → ComesAfter longer s n
  after_is s n c = ⊎_elim (λ k. inl (k.0, read_is n k.0 k.1, k.2, k.3)) (λ k. inr (beyond_is s n k)) c

  after_was : (s : List ℤ) (n : ℕ) → ComesAfter longer s n → ComesAfter ms s n
  after_was s n c = ⊎_elim (λ k. inl (k.0, read_was n k.0 k.1, k.2, k.3)) (λ k. inr (beyond_was s n k)) c

  has_come : (s : List ℤ) (n : ℕ) → ComesWith ms s n → HasReturned ms n
  has_come s n c = ⊎_elim (λ k. (Many s, k.answer)) (λ k. k.2) c

  abbrev AddsStay : Type 0
  AddsStay = (read : ℕ) (s : List ℤ) (v : ℤ) (n : ℕ) → HasRead ms read s → Contains s v → ComesWith ms s n
      → (add : ℕ) × IsAddOf ms add v × (¬ Contains longer (Failed add)) × (¬ Precedes ms n add)

  pub forth : IsChained ms → AddsStay → IsChained longer
  forth chained stay = record {
    known = λ n d. ⊎_elim (λ a. inl (a.0, add_is n a.0 a.1)) (λ r. inr (r.0, read_is n r.0 r.1, r.2)) (chained.known n (d.0, returned_was n d.0 d.1));
    chain = λ a b these those h k. chained.chain a b these those (read_was a these h) (read_was b those k);
    added = λ read s v n h i comes. (let a = stay read s v n (read_was read s h) i (with_was s n comes) in
        (a.0, add_is a.0 v a.1, a.2, (λ p. a.3 (earlier n a.0 (a.1.0, a.1.1) p))));
    in_turn = λ read s n h comes p. (let r = read_was read s h in chained.in_turn read s n r (after_was s n comes) (earlier n read (r.op, r.invoked) p));
  }

  pub back_stay : IsChained longer → AddsStay
  back_stay chained read s v n h i comes = let a = chained.added read s v n (read_is read s h) i (with_is s n comes) in
      (a.0, add_was n a.0 v (has_come s n comes) a.1 a.3, a.2, (λ p. a.3 (still n a.0 p)))

  pub back : IsChained longer → IsChained ms
  back chained = record {
    known = λ n d. ⊎_elim
        (λ a. inl (a.0, (a.1.0, op_was n d.0 a.1.0 d.1 a.1.1, a.1.2)))
        (λ r. inr (r.0, read_was n r.0 r.1, r.2))
        (chained.known n (d.0, kept _ d.1));
    chain = λ a b these those h k. chained.chain a b these those (read_is a these h) (read_is b those k);
    added = λ read s v n h i comes. (let a = back_stay chained read s v n h i comes in (a.0, a.1, (λ f. a.2 (kept _ f)), a.3));
    in_turn = λ read s n h comes p. chained.in_turn read s n (read_is read s h) (after_is s n comes) (still n read p);
  }

  pub quiet : ((n : ℕ) → m ≢ Failed n) → IsChained longer ↔ IsChained ms
  quiet no_fail = (
    back,
    λ chained. forth chained (λ read s v n h i comes. (let a = chained.added read s v n h i comes in
        (a.0, a.1, (λ f. ⊎_elim a.2 (λ e. no_fail a.0 e) (Contains-push_cases ms m _ f)), a.3))),
  )

module _ (ms : List Mark) (id : ℕ) (well : AreWellFormed (ms ++ Failed id ∷ [])) where
  no_return : (n : ℕ) (a : Answer) → Failed id ≢ Returned n a
  no_return n a e = cc

  fails : IsChained (ms ++ Failed id ∷ []) → MayFail ms id
  fails chained read s v other h i own comes =
      let a = back_stay ms (Failed id) well no_return chained read s v other h i comes in
      (a.0, a.1, (λ f. a.2 (Contains-append_left ms (Failed id ∷ []) _ f)), a.3, (λ e. a.2 (subst (λ k. Contains (ms ++ Failed id ∷ []) (Failed k)) (sym e) (Contains-push ms (Failed id)))))

  others_stay : IsChained ms → MayFail ms id → IsChained (ms ++ Failed id ∷ [])
  others_stay chained may = forth ms (Failed id) well no_return chained (λ read s v n h i comes.
      let a = chained.added read s v n h i comes in
      ⊎_elim
      (λ (e : a.0 ≡ id). (let b = may read s v n h i (subst (λ k. IsAddOf ms k v) e a.1) comes in (b.0, b.1, not_this b.0 b.2 b.4, b.3)))
      (λ ne. (a.0, a.1, not_this a.0 a.2 ne, a.3))
      (cases_eq a.0 id))
    where
      not_this : (n : ℕ) → ¬ Contains ms (Failed n) → n ≢ id → ¬ Contains (ms ++ Failed id ∷ []) (Failed n)
      not_this n nf ne f = ⊎_elim nf (λ (e : Failed id ≡ Failed n). (let s : id ≡ n = cc in ne (sym s))) (Contains-push_cases ms (Failed id) _ f)

  pub chained_after_fail : IsChained (ms ++ Failed id ∷ []) ↔ (IsChained ms × MayFail ms id)
  chained_after_fail = ((λ chained. (back ms (Failed id) well no_return chained, fails chained)), (λ h. others_stay h.0 h.1))
