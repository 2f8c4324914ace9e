-- the conditions of the ok of a read
use Rattle.std.proofs.Common.{◌≡◌, ◌↔◌, ℕ, ℤ, ◌⊎◌, inl, inr, ⊎_elim, List, [], ◌∷◌, ◌++◌, refl, sym, ap, ◌∙◌, subst}
use Rattle.std.specs.List.{Contains}
use Rattle.std.proofs.lemmas.List.Elements.{Contains-append_left, Contains-push, Contains-push_cases}
use Rattle.models.specs.declared.operation.Name.TheVariants.{Read}
use Rattle.models.specs.declared.operation.Part.TheVariants.{Nil}
use Rattle.models.specs.declared.operation.Op.{Op}
use Rattle.models.specs.declared.finding.Answer.TheVariants.{Many}
use Rattle.values.specs.Members.{IsAscending}
use Rattle.events.specs.Events.{Mark}
use Rattle.events.specs.Events.Mark.{Invoked, Returned, Failed}
use Rattle.linspec.specs.MarkRule.{AreWellFormed}
use Rattle.linspec.specs.Operations.{HasReturned, IsOpen, Precedes}
use Rattle.linspec.proofs.Marks.{Precedes-kept, Precedes-cases}
use Rattle.set_chains.specs.Chains.{IsAddOf, HasRead, IsWithin, IsDoneAddBeyond, ComesWith, ComesAfter, IsChained, MayAnswer}
use Rattle.set_chains.proofs.Once.{one_op, one_answer}
use Rattle.set_chains.proofs.Steps.{no_both}

module _ (ms : List Mark) (id : ℕ) (op : Op) (members : List ℤ) (well : AreWellFormed (ms ++ Returned id (Many members) ∷ [])) (invoked : Contains ms (Invoked id op)) (name : op.name ≡ Read) (part : op.part ≡ Nil) where
  abbrev last : Mark
  last = Returned id (Many members)

  abbrev longer : List Mark
  longer = ms ++ last ∷ []

  kept : (m : Mark) → Contains ms m → Contains longer m
  kept m h = Contains-append_left ms (last ∷ []) m h

  was_open : IsOpen ms id
  was_open = well ms [] last refl

  earlier : (a b : ℕ) → Precedes longer a b → Precedes ms a b
  earlier a b p = ⊎_elim (λ k. k) (λ k. (let e = k.1 in cc)) (Precedes-cases ms last p)

  still : (a b : ℕ) → Precedes ms a b → Precedes longer a b
  still a b p = Precedes-kept ms last p

  precedes_none : (b : ℕ) → ¬ Precedes longer id b
  precedes_none b p = was_open.not_returned (returned_of (earlier id b p))
    where
      returned_of : Precedes ms id b → HasReturned ms id
      returned_of q = (q.returned.0, subst (λ l. Contains l (Returned id q.returned.0)) q.cut (Contains-append_left q.before q.after _ q.returned.1))

  was_invoked : (n : ℕ) (o : Op) → Contains longer (Invoked n o) → Contains ms (Invoked n o)
  was_invoked n o h = ⊎_elim (λ k. k) (λ e. cc) (Contains-push_cases ms last _ h)

  not_failed : (n : ℕ) → ¬ Contains ms (Failed n) → ¬ Contains longer (Failed n)
  not_failed n nf h = ⊎_elim nf (λ e. cc) (Contains-push_cases ms last _ h)

  add_was : (n : ℕ) (v : ℤ) → IsAddOf longer n v → IsAddOf ms n v
  add_was n v a = (a.0, was_invoked n a.0 a.1, a.2)

  add_is : (n : ℕ) (v : ℤ) → IsAddOf ms n v → IsAddOf longer n v
  add_is n v a = (a.0, kept _ a.1, a.2)

  read_is : (n : ℕ) (s : List ℤ) → HasRead ms n s → HasRead longer n s
  read_is n s r = record { op = r.op; invoked = kept _ r.invoked; reads = r.reads; of_all = r.of_all; answer = kept _ r.answer }

  own : HasRead longer id members
  own = record { op = op; invoked = kept _ invoked; reads = name; of_all = part; answer = Contains-push ms last }

  read_was : (n : ℕ) (s : List ℤ) → HasRead longer n s → ((id ≡ n) × (members ≡ s)) ⊎ HasRead ms n s
  read_was n s r = ⊎_elim
      (λ k. inr (record { op = r.op; invoked = was_invoked n r.op r.invoked; reads = r.reads; of_all = r.of_all; answer = k }))
      (λ (e : last ≡ Returned n (Many s)). (let a : id ≡ n = cc in let b : members ≡ s = cc in inl (a, b)))
      (Contains-push_cases ms last _ r.answer)

  beyond_is : (s : List ℤ) (n : ℕ) → IsDoneAddBeyond ms s n → IsDoneAddBeyond longer s n
  beyond_is s n b = (b.0, add_is n b.0 b.1, (b.2.0, kept _ b.2.1), b.3)

  beyond_was : (s : List ℤ) (n : ℕ) → IsDoneAddBeyond longer s n → (id ≡ n) ⊎ IsDoneAddBeyond ms s n
  beyond_was s n b = ⊎_elim
      (λ k. inr (b.0, add_was n b.0 b.1, (b.2.0, k), b.3))
      (λ (e : last ≡ Returned n b.2.0). (let a : id ≡ n = cc in inl a))
      (Contains-push_cases ms last _ b.2.1)

  with_is : (s : List ℤ) (n : ℕ) → ComesWith ms s n → ComesWith longer s n
  with_is s n c = ⊎_elim (λ k. inl (read_is n s k)) (λ k. inr (beyond_is s n k)) c

  after_is : (s : List ℤ) (n : ℕ) → ComesAfter ms s n → ComesAfter longer s n
  after_is s n c = ⊎_elim (λ k. inl (k.0, read_is n k.0 k.1, k.2, k.3)) (λ k. inr (beyond_is s n k)) c

  with_was : (s : List ℤ) (n : ℕ) → ComesWith longer s n → (id ≡ n) ⊎ ComesWith ms s n
  with_was s n c = ⊎_elim (λ k. ⊎_elim (λ e. inl e.0) (λ j. inr (inl j)) (read_was n s k)) (λ k. ⊎_elim inl (λ j. inr (inr j)) (beyond_was s n k)) c

  after_was : (s : List ℤ) (n : ℕ) → ComesAfter longer s n → (id ≡ n) ⊎ ComesAfter ms s n
  after_was s n c = ⊎_elim (λ k. ⊎_elim (λ e. inl e.0) (λ j. inr (inl (k.0, j, k.2, k.3))) (read_was n k.0 k.1)) (λ k. ⊎_elim inl (λ j. inr (inr j)) (beyond_was s n k)) c

  abbrev HasAdd : ℕ → ℤ → Type 0
  HasAdd n v = (add : ℕ) × IsAddOf ms add v × (¬ Contains ms (Failed add)) × (¬ Precedes ms n add)

  abbrev HasAddLater : ℕ → ℤ → Type 0
  HasAddLater n v = (add : ℕ) × IsAddOf longer add v × (¬ Contains longer (Failed add)) × (¬ Precedes longer n add)

  back : (n : ℕ) (v : ℤ) → HasAddLater n v → HasAdd n v
  back n v a = (a.0, add_was a.0 v a.1, (λ f. a.2 (kept _ f)), (λ p. a.3 (still n a.0 p)))

  on : (n : ℕ) (v : ℤ) → HasAdd n v → HasAddLater n v
  on n v a = (a.0, add_is a.0 v a.1, not_failed a.0 a.2, (λ p. a.3 (earlier n a.0 p)))

  own_add : (n : ℕ) (v : ℤ) → id ≡ n → (add : ℕ) → IsAddOf ms add v → ¬ Contains ms (Failed add) → HasAddLater n v
  own_add n v e add a nf = (add, add_is add v a, not_failed add nf, (λ p. precedes_none add (subst (λ k. Precedes longer k add) (sym e) p)))

  parts : IsChained longer → IsChained ms × MayAnswer ms id members
  parts chained = (
    record {
      known = λ n d. ⊎_elim
          (λ a. inl (a.0, add_was n a.0 a.1))
          (λ r. ⊎_elim
          (λ e. absurd (was_open.not_returned (subst (HasReturned ms) (sym e.0) d)))
          (λ k. inr (r.0, k, r.2))
          (read_was n r.0 r.1))
          (chained.known n (d.0, kept _ d.1));
      chain = λ a b these those h k. chained.chain a b these those (read_is a these h) (read_is b those k);
      added = λ read s v n h i comes. back n v (chained.added read s v n (read_is read s h) i (with_is s n comes));
      in_turn = λ read s n h comes p. chained.in_turn read s n (read_is read s h) (after_is s n comes) (still n read p);
    },
    record {
      ascending = ⊎_elim
          (λ a. absurd (no_both op.name name (ap (λ (o : Op). o.name) (one_op longer well id op a.1.0 (kept _ invoked) a.1.1) ∙ a.1.2.0)))
          (λ r. (let e : Many members ≡ Many r.0 = one_answer longer well id (Many members) (Many r.0) own.answer r.1.answer in let s : members ≡ r.0 = cc in subst IsAscending (sym s) r.2))
          (chained.known id (Many members, Contains-push ms last));
      chain = λ other those h. chained.chain id other members those own (read_is other those h);
      has_add = λ v i. (let a = back id v (chained.added id members v id own i (inl own)) in (a.0, a.1, a.2));
      added = λ v other i comes. back other v (chained.added id members v other own i (inr (beyond_is members other comes)));
      in_turn = λ other comes p. chained.in_turn id members other own (after_is members other comes) (still other id p);
    },
  )

  whole : IsChained ms → MayAnswer ms id members → IsChained longer
  whole chained may = record {
    known = λ n d. ⊎_elim
        (λ k. ⊎_elim (λ a. inl (a.0, add_is n a.0 a.1)) (λ r. inr (r.0, read_is n r.0 r.1, r.2)) (chained.known n (d.0, k)))
        (λ (e : last ≡ Returned n d.0). (let s : id ≡ n = cc in inr (members, subst (λ k. HasRead longer k members) s own, may.ascending)))
        (Contains-push_cases ms last _ d.1);
    chain = λ a b these those h k. ⊎_elim
        (λ e. ⊎_elim
        (λ f. inl (λ v j. subst (λ l. Contains l v) (sym e.1 ∙ f.1) j))
        (λ j. subst (λ l. IsWithin l those ⊎ IsWithin those l) e.1 (may.chain b those j))
        (read_was b those k))
        (λ i. ⊎_elim
        (λ f. subst (λ l. IsWithin these l ⊎ IsWithin l these) f.1 (⊎_elim inr inl (may.chain a these i)))
        (λ j. chained.chain a b these those i j)
        (read_was b those k))
        (read_was a these h);
    added = λ read s v n h i comes. ⊎_elim
        (λ e.
        let i' : Contains members v = subst (λ l. Contains l v) (sym e.1) i in
        ⊎_elim
        (λ q. (let a = may.has_add v i' in own_add n v q a.0 a.1 a.2))
        (λ c. on n v (⊎_elim (λ r. chained.added n members v n r i' (inl r)) (λ b. may.added v n i' b) (subst (λ l. ComesWith ms l n) (sym e.1) c)))
        (with_was s n comes))
        (λ r. ⊎_elim
        (λ q. (let a = chained.added read s v read r i (inl r) in own_add n v q a.0 a.1 a.2))
        (λ c. on n v (chained.added read s v n r i c))
        (with_was s n comes))
        (read_was read s h);
    in_turn = λ read s n h comes p. ⊎_elim
        (λ q. precedes_none read (subst (λ k. Precedes longer k read) (sym q) p))
        (λ c. ⊎_elim
        (λ e. may.in_turn n (subst (λ l. ComesAfter ms l n) (sym e.1) c) (subst (λ k. Precedes ms n k) (sym e.0) (earlier n read p)))
        (λ r. chained.in_turn read s n r c (earlier n read p))
        (read_was read s h))
        (after_was s n comes);
  }

  pub chained_after_ok_of_read : IsChained longer ↔ (IsChained ms × MayAnswer ms id members)
  chained_after_ok_of_read = (parts, (λ h. whole h.0 h.1))
