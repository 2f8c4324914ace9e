-- the ok of an add keeps a history chained
use Rattle.std.proofs.Common.{◌≡◌, ℕ, ℤ, ◌⊎◌, inl, inr, ⊎_elim, List, [], ◌∷◌, ◌++◌, refl, sym, ap, ◌∙◌, subst}
use Rattle.std.specs.List.{Contains}
use Rattle.std.proofs.lemmas.List.Elements.{Contains-append_left, Contains-push_cases}
use Rattle.models.specs.declared.operation.Op.{Op}
use Rattle.models.specs.declared.finding.Answer.{Answer}
use Rattle.models.specs.declared.finding.Answer.TheVariants.{Many}
use Rattle.events.specs.Events.{Mark}
use Rattle.events.specs.Events.Mark.{Invoked, Returned, Failed}
use Rattle.linspec.specs.MarkRule.{AreWellFormed}
use Rattle.linspec.specs.Operations.{HasReturned, IsOpen, Precedes}
use Rattle.linspec.proofs.Marks.{Precedes-cases}
use Rattle.set_chains.specs.Chains.{IsAddOf, HasRead, IsDoneAddBeyond, ComesWith, ComesAfter, IsChained}
use Rattle.set_chains.proofs.Once.{one_op}
use Rattle.set_chains.proofs.Steps.{no_both}

module _ (ms : List Mark) (id : ℕ) (answer : Answer) (well : AreWellFormed (ms ++ Returned id answer ∷ [])) where
  abbrev longer : List Mark
  longer = ms ++ Returned id answer ∷ []

  kept : (m : Mark) → Contains ms m → Contains longer m
  kept m h = Contains-append_left ms (Returned id answer ∷ []) m h

  was_open : IsOpen ms id
  was_open = well ms [] (Returned id answer) refl

  earlier : (a b : ℕ) → Precedes longer a b → Precedes ms a b
  earlier a b p = ⊎_elim (λ k. k) (λ k. (let e = k.1 in cc)) (Precedes-cases ms (Returned id answer) p)

  -- the newest ok precedes none
  precedes_none : (b : ℕ) → ¬ Precedes longer id b
  precedes_none b p = was_open.not_returned (returned_of (earlier id b p))
    where
      returned_of : Precedes ms id b → HasReturned ms id
      returned_of q = (q.returned.0, subst (λ l. Contains l (Returned id q.returned.0)) q.cut (Contains-append_left q.before q.after _ q.returned.1))

  was_invoked : (n : ℕ) (op : Op) → Contains longer (Invoked n op) → Contains ms (Invoked n op)
  was_invoked n op h = ⊎_elim (λ k. k) (λ e. cc) (Contains-push_cases ms (Returned id answer) _ h)

  not_failed : (n : ℕ) → ¬ Contains ms (Failed n) → ¬ Contains longer (Failed n)
  not_failed n nf h = ⊎_elim nf (λ e. cc) (Contains-push_cases ms (Returned id answer) _ h)

  add_was : (n : ℕ) (v : ℤ) → IsAddOf longer n v → IsAddOf ms n v
  add_was n v a = (a.0, was_invoked n a.0 a.1, a.2)

  add_is : (n : ℕ) (v : ℤ) → IsAddOf ms n v → IsAddOf longer n v
  add_is n v a = (a.0, kept _ a.1, a.2)

  read_is : (n : ℕ) (members : List ℤ) → HasRead ms n members → HasRead longer n members
  read_is n members r = record { op = r.op; invoked = kept _ r.invoked; reads = r.reads; of_all = r.of_all; answer = kept _ r.answer }

  module _ (w : ℤ) (own : IsAddOf ms id w) (chained : IsChained ms) where
    read_was : (n : ℕ) (members : List ℤ) → HasRead longer n members → HasRead ms n members
    read_was n members r = record {
      op = r.op;
      invoked = was_invoked n r.op r.invoked;
      reads = r.reads;
      of_all = r.of_all;
      answer = ⊎_elim
          (λ k. k)
          (λ (e : Returned id answer ≡ Returned n (Many members)).
          (let s : id ≡ n = cc in
          let same : own.0 ≡ r.op = one_op longer well id own.0 r.op (kept _ own.1) (subst (λ k. Contains longer (Invoked k r.op)) (sym s) r.invoked) in
          absurd (no_both own.0.name (ap (λ (o : Op). o.name) same ∙ r.reads) own.2.0)))
          (Contains-push_cases ms (Returned id answer) _ r.answer);
    }

    beyond_was : (members : List ℤ) (n : ℕ) → IsDoneAddBeyond longer members n → (id ≡ n) ⊎ IsDoneAddBeyond ms members n
    beyond_was members n b = ⊎_elim
        (λ k. inr (b.0, add_was n b.0 b.1, (b.2.0, k), b.3))
        (λ (e : Returned id answer ≡ Returned n b.2.0). (let s : id ≡ n = cc in inl s))
        (Contains-push_cases ms (Returned id answer) _ b.2.1)

    with_was : (members : List ℤ) (n : ℕ) → ComesWith longer members n → (id ≡ n) ⊎ ComesWith ms members n
    with_was members n c = ⊎_elim (λ k. inr (inl (read_was n members k))) (λ k. ⊎_elim inl (λ j. inr (inr j)) (beyond_was members n k)) c

    after_was : (members : List ℤ) (n : ℕ) → ComesAfter longer members n → (id ≡ n) ⊎ ComesAfter ms members n
    after_was members n c = ⊎_elim (λ k. inr (inl (k.0, read_was n k.0 k.1, k.2, k.3))) (λ k. ⊎_elim inl (λ j. inr (inr j)) (beyond_was members n k)) c

    pub chained_after_ok_of_add : IsChained longer
    chained_after_ok_of_add = record {
      known = λ n d. ⊎_elim
          (λ k. ⊎_elim (λ a. inl (a.0, add_is n a.0 a.1)) (λ r. inr (r.0, read_is n r.0 r.1, r.2)) (chained.known n (d.0, k)))
          (λ (e : Returned id answer ≡ Returned n d.0). (let s : id ≡ n = cc in inl (w, subst (λ k. IsAddOf longer k w) s (add_is id w own))))
          (Contains-push_cases ms (Returned id answer) _ d.1);
      chain = λ a b these those h k. chained.chain a b these those (read_was a these h) (read_was b those k);
      added = λ read members v n h i comes. ⊎_elim
          (λ s. (let a = chained.added read members v read (read_was read members h) i (inl (read_was read members h)) in
          (a.0, add_is a.0 v a.1, not_failed a.0 a.2, (λ p. precedes_none a.0 (subst (λ k. Precedes longer k a.0) (sym s) p)))))
          (λ c. (let a = chained.added read members v n (read_was read members h) i c in (a.0, add_is a.0 v a.1, not_failed a.0 a.2, (λ p. a.3 (earlier n a.0 p)))))
          (with_was members n comes);
      in_turn = λ read members n h comes p. ⊎_elim
          (λ s. precedes_none read (subst (λ k. Precedes longer k read) (sym s) p))
          (λ c. chained.in_turn read members n (read_was read members h) c (earlier n read p))
          (after_was members n comes);
    }
