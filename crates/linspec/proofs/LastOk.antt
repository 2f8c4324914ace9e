-- entries of which the last alone is an ok
use Rattle.std.proofs.Common.{◌≡◌, ℕ, ⊎_elim, List, [], ◌∷◌, ◌++◌, refl, sym, ap, ◌∙◌, subst, arith}
use Rattle.std.specs.List.{Contains}
use Rattle.std.proofs.lemmas.List.{append-nil}
use Rattle.std.proofs.lemmas.List.Elements.{Contains-append_right}
use Rattle.models.specs.declared.operation.Op.{Op}
use Rattle.models.specs.declared.finding.Answer.{Answer}
use Rattle.models.specs.Objects.{Object}
use Rattle.events.specs.Events.{Entry, marks}
use Rattle.events.specs.Events.Mark.{Invoked, Returned}
use Rattle.linspec.specs.Orders.{IsLinearizable}
use Rattle.linspec.specs.Ends.{Count, IsBlownIndexBy, IsWithinBudgetBy}
use Rattle.linspec.specs.Verdicts.{EveryPrefixIsLinearizable}
use Rattle.linspec.proofs.Lists.{Contains-nil, Contains-head, snoc_cut}
use Rattle.linspec.proofs.Linearizable.{IsLinearizable-empty}

abbrev pub IsOk : Entry → Type 0
IsOk e = (id : ℕ) × (answer : Answer) × (e.mark ≡ Returned id answer)

pub not_ok : (e x : Entry) (id : ℕ) (op : Op) → e.mark ≡ Invoked id op → e ≡ x → ¬ IsOk x
not_ok e x id op m is ok = let q : Invoked id op ≡ Returned ok.0 ok.1 = sym m ∙ ap (λ (w : Entry). w.mark) is ∙ ok.2 in cc

-- no entries: none is an ok, and each front is empty
pub none_blown : (more : Count) (budget : ℕ) (entries : List Entry) → entries ≡ [] → IsWithinBudgetBy more budget entries
none_blown more budget entries none i b =
    Contains-nil b.event (subst (λ l. Contains l b.event) (b.cut ∙ none) (Contains-append_right b.before (b.event ∷ b.after) b.event (Contains-head b.event b.after)))

front_of_none : (front rest : List Entry) → front ++ rest ≡ [] → front ≡ []
front_of_none [] rest e = refl
front_of_none (x ∷ front) rest e = cc

pub fronts_of_none : (o : Object) → EveryPrefixIsLinearizable o []
fronts_of_none o front is = subst (λ l. IsLinearizable o (marks l)) (sym (front_of_none front is.0 is.1)) (IsLinearizable-empty o)

module _ (xs : List Entry) (last : Entry) (others : (x : Entry) → Contains xs x → ¬ IsOk x) where
  only_cut : (before after : List Entry) (event : Entry) → before ++ event ∷ after ≡ xs ++ last ∷ [] → IsOk event → (before ≡ xs) × (event ≡ last)
  only_cut before after event cut ok =
      ⊎_elim
      (λ none. (let clash : event ∷ after ≡ [] = none in cc))
      (λ c. at_rest c.0 c.1 c.2)
      (snoc_cut before (event ∷ after) xs last cut)
    where
      at_rest : (rest : List Entry) → event ∷ after ≡ rest ++ last ∷ [] → before ++ rest ≡ xs → (before ≡ xs) × (event ≡ last)
      at_rest [] e f = (sym (append-nil before) ∙ f, (let is : event ≡ last = cc in is))
      at_rest (y ∷ rest) e f =
          let is : y ≡ event = cc in
          absurd (others event (subst (λ l. Contains l event) (ap (λ w. before ++ w ∷ rest) (sym is) ∙ f) (Contains-append_right before (event ∷ rest) event (Contains-head event rest))) ok)

  pub blown_at_last : (more : Count) (budget : ℕ) → IsOk last → more (marks xs) budget → IsBlownIndexBy more budget (xs ++ last ∷ []) last.index
  blown_at_last more budget ok many = record {
    blown = record { before = xs; event = last; after = []; cut = refl; here = refl; is_ok = ok; many = many };
    least = λ j b.
        let c = only_cut b.before b.after b.event b.cut b.is_ok in
        let at : last.index ≡ j = ap (λ (w : Entry). w.index) (sym c.1) ∙ b.here in
        omega arith;
  }

  pub within_at_last : (more : Count) (budget : ℕ) → ¬ more (marks xs) budget → IsWithinBudgetBy more budget (xs ++ last ∷ [])
  within_at_last more budget few j b =
      few (subst (λ l. more (marks l) budget) (only_cut b.before b.after b.event b.cut b.is_ok).0 b.many)
