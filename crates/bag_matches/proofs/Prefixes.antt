-- prefixes of a well-formed history
use Rattle.std.proofs.Common.{◌≡◌, ℕ, ℤ, ⊎_elim, List, ◌∷◌, ◌++◌, refl, sym, ap, ◌∙◌, subst, append_assoc}
use Rattle.std.specs.List.{Contains}
use Rattle.std.proofs.lemmas.List.Elements.{Contains-append_left, Contains-append_right, Contains-append_cases}
use Rattle.models.specs.declared.operation.Op.{Op}
use Rattle.models.specs.declared.finding.Answer.{Answer}
use Rattle.models.specs.declared.finding.Answer.TheVariants.{Number}
use Rattle.events.specs.Events.{Mark, IsPrefixOf}
use Rattle.events.specs.Events.Mark.{Invoked, Returned}
use Rattle.linspec.specs.MarkRule.{id_of, IsNew, MayFollow, AreWellFormed}
use Rattle.linspec.specs.Operations.{IsInvoked, HasReturned, IsOpen, Precedes}
use Rattle.linspec.specs.Orders.{Pairwise}
use Rattle.linspec.proofs.Lists.{Contains-head, cut_at}
use Rattle.linspec.proofs.Filters.{two_cuts}
use Rattle.set_chains.proofs.Once.{returned_invoked}
use Rattle.bag_matches.specs.Counts.{puts, takes}
use Rattle.bag_matches.proofs.Tests.{IsPut, IsTake, puts_is, takes_is}
use Rattle.bag_matches.proofs.Counting.{Apart, Pairwise-cuts}

pub well_front : (xs ys : List Mark) → AreWellFormed (xs ++ ys) → AreWellFormed xs
well_front xs ys well before after m cut = well before (after ++ ys) m (sym (append_assoc before (m ∷ after) ys) ∙ ap (λ l. l ++ ys) cut)

rejoin : {X : Type 0} (a b c rest front xs : List X) (x y : X) → a ++ x ∷ (b ++ y ∷ c) ≡ front → front ++ rest ≡ xs → (a ++ x ∷ b) ++ y ∷ (c ++ rest) ≡ xs
rejoin a b c rest front xs x y e cut =
    append_assoc a (x ∷ b) (y ∷ (c ++ rest)) ∙ ap (λ l. a ++ x ∷ l) (sym (append_assoc b (y ∷ c) rest)) ∙ sym (append_assoc a (x ∷ (b ++ y ∷ c)) rest) ∙ ap (λ l. l ++ rest) e ∙ cut

module _ (ms : List Mark) (well : AreWellFormed ms) where
  module _ (front rest : List Mark) (cut : front ++ rest ≡ ms) where
    pub well_part : AreWellFormed front
    well_part = well_front front rest (subst AreWellFormed (sym cut) well)

    pub in_whole : (m : Mark) → Contains front m → Contains ms m
    in_whole m h = subst (λ l. Contains l m) cut (Contains-append_left front rest m h)

    pub returned_in_front : (id : ℕ) (a : Answer) → Contains front (Returned id a) → IsInvoked front id
    returned_in_front id a h = returned_invoked front well_part id a h

    -- no operation is invoked on both sides of a cut
    pub not_both : (id : ℕ) (a b : Op) → Contains front (Invoked id a) → Contains rest (Invoked id b) → ⊥
    not_both id a b h k =
        let d = cut_at rest (Invoked id b) k in
        let whole : (front ++ d.0) ++ Invoked id b ∷ d.1 ≡ ms = append_assoc front d.0 (Invoked id b ∷ d.1) ∙ ap (λ l. front ++ l) (sym d.2) ∙ cut in
        let new : IsNew (front ++ d.0) id = well (front ++ d.0) d.1 (Invoked id b) whole in
        new (Invoked id a) (Contains-append_left front d.0 _ h) refl

    -- who has returned in the front precedes what is invoked behind it
    pub in_front : (d e : ℕ) (op : Op) → HasReturned front d → Contains ms (Invoked e op) → ¬ Precedes ms d e → Contains front (Invoked e op)
    in_front d e op r i not = ⊎_elim
        (λ k. k)
        (λ k. absurd (not (record { before = front; after = rest; cut = cut; returned = r; invoked = (op, k) })))
        (Contains-append_cases front rest _ (subst (λ l. Contains l (Invoked e op)) (sym cut) i))

    -- two marks of the front, one behind the other
    follows : (a b c : List Mark) (x y : Mark) → a ++ x ∷ (b ++ y ∷ c) ≡ front → MayFollow (a ++ x ∷ b) y
    follows a b c x y e = well (a ++ x ∷ b) (c ++ rest) y (rejoin a b c rest front ms x y e cut)

    here : (a b : List Mark) (x : Mark) → Contains (a ++ x ∷ b) x
    here a b x = Contains-append_right a (x ∷ b) x (Contains-head x b)

    -- each operation is put in and taken out once
    pub puts_apart : (v : ℤ) → Pairwise (Apart (puts ms v) (puts ms v) id_of id_of) front
    puts_apart v = Pairwise-cuts (Apart (puts ms v) (puts ms v) id_of id_of) front (λ a b c x y e p q same. (
        let i : IsPut ms v y = (puts_is ms v y).0 q in
        let new : IsNew (a ++ x ∷ b) i.0 = subst (MayFollow (a ++ x ∷ b)) i.2 (follows a b c x y e) in
        new x (here a b x) (same ∙ ap id_of i.2)))

    pub takes_apart : (v : ℤ) → Pairwise (Apart (takes ms v) (takes ms v) id_of id_of) front
    takes_apart v = Pairwise-cuts (Apart (takes ms v) (takes ms v) id_of id_of) front (λ a b c x y e p q same. (
        let i : IsTake ms v x = (takes_is ms v x).0 p in
        let j : IsTake ms v y = (takes_is ms v y).0 q in
        let is : IsOpen (a ++ x ∷ b) j.0 = subst (MayFollow (a ++ x ∷ b)) j.1 (follows a b c x y e) in
        let ids : i.0 ≡ j.0 = ap id_of (sym i.1) ∙ same ∙ ap id_of j.1 in
        is.not_returned (Number v, subst (λ n. Contains (a ++ x ∷ b) (Returned n (Number v))) ids (subst (Contains (a ++ x ∷ b)) i.1 (here a b x)))))

  -- who has not returned in a front precedes nothing that is invoked in it
  pub not_preceded : (front rest : List Mark) → front ++ rest ≡ ms → (d e : ℕ) → IsInvoked front e → ¬ HasReturned front d → ¬ Precedes ms d e
  not_preceded front rest cut d e i not p = ⊎_elim
      (λ (f : IsPrefixOf p.before front). not (p.returned.0, subst (λ l. Contains l (Returned d p.returned.0)) f.1 (Contains-append_left p.before f.0 _ p.returned.1)))
      (λ (f : IsPrefixOf front p.before). not_both p.before p.after p.cut e i.0 p.invoked.0 (subst (λ l. Contains l (Invoked e i.0)) f.1 (Contains-append_left front f.0 _ i.1)) p.invoked.1)
      (two_cuts p.before p.after front rest (p.cut ∙ sym cut))
