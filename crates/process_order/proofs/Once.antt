-- An operation that crashed has neither returned nor failed
use Rattle.std.proofs.Common.{◌≡◌, ◌≢◌, ℕ, ◌⊎◌, inl, inr, ⊎_elim, List, ◌∷◌, ◌++◌, sym, ap, ◌∙◌, subst, append_assoc}
use Rattle.std.specs.List.{Contains}
use Rattle.std.proofs.lemmas.List.Elements.{Contains-append_right, Contains-append_cases}
use Rattle.events.specs.Events.{Mark}
use Rattle.events.specs.Events.Mark.{Returned, Failed, Crashed}
use Rattle.linspec.specs.MarkRule.{MayFollow, AreWellFormed}
use Rattle.linspec.specs.Operations.{HasReturned, IsOpen}
use Rattle.linspec.proofs.Lists.{Contains-head, Contains-cons_cases, cut_at}

module _ (marks : List Mark) (well : AreWellFormed marks) where
  -- of two marks one comes before the other
  earlier : (m n : Mark) → Contains marks m → Contains marks n → m ≢ n → ((before : List Mark) × Contains before n × MayFollow before m) ⊎ ((before : List Mark) × Contains before m × MayFollow before n)
  earlier m n h k ne =
      let c = cut_at marks m h in
      ⊎_elim
      (λ in_front. inl (c.0, in_front, well c.0 c.1 m (sym c.2)))
      (λ behind. ⊎_elim
      (λ same. absurd (ne same))
      (λ later.
      let d = cut_at c.1 n later in
      let whole : (c.0 ++ m ∷ d.0) ++ n ∷ d.1 ≡ marks = append_assoc c.0 (m ∷ d.0) (n ∷ d.1) ∙ ap (λ l. c.0 ++ m ∷ l) (sym d.2) ∙ sym c.2 in
      inr (c.0 ++ m ∷ d.0, Contains-append_right c.0 (m ∷ d.0) m (Contains-head m d.0), well (c.0 ++ m ∷ d.0) d.1 n whole))
      (Contains-cons_cases m c.1 n behind))
      (Contains-append_cases c.0 (m ∷ c.1) n (subst (λ l. Contains l n) c.2 k))

  pub not_failed : (i : ℕ) → Contains marks (Crashed i) → ¬ Contains marks (Failed i)
  not_failed i crashed failed =
      ⊎_elim
      (λ x. let o : IsOpen x.0 i = x.2 in o.not_failed x.1)
      (λ x. let o : IsOpen x.0 i = x.2 in o.not_crashed x.1)
      (earlier (Crashed i) (Failed i) crashed failed (λ e. cc))

  pub not_returned : (i : ℕ) → Contains marks (Crashed i) → ¬ HasReturned marks i
  not_returned i crashed returned =
      ⊎_elim
      (λ x. let o : IsOpen x.0 i = x.2 in o.not_returned (returned.0, x.1))
      (λ x. let o : IsOpen x.0 i = x.2 in o.not_crashed x.1)
      (earlier (Crashed i) (Returned i returned.0) crashed returned.1 (λ e. cc))
