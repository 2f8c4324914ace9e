-- the event that leaves no end is the one at which the history becomes illegal
use Rattle.std.proofs.Common.{◌≡◌, ◌≤◌, ◌+◌, suc, ⊎_elim, List, [], ◌∷◌, ◌++◌, length, sym, ap, ◌∙◌, subst, append_assoc, arith, length-append}
use Rattle.std.proofs.lemmas.List.{append-nil}
use Rattle.models.specs.Objects.{cas_register}
use Rattle.events.specs.Events.{Mark, Entry, marks, IsPrefixOf}
use Rattle.linspec.specs.MarkRule.{AreWellFormed}
use Rattle.linspec.specs.Orders.{IsLinearizable}
use Rattle.linspec.specs.Verdicts.{EndsShortestBadPrefix}
use Rattle.linspec.proofs.Filters.{two_cuts}
use Rattle.linspec.proofs.Prefixes.{marks-append, IsLinearizable-front}
use Rattle.linspec.specs.LeanEnds.{LeanEnd}
use Rattle.linspec.specs.CasEnds.{IsCasEnd}
use Rattle.cas_ends.proofs.Complete.{has_cas_end}
use Rattle.cas_ends.proofs.Sound.{cas_end_is_left}

abbrev pub HasEnd : List Mark → Type 0
HasEnd marks = (e : LeanEnd) × IsCasEnd marks e

some_end : (marks : List Mark) → AreWellFormed marks → IsLinearizable cas_register marks → HasEnd marks
some_end marks well lin = has_cas_end marks well lin

of_end : (marks : List Mark) → AreWellFormed marks → HasEnd marks → IsLinearizable cas_register marks
of_end marks well k = cas_end_is_left marks well k.0 k.1

well_front : (xs ys : List Mark) → AreWellFormed (xs ++ ys) → AreWellFormed xs
well_front xs ys well before after m cut = well before (after ++ ys) m (sym (append_assoc before (m ∷ after) ys) ∙ ap (λ l. l ++ ys) cut)

well_of : (front entries : List Entry) → IsPrefixOf front entries → AreWellFormed (marks entries) → AreWellFormed (marks front)
well_of front entries is well = well_front (marks front) (marks is.0) (subst AreWellFormed (ap marks (sym is.1) ∙ marks-append front is.0) well)

same_if_no_longer : {X : Type 0} (b g f : List X) → b ++ g ≡ f → length f ≤ length b → f ≡ b
same_if_no_longer b [] f e le = sym e ∙ append-nil b
same_if_no_longer b (x ∷ g) f e le =
    let a : length (b ++ x ∷ g) ≡ length b + suc (length g) = length-append b (x ∷ g) in
    let c : length (b ++ x ∷ g) ≡ length f = ap length e in
    absurd (omega (arith, a, c))

module _ (entries : List Entry) (well : AreWellFormed (marks entries)) where
  pub ends_bad_prefix : (before : List Entry) (last : Entry) → IsPrefixOf (before ++ last ∷ []) entries → HasEnd (marks before) → ¬ HasEnd (marks (before ++ last ∷ [])) → EndsShortestBadPrefix cas_register entries last
  ends_bad_prefix before last front chained bad = record {
    before = before;
    front = front;
    bad = λ lin. bad (some_end (marks (before ++ last ∷ [])) (well_of (before ++ last ∷ []) entries front well) lin);
    shorter = λ f is le. ⊎_elim
        (λ (k : IsPrefixOf f before). IsLinearizable-front cas_register f before well_before k legal)
        (λ (k : IsPrefixOf before f). subst (λ (l : List Entry). IsLinearizable cas_register (marks l)) (sym (same_if_no_longer before k.0 f k.1 le)) legal)
        (two_cuts f is.0 before (last ∷ front.0) (is.1 ∙ sym whole));
  }
    where
      whole : before ++ last ∷ front.0 ≡ entries
      whole = sym (append_assoc before (last ∷ []) front.0) ∙ front.1

      well_before : AreWellFormed (marks before)
      well_before = well_of before entries (last ∷ front.0, whole) well

      legal : IsLinearizable cas_register (marks before)
      legal = of_end (marks before) well_before chained

  pub bad_prefix_ends : (last : Entry) → EndsShortestBadPrefix cas_register entries last → (before : List Entry) × IsPrefixOf (before ++ last ∷ []) entries × HasEnd (marks before) × (¬ HasEnd (marks (before ++ last ∷ [])))
  bad_prefix_ends last b = (b.before, b.front, some_end (marks b.before) well_before (b.shorter b.before (last ∷ b.front.0, whole) (omega arith)), (λ chained. b.bad (of_end (marks (b.before ++ last ∷ [])) (well_of (b.before ++ last ∷ []) entries b.front well) chained)))
    where
      whole : b.before ++ last ∷ b.front.0 ≡ entries
      whole = sym (append_assoc b.before (last ∷ []) b.front.0) ∙ b.front.1

      well_before : AreWellFormed (marks b.before)
      well_before = well_of b.before entries (last ∷ b.front.0, whole) well
