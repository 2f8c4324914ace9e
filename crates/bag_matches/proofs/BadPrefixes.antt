-- the event at which the history of a queue without an order stops being matched is the one at which it becomes illegal
use Rattle.std.proofs.Common.{◌≡◌, ◌≤◌, ◌+◌, suc, ⊎_elim, List, [], ◌∷◌, ◌++◌, length, sym, ap, ◌∙◌, subst, append_assoc, arith, length-append}
use Rattle.std.proofs.lemmas.List.{append-nil}
use Rattle.models.specs.Objects.{unordered_queue}
use Rattle.events.specs.Events.{Mark, Entry, marks, IsPrefixOf}
use Rattle.linspec.specs.MarkRule.{AreWellFormed}
use Rattle.linspec.specs.Orders.{IsLinearizable}
use Rattle.linspec.specs.Verdicts.{EndsShortestBadPrefix}
use Rattle.linspec.proofs.Filters.{two_cuts}
use Rattle.linspec.proofs.Prefixes.{marks-append, IsLinearizable-front}
use Rattle.bag_matches.specs.Matches.{IsMatched}
use Rattle.bag_matches.proofs.Legal.{balanced_if_linearizable}
use Rattle.bag_matches.proofs.Build.{linearizable_if_balanced}
use Rattle.bag_matches.proofs.Matching.{balanced_if_matched, matched_if_balanced}
use Rattle.bag_matches.proofs.Prefixes.{well_front}

pub matched_if_linearizable : (ms : List Mark) → AreWellFormed ms → IsLinearizable unordered_queue ms → IsMatched ms
matched_if_linearizable ms well h = matched_if_balanced ms well (balanced_if_linearizable ms well h)

pub linearizable_if_matched : (ms : List Mark) → AreWellFormed ms → IsMatched ms → IsLinearizable unordered_queue ms
linearizable_if_matched ms well h = linearizable_if_balanced ms well (balanced_if_matched ms well h)

well_of : (front entries : List Entry) → IsPrefixOf front entries → AreWellFormed (marks entries) → AreWellFormed (marks front)
well_of front entries is well = well_front (marks front) (marks is.0) (subst AreWellFormed (ap marks (sym is.1) ∙ marks-append front is.0) well)

same_if_no_longer : {X : Type 0} (b g f : List X) → b ++ g ≡ f → length f ≤ length b → f ≡ b
same_if_no_longer b [] f e le = sym e ∙ append-nil b
same_if_no_longer b (x ∷ g) f e le =
    let a : length (b ++ x ∷ g) ≡ length b + suc (length g) = length-append b (x ∷ g) in
    let c : length (b ++ x ∷ g) ≡ length f = ap length e in
    absurd (omega (arith, a, c))

module _ (entries : List Entry) (well : AreWellFormed (marks entries)) where
  pub ends_bad_prefix : (before : List Entry) (last : Entry) → IsPrefixOf (before ++ last ∷ []) entries → IsMatched (marks before) → ¬ IsMatched (marks (before ++ last ∷ [])) → EndsShortestBadPrefix unordered_queue entries last
  ends_bad_prefix before last front matched bad = record {
    before = before;
    front = front;
    bad = λ lin. bad (matched_if_linearizable (marks (before ++ last ∷ [])) (well_of (before ++ last ∷ []) entries front well) lin);
    shorter = λ f is le. ⊎_elim
        (λ (k : IsPrefixOf f before). IsLinearizable-front unordered_queue f before well_before k legal)
        (λ (k : IsPrefixOf before f). subst (λ (l : List Entry). IsLinearizable unordered_queue (marks l)) (sym (same_if_no_longer before k.0 f k.1 le)) legal)
        (two_cuts f is.0 before (last ∷ front.0) (is.1 ∙ sym whole));
  }
    where
      whole : before ++ last ∷ front.0 ≡ entries
      whole = sym (append_assoc before (last ∷ []) front.0) ∙ front.1

      well_before : AreWellFormed (marks before)
      well_before = well_of before entries (last ∷ front.0, whole) well

      legal : IsLinearizable unordered_queue (marks before)
      legal = linearizable_if_matched (marks before) well_before matched

  pub bad_prefix_ends : (last : Entry) → EndsShortestBadPrefix unordered_queue entries last → (before : List Entry) × IsPrefixOf (before ++ last ∷ []) entries × IsMatched (marks before) × (¬ IsMatched (marks (before ++ last ∷ [])))
  bad_prefix_ends last b = (b.before, b.front, matched_if_linearizable (marks b.before) well_before (b.shorter b.before (last ∷ b.front.0, whole) (omega arith)), (λ matched. b.bad (linearizable_if_matched (marks (b.before ++ last ∷ [])) (well_of (b.before ++ last ∷ []) entries b.front well) matched)))
    where
      whole : b.before ++ last ∷ b.front.0 ≡ entries
      whole = sym (append_assoc b.before (last ∷ []) b.front.0) ∙ b.front.1

      well_before : AreWellFormed (marks b.before)
      well_before = well_of b.before entries (last ∷ b.front.0, whole) well
