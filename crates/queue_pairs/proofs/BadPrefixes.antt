-- the event at which the history of a queue stops being paired is the one at which it becomes illegal
use Rattle.std.proofs.Common.{◌≡◌, ◌≤◌, ◌+◌, suc, ◌⊎◌, inl, inr, ⊎_elim, List, [], ◌∷◌, ◌++◌, length, sym, ap, ◌∙◌, subst, append_assoc, arith, length-append}
use Rattle.std.proofs.lemmas.List.{append-nil}
use Rattle.models.specs.Objects.{fifo_queue}
use Rattle.events.specs.Events.{Entry, marks, IsPrefixOf}
use Rattle.linspec.specs.MarkRule.{AreWellFormed}
use Rattle.linspec.specs.Orders.{IsLinearizable}
use Rattle.linspec.specs.Verdicts.{EndsShortestBadPrefix}
use Rattle.linspec.proofs.Filters.{two_cuts}
use Rattle.linspec.proofs.Prefixes.{marks-append, IsLinearizable-front}
use Rattle.queue_pairs.specs.Pairs.{IsPaired, TwinsAreLate}
use Rattle.queue_pairs.proofs.Budgets.{front_well}
use Rattle.queue_pairs.proofs.Legal.{paired_if_linearizable}
use Rattle.queue_pairs.proofs.Build.{linearizable_if_paired}

well_of : (front entries : List Entry) → IsPrefixOf front entries → AreWellFormed (marks entries) → AreWellFormed (marks front)
well_of front entries is well = front_well (marks front) (marks is.0) (subst AreWellFormed (ap marks (sym is.1) ∙ marks-append front is.0) well)

same_if_no_longer : {X : Type 0} (b g f : List X) → b ++ g ≡ f → length f ≤ length b → f ≡ b
same_if_no_longer b [] f e le = sym e ∙ append-nil b
same_if_no_longer b (x ∷ g) f e le =
    let a : length (b ++ x ∷ g) ≡ length b + suc (length g) = length-append b (x ∷ g) in
    let c : length (b ++ x ∷ g) ≡ length f = ap length e in
    absurd (omega (arith, a, c))

module _ (entries : List Entry) (well : AreWellFormed (marks entries))
    (late : (f : List Entry) → IsPrefixOf f entries → IsPaired (marks f) ⊎ IsLinearizable fifo_queue (marks f) → TwinsAreLate (marks f))
    (late_next : (f : List Entry) (e : Entry) → IsPrefixOf (f ++ e ∷ []) entries → TwinsAreLate (marks f) → IsLinearizable fifo_queue (marks f) → TwinsAreLate (marks (f ++ e ∷ []))) where
  pub ends_bad_prefix : (before : List Entry) (last : Entry) → IsPrefixOf (before ++ last ∷ []) entries → IsPaired (marks before) → ¬ IsPaired (marks (before ++ last ∷ [])) → EndsShortestBadPrefix fifo_queue entries last
  ends_bad_prefix before last front paired bad = record {
    before = before;
    front = front;
    bad = λ lin. bad (paired_if_linearizable (marks (before ++ last ∷ [])) (well_of (before ++ last ∷ []) entries front well) (late_next before last front late_before legal) lin);
    shorter = λ f is le. ⊎_elim
        (λ (k : IsPrefixOf f before). IsLinearizable-front fifo_queue f before well_before k legal)
        (λ (k : IsPrefixOf before f). subst (λ (l : List Entry). IsLinearizable fifo_queue (marks l)) (sym (same_if_no_longer before k.0 f k.1 le)) legal)
        (two_cuts f is.0 before (last ∷ front.0) (is.1 ∙ sym whole));
  }
    where
      whole : before ++ last ∷ front.0 ≡ entries
      whole = sym (append_assoc before (last ∷ []) front.0) ∙ front.1

      well_before : AreWellFormed (marks before)
      well_before = well_of before entries (last ∷ front.0, whole) well

      late_before : TwinsAreLate (marks before)
      late_before = late before (last ∷ front.0, whole) (inl paired)

      legal : IsLinearizable fifo_queue (marks before)
      legal = linearizable_if_paired (marks before) well_before late_before paired

  pub bad_prefix_ends : (last : Entry) → EndsShortestBadPrefix fifo_queue entries last → (before : List Entry) × IsPrefixOf (before ++ last ∷ []) entries × IsPaired (marks before) × (¬ IsPaired (marks (before ++ last ∷ [])))
  bad_prefix_ends last b = (
    b.before,
    b.front,
    paired_if_linearizable (marks b.before) (well_of b.before entries front well) late_before legal,
    λ paired. b.bad (linearizable_if_paired (marks (b.before ++ last ∷ [])) (well_of (b.before ++ last ∷ []) entries b.front well) (late_next b.before last b.front late_before legal) paired),
  )
    where
      front : IsPrefixOf b.before entries
      front = (last ∷ b.front.0, sym (append_assoc b.before (last ∷ []) b.front.0) ∙ b.front.1)

      legal : IsLinearizable fifo_queue (marks b.before)
      legal = b.shorter b.before front (omega arith)

      late_before : TwinsAreLate (marks b.before)
      late_before = late b.before front (inr legal)
