-- the facts that may be forgotten
use Rattle.std.proofs.Common.{◌≡◌, ℕ, ◌+◌, ◌≤◌, ◌<◌, ℤ, ◌⊎◌, inl, inr, ⊎_elim, List, ◌∷◌, ◌++◌, length, take, drop, get_or, refl, sym, ap, ◌∙◌, subst, arith}
use Rattle.std.specs.List.{Contains}
use Rattle.std.proofs.lemmas.List.{take-append-drop, drop_more}
use Rattle.events.specs.Events.{Mark}
use Rattle.linspec.specs.Orders.{Pairwise}
use Rattle.linspec.proofs.Lists.{Contains-cons_cases, Pairwise-right, Pairwise-across}
use Rattle.set_chains.specs.Chains.{IsWithin}
use Rattle.wide_set.specs.declared.known.Answered.{Answered}
use Rattle.wide_set.specs.declared.log.Added.{Added}
use Rattle.wide_set.specs.Facts.{Nests, Facts, AreFacts, IsBeforePending}
use Rattle.wide_set.proofs.Places.{in_right, left_or_right, first_is_in}

-- an answer that was given before each open operation was invoked becomes the base, and the answers within it are forgotten
module _ (f : Facts) (ms : List Mark) (facts : AreFacts f ms) (at : ℕ) (a : Answered) (lt : at < length f.answers) (is : a ≡ get_or f.answers at a)
    (early : IsBeforePending f.pending a.by) (more : length f.base ≤ length a.members) where
  whole : take at f.answers ++ drop at f.answers ≡ f.answers
  whole = take-append-drop at f.answers

  cut : Pairwise Nests (take at f.answers ++ drop at f.answers)
  cut = subst (Pairwise Nests) (sym whole) facts.nested.nested

  here : Contains (drop at f.answers) a
  here = first_is_in f.answers facts.nested at a lt is

  -- those before it are within it, and those behind it have more
  left_within : (b : Answered) → Contains (take at f.answers) b → IsWithin b.members a.members
  left_within b h = (Pairwise-across Nests (take at f.answers) (drop at f.answers) cut b a h here).0

  right_or_same : (b : Answered) → Contains (drop at f.answers) b → (a ≡ b) ⊎ (length a.members < length b.members)
  right_or_same b h =
      let same : drop at f.answers ≡ a ∷ drop (at + 1) f.answers = drop_more f.answers at a lt ∙ ap (λ x. x ∷ drop (at + 1) f.answers) (sym is) in
      let right : Pairwise Nests (a ∷ drop (at + 1) f.answers) = subst (Pairwise Nests) same (Pairwise-right Nests (take at f.answers) (drop at f.answers) cut) in
      ⊎_elim inl (λ j. inr (right.0 b j).1) (Contains-cons_cases a (drop (at + 1) f.answers) b (subst (λ l. Contains l b) same h))

  base_within : IsWithin f.base a.members
  base_within v i =
      let b = facts.based v i in
      let has : Contains b.0.members v = subst (λ l. Contains l v) (sym b.2) i in
      let long : length b.0.members ≡ length f.base = ap length b.2 in
      ⊎_elim
      (λ j. left_within b.0 j v has)
      (λ j. ⊎_elim (λ e. subst (λ (x : Answered). Contains x.members v) (sym e) has) (λ k. absurd (omega arith)) (right_or_same b.0 j))
      (left_or_right f.answers facts.nested at b.0 b.1)

  abbrev pub raised : Facts
  raised = record { now = f.now; pending = f.pending; log = f.log; base = a.members; answers = drop at f.answers }

  pub raised_are : AreFacts raised ms
  raised_are = record {
    well = facts.well;
    chained = facts.chained;
    now = facts.now;
    pending = facts.pending;
    logged = record {
      is = facts.logged.is;
      all = λ v id moment op is out c s. facts.logged.all v id moment op is (λ i. out (base_within v i)) c s;
      done = λ v id moment answer is out s. facts.logged.done v id moment answer is (λ i. out (base_within v i)) s;
    };
    answers = record {
      is = λ b h. facts.answers.is b (in_right f.answers facts.nested at b h);
      all = λ id moment members r s. ⊎_elim
          (λ less. inl (λ v i. base_within v (less v i)))
          (λ b. ⊎_elim
          (λ j. inl (subst (λ l. IsWithin l a.members) b.2 (left_within b.0 j)))
          (λ j. inr (b.0, j, b.2, b.3))
          (left_or_right f.answers facts.nested at b.0 b.1))
          (facts.answers.all id moment members r s);
    };
    nested = record {
      ascending = λ b h. facts.nested.ascending b (in_right f.answers facts.nested at b h);
      nested = Pairwise-right Nests (take at f.answers) (drop at f.answers) cut;
    };
    based = λ v i. (a, here, refl, early);
  }

  pub raised_as : (base : List ℤ) (answers : List Answered) → base ≡ a.members → answers ≡ drop at f.answers
      → AreFacts (record { now = f.now; pending = f.pending; log = f.log; base = base; answers = answers }) ms
  raised_as base answers e g =
      subst (λ (b : List ℤ). AreFacts (record { now = f.now; pending = f.pending; log = f.log; base = b; answers = answers }) ms) (sym e)
      (subst (λ (l : List Answered). AreFacts (record { now = f.now; pending = f.pending; log = f.log; base = a.members; answers = l }) ms) (sym g) raised_are)

-- logged adds of values in the base are forgotten
module _ (f : Facts) (ms : List Mark) (facts : AreFacts f ms) (log : List Added)
    (was : (a : Added) → Contains log a → Contains f.log a)
    (stays : (a : Added) → Contains f.log a → ¬ Contains f.base a.value → Contains log a) where
  abbrev pub swept : Facts
  swept = record { now = f.now; pending = f.pending; log = log; base = f.base; answers = f.answers }

  pub swept_are : AreFacts swept ms
  swept_are = record {
    well = facts.well;
    chained = facts.chained;
    now = facts.now;
    pending = facts.pending;
    logged = record {
      is = λ a h. facts.logged.is a (was a h);
      all = λ v id moment op is out c s.
          let k = facts.logged.all v id moment op is out c s in
          (k.0, stays k.0 k.1 (λ i. out (subst (Contains f.base) k.2 i)), k.2, k.3);
      done = λ v id moment answer is out s.
          let k = facts.logged.done v id moment answer is out s in
          (k.0, k.1, stays k.0 k.2 (λ i. out (subst (Contains f.base) k.3 i)), k.3, k.4, k.5);
    };
    answers = facts.answers;
    nested = facts.nested;
    based = facts.based;
  }
