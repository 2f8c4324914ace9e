-- the facts after a read has answered
use Rattle.std.proofs.Common.{◌≡◌, ◌≢◌, ℕ, ◌≤◌, ◌<◌, ℤ, ◌⊎◌, inl, inr, ⊎_elim, List, [], ◌∷◌, ◌++◌, length, take, drop, sym, ap, ◌∙◌, subst, arith}
use Rattle.std.specs.List.{Contains, insert}
use Rattle.std.proofs.lemmas.List.{take-append-drop}
use Rattle.std.proofs.lemmas.List.Elements.{Contains-append_left, Contains-append_right, Contains-append_cases, Contains-push, Contains-push_cases}
use Rattle.models.specs.declared.operation.Op.{Op}
use Rattle.models.specs.declared.operation.Name.TheVariants.{Read}
use Rattle.models.specs.declared.operation.Part.TheVariants.{Nil}
use Rattle.models.specs.declared.finding.Answer.{Answer}
use Rattle.models.specs.declared.finding.Answer.TheVariants.{Many}
use Rattle.values.specs.Members.{IsAscending}
use Rattle.events.specs.Events.{Mark}
use Rattle.events.specs.Events.Mark.{Invoked, Returned}
use Rattle.linspec.specs.Operations.{IsInvoked}
use Rattle.linspec.specs.Orders.{Pairwise}
use Rattle.linspec.specs.MarkRule.{AreWellFormed}
use Rattle.linspec.proofs.Lists.{Contains-head, Contains-tail, Contains-cons_cases, Pairwise-append, Pairwise-left, Pairwise-right, Pairwise-across}
use Rattle.set_chains.specs.Chains.{IsAddOf, HasRead, IsChained}
use Rattle.set_chains.proofs.Once.{one_op}
use Rattle.set_chains.proofs.Steps.{no_both}
use Rattle.wide_set.specs.declared.known.Answered.{Answered}
use Rattle.wide_set.specs.Facts.{StandsAt, CannotFail, Nests, AreNested, Facts, AreFacts, without, with_answer, IsPlace}
use Rattle.wide_set.proofs.Moments.{stands_below, stands_last}
use Rattle.wide_set.proofs.Carrying.{kept, logged_carried, answers_carried, pending_without, still_based}
use Rattle.wide_set.proofs.Events.{one_more, settled_invoked}

-- the chain with one more answer
module _ (answers : List Answered) (at : ℕ) (new : Answered) where
  whole : take at answers ++ drop at answers ≡ answers
  whole = take-append-drop at answers

  pub stays : (a : Answered) → Contains answers a → Contains (insert answers at new) a
  stays a h = ⊎_elim
      (λ k. Contains-append_left (take at answers) (new ∷ drop at answers) a k)
      (λ k. Contains-append_right (take at answers) (new ∷ drop at answers) a (Contains-tail new (drop at answers) a k))
      (Contains-append_cases (take at answers) (drop at answers) a (subst (λ l. Contains l a) (sym whole) h))

  pub was_or_new : (a : Answered) → Contains (insert answers at new) a → Contains answers a ⊎ (new ≡ a)
  was_or_new a h = ⊎_elim
      (λ k. inl (subst (λ l. Contains l a) whole (Contains-append_left (take at answers) (drop at answers) a k)))
      (λ k. ⊎_elim
      inr
      (λ j. inl (subst (λ l. Contains l a) whole (Contains-append_right (take at answers) (drop at answers) a j)))
      (Contains-cons_cases new (drop at answers) a k))
      (Contains-append_cases (take at answers) (new ∷ drop at answers) a h)

  pub new_is_in : Contains (insert answers at new) new
  new_is_in = Contains-append_right (take at answers) (new ∷ drop at answers) new (Contains-head new (drop at answers))

  pub nested_with : IsPlace answers at new.members → IsAscending new.members → AreNested answers → AreNested (insert answers at new)
  nested_with place ascends are =
      let cut : Pairwise Nests (take at answers ++ drop at answers) = subst (Pairwise Nests) (sym whole) are.nested in record {
        ascending = λ a h. ⊎_elim (are.ascending a) (λ e. subst (λ (x : Answered). IsAscending x.members) e ascends) (was_or_new a h);
        nested = Pairwise-append Nests (take at answers) (new ∷ drop at answers)
            (Pairwise-left Nests (take at answers) (drop at answers) cut)
            ((λ b h. place.more b h), Pairwise-right Nests (take at answers) (drop at answers) cut)
            (λ a b h k. ⊎_elim
            (λ e. subst (Nests a) e (place.fewer a h))
            (λ j. Pairwise-across Nests (take at answers) (drop at answers) cut a b h j)
            (Contains-cons_cases new (drop at answers) b k));
      }

module _ (f : Facts) (ms : List Mark) (facts : AreFacts f ms) (id : ℕ) (op : Op) (invoked : Contains ms (Invoked id op)) (reads : op.name ≡ Read) (of_all : op.part ≡ Nil) (members : List ℤ) (well : AreWellFormed (ms ++ Returned id (Many members) ∷ [])) (chained : IsChained (ms ++ Returned id (Many members) ∷ [])) where
  abbrev last : Mark
  last = Returned id (Many members)

  abbrev more : List Mark
  more = ms ++ last ∷ []

  no_add : (v : ℤ) → ¬ IsAddOf more id v
  no_add v a =
      let same : a.0 ≡ op = one_op more well id a.0 op a.1 (kept ms last well _ invoked) in
      no_both op.name reads (ap (λ (o : Op). o.name) (sym same) ∙ a.2.0)

  was : (i : ℕ) → CannotFail more i → (id ≡ i) ⊎ CannotFail ms i
  was i c = ⊎_elim
      (λ r. ⊎_elim (λ j. inr (inl (r.0, j))) (λ q. inl (let s : id ≡ i = cc in s)) (Contains-push_cases ms last _ r.1))
      (λ k. inr (inr (⊎_elim (λ j. j) (λ q. cc) (Contains-push_cases ms last _ k))))
      c

  back : (i : ℕ) (v : ℤ) → IsAddOf more i v → ¬ Contains f.base v → CannotFail more i → IsInvoked ms i × CannotFail ms i
  back i v a out c = ⊎_elim
      (λ e. absurd (no_add v (subst (λ j. IsAddOf more j v) (sym e) a)))
      (λ k. (settled_invoked ms facts.well i k, k))
      (was i c)

  others : (i : ℕ) (v : ℤ) (answer : Answer) → IsAddOf more i v → ¬ Contains f.base v → last ≢ Returned i answer
  others i v answer a out q = let s : id ≡ i = cc in no_add v (subst (λ j. IsAddOf more j v) (sym s) a)

  pub after_known_answer : (a : Answered) → Contains f.answers a → a.members ≡ members → AreFacts (without id f) more
  after_known_answer a h e = record {
    well = well;
    chained = chained;
    now = one_more ms last f.now facts.now;
    pending = pending_without ms last tt f.pending facts.pending;
    logged = logged_carried ms last well f.log f.base back others facts.logged;
    answers = answers_carried ms last well f.base f.answers f.answers (λ b k. k) (λ b k. inl k) own facts.answers;
    nested = facts.nested;
    based = still_based f id facts.based;
  }
    where
      own : (i n : ℕ) (those : List ℤ) → HasRead more i those → last ≡ Returned i (Many those) → n ≡ length ms → (b : Answered) × Contains f.answers b × (b.members ≡ those) × (b.by ≤ n)
      own i n those r q m =
          let same : members ≡ those = cc in
          let k = facts.answers.is a h in
          let lt : a.by < length ms = stands_below ms a.by _ k.2 in
          (a, h, e ∙ same, omega arith)

  pub after_new_answer : (at : ℕ) (a : Answered) → a.members ≡ members → a.by ≡ f.now → IsAscending members → IsPlace f.answers at members → AreFacts (with_answer id at a f) more
  after_new_answer at a e g ascends place = record {
    well = well;
    chained = chained;
    now = one_more ms last f.now facts.now;
    pending = pending_without ms last tt f.pending facts.pending;
    logged = logged_carried ms last well f.log f.base back others facts.logged;
    answers = answers_carried ms last well f.base f.answers (insert f.answers at a) (stays f.answers at a)
        (λ b k. ⊎_elim inl (λ same. inr (subst (λ (x : Answered). (i : ℕ) × HasRead more i x.members × StandsAt more x.by (Returned i (Many x.members))) same mine)) (was_or_new f.answers at a b k))
        own facts.answers;
    nested = nested_with f.answers at a (subst (IsPlace f.answers at) (sym e) place) (subst IsAscending (sym e) ascends) facts.nested;
    based = λ v h. (let b = still_based f id facts.based v h in (b.0, stays f.answers at a b.0 b.1, b.2, b.3));
  }
    where
      own_read : HasRead more id members
      own_read = record { op = op; invoked = kept ms last well _ invoked; reads = reads; of_all = of_all; answer = Contains-push ms last }

      mine : (i : ℕ) × HasRead more i a.members × StandsAt more a.by (Returned i (Many a.members))
      mine = (id, subst (HasRead more id) (sym e) own_read, subst (λ n. StandsAt more n (Returned id (Many a.members))) (sym (g ∙ facts.now)) (subst (λ l. StandsAt more (length ms) (Returned id (Many l))) (sym e) (stands_last ms last)))

      own : (i n : ℕ) (those : List ℤ) → HasRead more i those → last ≡ Returned i (Many those) → n ≡ length ms → (b : Answered) × Contains (insert f.answers at a) b × (b.members ≡ those) × (b.by ≤ n)
      own i n those r q m =
          let same : members ≡ those = cc in
          let eq : f.now ≡ length ms = facts.now in
          (a, new_is_in f.answers at a, e ∙ same, omega arith)
