-- the status of a key with one more entry, by the status before
use Rattle.std.proofs.Common.{◌≡◌, ℕ, ◌+◌, ◌≤◌, ◌<◌, ◌⊎◌, inl, inr, ⊎_elim, List, [], ◌∷◌, ◌++◌, length, refl, sym, ap, ◌∙◌, subst, append_assoc, arith, length-append}
use Rattle.std.specs.List.{Contains}
use Rattle.std.proofs.lemmas.List.{append-nil}
use Rattle.std.proofs.lemmas.List.Elements.{Contains-append_right}
use Rattle.models.specs.declared.finding.Answer.{Answer}
use Rattle.models.specs.Objects.{Object}
use Rattle.events.specs.Events.{Mark, Entry, marks, IsPrefixOf}
use Rattle.events.specs.Events.Mark.{Returned}
use Rattle.linspec.specs.MarkRule.{AreWellFormed}
use Rattle.linspec.specs.Orders.{IsLinearizable}
use Rattle.linspec.specs.Ends.{Count, IsBlownAtBy, IsBlownIndexBy, IsWithinBudgetBy}
use Rattle.linspec.specs.Verdicts.{EndsShortestBadPrefix, EveryPrefixIsLinearizable, IsRising}
use Rattle.linspec.proofs.Lists.{Contains-nil, Contains-head, snoc_cut, Pairwise-across}
use Rattle.linspec.proofs.Prefixes.{marks-append, IsLinearizable-front}

-- the empty list of entries
pub none_blown : (more : Count) (budget : ℕ) → IsWithinBudgetBy more budget []
none_blown more budget i b = Contains-nil b.event (subst (λ l. Contains l b.event) b.cut (Contains-append_right b.before (b.event ∷ b.after) b.event (Contains-head b.event b.after)))

front_of_none : (xs rest : List Entry) → xs ++ rest ≡ [] → xs ≡ []
front_of_none [] rest e = refl
front_of_none (x ∷ xs) rest e = cc

pub fronts_of_none : (o : Object) → IsLinearizable o [] → EveryPrefixIsLinearizable o []
fronts_of_none o empty front is = subst (λ l. IsLinearizable o (marks l)) (sym (front_of_none front is.0 is.1)) empty

-- the empty history is linearizable
pub IsLinearizable-empty : (o : Object) → IsLinearizable o []
IsLinearizable-empty o = (
  [],
  o.start,
  record {
    invoked = λ x h. absurd (Contains-nil x h);
    once = tt;
    none_failed = λ x h. absurd (Contains-nil x h);
    all_done = λ id d. absurd (Contains-nil _ d.1);
    in_time = tt;
    run = refl;
    fits = λ x a h. absurd (Contains-nil x h);
  },
)

pub AreWellFormed-front : (front entries : List Entry) → IsPrefixOf front entries → AreWellFormed (marks entries) → AreWellFormed (marks front)
AreWellFormed-front front entries is well before after m cut = well before (after ++ marks is.0) m (sym (append_assoc before (m ∷ after) (marks is.0)) ∙ ap (λ l. l ++ marks is.0) cut ∙ sym (marks-append front is.0) ∙ ap marks is.1)

-- a prefix of the entries with one more is all of them, or a prefix of the entries
front_cases : (entries : List Entry) (e : Entry) (front : List Entry) → IsPrefixOf front (entries ++ e ∷ []) → (front ≡ entries ++ e ∷ []) ⊎ IsPrefixOf front entries
front_cases entries e front is =
    ⊎_elim
    (λ none. inl (sym (append-nil front) ∙ ap (λ l. front ++ l) (sym none) ∙ is.1))
    (λ c. inr (c.0, c.2))
    (snoc_cut front is.0 entries e is.1)

longer : (entries : List Entry) (e : Entry) (front : List Entry) → IsPrefixOf front entries → IsPrefixOf front (entries ++ e ∷ [])
longer entries e front is = (is.0 ++ e ∷ [], sym (append_assoc front is.0 (e ∷ [])) ∙ ap (λ l. l ++ e ∷ []) is.1)

length-front : (entries front : List Entry) → IsPrefixOf front entries → length front ≤ length entries
length-front entries front is = (let a : length (front ++ is.0) ≡ length entries = ap length is.1 in let b : length (front ++ is.0) ≡ length front + length is.0 = length-append front is.0 in omega arith)

module _ (more : Count) (o : Object) (budget : ℕ) (entries : List Entry) (e : Entry) where
  -- an ok is that of the entries, or the last one
  blown_cases : (i : ℕ) → IsBlownAtBy more budget (entries ++ e ∷ []) i → IsBlownAtBy more budget entries i ⊎ ((e.index ≡ i) × ((id : ℕ) × (answer : Answer) × (e.mark ≡ Returned id answer)) × more (marks entries) budget)
  blown_cases i b =
      ⊎_elim
      (λ none. (let clash : b.event ∷ b.after ≡ [] = none in cc))
      (λ c. at_rest c.0 c.1 c.2)
      (snoc_cut b.before (b.event ∷ b.after) entries e b.cut)
    where
      at_rest : (rest : List Entry) → b.event ∷ b.after ≡ rest ++ e ∷ [] → b.before ++ rest ≡ entries → IsBlownAtBy more budget entries i ⊎ ((e.index ≡ i) × ((id : ℕ) × (answer : Answer) × (e.mark ≡ Returned id answer)) × more (marks entries) budget)
      at_rest [] q r =
          let is : b.event ≡ e = cc in
          inr (
            ap (λ (w : Entry). w.index) (sym is) ∙ b.here,
            (b.is_ok.0, b.is_ok.1, ap (λ (w : Entry). w.mark) (sym is) ∙ b.is_ok.2),
            subst (λ l. more (marks l) budget) (sym (append-nil b.before) ∙ r) b.many,
          )
      at_rest (x ∷ rest) q r =
          let is : x ≡ b.event = cc in
          inl (record {
            before = b.before;
            event = b.event;
            after = rest;
            cut = ap (λ w. b.before ++ w ∷ rest) (sym is) ∙ r;
            here = b.here;
            is_ok = b.is_ok;
            many = b.many;
          })

  blown_before : (i : ℕ) → IsBlownAtBy more budget entries i → IsBlownAtBy more budget (entries ++ e ∷ []) i
  blown_before i b = record {
    before = b.before;
    event = b.event;
    after = b.after ++ e ∷ [];
    cut = sym (append_assoc b.before (b.event ∷ b.after) (e ∷ [])) ∙ ap (λ l. l ++ e ∷ []) b.cut;
    here = b.here;
    is_ok = b.is_ok;
    many = b.many;
  }

  -- the last entry is not an ok that finds more than the budget
  abbrev pub IsNotBlownHere : Type 0
  IsNotBlownHere = (id : ℕ) (answer : Answer) → e.mark ≡ Returned id answer → ¬ more (marks entries) budget

  within : IsWithinBudgetBy more budget entries → IsNotBlownHere → IsWithinBudgetBy more budget (entries ++ e ∷ [])
  within before here i b = ⊎_elim (before i) (λ c. here c.1.0 c.1.1 c.1.2 c.2) (blown_cases i b)

  -- more than the budget, just before an ok: over at its index
  pub over_here : (id : ℕ) (answer : Answer) → e.mark ≡ Returned id answer → IsWithinBudgetBy more budget entries → more (marks entries) budget → IsBlownIndexBy more budget (entries ++ e ∷ []) e.index
  over_here id answer is before many = record {
    blown = record { before = entries; event = e; after = []; cut = refl; here = refl; is_ok = (id, answer, is); many = many };
    least = λ j b. ⊎_elim (λ c. absurd (before j c)) (λ c. (let q : e.index ≡ j = c.0 in omega arith)) (blown_cases j b);
  }

  -- a key over budget stays so, since the index rises
  pub over_stays : (i : ℕ) → IsRising (entries ++ e ∷ []) → IsBlownIndexBy more budget entries i → IsBlownIndexBy more budget (entries ++ e ∷ []) i
  over_stays i rising over = record {
    blown = blown_before i over.blown;
    least = λ j b. ⊎_elim (over.least j) (λ c. (let q : e.index ≡ j = c.0 in let h : over.blown.event.index ≡ i = over.blown.here in let lt : over.blown.event.index < e.index = earlier in omega arith)) (blown_cases j b);
  }
    where
      earlier : over.blown.event.index < e.index
      earlier = Pairwise-across (λ (f g : Entry). f.index < g.index) entries (e ∷ []) rising over.blown.event e (subst (λ l. Contains l over.blown.event) over.blown.cut (Contains-append_right over.blown.before (over.blown.event ∷ over.blown.after) over.blown.event (Contains-head over.blown.event over.blown.after))) (Contains-head e [])

  -- no legal order is left: dead at the last entry
  pub dead_here : IsNotBlownHere → IsWithinBudgetBy more budget entries → EveryPrefixIsLinearizable o entries → ¬ IsLinearizable o (marks (entries ++ e ∷ [])) → IsWithinBudgetBy more budget (entries ++ e ∷ []) × EndsShortestBadPrefix o (entries ++ e ∷ []) e
  dead_here here before fronts bad = (
    within before here,
    record {
      before = entries;
      front = ([], append-nil (entries ++ e ∷ []));
      bad = bad;
      shorter = λ front is le. ⊎_elim
          (λ all. (let a : length front ≡ length (entries ++ e ∷ []) = ap length all in let b : length (entries ++ e ∷ []) ≡ length entries + 1 = length-append entries (e ∷ []) in absurd (omega arith)))
          (fronts front)
          (front_cases entries e front is);
    },
  )

  -- a legal order is left: alive
  pub alive_here : IsNotBlownHere → IsWithinBudgetBy more budget entries → EveryPrefixIsLinearizable o entries → IsLinearizable o (marks (entries ++ e ∷ [])) → IsWithinBudgetBy more budget (entries ++ e ∷ []) × EveryPrefixIsLinearizable o (entries ++ e ∷ [])
  alive_here here before fronts all = (
    within before here,
    λ front is. ⊎_elim (λ q. subst (λ l. IsLinearizable o (marks l)) (sym q) all) (fronts front) (front_cases entries e front is),
  )

  -- a dead key stays dead: with no legal order nothing is counted, so its budget is not exceeded later
  pub dead_stays : (last : Entry) → ((before : List Mark) → more before budget → IsLinearizable o before) → AreWellFormed (marks (entries ++ e ∷ [])) → IsWithinBudgetBy more budget entries → EndsShortestBadPrefix o entries last → IsWithinBudgetBy more budget (entries ++ e ∷ []) × EndsShortestBadPrefix o (entries ++ e ∷ []) last
  dead_stays last some_order well before dead = (
    within before (λ id answer is many. dead.bad (IsLinearizable-front o (dead.before ++ last ∷ []) entries (AreWellFormed-front entries (entries ++ e ∷ []) (e ∷ [], refl) well) dead.front (some_order (marks entries) many))),
    record {
      before = dead.before;
      front = longer entries e (dead.before ++ last ∷ []) dead.front;
      bad = dead.bad;
      shorter = λ front is le. ⊎_elim
          (λ all. (let a : length front ≡ length (entries ++ e ∷ []) = ap length all in let b : length (entries ++ e ∷ []) ≡ length entries + 1 = length-append entries (e ∷ []) in
          let c : length (dead.before ++ last ∷ []) ≤ length entries = length-front entries (dead.before ++ last ∷ []) dead.front in let d : length (dead.before ++ last ∷ []) ≡ length dead.before + 1 = length-append dead.before (last ∷ []) in absurd (omega arith)))
          (λ f. dead.shorter front f le)
          (front_cases entries e front is);
    },
  )
