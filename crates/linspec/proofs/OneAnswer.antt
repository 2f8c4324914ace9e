-- a key has one status and a history one verdict
use Rattle.std.proofs.Common.{◌≡◌, ℕ, ◌+◌, ◌≤◌, ◌<◌, ⊎_elim, Bool, true, false, IsTrue, nat_eq, List, [], ◌∷◌, ◌++◌, length, refl, sym, ap, ◌∙◌, subst, arith, length-append}
use mathlib.Core.Path.{fun_ext}
use Rattle.std.specs.List.{Contains}
use Rattle.std.proofs.lemmas.Bool.{cases_order, eqb-true}
use Rattle.std.proofs.lemmas.List.Elements.{Contains-append_right}
use Rattle.models.specs.Objects.{Object}
use Rattle.kinds.specs.declared.model_kind.ModelKind.{ModelKind}
use Rattle.events.specs.Events.{Entry, of_key}
use Rattle.linspec.specs.Orders.{product}
use Rattle.linspec.specs.Ends.{Count, IsBlownAtBy, IsBlownIndexBy}
use Rattle.linspec.specs.Counts.{CountsMoreThan}
use Rattle.linspec.specs.Verdicts.{EndsShortestBadPrefix, EveryPrefixIsLinearizable, IsKeyStatusBy, IsBlownKeyAtBy, set_aside, IsVerdictWithBy, IsVerdictBy, IsRising, IsVerdict}
use Rattle.linspec.specs.declared.verdict.KeyStatus.{KeyStatus}
use Rattle.linspec.specs.declared.verdict.KeyStatus.TheVariants.{Alive, Dead, Over}
use Rattle.linspec.specs.declared.verdict.Verdict.{Verdict}
use Rattle.linspec.specs.declared.verdict.Verdict.TheVariants.{Legal, Illegal, Unknown}
use Rattle.linspec.proofs.Lists.{Contains-nil, Contains-head, Contains-cons_cases}
use Rattle.linspec.proofs.Filters.{from_filter}

-- two beginnings of the same length are the same
same_cut : {X : Type 0} (xs ys r s : List X) → xs ++ r ≡ ys ++ s → length xs ≡ length ys → (xs ≡ ys) × (r ≡ s)
same_cut [] [] r s e n = (refl, e)
same_cut [] (y ∷ ys) r s e n = absurd (omega arith)
same_cut (x ∷ xs) [] r s e n = absurd (omega arith)
same_cut (x ∷ xs) (y ∷ ys) r s e n =
    let heads : x ≡ y = cc in
    let tails : xs ++ r ≡ ys ++ s = cc in
    let lengths : length xs ≡ length ys = omega arith in
    let c : (xs ≡ ys) × (r ≡ s) = same_cut xs ys r s tails lengths in
    ((λ i. heads i ∷ c.0 i), c.1)

same_last : {X : Type 0} (xs ys : List X) (x y : X) → length xs ≡ length ys → xs ++ x ∷ [] ≡ ys ++ y ∷ [] → x ≡ y
same_last xs ys x y n e = let q : x ∷ [] ≡ y ∷ [] = (same_cut xs ys (x ∷ []) (y ∷ []) e n).1 in cc

-- a shortest bad front is no longer than another
no_longer : (o : Object) (entries : List Entry) (a b : Entry) (s : EndsShortestBadPrefix o entries a) (t : EndsShortestBadPrefix o entries b) → length s.before < length t.before → ⊥
no_longer o entries a b s t lt =
    let n : length (s.before ++ a ∷ []) ≡ length s.before + 1 = length-append s.before (a ∷ []) in
    s.bad (t.shorter (s.before ++ a ∷ []) s.front (omega arith))

one_bad_prefix : (o : Object) (entries : List Entry) (a b : Entry) → EndsShortestBadPrefix o entries a → EndsShortestBadPrefix o entries b → a ≡ b
one_bad_prefix o entries a b s t =
    ⊎_elim
    (λ n.
    let i : length (s.before ++ a ∷ []) ≡ length s.before + 1 = length-append s.before (a ∷ []) in
    let j : length (t.before ++ b ∷ []) ≡ length t.before + 1 = length-append t.before (b ∷ []) in
    let m : length (s.before ++ a ∷ []) ≡ length (t.before ++ b ∷ []) = omega arith in
    same_last s.before t.before a b n (same_cut (s.before ++ a ∷ []) (t.before ++ b ∷ []) s.front.0 t.front.0 (s.front.1 ∙ sym t.front.1) m).0)
    (⊎_elim (λ lt. absurd (no_longer o entries a b s t lt)) (λ lt. absurd (no_longer o entries b a t s lt)))
    (cases_order (length s.before) (length t.before))

one_blown_index : (more : Count) (budget : ℕ) (entries : List Entry) (i j : ℕ) → IsBlownIndexBy more budget entries i → IsBlownIndexBy more budget entries j → i ≡ j
one_blown_index more budget entries i j b c =
    let h : i ≤ j = b.least j c.blown in
    let k : j ≤ i = c.least i b.blown in
    omega arith

pub one_status : (more : Count) (o : Object) (budget : ℕ) (entries : List Entry) (s t : KeyStatus) → IsKeyStatusBy more o budget entries s → IsKeyStatusBy more o budget entries t → s ≡ t
one_status more o budget entries (Over i) (Over j) h k = ap Over (one_blown_index more budget entries i j h k)
one_status more o budget entries (Over i) (Dead j) h k = absurd (k.0 i h.blown)
one_status more o budget entries (Over i) Alive h k = absurd (k.0 i h.blown)
one_status more o budget entries (Dead i) (Over j) h k = absurd (h.0 j k.blown)
one_status more o budget entries (Dead i) (Dead j) h k = ap Dead (sym h.1.2 ∙ ap (λ (e : Entry). e.index) (one_bad_prefix o entries h.1.0 k.1.0 h.1.1 k.1.1) ∙ k.1.2)
one_status more o budget entries (Dead i) Alive h k = absurd (bad_front h.1.0 h.1.1 k.1)
  where
    bad_front : (last : Entry) → EndsShortestBadPrefix o entries last → EveryPrefixIsLinearizable o entries → ⊥
    bad_front last s every = s.bad (every (s.before ++ last ∷ []) s.front)
one_status more o budget entries Alive (Over j) h k = absurd (h.0 j k.blown)
one_status more o budget entries Alive (Dead j) h k = absurd (bad_front k.1.0 k.1.1 h.1)
  where
    bad_front : (last : Entry) → EndsShortestBadPrefix o entries last → EveryPrefixIsLinearizable o entries → ⊥
    bad_front last s every = s.bad (every (s.before ++ last ∷ []) s.front)
one_status more o budget entries Alive Alive h k = refl

-- where the index rises, an index is of one entry
one_entry : (entries : List Entry) → IsRising entries → (e f : Entry) → Contains entries e → Contains entries f → e.index ≡ f.index → e ≡ f
one_entry [] rising e f h k q = absurd (Contains-nil e h)
one_entry (x ∷ entries) rising e f h k q =
    ⊎_elim
    (λ a. ⊎_elim
    (λ b. sym a ∙ b)
    (λ b. (let lt : x.index < f.index = rising.0 f b in let i : x.index ≡ e.index = ap (λ (w : Entry). w.index) a in absurd (omega arith)))
    (Contains-cons_cases x entries f k))
    (λ a. ⊎_elim
    (λ b. (let lt : x.index < e.index = rising.0 e a in let i : x.index ≡ f.index = ap (λ (w : Entry). w.index) b in absurd (omega arith)))
    (λ b. one_entry entries rising.1 e f a b q)
    (Contains-cons_cases x entries f k))
    (Contains-cons_cases x entries e h)

same_bool : (a b : Bool) → (IsTrue a → IsTrue b) → (IsTrue b → IsTrue a) → a ≡ b
same_bool true true f g = refl
same_bool true false f g = sym (f refl)
same_bool false true f g = g refl
same_bool false false f g = refl

module _ (more : ModelKind → Count) (kinds : ℕ → ModelKind) (budgets : ℕ → ℕ) (entries : List Entry) (rising : IsRising entries) where
  -- a key is over budget at an index of its own
  blown_entry : (k i : ℕ) → IsBlownKeyAtBy more kinds budgets entries k i → (e : Entry) × Contains entries e × (e.key ≡ k) × (e.index ≡ i)
  blown_entry k i b =
      let at : IsBlownAtBy (more (kinds k)) (budgets k) (of_key k entries) i = b.blown in
      let h : Contains (of_key k entries) at.event = subst (λ l. Contains l at.event) at.cut (Contains-append_right at.before (at.event ∷ at.after) at.event (Contains-head at.event at.after)) in
      let r : Contains entries at.event × (nat_eq at.event.key k ≡ true) = from_filter (λ (e : Entry). nat_eq e.key k) entries at.event h in
      (at.event, r.0, eqb-true at.event.key k r.1, at.here)

  one_blown_key : (k l i : ℕ) → IsBlownKeyAtBy more kinds budgets entries k i → IsBlownKeyAtBy more kinds budgets entries l i → k ≡ l
  one_blown_key k l i b c =
      let e = blown_entry k i b in
      let f = blown_entry l i c in
      sym e.2 ∙ ap (λ (w : Entry). w.key) (one_entry entries rising e.0 f.0 e.1 f.1 (e.3 ∙ sym f.3)) ∙ f.2

  every_not_bad : (blown : ℕ → Bool) (last : Entry) → EndsShortestBadPrefix (product kinds) (set_aside blown entries) last → EveryPrefixIsLinearizable (product kinds) (set_aside blown entries) → ⊥
  every_not_bad blown last s every = s.bad (every (s.before ++ last ∷ []) s.front)

  one_with : (blown : ℕ → Bool) (v w : Verdict) → IsVerdictWithBy more kinds budgets entries blown v → IsVerdictWithBy more kinds budgets entries blown w → v ≡ w
  one_with blown (Illegal k i) (Illegal l j) h g =
      let e : h.0 ≡ g.0 = one_bad_prefix (product kinds) (set_aside blown entries) h.0 g.0 h.1 g.1 in
      let keys : k ≡ l = sym h.2 ∙ ap (λ (w : Entry). w.key) e ∙ g.2 in
      let indices : i ≡ j = sym h.3 ∙ ap (λ (w : Entry). w.index) e ∙ g.3 in
      cc
  one_with blown (Illegal k i) (Unknown l j) h g = absurd (every_not_bad blown h.0 h.1 g.0)
  one_with blown (Illegal k i) Legal h g = absurd (every_not_bad blown h.0 h.1 g.0)
  one_with blown (Unknown k i) (Illegal l j) h g = absurd (every_not_bad blown g.0 g.1 h.0)
  one_with blown (Unknown k i) (Unknown l j) h g =
      let a : i ≤ j = h.2 l j g.1 in
      let b : j ≤ i = g.2 k i h.1 in
      let indices : i ≡ j = omega arith in
      let keys : k ≡ l = one_blown_key k l i h.1 (subst (IsBlownKeyAtBy more kinds budgets entries l) (sym indices) g.1) in
      cc
  one_with blown (Unknown k i) Legal h g = absurd (g.1 k (i, h.1.blown))
  one_with blown Legal (Illegal l j) h g = absurd (every_not_bad blown g.0 g.1 h.0)
  one_with blown Legal (Unknown l j) h g = absurd (h.1 l (j, g.1.blown))
  one_with blown Legal Legal h g = refl

  pub one_verdict_by : (v w : Verdict) → IsVerdictBy more kinds budgets entries v → IsVerdictBy more kinds budgets entries w → v ≡ w
  one_verdict_by v w h g =
      let same : g.0 ≡ h.0 = fun_ext (λ k. same_bool (g.0 k) (h.0 k) (λ t. (h.1 k).1 ((g.1 k).0 t)) (λ t. (g.1 k).1 ((h.1 k).0 t))) in
      one_with h.0 v w h.2 (subst (λ (blown : ℕ → Bool). IsVerdictWithBy more kinds budgets entries blown w) same g.2)

pub one_verdict : (kinds : ℕ → ModelKind) (budgets : ℕ → ℕ) (entries : List Entry) → IsRising entries → (v w : Verdict) → IsVerdict kinds budgets entries v → IsVerdict kinds budgets entries w → v ≡ w
one_verdict = one_verdict_by CountsMoreThan
