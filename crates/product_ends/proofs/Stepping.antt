-- the rows that calls lead to from rows, by transitions
use Rattle.std.proofs.Common.{◌≡◌, inl, ⊎_elim, ℕ, ◌+◌, ◌<◌, Bool, false, not, nat_eq, Some, List, [], ◌∷◌, length, slice_get, get_or, set, refl, sym, ap, ◌∙◌, subst, arith, add-one, length-set}
use Rattle.std.proofs.lemmas.Bool.{cases_eq, ne_eqb, true≢false}
use Rattle.std.proofs.lemmas.List.{get_or-set_other, get_or-set_same, set-get_or, set-set}
use Rattle.rows.proofs.Elements.{Contains-nil, Contains-head, Contains-cons_cases}
use Rattle.models.specs.declared.operation.Op.{Op}
use Rattle.models.specs.declared.finding.Found.{Found}
use Rattle.models.specs.Objects.{IsOneOf, Object, of_table}
use Rattle.interner.specs.Numbers.{IsSlot}
use Rattle.interner.proofs.Lists.{has_place}
use Rattle.linspec.specs.Ends.{End}
use Rattle.moves.specs.declared.pending_op.PendingOp.{PendingOp}
use Rattle.moves.specs.declared.table.Table.{Table}
use Rattle.moves.specs.EndSteps.{IsReached, TakesLast, is_in}
use Rattle.moves.specs.Moves.{AreTo, IsTo}
use Rattle.moves.specs.Tables.{AreLed, HasEachOnce, Shows, found_by, row_led, told_by}
use Rattle.moves.proofs.Leading.{are_led}
use Rattle.moves.proofs.Reaching.{reached_next}
use Rattle.moves.proofs.Rows.{not_in_by, not_told, zero_none}
use Rattle.products.specs.Products.{AreIn, Has}
use Rattle.products.proofs.Sets.{are_in_at, are_in_from, are_in_long}
use Rattle.product_ends.specs.declared.transitions.Transition.TheVariants.{To}
use Rattle.product_ends.specs.Transitions.{IsTransition}
use Rattle.product_ends.specs.Growing.{SaysReached}

-- lists with a number changed and changed back
pub put_back : (rest : List ℕ) (at n : ℕ) → set (set rest at n) at (get_or rest at 0) ≡ rest
put_back rest at n = set-set rest at n (get_or rest at 0) ∙ set-get_or rest at 0

-- the row that a target leads to, by its numbers behind the first
pub led_to : (number to at slot : ℕ) (rest : List ℕ) → row_led (number ∷ rest) (at + 1) (to, slot) ≡ to ∷ set rest at slot
led_to number to at slot rest = ap (λ k. set (to ∷ rest) k slot) (add-one at)

-- sets and rows with one of them changed
pub in_with : (sets rest : List ℕ) (at word n : ℕ) → at < length sets → AreIn sets rest → Has word n → AreIn (set sets at word) (set rest at n)
in_with sets rest at word n lt is has =
    let long = are_in_long sets rest is in
    let l = length-set sets at word in
    let m = length-set rest at n in
    are_in_from (set sets at word) (set rest at n) (omega arith) (λ k less.
    ⊎_elim
    (λ e.
    subst (λ p. Has (get_or (set sets at word) p 0) (get_or (set rest at n) p 0)) (sym e)
    (subst (λ w. Has w (get_or (set rest at n) at 0)) (sym (get_or-set_same sets at word 0 lt))
    (subst (Has word) (sym (get_or-set_same rest at n 0 (omega arith))) has)))
    (λ ne.
    subst (λ w. Has w (get_or (set rest at n) k 0)) (sym (get_or-set_other sets at k word 0 ne))
    (subst (Has (get_or sets k 0)) (sym (get_or-set_other rest at k n 0 ne)) (are_in_at sets rest k (omega arith) is)))
    (cases_eq k at))

pub in_without : (sets rest : List ℕ) (at word n : ℕ) → at < length sets → AreIn (set sets at word) rest → Has (get_or sets at 0) n → AreIn sets (set rest at n)
in_without sets rest at word n lt is has =
    let l = length-set sets at word in
    subst (λ ss. AreIn ss (set rest at n)) (set-set sets at word (get_or sets at 0) ∙ set-get_or sets at 0)
    (in_with (set sets at word) rest at (get_or sets at 0) n (omega arith) is has)

pub in_there : (sets rest : List ℕ) (at word : ℕ) → at < length sets → AreIn (set sets at word) rest → Has word (get_or rest at 0)
in_there sets rest at word lt is =
    let l = length-set sets at word in
    subst (λ w. Has w (get_or rest at 0)) (get_or-set_same sets at word 0 lt) (are_in_at (set sets at word) rest at (omega arith) is)

-- a set that is all in another one
pub in_same : (sets rest : List ℕ) (at n : ℕ) → at < length sets → AreIn sets rest → Has (get_or sets at 0) n → AreIn sets (set rest at n)
in_same sets rest at n lt is has =
    subst (λ ss. AreIn ss (set rest at n)) (set-get_or sets at 0) (in_with sets rest at (get_or sets at 0) n lt is has)

-- the meaning of a test for different numbers if it is false
pub same_by : (x y : ℕ) (b : Bool) → b ≡ not (nat_eq x y) → b ≡ false → x ≡ y
same_by x y b test is = ⊎_elim (λ q. q) (λ ne. absurd (true≢false (sym (ap not (ne_eqb x y ne)) ∙ sym test ∙ is))) (cases_eq x y)

module _ (S : Type 0) (start : S) (apply : Op → S → List (S × Found)) (t : Table S) (calls : List PendingOp) (once : HasEachOnce calls) where
  abbrev object : Object
  object = of_table S start apply

  -- the target of a transition
  transition_to : (c : PendingOp) (outcomes : List (S × Found)) (to word slot : ℕ) → IsTransition t c outcomes (To to word) → Has word slot → AreTo t c.crashed outcomes ((to, slot) ∷ [])
  transition_to c outcomes to word slot transition has =
      let same : transition.3 ≡ slot = sym ((transition.5 slot).0 has) in
      let told : IsSlot t.founds slot (Some (told_by c.crashed transition.0.1)) = subst (λ n. IsSlot t.founds n (Some (told_by c.crashed transition.0.1))) same transition.4 in
      record {
        each = λ target h. (
          transition.0,
          subst (λ xs. IsOneOf {X = S × Found} xs transition.0) (sym transition.1) (inl refl),
          ⊎_elim
              (λ e. subst (IsTo t c.crashed transition.0) e (transition.2, told))
              (λ k. absurd (Contains-nil target k))
              (Contains-cons_cases (to, slot) [] target h),
        );
        all = λ outcome h. (
          (to, slot),
          Contains-head (to, slot) [],
          ⊎_elim
              (λ e. subst (λ x. IsTo t c.crashed x (to, slot)) e (transition.2, told))
              (λ k. absurd k)
              (subst (λ xs. IsOneOf {X = S × Found} xs outcome) transition.1 h),
        );
      }

  module _ (row : List ℕ) (e : End S) (shows : Shows t calls row e) (at : ℕ) (c : PendingOp) (here : slice_get calls at ≡ Some c) where
    out_by : get_or row (at + 1) 0 ≡ 0 → is_in e c.id c.crashed ≡ false
    out_by none = not_in_by e c.id c.crashed (zero_none t.founds (get_or row (at + 1) 0) (found_by e c) none (shows.slots at c here))

    -- the operation that takes place last was not there
    pub zero_by : (f : End S) → TakesLast object e c f → get_or row (at + 1) 0 ≡ 0
    zero_by f last = subst (IsSlot t.founds (get_or row (at + 1) 0)) (not_told e c.id c.crashed last.not_in) (shows.slots at c here)

    pub none_by : (f : End S) → TakesLast object e c f → apply c.op e.state ≡ [] → ⊥
    none_by f last none = subst (λ xs. IsOneOf {X = S × Found} xs (f.state, last.found)) none last.step

    module _ (to word slot : ℕ) (transition : IsTransition t c (apply c.op e.state) (To to word)) (has : Has word slot) where
      led : get_or row (at + 1) 0 ≡ 0 → AreLed object t calls row at e c ((to, slot) ∷ [])
      led none = are_led S start apply e c (out_by none) t calls row at ((to, slot) ∷ []) once here shows (transition_to c (apply c.op e.state) to word slot transition has)

      -- an end that is reached by it
      pub led_reached : (ends : List (End S)) → IsReached object calls ends e → get_or row (at + 1) 0 ≡ 0 → SaysReached object t calls ends (row_led row (at + 1) (to, slot))
      led_reached ends reached none =
          let f = (led none).each (to, slot) (Contains-head (to, slot) []) in
          (f.0, f.2, reached_next object calls ends e f.0 reached (c, has_place calls at c here, f.1))

      -- and each one that is
      pub led_all : (f : End S) → TakesLast object e c f → Shows t calls (row_led row (at + 1) (to, slot)) f
      led_all f last =
          let x = (led (zero_by f last)).all f last in
          subst (λ target. Shows t calls (row_led row (at + 1) target) f)
          (⊎_elim sym (λ k. absurd (Contains-nil x.0 k)) (Contains-cons_cases (to, slot) [] x.0 x.1)) x.2
