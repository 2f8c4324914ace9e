-- more ends than the budget
use Rattle.std.proofs.Common.{◌≡◌, ◌≢◌, ◌+◌, ◌↔◌, ◌<◌, ◌≤◌, ℕ, suc, ⊎_elim, IsTrue, Bool, false, Some, List, [], ◌∷◌, length, map, get_or, slice_get, refl, sym, ap, ◌∙◌, subst, arith}
use Rattle.std.specs.List.{AllPairs, Contains}
use Rattle.std.proofs.lemmas.Bool.{cases_lt, true≢false}
use Rattle.std.proofs.lemmas.List.{length-map}
use Rattle.std.proofs.lemmas.Option.{get_or_from_slice_get}
use Rattle.models.specs.declared.operation.Op.{Op}
use Rattle.models.specs.declared.finding.Found.{Found}
use Rattle.models.specs.Objects.{AreApart, Object, of_table}
use Rattle.linspec.specs.Orders.{Pairwise}
use Rattle.linspec.specs.Ends.{End}
use Rattle.linspec.proofs.Filters.{from_map}
use Rattle.linspec.proofs.Lists.{Contains-head, Contains-nil, Contains-cons_cases}
use Rattle.linspec.proofs.Steps.{in_listed}
use Rattle.moves.specs.declared.pending_op.PendingOp.{PendingOp}
use Rattle.moves.specs.declared.table.Table.{Table}
use Rattle.moves.specs.EndSteps.{Grows, IsReached, ReachesMoreThan, TakesLast, is_in, with_call}
use Rattle.moves.specs.Tables.{Shows, found_by}
use Rattle.moves.proofs.Leading.{takes}
use Rattle.moves.proofs.Reaching.{closed_has, reached_next}
use Rattle.moves.proofs.Rows.{not_in_by, with_state, zero_none}

-- if f is different for different elements, its results have no repeats
mapped_once : {X Y : Type 0} (f : X → Y) (xs : List X) → AllPairs (λ x y. f x ≢ f y) xs → Pairwise (λ d e. d ≢ e) (map f xs)
mapped_once f [] apart = tt
mapped_once f (x ∷ xs) apart = (
  (λ y h e.
      let i = from_map f xs y h in
      let lt : i.1.0 < length xs = i.1.1 in
      apart 0 (suc i.1.0) i.0 (omega arith) (omega (arith, lt)) (e ∙ sym i.2 ∙ ap f (sym i.1.2))),
  mapped_once f xs (λ i j d lt fits. apart (suc i) (suc j) d (omega arith) (omega arith)),
)

-- outcomes that leave different states make different ends
module _ (S : Type 0) (start : S) (apply : Op → S → List (S × Found)) (calls : List PendingOp) (c : PendingOp) (e : End S) where
  abbrev end_by : S × Found → End S
  end_by outcome = with_call e c.id c.crashed outcome.1 outcome.0

  pub beyond_by : (budget : ℕ) → Contains calls c → is_in e c.id c.crashed ≡ false → AreApart (apply c.op e.state) → budget < length (apply c.op e.state) → ReachesMoreThan (of_table S start apply) calls (e ∷ []) budget
  beyond_by budget among out apart lt = record {
    more = map end_by (apply c.op e.state);
    reached = λ f h.
        let x = from_map end_by (apply c.op e.state) f h in
        (1, e, Contains-head e [], (e, refl, (c, among, subst (TakesLast (of_table S start apply) e c) x.2 (takes S start apply e c out x.0.0 x.0.1 (in_listed (apply c.op e.state) x.0 x.1)))));
    once = mapped_once end_by (apply c.op e.state) (λ i j d less fits q.
        let x = get_or (apply c.op e.state) i d in
        let y = get_or (apply c.op e.state) j d in
        apart i j d less fits (sym (with_state e c.id c.crashed x.1 x.0) ∙ ap (λ (f : End S). f.state) q ∙ with_state e c.id c.crashed y.1 y.0));
    many = let long = length-map (apply c.op e.state) end_by in omega (arith, lt, long);
  }

-- the meaning of a test for more if it is false
pub few_by : (b : Bool) (most n : ℕ) → (IsTrue b ↔ (most < n)) → b ≡ false → n ≤ most
few_by b most n test is = ⊎_elim (λ lt. absurd (true≢false (sym (test.1 lt) ∙ is))) (λ le. le) (cases_lt most n)

-- a call whose place in the row is zero is not in
pub not_in_row : {S : Type 0} (t : Table S) (calls : List PendingOp) (row : List ℕ) (e : End S) (at : ℕ) (c : PendingOp) → slice_get calls at ≡ Some c → Shows t calls row e → slice_get row (at + 1) ≡ Some 0 → is_in e c.id c.crashed ≡ false
not_in_row t calls row e at c here shows none =
    not_in_by e c.id c.crashed (zero_none t.founds (get_or row (at + 1) 0) (found_by e c) (get_or_from_slice_get row (at + 1) 0 0 none) (shows.slots at c here))

module _ (o : Object) (calls : List PendingOp) (ends : List (End o.State)) (budget : ℕ) where
  -- from an end that is reached
  pub beyond_from : (e : End o.State) → IsReached o calls ends e → ReachesMoreThan o calls (e ∷ []) budget → ReachesMoreThan o calls ends budget
  beyond_from e r b = record {
    more = b.more;
    reached = λ f h.
        let q = b.reached f h in
        closed_has o calls (IsReached o calls ends) (reached_next o calls ends) q.0 q.1 f
        (⊎_elim (λ s. subst (IsReached o calls ends) s r) (λ k. absurd (Contains-nil q.1 k)) (Contains-cons_cases e [] q.1 q.2)) q.3;
    once = b.once;
    many = b.many;
  }

  -- once they are found
  pub beyond_found : (more : List (End o.State)) → Pairwise (λ d e. d ≢ e) ends → Grows o calls ends more → budget < length more → ReachesMoreThan o calls ends budget
  beyond_found more once grows lt = record { more = more; reached = grows.reached; once = grows.once once; many = lt }
