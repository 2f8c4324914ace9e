-- the answer of an event, and its cost
use Rattle.std.proofs.Common.{◌≡◌, ◌≢◌, ℕ, ◌<◌, ◌≤◌, ◌⊎◌, inl, inr, ⊎_elim, true, false, List, [], ◌∷◌, ◌++◌, length, map, Vec, Global, refl, sym, ap, ◌∙◌, subst, arith}
use Rattle.std.specs.Prelude.{Result}
use Rattle.std.specs.declared.alloc.AllocError.{AllocError}
use Rattle.std.specs.List.{Contains}
use Rattle.std.proofs.lemmas.Bool.{true≢false}
use Rattle.models.specs.declared.operation.Op.{Op}
use Rattle.models.specs.Objects.{cas_register}
use Rattle.events.specs.declared.event.EventKind.{EventKind}
use Rattle.events.specs.declared.event.EventKind.TheVariants.{Invoke, Ok, Fail, Info}
use Rattle.events.specs.Events.{Mark, act_by, mark_by_act}
use Rattle.events.specs.Events.Mark.{Invoked, Returned, Failed, Crashed}
use Rattle.linspec.specs.MarkRule.{MayFollow}
use Rattle.linspec.specs.Orders.{IsLinearizable}
use Rattle.linspec.proofs.Lists.{Contains-nil, Contains-head}
use Rattle.linspec.specs.CasEnds.{HasMoreFronts, HasMoreFrontsThan}
use Rattle.cas_ends.proofs.Left.{are_left, some_is_left}
use Rattle.cas_ends.proofs.OneCount.{counted_order, more_if_more}
use Rattle.cas_ends.proofs.Stands.{IsLeft}
use Rattle.judging.specs.declared.step.Step.{Step}
use Rattle.judging.specs.declared.step.Step.TheVariants.{Alive, Dead, Over}
use Rattle.judging.specs.Meaning.{Answers, Blows, Costs, IsAnswer, IsStep, FrontierView, Prepares, StepsOfOk, mark_by}
use Rattle.judging.proofs.Marks.{same_mark}
use Rattle.wide_cas_register.specs.declared.row.Row.{Row}
use Rattle.wide_cas_register.specs.declared.fronts.Front.{Front}
use Rattle.wide_cas_register.specs.declared.fronts.Reached.TheVariants.{All, Over as OverBudget}
use Rattle.wide_cas_register.specs.declared.kept.Kept.{Kept}
use Rattle.wide_cas_register.specs.declared.judged.WideCasRegister.{WideCasRegister}
use Rattle.wide_cas_register.specs.Counts.{IsCounted}
use Rattle.wide_cas_register.specs.Facts.{AreFacts, end_of}
use Rattle.wide_cas_register.specs.Fronts.{AreAllBy, AreSomeBy, IsAfter, IsReachedBy}
use Rattle.wide_cas_register.specs.Views.{IsStepLeft, kills, view_of}
use Rattle.wide_cas_register.proofs.Costs.{none_cost, ok_cost}
use Rattle.wide_cas_register.proofs.Fronting.{front_of}
use Rattle.wide_cas_register.proofs.Meeting.{all_are, some_are}
use Rattle.wide_cas_register.proofs.Others.{map_from, map_to}
use Rattle.wide_cas_register.proofs.Steps.{Meets, facts_after}

abbrev pub mark_of : ℕ → EventKind → Op → Mark
mark_of id kind op = mark_by_act id id (act_by kind op)

length_map : {X Y : Type 0} (f : X → Y) (xs : List X) → length (map f xs) ≡ length xs
length_map f [] = refl
length_map f (x ∷ xs) = let e = length_map f xs in grind arith

module _ (k : Kept) (marks : List Mark) (f : AreFacts k marks) where
  left : (row : Row) → Contains k.rows.items row → IsLeft marks (end_of k.calls.items row)
  left row h = are_left marks (map (end_of k.calls.items) k.rows.items) f.well f.ends (end_of k.calls.items row) (map_to (end_of k.calls.items) k.rows.items row h)

  pub has_more : (budget : ℕ) (fronts last : List Front) → AreSomeBy k.calls.items k.moment k.rows.items fronts last → budget < length fronts → HasMoreFrontsThan marks budget
  has_more budget fronts last s h =
      let some = some_are marks f.well k.calls.items f.calls k.rows.items left fronts last (subst (λ t. AreSomeBy k.calls.items t k.rows.items fronts last) f.now s) in
      let more : HasMoreFronts marks budget = record {
        well = f.well;
        ends = map (end_of k.calls.items) k.rows.items;
        are = f.ends;
        fronts = map (front_of k.calls.items) fronts;
        last = map (front_of k.calls.items) last;
        some = some.0;
        many = (let e = length_map (front_of k.calls.items) fronts in omega arith);
      } in
      (counted_order marks budget more, more)

  pub has_no_more : (budget : ℕ) (fronts : List Front) → AreAllBy k.calls.items k.moment k.rows.items fronts → length fronts ≤ budget → ¬ HasMoreFrontsThan marks budget
  has_no_more budget fronts a few h =
      let all = all_are marks f.well k.calls.items f.calls k.rows.items left fronts (subst (λ t. AreAllBy k.calls.items t k.rows.items fronts) f.now a) in
      let m = more_if_more marks budget (map (end_of k.calls.items) k.rows.items) (map (front_of k.calls.items) fronts) f.ends all h.1 in
      let e = length_map (front_of k.calls.items) fronts in
      let no : ⊥ = omega arith in
      no

  pub lives : (r : Row) (rows : List Row) → k.rows.items ≡ r ∷ rows → IsLinearizable cas_register marks
  lives r rows e =
      let h : Contains k.rows.items r = subst (λ l. Contains l r) (sym e) (Contains-head r rows) in
      (some_is_left marks (map (end_of k.calls.items) k.rows.items) f.well f.ends).1 (end_of k.calls.items r, map_to (end_of k.calls.items) k.rows.items r h)

  pub dies : k.rows.items ≡ [] → ¬ IsLinearizable cas_register marks
  dies e l =
      let h = (some_is_left marks (map (end_of k.calls.items) k.rows.items) f.well f.ends).0 l in
      let r = map_from (end_of k.calls.items) k.rows.items h.0 h.1 in
      Contains-nil r.0 (subst (λ xs. Contains xs r.0) e r.1)

  pub lives_by : k.rows.items ≢ [] → IsLinearizable cas_register marks
  lives_by n = by_rows k.rows.items refl
    where
      by_rows : (rows : List Row) → k.rows.items ≡ rows → IsLinearizable cas_register marks
      by_rows [] e = absurd (n e)
      by_rows (r ∷ rows) e = lives r rows e

module _ (budget : ℕ) (new : Kept) (marks : List Mark) (m : Mark) (g : AreFacts new (marks ++ m ∷ [])) where
  abbrev Step_is : Step → Type 0
  Step_is step = ((step ≡ Dead) × (new.rows.items ≡ [])) ⊎ ((step ≡ Alive) × (new.rows.items ≢ []))

  step_is : (step : Step) → ¬ Blows HasMoreFrontsThan budget marks m → Step_is step → IsStep HasMoreFrontsThan cas_register budget marks m step
  step_is step n s = ⊎_elim
      (λ d. subst (IsStep HasMoreFrontsThan cas_register budget marks m) (sym d.0) (n, dies new (marks ++ m ∷ []) g d.1))
      (λ a. subst (IsStep HasMoreFrontsThan cas_register budget marks m) (sym a.0) (n, lives_by new (marks ++ m ∷ []) g a.1))
      s

-- these fronts are reached within the budget
abbrev pub IsWithin : EventKind → Kept → ℕ → List Front → Type 0
IsWithin Ok k budget fronts = AreAllBy k.calls.items k.moment k.rows.items fronts × (length fronts ≤ budget)
IsWithin Invoke k budget fronts = fronts ≡ []
IsWithin Fail k budget fronts = fronts ≡ []
IsWithin Info k budget fronts = fronts ≡ []

pub within : (kind : EventKind) (k : Kept) (budget : ℕ) (fronts : Vec Front Global) → IsReachedBy kind k.calls.items k.moment k.rows.items budget (All fronts) → IsWithin kind k budget fronts.items
within Ok k budget fronts r = r
within Invoke k budget fronts r = r
within Fail k budget fronts r = r
within Info k budget fronts r = r

pub met : (kind : EventKind) (id : ℕ) (op : Op) (k : Kept) (budget : ℕ) (fronts : List Front) → IsWithin kind k budget fronts → Meets (mark_of id kind op) k.calls.items k.moment k.rows.items fronts
met Ok id op k budget fronts w = w.0
met Invoke id op k budget fronts w = w
met Fail id op k budget fronts w = w
met Info id op k budget fronts w = w

module _ (budget : ℕ) (k new : Kept) (fronts : List Front) (id : ℕ) (op : Op) (step : Step) where
  killing : (kind : EventKind) → kills kind ≡ true → IsStepLeft new kind step → ((step ≡ Dead) × (new.rows.items ≡ [])) ⊎ ((step ≡ Alive) × (new.rows.items ≢ []))
  killing kind t s = ⊎_elim (λ d. inl (d.0, d.1)) (λ a. inr (a.0, (λ e. a.1 (e, t)))) s

  sparing : (kind : EventKind) → kills kind ≡ false → IsStepLeft new kind step → step ≡ Alive
  sparing kind t s = ⊎_elim (λ d. absurd (true≢false (sym d.2 ∙ t))) (λ a. a.0) s

  pub not_over : (kind : EventKind) → IsStepLeft new kind step → step ≢ Over
  not_over kind s e = ⊎_elim
      (λ d. (let q : Dead ≡ Over = sym d.0 ∙ e in let no : ⊥ = cc in no))
      (λ a. (let q : Alive ≡ Over = sym a.0 ∙ e in let no : ⊥ = cc in no))
      s

  right : (kind : EventKind) → IsAfter (mark_of id kind op) fronts k new → IsWithin kind k budget fronts → IsStepLeft new kind step
      → (marks : List Mark) → AreFacts k marks → MayFollow marks (mark_of id kind op) → IsAnswer HasMoreFrontsThan cas_register budget marks (mark_of id kind op) step
  right Invoke a w s marks f may = sparing Invoke refl s
  right Info a w s marks f may = sparing Info refl s
  right Ok a w s marks f may = step_is budget new marks (mark_of id Ok op) (facts_after (mark_of id Ok op) fronts k new a (met Ok id op k budget fronts w) marks f may) step
      (has_no_more k marks f budget fronts w.0 w.1) (killing Ok refl s)
  right Fail a w s marks f may = step_is budget new marks (mark_of id Fail op) (facts_after (mark_of id Fail op) fronts k new a (met Fail id op k budget fronts w) marks f may) step
      (λ b. b) (killing Fail refl s)

  pub answers : (kind : EventKind) → IsAfter (mark_of id kind op) fronts k new → IsWithin kind k budget fronts → IsStepLeft new kind step
      → Answers HasMoreFrontsThan cas_register budget (AreFacts k) (mark_of id kind op) step
  answers kind a w s = record { right = right kind a w s; over_at_ok = λ e. absurd (not_over kind s e) }

-- more than the budget are reached
pub answers_over : (budget tried : ℕ) (k : Kept) (id : ℕ) (op : Op) (kind : EventKind) → IsReachedBy kind k.calls.items k.moment k.rows.items budget (OverBudget tried) → Answers HasMoreFrontsThan cas_register budget (AreFacts k) (mark_of id kind op) Over
answers_over budget tried k id op Ok r = record { right = λ marks f may. has_more k marks f budget r.1.0 r.1.1 r.1.2 r.1.3; over_at_ok = λ e. tt }
answers_over budget tried k id op Invoke r = absurd r
answers_over budget tried k id op Fail r = absurd r
answers_over budget tried k id op Info r = absurd r

abbrev pub stepped : WideCasRegister → ℕ → FrontierView
stepped w n = record { stands = AreFacts w.kept; will_stand = AreFacts w.kept; budget = w.budget; applied = n }

pub costs_within : (kind : EventKind) (w : WideCasRegister) (id : ℕ) (op : Op) (fronts : List Front) (after : ℕ) → IsWithin kind w.kept w.budget fronts → IsCounted w.kept.calls.items (length fronts) w.applied after
    → Costs (view_of w) (stepped w after) (mark_of id kind op)
costs_within Ok w id op fronts after n c = ok_cost w.budget (length fronts) w.kept w.applied after n.1 c
costs_within Invoke w id op fronts after n c = none_cost w.kept (length fronts) w.applied after (ap length n) c
costs_within Fail w id op fronts after n c = none_cost w.kept (length fronts) w.applied after (ap length n) c
costs_within Info w id op fronts after n c = none_cost w.kept (length fronts) w.applied after (ap length n) c

pub costs_over : (kind : EventKind) (w : WideCasRegister) (id : ℕ) (op : Op) (tried after : ℕ) → IsReachedBy kind w.kept.calls.items w.kept.moment w.kept.rows.items w.budget (OverBudget tried) → IsCounted w.kept.calls.items tried w.applied after
    → Costs (view_of w) (stepped w after) (mark_of id kind op)
costs_over Ok w id op tried after r c = ok_cost w.budget tried w.kept w.applied after r.0 c
costs_over Invoke w id op tried after r c = absurd r
costs_over Fail w id op tried after r c = absurd r
costs_over Info w id op tried after r c = absurd r

pub cost_then : (old mid new : FrontierView) → new.applied ≡ mid.applied → (m : Mark) → Costs old mid m → Costs old new m
cost_then old mid new e (Returned id answer) h = subst (StepsOfOk old.budget old.stands old.applied) (sym e) h
cost_then old mid new e (Invoked id op) h = e ∙ h
cost_then old mid new e (Failed id) h = e ∙ h
cost_then old mid new e (Crashed id) h = e ∙ h

-- the same of the mark in the words of all judges
pub prepared_as : {old new : FrontierView} {result : Result Step AllocError} (kind : EventKind) (id : ℕ) (op : Op)
    → Prepares old new HasMoreFrontsThan cas_register (mark_of id kind op) result
    → Prepares old new HasMoreFrontsThan cas_register (mark_by id kind op) result
prepared_as {old} {new} {result} kind id op p = subst (λ m. Prepares old new HasMoreFrontsThan cas_register m result) (same_mark kind id op) p
