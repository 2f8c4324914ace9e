-- the answer of an event, and its cost
use Rattle.std.proofs.Common.{◌≡◌, ◌≢◌, ℕ, ◌<◌, ◌⊎◌, inl, inr, ⊎_elim, true, false, IsTrue, List, [], ◌∷◌, ◌++◌, length, map, refl, sym, ◌∙◌, subst, arith}
use Rattle.std.specs.Prelude.{Result}
use Rattle.std.specs.declared.alloc.AllocError.{AllocError}
use Rattle.std.specs.List.{Contains}
use Rattle.std.proofs.lemmas.Bool.{true≢false}
use Rattle.models.specs.declared.operation.Op.{Op}
use Rattle.models.specs.Objects.{register, answer_of}
use Rattle.kinds.specs.declared.model_kind.ModelKind.TheVariants.{WideRegister as WideRegisterKind}
use Rattle.kinds.specs.Kinds.{object_of}
use Rattle.events.specs.declared.event.EventKind.{EventKind}
use Rattle.events.specs.declared.event.EventKind.TheVariants.{Invoke, Ok, Fail, Info}
use Rattle.events.specs.Events.{Mark, act_by, mark_by_act}
use Rattle.events.specs.Events.Mark.{Invoked, Returned, Failed, Crashed}
use Rattle.linspec.specs.MarkRule.{MayFollow}
use Rattle.linspec.specs.Orders.{IsLinearizable}
use Rattle.linspec.specs.Counts.{CountsMoreThan}
use Rattle.linspec.proofs.Lists.{Contains-nil, Contains-head}
use Rattle.linspec.specs.LeanEnds.{HasMoreLeanEnds, HasMoreLeanEndsThan}
use Rattle.lean_ends.proofs.Left.{some_is_left, as_many, counted_order}
use Rattle.wide_register.specs.declared.row.Row.{Row}
use Rattle.wide_register.specs.declared.kept.Kept.{Kept}
use Rattle.judging.specs.declared.step.Step.{Step}
use Rattle.judging.specs.declared.step.Step.TheVariants.{Alive, Dead, Over}
use Rattle.wide_register.specs.Facts.{AreFacts, IsAfter, end_of}
use Rattle.wide_register.specs.declared.judged.WideRegister.{WideRegister}
use Rattle.wide_register.specs.Counts.{IsCounted}
use Rattle.judging.specs.Meaning.{Answers, Blows, Costs, IsAnswer, IsStep, FrontierView, Prepares, StepsOfOk, mark_by}
use Rattle.judging.proofs.Marks.{same_mark}
use Rattle.wide_register.specs.Views.{IsStepLeft, is_an_ok, kills, view_of}
use Rattle.wide_register.proofs.Costs.{crash_cost, fail_cost, invoke_cost, ok_cost}
use Rattle.wide_register.proofs.Others.{map_from, map_to}
use Rattle.wide_register.proofs.Steps.{facts_after}

abbrev pub mark_of : ℕ → EventKind → Op → Mark
mark_of id kind op = mark_by_act id id (act_by kind op)

length_map : {X Y : Type 0} (f : X → Y) (xs : List X) → length (map f xs) ≡ length xs
length_map f [] = refl
length_map f (x ∷ xs) = let e = length_map f xs in grind arith

module _ (k : Kept) (marks : List Mark) (f : AreFacts k marks) where
  pub has_more : (budget : ℕ) → budget < length k.rows.items → HasMoreLeanEndsThan marks budget
  has_more budget h =
      let more : HasMoreLeanEnds marks budget = record {
        well = f.well;
        ends = map (end_of k.calls.items) k.rows.items;
        are = f.ends;
        many = (let e = length_map (end_of k.calls.items) k.rows.items in omega arith);
      } in
      (counted_order marks budget more, more)

  pub has_no_more : (budget : ℕ) → ¬ (budget < length k.rows.items) → ¬ HasMoreLeanEndsThan marks budget
  has_no_more budget n h = n (let e = length_map (end_of k.calls.items) k.rows.items in let s = as_many marks (map (end_of k.calls.items) k.rows.items) h.1.ends f.ends h.1.are in let l = h.1.many in omega arith)

  pub lives : (r : Row) (rows : List Row) → k.rows.items ≡ r ∷ rows → IsLinearizable register marks
  lives r rows e =
      let h : Contains k.rows.items r = subst (λ l. Contains l r) (sym e) (Contains-head r rows) in
      (some_is_left marks (map (end_of k.calls.items) k.rows.items) f.well f.ends).1 (end_of k.calls.items r, map_to (end_of k.calls.items) k.rows.items r h)

  pub dies : k.rows.items ≡ [] → ¬ IsLinearizable register marks
  dies e l =
      let h = (some_is_left marks (map (end_of k.calls.items) k.rows.items) f.well f.ends).0 l in
      let r = map_from (end_of k.calls.items) k.rows.items h.0 h.1 in
      Contains-nil r.0 (subst (λ xs. Contains xs r.0) e r.1)

  pub lives_by : k.rows.items ≢ [] → IsLinearizable register marks
  lives_by n = by_rows k.rows.items refl
    where
      by_rows : (rows : List Row) → k.rows.items ≡ rows → IsLinearizable register marks
      by_rows [] e = absurd (n e)
      by_rows (r ∷ rows) e = lives r rows e

module _ (budget : ℕ) (k new : Kept) (marks : List Mark) (m : Mark) (f : AreFacts k marks) (g : AreFacts new (marks ++ m ∷ [])) where
  abbrev Step_is : Step → Type 0
  Step_is step = ((step ≡ Dead) × (new.rows.items ≡ [])) ⊎ ((step ≡ Alive) × (new.rows.items ≢ []))

  step_is : (step : Step) → ¬ Blows HasMoreLeanEndsThan budget marks m → Step_is step → IsStep HasMoreLeanEndsThan register budget marks m step
  step_is step n s = ⊎_elim
      (λ d. subst (IsStep HasMoreLeanEndsThan register budget marks m) (sym d.0) (n, dies new (marks ++ m ∷ []) g d.1))
      (λ a. subst (IsStep HasMoreLeanEndsThan register budget marks m) (sym a.0) (n, lives_by new (marks ++ m ∷ []) g a.1))
      s

module _ (budget : ℕ) (k new : Kept) (id : ℕ) (op : Op) (step : Step) where
  killing : (kind : EventKind) → kills kind ≡ true → IsStepLeft new kind step → ((step ≡ Dead) × (new.rows.items ≡ [])) ⊎ ((step ≡ Alive) × (new.rows.items ≢ []))
  killing kind t s = ⊎_elim (λ d. inl (d.0, d.1)) (λ a. inr (a.0, (λ e. a.1 (e, t)))) s

  sparing : (kind : EventKind) → kills kind ≡ false → IsStepLeft new kind step → step ≡ Alive
  sparing kind t s = ⊎_elim (λ d. absurd (true≢false (sym d.2 ∙ t))) (λ a. a.0) s

  pub not_over : (kind : EventKind) → IsStepLeft new kind step → step ≢ Over
  not_over kind s e = ⊎_elim
      (λ d. (let q : Dead ≡ Over = sym d.0 ∙ e in let no : ⊥ = cc in no))
      (λ a. (let q : Alive ≡ Over = sym a.0 ∙ e in let no : ⊥ = cc in no))
      s

  right : (kind : EventKind) → IsAfter (mark_of id kind op) k new → ¬ (IsTrue (is_an_ok kind) × (budget < length k.rows.items)) → IsStepLeft new kind step
      → (marks : List Mark) → AreFacts k marks → MayFollow marks (mark_of id kind op) → IsAnswer HasMoreLeanEndsThan register budget marks (mark_of id kind op) step
  right Invoke a n s marks f may = sparing Invoke refl s
  right Info a n s marks f may = sparing Info refl s
  right Ok a n s marks f may = step_is budget k new marks (mark_of id Ok op) f (facts_after (mark_of id Ok op) k new a marks f may) step
      (has_no_more k marks f budget (λ h. n (refl, h))) (killing Ok refl s)
  right Fail a n s marks f may = step_is budget k new marks (mark_of id Fail op) f (facts_after (mark_of id Fail op) k new a marks f may) step
      (λ b. b) (killing Fail refl s)

  pub answers : (kind : EventKind) → IsAfter (mark_of id kind op) k new → ¬ (IsTrue (is_an_ok kind) × (budget < length k.rows.items)) → IsStepLeft new kind step
      → Answers HasMoreLeanEndsThan register budget (AreFacts k) (mark_of id kind op) step
  answers kind a n s = record { right = right kind a n s; over_at_ok = λ e. absurd (not_over kind s e) }

pub answers_over : (budget : ℕ) (k : Kept) (id : ℕ) (op : Op) (kind : EventKind) → IsTrue (is_an_ok kind) → budget < length k.rows.items → Answers HasMoreLeanEndsThan register budget (AreFacts k) (mark_of id kind op) Over
answers_over budget k id op Ok t h = record { right = λ marks f may. has_more k marks f budget h; over_at_ok = λ e. tt }
answers_over budget k id op Invoke t h = absurd (true≢false (sym t))
answers_over budget k id op Fail t h = absurd (true≢false (sym t))
answers_over budget k id op Info t h = absurd (true≢false (sym t))

abbrev pub stepped : WideRegister → ℕ → FrontierView
stepped w n = record { stands = AreFacts w.kept; will_stand = AreFacts w.kept; budget = w.budget; applied = n }

pub costs_of : (kind : EventKind) (w : WideRegister) (id : ℕ) (op : Op) (after : ℕ) → ¬ (IsTrue (is_an_ok kind) × (w.budget < length w.kept.rows.items)) → IsCounted w.kept (mark_of id kind op) w.applied after
    → Costs (view_of w) (stepped w after) (mark_of id kind op)
costs_of Ok w id op after n c = ok_cost w.budget w.kept id (answer_of op.part) w.applied after (λ l. n (refl, l)) c
costs_of Invoke w id op after n c = invoke_cost w.kept id op w.applied after c
costs_of Fail w id op after n c = fail_cost w.kept id w.applied after c
costs_of Info w id op after n c = crash_cost w.kept id w.applied after c

-- an ok that is over costs nothing
pub no_cost : (kind : EventKind) (w : WideRegister) (id : ℕ) (op : Op) → Costs (view_of w) (stepped w w.applied) (mark_of id kind op)
no_cost Ok w id op = (omega arith, λ marks f n p. omega arith)
no_cost Invoke w id op = refl
no_cost Fail w id op = refl
no_cost Info w id op = refl

pub cost_then : (old mid new : FrontierView) → new.applied ≡ mid.applied → (m : Mark) → Costs old mid m → Costs old new m
cost_then old mid new e (Returned id answer) h = subst (StepsOfOk old.budget old.stands old.applied) (sym e) h
cost_then old mid new e (Invoked id op) h = e ∙ h
cost_then old mid new e (Failed id) h = e ∙ h
cost_then old mid new e (Crashed id) h = e ∙ h

-- the same of the mark in the words of all judges
pub prepared_as : {old new : FrontierView} {result : Result Step AllocError} (kind : EventKind) (id : ℕ) (op : Op)
    → Prepares old new (CountsMoreThan WideRegisterKind) (object_of WideRegisterKind) (mark_of id kind op) result
    → Prepares old new (CountsMoreThan WideRegisterKind) (object_of WideRegisterKind) (mark_by id kind op) result
prepared_as {old} {new} {result} kind id op p = subst (λ m. Prepares old new (CountsMoreThan WideRegisterKind) (object_of WideRegisterKind) m result) (same_mark kind id op) p
