-- each value's part of a linearizable history of a queue without an order is linearizable
use Rattle.std.proofs.Common.{◌≡◌, ◌≢◌, ℕ, suc, ◌≤◌, ℤ, ◌⊎◌, inl, inr, ⊎_elim, Bool, true, false, not, Option, Some, List, [], ◌∷◌, refl, sym, ap, ◌∙◌, subst, arith}
use Rattle.std.specs.List.{Contains}
use Rattle.std.proofs.lemmas.List.Elements.{Contains-append_right}
use Rattle.models.specs.declared.operation.Name.TheVariants.{Enqueue, Dequeue}
use Rattle.models.specs.declared.operation.Part.TheVariants.{Int}
use Rattle.models.specs.declared.finding.Found.TheVariants.{Item}
use Rattle.models.specs.declared.finding.Answer.TheVariants.{Number}
use Rattle.values.specs.Multisets.{with_one, without_one}
use Rattle.models.specs.Objects.{Fits, unordered_queue}
use Rattle.models.specs.Runs.{times_in}
use Rattle.values.proofs.Bags.{same_int, other_int}
use Rattle.events.specs.Events.{Mark}
use Rattle.events.specs.Events.Mark.{Returned}
use Rattle.linspec.specs.Orders.{Taken, Run, IsLegalOrder, IsLinearizable}
use Rattle.linspec.proofs.Lists.{Contains-head}
use Rattle.shrinking_laws.specs.Bags.{AreValues, is_other, bag}
use Rattle.shrinking_laws.proofs.Matching.{Matches, simulated}
use Rattle.shrinking_laws.proofs.LeftOut.{MayGo, Stays, IsLinearizable-rest}
use Rattle.shrinking_laws.proofs.Multisets.{one_more, more_of_another, one_less, no_more_than_before, in_if_counted, equal_or_not, IsEnqueue, IsDequeue, unordered_view, by_enqueue, by_dequeue}

pub is_this : (v : ℤ) (o : Option ℤ) → o ≡ Some v → is_other v o ≡ false
is_this v o e = ap (is_other v) e ∙ ap not (same_int v v refl)

pub is_another : (v w : ℤ) (o : Option ℤ) → o ≡ Some w → w ≢ v → is_other v o ≡ true
is_another v w o e ne = ap (is_other v) e ∙ ap not (other_int w v ne)

module _ (value : ℕ → Option ℤ) (ms : List Mark) (are : AreValues value ms) (v : ℤ) where
  abbrev out : ℕ → Bool
  out id = is_other v (value id)

  module _ (order : List Taken) (end : List ℤ) (l : IsLegalOrder unordered_queue ms order end) where
    module _ (x : Taken) (there : Contains order x) (s t w : List ℤ) (less : times_in v s ≤ times_in v w) (step : unordered_queue.Steps s x.op x.found t) where
      abbrev Next : Type 0
      Next = (MayGo out ms x × (times_in v t ≤ times_in v w)) ⊎ ((y : Taken) × (u : List ℤ) × Stays out ms x y × unordered_queue.Steps w y.op y.found u × (times_in v t ≤ times_in v u))

      kept : out x.id ≡ false → Stays out ms x x
      kept e = record { stays = e; id = refl; op = refl; fits = λ answer d. l.fits x answer there d }

      of_step : IsEnqueue x.op.name x.op.part s x.found t ⊎ IsDequeue x.op.name x.op.part s x.found t
      of_step = unordered_view x.op.name x.op.part s t x.found step

      -- the queue after a dequeue has no more
      goes_dequeue : out x.id ≡ true → IsDequeue x.op.name x.op.part s x.found t → Next
      goes_dequeue e k =
          let fewer : times_in v (without_one k.0 s) ≤ times_in v s = no_more_than_before v k.0 s k.3 in
          let same : times_in v t ≡ times_in v (without_one k.0 s) = ap (times_in v) k.4 in
          inl (inl e, omega arith)

      enqueue : (a : ℤ) → x.op.name ≡ Enqueue → x.op.part ≡ Int a → value x.id ≡ Some a → Next
      enqueue a name part is = ⊎_elim
          (λ k.
          let same : k.0 ≡ a = (let q : Int k.0 ≡ Int a = sym k.2 ∙ part in cc) in
          ⊎_elim
          (λ (e : a ≡ v).
          let t_is : times_in v t ≡ suc (times_in v s) = ap (times_in v) (k.3 ∙ ap (λ z. with_one z s) (same ∙ e)) ∙ one_more v s in
          let u_is : times_in v (with_one k.0 w) ≡ suc (times_in v w) = ap (λ z. times_in v (with_one z w)) (same ∙ e) ∙ one_more v w in
          inr (x, with_one k.0 w, kept (is_this v (value x.id) (is ∙ ap Some e)), by_enqueue x.op.name x.op.part w (with_one k.0 w) x.found (k.0, k.1, k.2, refl, k.4), omega arith))
          (λ ne.
          let t_is : times_in v t ≡ times_in v s = ap (times_in v) (k.3 ∙ ap (λ z. with_one z s) same) ∙ more_of_another v a s ne in
          inl (inl (is_another v a (value x.id) is ne), omega arith))
          (equal_or_not a v))
          (λ k. (let clash : Enqueue ≡ Dequeue = sym name ∙ k.1 in absurd (let none : ⊥ = cc in none)))
          of_step

      dequeue : (a : ℤ) → x.op.name ≡ Dequeue → Contains ms (Returned x.id (Number a)) → value x.id ≡ Some a → Next
      dequeue a name answered is = ⊎_elim
          (λ k. (let clash : Dequeue ≡ Enqueue = sym name ∙ k.1 in absurd (let none : ⊥ = cc in none)))
          (λ k.
          let same : k.0 ≡ a = subst (λ f. Fits f (Number a)) k.5 (l.fits x (Number a) there answered) in
          ⊎_elim
          (λ (e : a ≡ v).
          let is_v : k.0 ≡ v = same ∙ e in
          let in_s : Contains s v = subst (Contains s) is_v k.3 in
          let before : times_in v s ≡ suc (times_in v (without_one v s)) = one_less v s in_s in
          let in_w : Contains w v = in_if_counted v w (omega arith) in
          let after : times_in v w ≡ suc (times_in v (without_one v w)) = one_less v w in_w in
          let t_is : times_in v t ≡ times_in v (without_one v s) = ap (times_in v) (k.4 ∙ ap (λ z. without_one z s) is_v) in
          inr (
            x,
            without_one v w,
            kept (is_this v (value x.id) (is ∙ ap Some e)),
            by_dequeue x.op.name x.op.part w (without_one v w) x.found (v, k.1, k.2, in_w, refl, k.5 ∙ ap Item is_v),
            omega arith,
          ))
          (λ ne. goes_dequeue (is_another v a (value x.id) is ne) k)
          (equal_or_not a v))
          of_step

      next : Next
      next = ⊎_elim
          (λ k. enqueue k.0 k.1 k.2 k.3)
          (λ j. ⊎_elim
          (λ k. dequeue k.0 k.1 k.3 k.4)
          (λ k. ⊎_elim (λ e. absurd (k.0 e.1)) (goes_dequeue (ap (is_other v) k.2)) of_step)
          j)
          (are x.id x.op (l.invoked x there))

    bag_runs : (other : List Taken) × (u : List ℤ) × Matches (MayGo out ms) (Stays out ms) order other × Run unordered_queue [] other u
    bag_runs = simulated unordered_queue unordered_queue (MayGo out ms) (Stays out ms) (λ before s w. times_in v s ≤ times_in v w) order
        (λ before after x s t w whole less step. next x (subst (λ k. Contains k x) whole (Contains-append_right before (x ∷ after) x (Contains-head x after))) s t w less step)
        [] order [] end [] refl (omega arith) l.run

  pub IsLinearizable-bag : IsLinearizable unordered_queue ms → IsLinearizable unordered_queue (bag value v ms)
  IsLinearizable-bag h = IsLinearizable-rest out unordered_queue ms (λ order s l. bag_runs order s l) h
