use Rattle.std.proofs.Common.{◌≡◌, ℕ, ◌<◌, ◌+◌, ◌∷◌, ◌++◌, [], length, take, refl, sym, ap, ◌∙◌, subst, ⊎_elim, arith}
use Rattle.std.specs.List.{Contains}
use Rattle.std.proofs.lemmas.Bool.{true≢false}
use Rattle.std.proofs.lemmas.List.{take_all, take_more}
use Rattle.std.proofs.lemmas.List.Elements.{Contains-get_or, Contains-push_cases}
use Rattle.linspec.specs.Operations.{HasReturned}
use Rattle.linspec.specs.KeptMarks.{marks_of_kept}
use Rattle.linspec.specs.Finishing.{CanFinish}
use Rattle.linspec.specs.Attempts.{AttemptView, Steps}
use Rattle.linspec.proofs.Lists.{Contains-nil}
use Rattle.linspec.proofs.Trying.{left, fewer_left, finish_first, no_finish}
use Rattle.linspec.proofs.brute_force.+can_finish.Goals as goal

pub returns-then-all_done : goal.returns-then-all_done
returns-then-all_done t c =
    let same : c.deref.result.now ≡ c.args.order.now.taken = c.deref.ensures.value ∙ ap (λ (f : AttemptView). f.taken) c.order.view_is in (
      (λ h. ([], subst (λ taken. (id : ℕ) → HasReturned (marks_of_kept c.args.marks.now) id → Contains taken id) same (c.if-all_done.ensures.0 refl))),
      (λ h. refl),
    )

pub loop-next-init : goal.loop-next-init
loop-next-init t c n h = absurd (Contains-nil n h)

pub can_finish-requires : goal.can_finish-requires
can_finish-requires t c =
    let l : c.loop-next.next-index < length c.deref-next-items.result.now = omega arith in
    let there : Contains c.deref-next-items.result.now c.next-item.result = subst (Contains c.deref-next-items.result.now) (sym c.next-item.is) (Contains-get_or c.deref-next-items.result.now c.loop-next.next-index c.next-item.result l) in
    let f = (c.in_ok-attempts.ensures c.next-item.result).0 (subst (λ xs. Contains xs c.next-item.result) c.deref-next-items.ensures.value there) in
    let fewer : left (marks_of_kept c.args.marks.now) c.next-item.result.taken < left (marks_of_kept c.args.marks.now) c.args.order.now.taken =
    fewer_left (marks_of_kept c.args.marks.now) c.args.order.now c.next-item.result f.0 f.1 f.2 in
    (omega (arith, fewer, c.decreases), tt)

pub returns-then-branch : goal.returns-then-branch
returns-then-branch t c =
    let l : c.loop-next.next-index < length c.deref-next-items.result.now = omega arith in
    let there : Contains c.deref-next-items.result.now c.next-item.result = subst (Contains c.deref-next-items.result.now) (sym c.next-item.is) (Contains-get_or c.deref-next-items.result.now c.loop-next.next-index c.next-item.result l) in
    let f = (c.in_ok-attempts.ensures c.next-item.result).0 (subst (λ xs. Contains xs c.next-item.result) c.deref-next-items.ensures.value there) in (
      (λ h. finish_first (marks_of_kept c.args.marks.now) c.args.order.now c.next-item.result f.0 f.1 f.2 (c.in_ok-can_finish.ensures.0 c.if-branch.true)),
      (λ h. refl),
    )

pub loop-next-preserved : goal.loop-next-preserved
loop-next-preserved t c n h =
    let l : c.loop-next.next-index < length c.deref-next-items.result.now = omega arith in
    let more : take (c.loop-next.next-index + 1) c.deref-next-items.result.now ≡ take c.loop-next.next-index c.deref-next-items.result.now ++ c.next-item.result ∷ [] =
    take_more c.deref-next-items.result.now c.loop-next.next-index c.next-item.result l ∙ ap (λ x. take c.loop-next.next-index c.deref-next-items.result.now ++ x ∷ []) (sym c.next-item.is) in
    ⊎_elim
    (λ k. c.loop-next.invariant n k)
    (λ e. subst (λ (m : AttemptView). ¬ CanFinish Steps (marks_of_kept c.args.marks.now) m.taken m.states) e (λ f. true≢false (sym (c.in_ok-can_finish.ensures.1 f) ∙ c.if-branch.false)))
    (Contains-push_cases (take c.loop-next.next-index c.deref-next-items.result.now) c.next-item.result n (subst (λ xs. Contains xs n) more h))

pub returns : goal.returns
returns t c =
    let same : c.args.order.now.taken ≡ c.deref.result.now = sym (ap (λ (f : AttemptView). f.taken) c.order.view_is) ∙ sym c.deref.ensures.value in
    let none : (n : AttemptView) → Contains c.deref-next-items.result.now n → ¬ CanFinish Steps (marks_of_kept c.args.marks.now) n.taken n.states =
    subst (λ xs. (n : AttemptView) → Contains xs n → ¬ CanFinish Steps (marks_of_kept c.args.marks.now) n.taken n.states) (take_all c.loop-next.next-index c.deref-next-items.result.now (omega arith)) c.loop-next.invariant in (
      (λ h. absurd (true≢false (sym h))),
      (λ f. absurd (no_finish (marks_of_kept c.args.marks.now) c.args.order.now
          (λ all. true≢false (sym (c.all_done.ensures.1 (subst (λ taken. (id : ℕ) → HasReturned (marks_of_kept c.args.marks.now) id → Contains taken id) same all)) ∙ c.if-all_done.false))
          (λ m there after follows. none after (subst (λ xs. Contains xs after) (sym c.deref-next-items.ensures.value) ((c.in_ok-attempts.ensures after).1 (m, there, follows))))
          f)),
    )
