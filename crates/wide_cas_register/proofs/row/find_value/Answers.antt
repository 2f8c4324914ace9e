use Rattle.std.proofs.Common.{◌≡◌, ◌↔◌, ◌⊎◌, ◌∙◌, ℤ, sym, subst, to_z, of_z, w64}
use Rattle.std.specs.List.{Contains}
use Rattle.std.proofs.lemmas.Bool.{true≢false}
use Rattle.std.proofs.lemmas.Int.{to_z-of_z}
use Rattle.wide_cas_register.specs.declared.row.Found.{Found}
use Rattle.wide_cas_register.specs.Facts.{IsFoundBy}
use Rattle.wide_cas_register.proofs.Finding.{all_so_far, found_noted, found_passed}
use Rattle.wide_cas_register.proofs.row.find_value.Goals as goal
use Rattle.wide_cas_register.proofs.row.find_value.Goals.{then-may_find+in_ok-note, else-may_find}

pub loop-call-preserved : goal.loop-call-preserved
loop-call-preserved c = elim c.if-may_find.branch [
  | then-may_find+in_ok-note w ↦ rw w.finds-is (found_noted c.args.calls.now c.args.gap _ c.args.finds.now.items c.loop-call.call-index _ c.loop-call-test.true c.loop-call.finds.items c.loop-call.invariant _ (c.may_find.ensures.0 w.if-may_find.true) w.in_ok-note.ensures)
  | else-may_find w ↦ rw w.finds-is (found_passed c.args.calls.now c.args.gap _ c.args.finds.now.items c.loop-call.call-index _ c.loop-call-test.true c.loop-call.finds.items c.loop-call.invariant (λ m. true≢false (sym (c.may_find.ensures.1 m) ∙ w.if-may_find.false)))
]

pub returns : goal.returns
returns c =
    let passed : ℤ = to_z w64 (of_z w64 c.args.value) in
    let same : passed ≡ c.args.value = to_z-of_z w64 c.args.value c.ranges.value in
    subst (λ v. (f : Found) → Contains c.loop-call.finds.items f ↔ (Contains c.args.finds.now.items f ⊎ IsFoundBy c.args.calls.now c.args.gap v f)) same
    (all_so_far c.args.calls.now c.args.gap passed c.args.finds.now.items c.loop-call.finds.items c.loop-call.call-index c.loop-call-test.false c.loop-call.invariant)
