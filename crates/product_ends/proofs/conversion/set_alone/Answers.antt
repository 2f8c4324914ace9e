use Rattle.std.proofs.Common.{◌≡◌, ◌+◌, List, ℕ, length, sym, subst, arith}
use Rattle.product_ends.proofs.Alone.{AreAlone, alone_more, row_alone}
use Rattle.product_ends.proofs.conversion.set_alone.Goals as goal

pub loop-place-preserved : goal.loop-place-preserved
loop-place-preserved c =
    let row = c.args.row.now in
    subst (λ sets. AreAlone sets row (c.loop-place.place + 1)) (sym {A = List ℕ} c.in_ok-push.ensures.items)
    (alone_more c.loop-place.sets.items row c.loop-place.place c.in_ok-singleton.field-0 c.loop-place.invariant c.in_ok-singleton.ensures)

pub returns-clause-alone : goal.returns-clause-alone
returns-clause-alone c =
    let row = c.args.row.now in
    let all : c.loop-place.place ≡ length row = omega arith in
    row_alone c.loop-place.sets.items row c.requires (subst (AreAlone c.loop-place.sets.items row) all c.loop-place.invariant)
