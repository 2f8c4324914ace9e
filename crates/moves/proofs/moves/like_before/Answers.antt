use Rattle.std.proofs.Common.{◌≡◌, ◌+◌, ◌<◌, ℕ, List, zero, suc, subst, arith}
use Rattle.moves.specs.declared.pending_op.PendingOp.{PendingOp}
use Rattle.moves.specs.Moves.{IsAlike}
use Rattle.moves.proofs.moves.like_before.Goals as goal

more : (calls : List PendingOp) (at place run : ℕ) → IsAlike calls at place → ((i : ℕ) → i < run → IsAlike calls (at + 1 + i) place) → (i : ℕ) → i < run + 1 → IsAlike calls (at + i) place
more calls at place run first rest zero lt = subst (λ k. IsAlike calls k place) (let same : at ≡ at + 0 = omega arith in same) first
more calls at place run first rest (suc i) lt = subst (λ k. IsAlike calls k place) (let same : at + 1 + i ≡ at + suc i = omega arith in same) (rest i (omega (arith, lt)))

pub returns-then-does_as : goal.returns-then-does_as
returns-then-does_as c next i lt =
    let calls = c.args.calls.now in
    let most = c.saturating_add.ensures in
    more calls c.args.at c.args.next.representative c.args.next.run (c.does_as.ensures c.if-does_as.true)
    next i (omega (arith, lt, most))
