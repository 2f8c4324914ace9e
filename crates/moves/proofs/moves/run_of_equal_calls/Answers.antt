use Rattle.std.proofs.Common.{◌≡◌, ◌+◌, ◌-◌, ◌<◌, ℕ, List, Some, length, slice_get, get_or, refl, sym, ap, ◌∙◌, subst, arith}
use Rattle.std.proofs.lemmas.Option.{slice_get-get_or}
use Rattle.moves.specs.declared.pending_op.PendingOp.{PendingOp}
use Rattle.moves.proofs.moves.run_of_equal_calls.Goals as goal

pub returns-in-Some-clause-all : goal.returns-in-Some-clause-all
returns-in-Some-clause-all g c alike i lt call here =
    let calls = c.args.calls.now in
    let there : slice_get c.args.moves.now.likes.items (length calls - 1 - c.args.at) ≡ Some c.in-Some.like.now = slice_get-get_or c.args.moves.now.likes.items (length calls - 1 - c.args.at) c.in-Some.like.now (subst (λ l. length calls - 1 - c.args.at < length l) c.deref.ensures.value c.in-Some.ensures.lookup.3.0) ∙ ap Some (sym (c.in-Some.ensures.lookup.1 ∙ ap (λ l. get_or l (length calls - 1 - c.args.at) c.in-Some.like.now) c.deref.ensures.value)) in
    alike (length calls - 1 - c.args.at) c.in-Some.like.now there i lt call (subst (λ k. slice_get calls (k + i) ≡ Some call) (let same : c.args.at ≡ length calls - 1 - (length calls - 1 - c.args.at) = omega arith in same) here)

pub returns-in-Some-clause-some : goal.returns-in-Some-clause-some
returns-in-Some-clause-some g c alike call here =
    let calls = c.args.calls.now in
    let there : slice_get c.args.moves.now.likes.items (length calls - 1 - c.args.at) ≡ Some c.in-Some.like.now = slice_get-get_or c.args.moves.now.likes.items (length calls - 1 - c.args.at) c.in-Some.like.now (subst (λ l. length calls - 1 - c.args.at < length l) c.deref.ensures.value c.in-Some.ensures.lookup.3.0) ∙ ap Some (sym (c.in-Some.ensures.lookup.1 ∙ ap (λ l. get_or l (length calls - 1 - c.args.at) c.in-Some.like.now) c.deref.ensures.value)) in
    alike (length calls - 1 - c.args.at) c.in-Some.like.now there 0 (omega arith) call (subst (λ k. slice_get calls k ≡ Some call) (let same : c.args.at ≡ length calls - 1 - (length calls - 1 - c.args.at) + 0 = omega arith in same) here)

itself : (calls : List PendingOp) (at i : ℕ) → i < 1 → (call : PendingOp) → slice_get calls (at + i) ≡ Some call → (d : PendingOp) × (slice_get calls at ≡ Some d) × (d.op ≡ call.op) × (d.crashed ≡ call.crashed)
itself calls at i lt call here = (call, subst (λ k. slice_get calls k ≡ Some call) (let same : at + i ≡ at = omega (arith, lt) in same) here, refl, refl)

pub returns-in_default-clause-all : goal.returns-in_default-clause-all
returns-in_default-clause-all g c alike i lt call here = itself c.args.calls.now c.args.at i lt call here

pub returns-in_default-2-clause-all : goal.returns-in_default-2-clause-all
returns-in_default-2-clause-all g c alike i lt call here = itself c.args.calls.now c.args.at i lt call here

pub returns-in_default-3-clause-all : goal.returns-in_default-3-clause-all
returns-in_default-3-clause-all g c alike i lt call here = itself c.args.calls.now c.args.at i lt call here
