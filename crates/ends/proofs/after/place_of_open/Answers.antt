use Rattle.std.proofs.Common.{◌≡◌, Some, length, slice_get, ⊎_elim, refl, sym, ap, ◌∙◌, arith}
use Rattle.std.proofs.lemmas.Bool.{cases_eq, true≢false}
use Rattle.std.proofs.lemmas.Option.{slice_get_read, slice_get_within}
use Rattle.moves.specs.declared.pending_op.PendingOp.{PendingOp}
use Rattle.interner.proofs.Lists.{one_of}
use Rattle.ends.proofs.after.place_of_open.Goals as goal

pub returns-then-is_open-clause-there : goal.returns-then-is_open-clause-there
returns-then-is_open-clause-there c =
    let is = c.is_open.ensures.0 c.if-is_open.true in
    record {
      call = c.index-calls-at.result;
      there = slice_get_read c.args.calls.now (length c.args.calls.now) c.loop-at.at c.index-calls-at.result refl (omega arith) c.index-calls-at.is;
      same = is.0;
      not_crashed = is.1;
    }

pub loop-at-preserved : goal.loop-at-preserved
loop-at-preserved c i lt h =
    ⊎_elim
    (λ last.
    let there : slice_get c.args.calls.now c.loop-at.at ≡ Some c.index-calls-at.result = slice_get_read c.args.calls.now (length c.args.calls.now) c.loop-at.at c.index-calls-at.result refl (omega arith) c.index-calls-at.is in
    let same : h.call ≡ c.index-calls-at.result = one_of h.call c.index-calls-at.result (sym h.there ∙ ap (slice_get c.args.calls.now) last ∙ there) in
    true≢false (sym (c.is_open.ensures.1 (ap (λ (x : PendingOp). x.id) (sym same) ∙ h.same, ap (λ (x : PendingOp). x.crashed) (sym same) ∙ h.not_crashed)) ∙ c.if-is_open.false))
    (λ other. c.loop-at.invariant i (omega (arith, lt, other)) h)
    (cases_eq i c.loop-at.at)

pub returns-clause-none : goal.returns-clause-none
returns-clause-none c none at h = c.loop-at.invariant at (let lt = slice_get_within c.args.calls.now at h.call h.there in omega (arith, lt)) h
