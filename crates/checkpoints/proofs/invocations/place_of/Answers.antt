use Rattle.std.proofs.Common.{◌≡◌, ℕ, suc, ◌+◌, None, Some, take, get_or, ap, ◌∙◌, subst, arith}
use Rattle.std.proofs.lemmas.Option.{slice_get-get_or}
use Rattle.checkpoints.specs.Noted.{noted_of}
use Rattle.checkpoints.proofs.Noted.{passed_over}
use Rattle.checkpoints.proofs.invocations.place_of.Goals as goal

pub returns-then-pair-process-clause-there : goal.returns-then-pair-process-clause-there
returns-then-pair-process-clause-there c =
    let pair : ℕ × ℕ = get_or c.args.noted.now c.loop-at.at (0, 0) in
    record {
      index = pair.1;
      is = slice_get-get_or c.args.noted.now c.loop-at.at (0, 0) c.loop-at-test.true ∙ ap (λ p. Some (p, pair.1)) c.if-pair-process.true;
      first = c.loop-at.invariant;
    }

pub loop-at-preserved : goal.loop-at-preserved
loop-at-preserved c =
    let pair : ℕ × ℕ = get_or c.args.noted.now c.loop-at.at (0, 0) in
    let more : suc c.loop-at.at ≡ c.loop-at.at + 1 = omega arith in
    subst (λ k. noted_of (take k c.args.noted.now) c.args.process ≡ None) more
    (passed_over c.args.noted.now c.loop-at.at c.args.process c.loop-at.invariant pair (slice_get-get_or c.args.noted.now c.loop-at.at (0, 0) c.loop-at-test.true) c.if-pair-process.false)
