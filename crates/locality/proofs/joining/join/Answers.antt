use Rattle.std.proofs.Common.{ℕ, List, sym, subst}
use Rattle.std.proofs.lemmas.List.{take_more, take_all}
use Rattle.linspec.specs.declared.verdict.KeyStatus.{KeyStatus}
use Rattle.linspec.specs.declared.verdict.KeyStatus.TheVariants.{Alive}
use Rattle.linspec.specs.Verdicts.{IsJoin}
use Rattle.locality.proofs.joining.join.Goals as goal

pub loop-key-preserved : goal.loop-key-preserved
loop-key-preserved c =
    subst (λ (l : List (ℕ × KeyStatus)). IsJoin l c.join_with-verdict.result) (sym (take_more c.args.statuses.now c.loop-key.key-index (0, Alive) c.loop-key-test.true)) (c.join_with-verdict.ensures _ c.loop-key.invariant)

pub returns : goal.returns
returns c = subst (λ (l : List (ℕ × KeyStatus)). IsJoin l c.loop-key.verdict) (take_all c.loop-key.key-index c.args.statuses.now c.loop-key-test.false) c.loop-key.invariant
