use Rattle.std.proofs.Common.{◌≡◌, map, take}
use Rattle.moves.specs.KeptEnds.{end_kept}
use Rattle.moves.specs.EndSteps.{after_crash}
use Rattle.ends.proofs.after.crashed_ends.Given as goal

abbrev pub invariant-loop-kept : goal.invariant-loop-kept
invariant-loop-kept g l = map end_kept l.after.items ≡ map (λ e. after_crash l.counts e l.id) (take l.kept-index (map end_kept l.ends))
