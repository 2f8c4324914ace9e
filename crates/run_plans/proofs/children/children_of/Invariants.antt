-- The children so far are those of the keys so far.
use Rattle.std.proofs.Common.{◌≡◌}
use Rattle.std.specs.Prelude.{map}
use Rattle.generators.specs.Generators.{generator_of}
use Rattle.run_plans.specs.Plans.{on_keys}
use Rattle.run_plans.proofs.children.children_of.Given as goal

abbrev pub invariant-loop-key : goal.invariant-loop-key
invariant-loop-key l = map generator_of l.children.items ≡ on_keys l.kind l.key
