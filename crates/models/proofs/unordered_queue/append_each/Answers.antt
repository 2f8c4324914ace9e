use Rattle.std.proofs.Common.{◌∙◌, take}
use Rattle.values.specs.Multisets.{values_of}
use Rattle.models.specs.Objects.{taken_from}
use Rattle.models.proofs.unordered_queue.append_each.Goals as goal

pub returns-in_err-append_at-clause-front : goal.returns-in_err-append_at-clause-front
returns-in_err-append_at-clause-front c =
    (taken_from c.args.state.now (values_of (take c.values.at c.args.state.now)), c.in_err-append_at.ensures.kept ∙ c.values.invariant.so_far)
