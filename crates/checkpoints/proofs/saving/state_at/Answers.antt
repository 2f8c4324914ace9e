use Rattle.std.proofs.Common.{◌*◌, take, arith}
use Rattle.checkpoints.proofs.SavedStates.{saved_state}
use Rattle.checkpoints.proofs.saving.state_at.Goals as goal

pub returns : goal.returns
returns c events are = c.copy.ensures c.args.kind c.args.budget (take (64 * c.args.count) events)
    (saved_state c.args.kind c.args.budget events c.args.saved.now are c.args.count (omega arith) (omega arith) _ c.index-saved-count.is)
