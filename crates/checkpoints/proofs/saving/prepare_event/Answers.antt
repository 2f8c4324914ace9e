use Rattle.checkpoints.proofs.SavedStates.{always}
use Rattle.checkpoints.proofs.saving.prepare_event.Goals as goal

pub returns-clause-more : goal.returns-clause-more
returns-clause-more c kind budget before all stands are =
    always c.prepare.result (c.in_ok-save_if_due.ensures.more kind budget before (c.args.index, c.args.event.now) all stands are)
