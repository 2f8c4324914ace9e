use Rattle.checkpoints.proofs.ghost_events.GhostEvents.first.Given as goal

abbrev pub ghost-picked_events : goal.ghost-picked_events
ghost-picked_events g a = g.picked
