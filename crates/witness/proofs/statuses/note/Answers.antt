-- the fate of the operation that an event speaks of
use Rattle.std.proofs.Common.{◌<◌, length, sym, subst}
use Rattle.witness.specs.Statuses.{last_in}
use Rattle.witness.proofs.StatusesFound.{IsNotedBy, noted_by, target_within, statuses_noted}
use Rattle.witness.proofs.statuses.note.Goals as goal
use Rattle.witness.proofs.statuses.note.Goals.{After-last_of-id}

found : (c : After-last_of-id) → IsNotedBy c.args.event.now c.args.at (last_in c.args.last.now) c.last_of-id.result
found c = noted_by c.args.event.now c.in-Some.process c.args.at c.last_of-id.result (last_in c.note_last.new.last c.in-Some.process) (last_in c.args.last.now)
    c.in-Some.ensures c.last_of-id.ensures (λ op. c.in_ok-note_last.ensures c.in-Some.process op)

fits : (c : After-last_of-id) → c.last_of-id.result < length c.args.statuses.now.items
fits c = target_within c.args.event.now c.args.at c.last_of-id.result (length c.args.statuses.now.items) (last_in c.args.last.now) (found c) c.requires.here c.requires.lasts

pub index_mut-requires : goal.index_mut-requires
index_mut-requires c = subst (λ n. c.last_of-id.result < n) (sym c.args.statuses.now.ok.0) (fits (goal.at.index_mut-requires c).After-last_of-id)

pub returns-clause-statuses : goal.returns-clause-statuses
returns-clause-statuses c = statuses_noted c.args.event.now c.args.at c.last_of-id.result (last_in c.args.last.now) c.args.statuses.now.items c.made_by.result
    (found (goal.at.returns-clause-statuses c).After-last_of-id) (fits (goal.at.returns-clause-statuses c).After-last_of-id) c.made_by.ensures
