use Rattle.std.proofs.Common.{sym}
use Rattle.std.proofs.lemmas.Result.{on_ok_weaker}
use Rattle.monitor.proofs.PiecesOf.{unchanged, extended, begun, extends, begins}
use Rattle.monitor.proofs.pieces.Pieces.add.Goals as goal

pub returns-in_default : goal.returns-in_default
returns-in_default c =
    unchanged c.args.kind c.args.budget c.args.events.now c.args.index c.index-events-index.result c.args.self.now.map.entries
    c.requires.grouped c.requires.within c.index-events-index.is (sym c.in_default.ensures)

pub extend-requires : goal.extend-requires
extend-requires c =
    extends c.args.kind c.args.budget c.args.events.now c.args.index c.index-events-index.result c.args.self.now.map.entries
    c.requires.grouped c.requires.within c.index-events-index.is c.in-Some.key (sym c.in-Some.ensures)
    c.process_rule_law.ensures c.key_events_law.ensures.history c.requires.history.0 c.requires.history.1 c.in-Some-get_index_of.place c.in-Some-get_index_of.ensures.index

pub begin-requires-clause-first : goal.begin-requires-clause-first
begin-requires-clause-first c =
    begins c.args.kind c.args.budget c.args.events.now c.args.index c.index-events-index.result c.args.self.now.map.entries
    c.requires.grouped c.requires.within c.index-events-index.is c.in-Some.key (sym c.in-Some.ensures)
    c.process_rule_law.ensures c.key_events_law.ensures.history c.requires.history.0 c.requires.history.1 c.in-None.ensures.index

pub returns-in-Some-get_index_of : goal.returns-in-Some-get_index_of
returns-in-Some-get_index_of c =
    on_ok_weaker c.extend.result
    (extended c.args.kind c.args.budget c.args.events.now c.args.index c.index-events-index.result c.args.self.now.map.entries
    c.requires.grouped c.requires.within c.index-events-index.is c.in-Some.key (sym c.in-Some.ensures)
    c.in-Some-get_index_of.place c.extend.new.self.map.entries c.in-Some-get_index_of.ensures.index)
    c.extend.ensures

pub returns-in-None : goal.returns-in-None
returns-in-None c =
    on_ok_weaker c.begin.result
    (begun c.args.kind c.args.budget c.args.events.now c.args.index c.index-events-index.result c.args.self.now.map.entries
    c.requires.grouped c.requires.within c.index-events-index.is c.in-Some.key (sym c.in-Some.ensures)
    c.begin.new.self.map.entries c.in-None.ensures.index)
    c.begin.ensures
