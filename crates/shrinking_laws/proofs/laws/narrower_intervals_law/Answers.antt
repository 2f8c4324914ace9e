use Rattle.kinds.specs.Kinds.{object_of}
use Rattle.events.specs.Events.{marks}
use Rattle.linspec.specs.Orders.{product}
use Rattle.shrinking_laws.proofs.Intervals.{IsLinearizable-stricter, narrower_asks_for_more}
use Rattle.shrinking_laws.proofs.laws.narrower_intervals_law.Goals as goal

pub returns-clause-one : goal.returns-clause-one
returns-clause-one c kind wide narrow rises rises_too within = IsLinearizable-stricter (object_of kind) (marks wide) (marks narrow) (narrower_asks_for_more wide narrow rises rises_too within)

pub returns-clause-all : goal.returns-clause-all
returns-clause-all c kinds wide narrow rises rises_too within = IsLinearizable-stricter (product kinds) (marks wide) (marks narrow) (narrower_asks_for_more wide narrow rises rises_too within)
