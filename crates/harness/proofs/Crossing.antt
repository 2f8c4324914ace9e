-- A core can be sent to another thread, and threads may share one.
use denote.Param.Send.{IsSend, IsSync, sendable}
use Rattle.std.proofs.Crossing.{crosses}
use Rattle.generators.proofs.form.Gen.TheLaws.TheKnot as gen
use Rattle.generators.proofs.words.Words.TheSendSync as words
use Rattle.generators.proofs.path.Path.TheSendSync as path
use Rattle.values.proofs.members.Members.TheSendSync as members
use Rattle.monitor.proofs.Crossing.{monitor_send, monitor_sync}
use Rattle.nemesis.proofs.schedule.Schedule.TheSendSync as schedule
use Rattle.test_store.proofs.Crossing.{store_send, store_sync}
use Rattle.test_store.proofs.outcome.Outcome.TheSendSync as outcome
use Rattle.machine.proofs.ticket.Ticket.TheSendSync as ticket
use Rattle.generators.specs.contracts.source.Source as source
use Rattle.harness.specs.contracts.core_object.Core as core

pub source_send : IsSend source.the_row
source_send = search (sendable, crosses, gen.crosses, members.the_send, words.the_send, path.the_send) depth 60

pub source_sync : IsSync source.the_row
source_sync = search (sendable, crosses, gen.crosses, members.the_sync, words.the_sync, path.the_sync) depth 60

pub core_send : IsSend core.the_row
core_send = search (source_send, monitor_send, schedule.the_send, store_send, outcome.the_send, ticket.the_send, sendable, crosses) depth 60 fits 20000

pub core_sync : IsSync core.the_row
core_sync = search (source_sync, monitor_sync, schedule.the_sync, store_sync, outcome.the_sync, ticket.the_sync, sendable, crosses) depth 60 fits 20000
