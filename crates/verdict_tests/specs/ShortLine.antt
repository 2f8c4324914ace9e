-- Promise: events of process 0 at key 7, and a fault
use Rattle.std.specs.Prelude.{None}
use Rattle.models.specs.declared.operation.Name.{Name}
use Rattle.models.specs.declared.operation.Part.{Part}
use Rattle.events.specs.declared.event.EventKind.{EventKind}
use Rattle.events.specs.declared.event.EventKind.TheVariants.{Info}
use Rattle.events.specs.declared.event.Process.TheVariants.{Client, Nemesis}
use Rattle.events.specs.declared.event.Body.TheVariants.{Op, Fault}
use Rattle.events.specs.declared.event.Fault.TheVariants.{Heal}
use Rattle.events.specs.declared.event.Event.{Event}

abbrev pub event_by : EventKind → Name → Part → Event
event_by kind name part = record {
  index = None;
  kind = kind;
  process = Client 0;
  body = Op (record { name = name; key = 7; part = part });
}

abbrev pub heal : Event
heal = record { index = None; kind = Info; process = Nemesis; body = Fault Heal }
