-- Promise: the map of a text that an event is written as, with its index
use Rattle.std.specs.Prelude.{◌≡◌, ℕ, pos, Some, List, [], ◌∷◌, ◌++◌, map, codes}
use Rattle.edn.specs.Value.{Value, int, keyword, nil, vector, members, pairs, none, more, no_pairs, pair}
use Rattle.edn.specs.View.{list_of, value_of}
use Rattle.edn.specs.declared.value.Edn.{Edn}
use Rattle.models.specs.declared.operation.Part.{Part}
use Rattle.models.specs.declared.operation.Part.TheVariants.{Nil, Int, Pair, Set}
use Rattle.models.specs.Names.{text_of}
use Rattle.events.specs.declared.event.EventKind.{EventKind}
use Rattle.events.specs.declared.event.Process.{Process}
use Rattle.events.specs.declared.event.Process.TheVariants.{Client, Nemesis}
use Rattle.events.specs.declared.event.Body.{Body}
use Rattle.events.specs.declared.event.Body.TheVariants.{Op as AnOp, Fault as AFault}
use Rattle.events.specs.declared.event.Fault.{Fault}
use Rattle.events.specs.declared.event.Fault.TheVariants.{Partition, Heal, Pause, Resume, Crash, Restart, LoseReplies}
use Rattle.events.specs.declared.fault_kind.FaultKind.{FaultKind}
use Rattle.events.specs.declared.event.Event.{Event}
use Rattle.events.specs.Spelling.{text_of_kind, text_of_fault, SpellsKeyed, fault_by}

abbrev pub number : ℕ → Value
number n = int (pos n)

abbrev pub numbers : List ℕ → Value
numbers ns = vector (list_of (map number ns))

abbrev pub process_value : Process → Value
process_value (Client p) = number p
process_value Nemesis = keyword (codes "nemesis")

-- a set is written ascending
abbrev pub part_value : Part → Value
part_value Nil = nil
part_value (Int a) = int a
part_value (Pair a b) = vector (more (int a) (more (int b) none))
part_value (Set xs) = members (list_of (map int xs))

abbrev pub kind_of_fault : Fault → FaultKind
kind_of_fault (Partition groups) = FaultKind.Partition
kind_of_fault Heal = FaultKind.Heal
kind_of_fault (Pause r) = FaultKind.Pause
kind_of_fault (Resume r) = FaultKind.Resume
kind_of_fault (Crash r) = FaultKind.Crash
kind_of_fault (Restart r) = FaultKind.Restart
kind_of_fault (LoseReplies n) = FaultKind.LoseReplies

abbrev pub fault_value : Fault → Value
fault_value (Partition groups) = vector (list_of (map numbers groups))
fault_value Heal = nil
fault_value (Pause r) = number r
fault_value (Resume r) = number r
fault_value (Crash r) = number r
fault_value (Restart r) = number r
fault_value (LoseReplies n) = number n

abbrev pub name_of_body : Body → List ℕ
name_of_body (AnOp op) = text_of op.name
name_of_body (AFault fault) = text_of_fault (kind_of_fault fault)

abbrev pub body_value : Body → Value
body_value (AnOp op) = vector (more (number op.key) (more (part_value op.part) none))
body_value (AFault fault) = fault_value fault

-- the keys :index, :type, :process, :f, :value, in this order
abbrev pub event_value : ℕ → EventKind → Value → List ℕ → Value → Value
event_value i kind process name value =
    pairs (pair (keyword (codes "index")) (number i) (pair (keyword (codes "type")) (keyword (text_of_kind kind))
    (pair (keyword (codes "process")) process (pair (keyword (codes "f")) (keyword name) (pair (keyword (codes "value")) value no_pairs)))))

abbrev pub map_of : ℕ → Event → Value
map_of i e = event_value i e.kind (process_value e.process) (name_of_body e.body) (body_value e.body)

-- the event, which states this index
abbrev pub with_index : ℕ → Event → Event
with_index i e = record e { index = Some i }

-- the value says whom it befalls, if the name of the body is known
abbrev pub IsToldBy : Value → Body → Type 0
IsToldBy v (AnOp op) = SpellsKeyed v op.key op.part
IsToldBy v (AFault fault) = fault_by (kind_of_fault fault) v ≡ Some fault

-- the pairs, and behind them one more, of a keyword and a value
abbrev pub IsPairBehind : List (Edn × Edn) → List ℕ → Value → List (Edn × Edn) → Type 0
IsPairBehind old name v new = (key : Edn) × (value : Edn) × (new ≡ old ++ (key, value) ∷ []) × (value_of key ≡ keyword name) × (value_of value ≡ v)
