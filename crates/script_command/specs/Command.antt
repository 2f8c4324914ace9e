-- Promise: the command of a line
use Rattle.std.specs.Prelude.{◌≡◌, ℕ, ◌^◌, nat_lt, if◌then◌else◌, pos, List, codes, Option, Some, None, Result, Ok, Err}
use Rattle.std.specs.Str.{bytes_eq}
use Rattle.edn_values.specs.Value.{Value, int, vector, keyword, Values, none, more}
use Rattle.edn.specs.Text.{IsText, IsLongestTextPrefix}
use Rattle.edn.specs.declared.refusal.Refusal.{Refusal}
use Rattle.edn.specs.declared.refusal.Refusal.TheVariants.{BadValue, BadBudget, NoSuchIndex, Unreadable}
use Rattle.kinds.specs.declared.model_kind.ModelKind.{ModelKind}
use Rattle.kinds.specs.declared.model_kind.ModelKind.TheVariants.{Register, CasRegister, Mutex, FifoQueue, Set, UnorderedQueue, WideRegister, WideCasRegister, WideSet, WideFifoQueue, WideUnorderedQueue}
use Rattle.kinds.specs.Kinds.{name_of}
use Rattle.events.specs.Spelling.{Spells, number_in}
use Rattle.events.specs.declared.event.Event.{Event}
use Rattle.machine.specs.declared.command.Command.TheVariants.{Append, Rewind, SetModel, SetBudget, Verdict}
use Rattle.script_command.specs.declared.command.LineCommand.{LineCommand}
use Rattle.script_command.specs.declared.command.LineCommand.TheVariants.{Hello, Step}

-- [:rewind n], where n is an integer. No history has an index below 0 or above 32 bits
abbrev pub rewind_to : Value → Result LineCommand Refusal
rewind_to (int (pos n)) = if nat_lt n (2 ^ 32) then Ok (Step (Rewind n)) else Err NoSuchIndex
rewind_to (int z) = Err NoSuchIndex
rewind_to _ = Err BadValue

-- a key is an integer from 0 to 65,535
abbrev pub key_in : Value → Option ℕ
key_in v = number_in (2 ^ 16) v

-- the kind that the value names
abbrev pub kind_named : List ℕ → Option ModelKind
kind_named name =
    if bytes_eq name (name_of Register) then Some Register
    else if bytes_eq name (name_of CasRegister) then Some CasRegister
    else if bytes_eq name (name_of Mutex) then Some Mutex
    else if bytes_eq name (name_of FifoQueue) then Some FifoQueue
    else if bytes_eq name (name_of Set) then Some Set
    else if bytes_eq name (name_of UnorderedQueue) then Some UnorderedQueue
    else if bytes_eq name (name_of WideRegister) then Some WideRegister
    else if bytes_eq name (name_of WideCasRegister) then Some WideCasRegister
    else if bytes_eq name (name_of WideSet) then Some WideSet
    else if bytes_eq name (name_of WideFifoQueue) then Some WideFifoQueue
    else if bytes_eq name (name_of WideUnorderedQueue) then Some WideUnorderedQueue
    else None

abbrev pub kind_in : Value → Option ModelKind
kind_in (keyword name) = kind_named name
kind_in _ = None

-- [:model k m], where k is a key, and m the name of a kind
abbrev pub model_of : Option ℕ → Option ModelKind → Result LineCommand Refusal
model_of (Some key) (Some kind) = Ok (Step (SetModel key kind))
model_of _ _ = Err BadValue

-- [:budget k n], where k is a key, and n an integer. No budget is below 0 or above 32 bits
abbrev pub budget_of : Option ℕ → Value → Result LineCommand Refusal
budget_of (Some key) (int (pos n)) = if nat_lt n (2 ^ 32) then Ok (Step (SetBudget key n)) else Err BadBudget
budget_of (Some key) (int z) = Err BadBudget
budget_of _ _ = Err BadValue

-- a command by its name, the first keyword of the vector, and its arguments; [:verdict] and [:hello] have none
abbrev pub command_named : List ℕ → Values → Result LineCommand Refusal
command_named name none =
    if bytes_eq name (codes "verdict") then Ok (Step Verdict)
    else if bytes_eq name (codes "hello") then Ok Hello
    else Err BadValue
command_named name (more n none) = if bytes_eq name (codes "rewind") then rewind_to n else Err BadValue
command_named name (more k (more v none)) =
    if bytes_eq name (codes "model") then model_of (key_in k) (kind_in v)
    else if bytes_eq name (codes "budget") then budget_of (key_in k) v
    else Err BadValue
command_named name _ = Err BadValue

abbrev pub vector_command : Values → Result LineCommand Refusal
vector_command (more (keyword name) arguments) = command_named name arguments
vector_command _ = Err BadValue

-- an element that spells an event is an append of this event
abbrev pub Appends : Value → Result LineCommand Refusal → Type 0
Appends v (Ok (Step (Append event))) = Spells v event
Appends v (Err BadValue) = (event : Event) → ¬ Spells v event
Appends v _ = ⊥

-- the command of one element: a vector is a command by its name; any other element is an event
abbrev pub ElementAsks : Value → Result LineCommand Refusal → Type 0
ElementAsks (vector vs) asked = asked ≡ vector_command vs
ElementAsks v asked = Appends v asked

-- the command of the elements of a line: none, or that of the one element. Two or more elements are refused
abbrev pub AskFor : Values → Result (Option LineCommand) Refusal → Type 0
AskFor none asked = asked ≡ Ok None
AskFor (more v none) (Ok (Some command)) = ElementAsks v (Ok command)
AskFor (more v none) (Ok None) = ⊥
AskFor (more v none) (Err why) = ElementAsks v (Err why)
AskFor (more v (more w vs)) asked = asked ≡ Err BadValue

-- the command of a line. A line that is not text is refused with the length of its longest prefix that is text
abbrev pub Asks : List ℕ → Result (Option LineCommand) Refusal → Type 0
Asks line (Err (Unreadable place)) = ((values : Values) → ¬ IsText line values) × IsLongestTextPrefix line place
Asks line asked = (values : Values) × IsText line values × AskFor values asked
