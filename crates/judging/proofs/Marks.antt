-- the mark of an event of an operation with this id, in the words of events
use Rattle.std.proofs.Common.{◌≡◌, ℕ, refl}
use Rattle.models.specs.declared.operation.Op.{Op}
use Rattle.events.specs.declared.event.EventKind.{EventKind}
use Rattle.events.specs.declared.event.EventKind.TheVariants.{Invoke, Ok, Fail, Info}
use Rattle.events.specs.Events.{act_by, mark_by_act}
use Rattle.judging.specs.Meaning.{mark_by}

pub same_mark : (kind : EventKind) (id : ℕ) (op : Op) → mark_by_act id id (act_by kind op) ≡ mark_by id kind op
same_mark Invoke id op = refl
same_mark Ok id op = refl
same_mark Fail id op = refl
same_mark Info id op = refl
