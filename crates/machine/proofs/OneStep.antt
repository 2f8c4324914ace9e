-- A command has one outcome, and leads to one machine
use Rattle.std.proofs.Common.{◌≡◌, Result, Ok, Err, sym, ap, ◌∙◌}
use Rattle.edn.specs.declared.refusal.Refusal.{Refusal}
use Rattle.machine.specs.declared.command.Command.{Command}
use Rattle.machine.specs.declared.command.Reply.{Reply}
use Rattle.machine.specs.Machine.{Machine, MayStep}
use Rattle.machine.proofs.OneRefusal.{one_refusal, answered_stands}
use Rattle.machine.proofs.OneReply.{one_reply}

pub step_one : (old new next : Machine) (command : Command) (outcome other : Result Reply Refusal) → MayStep old command outcome new → MayStep old command other next → (outcome ≡ other) × (new ≡ next)
step_one old new next command (Ok a) (Ok b) x y =
    (let one = one_reply old new next command a b x y in (ap (λ (r : Reply). let outcome : Result Reply Refusal = Ok r in outcome) one.0, one.1))
step_one old new next command (Ok a) (Err why) x y = absurd (answered_stands old new command a why x y.0)
step_one old new next command (Err why) (Ok b) x y = absurd (answered_stands old next command b why y x.0)
step_one old new next command (Err why) (Err other) x y =
    (ap (λ (w : Refusal). let outcome : Result Reply Refusal = Err w in outcome) (one_refusal old command why other x.0 y.0), x.1 ∙ sym y.1)
