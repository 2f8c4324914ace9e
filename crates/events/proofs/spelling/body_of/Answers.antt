use Rattle.std.proofs.Common.{refl}
use Rattle.edn.specs.View.{value_of}
use Rattle.events.proofs.OneEvent.{some_client, some_nemesis}
use Rattle.events.proofs.spelling.body_of.Goals as goal
use Rattle.events.proofs.spelling.body_of.Goals.{in-Info, in_default}

pub returns-in_err-operation_of-in-Client-clause-memory_last :
    goal.returns-in_err-operation_of-in-Client-clause-memory_last
returns-in_err-operation_of-in-Client-clause-memory_last c h =
    some_client c.args.kind c.in-Client.field-0 (value_of c.args.name.now) (value_of c.args.value.now) c.args.process c.in-Client.is (c.in_err-operation_of-in-Client.ensures.memory_last refl)

pub returns-in_err-fault-in-Nemesis-clause-memory_last :
    goal.returns-in_err-fault-in-Nemesis-clause-memory_last
returns-in_err-fault-in-Nemesis-clause-memory_last c h =
    let m = c.in_err-fault-in-Nemesis.ensures.memory_last refl in
    elim c.match-matches.branch [
      | in-Info w ↦ some_nemesis c.args.kind (value_of c.args.name.now) (value_of c.args.value.now) c.args.process w.in-Info.is c.in-Nemesis.is m
      | in_default w ↦ cc (w.matches-is, c.if-not-matches.false)
    ]
