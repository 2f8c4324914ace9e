use Rattle.std.proofs.Common.{◌≡◌, Some, refl}
use Rattle.edn.specs.View.{value_of}
use Rattle.events.specs.Spelling.{two_in}
use Rattle.events.proofs.OneEvent.{some_op}
use Rattle.events.proofs.spelling.operation_of.Goals as goal

pub returns-in_err-part-clause-memory_last : goal.returns-in_err-part-clause-memory_last
returns-in_err-part-clause-memory_last c h =
    let m = c.in_err-part.ensures.memory_last refl in
    let are : Some (value_of c.in-Some-two_of.key.now, value_of c.in-Some-two_of.part.now) ≡ two_in (value_of c.args.value.now) =
    cc (c.in-Some-two_of.ensures) in (
      record { name = c.in-Some.name; key = c.in-Some-key_of.key; part = m.0 },
      some_op (value_of c.args.name.now) (value_of c.args.value.now) c.in-Some.name (value_of c.in-Some-two_of.key.now) (value_of c.in-Some-two_of.part.now) c.in-Some-key_of.key m.0 c.in-Some.ensures are c.in-Some-key_of.ensures m.1,
      m.2,
    )
