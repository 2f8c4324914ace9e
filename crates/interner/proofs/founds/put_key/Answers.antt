use Rattle.std.proofs.Common.{◌+◌, ◌++◌, ◌∷◌, [], ap, ◌∙◌, arith}
use Rattle.interner.proofs.Founding.{slots_with}
use Rattle.interner.proofs.founds.put_key.Goals as goal

pub invariant_of-founds-2 : goal.invariant_of-founds-2
invariant_of-founds-2 c =
    slots_with c.founds.inside.slots c.founds.inside.items.items c.founds.invariant c.insert.new.self c.push.new.self.items c.args.key (c.len-slot.result + 1) (omega arith) c.in_ok-insert.ensures.updates.0
    (c.in-Ok.ensures.items ∙ ap (λ l. l ++ c.in_ok-found.found ∷ []) c.in_ok-reserve.ensures.items ∙ ap (λ x. c.founds.inside.items.items ++ x ∷ []) c.in_ok-found.ensures)
