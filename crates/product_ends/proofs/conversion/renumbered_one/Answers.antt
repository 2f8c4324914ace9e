use Rattle.std.proofs.Common.{◌≡◌, ◌+◌, ◌-◌, Some, option_copied, ap, sym, ◌∙◌, subst, arith}
use Rattle.interner.specs.Numbers.{IsSlot}
use Rattle.product_ends.proofs.Renumbering.{same_some}
use Rattle.product_ends.proofs.conversion.renumbered_one.Goals as goal

pub returns-in_ok-singleton-in-Some-clause-set : goal.returns-in_ok-singleton-in-Some-clause-set
returns-in_ok-singleton-in-Some-clause-set c =
    let old = c.args.old.now in
    let new = c.slot_at.new.founds in
    let number = c.args.number in
    let slot = c.in_ok-slot_at-in-Some.field-0 in
    let zero' = c.if-number-eq0.false in
    let is : number ≡ number - 1 + 1 = omega (arith, zero') in (
      slot,
      c.in_ok-singleton-in-Some.ensures,
      same_some old new number (number - 1) slot c.in-Some.found.now is (sym c.get.ensures ∙ ap option_copied c.in-Some.is)
          (subst (λ found. IsSlot new slot (Some found)) c.in_ok-copy-in-Some.ensures c.in_ok-slot_at-in-Some.ensures.slot),
    )
