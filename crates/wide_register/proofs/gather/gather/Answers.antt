use Rattle.std.proofs.Common.{arith}
use Rattle.wide_register.specs.declared.row.Row.{Row}
use Rattle.wide_register.specs.Facts.{IsAtMostBy}
use Rattle.wide_register.proofs.Gathering.{few_apart}
use Rattle.wide_register.proofs.Keeping.{kept_itself}
use Rattle.wide_register.proofs.gather.gather.Goals as goal

pub returns-then-len-le1-clause-kept : goal.returns-then-len-le1-clause-kept
returns-then-len-le1-clause-kept c r h = kept_itself c.args.calls.now c.args.rows.items r h

pub returns-then-len-le1-clause-apart : goal.returns-then-len-le1-clause-apart
returns-then-len-le1-clause-apart c = few_apart (λ (a b : Row). (¬ IsAtMostBy c.args.calls.now a b) × (¬ IsAtMostBy c.args.calls.now b a)) c.args.rows.items (omega arith)
