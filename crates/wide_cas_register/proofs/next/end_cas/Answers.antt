use Rattle.wide_cas_register.specs.Facts.{IsWithoutId}
use Rattle.wide_cas_register.proofs.Makings.{has_alone}
use Rattle.wide_cas_register.proofs.next.end_cas.Goals as goal

pub returns-then-needed-clause-all : goal.returns-then-needed-clause-all
returns-then-needed-clause-all c n = has_alone (IsWithoutId c.args.cas.now.id c.args.row.now) c.in_ok-made.made.items c.in_ok-out.out c.in_ok-made.ensures c.in_ok-out.ensures
