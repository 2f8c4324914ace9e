use Rattle.wide_cas_register.specs.Facts.{IsWithoutId}
use Rattle.wide_cas_register.proofs.Makings.{has_alone}
use Rattle.wide_cas_register.proofs.next.fail.Goals as goal

pub returns-clause-all : goal.returns-clause-all
returns-clause-all c n = has_alone (IsWithoutId c.args.id c.args.row.now) c.in_ok-made.made.items c.in_ok-out.out c.in_ok-made.ensures c.in_ok-out.ensures
