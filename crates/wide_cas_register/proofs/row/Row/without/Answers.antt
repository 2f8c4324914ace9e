use Rattle.wide_cas_register.proofs.Copies.{without_same}
use Rattle.wide_cas_register.proofs.row.Row.without.Goals as goal

pub returns : goal.returns
returns c = without_same c.args.id c.args.self.now c.in_ok-row.row c.leave.new.self c.in_ok-row.ensures c.leave.ensures
