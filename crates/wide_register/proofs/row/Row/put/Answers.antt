use Rattle.std.proofs.Common.{refl}
use Rattle.wide_register.proofs.Copies.{put_made}
use Rattle.wide_register.proofs.row.Row.put.Goals as goal

pub returns : goal.returns
returns c = put_made c.args.write c.args.value c.args.gap c.args.state c.args.done c.args.self.now c.in_ok-row.row _ c.leave.new.self
    c.leave.ensures c.in_ok-row.ensures refl refl c.in_ok-need.ensures c.in_ok-note_any.ensures
