use Rattle.std.proofs.Common.{refl}
use Rattle.moves.proofs.Changes.{with_crashed_call, with_open_call}
use Rattle.moves.proofs.kept_end.KeptEnd.include.Goals as goal

pub returns-in_ok-push : goal.returns-in_ok-push
returns-in_ok-push g c not_in =
    with_crashed_call c.args.self.now.state c.args.self.now.state c.args.self.now.pending.items c.args.self.now.pending.items c.args.self.now.crashed.items c.push.new.self.items
    c.args.call.now.id c.args.found c.args.call.now.crashed c.if-call.true refl c.in_ok-push.ensures.items

pub returns-in_ok-push-2 : goal.returns-in_ok-push-2
returns-in_ok-push-2 g c not_in =
    with_open_call c.args.self.now.state c.args.self.now.state c.args.self.now.pending.items c.push-else-call.new.self.items c.args.self.now.crashed.items c.args.self.now.crashed.items
    c.args.call.now.id c.args.found c.args.call.now.crashed c.if-call.false not_in c.in_ok-push-2.ensures.items refl
