use Rattle.std.proofs.Common.{◌<◌, length, arith}
use Rattle.history.proofs.Kept.{kept_at_first}
use Rattle.history.proofs.Prefixes.{next_at, sound_more}
use Rattle.history.proofs.clients.Clients.after.Goals as goal

pub loop-i-init : goal.loop-i-init
loop-i-init c =
    let clients = c.in_ok-clients.clients in
    let made = c.in_ok-clients.ensures in
    kept_at_first c.args.concurrency clients.threads clients.opened.items c.requires.limits made.number made.threads made.opens made.none

pub move_on-requires-clause-next : goal.move_on-requires-clause-next
move_on-requires-clause-next c =
    let clients = c.loop-i.clients in
    let below : c.loop-i.i < length c.args.events.now = omega arith in
    next_at c.args.concurrency c.args.events.now clients.threads clients.opened.items c.loop-i.i c.index-events-i.result c.requires.history below c.index-events-i.is c.loop-i.invariant

pub loop-i-preserved : goal.loop-i-preserved
loop-i-preserved c =
    let clients = c.loop-i.clients in
    let later = c.move_on.new.self in
    let below : c.loop-i.i < length c.args.events.now = omega arith in
    sound_more c.args.concurrency c.args.events.now clients.threads later.threads clients.opened.items later.opened.items c.loop-i.i _ c.index-events-i.result c.requires.history below c.index-events-i.is (omega arith) c.loop-i.invariant c.move_on.ensures
