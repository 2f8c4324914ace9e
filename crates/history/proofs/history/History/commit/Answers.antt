use Rattle.std.proofs.Common.{◌+◌, sym, subst, refl, arith}
use Rattle.history.specs.HistoryInvariant.{IsReady}
use Rattle.history.proofs.Prefixes.{next_at, sound_more}
use Rattle.history.proofs.history.History.commit.Goals as goal

pub move_on-requires-clause-next : goal.move_on-requires-clause-next
move_on-requires-clause-next c =
    let inside = c.self.inside in
    let ready = subst (IsReady inside.concurrency inside.count inside.events.items) (sym c.in-Push.ensures.value) c.self.invariant.1 in
    next_at inside.concurrency inside.events.items inside.clients.threads inside.clients.opened.items inside.count c.index-event.result.now ready.1 (omega (arith, ready.0)) c.index-event.ensures c.self.invariant.0

pub invariant_of-self : goal.invariant_of-self
invariant_of-self c =
    let inside = c.self.inside in
    let ready = subst (IsReady inside.concurrency inside.count inside.events.items) (sym c.in-Push.ensures.value) c.self.invariant.1 in (
      sound_more inside.concurrency inside.events.items inside.clients.threads c.move_on.new.self.threads inside.clients.opened.items c.move_on.new.self.opened.items inside.count inside.count c.index-event.result.now
          ready.1 (omega (arith, ready.0)) c.index-event.ensures refl c.self.invariant.0 c.move_on.ensures,
      subst (IsReady inside.concurrency (inside.count + 1) inside.events.items) (sym c.in-Push.ensures.after) ready.0,
    )
