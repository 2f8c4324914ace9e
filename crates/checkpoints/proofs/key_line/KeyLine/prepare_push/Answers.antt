use Rattle.std.proofs.Common.{◌≡◌, ℕ, [], ◌∷◌, ◌++◌, length, sym, ◌∙◌, subst, arith}
use Rattle.events.specs.declared.event.Event.{Event}
use Rattle.checkpoints.specs.SoundLine.{IsBrought}
use Rattle.checkpoints.proofs.Soundness.{history_seen, next_seen, pushed, many_places, next_right, IsSoundLine-dropped, IsSoundLine-prepared}
use Rattle.checkpoints.proofs.key_line.KeyLine.prepare_push.Goals as goal

pub invariant_of-self-in_err-next : goal.invariant_of-self-in_err-next
invariant_of-self-in_err-next c =
    let events = c.self.inside.told.events in
    let now = c.self.invariant.now in
    let h = history_seen _ _ _ _ _ _ c.self.view_is (c.args.index, c.args.event.now) c.requires in
    let all : c.len-count.result ≡ length c.self.inside.places.items = omega (arith, c.reserve.new.self.ok.0, c.self.inside.places.ok.0) in
    let many = many_places c.self.inside.kind c.self.inside.budget events c.self.inside.places.items c.self.inside.state c.self.inside.saved.items now in
    IsSoundLine-dropped _ _ _ _ _ _ _ _ c.self.invariant c.prepare_event.new.state
    (c.prepare_event.ensures.now c.self.inside.kind c.self.inside.budget events now.stands h)
    _ c.reserve.ensures.items _ (c.prepare_event.ensures.saved c.self.inside.kind c.self.inside.budget events (sym many ∙ sym all) now.stands now.saved_are) _ _ c.clear.ensures

pub invariant_of-self-2 : goal.invariant_of-self-2
invariant_of-self-2 c =
    let events = c.self.inside.told.events in
    let places = c.self.inside.places.items in
    let kind = c.self.inside.kind in
    let budget = c.self.inside.budget in
    let now = c.self.invariant.now in
    let x : ℕ × Event = (c.args.index, c.args.event.now) in
    let h = history_seen _ _ _ _ _ _ c.self.view_is x c.requires in
    let all : c.len-count.result ≡ length places = omega (arith, c.reserve.new.self.ok.0, c.self.inside.places.ok.0) in
    let many = many_places kind budget events places c.self.inside.state c.self.inside.saved.items now in
    let saved = c.prepare_event.ensures.saved kind budget events (sym many ∙ sym all) now.stands now.saved_are in
    IsSoundLine-prepared _ _ _ _ _ _ _ _ c.self.invariant c.prepare_event.new.state
    (c.prepare_event.ensures.now kind budget events now.stands h)
    _ c.reserve.ensures.items _ saved _ _ _ c.keep.ensures (
      subst (λ l. IsBrought kind budget l (places ++ c.args.index ∷ []) c.prepare_event.new.state c.in_ok-next.next c.prepare_event.new.saved.items) (sym c.with-told.ensures)
          (pushed kind budget events places c.self.inside.state c.self.inside.saved.items now x c.prepare_event.new.state c.in_ok-next.next c.prepare_event.new.saved.items h
          (c.in_ok-next.ensures.next kind budget events now.stands h) (c.in_ok-next.ensures.more kind budget events (sym many ∙ sym all) now.stands now.saved_are)),
      omega (arith, c.reserve.new.self.ok.0, c.in_ok-reserve.ensures.ok),
    )

pub returns-clause-status : goal.returns-clause-status
returns-clause-status c =
    let events = c.self.inside.told.events in
    let h = history_seen _ _ _ _ _ _ c.self.view_is (c.args.index, c.args.event.now) c.requires in
    let next = c.in_ok-next.ensures.next c.self.inside.kind c.self.inside.budget events c.self.invariant.now.stands h in
    next_seen _ _ _ _ _ _ c.self.view_is c.args.index c.args.event.now _
    (next_right c.self.inside.kind c.self.inside.budget (events ++ (c.args.index, c.args.event.now) ∷ []) c.prepare_event.new.state c.in_ok-next.next next _ c.status-status.ensures)
