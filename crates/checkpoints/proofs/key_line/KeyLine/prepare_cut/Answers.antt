use Rattle.std.proofs.Common.{◌≡◌, ◌≤◌, ◌∙◌, length, take, refl, sym, subst, arith}
use Rattle.linspec.specs.KeyHistory.{events_below}
use Rattle.checkpoints.specs.KeyState.{IsKeyState}
use Rattle.checkpoints.specs.Next.{IsNext}
use Rattle.checkpoints.specs.Saved.{AreSaved}
use Rattle.checkpoints.specs.Saves.{saved_by}
use Rattle.checkpoints.specs.SoundLine.{IsBrought}
use Rattle.checkpoints.specs.declared.key_line.Change.{Change}
use Rattle.checkpoints.specs.declared.saving.Saves.TheVariants.{Kept}
use Rattle.checkpoints.proofs.Soundness.{cut_brought, all_stand, borrowed_seen, cut_seen, next_right, IsSoundLine-prepared}
use Rattle.checkpoints.proofs.key_line.KeyLine.prepare_cut.Goals as goal
use Rattle.checkpoints.proofs.key_line.KeyLine.prepare_cut.Goals.{then-kept-len+in_ok-state+in_ok-new, else-kept-len}

pub gone_back-requires-clause-are : goal.gone_back-requires-clause-are
gone_back-requires-clause-are c = (
  c.self.inside.told.events,
  record {
    places_are = c.deref-then-kept-len.ensures.value ∙ c.self.invariant.now.places_are;
    are_borrowed = borrowed_seen _ _ _ _ _ _ c.self.view_is c.args.borrowed.now c.requires;
  },
)

within : (c : goal.After-keep) → c.count_below-kept.result ≤ length c.self.inside.places.items
within c = subst (λ l. c.count_below-kept.result ≤ length l) c.deref.ensures.value c.count_below-kept.ensures.within

first : (c : goal.After-keep) → take c.count_below-kept.result c.self.inside.told.events ≡ events_below c.args.n c.self.inside.told.events
first c = c.count_below-kept.ensures.first c.self.inside.told.events c.self.invariant.now.history (c.deref.ensures.value ∙ c.self.invariant.now.places_are)

stands : (c : goal.After-keep) → IsNext c.self.inside.kind c.self.inside.budget (take c.count_below-kept.result c.self.inside.told.events) c.self.inside.state c.if-kept-len.next
stands c =
    let events = c.self.inside.told.events in
    let now = c.self.invariant.now in
    let kind = c.self.inside.kind in
    let budget = c.self.inside.budget in
    elim c.if-kept-len.branch [
      | then-kept-len+in_ok-state+in_ok-new w ↦ rw w.next-is
          (subst (IsKeyState kind budget (take c.count_below-kept.result events)) (sym w.in_ok-new.ensures.ok) (w.in_ok-state.ensures.stands events now.history
          (record { places_are = w.deref-then-kept-len.ensures.value ∙ now.places_are; are_borrowed = borrowed_seen _ _ _ _ _ _ c.self.view_is c.args.borrowed.now c.requires })
          (subst (AreSaved kind budget events) (sym w.deref-then-kept-len-2.ensures.value) now.saved_are)))
      | else-kept-len w ↦ rw w.next-is
          (all_stand kind budget events c.self.inside.places.items c.self.inside.state c.self.inside.saved.items now c.count_below-kept.result (omega arith))
    ]

pub invariant_of-self-2 : goal.invariant_of-self-2
invariant_of-self-2 c =
    let now = c.self.invariant.now in
    let places = c.self.inside.places.items in
    let saved = c.self.inside.saved.items in
    let kind = c.self.inside.kind in
    let budget = c.self.inside.budget in
    let kept = c.count_below-kept.result in
    let brings : IsBrought kind budget c.first.result.events (take kept places) c.self.inside.state c.if-kept-len.next (saved_by kept Kept saved) =
    subst (λ l. IsBrought kind budget l (take kept places) c.self.inside.state c.if-kept-len.next (saved_by kept Kept saved)) (sym c.first.ensures)
    (cut_brought kind budget c.self.inside.told.events places c.self.inside.state saved now kept (within c) c.if-kept-len.next (stands c)) in
    IsSoundLine-prepared _ _ _ _ _ _ _ _ c.self.invariant _ now.stands _ refl _ now.saved_are _ _ _ c.keep.ensures
    (subst (λ (d : Change). IsBrought d.kind d.budget d.told.events (take d.kept places) c.self.inside.state d.next (saved_by d.kept d.saves saved)) (sym c.in_ok-boxed.ensures.ok) brings)

pub returns-clause-status : goal.returns-clause-status
returns-clause-status c =
    cut_seen _ _ _ _ _ _ c.self.view_is c.args.n c.count_below-kept.result (first c) _
    (next_right c.self.inside.kind c.self.inside.budget (take c.count_below-kept.result c.self.inside.told.events) c.self.inside.state c.if-kept-len.next (stands c) _ c.status-status.ensures)
