use Rattle.std.proofs.Common.{◌≡◌, ◌∙◌, length, refl, sym, subst, take, arith}
use Rattle.checkpoints.specs.KeyState.{IsKeyState}
use Rattle.checkpoints.specs.Borrowed.{AreAt}
use Rattle.checkpoints.specs.Saved.{AreSaved}
use Rattle.checkpoints.specs.SoundLine.{IsBrought}
use Rattle.checkpoints.proofs.Soundness.{borrowed_seen, rebuilt_brought, rebuilt_seen, status_right, IsSoundLine-prepared}
use Rattle.checkpoints.specs.declared.key_line.Change.{Change}
use Rattle.checkpoints.specs.Saves.{saved_by}
use Rattle.checkpoints.specs.declared.next.Next.TheVariants.{Becomes}
use Rattle.checkpoints.proofs.key_line.KeyLine.prepare_rebuild.Goals as goal

pub judged_anew-requires : goal.judged_anew-requires
judged_anew-requires c = (
  c.self.inside.told.events,
  record {
    places_are = c.deref.ensures.value ∙ c.self.invariant.now.places_are;
    are_borrowed = borrowed_seen _ _ _ _ _ _ c.self.view_is c.args.borrowed.now c.requires;
  },
)

at : (c : goal.After-keep) → AreAt c.args.borrowed.now c.deref.result.now c.self.inside.told.events
at c = record {
  places_are = c.deref.ensures.value ∙ c.self.invariant.now.places_are;
  are_borrowed = borrowed_seen _ _ _ _ _ _ c.self.view_is c.args.borrowed.now c.requires;
}

stands : (c : goal.After-keep) → IsKeyState c.args.kind c.args.budget c.self.inside.told.events c.in_ok-state.state
stands c = c.in_ok-state.ensures.stands c.self.inside.told.events c.self.invariant.now.history (at c)

pub invariant_of-self-2 : goal.invariant_of-self-2
invariant_of-self-2 c =
    let now = c.self.invariant.now in
    let places = c.self.inside.places.items in
    let all : c.len-kept.result ≡ length places = omega (arith, c.self.inside.places.ok.0) in
    let are : AreSaved c.args.kind c.args.budget c.self.inside.told.events c.in_ok-state.saved.items = c.in_ok-state.ensures.saved c.self.inside.told.events now.history (at c) in
    let brings : IsBrought c.args.kind c.args.budget c.first.result.events (take c.len-kept.result places) c.self.inside.state (Becomes c.in_ok-becomes.becomes) c.in_ok-state.saved.items =
    subst (λ l. IsBrought c.args.kind c.args.budget l (take c.len-kept.result places) c.self.inside.state (Becomes c.in_ok-becomes.becomes) c.in_ok-state.saved.items) (sym c.first.ensures)
    (rebuilt_brought c.self.inside.kind c.self.inside.budget c.self.inside.told.events places c.self.inside.state c.self.inside.saved.items now c.len-kept.result all c.args.kind c.args.budget c.in_ok-becomes.becomes c.in_ok-state.saved.items
    (subst (IsKeyState c.args.kind c.args.budget c.self.inside.told.events) (sym c.in_ok-becomes.ensures.ok) (stands c)) are) in
    IsSoundLine-prepared _ _ _ _ _ _ _ _ c.self.invariant _ now.stands _ refl _ now.saved_are _ _ _ c.keep.ensures
    (subst (λ (d : Change). IsBrought d.kind d.budget d.told.events (take d.kept places) c.self.inside.state d.next (saved_by d.kept d.saves c.self.inside.saved.items)) (sym c.in_ok-boxed.ensures.ok) brings)

pub returns-clause-status : goal.returns-clause-status
returns-clause-status c =
    rebuilt_seen _ _ _ _ _ _ c.self.view_is c.args.kind c.args.budget _ (status_right c.args.kind c.args.budget c.self.inside.told.events _ (stands c) _ c.status-status.ensures)
