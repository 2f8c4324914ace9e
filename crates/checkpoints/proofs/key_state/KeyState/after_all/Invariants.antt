use Rattle.std.proofs.Common.{◌≡◌, ℕ, List, ◌++◌, take}
use Rattle.kinds.specs.declared.model_kind.ModelKind.{ModelKind}
use Rattle.events.specs.declared.event.Event.{Event}
use Rattle.events.specs.ProcessRule.{IsHistory}
use Rattle.checkpoints.specs.KeyLineView.{count_on}
use Rattle.checkpoints.specs.KeyState.{IsKeyState}
use Rattle.checkpoints.specs.Borrowed.{AreAt}
use Rattle.checkpoints.proofs.key_state.KeyState.after_all.Given as goal

abbrev pub invariant-loop-index : goal.invariant-loop-index
invariant-loop-index l = record {
  stands : (kind : ModelKind) (budget : ℕ) (before events : List (ℕ × Event)) → IsKeyState kind budget before l.fn.self → IsHistory (before ++ events) → AreAt l.borrowed l.places events
      → IsKeyState kind budget (before ++ take l.index-index events) l.state;
  counted : l.count ≡ count_on l.fn.replayed l.index-index;
}
