use Rattle.std.proofs.Common.{◌≡◌, ℕ, List, take}
use Rattle.events.specs.declared.event.Event.{Event}
use Rattle.events.specs.ProcessRule.{IsHistory}
use Rattle.checkpoints.specs.KeyLineView.{count_on}
use Rattle.checkpoints.specs.KeyState.{IsKeyState}
use Rattle.checkpoints.specs.Borrowed.{AreAt}
use Rattle.checkpoints.specs.Saved.{AreSaved}
use Rattle.checkpoints.proofs.saving.judged_anew.Given as goal

abbrev pub invariant-loop-index : goal.invariant-loop-index
invariant-loop-index l = record {
  at : l.before ≡ l.index-index;
  stands : (events : List (ℕ × Event)) → IsHistory events → AreAt l.borrowed l.places events → IsKeyState l.fn.kind l.budget (take l.index-index events) l.state;
  saved : (events : List (ℕ × Event)) → IsHistory events → AreAt l.borrowed l.places events → AreSaved l.fn.kind l.budget (take l.index-index events) l.saved.items;
  counted : l.count ≡ count_on l.fn.replayed l.index-index;
}
