-- Invariant: the effect of a change on the saved states
use Rattle.std.specs.Prelude.{ℕ, ◌/◌, List, take}
use Rattle.checkpoints.specs.declared.key_state.KeyState.{KeyState}
use Rattle.checkpoints.specs.declared.saving.Saves.{Saves}
use Rattle.checkpoints.specs.declared.saving.Saves.TheVariants.{Kept, Anew}

-- the saved states after the change, if n events are kept
abbrev pub saved_by : ℕ → Saves → List KeyState → List KeyState
saved_by kept Kept saved = take (kept / 64) saved
saved_by kept (Anew new) saved = new.items
