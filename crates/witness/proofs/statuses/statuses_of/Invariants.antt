use Rattle.std.proofs.Common.{◌≡◌, ℕ, ◌+◌, ◌<◌, length, take}
use Rattle.events.specs.Events.{entries_of, indexed_from}
use Rattle.linspec.specs.KeptMarks.{last_invocation}
use Rattle.witness.specs.Statuses.{status_at, status_in, last_in}
use Rattle.witness.proofs.statuses.statuses_of.Given as goal

abbrev pub invariant-loop-at : goal.invariant-loop-at
invariant-loop-at l = record {
  long : length l.statuses.items ≡ l.at;
  each : (id : ℕ) → status_at l.statuses.items id ≡ status_in (entries_of (indexed_from 0 (take l.at l.events))) id;
  lasts : (p : ℕ) → last_in l.last p ≡ last_invocation (take l.at l.events) p;
  within : (p : ℕ) → last_invocation (take l.at l.events) p < l.at + 1;
}
