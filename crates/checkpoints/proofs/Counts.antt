-- counts of replays
use Rattle.std.proofs.Common.{◌≡◌, ℕ, ◌+◌, ◌-◌, ◌%◌, ◌^◌, ◌<◌, ◌≤◌, false, length, arith}
use Rattle.std.proofs.lemmas.Bool.{cond_both, cond-false}
use Rattle.linspec.specs.KeyHistory.{KeyHistory, events_below, loses_at}
use Rattle.checkpoints.specs.KeyLineView.{replays_at, count_on}

pub count_on_none : (n : ℕ) → n ≤ 2 ^ 64 - 1 → count_on n 0 ≡ n
count_on_none n le = omega arith

pub count_on_more : (n i : ℕ) → count_on (count_on n i) 1 ≡ count_on n (i + 1)
count_on_more n i = omega arith

pub few_replays : (n : ℕ) (h : KeyHistory) → replays_at n h < 64
few_replays n h = cond_both (loses_at n h) (length (events_below n h.events) % 64) 0 (λ k. k < 64) (λ e. omega arith) (λ e. omega arith)

pub no_replay : (n : ℕ) (h : KeyHistory) → loses_at n h ≡ false → replays_at n h ≡ 0
no_replay n h none = cond-false (loses_at n h) (length (events_below n h.events) % 64) 0 none
