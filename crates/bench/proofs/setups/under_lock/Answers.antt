-- A core under a lock may be shared by threads.
use denote.Param.Send.{sendable}
use Rattle.std.proofs.Crossing.{crosses}
use Rattle.harness.proofs.Crossing.{core_send, core_sync}
use Rattle.bench.proofs.setups.under_lock.Goals as goal

pub run_plan-requires-sync-M : goal.run_plan-requires-sync-M
run_plan-requires-sync-M g c κs within = search (core_send, core_sync, sendable, crosses) depth 60 fits 20000
