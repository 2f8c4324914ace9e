use Rattle.std.proofs.Common.{true, false}
use Rattle.shrinking_laws.proofs.Locks.{without_pair, without_last}
use Rattle.shrinking_laws.proofs.ManyBlocks.{without_blocks}
use Rattle.shrinking_laws.proofs.laws.mutex_law.Goals as goal

pub returns-clause-pair : goal.returns-clause-pair
returns-clause-pair c marks acquire release well pair = without_pair marks well true acquire release pair

pub returns-clause-handover : goal.returns-clause-handover
returns-clause-handover c marks release acquire well pair = without_pair marks well false release acquire pair

pub returns-clause-last_acquire : goal.returns-clause-last_acquire
returns-clause-last_acquire c marks acquire well is = without_last marks well true acquire is

pub returns-clause-last_release : goal.returns-clause-last_release
returns-clause-last_release c marks release well is = without_last marks well false release is

pub returns-clause-blocks : goal.returns-clause-blocks
returns-clause-blocks c marks outs well blocks = without_blocks marks outs well blocks
