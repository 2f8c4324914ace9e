use Rattle.std.proofs.Common.{◌<◌, ◌≤◌, length, sym, arith}
use Rattle.std.proofs.lemmas.Bool.{true≢false}
use Rattle.wide_fifo_queue.proofs.Serving.{served_no_longer}
use Rattle.wide_fifo_queue.proofs.lists.is_served.Goals as goal

pub returns-then-owed-takers : goal.returns-then-owed-takers
returns-then-owed-takers c = (
  (λ t. absurd (true≢false (sym t))),
  (λ s. (let le : length c.args.owed.now ≤ length c.args.takers.now = served_no_longer c.args.takers.now c.args.owed.now s in let lt : length c.args.takers.now < length c.args.owed.now = c.if-owed-takers.true in absurd (omega arith))),
)
