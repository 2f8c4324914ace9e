use Rattle.std.proofs.Common.{sym, ◌∙◌}
use Rattle.std.proofs.lemmas.Bool.{true≢false}
use Rattle.wide_fifo_queue.proofs.judged.is_over.Goals as goal

pub returns-then-is_ok-clause-over : goal.returns-then-is_ok-clause-over
returns-then-is_ok-clause-over c e = (sym c.is_ok.ensures ∙ c.if-is_ok.true, c.has_twins.ensures.some e)

pub returns-then-is_ok-clause-within : goal.returns-then-is_ok-clause-within
returns-then-is_ok-clause-within c e t = c.has_twins.ensures.none e

pub returns-clause-within : goal.returns-clause-within
returns-clause-within c e t = absurd (true≢false (sym t ∙ (sym c.is_ok.ensures ∙ c.if-is_ok.false)))
