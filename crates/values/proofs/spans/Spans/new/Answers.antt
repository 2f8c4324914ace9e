use Rattle.std.proofs.Common.{sym, subst, [], List}
use Rattle.values.specs.declared.span_row.Span.{Span}
use Rattle.values.specs.Spans.{AreSpans}
use Rattle.values.proofs.Sums.{sum_of-none}
use Rattle.values.proofs.spans.Spans.new.Goals as goal

none : AreSpans [] 0
none = record { apart = tt; sums = sym sum_of-none }

pub invariant_of-result : goal.invariant_of-result
invariant_of-result c = subst (λ (l : List Span). AreSpans l 0) (sym c.new.ensures) none
