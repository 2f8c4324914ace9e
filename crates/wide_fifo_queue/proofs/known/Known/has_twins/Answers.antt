use Rattle.std.proofs.Common.{◌≡◌, List, [], subst}
use Rattle.std.specs.List.{Contains}
use Rattle.wide_fifo_queue.specs.declared.known.Enqueued.{Enqueued}
use Rattle.wide_fifo_queue.proofs.known.Known.has_twins.Goals as goal

pub returns-in-Some-clause-some : goal.returns-in-Some-clause-some
returns-in-Some-clause-some c e = (c.in-Some.field-0, subst (λ (l : List Enqueued). Contains l c.in-Some.field-0) c.deref.ensures.value c.in-Some.ensures.found)

pub returns-in-None-clause-none : goal.returns-in-None-clause-none
returns-in-None-clause-none c e = subst (λ (l : List Enqueued). l ≡ []) c.deref.ensures.value (c.some_of.ensures.none c.in-None.is)
