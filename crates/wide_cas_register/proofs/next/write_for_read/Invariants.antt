use Rattle.wide_cas_register.proofs.Makings.{AllTried, EachTried}
use Rattle.wide_cas_register.proofs.next.write_for_read.Given as goal

abbrev pub invariant-loop-call : goal.invariant-loop-call
invariant-loop-call l = record {
  each : EachTried l.calls l.row l.read l.value l.call-index l.made.items;
  all : AllTried l.calls l.row l.read l.value l.call-index l.made.items;
}
