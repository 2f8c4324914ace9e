use Rattle.std.proofs.Common.{sym, ap, subst, ◌∙◌}
use Rattle.values.specs.Multisets.{NeverFalls}
use Rattle.values.specs.Sums.{sum_of}
use Rattle.values.proofs.Sums.{sum_of-none}
use Rattle.values.proofs.multiset.Multiset.new.Goals as goal

pub invariant_of-result : goal.invariant_of-result
invariant_of-result c = record {
  never_falls = subst NeverFalls (sym c.new.ensures) tt;
  sums = sym (ap sum_of c.new.ensures ∙ sum_of-none);
}
