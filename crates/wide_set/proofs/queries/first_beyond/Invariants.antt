use Rattle.wide_set.proofs.Searching.{IsFoundBeyond, IsLeastBeyond}
use Rattle.wide_set.proofs.queries.first_beyond.Given as goal

abbrev pub invariant-loop-added : goal.invariant-loop-added
invariant-loop-added l = record {
  found : IsFoundBeyond l.log l.members l.first;
  least : IsLeastBeyond l.log l.members l.added-index l.first;
}
