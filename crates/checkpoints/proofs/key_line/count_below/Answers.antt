use Rattle.std.proofs.Common.{◌≡◌, ◌≤◌, true, false, ltb, length, slice_index_or, sym, ap, ◌∙◌, subst, arith, rules}
use Rattle.std.proofs.lemmas.List.Sorted.{IsPartitionPoint-from_clause, IsPartitionedBy-ltb}
use Rattle.std.specs.List.Sorted.{IsNonDecreasingBy}
use Rattle.checkpoints.proofs.Cutting.{indices_rise, first_ones, length-places}
use Rattle.checkpoints.proofs.key_line.count_below.Goals as goal

pub returns-clause-first : goal.returns-clause-first
returns-clause-first c events history are =
    let rise : IsNonDecreasingBy (λ i. i) c.args.places.now = subst (IsNonDecreasingBy (λ i. i)) (sym are) (indices_rise events history) in
    let parted = IsPartitionedBy-ltb (λ i. i) _ c.args.n rise in
    let point = IsPartitionPoint-from_clause (λ i. ltb i c.args.n) _ _ c.partition_point.ensures.partitioned parted (λ a r q k. search rules) in
    let many : length c.args.places.now ≡ length events = ap length are ∙ length-places events in
    let bound : c.partition_point.result ≤ length c.args.places.now = c.partition_point.ensures.bound in
    first_ones events c.args.n _ (omega arith)
    (λ k d lt. subst (λ l. ltb (slice_index_or l k d) c.args.n ≡ true) are (point.0 k d (omega arith) lt))
    (λ k d le lt. subst (λ l. ltb (slice_index_or l k d) c.args.n ≡ false) are (point.1 k d le (omega arith)))
