use Rattle.std.proofs.Common.{◌↔◌, ℤ}
use Rattle.std.specs.List.{Contains}
use Rattle.values.specs.Members.{IsAscending}
use Rattle.values.proofs.Sorting.{IsAscending-sorted, Contains-sorted}
use Rattle.values.proofs.Sums.{if_ok}
use Rattle.values.proofs.members.Members.of_unordered.Goals as goal

pub of_ascending-requires : goal.of_ascending-requires
of_ascending-requires c = IsAscending-sorted _ _ c.sort_unstable.ensures.sorted c.dedup.ensures.filtered

pub returns-clause-members : goal.returns-clause-members
returns-clause-members c =
    if_ok c.of_ascending.result (λ set. (v : ℤ) → Contains set v ↔ Contains c.args.values.items v) _ c.of_ascending.ensures
    (Contains-sorted _ _ _ c.sort_unstable.ensures.permutation c.dedup.ensures.filtered)

pub returns-clause-ascending : goal.returns-clause-ascending
returns-clause-ascending c =
    if_ok c.of_ascending.result IsAscending _ c.of_ascending.ensures (IsAscending-sorted _ _ c.sort_unstable.ensures.sorted c.dedup.ensures.filtered)
