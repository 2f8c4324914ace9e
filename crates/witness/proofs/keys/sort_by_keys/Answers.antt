-- a stable sort by the keys
use Rattle.std.proofs.Common.{rules}
use Rattle.std.proofs.lemmas.List.Sorted.{IsNonDecreasingBy-from_sort_by_key, answers_always}
use Rattle.witness.proofs.ByKeys.{by_keys}
use Rattle.witness.specs.declared.placing.Position.{Position}
use Rattle.witness.proofs.keys.sort_by_keys.Goals as goal

pub returns : goal.returns
returns c =
    by_keys c.args.positions.now.items c.sort_by_key.new.self.items
    (c.sort_by_key.ensures.stable (λ (s : Position). s.key) (answers_always _ _ _ (λ f a r g h. search rules)))
    (IsNonDecreasingBy-from_sort_by_key (λ (s : Position). s.key) _ c.in_ok-sort_by_key.ensures.sorted (λ a r q k. search rules))
