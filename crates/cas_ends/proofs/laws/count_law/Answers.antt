use Rattle.cas_ends.proofs.Left.{as_many}
use Rattle.cas_ends.proofs.OneCount.{as_many_fronts, more_if_more, counted_order}
use Rattle.cas_ends.proofs.laws.count_law.Goals as goal

pub returns : goal.returns
returns c = record {
  ends = λ marks ends others a b. as_many marks ends others a b;
  fronts = λ marks ends others fronts these a b f g. as_many_fronts marks ends others fronts these a b f g;
  more = λ marks n ends fronts a f h. more_if_more marks n ends fronts a f h;
  order = λ marks n h. counted_order marks n h;
}
