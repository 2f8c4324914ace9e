use Rattle.lean_ends.proofs.Left.{as_many, counted_order}
use Rattle.lean_ends.proofs.laws.count_law.Goals as goal

pub returns : goal.returns
returns c = record {
  one = λ marks ends others a b. as_many marks ends others a b;
  order = λ marks n h. counted_order marks n h;
}
