use Rattle.lean_ends.proofs.Complete.{has_lean_end}
use Rattle.lean_ends.proofs.Sound.{lean_end_is_left}
use Rattle.lean_ends.proofs.Left.{some_is_left}
use Rattle.lean_ends.proofs.laws.lean_law.Goals as goal

pub returns : goal.returns
returns c = record {
  some = λ marks well. ((λ l. has_lean_end marks well l), (λ k. lean_end_is_left marks well k.0 k.1));
  left = λ marks ends well are. some_is_left marks ends well are;
}
