use Rattle.cas_ends.proofs.Complete.{has_cas_end}
use Rattle.cas_ends.proofs.Sound.{cas_end_is_left}
use Rattle.cas_ends.proofs.Left.{some_is_left}
use Rattle.cas_ends.proofs.laws.ends_law.Goals as goal

pub returns : goal.returns
returns c = record {
  some = λ marks well. ((λ l. has_cas_end marks well l), (λ k. cas_end_is_left marks well k.0 k.1));
  left = λ marks ends well are. some_is_left marks ends well are;
}
