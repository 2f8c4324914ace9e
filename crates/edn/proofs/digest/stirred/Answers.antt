use Rattle.std.proofs.Common.{refl}
use Rattle.edn.specs.Digest.{folded, stirred}
use Rattle.edn.proofs.digest.stirred.Goals as goal

pub returns : goal.returns
unfolding stirred folded
returns c = refl
