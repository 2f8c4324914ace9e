use Rattle.cas_ends.proofs.BadPrefixes.{ends_bad_prefix, bad_prefix_ends}
use Rattle.cas_ends.proofs.laws.illegal_at_law.Goals as goal

pub returns : goal.returns
returns c entries last well = (bad_prefix_ends entries well last, λ h. ends_bad_prefix entries well h.0 last h.1 h.2 h.3)
