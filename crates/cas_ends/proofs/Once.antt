-- in a well-formed history an operation is one thing: a read, a write or a cas
use Rattle.std.proofs.Common.{◌≡◌, ℕ, ℤ, List, subst}
use Rattle.events.specs.Events.{Mark}
use Rattle.linspec.specs.MarkRule.{AreWellFormed}
use Rattle.linspec.specs.LeanEnds.{Reads, Writes, IsRead, IsWriteOf}
use Rattle.lean_ends.proofs.Once.{one_op}
use Rattle.linspec.specs.CasEnds.{Sets, IsCasOf}
use Rattle.cas_ends.proofs.Steps.{no_read_cas, no_write_cas, one_pair}

module _ (marks : List Mark) (well : AreWellFormed marks) (id : ℕ) (a b : ℤ) (c : IsCasOf marks id a b) where
  pub cas_no_read : ¬ IsRead marks id
  cas_no_read r = no_read_cas c.0 a b c.2 (subst Reads (one_op marks well id r.0 c.0 r.1 c.1) r.2)

  pub cas_no_write : (v : ℤ) → ¬ IsWriteOf marks id v
  cas_no_write v w = no_write_cas c.0 a b v c.2 (subst (λ o. Writes o v) (one_op marks well id w.0 c.0 w.1 c.1) w.2)

  pub same_pair : (x y : ℤ) → IsCasOf marks id x y → (a ≡ x) × (b ≡ y)
  same_pair x y d = one_pair c.0 a b x y c.2 (subst (λ o. Sets o x y) (one_op marks well id d.0 c.0 d.1 c.1) d.2)
