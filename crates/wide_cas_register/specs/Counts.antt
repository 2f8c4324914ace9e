-- Invariant: how many steps an ok makes
use Rattle.std.specs.Prelude.{ℕ, ◌+◌, ◌*◌, ◌≤◌, List, length}
use Rattle.wide_cas_register.specs.declared.calls.Call.{Call}

-- the count of steps before an event and after it, if each operation was tried at this number of fronts
pub record IsCounted (calls : List Call) (tried before after : ℕ) : Type 0 where
  pub grows : before ≤ after
  pub most : after ≤ before + tried * length calls
