use Rattle.linspec.proofs.OtherObjects.{cas_linearizable, no_cas_of_register}
use Rattle.linspec.proofs.laws.cas_law.Goals as goal

pub returns-clause-cas_register : goal.returns-clause-cas_register
returns-clause-cas_register c = cas_linearizable

pub returns-clause-register : goal.returns-clause-register
returns-clause-register c = no_cas_of_register
