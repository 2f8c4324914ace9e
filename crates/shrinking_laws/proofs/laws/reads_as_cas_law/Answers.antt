use Rattle.std.proofs.Common.{◌↔◌}
use Rattle.models.specs.Objects.{register, cas_register}
use Rattle.linspec.specs.Orders.{IsLinearizable}
use Rattle.shrinking_laws.specs.ReadsAsCas.{reads_as_cas}
use Rattle.shrinking_laws.proofs.ReadsAsCas.{as_cas, plain_as_cas_register}
use Rattle.shrinking_laws.proofs.laws.reads_as_cas_law.Goals as goal

pub returns-clause-cas_register : goal.returns-clause-cas_register
returns-clause-cas_register c reads marks well are = as_cas reads marks well are

pub returns-clause-register : goal.returns-clause-register
returns-clause-register c reads marks well are none =
    let plain : IsLinearizable register marks ↔ IsLinearizable cas_register marks = plain_as_cas_register marks none in
    let both : IsLinearizable cas_register marks ↔ IsLinearizable cas_register (reads_as_cas reads marks) = as_cas reads marks well are in
    ((λ h. both.0 (plain.0 h)), (λ h. plain.1 (both.1 h)))

pub returns-clause-no_cas : goal.returns-clause-no_cas
returns-clause-no_cas c marks none = plain_as_cas_register marks none
