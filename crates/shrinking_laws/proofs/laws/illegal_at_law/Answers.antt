use Rattle.kinds.specs.Kinds.{object_of}
use Rattle.linspec.specs.Orders.{product}
use Rattle.shrinking_laws.proofs.BadPrefixes.{ends_shortest}
use Rattle.shrinking_laws.proofs.laws.illegal_at_law.Goals as goal

pub returns-clause-one : goal.returns-clause-one
returns-clause-one c kind other entries before last part well front good sound bad = ends_shortest (object_of kind) entries before last well front good (λ h. bad (sound h))

pub returns-clause-all : goal.returns-clause-all
returns-clause-all c kinds other entries before last part well front good sound bad = ends_shortest (product kinds) entries before last well front good (λ h. bad (sound h))
