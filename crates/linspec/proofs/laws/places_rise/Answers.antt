use Rattle.linspec.proofs.Places.{rising_places}
use Rattle.linspec.proofs.laws.places_rise.Goals as goal

pub returns : goal.returns
returns c = rising_places
