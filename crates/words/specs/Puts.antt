-- Promise: how a thing is put with others, each of which is there once
use Rattle.std.specs.Prelude.{◌≡◌, ◌⊎◌, List, [], ◌∷◌, ◌++◌}
use Rattle.std.specs.List.{Contains}

-- it is with the others: it was, or was put behind them
abbrev pub IsPut : {X : Type 0} → X → List X → List X → Type 0
IsPut thing old new =
    (Contains old thing × (new ≡ old)) ⊎ ((¬ Contains old thing) × (new ≡ old ++ thing ∷ []))
