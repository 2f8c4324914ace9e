-- The events that speak of an operation have the entries of all, and follow the process rule where all do
use Rattle.std.proofs.Common.{ℕ, ◌≤◌, Option, List, [], ◌∷◌, arith}
use Rattle.events.specs.declared.event.Event.{Event}
use Rattle.events.specs.ProcessRule.{MayComeFrom}

pub sooner : (n m : ℕ) (busy : ℕ → Option ℕ) (events : List (ℕ × Event)) → n ≤ m → MayComeFrom m busy events → MayComeFrom n busy events
sooner n m busy [] le may = tt
sooner n m busy (x ∷ events) le may = (let b : m ≤ x.0 = may.0 in let c : n ≤ x.0 = omega arith in c, may.1, may.2)
