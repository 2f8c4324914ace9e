-- all ends of a history, in a list
use Rattle.std.proofs.Common.{◌≢◌, ◌↔◌, List}
use Rattle.std.specs.List.{Contains}
use Rattle.models.specs.Objects.{Object}
use Rattle.events.specs.Events.{Mark}
use Rattle.linspec.specs.Orders.{Pairwise}
use Rattle.linspec.specs.Ends.{End, IsEnd}

-- the list has each end of the history, once, and nothing else
pub record AreTheEnds (o : Object) (ends : List (End o.State)) (marks : List Mark) : Type 0 where
  pub each : (e : End o.State) → Contains ends e ↔ IsEnd o marks e
  pub once : Pairwise (λ e f. e ≢ f) ends
