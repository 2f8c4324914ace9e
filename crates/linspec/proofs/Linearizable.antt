-- histories that are linearizable, and stay so
use Rattle.std.proofs.Common.{◌≡◌, ℕ, List, [], ◌∷◌, ◌++◌, refl, sym}
use Rattle.models.specs.declared.operation.Op.{Op}
use Rattle.models.specs.Objects.{Object}
use Rattle.events.specs.Events.{Mark, marks}
use Rattle.events.specs.Events.Mark.{Invoked, Crashed}
use Rattle.linspec.specs.Operations.{HasReturned}
use Rattle.linspec.specs.MarkRule.{IsNew}
use Rattle.linspec.specs.Orders.{IsLinearizable}
use Rattle.linspec.proofs.Lists.{Contains-nil}
use Rattle.linspec.proofs.Marks.{IsLegalOrder-more}

-- where no operation has returned, the empty order is legal
pub IsLinearizable-undone : (o : Object) (marks : List Mark) → ((id : ℕ) → ¬ HasReturned marks id) → IsLinearizable o marks
IsLinearizable-undone o marks undone = (
  [],
  o.start,
  record {
    invoked = λ x h. absurd (Contains-nil x h);
    once = tt;
    none_failed = λ x h. absurd (Contains-nil x h);
    all_done = λ id d. absurd (undone id d);
    in_time = tt;
    run = refl;
    fits = λ x a h. absurd (Contains-nil x h);
  },
)

-- the empty history is linearizable
pub IsLinearizable-empty : (o : Object) → IsLinearizable o []
IsLinearizable-empty o = IsLinearizable-undone o [] (λ id d. Contains-nil _ d.1)

-- an invocation and an info leave every legal order legal
pub IsLinearizable-invoked : (o : Object) (marks : List Mark) (id : ℕ) (op : Op) → IsNew marks id → IsLinearizable o marks → IsLinearizable o (marks ++ Invoked id op ∷ [])
IsLinearizable-invoked o marks id op new h = (
  h.0,
  h.1,
  IsLegalOrder-more o marks (Invoked id op) h.0 h.1 h.2
      (λ x p k e. (let same : id ≡ x.id = cc in new (Invoked x.id x.op) (h.2.invoked x k) (sym same)))
      (λ x k e. cc) (λ i a e. cc) (λ x a k e. cc),
)

pub IsLinearizable-crashed : (o : Object) (marks : List Mark) (id : ℕ) → IsLinearizable o marks → IsLinearizable o (marks ++ Crashed id ∷ [])
IsLinearizable-crashed o marks id h =
    (h.0, h.1, IsLegalOrder-more o marks (Crashed id) h.0 h.1 h.2 (λ x p k e. cc) (λ x k e. cc) (λ i a e. cc) (λ x a k e. cc))
