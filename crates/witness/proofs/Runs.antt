-- calls one after another, in parts
use Rattle.std.proofs.Common.{Option, Some, None, List, [], ◌∷◌, ◌++◌}
use Rattle.models.specs.declared.finding.Found.TheVariants.{Unit as Done}
use Rattle.models.specs.declared.finding.Answer.{Answer}
use Rattle.models.specs.Objects.{Object}
use Rattle.witness.specs.declared.calls.Call.{Call}
use Rattle.witness.specs.declared.mismatch.MismatchReason.{MismatchReason}
use Rattle.witness.specs.declared.mismatch.MismatchReason.TheVariants.{NoEvent, NoInvocation, Twice, Failed, TooLate, CannotTakePlace, AnotherAnswer, LeftOut}
use Rattle.witness.specs.Calls.{FitsIf, CanRun, unanswered, IsRejectedAfter}

-- the last of them can run from some state
pub CanRun-right : (o : Object) (xs ys : List Call) (s : o.State) → CanRun o (xs ++ ys) s → (t : o.State) × CanRun o ys t
CanRun-right o [] ys s h = (s, h)
CanRun-right o (x ∷ xs) ys s h = CanRun-right o xs ys h.1 h.4

-- the first of them can run
pub CanRun-left : (o : Object) (xs ys : List Call) (s : o.State) → CanRun o (xs ++ ys) s → CanRun o xs s
CanRun-left o [] ys s h = tt
CanRun-left o (x ∷ xs) ys s h = (h.0, h.1, h.2, h.3, CanRun-left o xs ys h.1 h.4)

-- an operation that finds nothing fits
pub fits_done : (answer : Option Answer) → FitsIf Done answer
fits_done None = tt
fits_done (Some answer) = tt

-- where the last may follow, so may what it may be followed by
pub CanRun-change : (o : Object) (xs ys zs : List Call) (s : o.State) → ((t : o.State) → CanRun o ys t → CanRun o zs t) → CanRun o (xs ++ ys) s → CanRun o (xs ++ zs) s
CanRun-change o [] ys zs s to h = to s h
CanRun-change o (x ∷ xs) ys zs s to h = (h.0, h.1, h.2, h.3, CanRun-change o xs ys zs h.1 to h.4)

-- if the call can take place it is not rejected
pub no_rejection : (o : Object) (calls : List Call) (c : Call) (why : MismatchReason) → CanRun o (calls ++ c ∷ []) o.start → ¬ IsRejectedAfter o calls c why
no_rejection o calls c CannotTakePlace runs h = h (CanRun-change o calls (c ∷ []) (unanswered c ∷ []) o.start (λ t r. (r.0, r.1, r.2, tt, tt)) runs)
no_rejection o calls c AnotherAnswer runs h = h.1 runs
no_rejection o calls c NoEvent runs h = h
no_rejection o calls c NoInvocation runs h = h
no_rejection o calls c Twice runs h = h
no_rejection o calls c Failed runs h = h
no_rejection o calls c TooLate runs h = h
no_rejection o calls c LeftOut runs h = h
