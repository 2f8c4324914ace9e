-- the first call that is rejected
use Rattle.std.proofs.Common.{MatchOption, subst}
use Rattle.kinds.specs.Kinds.{object_of}
use Rattle.witness.specs.declared.mismatch.Rejection.{Rejection}
use Rattle.witness.specs.Calls.{CanRun, IsRejection}
use Rattle.witness.proofs.Late.{rejection_within, rejection_mismatch}
use Rattle.witness.proofs.keys.rejected.Goals as goal
use Rattle.witness.proofs.keys.rejected.Goals.{In-Some}

rejection : (c : In-Some) → IsRejection (object_of c.args.kind) c.in_ok-calls.calls.items c.in-Some.rejection.at c.in-Some.rejection.why
rejection c = subst (λ l. IsRejection (object_of c.args.kind) l c.in-Some.rejection.at c.in-Some.rejection.why) c.deref.ensures.value
    (subst (λ o. MatchOption o (CanRun (object_of c.args.kind) c.deref.result.now (object_of c.args.kind).start) (λ (h : Rejection). IsRejection (object_of c.args.kind) c.deref.result.now h.at h.why)) c.in-Some.is c.in_ok-rejection.ensures)

pub mismatch_at-requires : goal.mismatch_at-requires
mismatch_at-requires c = rejection_within c.args.kind c.args.events.now c.args.statuses.now c.args.positions.now c.in_ok-calls.calls.items c.in-Some.rejection.at c.in-Some.rejection.why c.in_ok-calls.ensures (rejection (goal.at.mismatch_at-requires c).In-Some)

pub returns-in-Some : goal.returns-in-Some
returns-in-Some c = rejection_mismatch c.args.kind c.args.events.now c.args.statuses.now c.args.positions.now c.in_ok-calls.calls.items c.in-Some.rejection.at c.in-Some.rejection.why c.mismatch_at.result c.requires.in_time c.in_ok-calls.ensures
    (rejection (goal.at.returns-in-Some c).In-Some) c.mismatch_at.ensures
