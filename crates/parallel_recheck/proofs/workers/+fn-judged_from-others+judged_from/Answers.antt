use Rattle.std.proofs.Common.{◌+◌, length, map, sym, subst}
use Rattle.std.proofs.lemmas.Result.{IfOk-at_ok}
use denote.Param.Send.{sendable}
use Rattle.std.proofs.Crossing.{crosses}
use Rattle.checkpoints.proofs.Crossing.{line_send}
use Rattle.parallel_recheck.specs.Pieces.{line_of}
use Rattle.parallel_recheck.specs.Placed.{IsShare, IsOwn, IsOwnOrLater}
use Rattle.parallel_recheck.proofs.Shares.{share_both}
use Rattle.parallel_recheck.proofs.workers.+fn-judged_from-others+judged_from.Goals as goal

pub returns : goal.returns
returns g t c =
    let lines = map line_of c.args.pieces.now in
    let count = length c.args.pieces.now in
    subst (IsShare lines (IsOwnOrLater c.args.worker c.args.workers) count) (sym c.in_ok-append.ensures.items)
    (share_both lines c.args.worker c.args.workers count _ _
    (IfOk-at_ok (λ v. IsShare lines (IsOwn c.args.worker c.args.workers) count v.items) c.in_ok-all.was c.join-first.ensures.first)
    (IfOk-at_ok (λ v. IsShare lines (IsOwnOrLater (c.args.worker + 1) c.args.workers) count v.items) c.in_ok-rest.was c.join-first.ensures.second))

pub join-first-requires-send-A : goal.join-first-requires-send-A
join-first-requires-send-A g t c κs within = search (line_send, sendable, crosses) depth 60 fits 20000
