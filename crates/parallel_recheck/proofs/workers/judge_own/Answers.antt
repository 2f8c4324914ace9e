use Rattle.std.proofs.Common.{◌≡◌, ◌+◌, ◌%◌, map, refl, sym, subst, rules}
use Rattle.parallel_recheck.specs.Pieces.{line_of}
use Rattle.parallel_recheck.specs.Placed.{IsShare, IsOwn}
use Rattle.parallel_recheck.proofs.Shares.{share_more}
use Rattle.parallel_recheck.proofs.workers.judge_own.Goals as goal

pub returns : goal.returns
returns g c =
    let lines = map line_of c.args.pieces.now in
    let own = IsOwn c.args.worker c.args.workers in
    let mine : c.args.place % c.args.workers ≡ c.args.worker = search rules in
    subst (IsShare lines own (c.args.place + 1)) (sym c.in_ok-push.ensures.items)
    (share_more lines own c.args.place c.args.placed.now.items (record { place = c.args.place; line = c.in_ok-line.line }) refl c.in_ok-line.ensures mine c.requires.before)
