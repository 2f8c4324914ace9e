use Rattle.std.proofs.Common.{length, take, ap, ◌∙◌, arith}
use Rattle.monitor.specs.Rows.{LinesView, cut_done}
use Rattle.monitor.proofs.Changing.{changed-all}
use Rattle.monitor.proofs.Committing.{may_commit, committed, done_now}
use Rattle.monitor.proofs.lines.Lines.commit_cut.Goals as goal

pub loop-place-init : goal.loop-place-init
loop-place-init c = c.truncate.ensures.entries ∙ ap (λ (v : LinesView). take c.args.kept v.rows) c.self.view_is

pub commit-requires : goal.commit-requires
commit-requires c =
    let left = ap length (c.truncate.ensures.entries ∙ ap (λ (v : LinesView). take c.args.kept v.rows) c.self.view_is) in
    may_commit c.args.n c.args.kept c.args.self.now.rows c.requires.next c.requires.first c.loop-place.invariant (omega (arith, left, c.len-place-end.ensures.len))

pub loop-place-preserved : goal.loop-place-preserved
loop-place-preserved c =
    let left = ap length (c.truncate.ensures.entries ∙ ap (λ (v : LinesView). take c.args.kept v.rows) c.self.view_is) in
    committed c.args.n c.args.kept c.args.self.now.rows c.requires.next c.requires.first c.loop-place.invariant (omega (arith, left, c.len-place-end.ensures.len)) c.commit.ensures

pub returns : goal.returns
returns c =
    let left = ap length (c.truncate.ensures.entries ∙ ap (λ (v : LinesView). take c.args.kept v.rows) c.self.view_is) in
    let rows = changed-all (cut_done c.args.n) (take c.args.kept c.args.self.now.rows) c.loop-place.place c.loop-place.invariant (omega (arith, left, c.len-place-end.ensures.len)) in
    record { rows = rows; now = done_now c.args.n c.args.kept c.args.self.now.rows rows }
