use Rattle.std.proofs.Common.{◌≡◌, ◌≢◌, [], sym, ap, subst, arith}
use Rattle.linspec.specs.KeyHistory.{IsStatusOf}
use Rattle.monitor.specs.Rows.{LinesView}
use Rattle.monitor.proofs.Joins.{JoinsRows-more_with, JoinsRows-all_with}
use Rattle.monitor.proofs.lines.Lines.joined_with.Goals as goal
use Rattle.monitor.proofs.lines.Lines.joined_with.Goals.{then-other-place, else-other-place}

pub loop-other-init : goal.loop-other-init
loop-other-init c next stands = ([], tt, c.no_keys_law.ensures)

pub loop-other-preserved : goal.loop-other-preserved
loop-other-preserved c next stands =
    let now = c.key_and_line-key.result.1.now.now in
    let by_place : (c.loop-other.other ≡ c.args.place → IsStatusOf next c.if-other-place.stands) × (c.loop-other.other ≢ c.args.place → IsStatusOf now c.if-other-place.stands) =
    elim c.if-other-place.branch [
      | then-other-place w ↦ (λ e. subst (IsStatusOf next) (sym w.stands-is) stands, λ ne. absurd (ne w.if-other-place.true))
      | else-other-place w ↦ (λ e. absurd (w.if-other-place.false e), λ ne. subst (IsStatusOf now) (sym w.stands-is) w.status-stands.ensures)
    ] in
    JoinsRows-more_with c.args.self.now.rows c.args.place c.loop-other.other c.key_and_line-key.result.0 c.key_and_line-key.result.1.now next c.if-other-place.stands c.loop-other.verdict c.join_with-verdict.result c.key_and_line-key.ensures by_place.0 by_place.1 c.join_with-verdict.ensures (c.loop-other.invariant next stands)

pub returns : goal.returns
returns c next stands =
    let seen = ap (λ (v : LinesView). v.rows) c.self.view_is in
    JoinsRows-all_with c.self.inside.map.entries c.args.self.now.rows seen c.args.place c.loop-other.other next c.loop-other.verdict (omega (arith, c.len-other-end.ensures.len)) (c.loop-other.invariant next stands)
