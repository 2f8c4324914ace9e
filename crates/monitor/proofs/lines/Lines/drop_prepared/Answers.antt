use Rattle.std.proofs.Common.{length, refl, ap, ◌∙◌, arith}
use Rattle.monitor.specs.Rows.{LinesView, nows, without_next}
use Rattle.monitor.proofs.Changing.{changed-more, changed-all, first_have}
use Rattle.monitor.proofs.Cutting.{same_length}
use Rattle.monitor.proofs.lines.Lines.drop_prepared.Goals as goal

pub drop_prepared_at-requires : goal.drop_prepared_at-requires
drop_prepared_at-requires c =
    let seen = ap (λ (v : LinesView). length v.rows) c.self.view_is in
    let long = same_length c.args.self.now.rows c.loop-place.self.rows (ap nows c.loop-place.invariant.changed ∙ first_have without_next (λ line. refl) c.loop-place.place c.args.self.now.rows) in
    omega (arith, seen, long, c.len-place-end.ensures.len)

pub loop-place-preserved : goal.loop-place-preserved
loop-place-preserved c = record {
  changed = c.drop_prepared_at.ensures.rows ∙ changed-more without_next c.args.self.now.rows c.loop-place.place c.loop-place.invariant.changed;
  room = omega arith;
}

pub returns-clause-rows : goal.returns-clause-rows
returns-clause-rows c =
    let seen = ap (λ (v : LinesView). length v.rows) c.self.view_is in
    changed-all without_next c.args.self.now.rows c.loop-place.place c.loop-place.invariant.changed (omega (arith, seen, c.len-place-end.ensures.len))
