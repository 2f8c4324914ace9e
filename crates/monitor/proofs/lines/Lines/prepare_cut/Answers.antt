use Rattle.std.proofs.Common.{◌≤◌, length, sym, ap, subst, ◌∙◌, arith, rules}
use Rattle.checkpoints.specs.KeyLineView.{KeyLineView, count_on}
use Rattle.checkpoints.proofs.Counts.{count_on_none}
use Rattle.monitor.specs.Rows.{LinesView, nows, each_line, with_cut, without_next, AreRowsBorrowedBy}
use Rattle.monitor.proofs.Changing.{changed-all, line_after, none_left, nows_left}
use Rattle.monitor.proofs.Cutting.{AreCutSoFar-skip, AreCutSoFar-more, cut_next, same_nows, same_length, all_kept, all_joined, all_counted}
use Rattle.monitor.proofs.lines.Lines.prepare_cut.Goals as goal

pub key_and_line-key-requires : goal.key_and_line-key-requires
key_and_line-key-requires c =
    let seen = ap (λ (v : LinesView). length v.rows) c.self.view_is in
    let long = same_length c.args.self.now.rows c.loop-place.self.rows (same_nows c.loop-place.invariant.so_far) in
    omega (arith, seen, long, c.len-place-end.ensures.len)

pub prepare_line_cut-requires-clause-borrowed : goal.prepare_line_cut-requires-clause-borrowed
prepare_line_cut-requires-clause-borrowed c = subst (AreRowsBorrowedBy c.args.borrowed.now) (sym (same_nows c.loop-place.invariant.so_far)) c.requires

pub loop-place-init : goal.loop-place-init
loop-place-init c = record {
  so_far = record { changed = search rules; few = search rules; count = search rules; joins = search rules; counted = sym (count_on_none c.args.judged_again.now (omega arith)) };
  room = omega arith;
}

pub loop-place-preserved : goal.loop-place-preserved
loop-place-preserved c = record {
  so_far =
      AreCutSoFar-more c.loop-place.invariant.so_far c.key_and_line-key.ensures c.in-Ok.status (sym c.if-not-begins_below.ensures) c.in-Ok.ensures.next
      (rw c.key_and_line-key.ensures at c.in-Ok.ensures.status) c.join_with-verdict.ensures
      (c.saturating_add.ensures ∙ ap (count_on c.loop-place.judged_again) (c.prepared_replays.ensures ∙ ap (λ (l : KeyLineView). l.prepared_replays) (line_after c.loop-place.self.rows c.loop-place.place c.key_and_line-key.ensures (cut_next c.args.n) c.in-Ok.ensures.next c.key_and_line.ensures)));
  room = omega arith;
}

pub loop-place-preserved-then-not-begins_below : goal.loop-place-preserved-then-not-begins_below
loop-place-preserved-then-not-begins_below c = record {
  so_far = AreCutSoFar-skip c.loop-place.invariant.so_far c.key_and_line-key.ensures (sym c.if-not-begins_below.ensures);
  room = omega arith;
}

pub returns-in_default-clause-none : goal.returns-in_default-clause-none
returns-in_default-clause-none c =
    let rows = c.prepare_line_cut.new.self.rows in
    c.drop_prepared.ensures.rows ∙ none_left rows ∙ sym (ap (each_line without_next) c.drop_prepared.ensures.rows)

pub returns-in_default-clause-kept : goal.returns-in_default-clause-kept
returns-in_default-clause-kept c = ap nows c.drop_prepared.ensures.rows ∙ nows_left c.prepare_line_cut.new.self.rows ∙ c.prepare_line_cut.ensures.kept ∙ same_nows c.loop-place.invariant.so_far

pub returns : goal.returns
returns c =
    let so_far = c.loop-place.invariant.so_far in
    let seen = ap (λ (v : LinesView). length v.rows) c.self.view_is in
    let all : length c.args.self.now.rows ≤ c.loop-place.place = omega (arith, seen, c.len-place-end.ensures.len) in
    record {
      kept_lines = all_kept so_far all;
      verdict = all_joined so_far all;
      next = changed-all (with_cut c.args.n) c.args.self.now.rows c.loop-place.place so_far.changed all;
      counted = all_counted so_far all;
      none = search rules;
      kept = same_nows so_far;
      room = omega arith;
    }
