use Rattle.std.proofs.Common.{◌≡◌, ℕ, Option, length, sym, ap, ◌∙◌, subst, arith}
use Rattle.linspec.specs.KeyHistory.{judged_by}
use Rattle.checkpoints.specs.KeyLineView.{KeyLineView, with_next, count_on}
use Rattle.monitor.specs.Rows.{nows, events_of_row, events_at}
use Rattle.monitor.specs.Judged.{IsRebuilt}
use Rattle.monitor.proofs.Again.{none_rebuilt}
use Rattle.monitor.proofs.Changing.{line_after}
use Rattle.monitor.proofs.Joins.{now_read}
use Rattle.monitor.proofs.Places.{row_within}
use Rattle.monitor.proofs.Prepared.{rebuilt_at}
use Rattle.monitor.proofs.line_changes.prepare_rebuild.Goals as goal

pub returns-clause-rebuilt : goal.returns-clause-rebuilt
returns-clause-rebuilt c =
    subst (λ (o : Option ℕ). IsRebuilt c.args.kind c.args.budget o c.args.lines.now c.prepare_rebuild.new.self c.joined_with.result) (sym c.in-Some.is)
    (rebuilt_at c.in_ok-status.status (rw c.in-Some.is at c.requires.within) c.in_ok-status.ensures.status c.in_ok-status.ensures.next c.in_ok-status.ensures.kept c.joined_with.ensures)

pub returns-in_default-clause-counted : goal.returns-in_default-clause-counted
returns-in_default-clause-counted c = none_rebuilt c.args.place (nows c.args.lines.now.rows) c.args.judged_again.now c.in_default.not-Some (omega arith)

pub returns-clause-counted : goal.returns-clause-counted
returns-clause-counted c =
    let rows = c.args.lines.now.rows in
    let row = row_within rows c.in-Some.place (rw c.in-Some.is at c.requires.within) in
    let due = line_after rows c.in-Some.place row.1 (λ (l : KeyLineView). with_next (judged_by c.args.kind c.args.budget l.now) (length l.now.events) l) c.in_ok-status.ensures.next c.key_and_line.ensures in
    subst (λ (o : Option ℕ). c.saturating_add.result ≡ count_on c.args.judged_again.now (events_at o (nows rows))) (sym c.in-Some.is)
    (c.saturating_add.ensures ∙ ap (count_on c.args.judged_again.now) (c.prepared_replays.ensures ∙ ap (λ (l : KeyLineView). l.prepared_replays) due ∙ sym (ap events_of_row (now_read rows c.in-Some.place row.0.0 row.0.1 row.1))))
