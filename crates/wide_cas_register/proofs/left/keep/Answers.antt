use Rattle.std.proofs.Common.{◌∙◌, subst, sym}
use Rattle.std.proofs.lemmas.Bool.{true≢false}
use Rattle.wide_cas_register.specs.Facts.{IsKeptIn}
use Rattle.wide_cas_register.proofs.Keeping.{kept_itself, put_apart, put_each, put_kept, put_old}
use Rattle.wide_cas_register.proofs.left.keep.Goals as goal

pub returns-then-is_covered-clause-old : goal.returns-then-is_covered-clause-old
returns-then-is_covered-clause-old c r h = kept_itself c.args.calls.now c.args.rows.now.items r h

pub returns-clause-each : goal.returns-clause-each
returns-clause-each c = rw c.in_ok-push.ensures.items (put_each c.args.calls.now c.args.rows.now.items c.leave_out.new.rows.items c.args.row c.leave_out.ensures)

pub returns-clause-old : goal.returns-clause-old
returns-clause-old c = rw c.in_ok-push.ensures.items (put_old c.args.calls.now c.args.rows.now.items c.leave_out.new.rows.items c.args.row c.leave_out.ensures)

pub returns-clause-kept : goal.returns-clause-kept
returns-clause-kept c = rw c.in_ok-push.ensures.items (put_kept c.args.calls.now c.args.rows.now.items c.leave_out.new.rows.items c.args.row c.leave_out.ensures)

pub returns-then-is_covered-clause-kept : goal.returns-then-is_covered-clause-kept
returns-then-is_covered-clause-kept c = subst (λ l. IsKeptIn c.args.calls.now l c.args.row) c.deref.ensures.value (c.is_covered.ensures.0 c.if-is_covered.true)

pub returns-clause-apart : goal.returns-clause-apart
returns-clause-apart c = rw c.in_ok-push.ensures.items (put_apart c.args.calls.now c.args.rows.now.items c.leave_out.new.rows.items c.args.row c.leave_out.ensures
    (λ k. true≢false (sym (c.is_covered.ensures.1 (subst (λ l. IsKeptIn c.args.calls.now l c.args.row) (sym c.deref.ensures.value) k)) ∙ c.if-is_covered.false)))
