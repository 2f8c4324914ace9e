use Rattle.std.proofs.Common.{refl, subst, sym, arith}
use Rattle.std.specs.List.{AllZip}
use Rattle.wide_register.specs.Facts.{IsCut}
use Rattle.wide_register.proofs.Trimming.{settled, trimmed}
use Rattle.wide_register.proofs.row.Row.trim.Goals as goal

pub returns-clause-same : goal.returns-clause-same
returns-clause-same c =
    let row = c.args.self.now in
    let back = settled c.cut_gaps.new.passed row.passed.items row.passed.len (omega arith) in
    (trimmed c.args.moments.now row _ _ refl refl refl
    (subst (AllZip (IsCut c.args.moments.now) row.passed.items) (sym back) (subst (λ l. AllZip (IsCut c.args.moments.now) l c.cut_gaps.new.passed) c.deref_mut.ensures.value c.cut_gaps.ensures))
    c.leave_out_known.ensures).0

pub returns-clause-least : goal.returns-clause-least
returns-clause-least c =
    let row = c.args.self.now in
    let back = settled c.cut_gaps.new.passed row.passed.items row.passed.len (omega arith) in
    (trimmed c.args.moments.now row (record { state = row.state; needed = row.needed; door = row.door; passed = c.leave_out_known.new.passed }) _ refl refl refl
    (subst (AllZip (IsCut c.args.moments.now) row.passed.items) (sym back) (subst (λ l. AllZip (IsCut c.args.moments.now) l c.cut_gaps.new.passed) c.deref_mut.ensures.value c.cut_gaps.ensures))
    c.leave_out_known.ensures).1
