-- with another answer, or not
use Rattle.std.proofs.Common.{sym, refl, ◌∙◌}
use Rattle.std.proofs.lemmas.Bool.{true≢false}
use Rattle.witness.proofs.Ahead.{rejection_of, stop_of}
use Rattle.witness.proofs.queue.why_mismatch.Goals as goal

pub returns-then-branch : goal.returns-then-branch
returns-then-branch c = rejection_of c.args.calls.now c.args.at c.index-calls-at.result c.requires.within c.index-calls-at.is c.requires.can_run
    ((c.in_ok-can_come_next.ensures c.index-calls-at.result refl).0 c.if-branch.true) c.requires.rejected

pub returns-else-branch : goal.returns-else-branch
returns-else-branch c = stop_of c.args.calls.now c.args.at c.index-calls-at.result c.requires.within c.index-calls-at.is c.requires.can_run
    (λ r. true≢false (sym ((c.in_ok-can_come_next.ensures c.index-calls-at.result refl).1 r) ∙ c.if-branch.false))
