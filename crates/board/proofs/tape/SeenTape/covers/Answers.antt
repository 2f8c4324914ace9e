use Rattle.std.proofs.Common.{◌≤◌, ap, subst, arith, length}
use mathlib.Core.List.{IsPrefix}
use Rattle.board.specs.TapeRule.{tape_of}
use Rattle.board.proofs.TapeSteps.{tape_prefix}
use Rattle.board.proofs.Prefixes.{prefix_shorter}
use Rattle.board.proofs.tape.SeenTape.covers.Goals as goal

pub returns : goal.returns
returns g c =
    let key = g.B.Tag.word.key in
    let both = c.learn.new.self.log in
    let this : IsPrefix c.self.inside.seen.log both = subst (λ l. IsPrefix l both) (ap (λ s. s.log) c.again-both.ensures) c.learn.ensures.2 in
    let less : length (tape_of key c.other.inside.seen.log) ≤ length (tape_of key c.self.inside.seen.log) = omega (arith, c.self.invariant.0, c.other.invariant.0) in
    rw (← c.self.view_is, ← c.other.view_is)
    (prefix_shorter (tape_of key c.other.inside.seen.log) (tape_of key c.self.inside.seen.log) (tape_of key both) (tape_prefix key c.other.inside.seen.log both c.learn.ensures.3) (tape_prefix key c.self.inside.seen.log both this) less)

pub returns-then-other-self : goal.returns-then-other-self
returns-then-other-self g c =
    let key = g.B.Tag.word.key in
    let both = c.learn.new.self.log in
    let this : IsPrefix c.self.inside.seen.log both = subst (λ l. IsPrefix l both) (ap (λ s. s.log) c.again-both.ensures) c.learn.ensures.2 in
    let less : length (tape_of key c.self.inside.seen.log) ≤ length (tape_of key c.other.inside.seen.log) = omega (arith, c.self.invariant.0, c.other.invariant.0, c.if-other-self.true) in
    rw (← c.self.view_is, ← c.other.view_is)
    (prefix_shorter (tape_of key c.self.inside.seen.log) (tape_of key c.other.inside.seen.log) (tape_of key both) (tape_prefix key c.self.inside.seen.log both this) (tape_prefix key c.other.inside.seen.log both c.learn.ensures.3) less)
