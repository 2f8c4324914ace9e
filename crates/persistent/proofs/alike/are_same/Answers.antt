use Rattle.std.proofs.Common.{rules, ◌≡◌, ◌+◌, ◌≤◌, true, length, sym, ap, arith}
use Rattle.std.proofs.lemmas.Bool.{true≢false}
use Rattle.persistent.proofs.Eights.{rest, some_value, same_at, eight_more, same_whole}
use Rattle.persistent.proofs.alike.are_same.Goals as goal

pub returns : goal.returns
returns g c =
    let xs = c.args.xs.now in
    let ys = c.args.ys.now in
    let at = c.loop-at.at in
    ((λ is. same_whole xs ys at c.loop-at.invariant.same (c.few_are_same.ensures.0 is)), (λ e. c.few_are_same.ensures.1 (ap (rest at) e)))

pub returns-then-not-eight_are_same : goal.returns-then-not-eight_are_same
returns-then-not-eight_are_same g c =
    let xs = c.args.xs.now in
    let ys = c.args.ys.now in
    let more = c.loop-at-test.true in
    let d = some_value xs (omega (arith, more)) in (
      (λ t. absurd (true≢false (sym t))),
      (λ e.
          let alike : c.eight_are_same.result ≡ true = (c.eight_are_same.ensures d).1 (same_at xs ys c.loop-at.at d e) in
          absurd (cc)),
    )

pub loop-at-preserved : goal.loop-at-preserved
loop-at-preserved g c =
    let xs = c.args.xs.now in
    let ys = c.args.ys.now in
    let more = c.loop-at-test.true in
    let d = some_value xs (omega (arith, more)) in
    let within : c.loop-at.at + 8 ≤ length xs = omega (arith, more) in
    let alike : c.eight_are_same.result ≡ true = search rules in
    record {
      within = within;
      same = eight_more xs ys c.loop-at.at d within c.if-xs-ys.false ((c.eight_are_same.ensures d).0 alike) c.loop-at.invariant.same;
    }
