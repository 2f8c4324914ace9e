use Rattle.std.specs.Prelude.{Option}
use Rattle.std.proofs.Common.{◌≡◌, ℕ, List, [], ◌++◌, ap, refl, sym, ◌∙◌, append_assoc, subst}
use Rattle.std.proofs.lemmas.Result.{on_ok_weaker}
use Rattle.std.specs.Io.KnownBytes.{append_known}
use Rattle.line_loop.specs.Lines.{ended}
use Rattle.line_loop.specs.BetweenReads.{between, GoesOn, StopsIn}
use Rattle.line_loop.proofs.Results.{on_err}
use Rattle.line_loop.proofs.Running.{goes_nowhere, goes_then, stops_kept, stops_before, stops_then}
use Rattle.line_loop.proofs.session.Session.answer_piece.Goals as goal

pub loop-front-init : goal.loop-front-init
loop-front-init g c =
    let m = g.M.LineMachine in
    ([], refl, λ written. goes_nowhere m.may_reply (between m.state c.args.self.now written))

pub loop-front-preserved : goal.loop-front-preserved
loop-front-preserved g c =
    let m = g.M.LineMachine in
    let (taken, whole, went) = c.loop-front.invariant in
    let front = ended c.in-Some.front.now in (
      taken ++ front,
      whole ∙ ap (λ l. taken ++ l) c.in-Some.ensures.whole ∙ sym (append_assoc taken front c.in-Some.others.now),
      λ written. goes_then m.may_reply taken front (between m.state c.args.self.now written) (between m.state c.loop-front.self written) (between m.state c.answer_front.new.self written) (went written) (c.in_ok-answer_front.ensures.ok written),
    )

pub returns-in_err-answer_front-clause-err : goal.returns-in_err-answer_front-clause-err
returns-in_err-answer_front-clause-err g c =
    let m = g.M.LineMachine in
    let (taken, whole, went) = c.loop-front.invariant in
    let front = ended c.in-Some.front.now in
    let replies = c.answer_front.new.self.replies in
    let all : taken ++ front ++ c.in-Some.others.now ≡ c.args.piece.now = append_assoc taken front c.in-Some.others.now ∙ sym (whole ∙ ap (λ l. taken ++ l) c.in-Some.ensures.whole) in
    let stops : (written : Option (List ℕ)) → StopsIn m.may_reply c.args.piece.now (between m.state c.args.self.now written) (append_known written replies) = λ written.
    let here = between m.state c.args.self.now written in
    let mid = between m.state c.loop-front.self written in
    let after = append_known written replies in
    let stopped = stops_kept m.may_reply m.state front c.loop-front.self replies written c.in_err-answer_front.ensures.kept in
    subst (λ l. StopsIn m.may_reply l here after) all (stops_before m.may_reply (taken ++ front) c.in-Some.others.now here after (stops_then m.may_reply taken front here mid after (went written) stopped)) in
    on_err _ stops

pub returns-clause-err : goal.returns-clause-err
returns-clause-err g c =
    let m = g.M.LineMachine in
    let (taken, whole, went) = c.loop-front.invariant in
    let replies = c.hold.new.self.replies in
    let stops : (written : Option (List ℕ)) → StopsIn m.may_reply c.args.piece.now (between m.state c.args.self.now written) (append_known written replies) = λ written.
    let here = between m.state c.args.self.now written in
    let mid = between m.state c.loop-front.self written in
    let after = append_known written replies in
    let stopped = stops_kept m.may_reply m.state c.loop-front.rest.now c.loop-front.self replies written c.hold.ensures.replies in
    subst (λ l. StopsIn m.may_reply l here after) (sym whole) (stops_then m.may_reply taken c.loop-front.rest.now here mid after (went written) stopped) in
    on_err _ stops

pub returns-clause-ok : goal.returns-clause-ok
returns-clause-ok g c =
    let m = g.M.LineMachine in
    let (taken, whole, went) = c.loop-front.invariant in
    on_ok_weaker c.hold.result (λ went_on written.
    let here = between m.state c.args.self.now written in
    let mid = between m.state c.loop-front.self written in
    let there = between m.state c.hold.new.self written in
    subst (λ l. GoesOn m.may_reply l here there) (sym whole) (goes_then m.may_reply taken c.loop-front.rest.now here mid there (went written) (went_on written))) c.hold.ensures.ok
