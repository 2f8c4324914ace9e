use Rattle.plain_events.proofs.Runs.{string_more, string_closed}
use Rattle.plain_events.proofs.strings.past_string.Goals as goal

pub returns-in-Some : goal.returns-in-Some
returns-in-Some c =
    string_closed c.args.text.now c.runs.rest.now c.run_at.result.0.now c.run_at.result.1.now c.in-Some.closed.now
    c.run_at.ensures.whole c.run_at.ensures.inside c.in-Ok.ensures.cases.1 c.in-Some.ensures c.runs.invariant

pub runs-preserved : goal.runs-preserved
runs-preserved c =
    let h = c.in_ok-rest.ensures in
    string_more c.args.text.now c.runs.rest.now c.run_at.result.0.now c.run_at.result.1.now c.in_ok-rest.rest.now h.0
    c.run_at.ensures.whole c.run_at.ensures.inside c.in-Ok.ensures.cases.1 h.1 h.2 c.runs.invariant
