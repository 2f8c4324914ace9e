use Rattle.std.proofs.lemmas.Result.{on_ok_weaker}
use Rattle.ends.proofs.Marking.{left_failed}
use Rattle.ends.proofs.after.failed.Goals as goal

pub returns-in-Some : goal.returns-in-Some
returns-in-Some g c once at here ends shown =
    on_ok_weaker c.put_marked.result
    (left_failed c.args.table.now c.args.calls.now once c.in-Some.call c.args.id c.in-Some.ensures.there ends shown c.restart_like.new.self c.put_marked.new.self
    c.restart_like.ensures)
    c.put_marked.ensures

pub returns-in-None : goal.returns-in-None
returns-in-None g c once at here ends shown = absurd (c.place_of_open.ensures.none c.in-None.is at here)
