use Rattle.std.proofs.Common.{refl}
use Rattle.monitor.specs.Judged.{rows_of}
use Rattle.monitor.proofs.PrefixVerdicts.{has_join, statuses_of_rows}
use Rattle.monitor.proofs.fronts.some_verdict_law.Goals as goal

pub returns : goal.returns
returns c h statuses n may keys each =
    let join = has_join statuses in
    c.judged_prefixes_law.ensures h (rows_of h) join.0 n (c.judging_law.ensures h (rows_of h) join.0 may refl (statuses, statuses_of_rows h statuses each keys, join.1))
