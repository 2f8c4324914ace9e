use Rattle.std.proofs.Common.{inl, inr, ⊎_elim, ap}
use Rattle.std.proofs.lemmas.Result.{IfErr-weaker}
use Rattle.jepmon.proofs.Errors.{err_and}
use Rattle.jepmon.proofs.orders.script.Goals as goal

pub returns : goal.returns
returns g c =
    let e = c.run_script-outcome.ensures in
    let outcome = c.run_script-outcome.result in
    record {
      outcome = outcome;
      limits = ⊎_elim inl (λ h. inr (err_and outcome _ _ (λ why k. (k.0, ap g.R.Read.remaining k.1, ap g.W.Write.contents k.2)) h)) e.limits;
      done = e.done;
      live = e.live;
      flushed = e.flushed;
      stopped = IfErr-weaker outcome _ _ (λ why s. ⊎_elim (λ k. inl (k.0, ap g.R.Read.remaining k.1, ap g.W.Write.contents k.2)) inr s) e.stopped;
      kept_up = e.kept_up;
      kinds = e.kinds;
      read = e.read;
      reads_well = e.reads_well;
      wrote = e.wrote;
      writes_well = e.writes_well;
      ends = c.status_after.ensures;
    }
