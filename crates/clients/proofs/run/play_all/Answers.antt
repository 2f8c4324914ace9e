use Rattle.std.proofs.Common.{ℕ, sym, subst, arith}
use Rattle.std.specs.Prelude.{slice_index_or}
use Rattle.clients.specs.Plays.{HasPlayed}
use Rattle.clients.proofs.Results.{ok_both}
use Rattle.clients.proofs.run.play_all.Goals as goal

pub returns-clause-played : goal.returns-clause-played
returns-clause-played g c =
    let view = g.M.SharedBoard.view in
    ok_both c.map_vec-played.result c.map_vec-played.ensures.len c.map_vec-played.ensures.each (λ all len gives. record {
      count = omega (arith, len, all.ok.0, c.args.clients.ok.0);
      each = λ k d e within well.
          let job = (gives k e within).1 in
          subst (λ (x : ℕ × _). HasPlayed x.0 (view x.1) (view (slice_index_or all.items k e).seat)) (sym (job.job_is d)) (job.call.met.0 well);
    })
