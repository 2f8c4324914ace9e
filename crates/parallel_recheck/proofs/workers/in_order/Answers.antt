use Rattle.std.proofs.Common.{◌≢◌, ◌∷◌, ◌++◌, [], sym, ap, ◌∙◌, arith}
use Rattle.parallel_recheck.proofs.Slots.{line_more}
use Rattle.parallel_recheck.proofs.workers.in_order.Goals as goal

pub line_in-line-requires : goal.line_in-line-requires
line_in-line-requires c =
    let here = c.requires c.loop-place.place (omega arith) in
    (here.0, c.loop-place.invariant.kept c.loop-place.place (omega arith) ∙ here.1)

pub loop-place-preserved : goal.loop-place-preserved
loop-place-preserved c =
    let place = c.loop-place.place in
    let line = c.line_in-line.result in
    record {
      kept = λ other le. (let ne : other ≢ place = omega arith in c.line_in-line.ensures.others other ne ∙ c.loop-place.invariant.kept other (omega arith));
      so_far = λ lines are.
          c.in_ok-push.ensures.items
          ∙ ap (λ l. l ++ line ∷ []) (c.loop-place.invariant.so_far lines are)
          ∙ sym (line_more lines place line (are.filled place line (sym (c.loop-place.invariant.kept place (omega arith)) ∙ c.line_in-line.ensures.line)));
    }
