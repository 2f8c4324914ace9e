use Rattle.std.proofs.Common.{◌≡◌, ◌++◌, ◌∷◌, [], arith, length, map, ap, sym, ◌∙◌}
use Rattle.std.proofs.lemmas.List.{length-map, map_push, take_all}
use Rattle.linspec.specs.Ends.{End}
use Rattle.moves.specs.KeptEnds.{end_kept}
use Rattle.moves.specs.EndSteps.{after_crash}
use Rattle.interner.proofs.Lists.{mapped_at, taken_more}
use Rattle.ends.proofs.after.crashed_ends.Goals as goal

pub loop-kept-preserved : goal.loop-kept-preserved
loop-kept-preserved g c =
    let here = mapped_at end_kept c.args.ends.now c.loop-kept.kept-index c.kept-item.result (omega arith) c.kept-item.is in
    let crashed = λ (e : End g.row.M-State.Denot). after_crash c.args.counts e c.args.id in
    let is = c.in_ok-crash.ensures ∙ ap crashed c.in_ok-end.ensures in
    ap (map end_kept) c.in_ok-push.ensures.items ∙ map_push end_kept c.loop-kept.after.items c.crash.new.self
    ∙ (λ i. c.loop-kept.invariant i ++ is i ∷ [])
    ∙ sym (ap (map crashed) (taken_more (map end_kept c.args.ends.now) c.loop-kept.kept-index (end_kept c.kept-item.result) here) ∙ map_push crashed _ (end_kept c.kept-item.result))

pub returns : goal.returns
returns g c =
    c.loop-kept.invariant
    ∙ ap (map (λ (e : End g.row.M-State.Denot). after_crash c.args.counts e c.args.id)) (take_all c.loop-kept.kept-index (map end_kept c.args.ends.now) (let l : length (map (end_kept {S = g.row.M-State.Denot}) c.args.ends.now) ≡ length c.args.ends.now = length-map c.args.ends.now end_kept in omega (arith, l)))
