use Rattle.std.proofs.Common.{IsSomeAnd, ◌≡◌, ◌∷◌, ◌++◌, [], map, get_or, sym, ap, ◌∙◌, subst, arith}
use Rattle.std.proofs.lemmas.List.{map_push, take_all}
use Rattle.std.proofs.lemmas.Option.{slice_get-get_or}
use Rattle.moves.proofs.Showing.{end_at}
use Rattle.interner.proofs.Lists.{taken_more}
use Rattle.moves.specs.KeptEnds.{end_kept}
use Rattle.moves.specs.Tables.{rows_of}
use Rattle.moves.proofs.table.ends_of_table.Goals as goal
use Rattle.moves.proofs.table.ends_of_table.Goals.{in-Some+in_ok-push, in_default}

pub loop-row_at-preserved : goal.loop-row_at-preserved
loop-row_at-preserved g c once ends shown =
    let p = end_at c.args.calls.now c.args.table.now ends shown c.loop-row_at.row_at (get_or (rows_of c.args.table.now) c.loop-row_at.row_at []) (slice_get-get_or (rows_of c.args.table.now) c.loop-row_at.row_at [] (omega arith)) in
    let said = c.in_ok-kept.ensures once p.0 p.2 in
    elim c.match-branch-3.branch [
      | in-Some+in_ok-push w ↦ ap (λ all. map end_kept all.items) w.ends-is ∙ ap (map end_kept) w.in_ok-push.ensures.items ∙ map_push end_kept c.loop-row_at.ends.items w.in-Some.kept
          ∙ ap (λ e. map end_kept c.loop-row_at.ends.items ++ e ∷ []) (subst (λ o. IsSomeAnd o (λ k. end_kept k ≡ p.0)) w.in-Some.is said)
          ∙ ap (λ l. l ++ p.0 ∷ []) (c.loop-row_at.invariant once ends shown) ∙ sym (taken_more ends c.loop-row_at.row_at p.0 p.1)
      | in_default w ↦ absurd (subst (λ o. IsSomeAnd o (λ k. end_kept k ≡ p.0)) w.in_default.is said)
    ]

pub returns : goal.returns
returns g c once ends shown =
    c.loop-row_at.invariant once ends shown ∙ take_all c.loop-row_at.row_at ends (let l = shown.long in omega (arith, l))
