use Rattle.std.proofs.Common.{◌≡◌, Some, slice_get, length, refl, sym, ap, ◌∙◌}
use Rattle.std.proofs.lemmas.Option.{slice_get_read}
use Rattle.moves.specs.KeptEnds.{end_kept}
use Rattle.moves.proofs.Telling.{not_yet, told_more}
use Rattle.moves.proofs.table.include_at.Goals as goal

pub returns-in_ok-include-in-Some : goal.returns-in_ok-include-in-Some
returns-in_ok-include-in-Some g c once e shows a =
    let call = c.index-calls-at.result in
    let here : slice_get c.args.calls.now c.args.at ≡ Some call = slice_get_read c.args.calls.now (length c.args.calls.now) c.args.at call refl c.requires c.index-calls-at.is in
    told_more c.args.calls.now e (end_kept c.args.kept.now) c.args.at a call here once c.in_ok-copy-in-Some.field-0 (end_kept c.include.new.self)
    (sym (c.in-Some.ensures.found call e here shows) ∙ ap Some (sym c.in_ok-copy-in-Some.ensures))
    (c.in_ok-include-in-Some.ensures (not_yet c.args.calls.now e (end_kept c.args.kept.now) c.args.at a call here))
