use Rattle.std.proofs.Common.{◌≡◌, FitsSigned, rules, subst, to_z, of_z, w64}
use Rattle.std.proofs.lemmas.Int.{to_z-of_z}
use Rattle.wide_register.proofs.Noting.{Noted, noted_if_any}
use Rattle.wide_register.proofs.row.note_any.Goals as goal

pub returns-in_ok-note-in-Some : goal.returns-in_ok-note-in-Some
returns-in_ok-note-in-Some c =
    let value = c.in-Some.value in
    let fits : FitsSigned w64 value = search rules in
    let same : to_z w64 (of_z w64 value) ≡ value = to_z-of_z w64 value fits in
    noted_if_any c.args.passed.now.items c.note.new.passed.items c.args.value value c.args.gap c.in-Some.is
    (subst (λ v. Noted c.args.passed.now.items c.note.new.passed.items v c.args.gap) same c.in_ok-note-in-Some.ensures)
