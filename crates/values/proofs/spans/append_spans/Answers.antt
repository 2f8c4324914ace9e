-- the integers of each span are put behind those of the spans before it
use Rattle.std.proofs.Common.{◌≤ℤ◌, ◌++◌, pos, get_or, take, FitsSigned, to_z, of_z, w64, rules, ap, sym, ◌∙◌, arith, append_assoc}
use Rattle.std.proofs.lemmas.Int.{ints, to_z-of_z}
use Rattle.std.proofs.lemmas.List.{take_all}
use Rattle.values.specs.declared.span_row.Span.{Span}
use Rattle.values.specs.Spans.{from_to, integers_in}
use Rattle.values.proofs.Joining.{integers_more, not_turned}
use Rattle.values.proofs.spans.append_spans.Goals as goal

pub append_integers-requires : goal.append_integers-requires
append_integers-requires c =
    let none : Span = record { from = pos 0; to = pos 0 } in
    let x = (get_or c.args.spans.now c.loop-at.at none).from in
    let y = (get_or c.args.spans.now c.loop-at.at none).to in
    let some : x ≤ℤ y = not_turned c.args.spans.now c.loop-at.at none c.requires c.loop-at-test.true in
    let x_fits : FitsSigned w64 x = search rules in
    let y_fits : FitsSigned w64 y = search rules in
    omega (arith, ints, some)

pub loop-at-preserved : goal.loop-at-preserved
loop-at-preserved c =
    let spans = c.args.spans.now in
    let at = c.loop-at.at in
    let none : Span = record { from = pos 0; to = pos 0 } in
    let x = (get_or spans at none).from in
    let y = (get_or spans at none).to in
    let old = c.args.items.now.items in
    let front = integers_in (take at spans) in
    let x_fits : FitsSigned w64 x = search rules in
    let y_fits : FitsSigned w64 y = search rules in
    c.in_ok-append_integers.ensures ∙ ap (λ l. l ++ from_to (to_z w64 (of_z w64 x)) (to_z w64 (of_z w64 y))) c.loop-at.invariant
    ∙ append_assoc old front (from_to (to_z w64 (of_z w64 x)) (to_z w64 (of_z w64 y)))
    ∙ ap (λ z. old ++ (front ++ from_to z (to_z w64 (of_z w64 y)))) (to_z-of_z w64 x x_fits)
    ∙ ap (λ z. old ++ (front ++ from_to x z)) (to_z-of_z w64 y y_fits)
    ∙ ap (λ l. old ++ l) (sym (integers_more spans at none c.loop-at-test.true))

pub returns : goal.returns
returns c = c.loop-at.invariant ∙ ap (λ l. c.args.items.now.items ++ integers_in l) (take_all c.loop-at.at c.args.spans.now c.loop-at-test.false)
