use Rattle.std.proofs.Common.{◌≡◌, ◌≤ℤ◌, ◌-ℤ◌, ◌+◌, ◌<◌, ◌-◌, ◌^◌, ℕ, pos, get_or, take, length, FitsSigned, to_z, of_z, w64, rules, ap, sym, ◌∙◌, arith, length-append}
use Rattle.std.specs.Prelude.{min, unsigned_abs}
use Rattle.std.proofs.lemmas.Int.{to_z-of_z}
use Rattle.std.proofs.lemmas.List.{take_all}
use Rattle.values.specs.declared.span_row.Span.{Span}
use Rattle.values.specs.Spans.{from_to, integers_in}
use Rattle.values.proofs.InSpans.{length-from_to}
use Rattle.values.proofs.Joining.{integers_more, not_turned}
use Rattle.values.proofs.spans.room_of.Goals as goal

pub loop-at-preserved : goal.loop-at-preserved
loop-at-preserved c =
    let spans = c.args.spans.now in
    let at = c.loop-at.at in
    let none : Span = record { from = pos 0; to = pos 0 } in
    let x = (get_or spans at none).from in
    let y = (get_or spans at none).to in
    let lt : at < length spans = c.loop-at-test.true in
    let some : x ≤ℤ y = not_turned spans at none c.requires lt in
    let x_fits : FitsSigned w64 x = search rules in
    let y_fits : FitsSigned w64 y = search rules in
    let far : c.abs_diff.result ≡ unsigned_abs (y -ℤ x) =
    c.abs_diff.ensures ∙ ap (λ z. unsigned_abs (z -ℤ to_z w64 (of_z w64 x))) (to_z-of_z w64 y y_fits) ∙ ap (λ z. unsigned_abs (y -ℤ z)) (to_z-of_z w64 x x_fits) in
    let here : length (from_to x y) ≡ c.abs_diff.result + 1 = length-from_to x y some ∙ ap (λ (n : ℕ). n + 1) (sym far) in
    let more : length (integers_in (take (at + 1) spans)) ≡ length (integers_in (take at spans)) + length (from_to x y) =
    ap length (integers_more spans at none lt) ∙ length-append (integers_in (take at spans)) (from_to x y) in
    let first = c.saturating_add.ensures in
    let second = c.saturating_add-room.ensures in
    let so_far = c.loop-at.invariant in
    omega (arith, more, here, first, second, so_far)

pub returns : goal.returns
returns c = c.loop-at.invariant ∙ ap (λ l. min (length (integers_in l)) (2 ^ 64 - 1)) (take_all c.loop-at.at c.args.spans.now c.loop-at-test.false)
