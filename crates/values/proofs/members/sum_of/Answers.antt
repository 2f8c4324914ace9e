use Rattle.std.proofs.Common.{rules, ◌≡◌, ◌+◌, ◌%◌, ◌^◌, ℕ, ℤ, pos, take, get_or, ap, ◌∙◌, sym, FitsSigned, w64}
use Rattle.std.proofs.lemmas.Int.{to_z-of_z}
use Rattle.std.proofs.lemmas.List.{take_more, take_all}
use Rattle.values.specs.Sums.{mixed, sum_of}
use Rattle.values.proofs.Sums.{sum_of-none, sum_of-push}
use Rattle.values.proofs.members.sum_of.Goals as goal

pub loop-value-init : goal.loop-value-init
loop-value-init c = sym sum_of-none

pub loop-value-preserved : goal.loop-value-preserved
loop-value-preserved c =
    let xs = c.args.values.now in
    let i = c.loop-value.value-index in
    let x : ℤ = get_or xs i (pos 0) in
    let fits : FitsSigned w64 x = search rules in
    let here : c.mixed-sum.result ≡ mixed x = c.mixed-sum.ensures ∙ ap mixed (to_z-of_z w64 x fits) in
    ap (λ (n : ℕ). (n + c.mixed-sum.result) % 2 ^ 128) c.loop-value.invariant ∙ ap (λ (n : ℕ). (sum_of (take i xs) + n) % 2 ^ 128) here
    ∙ sym (sum_of-push (take i xs) x) ∙ ap sum_of (sym (take_more xs i (pos 0) c.loop-value-test.true))

pub returns : goal.returns
returns c = c.loop-value.invariant ∙ ap sum_of (take_all c.loop-value.value-index c.args.values.now c.loop-value-test.false)
