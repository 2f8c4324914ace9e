use Rattle.std.proofs.Common.{◌≡◌, ◌+◌, ◌-◌, ◌*◌, ◌%◌, ◌^◌, ◌∷◌, ℕ, w64, ap, ◌∙◌}
use Rattle.std.proofs.lemmas.Int.{to_z-of_z}
use Rattle.values.specs.Sums.{mixed}
use Rattle.values.specs.Rolled.{rolled}
use Rattle.values.proofs.Rolling.{rolled-rest}
use Rattle.values.proofs.items.sum_without_front.Goals as goal

pub returns : goal.returns
returns c values is weighs =
    let x = c.args.front in
    let here : c.mixed.result ≡ mixed x = c.mixed.ensures ∙ ap mixed (to_z-of_z w64 x c.ranges.front) in
    ap (λ (n : ℕ). (c.args.sum + (2 ^ 128 - (c.args.weight * n) % 2 ^ 128)) % 2 ^ 128) here
    ∙ ap (λ (n : ℕ). (n + (2 ^ 128 - (c.args.weight * mixed x) % 2 ^ 128)) % 2 ^ 128) is
    ∙ ap (λ (n : ℕ). (rolled (x ∷ values) + (2 ^ 128 - (n * mixed x) % 2 ^ 128)) % 2 ^ 128) weighs
    ∙ rolled-rest x values
