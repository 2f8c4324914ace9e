use Rattle.std.proofs.Common.{◌≡◌, ◌+◌, ◌*◌, ◌%◌, ◌^◌, ℕ, w64, sym, ap, ◌∙◌}
use Rattle.std.proofs.Math.Nat.{mod-add-mod}
use Rattle.std.proofs.lemmas.Int.{to_z-of_z}
use Rattle.values.specs.Sums.{mixed}
use Rattle.values.specs.Rolled.{ratio}
use Rattle.values.proofs.Rolling.{rolled-push}
use Rattle.values.proofs.items.sum_with.Goals as goal

pub returns : goal.returns
unfolding ratio
returns c values is =
    let v = c.args.value in
    let here : c.mixed.result ≡ mixed v = c.mixed.ensures ∙ ap mixed (to_z-of_z w64 v c.ranges.value) in
    mod-add-mod (c.args.sum * ratio) (2 ^ 128) c.mixed.result ∙ ap (λ (n : ℕ). (c.args.sum * ratio + n) % 2 ^ 128) here
    ∙ ap (λ (n : ℕ). (n * ratio + mixed v) % 2 ^ 128) is ∙ sym (rolled-push values v)
