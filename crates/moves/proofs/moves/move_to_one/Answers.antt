use Rattle.std.proofs.Common.{rules, ◌≡◌, ℕ, ◌∷◌, [], length, ap, ◌∙◌}
use Rattle.std.proofs.lemmas.Result.{IfOk-weaker}
use Rattle.moves.specs.declared.moves.Move.TheVariants.{ToEach}
use Rattle.moves.specs.Moves.{IsKnown, targets_of}
use Rattle.moves.proofs.Moving.{on_ok, to_last}
use Rattle.moves.proofs.moves.move_to_one.Goals as goal

pub returns-clause-one : goal.returns-clause-one
returns-clause-one c =
    let new = c.push.new.self.items in
    let target : ℕ × ℕ = (c.args.number, c.args.slot) in
    let first = c.len-first.result in
    IfOk-weaker c.move_to_each_from.result (λ to. to ≡ ToEach first (length c.deref.result.now)) (λ to. IsKnown to new × (targets_of to new ≡ target ∷ []))
    (λ to is. to_last c.args.targets.now.items new target first to c.in_ok-push.ensures.items (search rules) (is ∙ ap (λ l. ToEach first (length l)) c.deref.ensures.value))
    c.move_to_each_from.ensures

pub returns-clause-more : goal.returns-clause-more
returns-clause-more c = on_ok c.move_to_each_from.result ((c.args.number, c.args.slot) ∷ [], c.in_ok-push.ensures.items)
