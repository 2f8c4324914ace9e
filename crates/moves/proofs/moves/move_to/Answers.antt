use Rattle.std.proofs.Common.{rules, ◌≡◌, ℕ, ◌∷◌, ◌++◌, [], length, refl, sym, ap, ◌∙◌, subst, arith, append-nil}
use Rattle.std.proofs.lemmas.Result.{IfOk-weaker}
use Rattle.models.specs.declared.finding.Found.{Found}
use Rattle.moves.specs.declared.moves.Move.TheVariants.{ToEach}
use Rattle.moves.specs.Moves.{AreTo, IsKnown, LeadsTo, targets_of}
use Rattle.moves.proofs.Moving.{are_to_none, are_to_with, alone, leads_each, on_ok}
use Rattle.moves.proofs.moves.move_to.Goals as goal

pub returns-in_ok-number-in-Some-clause-leads : goal.returns-in_ok-number-in-Some-clause-leads
returns-in_ok-number-in-Some-clause-leads g c =
    let t = c.target_of.new.table in
    let new = c.move_to_one.new.targets.items in
    let x : g.row.M-State.Denot × Found = (c.in-Some.state, c.in-Some.found) in
    let target : ℕ × ℕ = (c.in_ok-number-in-Some.number, c.in_ok-number-in-Some.slot) in
    let popped : c.args.outcomes.now.items ≡ c.pop.new.self.items ++ x ∷ [] = c.in-Some.ensures.items in
    let one : c.args.outcomes.now.items ≡ x ∷ [] = alone c.args.outcomes.now.items c.pop.new.self.items x popped (omega arith) in
    let are : AreTo t c.args.crashed c.args.outcomes.now.items (target ∷ []) = subst (λ l. AreTo t c.args.crashed l (target ∷ [])) (sym one) (are_to_with t c.args.crashed x [] [] target c.in_ok-number-in-Some.ensures.is (are_to_none t c.args.crashed)) in
    IfOk-weaker c.move_to_one.result (λ to. IsKnown to new × (targets_of to new ≡ target ∷ [])) (LeadsTo t c.args.crashed c.args.outcomes.now.items new)
    (λ to h. (h.0, subst (AreTo t c.args.crashed c.args.outcomes.now.items) (sym h.1) are))
    c.move_to_one.ensures.one

pub returns-in_ok-number-in-Some-clause-more : goal.returns-in_ok-number-in-Some-clause-more
returns-in_ok-number-in-Some-clause-more g c = c.move_to_one.ensures.more

pub returns-in-None-clause-more : goal.returns-in-None-clause-more
returns-in-None-clause-more g c = ([], sym (append-nil c.args.targets.now.items))

pub returns-then-len-gt1-clause-leads : goal.returns-then-len-gt1-clause-leads
returns-then-len-gt1-clause-leads g c =
    let put = c.in_ok-put_targets.ensures.put in
    let t = c.put_targets.new.table in
    let outcomes = c.args.outcomes.now.items in
    let new = c.put_targets.new.targets.items in
    let first = c.len-first.result in
    IfOk-weaker c.move_to_each_from.result (λ to. to ≡ ToEach first (length c.deref.result.now)) (LeadsTo t c.args.crashed outcomes new)
    (λ to is. subst (LeadsTo t c.args.crashed outcomes new) (sym (is ∙ ap (λ l. ToEach first (length l)) c.deref.ensures.value))
    (leads_each t c.args.crashed outcomes c.args.targets.now.items put.0 new first (length new) put.1 put.2 (search rules) refl))
    c.move_to_each_from.ensures

pub returns-then-len-gt1-clause-more : goal.returns-then-len-gt1-clause-more
returns-then-len-gt1-clause-more g c = let put = c.in_ok-put_targets.ensures.put in on_ok c.move_to_each_from.result (put.0, put.2)
