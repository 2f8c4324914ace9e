use Rattle.std.proofs.Common.{◌≡◌, [], sym, subst, ◌∙◌}
use Rattle.generators.specs.Turns.{turned}
use Rattle.generators.specs.Generators.{ops}
use Rattle.generators.specs.Draws.{ask_of, Draws, gives}
use Rattle.generators.proofs.Asked.{asks_none, asks_next, asks_others}
use Rattle.generators.proofs.Items.{on_err}
use Rattle.generators.proofs.asking.ask_ops.Goals as goal

pub returns-in-None-clause-answer : goal.returns-in-None-clause-answer
returns-in-None-clause-answer c = λ words idle p. asks_none words (ask_of c.args.asker idle) c.args.items.now p c.in-None.ensures

pub returns-in_ok-item-in-Some-clause-answer : goal.returns-in_ok-item-in-Some-clause-answer
returns-in_ok-item-in-Some-clause-answer c = λ words idle p.
    let items = c.args.items.now in
    let a = ask_of c.args.asker idle in
    let same : c.in_ok-item-in-Some.item ≡ c.in-Some.item.now = c.in_ok-item-in-Some.ensures in
    subst (λ x. Draws words a (ops items) p (gives x (ops (turned items)) p)) (sym same)
    (asks_next words a items c.in-Some.item.now p c.in-Some.ensures (sym c.is_for.ensures ∙ c.if-is_for.true))

pub returns-else-is_for-clause-answer : goal.returns-else-is_for-clause-answer
returns-else-is_for-clause-answer c = λ words idle p.
    asks_others words (ask_of c.args.asker idle) c.args.items.now c.in-Some.item.now p c.in-Some.ensures (sym c.is_for.ensures ∙ c.if-is_for.false)

pub returns-in_err-item-in-Some-clause-item : goal.returns-in_err-item-in-Some-clause-item
returns-in_err-item-in-Some-clause-item c = on_err c.from_residual.result (λ words idle p.
    (c.in-Some.item.now, [], p, asks_next words (ask_of c.args.asker idle) c.args.items.now c.in-Some.item.now p c.in-Some.ensures (sym c.is_for.ensures ∙ c.if-is_for.true)))
