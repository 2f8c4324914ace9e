use Rattle.std.proofs.Common.{true, false, ap, subst, ◌∙◌}
use Rattle.generators.specs.declared.search_result.SearchResult.TheVariants.{Declines}
use Rattle.generators.specs.Generators.{generator_of}
use Rattle.generators.specs.Draws.{ask_of, Draws, GivesItem, declines}
use Rattle.generators.specs.Moves.{outcome}
use Rattle.generators.specs.Words.{word}
use Rattle.generators.proofs.Items.{on_err, gives_found}
use Rattle.generators.proofs.source.Source.prepare.Goals as goal

pub returns-in-Declines-true-clause-answer : goal.returns-in-Declines-true-clause-answer
returns-in-Declines-true-clause-answer c =
    let a = ask_of c.args.asker c.args.idle.now in
    let g = generator_of c.self.inside.generator in
    let w = c.copy-words.result in
    let q = c.ask.new.words.place in
    let told = subst (λ f. Draws (word w.seed) a g w.place (outcome g f q)) (c.in-Declines-true.is ∙ ap Declines c.in-Declines-true.field-0-test) c.in_ok-item.ensures.answer in
    let held = subst (λ v. Draws (word v.seed) a g v.place (declines true q)) c.copy-words.ensures told in
    let seen = subst (λ s. Draws (word s.seed) a s.generator s.place (declines true q)) c.self.view_is held in
    ((q, seen), ap (λ s. s.generator) c.self.view_is, ap (λ s. s.place) c.self.view_is)

pub returns-in-Declines-false-clause-answer : goal.returns-in-Declines-false-clause-answer
returns-in-Declines-false-clause-answer c =
    let a = ask_of c.args.asker c.args.idle.now in
    let g = generator_of c.self.inside.generator in
    let w = c.copy-words.result in
    let q = c.ask.new.words.place in
    let told = subst (λ f. Draws (word w.seed) a g w.place (outcome g f q)) (c.in-Declines-false.is ∙ ap Declines c.in-Declines-false.field-0-test) c.in_ok-item.ensures.answer in
    let held = subst (λ v. Draws (word v.seed) a g v.place (declines false q)) c.copy-words.ensures told in
    let seen = subst (λ s. Draws (word s.seed) a s.generator s.place (declines false q)) c.self.view_is held in
    ((q, seen), ap (λ s. s.generator) c.self.view_is, ap (λ s. s.place) c.self.view_is)

pub returns-in_err-item-clause-item : goal.returns-in_err-item-clause-item
returns-in_err-item-clause-item c =
    let a = ask_of c.args.asker c.args.idle.now in
    let g = generator_of c.self.inside.generator in
    let w = c.copy-words.result in
    let held = subst (λ v. GivesItem (word v.seed) a g v.place) c.copy-words.ensures (gives_found (word w.seed) a g w.place c.in_err-item.ensures.item) in
    on_err c.from_residual.result (subst (λ s. GivesItem (word s.seed) a s.generator s.place) c.self.view_is held)
