use Rattle.std.proofs.Common.{◌≡◌, ℕ, ◌^◌, ◌-◌, List, sym, ap, ◌∙◌, subst}
use Rattle.test_store.specs.declared.held.Held.{Held}
use Rattle.test_store.specs.Copies.{fresh_row}
use Rattle.test_store.specs.Store.{row_in, VersionsOf}
use Rattle.test_store.proofs.Attempting.{Says, row_is, row_fresh}
use Rattle.test_store.proofs.store.attempt.Goals as goal

pub take-requires-clause-versions : goal.take-requires-clause-versions
take-requires-clause-versions c =
    subst (λ (l : List Held). VersionsOf l (2 ^ 64 - 2)) (row_is c.args.rows.now.rows c.args.replicas c.args.kind c.args.op.now.key c.in-Some.row.now c.in-Some.ensures ∙ sym c.held.ensures) c.requires.versions

pub returns-in-Some : goal.returns-in-Some
returns-in-Some c =
    subst (λ (l : List Held). Says c.args.mode c.args.replicas c.args.links.now c.args.entry c.args.op.now l c.take.result)
    (sym (row_is c.args.rows.now.rows c.args.replicas c.args.kind c.args.op.now.key c.in-Some.row.now c.in-Some.ensures ∙ sym c.held.ensures)) c.take.ensures

pub returns-in_ok-fresh-in-None : goal.returns-in_ok-fresh-in-None
returns-in_ok-fresh-in-None c =
    let is : row_in c.args.rows.now.rows c.args.replicas c.args.kind c.args.op.now.key ≡ c.held-in-None.result.now =
    row_fresh c.args.rows.now.rows c.args.replicas c.args.kind c.args.op.now.key c.in-None.ensures
    ∙ ap (λ (n : ℕ). fresh_row n c.args.kind) (sym c.from.ensures) ∙ sym c.in_ok-fresh-in-None.ensures ∙ sym c.held-in-None.ensures in
    subst (λ (l : List Held). Says c.args.mode c.args.replicas c.args.links.now c.args.entry c.args.op.now l c.take-in-None.result) (sym is) c.take-in-None.ensures
