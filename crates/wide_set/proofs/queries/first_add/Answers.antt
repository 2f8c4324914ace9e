use Rattle.std.proofs.Common.{ℕ, ◌≡◌, ◌≤◌, ◌⊎◌, ⊎_elim, sym, subst, arith}
use Rattle.wide_set.specs.Facts.{HasLogged, HasPendingAdd}
use Rattle.wide_set.specs.Queries.{earlier_of}
use Rattle.wide_set.proofs.Searching.{both_found, both_least, right_found}
use Rattle.wide_set.proofs.queries.first_add.Goals as goal

pub returns-in-Some-clause-found : goal.returns-in-Some-clause-found
returns-in-Some-clause-found c =
    let P = λ (n : ℕ). HasLogged c.args.log.now c.args.value.now n in
    let Q = λ (n : ℕ). HasPendingAdd c.args.pending.now c.args.but c.args.value.now n in
    subst (λ (n : ℕ). P n ⊎ Q n) (sym c.earlier.ensures) (both_found P Q c.in-Some.moment c.in-Some.ensures.found c.in-Some.ensures.least c.first_pending-first.result c.first_pending-first.ensures.found)

pub returns-in-Some-clause-least : goal.returns-in-Some-clause-least
returns-in-Some-clause-least c m h =
    let P = λ (n : ℕ). HasLogged c.args.log.now c.args.value.now n in
    let Q = λ (n : ℕ). HasPendingAdd c.args.pending.now c.args.but c.args.value.now n in
    let le : earlier_of c.first_pending-first.result c.in-Some.moment ≤ m = both_least P Q c.in-Some.moment c.in-Some.ensures.found c.in-Some.ensures.least c.first_pending-first.result c.first_pending-first.ensures.least m h in
    let is : c.earlier.result ≡ earlier_of c.first_pending-first.result c.in-Some.moment = c.earlier.ensures in
    omega arith

pub returns-in-None-clause-found : goal.returns-in-None-clause-found
returns-in-None-clause-found c = right_found (λ (n : ℕ). HasLogged c.args.log.now c.args.value.now n) (λ (n : ℕ). HasPendingAdd c.args.pending.now c.args.but c.args.value.now n) c.first_pending-first.result c.first_pending-first.ensures.found

pub returns-in-None-clause-least : goal.returns-in-None-clause-least
returns-in-None-clause-least c m h = ⊎_elim (λ k. absurd (c.in-None.ensures.least m k)) (λ k. c.first_pending-first.ensures.least m k) h
