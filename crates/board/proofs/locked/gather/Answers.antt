use Rattle.std.proofs.Common.{◌≡◌, ◌∷◌, [], ap, sym, ◌∙◌, subst, arith, rules, length-append}
use Rattle.std.specs.List.{All}
use Rattle.std.proofs.lemmas.Iterator.Adapters.{YieldsList-from_vec}
use Rattle.std.proofs.lemmas.Iterator.Consumers.{YieldsList-end}
use Rattle.std.proofs.lemmas.List.{map-id}
use Rattle.std.proofs.lemmas.List.Sums.{sum_by-append}
use mathlib.Core.List.{IsPrefix}
use Rattle.board.proofs.Gathering.{all_on}
use Rattle.board.proofs.locked.gather.Goals as goal

pub loop-seat-preserved : goal.loop-seat-preserved
loop-seat-preserved g c =
    let inv = c.loop-seat.invariant in
    let is = c.seat.view_is in
    let front = c.args.tape.now in
    let done = c.loop-seat.yielded in
    let x = c.in-Some.seat in
    let mine : IsPrefix x.tape front = subst (λ l. IsPrefix x.tape l) inv.6 (subst (λ s. IsPrefix s.tape c.loop-seat.tape) is (subst (λ l. IsPrefix l c.loop-seat.tape) c.tape.ensures c.confirm.ensures.begins)) in
    let parts = c.seat.invariant.0 in
    let count : c.seat.inside.share.amount ≡ x.count = ap (λ s. s.count) is in (
      tt,
      tt,
      all_on (λ s. IsPrefix s.tape front) done x inv.2 mine,
      omega (arith, c.merge.ensures.parts, parts, inv.3, length-append done (x ∷ [])),
      omega (arith, c.merge.ensures.amount, count, inv.4, sum_by-append (λ s. s.count) done (x ∷ [])),
      inv.5,
      c.confirm.ensures.same ∙ inv.6,
    )

pub loop-seat-preserved-in-Some : goal.loop-seat-preserved-in-Some
loop-seat-preserved-in-Some g c =
    let inv = c.loop-seat.invariant in
    let is = c.seat.view_is in
    let front = c.args.tape.now in
    let done = c.loop-seat.yielded in
    let x = c.in-Some.seat in
    let mine : IsPrefix x.tape front = subst (λ l. IsPrefix x.tape l) inv.6 (subst (λ s. IsPrefix s.tape c.loop-seat.tape) is (subst (λ l. IsPrefix l c.loop-seat.tape) c.tape.ensures c.confirm.ensures.begins)) in
    let parts = c.seat.invariant.0 in
    let count : c.seat.inside.share.amount ≡ x.count = ap (λ s. s.count) is in (
      tt,
      tt,
      all_on (λ s. IsPrefix s.tape front) done x inv.2 mine,
      omega (arith, c.merge.ensures.parts, parts, inv.3, length-append done (x ∷ [])),
      omega (arith, c.merge.ensures.amount, count, inv.4, sum_by-append (λ s. s.count) done (x ∷ [])),
      inv.5,
      c.confirm.ensures.same ∙ inv.6,
    )

pub returns-clause-begins : goal.returns-clause-begins
returns-clause-begins g c =
    let end = YieldsList-end (YieldsList-from_vec {s = c.into_iter-seat-iterator.result} c.args.seats.items (search rules) (search rules)) c.loop-seat.yielded c.loop-seat.seat-iterator c.loop-seat.yielded_by c.next.result c.next.new.self c.in-None.is c.next.ensures.steps in
    let all : c.loop-seat.yielded ≡ c.args.seats.items = sym (map-id c.loop-seat.yielded) ∙ end.0 in
    subst (λ l. All (λ s. IsPrefix s.tape c.args.tape.now) l) all c.loop-seat.invariant.2
