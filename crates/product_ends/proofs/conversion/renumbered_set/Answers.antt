use Rattle.std.proofs.Common.{◌≤◌, ◌+◌, ◌∙◌, ℕ, refl, sym, subst, arith}
use Rattle.std.proofs.lemmas.Bool.{true≢false}
use Rattle.std.proofs.lemmas.Result.{IfOk-weaker}
use Rattle.std.specs.Option.{IfSome}
use Rattle.std.proofs.lemmas.Option.{IfSome_then}
use Rattle.interner.specs.Numbers.{IsOnceIn}
use Rattle.events.specs.Events.{IsPrefixOf}
use Rattle.moves.proofs.Adding.{IsPrefixOf-itself, IsPrefixOf-trans}
use Rattle.product_ends.specs.Conversion.{IsSameFound}
use Rattle.product_ends.specs.Transitions.{IsAlone}
use Rattle.product_ends.proofs.Renumbering.{IsRenumberedTo, renumbered_alone, renumbered_bits, renumbered_more, renumbered_none, renumbered_skip}
use Rattle.product_ends.proofs.conversion.renumbered_set.Goals as goal
use Rattle.product_ends.proofs.conversion.renumbered_set.Goals.{then-has+in_ok-one+in-Some+in-Some-union, else-has}

pub returns-then-set-ge-HIGH-clause-set : goal.returns-then-set-ge-HIGH-clause-set
returns-then-set-ge-HIGH-clause-set c =
    IfOk-weaker c.renumbered_one.result _ _
    (λ found h. IfSome_then found h (λ set one. renumbered_alone c.args.old.now c.renumbered_one.new.new c.args.set set c.if-set-ge-HIGH.true one))
    c.renumbered_one.ensures.set

pub loop-number-init : goal.loop-number-init
loop-number-init c = record {
  front = IsPrefixOf-itself c.args.new.now;
  once = λ once. once;
  numbers = renumbered_none c.args.old.now c.args.new.now c.args.set 0 refl;
}

pub loop-number-preserved : goal.loop-number-preserved
loop-number-preserved c =
    let old = c.args.old.now in
    let mid = c.loop-number.new in
    let set = c.args.set in
    let n = c.loop-number.number in
    elim c.if-has.branch [
      | then-has+in_ok-one+in-Some+in-Some-union w ↦ (
          let new = w.renumbered_one-then-has.new.new in
          let front = w.in_ok-one.ensures.front in
          let one : (to : ℕ) × IsAlone w.in-Some.one to × IsSameFound old new n to =
          subst (λ found. IfSome found (λ set. (to : ℕ) × IsAlone set to × IsSameFound old new n to)) w.in-Some.is w.in_ok-one.ensures.set in
          record {
            front = subst (IsPrefixOf c.args.new.now) (sym w.new-is) (IsPrefixOf-trans c.args.new.now mid new c.loop-number.invariant.front front);
            once = λ once. subst IsOnceIn (sym w.new-is) (w.in_ok-one.ensures.once (c.loop-number.invariant.once once));
            numbers = subst (λ o. IsRenumberedTo old c.if-has.new set o (n + 1)) (sym w.other-is) (subst (λ l. IsRenumberedTo old l set w.in-Some-union.both (n + 1)) (sym w.new-is)
                (renumbered_more old mid set c.loop-number.other new n front c.loop-number.invariant.numbers w.in-Some.one w.in-Some-union.both (c.has.ensures.0 w.if-has.true) one w.in-Some-union.ensures));
          })
      | else-has w ↦
          record {
            front = subst (IsPrefixOf c.args.new.now) (sym w.new-is) c.loop-number.invariant.front;
            once = λ once. subst IsOnceIn (sym w.new-is) (c.loop-number.invariant.once once);
            numbers = subst (λ o. IsRenumberedTo old c.if-has.new set o (n + 1)) (sym w.other-is) (subst (λ l. IsRenumberedTo old l set c.loop-number.other (n + 1)) (sym w.new-is)
                (renumbered_skip old mid set c.loop-number.other mid n (IsPrefixOf-itself mid) c.loop-number.invariant.numbers (λ h. true≢false (sym (c.has.ensures.1 h) ∙ w.if-has.false))));
          }
    ]

pub returns-clause-set : goal.returns-clause-set
returns-clause-set c =
    let n = c.loop-number.number in
    let all : 63 ≤ n = omega arith in
    renumbered_bits c.args.old.now c.loop-number.new c.args.set c.loop-number.other n c.if-set-ge-HIGH.false all c.loop-number.invariant.numbers
