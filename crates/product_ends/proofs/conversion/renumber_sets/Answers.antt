use Rattle.std.proofs.Common.{◌≡◌, ◌+◌, List, ℕ, get_or, length, refl, sym, subst, arith}
use Rattle.std.specs.Option.{IfSome}
use Rattle.moves.proofs.Adding.{IsPrefixOf-itself, IsPrefixOf-trans}
use Rattle.product_ends.specs.Conversion.{AreRenumbered, IsRenumbered}
use Rattle.product_ends.proofs.Renumbering.{sets_more, sets_none}
use Rattle.product_ends.proofs.conversion.renumber_sets.Goals as goal

pub loop-set-init : goal.loop-set-init
loop-set-init c = record {
  front = IsPrefixOf-itself c.args.new.now;
  once = λ once. once;
  sets = sets_none c.args.old.now c.args.new.now c.args.sets.now c.clear.new.self.items c.clear.ensures.items;
}

pub loop-set-preserved : goal.loop-set-preserved
loop-set-preserved c =
    let old = c.args.old.now in
    let mid = c.loop-set.new in
    let new = c.renumbered_set.new.new in
    let sets = c.args.sets.now in
    let n = c.loop-set.set-index in
    let front = c.in_ok-set.ensures.front in
    let one : IsRenumbered old new (get_or sets n 0) c.in-Some.set = subst (λ found. IfSome found (IsRenumbered old new (get_or sets n 0))) c.in-Some.is c.in_ok-set.ensures.set in
    record {
      front = IsPrefixOf-trans c.args.new.now mid new c.loop-set.invariant.front front;
      once = λ once. c.in_ok-set.ensures.once (c.loop-set.invariant.once once);
      sets = subst (λ l. AreRenumbered old new sets l (n + 1)) (sym {A = List ℕ} c.in_ok-push-in-Some.ensures.items)
          (sets_more old mid new sets c.loop-set.other.items n (get_or sets n 0) c.in-Some.set front refl c.loop-set.invariant.sets one);
    }

pub returns-in_err-set-clause-front : goal.returns-in_err-set-clause-front
returns-in_err-set-clause-front c = IsPrefixOf-trans c.args.new.now c.loop-set.new c.renumbered_set.new.new c.loop-set.invariant.front c.in_err-set.ensures.front

pub returns-in_err-set-clause-once : goal.returns-in_err-set-clause-once
returns-in_err-set-clause-once c once = c.in_err-set.ensures.once (c.loop-set.invariant.once once)

pub returns-in_err-push-in-Some-clause-front : goal.returns-in_err-push-in-Some-clause-front
returns-in_err-push-in-Some-clause-front c = IsPrefixOf-trans c.args.new.now c.loop-set.new c.renumbered_set.new.new c.loop-set.invariant.front c.in_ok-set.ensures.front

pub returns-in_err-push-in-Some-clause-once : goal.returns-in_err-push-in-Some-clause-once
returns-in_err-push-in-Some-clause-once c once = c.in_ok-set.ensures.once (c.loop-set.invariant.once once)

pub returns-in-None-clause-front : goal.returns-in-None-clause-front
returns-in-None-clause-front c = IsPrefixOf-trans c.args.new.now c.loop-set.new c.renumbered_set.new.new c.loop-set.invariant.front c.in_ok-set.ensures.front

pub returns-in-None-clause-once : goal.returns-in-None-clause-once
returns-in-None-clause-once c once = c.in_ok-set.ensures.once (c.loop-set.invariant.once once)

pub returns-clause-sets : goal.returns-clause-sets
returns-clause-sets c _ =
    let all : c.loop-set.set-index ≡ length c.args.sets.now = omega arith in
    subst (AreRenumbered c.args.old.now c.loop-set.new c.args.sets.now c.loop-set.other.items) all c.loop-set.invariant.sets
