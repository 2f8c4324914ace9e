use Rattle.std.proofs.Common.{◌++◌, ◌∷◌, [], take, get_or, ap, sym, ◌∙◌, arith}
use Rattle.std.proofs.lemmas.List.{append_assoc, append-nil, take_all, take_more}
use Rattle.products.proofs.appending.append.Goals as goal

pub loop-set-init : goal.loop-set-init
loop-set-init c = record {
  items = c.reserve.ensures.items ∙ sym (append-nil c.args.list.now.items);
  room = omega (arith, c.in_ok-reserve.ensures.ok);
}

pub push_reserved-requires : goal.push_reserved-requires
push_reserved-requires c = omega (arith, c.loop-set.invariant.room, c.loop-set-test.true)

pub loop-set-preserved : goal.loop-set-preserved
loop-set-preserved c =
    let was = c.args.list.now.items in
    let at = c.loop-set.set-index in
    let sets = c.args.sets.now in
    record {
      items =
          c.push_reserved.ensures.items
          ∙ ap (λ l. l ++ get_or sets at 0 ∷ []) c.loop-set.invariant.items
          ∙ append_assoc was (take at sets) (get_or sets at 0 ∷ [])
          ∙ ap (λ l. was ++ l) (sym (take_more sets at 0 c.loop-set-test.true));
      room = omega (arith, c.loop-set.invariant.room, c.push_reserved.ensures.len, c.push_reserved.ensures.capacity);
    }

pub returns-clause-items : goal.returns-clause-items
returns-clause-items c =
    c.loop-set.invariant.items
    ∙ ap (λ l. c.args.list.now.items ++ l) (take_all c.loop-set.set-index c.args.sets.now c.loop-set-test.false)
