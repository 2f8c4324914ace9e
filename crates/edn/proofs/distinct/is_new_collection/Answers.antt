use Rattle.std.proofs.Common.{sym, ap, ◌∙◌, subst, map, ◌≢◌, true}
use Rattle.std.specs.Ordering.{nat_cmp}
use Rattle.std.specs.BTreeSet.{contains}
use Rattle.edn.specs.View.{value_of, list_of}
use Rattle.edn.proofs.Told.{new_number, is_new_number, told_kept, number_there}
use Rattle.edn.proofs.distinct.is_new_collection.Goals as goal

pub returns-then-is_first-clause-is : goal.returns-then-is_first-clause-is
returns-then-is_first-clause-is g c =
    let s = c.args.digests.now in
    let v = value_of c.args.key.now in
    let new = is_new_number c.in_ok-is_first.is_first (contains nat_cmp s c.digest.result) c.in_ok-is_first.ensures.added c.if-is_first.true in
    ((λ t. new_number s (list_of (map g.T.Keyed.key_value c.args.items.now)) v c.requires.key c.requires.had (subst (λ k. contains nat_cmp s k ≢ true) c.digest.ensures new)), (λ n. c.if-is_first.true))

pub returns-then-is_first-clause-has : goal.returns-then-is_first-clause-has
returns-then-is_first-clause-has g c =
    let t = c.insert.new.self in (
      (λ i. ap (contains nat_cmp t) (sym c.digest.ensures) ∙ number_there c.args.digests.now t c.digest.result c.in_ok-is_first.ensures.updates.0),
      told_kept c.args.digests.now t (list_of (map g.T.Keyed.key_value c.args.items.now)) c.digest.result c.in_ok-is_first.ensures.updates.0 c.requires.had,
    )

pub returns-else-is_first-clause-has : goal.returns-else-is_first-clause-has
returns-else-is_first-clause-has g c =
    let t = c.insert.new.self in (
      (λ i. ap (contains nat_cmp t) (sym c.digest.ensures) ∙ number_there c.args.digests.now t c.digest.result c.in_ok-is_first.ensures.updates.0),
      told_kept c.args.digests.now t (list_of (map g.T.Keyed.key_value c.args.items.now)) c.digest.result c.in_ok-is_first.ensures.updates.0 c.requires.had,
    )
