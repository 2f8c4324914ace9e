use Rattle.std.proofs.Common.{sym, ◌∙◌, subst, get_or}
use Rattle.std.specs.List.{Contains}
use Rattle.std.proofs.lemmas.List.Elements.{Contains-get_or}
use Rattle.wide_set.specs.declared.log.Added.{Added}
use Rattle.wide_set.proofs.Loops.{with_here, of_all}
use Rattle.wide_set.proofs.Searching.{other_was, other_stays, other_is_in}
use Rattle.wide_set.proofs.log.Log.beyond.Goals as goal

pub loop-added-preserved : goal.loop-added-preserved
loop-added-preserved c =
    let xs = c.deref-added-items.result.now in
    let i = c.loop-added.added-index in
    let is = c.in_ok-next.ensures in
    record {
      was = other_was c.loop-added.log c.in_ok-next.next xs (get_or xs i _) c.args.values.now is (Contains-get_or xs i _ c.loop-added-test.true) c.loop-added.invariant.was;
      stays = with_here (λ (a : Added). ¬ Contains c.args.values.now a.value → Contains c.in_ok-next.next a) xs i _ c.loop-added-test.true
          (λ a h out. other_stays c.loop-added.log c.in_ok-next.next xs (get_or xs i _) c.args.values.now is a (c.loop-added.invariant.stays a h out))
          (other_is_in c.loop-added.log c.in_ok-next.next xs (get_or xs i _) c.args.values.now is);
    }

pub returns-clause-was : goal.returns-clause-was
returns-clause-was c a h = subst (λ l. Contains l a) (c.deref-added-items.ensures.value ∙ c.in_ok-list.ensures) (c.loop-added.invariant.was a h)

pub returns-clause-stays : goal.returns-clause-stays
returns-clause-stays c a h = of_all (λ (x : Added). ¬ Contains c.args.values.now x.value → Contains c.loop-added.log x) c.deref-added-items.result.now c.loop-added.added-index c.loop-added-test.false c.loop-added.invariant.stays a
    (subst (λ l. Contains l a) (sym (c.deref-added-items.ensures.value ∙ c.in_ok-list.ensures)) h)
