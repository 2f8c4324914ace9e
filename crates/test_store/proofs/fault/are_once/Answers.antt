use Rattle.std.proofs.Common.{◌++◌, ◌+◌, drop, take, ◌∙◌, sym, ap, subst, refl}
use Rattle.std.specs.List.{concat}
use Rattle.test_store.specs.Store.{AreOnce}
use Rattle.test_store.specs.Marked.{HasMarked}
use Rattle.test_store.proofs.Marking.{numbers_in, group_more, group_cut, groups_all, marked_once, starts}
use Rattle.test_store.proofs.fault.are_once.Goals as goal

pub loop-group-init : goal.loop-group-init
loop-group-init c = starts

pub returns-then-not-mark : goal.returns-then-not-mark
returns-then-not-mark c =
    let groups = c.groups-group-items.result.now in
    let i = c.loop-group.group-index in
    let cut = group_cut groups i c.group-item.result c.loop-group-test.true c.group-item.is in (
      λ h. cc,
      λ once. absurd (c.if-not-mark.ensures (numbers_in (take i groups)) c.loop-group.invariant (numbers_in (drop (i + 1) groups))
          (subst AreOnce (ap concat (sym c.groups-group-items.ensures) ∙ cut ∙ ap (λ l. (numbers_in (take i groups) ++ l) ++ numbers_in (drop (i + 1) groups)) (sym c.as_slice.ensures.value)) once)),
    )

pub loop-group-preserved : goal.loop-group-preserved
loop-group-preserved c =
    let groups = c.groups-group-items.result.now in
    let i = c.loop-group.group-index in
    subst (HasMarked c.mark.new.seen)
    (ap (λ l. numbers_in (take i groups) ++ l) c.as_slice.ensures.value ∙ sym (group_more groups i c.group-item.result c.loop-group-test.true c.group-item.is))
    (c.if-not-mark.ensures (numbers_in (take i groups)) c.loop-group.invariant)

pub returns : goal.returns
returns c =
    let groups = c.groups-group-items.result.now in (
      λ h. marked_once c.loop-group.seen (concat c.args.groups.now) (subst (HasMarked c.loop-group.seen) (groups_all groups c.loop-group.group-index c.loop-group-test.false ∙ ap concat c.groups-group-items.ensures) c.loop-group.invariant),
      λ h. refl,
    )
