use Rattle.std.proofs.Common.{◌++◌, ◌+◌, drop, take, ◌∙◌, sym, ap, subst, refl}
use Rattle.std.specs.List.{concat}
use Rattle.events.specs.Replicas.{AreApart, HasSeen}
use Rattle.events.proofs.Replicas.{numbers_in, numbers_in_more, numbers_in_cut, numbers_in_all, seen_apart}
use Rattle.events.proofs.groups.Groups.are_apart.Goals as goal

pub returns-then-not-mark : goal.returns-then-not-mark
returns-then-not-mark c =
    let groups = c.deref-group-items.result.now in
    let i = c.loop-group.group-index in
    let whole = ap numbers_in c.deref-group-items.ensures.value ∙ ap concat c.self.view_is in
    let cut = numbers_in_cut groups i c.group-item.result c.loop-group-test.true c.group-item.is in (
      λ h. cc,
      λ apart. absurd (c.if-not-mark.ensures (numbers_in (take i groups)) c.loop-group.invariant (numbers_in (drop (i + 1) groups))
          (subst AreApart (sym whole ∙ cut ∙ ap (λ l. (numbers_in (take i groups) ++ l) ++ numbers_in (drop (i + 1) groups)) (sym c.as_slice.ensures.value)) apart)),
    )

pub loop-group-preserved : goal.loop-group-preserved
loop-group-preserved c =
    let groups = c.deref-group-items.result.now in
    let i = c.loop-group.group-index in
    subst (HasSeen c.mark.new.seen)
    (ap (λ l. numbers_in (take i groups) ++ l) c.as_slice.ensures.value ∙ sym (numbers_in_more groups i c.group-item.result c.loop-group-test.true c.group-item.is))
    (c.if-not-mark.ensures (numbers_in (take i groups)) c.loop-group.invariant)

pub returns : goal.returns
returns c =
    let groups = c.deref-group-items.result.now in
    let whole = ap numbers_in c.deref-group-items.ensures.value ∙ ap concat c.self.view_is in (
      λ h. seen_apart c.loop-group.seen (concat c.args.self.now) (subst (HasSeen c.loop-group.seen) (numbers_in_all groups c.loop-group.group-index c.loop-group-test.false ∙ whole) c.loop-group.invariant),
      λ h. refl,
    )
