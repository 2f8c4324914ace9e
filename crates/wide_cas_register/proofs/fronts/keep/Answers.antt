use Rattle.std.proofs.Common.{◌∙◌, subst, sym}
use Rattle.std.proofs.lemmas.Bool.{true≢false}
use Rattle.wide_cas_register.specs.Fronts.{IsCovered}
use Rattle.wide_cas_register.proofs.Layering.{put_less, put_new, put_none}
use Rattle.wide_cas_register.proofs.fronts.keep.Goals as goal

pub returns-then-is_covered : goal.returns-then-is_covered
returns-then-is_covered c = put_none c.args.calls.now c.args.there.now c.args.front c.args.layer.now.items (c.is_covered.ensures.0 c.if-is_covered.true)

pub returns-then-is_covered-2 : goal.returns-then-is_covered-2
returns-then-is_covered-2 c = put_less c.args.calls.now c.args.there.now c.args.front c.args.layer.now.items
    (subst (λ l. IsCovered c.args.calls.now l c.args.front) c.deref.ensures.value (c.is_covered-2.ensures.0 c.if-is_covered-2.true))

pub returns : goal.returns
returns c = put_new c.args.calls.now c.args.there.now c.args.front c.args.layer.now.items c.leave_out.new.layer.items c.push.new.self.items c.leave_out.ensures c.in_ok-push.ensures.items
    (λ k. true≢false (sym (c.is_covered.ensures.1 k) ∙ c.if-is_covered.false))
    (λ k. true≢false (sym (c.is_covered-2.ensures.1 (subst (λ l. IsCovered c.args.calls.now l c.args.front) (sym c.deref.ensures.value) k)) ∙ c.if-is_covered-2.false))
