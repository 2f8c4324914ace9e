use Rattle.std.proofs.Common.{ℕ, ◌+◌, ◌%◌, ◌^◌, sym, ap, ap₂, ◌∙◌}
use Rattle.edn.specs.View.{value_of, entries_of}
use Rattle.edn.specs.Digest.{stirred, digest, digest_pairs}
use Rattle.edn.proofs.Views.{view-Map}
use Rattle.edn.proofs.Digests.{order_more, members_more, pairs_more}
use Rattle.edn.proofs.digest.+digest.Goals as goal

pub digest-returns-in-Map : goal.digest-returns-in-Map
digest-returns-in-Map t c =
    c.with.ensures ∙ ap (λ (n : ℕ). stirred ((7 + n) % 2 ^ 64)) (c.digest_pairs.ensures ∙ ap (λ l. digest_pairs (entries_of l)) c.deref-in-Map.ensures.value)
    ∙ sym (ap digest (ap value_of c.in-Map.is ∙ view-Map c.in-Map.pairs))

pub digest_in_order-loop-element-preserved : goal.digest_in_order-loop-element-preserved
digest_in_order-loop-element-preserved t c =
    c.with-told.ensures ∙ ap₂ (λ (a b : ℕ). stirred ((a + b) % 2 ^ 64)) c.loop-element.invariant c.digest.ensures
    ∙ order_more c.args.elements.now c.loop-element.element-index c.element-item.result c.loop-element-test.true c.element-item.is

pub digest_members-loop-element-preserved : goal.digest_members-loop-element-preserved
digest_members-loop-element-preserved t c =
    ap₂ (λ (a b : ℕ). (a + b) % 2 ^ 64) c.loop-element.invariant c.digest-sum.ensures
    ∙ members_more c.args.elements.now c.loop-element.element-index c.element-item.result c.loop-element-test.true c.element-item.is

pub digest_pairs-loop-pair-preserved : goal.digest_pairs-loop-pair-preserved
digest_pairs-loop-pair-preserved t c =
    ap₂ (λ (a b : ℕ). (a + b) % 2 ^ 64) c.loop-pair.invariant c.digest_pair-sum.ensures
    ∙ pairs_more c.args.pairs.now c.loop-pair.pair-index c.pair-item.result c.loop-pair-test.true c.pair-item.is
