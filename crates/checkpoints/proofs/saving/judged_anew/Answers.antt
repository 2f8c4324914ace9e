use Rattle.std.proofs.Common.{◌≡◌, ◌+◌, [], length, take, refl, sym, ap, ◌∙◌, subst, arith}
use Rattle.std.proofs.lemmas.List.{take_all, length-take-le}
use Rattle.events.specs.ProcessRule.{IsHistory}
use Rattle.checkpoints.specs.KeyLineView.{count_on}
use Rattle.checkpoints.specs.KeyState.{IsKeyState}
use Rattle.checkpoints.specs.Next.{IsNext}
use Rattle.checkpoints.specs.Saved.{AreSaved}
use Rattle.checkpoints.proofs.Counts.{count_on_none, count_on_more}
use Rattle.checkpoints.proofs.Cutting.{IsHistory-take, length-places}
use Rattle.checkpoints.proofs.Lending.{stands_within, one_more_borrowed}
use Rattle.checkpoints.proofs.SavedStates.{AreSaved-none}
use Rattle.checkpoints.proofs.saving.judged_anew.Goals as goal

pub loop-index-init : goal.loop-index-init
loop-index-init c = record {
  at = refl;
  stands = λ events history at. c.in_ok-state.ensures;
  saved = λ events history at. subst (AreSaved c.args.kind c.args.budget []) (sym c.new-saved.ensures.items) (AreSaved-none c.args.kind c.args.budget);
  counted = sym (count_on_none c.args.replayed.now (omega arith));
}

pub bounds-borrowed-index : goal.bounds-borrowed-index
bounds-borrowed-index c = stands_within c.args.borrowed.now c.args.places.now c.requires.0 c.requires.1 c.loop-index.index-index _ 0 (omega arith) refl

pub loop-index-preserved : goal.loop-index-preserved
loop-index-preserved c =
    let i = c.loop-index.index-index in
    record {
      at = omega (arith, c.loop-index.invariant.at);
      stands = λ events history at.
          (let one = one_more_borrowed c.args.borrowed.now c.args.places.now events at i _ 0 (omega arith) refl _ c.index-borrowed-index.is in
          c.commit.ensures c.args.kind c.args.budget (take (i + 1) events)
          (subst (λ l. IsNext c.args.kind c.args.budget l c.prepare_event.new.state c.in_ok-next.next) (sym one)
          (c.in_ok-next.ensures.next c.args.kind c.args.budget (take i events) (c.loop-index.invariant.stands events history at) (subst IsHistory one (IsHistory-take (i + 1) events history)))));
      saved = λ events history at.
          (let one = one_more_borrowed c.args.borrowed.now c.args.places.now events at i _ 0 (omega arith) refl _ c.index-borrowed-index.is in
          let many : length c.args.places.now ≡ length events = ap length at.places_are ∙ length-places events in
          subst (λ l. AreSaved c.args.kind c.args.budget l c.prepare_event.new.saved.items) (sym one)
          (c.in_ok-next.ensures.more c.args.kind c.args.budget (take i events) (length-take-le i events (omega arith) ∙ sym c.loop-index.invariant.at) (c.loop-index.invariant.stands events history at) (c.loop-index.invariant.saved events history at)));
      counted = c.saturating_add-count.ensures ∙ ap (λ n. count_on n 1) c.loop-index.invariant.counted ∙ count_on_more c.args.replayed.now i;
    }

pub returns-clause-stands : goal.returns-clause-stands
returns-clause-stands c events history at =
    let many : length c.args.places.now ≡ length events = ap length at.places_are ∙ length-places events in
    subst (λ l. IsKeyState c.args.kind c.args.budget l c.loop-index.state) (take_all c.loop-index.index-index events (omega (arith, c.loop-index-test.false))) (c.loop-index.invariant.stands events history at)

pub returns-clause-saved : goal.returns-clause-saved
returns-clause-saved c events history at =
    let many : length c.args.places.now ≡ length events = ap length at.places_are ∙ length-places events in
    subst (λ l. AreSaved c.args.kind c.args.budget l c.loop-index.saved.items) (take_all c.loop-index.index-index events (omega (arith, c.loop-index-test.false))) (c.loop-index.invariant.saved events history at)
