use Rattle.std.proofs.Common.{◌≡◌, ◌+◌, ◌++◌, length, take, sym, ap, ◌∙◌, refl, subst, arith}
use Rattle.std.proofs.lemmas.List.{append-nil, take_all}
use Rattle.events.specs.ProcessRule.{IsHistory}
use Rattle.checkpoints.specs.KeyLineView.{count_on}
use Rattle.checkpoints.specs.KeyState.{IsKeyState}
use Rattle.checkpoints.specs.Next.{IsNext}
use Rattle.checkpoints.proofs.Counts.{count_on_none, count_on_more}
use Rattle.checkpoints.proofs.Cutting.{IsHistory-front, length-places}
use Rattle.checkpoints.proofs.Lending.{stands_within, one_more_behind}
use Rattle.checkpoints.proofs.key_state.KeyState.after_all.Goals as goal

pub loop-index-init : goal.loop-index-init
loop-index-init c = record {
  stands = λ kind budget before events first history at. subst (λ l. IsKeyState kind budget l c.args.self) (sym (append-nil before)) first;
  counted = sym (count_on_none c.args.replayed.now (omega arith));
}

pub bounds-borrowed-index : goal.bounds-borrowed-index
bounds-borrowed-index c = stands_within c.args.borrowed.now c.args.places.now c.requires.0 c.requires.1 c.loop-index.index-index _ 0 (omega arith) refl

pub loop-index-preserved : goal.loop-index-preserved
loop-index-preserved c =
    let i = c.loop-index.index-index in
    record {
      stands = λ kind budget before events first history at.
          (let one = one_more_behind c.args.borrowed.now c.args.places.now events at i _ 0 (omega arith) refl before _ c.index-borrowed-index.is in
          c.commit.ensures kind budget (before ++ take (i + 1) events)
          (subst (λ l. IsNext kind budget l c.prepare.new.self c.in_ok-next.next) (sym one)
          (c.in_ok-next.ensures.next kind budget (before ++ take i events) (c.loop-index.invariant.stands kind budget before events first history at) (subst IsHistory one (IsHistory-front before events (i + 1) history)))));
      counted = c.saturating_add-count.ensures ∙ ap (λ n. count_on n 1) c.loop-index.invariant.counted ∙ count_on_more c.args.replayed.now i;
    }

pub returns-clause-stands : goal.returns-clause-stands
returns-clause-stands c kind budget before events first history at =
    let i = c.loop-index.index-index in
    let many : length c.args.places.now ≡ length events = ap length at.places_are ∙ length-places events in
    subst (λ l. IsKeyState kind budget (before ++ l) c.loop-index.state) (take_all i events (omega (arith, c.loop-index-test.false)))
    (c.loop-index.invariant.stands kind budget before events first history at)
