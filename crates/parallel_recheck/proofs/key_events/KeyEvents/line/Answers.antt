use Rattle.std.proofs.Common.{◌≡◌, ℕ, ◌∷◌, ◌++◌, [], ◌+◌, List, take, length, ◌∙◌, sym, ap, subst, arith}
use Rattle.std.proofs.lemmas.List.{take_all}
use Rattle.events.specs.declared.event.Event.{Event}
use Rattle.events.specs.ProcessRule.{IsHistory}
use Rattle.linspec.specs.KeyHistory.{with_pushed, without_events}
use Rattle.checkpoints.specs.KeyLineView.{KeyLineView, at_rest, count_on}
use Rattle.checkpoints.proofs.Counts.{count_on_none, count_on_more}
use Rattle.checkpoints.proofs.Cutting.{IsHistory-take}
use Rattle.parallel_recheck.specs.Pieces.{PieceView, borrowed}
use Rattle.parallel_recheck.proofs.Lending.{borrowed_more, length-borrowed}
use Rattle.parallel_recheck.proofs.key_events.KeyEvents.line.Goals as goal

pub loop-index-init : goal.loop-index-init
loop-index-init c = record {
  stands = subst (λ (p : PieceView). c.in_ok-line.line ≡ at_rest (record { kind = p.judged.kind; budget = p.judged.budget; events = take 0 p.judged.events }) (count_on 0 0))
      c.self.view_is (c.in_ok-line.ensures ∙ ap (λ n. at_rest (without_events c.self.inside.kind c.self.inside.budget) n) (sym (count_on_none 0 (omega arith))));
}

pub push-requires : goal.push-requires
push-requires c =
    let i = c.loop-index.index-index in
    let x = c.loop-index-item.result in
    let events = c.args.self.now.judged.events in
    let same : borrowed c.deref-index-items.result.now ≡ events = ap borrowed c.deref-index-items.ensures.value ∙ ap (λ (p : PieceView). p.judged.events) c.self.view_is in
    let one = borrowed_more c.deref-index-items.result.now events i x same c.loop-index-test.true c.loop-index-item.is in
    let history : IsHistory events = subst (λ (p : PieceView). IsHistory p.judged.events) c.self.view_is c.self.invariant in
    let first = subst IsHistory one (IsHistory-take (i + 1) events history) in
    subst (λ (l : List (ℕ × Event)). IsHistory (l ++ (x.0, x.1.now) ∷ [])) (sym (ap (λ (v : KeyLineView). v.now.events) c.loop-index.invariant.stands)) first

pub loop-index-preserved : goal.loop-index-preserved
loop-index-preserved c =
    let i = c.loop-index.index-index in
    let x = c.loop-index-item.result in
    let p = c.args.self.now.judged in
    let same : borrowed c.deref-index-items.result.now ≡ p.events = ap borrowed c.deref-index-items.ensures.value ∙ ap (λ (p : PieceView). p.judged.events) c.self.view_is in
    let one = borrowed_more c.deref-index-items.result.now p.events i x same c.loop-index-test.true c.loop-index-item.is in
    record {
      stands = c.in_ok-push.ensures.ok
          ∙ ap (λ (v : KeyLineView). at_rest (with_pushed x.0 x.1.now v.now) (count_on v.replayed 1)) c.loop-index.invariant.stands
          ∙ ap (λ (l : List (ℕ × Event)). at_rest (record { kind = p.kind; budget = p.budget; events = l }) (count_on (count_on 0 i) 1)) (sym one)
          ∙ ap (λ n. at_rest (record { kind = p.kind; budget = p.budget; events = take (i + 1) p.events }) n) (count_on_more 0 i);
    }

pub returns : goal.returns
returns c =
    let i = c.loop-index.index-index in
    let p = c.args.self.now.judged in
    let items = c.deref-index-items.result.now in
    let same : borrowed items ≡ p.events = ap borrowed c.deref-index-items.ensures.value ∙ ap (λ (p : PieceView). p.judged.events) c.self.view_is in
    let many : length p.events ≡ length items = sym (ap length same) ∙ length-borrowed items in
    let all : i ≡ length p.events = omega (arith, many, c.loop-index-test.false, c.loop-index.auto.index-index-end) in
    c.loop-index.invariant.stands
    ∙ ap (λ (l : List (ℕ × Event)). at_rest (record { kind = p.kind; budget = p.budget; events = l }) (count_on 0 i)) (take_all i p.events (omega (arith, all)))
    ∙ ap (λ n. at_rest p (count_on 0 n)) all
