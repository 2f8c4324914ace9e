-- one operation more
use Rattle.std.proofs.Common.{◌≡◌, ◌⊎◌, take, get_or, sym, ◌∙◌, subst, arith, ⊎_elim, inl, inr}
use Rattle.std.specs.List.{Contains}
use Rattle.std.proofs.lemmas.Bool.{true≢false}
use Rattle.witness.specs.declared.placing.Position.{Position}
use Rattle.witness.specs.KeyOrders.{AreInTime, ids_of}
use Rattle.witness.proofs.Late.{ids_more_at, in_time_more, most_more, is_more, max_cases}
use Rattle.witness.proofs.keys.first_late.Goals as goal

pub loop-at-preserved : goal.loop-at-preserved
loop-at-preserved c =
    let positions = c.args.positions.now in
    let at = c.loop-at.at in
    let d : Position = record { key = 0; place = 0; id = 0 } in
    let s : Position = get_or positions at d in
    let m = c.max-latest.ensures in
    let more = ids_more_at positions at d c.loop-at-test.true in
    record {
      in_time = subst (AreInTime c.args.statuses.now) (sym more) (in_time_more c.args.statuses.now (ids_of (take at positions)) s.id c.loop-at.latest c.loop-at.invariant.in_time c.loop-at.invariant.most (λ b. true≢false (sym (c.if-is_before.ensures.1 b))));
      most = λ id h. most_more (ids_of (take at positions)) s.id c.loop-at.latest c.max-latest.result c.loop-at.invariant.most (omega (arith, m)) (omega (arith, m)) id (subst (λ l. Contains l id) more h);
      one = subst (λ l. (c.max-latest.result ≡ 0) ⊎ Contains l c.max-latest.result) (sym more)
          (is_more (ids_of (take at positions)) s.id c.loop-at.latest c.max-latest.result c.loop-at.invariant.one (⊎_elim (λ e. inl (m ∙ e)) (λ e. inr (m ∙ e)) (max_cases c.loop-at.latest s.id)));
    }
