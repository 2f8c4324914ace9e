use Rattle.std.proofs.Common.{◌∙◌, ◌+◌, sym, subst, take, arith}
use Rattle.edn.specs.Value.{more, IsNotAmong}
use Rattle.edn.specs.Scalar.{IsCollection}
use Rattle.edn.specs.Digest.{HasDigests}
use Rattle.edn.specs.View.{value_of}
use Rattle.edn.proofs.Deciding.{off, none_here, all_here}
use Rattle.edn.proofs.Repeats.{keys_in, keys_none, keys_more, distinct_start, distinct_more, distinct_all, distinct_fail}
use Rattle.edn.proofs.Scalars.{Holds, no_collection, holds_none, holds_collection, holds_scalar, scalar_new, scalar_repeated}
use Rattle.edn.proofs.Told.{told_push}
use Rattle.edn.proofs.distinct.are_distinct.Goals as goal
use Rattle.edn.proofs.distinct.are_distinct.Goals.{in-Some+in_ok-is_new-in-Some, in-None+in_ok-is_new-in-None}

pub loop-i-init : goal.loop-i-init
loop-i-init g c = record {
  distinct = distinct_start g.T.Keyed.key_value c.args.items.now;
  told = subst (HasDigests c.new-digests.result) (sym (keys_none g.T.Keyed.key_value c.args.items.now)) tt;
  held = subst (Holds c.new-scalars.result) (sym (keys_none g.T.Keyed.key_value c.args.items.now)) (holds_none _ c.new-scalars.ensures.empty);
}

pub returns-then-not-is_new : goal.returns-then-not-is_new
returns-then-not-is_new g c =
    let f = g.T.Keyed.key_value in
    let vs = keys_in f (take c.loop-i.i c.args.items.now) in
    let repeated : IsNotAmong (f c.index-items-i.result) vs → ⊥ =
    elim c.match-scalar_of.branch [
      | in-Some+in_ok-is_new-in-Some w ↦
          scalar_repeated c.loop-i.scalars vs w.in-Some.scalar _ _ (sym c.key-key.ensures ∙ w.in-Some.ensures) w.in_ok-is_new-in-Some.ensures.added (sym w.is_new-is ∙ c.if-not-is_new.true) c.loop-i.invariant.held
      | in-None+in_ok-is_new-in-None w ↦
          λ n. off w.in_ok-is_new-in-None.is_new (IsNotAmong (value_of c.key-key.result.now) vs) (sym w.is_new-is ∙ c.if-not-is_new.true) w.in_ok-is_new-in-None.ensures.is.1 (subst (λ v. IsNotAmong v vs) (sym c.key-key.ensures) n)
    ] in
    none_here _ (λ d. distinct_fail f c.args.items.now c.loop-i.i c.index-items-i.result c.loop-i-test.true c.index-items-i.is repeated d)

pub loop-i-preserved : goal.loop-i-preserved
loop-i-preserved g c =
    let f = g.T.Keyed.key_value in
    let x = c.index-items-i.result in
    let seen = take c.loop-i.i c.args.items.now in
    let vs = keys_in f seen in
    let next = keys_more f c.args.items.now c.loop-i.i x c.loop-i-test.true c.index-items-i.is in
    elim c.match-scalar_of.branch [
      | in-Some+in_ok-is_new-in-Some w ↦
          let is = sym c.key-key.ensures ∙ w.in-Some.ensures in
          let new = scalar_new c.loop-i.scalars vs w.in-Some.scalar _ _ is w.in_ok-is_new-in-Some.ensures.added (sym w.is_new-is ∙ c.if-not-is_new.false) c.loop-i.invariant.held in
          let held = holds_scalar c.loop-i.scalars w.insert.new.self vs w.in-Some.scalar (f x) is w.in_ok-is_new-in-Some.ensures.updates.0 c.loop-i.invariant.held in
          record {
            told = subst (λ s. HasDigests s (keys_in f (take (c.loop-i.i + 1) c.args.items.now))) (sym w.digests-is) (subst (HasDigests c.loop-i.digests) (sym next) (told_push c.loop-i.digests vs (f x) c.loop-i.invariant.told (λ i. absurd (no_collection w.in-Some.scalar (f x) i is))));
            distinct = distinct_more f c.args.items.now c.loop-i.i x c.loop-i-test.true c.index-items-i.is c.loop-i.invariant.distinct new;
            held = subst (λ s. Holds s (keys_in f (take (c.loop-i.i + 1) c.args.items.now))) (sym w.scalars-is) (subst (Holds w.insert.new.self) (sym next) held);
          }
      | in-None+in_ok-is_new-in-None w ↦
          let new = subst (λ v. IsNotAmong v vs) c.key-key.ensures (w.in_ok-is_new-in-None.ensures.is.0 (sym w.is_new-is ∙ c.if-not-is_new.false)) in
          let has = subst (λ v. HasDigests w.is_new_collection.new.digests (more v vs)) c.key-key.ensures w.in_ok-is_new-in-None.ensures.has in
          let held = holds_collection c.loop-i.scalars vs (f x) (subst IsCollection c.key-key.ensures w.in-None.ensures) c.loop-i.invariant.held in
          record {
            told = subst (λ s. HasDigests s (keys_in f (take (c.loop-i.i + 1) c.args.items.now))) (sym w.digests-is) (subst (HasDigests w.is_new_collection.new.digests) (sym next) (told_push w.is_new_collection.new.digests vs (f x) has.1 has.0));
            distinct = distinct_more f c.args.items.now c.loop-i.i x c.loop-i-test.true c.index-items-i.is c.loop-i.invariant.distinct new;
            held = subst (λ s. Holds s (keys_in f (take (c.loop-i.i + 1) c.args.items.now))) (sym w.scalars-is) (subst (Holds c.loop-i.scalars) (sym next) held);
          }
    ]

pub returns : goal.returns
returns g c = all_here _ (distinct_all g.T.Keyed.key_value c.args.items.now c.loop-i.i (omega arith) c.loop-i.invariant.distinct)
