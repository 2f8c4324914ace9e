-- key after key
use Rattle.std.proofs.Common.{◌≡◌, ◌≢◌, ℕ, ◌-◌, ◌<◌, ◌≤◌, List, length, take, drop, get_or, sym, subst, arith}
use Rattle.witness.specs.declared.placing.Position.{Position}
use Rattle.witness.specs.KeyOrders.{AreThere, Judges}
use Rattle.witness.proofs.ByKeys.{run_there, found_none, found_more, found_all, apart_none, apart_more, run_is, same_as}
use Rattle.witness.proofs.keys.first_mismatch.Goals as goal

pub keys-init : goal.keys-init
keys-init c = record {
  apart = apart_none c.sort_by_keys.new.positions.items;
  found = found_none c.args.kind c.args.events.now c.args.statuses.now c.args.found c.sort_by_keys.new.positions.items;
}

pub key_mismatch-requires : goal.key_mismatch-requires
key_mismatch-requires c = subst (λ l. AreThere c.args.events.now (take (c.end_of_key-end.result - c.keys.start) (drop c.keys.start l))) (sym c.deref-in-keys.ensures.value)
    (run_there c.args.events.now c.args.positions.items c.sort_by_keys.new.positions.items c.keys.start (c.end_of_key-end.result - c.keys.start) c.in_ok-sort_by_keys.ensures c.requires)

pub keys-preserved : goal.keys-preserved
keys-preserved c =
    let sorted : List Position = c.sort_by_keys.new.positions.items in
    let start : ℕ = c.keys.start in
    let end : ℕ = c.end_of_key-end.result in
    let by = c.in_ok-sort_by_keys.ensures in
    let was = c.keys.invariant.apart in
    let lt = c.end_of_key-end.ensures.later in
    let within = subst (λ (l : List Position). end ≤ length l) c.deref.ensures.value c.end_of_key-end.ensures.within in
    let same = subst (λ (l : List Position). (i : ℕ) (d : Position) → start ≤ i → i < end → (get_or l i d).key ≡ (get_or l start d).key) c.deref.ensures.value c.end_of_key-end.ensures.same in
    let other = subst (λ (l : List Position). (d : Position) → end < length l → (get_or l end d).key ≢ (get_or l start d).key) c.deref.ensures.value c.end_of_key-end.ensures.other in
    let d : Position = record { key = 0; place = 0; id = 0 } in
    let judged = subst (λ (l : List Position). Judges c.args.kind c.args.events.now c.args.statuses.now (take (end - start) (drop start l)) c.in_ok-mismatch.mismatch) c.deref-in-keys.ensures.value c.in_ok-mismatch.ensures in
    record {
      apart = apart_more c.args.positions.items sorted by start end was lt within same other;
      found = found_more c.args.kind c.args.events.now c.args.statuses.now c.args.found sorted (get_or sorted start d).key start end (take (end - start) (drop start sorted)) c.keys.first c.in_ok-mismatch.mismatch c.earlier-first.result
          (same_as c.args.positions.items sorted by start end was lt within same other d) (run_is c.args.positions.items sorted by start end was lt within same other d) c.keys.invariant.found judged
          c.earlier-first.ensures.one c.earlier-first.ensures.none c.earlier-first.ensures.first;
    }

pub returns : goal.returns
returns c =
    let t = c.keys-test.false in
    let l = c.len.ensures in
    let ok = c.sort_by_keys.new.positions.ok.0 in
    found_all c.args.kind c.args.events.now c.args.statuses.now c.args.found c.sort_by_keys.new.positions.items c.keys.start c.args.positions.items c.keys.first (omega (arith, t, l, ok)) c.in_ok-sort_by_keys.ensures c.keys.invariant.found
