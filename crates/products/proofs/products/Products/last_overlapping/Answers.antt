use Rattle.std.proofs.Common.{◌≡◌, ◌<◌, ◌-◌, ◌*◌, length, get_or, take, drop, refl, ◌∙◌, arith}
use Rattle.std.proofs.lemmas.List.{get_or_read}
use Rattle.products.proofs.Families.{at_place, found_at, view_long, view_product}
use Rattle.products.proofs.Putting.{apart_one, inside_one, other_first, passed}
use Rattle.products.proofs.products.Products.last_overlapping.Goals as goal

pub index-requires : goal.index-requires
index-requires c =
    let j = c.self.inside in
    let now = view_long j.places j.firsts.items j.words.items c.args.self.now c.self.view_is in
    let within = c.requires.within in
    let upto = c.loop-at.invariant.upto in
    let above = c.loop-at-test.true in
    let ok = j.firsts.ok in
    omega (arith, now, within, upto, above, ok)

pub loop-at-preserved-in-Apart : goal.loop-at-preserved-in-Apart
loop-at-preserved-in-Apart c =
    let j = c.self.inside in
    let at = c.loop-at.at - 1 in
    let now = view_long j.places j.firsts.items j.words.items c.args.self.now c.self.view_is in
    let within = c.requires.within in
    let upto = c.loop-at.invariant.upto in
    let above = c.loop-at-test.true in
    let there = found_at j.places j.firsts.items j.words.items c.args.self.now c.self.view_is at c.index.result.now c.args.first c.sets.result.now
    (omega (arith, now, within, upto, above)) c.index.ensures c.if-index-first.true c.sets.ensures.sets in
    record {
      upto = omega (arith, upto);
      apart = passed at c.args.end c.args.first c.args.sets.now c.args.self.now.1
          (λ i row lower. c.loop-at.invariant.apart i row (omega (arith, lower, above)))
          (apart_one c.args.first at c.args.sets.now c.sets.result.now c.args.self.now.1 there (c.in-Apart.ensures.apart refl));
    }

pub returns-in-Inside-clause-same : goal.returns-in-Inside-clause-same
returns-in-Inside-clause-same c =
    let j = c.self.inside in
    let at = c.loop-at.at - 1 in
    let now = view_long j.places j.firsts.items j.words.items c.args.self.now c.self.view_is in
    let within = c.requires.within in
    let upto = c.loop-at.invariant.upto in
    let above = c.loop-at-test.true in
    let there = found_at j.places j.firsts.items j.words.items c.args.self.now c.self.view_is at c.index.result.now c.args.first c.sets.result.now
    (omega (arith, now, within, upto, above)) c.index.ensures c.if-index-first.true c.sets.ensures.sets in
    at_place (λ product. product.0 ≡ c.args.first) c.args.self.now.1 at (c.args.first, c.sets.result.now) there refl

pub returns-in-Inside-clause-apart : goal.returns-in-Inside-clause-apart
returns-in-Inside-clause-apart c i row lower =
    let above = c.loop-at-test.true in
    c.loop-at.invariant.apart i row (omega (arith, lower, above))

pub returns-in-Inside-clause-inside : goal.returns-in-Inside-clause-inside
returns-in-Inside-clause-inside c _ =
    let j = c.self.inside in
    let at = c.loop-at.at - 1 in
    let now = view_long j.places j.firsts.items j.words.items c.args.self.now c.self.view_is in
    let within = c.requires.within in
    let upto = c.loop-at.invariant.upto in
    let above = c.loop-at-test.true in
    let there = found_at j.places j.firsts.items j.words.items c.args.self.now c.self.view_is at c.index.result.now c.args.first c.sets.result.now
    (omega (arith, now, within, upto, above)) c.index.ensures c.if-index-first.true c.sets.ensures.sets in
    inside_one c.args.first at c.args.sets.now c.sets.result.now c.args.self.now.1 there (c.in-Inside.ensures.inside refl)

pub returns-in-Across-clause-same : goal.returns-in-Across-clause-same
returns-in-Across-clause-same c =
    let j = c.self.inside in
    let at = c.loop-at.at - 1 in
    let now = view_long j.places j.firsts.items j.words.items c.args.self.now c.self.view_is in
    let within = c.requires.within in
    let upto = c.loop-at.invariant.upto in
    let above = c.loop-at-test.true in
    let there = found_at j.places j.firsts.items j.words.items c.args.self.now c.self.view_is at c.index.result.now c.args.first c.sets.result.now
    (omega (arith, now, within, upto, above)) c.index.ensures c.if-index-first.true c.sets.ensures.sets in
    at_place (λ product. product.0 ≡ c.args.first) c.args.self.now.1 at (c.args.first, c.sets.result.now) there refl

pub returns-in-Across-clause-apart : goal.returns-in-Across-clause-apart
returns-in-Across-clause-apart c i row lower =
    let above = c.loop-at-test.true in
    c.loop-at.invariant.apart i row (omega (arith, lower, above))

pub loop-at-preserved : goal.loop-at-preserved
loop-at-preserved c =
    let j = c.self.inside in
    let at = c.loop-at.at - 1 in
    let now = view_long j.places j.firsts.items j.words.items c.args.self.now c.self.view_is in
    let within = c.requires.within in
    let upto = c.loop-at.invariant.upto in
    let above = c.loop-at-test.true in
    let inner : at < length j.firsts.items = omega (arith, now, within, upto, above) in
    record {
      upto = omega (arith, upto);
      apart = passed at c.args.end c.args.first c.args.sets.now c.args.self.now.1
          (λ i row lower. c.loop-at.invariant.apart i row (omega (arith, lower, above)))
          (other_first c.args.first at c.args.sets.now c.args.self.now.1 (get_or j.firsts.items at 0, take j.places (drop (at * j.places) j.words.items))
          (view_product j.places j.firsts.items j.words.items c.args.self.now c.self.view_is at inner)
          (λ same. c.if-index-first.false (get_or_read j.firsts.items at c.index.result.now inner c.index.ensures 0 ∙ same)));
    }

pub returns-clause-none : goal.returns-clause-none
returns-clause-none c _ i row =
    let below = c.loop-at-test.false in
    c.loop-at.invariant.apart i row (omega (arith, below))
