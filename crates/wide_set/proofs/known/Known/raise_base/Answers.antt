use Rattle.std.proofs.Common.{◌≡◌, ◌<◌, ◌≤◌, List, length, ap, subst, arith}
use Rattle.wide_set.specs.declared.known.Answered.{Answered}
use Rattle.wide_set.specs.declared.known.Pending.{Pending}
use Rattle.wide_set.specs.Facts.{IsBeforePending, facts_of}
use Rattle.wide_set.specs.Queries.{IsLastBefore, IsLeastSince}
use Rattle.wide_set.proofs.Bases.{raised_as}
use Rattle.wide_set.proofs.known.Known.raise_base.Goals as goal

pub returns : goal.returns
returns c ms facts =
    let f = facts_of c.args.self.now in
    let at = c.in-Some.at in
    let a = c.index.result.now in
    let last : IsLastBefore f.answers c.oldest.result at = subst (λ (l : List Answered). IsLastBefore l c.oldest.result at) c.deref.ensures.value c.in-Some.ensures in
    let least : IsLeastSince f.pending f.now c.oldest.result = subst (λ (l : List Pending). IsLeastSince l f.now c.oldest.result) c.deref-2.ensures.value c.oldest.ensures in
    let by : a.by < c.oldest.result = last.1 a c.index.ensures in
    let early : IsBeforePending f.pending a.by = λ p h. (let le : c.oldest.result ≤ p.since = least.1 p h in omega arith) in
    let this : length c.as_slice.result.now ≡ length a.members = ap length c.as_slice.ensures.value in
    let that : length c.as_slice-2.result.now ≡ length f.base = ap length c.as_slice-2.ensures.value in
    let lt : length c.as_slice-2.result.now < length c.as_slice.result.now = c.if-as_slice.false in
    raised_as f ms facts at a last.0 c.index.ensures early (omega arith) c.in_ok-base.base c.in_ok-answers.answers.items c.in_ok-base.ensures c.in_ok-answers.ensures.tail
