use Rattle.std.proofs.Common.{◌≡◌, ◌≢◌, Some, List, sym, ◌∙◌, subst, rules, to_z, of_z, w64}
use Rattle.std.specs.List.{Contains}
use Rattle.models.specs.Objects.{answer_of}
use Rattle.events.specs.Events.Mark.{Returned}
use Rattle.wide_set.specs.declared.known.Call.TheVariants as calls
use Rattle.wide_set.specs.declared.known.Pending.{Pending}
use Rattle.wide_set.specs.declared.change.Change.TheVariants.{Dies}
use Rattle.wide_set.specs.Facts.{facts_of}
use Rattle.wide_set.specs.Kept.{IsTakenBy, IsAfterAdd}
use Rattle.wide_set.proofs.Taking.{not_pending, done, foreign}
use Rattle.wide_set.proofs.known.Known.after_ok.Goals as goal

pub returns-in_default : goal.returns-in_default
returns-in_default c = not_pending (facts_of c.args.self.now) c.args.id (Returned c.args.id (answer_of c.args.part.now)) Dies (λ ms may. may) (λ q k. subst (λ (l : List Pending). (x : Pending) → Contains l x → x.id ≢ c.args.id) c.deref.ensures.value (c.pending_of.ensures.none c.in_default.is) q k)

pub returns-in-Add : goal.returns-in-Add
returns-in-Add c =
    let f = facts_of c.args.self.now in
    let p = c.in-Some.call in
    let h : Contains f.pending p = subst (λ (l : List Pending). Contains l p) c.deref.ensures.value c.in-Some.ensures.found.0 in
    let e : p.id ≡ c.args.id = c.in-Some.ensures.found.1 in
    let ans = answer_of c.args.part.now in
    let same : to_z w64 (of_z w64 c.in-Add.value) ≡ c.in-Add.value = search rules in
    subst (λ i. IsTakenBy f (Returned i ans) c.after_add.result) e (done f p h c.in-Add.value ans c.after_add.result c.in-Add.is (subst (λ v. IsAfterAdd f p v (Some f.now) c.after_add.result) same c.after_add.ensures))

pub returns-in-Other : goal.returns-in-Other
returns-in-Other c =
    let f = facts_of c.args.self.now in
    let p = c.in-Some.call in
    let h : Contains f.pending p = subst (λ (l : List Pending). Contains l p) c.deref.ensures.value c.in-Some.ensures.found.0 in
    let e : p.id ≡ c.args.id = c.in-Some.ensures.found.1 in
    let ans = answer_of c.args.part.now in
    subst (λ i. IsTakenBy f (Returned i ans) Dies) e (foreign f p h ans
    (λ v q. (let r : calls.Other ≡ calls.Add v = sym c.in-Other.is ∙ q in cc))
    (λ q. (let r : calls.Other ≡ calls.Read = sym c.in-Other.is ∙ q in cc)))
