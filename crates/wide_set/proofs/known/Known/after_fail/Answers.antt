use Rattle.std.proofs.Common.{◌≡◌, ◌≢◌, List, sym, ◌∙◌, subst}
use Rattle.std.specs.List.{Contains}
use Rattle.std.proofs.lemmas.Bool.{true≢false}
use Rattle.events.specs.Events.Mark.{Failed}
use Rattle.wide_set.specs.declared.known.Call.TheVariants as calls
use Rattle.wide_set.specs.declared.known.Pending.{Pending}
use Rattle.wide_set.specs.declared.change.Change.TheVariants.{Dies, Leaves}
use Rattle.wide_set.specs.Facts.{facts_of, AreSpared}
use Rattle.wide_set.specs.Kept.{IsTakenBy}
use Rattle.wide_set.proofs.Taking.{not_pending, failed, other_failed, killed_by_fail}
use Rattle.wide_set.proofs.known.Known.after_fail.Goals as goal

pub returns-in_default : goal.returns-in_default
returns-in_default c = not_pending (facts_of c.args.self.now) c.args.id (Failed c.args.id) (Leaves c.args.id) (λ ms may. may) (λ q k. subst (λ (l : List Pending). (x : Pending) → Contains l x → x.id ≢ c.args.id) c.deref.ensures.value (c.pending_of.ensures.none c.in_default.is) q k)

pub returns-then-spared : goal.returns-then-spared
returns-then-spared c ms facts may =
    let f = facts_of c.args.self.now in
    let p = c.in-Some.call in
    let h : Contains f.pending p = subst (λ (l : List Pending). Contains l p) c.deref.ensures.value c.in-Some.ensures.found.0 in
    let e : p.id ≡ c.args.id = c.in-Some.ensures.found.1 in
    let v = c.in-Add.value in
    subst (λ i. IsTakenBy f (Failed i) (Leaves i)) e (failed f p h v c.in-Add.is (subst (λ i. AreSpared f i v) (sym e) ((c.in_ok-spared-in-Add.ensures facts.nested).0 c.if-spared.true))) ms facts may

pub returns-else-spared : goal.returns-else-spared
returns-else-spared c ms facts may =
    let f = facts_of c.args.self.now in
    let p = c.in-Some.call in
    let h : Contains f.pending p = subst (λ (l : List Pending). Contains l p) c.deref.ensures.value c.in-Some.ensures.found.0 in
    let e : p.id ≡ c.args.id = c.in-Some.ensures.found.1 in
    let v = c.in-Add.value in
    subst (λ i. IsTakenBy f (Failed i) Dies) e (killed_by_fail f p h v c.in-Add.is (λ s. true≢false (sym ((c.in_ok-spared-in-Add.ensures facts.nested).1 (subst (λ i. AreSpared f i v) e s)) ∙ c.if-spared.false))) ms facts may

pub returns-in-Read : goal.returns-in-Read
returns-in-Read c =
    let f = facts_of c.args.self.now in
    let p = c.in-Some.call in
    let h : Contains f.pending p = subst (λ (l : List Pending). Contains l p) c.deref.ensures.value c.in-Some.ensures.found.0 in
    let e : p.id ≡ c.args.id = c.in-Some.ensures.found.1 in
    subst (λ i. IsTakenBy f (Failed i) (Leaves i)) e (other_failed f p h (λ v q. (let r : calls.Read ≡ calls.Add v = sym c.in-Read.is ∙ q in cc)))

pub returns-in-Other : goal.returns-in-Other
returns-in-Other c =
    let f = facts_of c.args.self.now in
    let p = c.in-Some.call in
    let h : Contains f.pending p = subst (λ (l : List Pending). Contains l p) c.deref.ensures.value c.in-Some.ensures.found.0 in
    let e : p.id ≡ c.args.id = c.in-Some.ensures.found.1 in
    subst (λ i. IsTakenBy f (Failed i) (Leaves i)) e (other_failed f p h (λ v q. (let r : calls.Other ≡ calls.Add v = sym c.in-Other.is ∙ q in cc)))
