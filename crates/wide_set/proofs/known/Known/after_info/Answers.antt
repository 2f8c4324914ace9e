use Rattle.std.proofs.Common.{◌≡◌, ◌≢◌, None, List, sym, ◌∙◌, subst, rules, to_z, of_z, w64}
use Rattle.std.specs.List.{Contains}
use Rattle.events.specs.Events.Mark.{Crashed}
use Rattle.wide_set.specs.declared.known.Call.TheVariants as calls
use Rattle.wide_set.specs.declared.known.Pending.{Pending}
use Rattle.wide_set.specs.declared.change.Change.TheVariants.{Leaves}
use Rattle.wide_set.specs.Facts.{facts_of}
use Rattle.wide_set.specs.Kept.{IsTakenBy, IsAfterAdd}
use Rattle.wide_set.proofs.Taking.{not_pending, crashed, after_add_lives, other_crashed}
use Rattle.wide_set.proofs.known.Known.after_info.Goals as goal

pub returns-in_default-clause-taken : goal.returns-in_default-clause-taken
returns-in_default-clause-taken c = not_pending (facts_of c.args.self.now) c.args.id (Crashed c.args.id) (Leaves c.args.id) (λ ms may. may) (λ q k. subst (λ (l : List Pending). (x : Pending) → Contains l x → x.id ≢ c.args.id) c.deref.ensures.value (c.pending_of.ensures.none c.in_default.is) q k)

pub returns-in-Add-clause-taken : goal.returns-in-Add-clause-taken
returns-in-Add-clause-taken c =
    let f = facts_of c.args.self.now in
    let p = c.in-Some.call in
    let h : Contains f.pending p = subst (λ (l : List Pending). Contains l p) c.deref.ensures.value c.in-Some.ensures.found.0 in
    let e : p.id ≡ c.args.id = c.in-Some.ensures.found.1 in
    let same : to_z w64 (of_z w64 c.in-Add.value) ≡ c.in-Add.value = search rules in
    subst (λ i. IsTakenBy f (Crashed i) c.after_add.result) e (crashed f p h c.in-Add.value c.after_add.result c.in-Add.is (subst (λ v. IsAfterAdd f p v None c.after_add.result) same c.after_add.ensures))

pub returns-in-Add-clause-lives : goal.returns-in-Add-clause-lives
returns-in-Add-clause-lives c =
    let f = facts_of c.args.self.now in
    let p = c.in-Some.call in
    let h : Contains f.pending p = subst (λ (l : List Pending). Contains l p) c.deref.ensures.value c.in-Some.ensures.found.0 in
    after_add_lives f p h _ None c.after_add.result c.after_add.ensures

pub returns-in-Read-clause-taken : goal.returns-in-Read-clause-taken
returns-in-Read-clause-taken c =
    let f = facts_of c.args.self.now in
    let p = c.in-Some.call in
    let h : Contains f.pending p = subst (λ (l : List Pending). Contains l p) c.deref.ensures.value c.in-Some.ensures.found.0 in
    let e : p.id ≡ c.args.id = c.in-Some.ensures.found.1 in
    subst (λ i. IsTakenBy f (Crashed i) (Leaves i)) e (other_crashed f p h (λ v q. (let r : calls.Read ≡ calls.Add v = sym c.in-Read.is ∙ q in cc)))

pub returns-in-Other-clause-taken : goal.returns-in-Other-clause-taken
returns-in-Other-clause-taken c =
    let f = facts_of c.args.self.now in
    let p = c.in-Some.call in
    let h : Contains f.pending p = subst (λ (l : List Pending). Contains l p) c.deref.ensures.value c.in-Some.ensures.found.0 in
    let e : p.id ≡ c.args.id = c.in-Some.ensures.found.1 in
    subst (λ i. IsTakenBy f (Crashed i) (Leaves i)) e (other_crashed f p h (λ v q. (let r : calls.Other ≡ calls.Add v = sym c.in-Other.is ∙ q in cc)))
