use Rattle.std.proofs.Common.{◌≡◌, ℕ, ◌<◌, ◌≤◌, ◌⊎◌, List, length, take, drop, refl, sym, ◌∙◌, subst, arith}
use Rattle.std.specs.List.{Contains}
use Rattle.std.proofs.lemmas.Bool.{true≢false}
use Rattle.std.proofs.lemmas.List.{drop_all}
use Rattle.linspec.proofs.Lists.{Contains-nil}
use Rattle.wide_set.specs.declared.known.Answered.{Answered}
use Rattle.wide_set.specs.declared.known.Pending.{Pending}
use Rattle.wide_set.specs.declared.log.Added.{Added}
use Rattle.wide_set.specs.Facts.{AreNested, HasAdd, HasLogged, HasPendingAdd, facts_of}
use Rattle.wide_set.specs.Queries.{HasBefore}
use Rattle.wide_set.proofs.Places.{rest, some_behind}
use Rattle.wide_set.proofs.Asking.{spared_by_none, not_spared_by_none, not_spared_before, first_in_time, spared, first_done_is, least_done_is}
use Rattle.wide_set.proofs.known.Known.spares.Goals as goal

pub returns-then-has : goal.returns-then-has
returns-then-has c nested = (
  (λ t out. absurd (out (subst (λ l. Contains l c.args.value.now) c.as_slice.ensures.value (c.has.ensures.0 c.if-has.true)))),
  (λ s. refl),
)

pub returns-then-at-len : goal.returns-then-at-len
returns-then-at-len c nested =
    let f = facts_of c.args.self.now in
    let xs = c.args.self.now.answers.items in
    let but = c.args.but in
    let v = c.args.value.now in
    let at = c.first_with-at.result in
    let out : ¬ Contains f.base v = λ i. true≢false (sym (c.has.ensures.1 (subst (λ l. Contains l v) (sym c.as_slice.ensures.value) i)) ∙ c.if-has.false) in
    let long = c.args.self.now.answers.ok.0 in
    let has : (a : Answered) → Contains (drop at xs) a → Contains a.members v = subst (λ (l : List Answered). (a : Answered) → Contains (drop at l) a → Contains a.members v) c.deref.ensures.value c.first_with-at.ensures.with in
    let lacks : (a : Answered) → Contains (take at xs) a → ¬ Contains a.members v = subst (λ (l : List Answered). AreNested l → (a : Answered) → Contains (take at l) a → ¬ Contains a.members v) c.deref.ensures.value c.first_with-at.ensures.lacking nested in
    let here = c.if-at-len.true in
    let many = c.len.ensures in
    let le : length xs ≤ at = omega arith in
    ((λ t. spared_by_none f nested but v out at has lacks (λ a h. Contains-nil a (subst (λ l. Contains l a) (drop_all at xs le) h))), (λ s. refl))

pub returns-in_default : goal.returns-in_default
returns-in_default c nested =
    let f = facts_of c.args.self.now in
    let xs = c.args.self.now.answers.items in
    let but = c.args.but in
    let v = c.args.value.now in
    let at = c.first_with-at.result in
    let out : ¬ Contains f.base v = λ i. true≢false (sym (c.has.ensures.1 (subst (λ l. Contains l v) (sym c.as_slice.ensures.value) i)) ∙ c.if-has.false) in
    let long = c.args.self.now.answers.ok.0 in
    let has : (a : Answered) → Contains (drop at xs) a → Contains a.members v = subst (λ (l : List Answered). (a : Answered) → Contains (drop at l) a → Contains a.members v) c.deref.ensures.value c.first_with-at.ensures.with in
    let lacks : (a : Answered) → Contains (take at xs) a → ¬ Contains a.members v = subst (λ (l : List Answered). AreNested l → (a : Answered) → Contains (take at l) a → ¬ Contains a.members v) c.deref.ensures.value c.first_with-at.ensures.lacking nested in
    let within : at ≤ length xs = subst (λ (l : List Answered). at ≤ length l) c.deref.ensures.value c.first_with-at.ensures.within in
    let apart = c.if-at-len.false in
    let many = c.len.ensures in
    let lt : at < length xs = omega arith in
    let logged : c.deref-2.result.now ≡ f.log = c.deref-2.ensures.value ∙ c.in_ok-log.ensures in
    let opened : c.deref-3.result.now ≡ f.pending = c.deref-3.ensures.value in
    let to : (m : ℕ) → HasAdd f but v m → HasLogged c.deref-2.result.now v m ⊎ HasPendingAdd c.deref-3.result.now but v m = λ m h. subst (λ (l : List Added). HasLogged l v m ⊎ HasPendingAdd c.deref-3.result.now but v m) (sym logged) (subst (λ (l : List Pending). HasLogged f.log v m ⊎ HasPendingAdd l but v m) (sym opened) h) in
    let k = some_behind xs at lt in
    ((λ t. absurd (true≢false (sym t))), (λ s. absurd (not_spared_by_none f nested but v out at has lacks k.0 k.1 (λ m h. c.in_default.ensures.least m (to m h)) s)))

pub returns-then-has_before : goal.returns-then-has_before
returns-then-has_before c nested =
    let f = facts_of c.args.self.now in
    let xs = c.args.self.now.answers.items in
    let but = c.args.but in
    let v = c.args.value.now in
    let at = c.first_with-at.result in
    let out : ¬ Contains f.base v = λ i. true≢false (sym (c.has.ensures.1 (subst (λ l. Contains l v) (sym c.as_slice.ensures.value) i)) ∙ c.if-has.false) in
    let long = c.args.self.now.answers.ok.0 in
    let has : (a : Answered) → Contains (drop at xs) a → Contains a.members v = subst (λ (l : List Answered). (a : Answered) → Contains (drop at l) a → Contains a.members v) c.deref.ensures.value c.first_with-at.ensures.with in
    let lacks : (a : Answered) → Contains (take at xs) a → ¬ Contains a.members v = subst (λ (l : List Answered). AreNested l → (a : Answered) → Contains (take at l) a → ¬ Contains a.members v) c.deref.ensures.value c.first_with-at.ensures.lacking nested in
    let logged : c.deref-2.result.now ≡ f.log = c.deref-2.ensures.value ∙ c.in_ok-log.ensures in
    let opened : c.deref-3.result.now ≡ f.pending = c.deref-3.ensures.value in
    let to : (m : ℕ) → HasAdd f but v m → HasLogged c.deref-2.result.now v m ⊎ HasPendingAdd c.deref-3.result.now but v m = λ m h. subst (λ (l : List Added). HasLogged l v m ⊎ HasPendingAdd c.deref-3.result.now but v m) (sym logged) (subst (λ (l : List Pending). HasLogged f.log v m ⊎ HasPendingAdd l but v m) (sym opened) h) in
    let first = c.in-Some.first in
    let found : HasAdd f but v first = subst (λ (l : List Added). HasLogged l v first ⊎ HasPendingAdd f.pending but v first) logged (subst (λ (l : List Pending). HasLogged c.deref-2.result.now v first ⊎ HasPendingAdd l but v first) opened c.in-Some.ensures.found) in
    let least : (m : ℕ) → HasAdd f but v m → first ≤ m = λ m h. c.in-Some.ensures.least m (to m h) in
    let hb : HasBefore (drop at xs) first = subst (λ (l : List Answered). HasBefore (drop at l) first) c.deref-4.ensures.value (subst (λ (l : List Answered). HasBefore l first) (rest c.deref-4.result.now at) (c.has_before.ensures.0 c.if-has_before.true)) in
    ((λ t. absurd (true≢false (sym t))), (λ s. absurd (not_spared_before f nested but v out at has lacks first found least hb s)))

pub returns : goal.returns
returns c nested =
    let f = facts_of c.args.self.now in
    let xs = c.args.self.now.answers.items in
    let but = c.args.but in
    let v = c.args.value.now in
    let at = c.first_with-at.result in
    let out : ¬ Contains f.base v = λ i. true≢false (sym (c.has.ensures.1 (subst (λ l. Contains l v) (sym c.as_slice.ensures.value) i)) ∙ c.if-has.false) in
    let long = c.args.self.now.answers.ok.0 in
    let has : (a : Answered) → Contains (drop at xs) a → Contains a.members v = subst (λ (l : List Answered). (a : Answered) → Contains (drop at l) a → Contains a.members v) c.deref.ensures.value c.first_with-at.ensures.with in
    let lacks : (a : Answered) → Contains (take at xs) a → ¬ Contains a.members v = subst (λ (l : List Answered). AreNested l → (a : Answered) → Contains (take at l) a → ¬ Contains a.members v) c.deref.ensures.value c.first_with-at.ensures.lacking nested in
    let within : at ≤ length xs = subst (λ (l : List Answered). at ≤ length l) c.deref.ensures.value c.first_with-at.ensures.within in
    let apart = c.if-at-len.false in
    let many = c.len.ensures in
    let lt : at < length xs = omega arith in
    let logged : c.deref-2.result.now ≡ f.log = c.deref-2.ensures.value ∙ c.in_ok-log.ensures in
    let opened : c.deref-3.result.now ≡ f.pending = c.deref-3.ensures.value in
    let to : (m : ℕ) → HasAdd f but v m → HasLogged c.deref-2.result.now v m ⊎ HasPendingAdd c.deref-3.result.now but v m = λ m h. subst (λ (l : List Added). HasLogged l v m ⊎ HasPendingAdd c.deref-3.result.now but v m) (sym logged) (subst (λ (l : List Pending). HasLogged f.log v m ⊎ HasPendingAdd l but v m) (sym opened) h) in
    let first = c.in-Some.first in
    let found : HasAdd f but v first = subst (λ (l : List Added). HasLogged l v first ⊎ HasPendingAdd f.pending but v first) logged (subst (λ (l : List Pending). HasLogged c.deref-2.result.now v first ⊎ HasPendingAdd l but v first) opened c.in-Some.ensures.found) in
    let least : (m : ℕ) → HasAdd f but v m → first ≤ m = λ m h. c.in-Some.ensures.least m (to m h) in
    let a = c.index.result.now in
    let none : ¬ HasBefore (drop at xs) first = λ h. true≢false (sym (c.has_before.ensures.1 (subst (λ (l : List Answered). HasBefore l first) (sym (rest c.deref-4.result.now at)) (subst (λ (l : List Answered). HasBefore (drop at l) first) (sym c.deref-4.ensures.value) h))) ∙ c.if-has_before.false) in
    let limit = c.first_beyond-limit.result in
    let again : c.deref-5.result.now ≡ f.log = c.deref-5.ensures.value ∙ c.in_ok-log.ensures in
    let done = first_done_is f but first a.members limit c.as_slice-2.result.now c.deref-5.result.now c.as_slice-2.ensures.value again c.first_beyond-limit.ensures.found in
    let none_done = least_done_is f but first a.members limit c.as_slice-2.result.now c.deref-5.result.now c.as_slice-2.ensures.value again c.first_beyond-limit.ensures.least in (
      (λ t. spared f nested but v out at has lacks first found least a lt c.index.ensures limit none_done none (c.is_timely.ensures.0 t)),
      (λ s. c.is_timely.ensures.1 (first_in_time f nested but v out at has lacks first found least a lt c.index.ensures limit done s)),
    )
