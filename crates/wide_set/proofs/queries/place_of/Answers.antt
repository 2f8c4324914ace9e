use Rattle.std.proofs.Common.{◌≡◌, ◌≢◌, ◌+◌, ◌-◌, ◌<◌, ◌≤◌, ℤ, List, length, take, drop, sym, ap, ◌∙◌, subst, arith}
use Rattle.std.specs.List.{Contains}
use Rattle.std.proofs.lemmas.Bool.{true≢false}
use Rattle.set_chains.specs.Chains.{IsWithin}
use Rattle.wide_set.specs.declared.known.Answered.{Answered}
use Rattle.wide_set.specs.Facts.{IsPlace}
use Rattle.wide_set.specs.Queries.{HasBefore}
use Rattle.wide_set.proofs.Places.{rest, IsBelowAll, not_before, not_within_first, below_first, below_none, place_first, place_known, not_same, not_after_last, place_behind}
use Rattle.wide_set.proofs.queries.place_of.Goals as goal
use Rattle.wide_set.proofs.queries.place_of.Goals.{else-at-answers-via-then-at-answers+else-not-is_within, else-at-answers-via-else-at-answers}

pub returns-then-has_before : goal.returns-then-has_before
returns-then-has_before c nested =
    let xs = c.args.answers.now in
    let m = c.args.members.now in
    let since = c.args.since in
    let at = c.first_longer-at.result in
    let asc = c.as_slice-these.ensures.ascending in
    let tv = c.as_slice-these.ensures.value in
    let more : (a : Answered) → Contains (drop at xs) a → length m < length a.members = subst (λ (l : List ℤ). (a : Answered) → Contains (drop at xs) a → length l < length a.members) tv c.first_longer-at.ensures.more in
    let fewer : (a : Answered) → Contains (take at xs) a → length a.members ≤ length m = subst (λ (l : List ℤ). (a : Answered) → Contains (take at xs) a → length a.members ≤ length l) tv (c.first_longer-at.ensures.fewer nested) in
    not_before xs nested m asc since at more fewer (subst (λ (l : List Answered). HasBefore l since) (rest xs at) (c.has_before.ensures.0 c.if-has_before.true))

pub returns-then-not-is_within : goal.returns-then-not-is_within
returns-then-not-is_within c nested =
    let xs = c.args.answers.now in
    let m = c.args.members.now in
    let since = c.args.since in
    let at = c.first_longer-at.result in
    let asc = c.as_slice-these.ensures.ascending in
    let tv = c.as_slice-these.ensures.value in
    let more : (a : Answered) → Contains (drop at xs) a → length m < length a.members = subst (λ (l : List ℤ). (a : Answered) → Contains (drop at xs) a → length l < length a.members) tv c.first_longer-at.ensures.more in
    let fewer : (a : Answered) → Contains (take at xs) a → length a.members ≤ length m = subst (λ (l : List ℤ). (a : Answered) → Contains (take at xs) a → length a.members ≤ length l) tv (c.first_longer-at.ensures.fewer nested) in
    let first = c.index-answers-at.result in
    not_within_first xs nested m asc since at more fewer first c.if-at-answers.true c.index-answers-at.is
    (λ w. true≢false (sym (c.is_within.ensures.1 (subst (λ l. IsWithin l c.as_slice.result.now) (sym tv) (subst (IsWithin m) (sym (c.as_slice.ensures.value ∙ ap (λ (x : Answered). x.members) (sym c.index-answers-at.is))) w))) ∙ c.if-not-is_within.true))

pub returns-then-at-eq0 : goal.returns-then-at-eq0
returns-then-at-eq0 c nested =
    let xs = c.args.answers.now in
    let m = c.args.members.now in
    let since = c.args.since in
    let at = c.first_longer-at.result in
    let asc = c.as_slice-these.ensures.ascending in
    let tv = c.as_slice-these.ensures.value in
    let more : (a : Answered) → Contains (drop at xs) a → length m < length a.members = subst (λ (l : List ℤ). (a : Answered) → Contains (drop at xs) a → length l < length a.members) tv c.first_longer-at.ensures.more in
    let fewer : (a : Answered) → Contains (take at xs) a → length a.members ≤ length m = subst (λ (l : List ℤ). (a : Answered) → Contains (take at xs) a → length a.members ≤ length l) tv (c.first_longer-at.ensures.fewer nested) in
    let none : ¬ HasBefore (drop at xs) since = λ h. true≢false (sym (c.has_before.ensures.1 (subst (λ (l : List Answered). HasBefore l since) (sym (rest xs at)) h)) ∙ c.if-has_before.false) in
    let below : IsBelowAll xs nested m asc since at more fewer = elim c.else-at-answers.branch [
      | else-at-answers-via-then-at-answers+else-not-is_within w ↦ below_first xs nested m asc since at more fewer none w.index-answers-at.result w.if-at-answers.true w.index-answers-at.is
          (subst (λ l. IsWithin l w.index-answers-at.result.members) tv (subst (IsWithin c.as_slice-these.result.now) (w.as_slice.ensures.value ∙ ap (λ (x : Answered). x.members) (sym w.index-answers-at.is)) (w.is_within.ensures.0 w.if-not-is_within.false)))
      | else-at-answers-via-else-at-answers w ↦ below_none xs nested m asc since at more fewer none w.if-at-answers.false
    ] in
    let k = place_first xs nested m asc since at more fewer c.if-at-eq0.true below in
    (k.0, subst (λ n. IsPlace xs n m) c.if-at-eq0.true k.1)

pub returns-then-same : goal.returns-then-same
returns-then-same c nested =
    let xs = c.args.answers.now in
    let m = c.args.members.now in
    let since = c.args.since in
    let at = c.first_longer-at.result in
    let asc = c.as_slice-these.ensures.ascending in
    let tv = c.as_slice-these.ensures.value in
    let more : (a : Answered) → Contains (drop at xs) a → length m < length a.members = subst (λ (l : List ℤ). (a : Answered) → Contains (drop at xs) a → length l < length a.members) tv c.first_longer-at.ensures.more in
    let fewer : (a : Answered) → Contains (take at xs) a → length a.members ≤ length m = subst (λ (l : List ℤ). (a : Answered) → Contains (take at xs) a → length a.members ≤ length l) tv (c.first_longer-at.ensures.fewer nested) in
    let none : ¬ HasBefore (drop at xs) since = λ h. true≢false (sym (c.has_before.ensures.1 (subst (λ (l : List Answered). HasBefore l since) (sym (rest xs at)) h)) ∙ c.if-has_before.false) in
    let below : IsBelowAll xs nested m asc since at more fewer = elim c.else-at-answers.branch [
      | else-at-answers-via-then-at-answers+else-not-is_within w ↦ below_first xs nested m asc since at more fewer none w.index-answers-at.result w.if-at-answers.true w.index-answers-at.is
          (subst (λ l. IsWithin l w.index-answers-at.result.members) tv (subst (IsWithin c.as_slice-these.result.now) (w.as_slice.ensures.value ∙ ap (λ (x : Answered). x.members) (sym w.index-answers-at.is)) (w.is_within.ensures.0 w.if-not-is_within.false)))
      | else-at-answers-via-else-at-answers w ↦ below_none xs nested m asc since at more fewer none w.if-at-answers.false
    ] in
    let before = at - 1 in
    let last = c.index-answers-at-2.result in
    let within : at ≤ length xs = c.first_longer-at.ensures.within in
    let some = c.if-at-eq0.false in
    let lt : before < length xs = omega arith in
    let next : before + 1 ≡ at = omega arith in
    let is = c.index-answers-at-2.is in
    let same : last.members ≡ c.as_slice-2.result.now = ap (λ (x : Answered). x.members) is ∙ sym c.as_slice-2.ensures.value in
    place_known xs nested m asc since at more fewer before last lt is next below (ap (λ (x : Answered). x.members) is ∙ c.same.ensures.0 c.if-same.true)

pub returns-then-as_slice-these : goal.returns-then-as_slice-these
returns-then-as_slice-these c nested =
    let xs = c.args.answers.now in
    let m = c.args.members.now in
    let since = c.args.since in
    let at = c.first_longer-at.result in
    let asc = c.as_slice-these.ensures.ascending in
    let tv = c.as_slice-these.ensures.value in
    let more : (a : Answered) → Contains (drop at xs) a → length m < length a.members = subst (λ (l : List ℤ). (a : Answered) → Contains (drop at xs) a → length l < length a.members) tv c.first_longer-at.ensures.more in
    let fewer : (a : Answered) → Contains (take at xs) a → length a.members ≤ length m = subst (λ (l : List ℤ). (a : Answered) → Contains (take at xs) a → length a.members ≤ length l) tv (c.first_longer-at.ensures.fewer nested) in
    let before = at - 1 in
    let last = c.index-answers-at-2.result in
    let within : at ≤ length xs = c.first_longer-at.ensures.within in
    let some = c.if-at-eq0.false in
    let lt : before < length xs = omega arith in
    let next : before + 1 ≡ at = omega arith in
    let is = c.index-answers-at-2.is in
    let same : last.members ≡ c.as_slice-2.result.now = ap (λ (x : Answered). x.members) is ∙ sym c.as_slice-2.ensures.value in
    not_same xs nested m asc since at more fewer before last lt is next (ap length same ∙ c.if-as_slice-these.true ∙ ap length tv)
    (λ q. true≢false (sym (c.same.ensures.1 (ap (λ (x : Answered). x.members) (sym is) ∙ q)) ∙ c.if-same.false))

pub returns-then-is_within : goal.returns-then-is_within
returns-then-is_within c nested =
    let xs = c.args.answers.now in
    let m = c.args.members.now in
    let since = c.args.since in
    let at = c.first_longer-at.result in
    let asc = c.as_slice-these.ensures.ascending in
    let tv = c.as_slice-these.ensures.value in
    let more : (a : Answered) → Contains (drop at xs) a → length m < length a.members = subst (λ (l : List ℤ). (a : Answered) → Contains (drop at xs) a → length l < length a.members) tv c.first_longer-at.ensures.more in
    let fewer : (a : Answered) → Contains (take at xs) a → length a.members ≤ length m = subst (λ (l : List ℤ). (a : Answered) → Contains (take at xs) a → length a.members ≤ length l) tv (c.first_longer-at.ensures.fewer nested) in
    let none : ¬ HasBefore (drop at xs) since = λ h. true≢false (sym (c.has_before.ensures.1 (subst (λ (l : List Answered). HasBefore l since) (sym (rest xs at)) h)) ∙ c.if-has_before.false) in
    let below : IsBelowAll xs nested m asc since at more fewer = elim c.else-at-answers.branch [
      | else-at-answers-via-then-at-answers+else-not-is_within w ↦ below_first xs nested m asc since at more fewer none w.index-answers-at.result w.if-at-answers.true w.index-answers-at.is
          (subst (λ l. IsWithin l w.index-answers-at.result.members) tv (subst (IsWithin c.as_slice-these.result.now) (w.as_slice.ensures.value ∙ ap (λ (x : Answered). x.members) (sym w.index-answers-at.is)) (w.is_within.ensures.0 w.if-not-is_within.false)))
      | else-at-answers-via-else-at-answers w ↦ below_none xs nested m asc since at more fewer none w.if-at-answers.false
    ] in
    let before = at - 1 in
    let last = c.index-answers-at-2.result in
    let within : at ≤ length xs = c.first_longer-at.ensures.within in
    let some = c.if-at-eq0.false in
    let lt : before < length xs = omega arith in
    let next : before + 1 ≡ at = omega arith in
    let is = c.index-answers-at-2.is in
    let same : last.members ≡ c.as_slice-2.result.now = ap (λ (x : Answered). x.members) is ∙ sym c.as_slice-2.ensures.value in
    let ne : length last.members ≢ length m = λ q. c.if-as_slice-these.false (ap length (sym same) ∙ q ∙ ap length (sym tv)) in
    let same3 : last.members ≡ c.as_slice-3.result.now = ap (λ (x : Answered). x.members) is ∙ sym c.as_slice-3.ensures.value in
    place_behind xs nested m asc since at more fewer before last lt is next below ne
    (subst (IsWithin last.members) tv (subst (λ l. IsWithin l c.as_slice-these.result.now) (sym same3) (c.is_within-2.ensures.0 c.if-is_within.true)))

pub returns-else-is_within : goal.returns-else-is_within
returns-else-is_within c nested =
    let xs = c.args.answers.now in
    let m = c.args.members.now in
    let since = c.args.since in
    let at = c.first_longer-at.result in
    let asc = c.as_slice-these.ensures.ascending in
    let tv = c.as_slice-these.ensures.value in
    let more : (a : Answered) → Contains (drop at xs) a → length m < length a.members = subst (λ (l : List ℤ). (a : Answered) → Contains (drop at xs) a → length l < length a.members) tv c.first_longer-at.ensures.more in
    let fewer : (a : Answered) → Contains (take at xs) a → length a.members ≤ length m = subst (λ (l : List ℤ). (a : Answered) → Contains (take at xs) a → length a.members ≤ length l) tv (c.first_longer-at.ensures.fewer nested) in
    let before = at - 1 in
    let last = c.index-answers-at-2.result in
    let within : at ≤ length xs = c.first_longer-at.ensures.within in
    let some = c.if-at-eq0.false in
    let lt : before < length xs = omega arith in
    let next : before + 1 ≡ at = omega arith in
    let is = c.index-answers-at-2.is in
    let same : last.members ≡ c.as_slice-2.result.now = ap (λ (x : Answered). x.members) is ∙ sym c.as_slice-2.ensures.value in
    let ne : length last.members ≢ length m = λ q. c.if-as_slice-these.false (ap length (sym same) ∙ q ∙ ap length (sym tv)) in
    let same3 : last.members ≡ c.as_slice-3.result.now = ap (λ (x : Answered). x.members) is ∙ sym c.as_slice-3.ensures.value in
    not_after_last xs nested m asc since at more fewer before last lt is next ne
    (λ w. true≢false (sym (c.is_within-2.ensures.1 (subst (λ l. IsWithin l c.as_slice-these.result.now) same3 (subst (IsWithin last.members) (sym tv) w))) ∙ c.if-is_within.false))
