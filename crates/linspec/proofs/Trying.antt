-- the search over the prefixes of orders
use Rattle.std.proofs.Common.{◌≡◌, ◌↔◌, ◌⊎◌, inl, inr, ℕ, ◌+◌, ◌<◌, ◌≤◌, ⊎_elim, Bool, true, false, ◌||◌, nat_eq, List, [], ◌∷◌, ◌++◌, length, take, get_or, refl, sym, ap, ◌∙◌, subst, arith}
use Rattle.std.specs.List.{Contains}
use Rattle.std.proofs.lemmas.Bool.{cases_Bool, cases_eq, eq-eqb, ne_eqb, true≢false}
use Rattle.std.proofs.lemmas.List.{take_more, map-append}
use Rattle.std.proofs.lemmas.List.Elements.{Contains-append_left, Contains-push, Contains-push_cases}
use Rattle.models.specs.declared.operation.Op.{Op}
use Rattle.models.specs.declared.finding.Found.{Found}
use Rattle.models.specs.declared.finding.Answer.{Answer}
use Rattle.models.specs.Objects.{Fits}
use Rattle.kinds.specs.declared.any_state.AnyState.{AnyState}
use Rattle.events.specs.Events.{Mark}
use Rattle.events.specs.Events.Mark.{Invoked, Returned, Failed, Crashed}
use Rattle.linspec.specs.declared.kept_marks.KeptMark as kept
use Rattle.linspec.specs.Operations.{HasReturned}
use Rattle.linspec.specs.Orders.{Taken}
use Rattle.linspec.specs.KeptMarks.{mark_of, marks_of_kept}
use Rattle.linspec.specs.Finishing.{MayStandAfter, Finishes, CanFinish}
use Rattle.linspec.specs.Attempts.{Keyed, LeadTo, Steps, AttemptView, FollowsBy, Follows, FollowsSome, Makes, MakesSome, with_state}
use Rattle.linspec.proofs.Steps.{in_listed, listed_in}
use Rattle.linspec.proofs.Lists.{Contains-nil, Contains-head, Contains-tail, Contains-cons_cases}

-- how many marks invoke operations that are not taken
is_in : List ℕ → ℕ → Bool
is_in [] id = false
is_in (x ∷ xs) id = nat_eq x id || is_in xs id

to_is_in : (xs : List ℕ) (id : ℕ) → Contains xs id → is_in xs id ≡ true
unfolding is_in
to_is_in [] id h = absurd (Contains-nil id h)
to_is_in (x ∷ xs) id h =
    ⊎_elim
    (λ e. ap (λ b. b || is_in xs id) (eq-eqb x id e))
    (λ k. or_true (nat_eq x id) (is_in xs id) (to_is_in xs id k))
    (Contains-cons_cases x xs id h)
  where
    or_true : (a b : Bool) → b ≡ true → (a || b) ≡ true
    or_true true b e = refl
    or_true false b e = e

from_is_in : (xs : List ℕ) (id : ℕ) → is_in xs id ≡ true → Contains xs id
unfolding is_in
from_is_in [] id h = absurd (true≢false (sym h))
from_is_in (x ∷ xs) id h =
    ⊎_elim
    (λ e. subst (Contains (x ∷ xs)) e (Contains-head x xs))
    (λ ne. Contains-tail x xs id (from_is_in xs id (sym (ap (λ b. b || is_in xs id) (ne_eqb x id ne)) ∙ h)))
    (cases_eq x id)

unless : Bool → ℕ
unless true = 0
unless false = 1

left_at : List ℕ → Mark → ℕ
left_at taken (Invoked id op) = unless (is_in taken id)
left_at taken (Returned id answer) = 0
left_at taken (Failed id) = 0
left_at taken (Crashed id) = 0

pub left : List Mark → List ℕ → ℕ
left [] taken = 0
left (m ∷ marks) taken = left_at taken m + left marks taken

unless-le : (a b : Bool) → (a ≡ true → b ≡ true) → unless b ≤ unless a
unfolding unless
unless-le true b h = ap-le b (h refl)
  where
    ap-le : (b : Bool) → b ≡ true → unless b ≤ 0
    ap-le true e = omega arith
    ap-le false e = cc
unless-le false true h = omega arith
unless-le false false h = omega arith

left_at-le : (taken : List ℕ) (id : ℕ) (m : Mark) → left_at (taken ++ id ∷ []) m ≤ left_at taken m
unfolding left_at
left_at-le taken id (Invoked z op) = unless-le (is_in taken z) (is_in (taken ++ id ∷ []) z) (λ e. to_is_in (taken ++ id ∷ []) z (Contains-append_left taken (id ∷ []) z (from_is_in taken z e)))
left_at-le taken id (Returned z answer) = omega arith
left_at-le taken id (Failed z) = omega arith
left_at-le taken id (Crashed z) = omega arith

left-le : (marks : List Mark) (taken : List ℕ) (id : ℕ) → left marks (taken ++ id ∷ []) ≤ left marks taken
unfolding left
left-le [] taken id = omega arith
left-le (m ∷ marks) taken id = omega (arith, left_at-le taken id m, left-le marks taken id)

left_at-less : (taken : List ℕ) (id : ℕ) (op : Op) → ¬ Contains taken id → left_at (taken ++ id ∷ []) (Invoked id op) < left_at taken (Invoked id op)
unfolding left_at unless
left_at-less taken id op fresh =
    let now : unless (is_in (taken ++ id ∷ []) id) ≡ 0 = ap unless (to_is_in (taken ++ id ∷ []) id (Contains-push taken id)) in
    let before : unless (is_in taken id) ≡ 1 = ap unless (⊎_elim (λ t. absurd (fresh (from_is_in taken id t))) (λ f. f) (cases_Bool (is_in taken id))) in
    omega (arith, now, before)

left-less : (marks : List Mark) (taken : List ℕ) (id : ℕ) (op : Op) → Contains marks (Invoked id op) → ¬ Contains taken id → left marks (taken ++ id ∷ []) < left marks taken
unfolding left
left-less [] taken id op h fresh = absurd (Contains-nil (Invoked id op) h)
left-less (m ∷ marks) taken id op h fresh =
    ⊎_elim
    (λ e. (let here : left_at (taken ++ id ∷ []) m < left_at taken m = subst (λ w. left_at (taken ++ id ∷ []) w < left_at taken w) (sym e) (left_at-less taken id op fresh) in omega (arith, here, left-le marks taken id)))
    (λ k. omega (arith, left_at-le taken id m, left-less marks taken id op k fresh))
    (Contains-cons_cases m marks (Invoked id op) h)

-- a front that follows has fewer left
pub fewer_left : (marks : List Mark) (front after : AttemptView) (m : Mark) → Contains marks m → Follows marks front m after → left marks after.taken < left marks front.taken
fewer_left marks front after (Invoked id op) h f = subst (λ taken. left marks taken < left marks front.taken) f.taken (left-less marks front.taken id op h f.stands.fresh)
fewer_left marks front after (Returned id answer) h f = absurd f
fewer_left marks front after (Failed id) h f = absurd f
fewer_left marks front after (Crashed id) h f = absurd f

module _ (marks : List Mark) (front : AttemptView) where
  -- a first operation, and then the rest
  pub finish_first : (after : AttemptView) (m : Mark) → Contains marks m → Follows marks front m after → CanFinish Steps marks after.taken after.states → CanFinish Steps marks front.taken front.states
  finish_first after (Invoked id op) h f c = (
    record { id = id; op = op; found = f.found } ∷ c.0,
    (
      record { invoked = h; stands = f.stands; fits = f.fits },
      (after.states, f.step, subst (λ taken. Finishes Steps marks taken after.states c.0) (sym f.taken) c.1),
    ),
  )
  finish_first after (Returned id answer) h f c = absurd f
  finish_first after (Failed id) h f c = absurd f
  finish_first after (Crashed id) h f c = absurd f

  -- no first operation is left that leads to an end
  pub no_finish : ¬ ((id : ℕ) → HasReturned marks id → Contains front.taken id)
      → ((m : Mark) → Contains marks m → (after : AttemptView) → Follows marks front m after → ¬ CanFinish Steps marks after.taken after.states)
      → ¬ CanFinish Steps marks front.taken front.states
  no_finish not_done tried c = by_rest c.0 c.1
    where
      by_rest : (rest : List Taken) → Finishes Steps marks front.taken front.states rest → ⊥
      by_rest [] f = not_done f
      by_rest (x ∷ rest) f = tried (Invoked x.id x.op) f.0.invoked
          (record { taken = front.taken ++ x.id ∷ []; states = f.1.0 })
          (record { stands = f.0.stands; found = x.found; step = f.1.1; fits = f.0.fits; taken = refl })
          (rest, f.1.2)

module _ (marks : List kept.KeptMark) (front : AttemptView) (at : ℕ) (m : kept.KeptMark) (l : at < length marks) (is : m ≡ get_or marks at m) where
  -- what follows by one mark more
  pub follows_more : (after : AttemptView) → FollowsSome (marks_of_kept marks) front (marks_of_kept (take (at + 1) marks)) after ↔ (FollowsSome (marks_of_kept marks) front (marks_of_kept (take at marks)) after ⊎ Follows (marks_of_kept marks) front (mark_of m) after)
  follows_more after =
      let more : marks_of_kept (take (at + 1) marks) ≡ marks_of_kept (take at marks) ++ mark_of m ∷ [] = ap marks_of_kept (take_more marks at m l ∙ ap (λ x. take at marks ++ x ∷ []) (sym is)) ∙ map-append mark_of (take at marks) (m ∷ []) in (
        (λ h. ⊎_elim
            (λ k. inl (h.0, k, h.2))
            (λ e. inr (subst (λ w. Follows (marks_of_kept marks) front w after) (sym e) h.2))
            (Contains-push_cases (marks_of_kept (take at marks)) (mark_of m) h.0 (subst (λ xs. Contains xs h.0) more h.1))),
        (λ h. ⊎_elim
            (λ k. (k.0, subst (λ xs. Contains xs k.0) (sym more) (Contains-append_left (marks_of_kept (take at marks)) (mark_of m ∷ []) k.0 k.1), k.2))
            (λ f. (mark_of m, subst (λ xs. Contains xs (mark_of m)) (sym more) (Contains-push (marks_of_kept (take at marks)) (mark_of m)), f))
            h),
      )

-- the ways in which an operation may come next
module _ (marks : List Mark) (front : AttemptView) (id : ℕ) where
  pub makes_none : (key : ℕ) (after : AttemptView) → ¬ MakesSome marks front id key [] after
  makes_none key after h = Contains-nil h.0 h.1

  pub makes_more : (key : ℕ) (outcomes : List (AnyState × Found)) (at : ℕ) (outcome : AnyState × Found) → at < length outcomes → outcome ≡ get_or outcomes at outcome → (after : AttemptView)
      → MakesSome marks front id key (take (at + 1) outcomes) after ↔ (MakesSome marks front id key (take at outcomes) after ⊎ Makes marks front id key outcome after)
  makes_more key outcomes at outcome lt is after =
      let more : take (at + 1) outcomes ≡ take at outcomes ++ outcome ∷ [] = take_more outcomes at outcome lt ∙ ap (λ x. take at outcomes ++ x ∷ []) (sym is) in (
        (λ h. ⊎_elim
            (λ k. inl (h.0, k, h.2))
            (λ e. inr (subst (λ o. Makes marks front id key o after) (sym e) h.2))
            (Contains-push_cases (take at outcomes) outcome h.0 (subst (λ xs. Contains xs h.0) more h.1))),
        (λ h. ⊎_elim
            (λ k. (k.0, subst (λ xs. Contains xs k.0) (sym more) (Contains-append_left (take at outcomes) (outcome ∷ []) k.0 k.1), k.2))
            (λ f. (outcome, subst (λ xs. Contains xs outcome) (sym more) (Contains-push (take at outcomes) outcome), f))
            h),
      )

  pub makes_that : (key : ℕ) (outcome : AnyState × Found) (made : AttemptView) → ((answer : Answer) → Contains marks (Returned id answer) → Fits outcome.1 answer) → made.taken ≡ front.taken ++ id ∷ [] → made.states ≡ with_state front.states key outcome.0
      → (after : AttemptView) → Makes marks front id key outcome after ↔ (made ≡ after)
  makes_that key outcome made fits taken states after = (
    (λ h. let p : made.taken ≡ after.taken = taken ∙ h.taken in let q : made.states ≡ after.states = states ∙ h.states in λ i. record { taken = p i; states = q i }),
    (λ e. subst (Makes marks front id key outcome) e (record { fits = fits; states = sym states; taken = sym taken })),
  )

  pub follows_by : (op : Op) (outcomes : List (AnyState × Found)) → ((found : Found) (after : List Keyed) → Steps front.states op found after ↔ LeadTo front.states op.key outcomes found after) → MayStandAfter marks front.taken id
      → (after : AttemptView) → FollowsBy marks front id op after ↔ MakesSome marks front id op.key outcomes after
  follows_by op outcomes steps stands after = (
    (λ f.
        let b = (steps f.found after.states).0 f.step in
        ((b.0, f.found), listed_in outcomes (b.0, f.found) b.1, record { fits = f.fits; states = b.2; taken = f.taken })),
    (λ h. record {
      stands = stands;
      found = h.0.1;
      step = (steps h.0.1 after.states).1 (h.0.0, in_listed outcomes h.0 h.1, h.2.states);
      fits = h.2.fits;
      taken = h.2.taken;
    }),
  )
