-- operations of a key in their order, one more
use Rattle.std.proofs.Common.{◌≡◌, ℕ, suc, ◌+◌, ◌<◌, ◌≤◌, ◌⊎◌, inl, inr, ⊎_elim, List, [], ◌∷◌, ◌++◌, length, take, drop, get_or, max, refl, sym, ap, ◌∙◌, subst, append_assoc, arith}
use Rattle.std.specs.List.{Contains}
use Rattle.std.proofs.lemmas.Bool.{cases_order}
use Rattle.std.proofs.lemmas.List.{take_more, map-append, get_or_default, length-append, take-append-drop}
use Rattle.std.proofs.lemmas.List.Elements.{Contains-append_left, Contains-push, Contains-push_cases}
use Rattle.events.specs.declared.event.Event.{Event}
use Rattle.kinds.specs.declared.model_kind.ModelKind.{ModelKind}
use Rattle.kinds.specs.Kinds.{object_of}
use Rattle.linspec.proofs.Lists.{Contains-nil, Contains-head, Contains-cons_cases, Pairwise-append, Pairwise-left, Pairwise-across}
use Rattle.witness.specs.declared.calls.Call.{Call}
use Rattle.witness.specs.declared.statuses.OperationStatus.{OperationStatus}
use Rattle.witness.specs.declared.mismatch.MismatchReason.{MismatchReason}
use Rattle.witness.specs.declared.mismatch.MismatchReason.TheVariants.{NoEvent, NoInvocation, Twice, Failed, TooLate, CannotTakePlace, AnotherAnswer, LeftOut}
use Rattle.witness.specs.declared.mismatch.Mismatch.{Mismatch}
use Rattle.witness.specs.declared.placing.Position.{Position}
use Rattle.witness.specs.Calls.{IsRejectedAfter, IsRejection}
use Rattle.witness.specs.Statuses.{status_at}
use Rattle.witness.specs.KeyOrders.{ids_of, IsBefore, AreInTime, IsCallBy, AreCallsBy, KeyFits, IsMismatchFor, KeyMismatch}
use Rattle.witness.proofs.InTurn.{cut_at}

pub ids_more : (positions : List Position) (at : ℕ) (s : Position) → at < length positions → s ≡ get_or positions at s → ids_of (take (at + 1) positions) ≡ ids_of (take at positions) ++ s.id ∷ []
ids_more positions at s fits is =
    ap ids_of (take_more positions at s fits ∙ ap (λ x. take at positions ++ x ∷ []) (sym is)) ∙ map-append (λ (x : Position). x.id) (take at positions) (s ∷ [])

pub ids_more_at : (positions : List Position) (at : ℕ) (d : Position) → at < length positions → ids_of (take (at + 1) positions) ≡ ids_of (take at positions) ++ (get_or positions at d).id ∷ []
ids_more_at positions at d fits = ids_more positions at (get_or positions at d) fits (get_or_default positions at d (get_or positions at d) fits)

pub in_time_more : (statuses : List OperationStatus) (ids : List ℕ) (id latest : ℕ) → AreInTime statuses ids → ((other : ℕ) → Contains ids other → other ≤ latest) → ¬ IsBefore statuses id latest → AreInTime statuses (ids ++ id ∷ [])
in_time_more statuses ids id latest in_time most fine =
    Pairwise-append (λ x y. ¬ IsBefore statuses y x) ids (id ∷ []) in_time ((λ y h. absurd (Contains-nil y h)), tt)
    (λ x y h k b. ⊎_elim
    (λ (q : id ≡ y). let le = most x h in fine (b.0, ap (λ n. status_at statuses n) q ∙ b.1, omega (arith, le, b.2)))
    (λ none. absurd (Contains-nil y none))
    (Contains-cons_cases id [] y k))

pub most_more : (ids : List ℕ) (id latest now : ℕ) → ((other : ℕ) → Contains ids other → other ≤ latest) → latest ≤ now → id ≤ now → (other : ℕ) → Contains (ids ++ id ∷ []) other → other ≤ now
most_more ids id latest now most up here other h = ⊎_elim (λ k. let le = most other k in omega (arith, le)) (λ (q : id ≡ other). omega (arith, q)) (Contains-push_cases ids id other h)

pub is_more : (ids : List ℕ) (id latest now : ℕ) → (latest ≡ 0) ⊎ Contains ids latest → (now ≡ latest) ⊎ (now ≡ id) → (now ≡ 0) ⊎ Contains (ids ++ id ∷ []) now
is_more ids id latest now was one =
    ⊎_elim
    (λ q. ⊎_elim (λ z. inl (q ∙ z)) (λ h. inr (Contains-append_left ids (id ∷ []) now (subst (Contains ids) (sym q) h))) was)
    (λ q. inr (subst (Contains (ids ++ id ∷ [])) (sym q) (Contains-push ids id)))
    one

pub max_cases : (a b : ℕ) → (max a b ≡ a) ⊎ (max a b ≡ b)
max_cases a b = ⊎_elim (λ (e : a ≡ b). inl (omega (arith, e))) (λ h. ⊎_elim (λ (l : a < b). inr (omega (arith, l))) (λ (l : b < a). inl (omega (arith, l))) h) (cases_order a b)

-- calls, one more
pub calls_more : (events : List Event) (statuses : List OperationStatus) (ids : List ℕ) (calls : List Call) (id : ℕ) (c : Call) → AreCallsBy events statuses ids calls → IsCallBy events statuses id c → AreCallsBy events statuses (ids ++ id ∷ []) (calls ++ c ∷ [])
calls_more events statuses [] [] id c are is = (is, tt)
calls_more events statuses [] (d ∷ calls) id c are is = absurd are
calls_more events statuses (i ∷ ids) [] id c are is = absurd are
calls_more events statuses (i ∷ ids) (d ∷ calls) id c are is = (are.0, calls_more events statuses ids calls id c are.1 is)

-- calls cut at a place
pub record CutAt (events : List Event) (statuses : List OperationStatus) (positions : List Position) (before : List Call) (c : Call) : Type 0 where
  pub front : List Position
  pub here : Position
  pub rest : List Position
  pub cut : front ++ here ∷ rest ≡ positions
  pub long : length front ≡ length before
  pub are : AreCallsBy events statuses (ids_of front) before
  pub is : IsCallBy events statuses here.id c

pub cut_calls : (events : List Event) (statuses : List OperationStatus) (positions : List Position) (before : List Call) (c : Call) (after : List Call) → AreCallsBy events statuses (ids_of positions) (before ++ c ∷ after) → CutAt events statuses positions before c
cut_calls events statuses [] [] c after are = absurd are
cut_calls events statuses [] (b ∷ before) c after are = absurd are
cut_calls events statuses (s ∷ positions) [] c after are = record { front = []; here = s; rest = positions; cut = refl; long = refl; are = tt; is = are.0 }
cut_calls events statuses (s ∷ positions) (b ∷ before) c after are =
    let r = cut_calls events statuses positions before c after are.1 in
    record { front = s ∷ r.front; here = r.here; rest = r.rest; cut = ap (λ l. s ∷ l) r.cut; long = ap suc r.long; are = (are.0, r.are); is = r.is }

pub there : {X : Type 0} (front rest : List X) (x d : X) → get_or (front ++ x ∷ rest) (length front) d ≡ x
there [] rest x d = refl
there (y ∷ front) rest x d = there front rest x d

-- the first of operations that are in time
in_time_front : (statuses : List OperationStatus) (front rest positions : List Position) → front ++ rest ≡ positions → AreInTime statuses (ids_of positions) → AreInTime statuses (ids_of front)
in_time_front statuses front rest positions cut in_time =
    Pairwise-left (λ x y. ¬ IsBefore statuses y x) (ids_of front) (ids_of rest)
    (subst (AreInTime statuses) (map-append (λ (s : Position). s.id) front rest) (subst (λ l. AreInTime statuses (ids_of l)) (sym cut) in_time))

-- and none of the first comes behind a later one
after_none : (statuses : List OperationStatus) (front : List Position) (here : Position) (rest positions : List Position) → front ++ here ∷ rest ≡ positions → AreInTime statuses (ids_of positions)
    → (other : ℕ) → Contains (ids_of front) other → ¬ IsBefore statuses here.id other
after_none statuses front here rest positions cut in_time other h =
    Pairwise-across (λ x y. ¬ IsBefore statuses y x) (ids_of front) (here.id ∷ ids_of rest)
    (subst (AreInTime statuses) (map-append (λ (s : Position). s.id) front (here ∷ rest)) (subst (λ l. AreInTime statuses (ids_of l)) (sym cut) in_time))
    other here.id h (Contains-head here.id (ids_of rest))

-- a rejection of the calls is one of the operations
rejected_for : (kind : ModelKind) (events : List Event) (statuses : List OperationStatus) (before : List ℕ) (id : ℕ) (calls : List Call) (c : Call) (why : MismatchReason) → AreCallsBy events statuses before calls → IsCallBy events statuses id c
    → ((other : ℕ) → Contains before other → ¬ IsBefore statuses id other) → IsRejectedAfter (object_of kind) calls c why → IsMismatchFor kind events statuses before id why
rejected_for kind events statuses before id calls c CannotTakePlace are is in_time h = record { calls = calls; call = c; are = are; is = is; rejected = h; in_time = in_time }
rejected_for kind events statuses before id calls c AnotherAnswer are is in_time h = record { calls = calls; call = c; are = are; is = is; rejected = h; in_time = in_time }
rejected_for kind events statuses before id calls c NoEvent are is in_time h = absurd h
rejected_for kind events statuses before id calls c NoInvocation are is in_time h = absurd h
rejected_for kind events statuses before id calls c Twice are is in_time h = absurd h
rejected_for kind events statuses before id calls c Failed are is in_time h = absurd h
rejected_for kind events statuses before id calls c TooLate are is in_time h = absurd h
rejected_for kind events statuses before id calls c LeftOut are is in_time h = absurd h

module _ (kind : ModelKind) (events : List Event) (statuses : List OperationStatus) (positions : List Position) where
  pub rejection_within : (calls : List Call) (at : ℕ) (why : MismatchReason) → AreCallsBy events statuses (ids_of positions) calls → IsRejection (object_of kind) calls at why → at < length positions
  rejection_within calls at why are h =
      let k = cut_calls events statuses positions h.before h.call h.after (subst (AreCallsBy events statuses (ids_of positions)) (sym h.cut) are) in
      let whole : length (k.front ++ k.here ∷ k.rest) ≡ length positions = ap length k.cut in
      let parts = length-append k.front (k.here ∷ k.rest) in
      let l = k.long in
      let p = h.place in
      omega (arith, whole, parts, l, p)

  pub rejection_mismatch : (calls : List Call) (at : ℕ) (why : MismatchReason) (u : Mismatch) → AreInTime statuses (ids_of positions) → AreCallsBy events statuses (ids_of positions) calls → IsRejection (object_of kind) calls at why
      → ((d : Position) → (u.place ≡ (get_or positions at d).place) × (u.event ≡ (get_or positions at d).id) × (u.why ≡ why)) → KeyMismatch kind events statuses positions u
  rejection_mismatch calls at why u in_time are h by =
      let k = cut_calls events statuses positions h.before h.call h.after (subst (AreCallsBy events statuses (ids_of positions)) (sym h.cut) are) in
      let at_is : length k.front ≡ at = k.long ∙ h.place in
      let here : get_or positions at k.here ≡ k.here = ap (λ l. get_or l at k.here) (sym k.cut) ∙ ap (λ n. get_or (k.front ++ k.here ∷ k.rest) n k.here) (sym at_is) ∙ there k.front k.rest k.here k.here in
      let b = by k.here in
      record {
        before = k.front;
        here = k.here;
        after = k.rest;
        cut = k.cut;
        place_is = b.0 ∙ ap (λ (s : Position). s.place) here;
        event_is = b.1 ∙ ap (λ (s : Position). s.id) here;
        fits = record {
          in_time = in_time_front statuses k.front (k.here ∷ k.rest) positions k.cut in_time;
          can_run = record { calls = h.before; are = k.are; can_run = h.can_run };
        };
        mismatch_for = subst (IsMismatchFor kind events statuses (ids_of k.front) k.here.id) (sym b.2) (rejected_for kind events statuses (ids_of k.front) k.here.id h.before h.call why k.are k.is (after_none statuses k.front k.here k.rest positions k.cut in_time) h.rejected);
      }

  -- a mismatch among the first operations is one among all
  pub mismatch_in_all : (n : ℕ) (u : Mismatch) → KeyMismatch kind events statuses (take n positions) u → KeyMismatch kind events statuses positions u
  mismatch_in_all n u k = record {
    before = k.before;
    here = k.here;
    after = k.after ++ drop n positions;
    cut = sym (append_assoc k.before (k.here ∷ k.after) (drop n positions)) ∙ ap (λ l. l ++ drop n positions) k.cut ∙ take-append-drop n positions;
    place_is = k.place_is;
    event_is = k.event_is;
    fits = k.fits;
    mismatch_for = k.mismatch_for;
  }

  -- one that is too late
  pub late_mismatch : (at : ℕ) (s : Position) (u : Mismatch) → at < length positions → KeyFits kind events statuses (ids_of (take at positions)) → ((d : Position) → (other : ℕ) × Contains (ids_of (take at positions)) other × IsBefore statuses (get_or positions at d).id other)
      → ((d : Position) → (u.place ≡ (get_or positions at d).place) × (u.event ≡ (get_or positions at d).id) × (u.why ≡ TooLate)) → KeyMismatch kind events statuses positions u
  late_mismatch at s u within fits late by =
      let here = get_or positions at s in
      let same : here ≡ get_or positions at here = get_or_default positions at s here within in
      let o = late s in
      let b = by s in
      record {
        before = take at positions;
        here = here;
        after = drop (at + 1) positions;
        cut = cut_at positions at here within same;
        place_is = b.0;
        event_is = b.1;
        fits = fits;
        mismatch_for = subst (IsMismatchFor kind events statuses (ids_of (take at positions)) here.id) (sym b.2) (o.0, o.1, o.2);
      }
