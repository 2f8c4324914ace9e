-- the least of an open enqueue after one of its value was taken out
use Rattle.std.proofs.Common.{◌≡◌, ◌≢◌, ℕ, ◌+◌, ◌-◌, ◌<◌, ◌≤◌, ℤ, ⊎_elim, cond, List, [], ◌∷◌, ◌++◌, refl, sym, ap, ◌∙◌, subst, arith}
use Rattle.std.specs.List.{Contains}
use Rattle.std.specs.Ordering.{int_eq}
use Rattle.std.proofs.lemmas.List.{append-nil}
use Rattle.std.proofs.lemmas.List.Elements.{Contains-append_left}
use Rattle.values.proofs.Bags.{same_int, other_int}
use Rattle.models.specs.declared.operation.Op.{Op}
use Rattle.models.specs.declared.finding.Answer.TheVariants.{Number}
use Rattle.events.specs.Events.{Mark, IsPrefixOf}
use Rattle.events.specs.Events.Mark.{Invoked, Returned, Failed}
use Rattle.linspec.specs.MarkRule.{AreWellFormed}
use Rattle.linspec.specs.Operations.{IsInvoked}
use Rattle.linspec.proofs.Filters.{two_cuts}
use Rattle.set_chains.proofs.Once.{one_op}
use Rattle.bag_matches.specs.Matches.{Enqueues, IsEnqueueOf}
use Rattle.bag_matches.specs.Counts.{enqueued, dequeued}
use Rattle.bag_matches.proofs.Tests.{IsDequeue}
use Rattle.bag_matches.proofs.Events.{well_before, extended, dequeued_same, enqueued_same, dequeued_after, enqueued_after, enqueued_with, enqueued_without, enqueue_or_not, dequeued_failed, enqueued_failed}
use Rattle.wide_unordered_queue.specs.Facts.{IsLeast}
use Rattle.wide_unordered_queue.proofs.Carrying.{least_within, least_stays}

-- an operation that is invoked has its least at the end too
pub at_end : (ms : List Mark) (id : ℕ) (v : ℤ) (least : ℕ) → IsInvoked ms id → IsLeast ms id v least → dequeued ms v ms + least ≤ enqueued ms v ms
at_end ms id v least i is = is.within ms [] (append-nil ms) i

-- the ok of a dequeue with v, by the number of enqueues of v beyond its dequeues
module _ (ms : List Mark) (id : ℕ) (v : ℤ) (well : AreWellFormed (ms ++ Returned id (Number v) ∷ [])) (op : Op) (invoked : Contains ms (Invoked id op)) (is : IsDequeue op)
    (times : ℕ) (counted : dequeued ms v ms + times ≡ enqueued ms v ms) (some : 0 < times) where
  abbrev ok : Mark
  ok = Returned id (Number v)

  abbrev done : List Mark
  done = ms ++ ok ∷ []

  no_fail : (n : ℕ) → ok ≢ Failed n
  no_fail n e = cc

  fronts_same : (w : ℤ) (front : List Mark) → enqueued done w front ≡ enqueued ms w front
  fronts_same w front = enqueued_same ms ok well no_fail w front

  one_more : dequeued done v done ≡ dequeued ms v ms + 1
  one_more =
      let a = dequeued_after ms id v well op invoked is v in
      let b : cond {A = ℕ} (int_eq v v) 1 0 ≡ 1 = ap (λ t. cond t 1 0) (same_int v v refl) in
      omega (arith, a, b)

  module _ (i : ℕ) (was : IsInvoked ms i) where
    pub other_stays : (w : ℤ) (least : ℕ) → v ≢ w → IsLeast ms i w least → IsLeast done i w least
    other_stays w least ne h = least_stays ms ok well i w least (λ front rest cut j. fronts_same w front) (
        let le = at_end ms i w least was h in
        let a = dequeued_after ms id v well op invoked is w in
        let b : cond {A = ℕ} (int_eq v w) 1 0 ≡ 0 = ap (λ t. cond t 1 0) (other_int v w ne) in
        let c = enqueued_after ms id v well op invoked is w in
        omega (arith, le, a, b, c))
        h

    pub lesser_stays : (least : ℕ) → least < times → IsLeast ms i v least → IsLeast done i v least
    lesser_stays least lt h = least_stays ms ok well i v least (λ front rest cut j. fronts_same v front) (
        let a = one_more in
        let c = enqueued_after ms id v well op invoked is v in
        omega (arith, lt, counted, a, c))
        h

    pub is_lowered : (least : ℕ) → times ≤ least → IsLeast ms i v least → IsLeast done i v (least - 1)
    is_lowered least le h =
        let most = at_end ms i v least was h in
        let a = one_more in
        let c = enqueued_after ms id v well op invoked is v in
        let whole : dequeued done v done + (least - 1) ≡ enqueued done v done = omega (arith, le, most, counted, some, a, c) in
        record {
          within = least_within ms ok well i v (least - 1)
              (λ front rest cut j. (let b : dequeued ms v front + least ≤ enqueued ms v front = h.within front rest cut j in let d = fronts_same v front in omega (arith, b, d)))
              (omega (arith, whole));
          met = (done, [], append-nil done, (was.0, Contains-append_left ms (ok ∷ []) _ was.1), whole);
        }

-- the fail of an enqueue of v with this least
module _ (ms : List Mark) (id : ℕ) (well : AreWellFormed (ms ++ Failed id ∷ [])) (v : ℤ) (own : IsEnqueueOf ms id v) (least : ℕ) (some : 0 < least) (its : IsLeast ms id v least) where
  abbrev failed : List Mark
  failed = ms ++ Failed id ∷ []

  only : (front rest : List Mark) → front ++ rest ≡ ms → IsInvoked front id → IsEnqueueOf front id v
  only front rest cut i =
      let here : Contains ms (Invoked id i.0) = subst (λ l. Contains l (Invoked id i.0)) cut (Contains-append_left front rest _ i.1) in
      let same : own.0 ≡ i.0 = one_op ms (well_before ms (Failed id) well) id own.0 i.0 own.1 here in
      (i.0, i.1, subst (λ o. Enqueues o v) same own.2)

  whole_same : (w : ℤ) (n : ℕ) → dequeued failed w ms + n ≤ enqueued failed w ms → dequeued failed w failed + n ≤ enqueued failed w failed
  whole_same w n le =
      let a = dequeued_failed ms id well w in
      let b = enqueued_failed ms id well w in
      let c = dequeued_same ms (Failed id) well w ms [] (append-nil ms) in
      omega (arith, le, a, b, c)

  module _ (i : ℕ) (was : IsInvoked ms i) where
    pub other_value_stays : (w : ℤ) (n : ℕ) → ((front rest : List Mark) → front ++ rest ≡ ms → ¬ IsEnqueueOf front id w) → IsLeast ms i w n → IsLeast failed i w n
    other_value_stays w n none h = least_stays ms (Failed id) well i w n (λ front rest cut j. enqueued_without ms id well w front (none front rest cut)) (
        whole_same w n (
        let le = at_end ms i w n was h in
        let a = dequeued_same ms (Failed id) well w ms [] (append-nil ms) in
        let b = enqueued_without ms id well w ms (none ms [] (append-nil ms)) in
        omega (arith, le, a, b)))
        h

    -- in each front the failed one counts one more, or is not invoked yet
    by_front : (n : ℕ) (front rest : List Mark) → front ++ rest ≡ ms
        → (IsEnqueueOf front id v → dequeued ms v front + n + 1 ≤ enqueued ms v front)
        → ((¬ IsEnqueueOf front id v) → dequeued ms v front + n ≤ enqueued ms v front)
        → dequeued ms v front + n ≤ enqueued failed v front
    by_front n front rest cut own_in own_out = ⊎_elim
        (λ e. (let le : dequeued ms v front + n + 1 ≤ enqueued ms v front = own_in e in let a = enqueued_with ms id well v front rest cut e in omega (arith, le, a)))
        (λ e. (let le : dequeued ms v front + n ≤ enqueued ms v front = own_out e in let a = enqueued_without ms id well v front e in omega (arith, le, a)))
        (enqueue_or_not ms id well v front rest cut)

    its_within : (front rest : List Mark) → front ++ rest ≡ ms → IsEnqueueOf front id v → dequeued ms v front + least ≤ enqueued ms v front
    its_within front rest cut e = its.within front rest cut (e.0, e.1)

    at_whole : (n : ℕ) → dequeued ms v ms + n ≤ enqueued failed v ms → dequeued failed v failed + n ≤ enqueued failed v failed
    at_whole n le = whole_same v n (let c = dequeued_same ms (Failed id) well v ms [] (append-nil ms) in omega (arith, le, c))

    -- where it counts in no front or as much, the least is met as before
    met_at : (n : ℕ) (front rest : List Mark) → front ++ rest ≡ ms → IsInvoked front i → dequeued ms v front + n ≡ enqueued failed v front
        → (f : List Mark) × (r : List Mark) × (f ++ r ≡ failed) × IsInvoked f i × (dequeued failed v f + n ≡ enqueued failed v f)
    met_at n front rest cut j e =
        let c = dequeued_same ms (Failed id) well v front rest cut in
        (front, rest ++ Failed id ∷ [], extended ms (Failed id) well front rest cut, j, omega (arith, e, c))

    pub lesser_kept : (n : ℕ) → n < least → IsLeast ms i v n → IsLeast failed i v n
    lesser_kept n lt h =
        let parts : (front rest : List Mark) → front ++ rest ≡ ms → IsInvoked front i → dequeued ms v front + n ≤ enqueued failed v front = λ front rest cut j. by_front n front rest cut
        (λ e. (let a = its_within front rest cut e in omega (arith, a, lt)))
        (λ e. h.within front rest cut j) in
        record {
          within = least_within ms (Failed id) well i v n parts (at_whole n (parts ms [] (append-nil ms) was));
          met =
              let front : List Mark = h.met.0 in
              let same : dequeued ms v front + n ≡ enqueued ms v front = h.met.4 in
              let none : ¬ IsEnqueueOf front id v = λ e. (let a = its_within front h.met.1 h.met.2 e in omega (arith, a, lt, same)) in
              let b = enqueued_without ms id well v front none in
              met_at n front h.met.1 h.met.2 h.met.3 (omega (arith, same, b));
        }

    pub greater_lowered : (n : ℕ) → least ≤ n → IsLeast ms i v n → IsLeast failed i v (n - 1)
    greater_lowered n le h =
        let parts : (front rest : List Mark) → front ++ rest ≡ ms → IsInvoked front i → dequeued ms v front + (n - 1) ≤ enqueued failed v front = λ front rest cut j. by_front (n - 1) front rest cut
        (λ e. (let a : dequeued ms v front + n ≤ enqueued ms v front = h.within front rest cut j in omega (arith, a, le, some)))
        (λ e. (let a : dequeued ms v front + n ≤ enqueued ms v front = h.within front rest cut j in omega (arith, a))) in
        let front : List Mark = h.met.0 in
        let rest : List Mark = h.met.1 in
        let cut : front ++ rest ≡ ms = h.met.2 in
        let same : dequeued ms v front + n ≡ enqueued ms v front = h.met.4 in
        record {
          within = least_within ms (Failed id) well i v (n - 1) parts (at_whole (n - 1) (parts ms [] (append-nil ms) was));
          met = ⊎_elim
              (λ e. (let b = enqueued_with ms id well v front rest cut e in met_at (n - 1) front rest cut h.met.3 (omega (arith, same, b, le, some))))
              (λ none.
              let later : List Mark = its.met.0 in
              let cut' : later ++ its.met.1 ≡ ms = its.met.2 in
              let there : IsEnqueueOf later id v = only later its.met.1 cut' its.met.3 in
              let exact : dequeued ms v later + least ≡ enqueued ms v later = its.met.4 in
              let b = enqueued_with ms id well v later its.met.1 cut' there in
              ⊎_elim
              (λ (f : IsPrefixOf front later).
              let j : IsInvoked later i = (h.met.3.0, subst (λ l. Contains l (Invoked i h.met.3.0)) f.1 (Contains-append_left front f.0 _ h.met.3.1)) in
              let a : dequeued ms v later + n ≤ enqueued ms v later = h.within later its.met.1 cut' j in
              met_at (n - 1) later its.met.1 cut' j (omega (arith, a, exact, b, le, some)))
              (λ (f : IsPrefixOf later front). absurd (none (there.0, subst (λ l. Contains l (Invoked id there.0)) f.1 (Contains-append_left later f.0 _ there.1), there.2)))
              (two_cuts front rest later its.met.1 (cut ∙ sym cut')))
              (enqueue_or_not ms id well v front rest cut);
        }
