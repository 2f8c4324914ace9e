-- calls of an object in which each has one outcome at most, in turn
use Rattle.std.proofs.Common.{◌≡◌, ℕ, ◌+◌, ◌<◌, Ok, Err, List, [], ◌∷◌, ◌++◌, length, take, drop, get_or, refl, sym, ap, ◌∙◌, subst, append_assoc, add-one, drop-cons, arith}
use Rattle.std.proofs.lemmas.List.{append-nil, take-append-drop, length-take-le}
use Rattle.kinds.specs.declared.model_kind.ModelKind.{ModelKind}
use Rattle.kinds.specs.declared.any_state.AnyState.{AnyState}
use Rattle.kinds.specs.AnyState.{any}
use Rattle.kinds.specs.Kinds.{object_of}
use Rattle.witness.specs.declared.calls.Call.{Call}
use Rattle.witness.specs.declared.mismatch.MismatchReason.{MismatchReason}
use Rattle.witness.specs.declared.mismatch.MismatchReason.TheVariants.{NoEvent, NoInvocation, Twice, Failed, TooLate, CannotTakePlace, AnotherAnswer, LeftOut}
use Rattle.witness.specs.Calls.{CanRun, unanswered, IsRejectedAfter, IsRejection}
use Rattle.witness.specs.Taking.{IsRejectedIn, Takes, IsAfter}

-- one call more
pub one_more : (kind : ModelKind) (front : List Call) (c : Call) (state next : AnyState) → IsAfter kind front state
    → ((s : (object_of kind).State) → state ≡ any kind s → Takes kind s c (Ok next)) → IsAfter kind (front ++ c ∷ []) next
one_more kind front c state next after takes =
    let t = takes after.left after.is in
    record {
      left = t.0;
      is = t.1;
      ahead = λ later. (
          let e : (front ++ c ∷ []) ++ later ≡ front ++ c ∷ later = append_assoc front (c ∷ []) later in (
            (λ h. (t.2 later).0 ((after.ahead (c ∷ later)).0 (subst (λ l. CanRun (object_of kind) l (object_of kind).start) e h))),
            (λ h. subst (λ l. CanRun (object_of kind) l (object_of kind).start) (sym e) ((after.ahead (c ∷ later)).1 ((t.2 later).1 h))),
          ));
    }

-- and none more
rejected : (kind : ModelKind) (front : List Call) (c : Call) (state : AnyState) (why : MismatchReason) (after : IsAfter kind front state) → IsRejectedIn (object_of kind) after.left c why → IsRejectedAfter (object_of kind) front c why
rejected kind front c state CannotTakePlace after h = λ r. h ((after.ahead (unanswered c ∷ [])).0 r)
rejected kind front c state AnotherAnswer after h = ((after.ahead (unanswered c ∷ [])).1 h.0, λ r. h.1 ((after.ahead (c ∷ [])).0 r))
rejected kind front c state NoEvent after h = absurd h
rejected kind front c state NoInvocation after h = absurd h
rejected kind front c state Twice after h = absurd h
rejected kind front c state Failed after h = absurd h
rejected kind front c state TooLate after h = absurd h
rejected kind front c state LeftOut after h = absurd h

-- a list from a place on, and at it
pub from_place : {X : Type 0} (xs : List X) (at : ℕ) (x : X) → at < length xs → x ≡ get_or xs at x → drop at xs ≡ x ∷ drop (at + 1) xs
from_place xs at x fits is = (rw (add-one, drop-cons xs at x) refl) ∙ ap (λ y. y ∷ drop (at + 1) xs) (sym is)

pub cut_at : {X : Type 0} (xs : List X) (at : ℕ) (x : X) → at < length xs → x ≡ get_or xs at x → take at xs ++ x ∷ drop (at + 1) xs ≡ xs
cut_at xs at x fits is = ap (λ l. take at xs ++ l) (sym (from_place xs at x fits is)) ∙ take-append-drop at xs

pub rejection_at : (kind : ModelKind) (calls : List Call) (at : ℕ) (c : Call) (state : AnyState) (why : MismatchReason) → at < length calls → c ≡ get_or calls at c → IsAfter kind (take at calls) state
    → ((s : (object_of kind).State) → state ≡ any kind s → Takes kind s c (Err why)) → IsRejection (object_of kind) calls at why
rejection_at kind calls at c state why fits is after takes = record {
  before = take at calls;
  call = c;
  after = drop (at + 1) calls;
  cut = cut_at calls at c fits is;
  place = length-take-le at calls (omega arith);
  can_run = subst (λ l. CanRun (object_of kind) l (object_of kind).start) (append-nil (take at calls)) ((after.ahead []).1 tt);
  rejected = rejected kind (take at calls) c state why after (takes after.left after.is);
}
