-- the calls ahead of a place
use Rattle.std.proofs.Common.{◌≡◌, ◌↔◌, ℕ, ◌+◌, ◌-◌, ◌<◌, ◌≤◌, ℤ, nat_eq, IsTrue, Some, None, List, [], ◌∷◌, ◌++◌, length, take, drop, get_or, refl, sym, ap, ◌∙◌, subst, append_assoc, arith}
use Rattle.std.proofs.lemmas.Bool.{eqb-true, eq-eqb}
use Rattle.std.proofs.lemmas.List.{take_more, length-take-le}
use Rattle.models.specs.Objects.{unordered_queue}
use Rattle.models.specs.Runs.{times_in}
use Rattle.witness.specs.declared.calls.Call.{Call}
use Rattle.witness.specs.declared.requirement.Requirement.{Requirement}
use Rattle.witness.specs.declared.mismatch.MismatchReason.TheVariants.{CannotTakePlace, AnotherAnswer}
use Rattle.witness.specs.Calls.{CanRun, IsRejection, unanswered}
use Rattle.witness.specs.Requirements.{IsRequirement, AreBefore}
use Rattle.witness.proofs.InTurn.{from_place, cut_at}
use Rattle.witness.proofs.Runs.{CanRun-right}

pub none_ahead : {X : Type 0} (xs : List X) → drop (length xs) xs ≡ []
none_ahead [] = refl
none_ahead (x ∷ xs) = none_ahead xs

pub one_ahead : {X : Type 0} (xs : List X) (at : ℕ) (x : X) → 0 < at → at ≤ length xs → x ≡ get_or xs (at - 1) x → drop (at - 1) xs ≡ x ∷ drop at xs
one_ahead xs at x lt fits is = let e : at - 1 + 1 ≡ at = omega arith in subst (λ n. drop (at - 1) xs ≡ x ∷ drop n xs) e (from_place xs (at - 1) x (omega arith) is)

-- one call more
pub requirement_more : (calls later : List Call) (at : ℕ) (c : Call) (requirement before : Requirement) → 0 < at → at ≤ length calls → c ≡ get_or calls (at - 1) c
    → AreBefore c requirement (Some before) → IsRequirement (drop at calls ++ later) requirement → IsRequirement (drop (at - 1) calls ++ later) before
requirement_more calls later at c requirement before lt fits is by ahead =
    subst (λ l. IsRequirement (l ++ later) before) (sym (one_ahead calls at c lt fits is)) (by (drop at calls ++ later) ahead)

-- one that can't take place
pub no_more : (calls later : List Call) (at : ℕ) (c : Call) (requirement : Requirement) → 0 < at → at ≤ length calls → c ≡ get_or calls (at - 1) c
    → AreBefore c requirement None → IsRequirement (drop at calls ++ later) requirement → (s : List ℤ) → ¬ CanRun unordered_queue (calls ++ later) s
no_more calls later at c requirement lt fits is by ahead s h =
    let whole : take (at - 1) calls ++ (c ∷ drop at calls) ≡ calls = subst (λ n. take (at - 1) calls ++ c ∷ drop n calls ≡ calls) (omega arith) (cut_at calls (at - 1) c (omega arith) is) in
    let e : calls ++ later ≡ take (at - 1) calls ++ (c ∷ (drop at calls ++ later)) = ap (λ l. l ++ later) (sym whole) ∙ append_assoc (take (at - 1) calls) (c ∷ drop at calls) later in
    let r = CanRun-right unordered_queue (take (at - 1) calls) (c ∷ (drop at calls ++ later)) s (subst (λ l. CanRun unordered_queue l s) e h) in
    by (drop at calls ++ later) ahead r.0 r.1

-- the empty queue has what is needed where nothing is
no_items : (xs : List ℤ) → length xs ≡ 0 → xs ≡ []
no_items [] e = refl
no_items (x ∷ xs) e = absurd (omega (arith, e))

pub met : (calls : List Call) (requirement : Requirement) → IsRequirement calls requirement → length requirement.values ≡ 0 → IsTrue (nat_eq requirement.more 0) ↔ CanRun unordered_queue calls []
met calls requirement are none = (
  (λ t. (are []).1 (record {
    has = λ v. (let e = ap (times_in v) (no_items requirement.values none) in let z : times_in v [] ≡ 0 = refl in omega (arith, e, z));
    has_more = (let e = eqb-true requirement.more 0 t in omega (arith, e, none));
  })),
  (λ r. let n = (are []).0 r in eq-eqb requirement.more 0 (let e = n.has_more in omega (arith, e))),
)

pub unmet : (calls : List Call) (requirement : Requirement) → IsRequirement calls requirement → ¬ (length requirement.values ≡ 0) → ¬ CanRun unordered_queue calls []
unmet calls requirement are some r = let n = (are []).0 r in some (let e = n.has_more in omega (arith, e))

-- the fewest calls that can't take place
pub rejection_of : (calls : List Call) (at : ℕ) (c : Call) → at < length calls → c ≡ get_or calls at c → CanRun unordered_queue (take at calls) [] → CanRun unordered_queue (take at calls ++ unanswered c ∷ []) []
    → ¬ CanRun unordered_queue (take (at + 1) calls) [] → IsRejection unordered_queue calls at AnotherAnswer
rejection_of calls at c fits is can_run positions rejected = record {
  before = take at calls;
  call = c;
  after = drop (at + 1) calls;
  cut = cut_at calls at c fits is;
  place = length-take-le at calls (omega arith);
  can_run = can_run;
  rejected = (positions, λ r. rejected (subst (λ l. CanRun unordered_queue l []) (sym (take_more calls at c fits ∙ ap (λ x. take at calls ++ x ∷ []) (sym is))) r));
}

pub stop_of : (calls : List Call) (at : ℕ) (c : Call) → at < length calls → c ≡ get_or calls at c → CanRun unordered_queue (take at calls) [] → ¬ CanRun unordered_queue (take at calls ++ unanswered c ∷ []) [] → IsRejection unordered_queue calls at CannotTakePlace
stop_of calls at c fits is can_run rejected = record {
  before = take at calls;
  call = c;
  after = drop (at + 1) calls;
  cut = cut_at calls at c fits is;
  place = length-take-le at calls (omega arith);
  can_run = can_run;
  rejected = rejected;
}
