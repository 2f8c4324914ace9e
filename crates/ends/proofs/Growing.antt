-- ends that grow by the outcomes of calls, until they are closed
use Rattle.std.proofs.Common.{◌≡◌, ℕ, Bool, true, Result, Ok, Err, IfOk, ◌+◌, ◌*◌, ◌≤◌, inr, ⊎_elim, List, length, take, sym, ap, subst, arith}
use Rattle.std.specs.List.{Contains}
use Rattle.std.proofs.Math.Nat.{mul-le-mul_left, mul-le-mul_right}
use Rattle.models.specs.Objects.{Object}
use Rattle.linspec.specs.Ends.{End}
use Rattle.moves.specs.declared.pending_op.PendingOp.{PendingOp}
use Rattle.std.specs.declared.alloc.AllocError.{AllocError}
use Rattle.moves.specs.declared.table.Table.{Table}
use Rattle.moves.specs.EndSteps.{Adds, AreClosed, Grows, IsReached, Next}
use Rattle.moves.specs.Tables.{AreShown, HasEachOnce, rows_of}
use Rattle.ends.specs.Oks.{Asked, FindsLeft, IsAdvanced, IsLeft, ReachesOver, ShownGrown}
use Rattle.moves.proofs.Reaching.{closed_has, reached_itself}

pub Grows-itself : (o : Object) (calls : List PendingOp) (ends : List (End o.State)) → Grows o calls ends ends
Grows-itself o calls ends = record { kept = λ e h. h; reached = λ e h. reached_itself o calls ends e h; once = λ h. h }

-- a closed list has all ends that are reached
pub grown_all : (o : Object) (calls : List PendingOp) (xs ys : List (End o.State)) → Grows o calls xs ys → ((e f : End o.State) → Contains ys e → Next o calls e f → Contains ys f) → Adds (IsReached o calls xs) xs ys
grown_all o calls xs ys grows closed = record {
  each = λ e. (
    (λ h. inr (grows.reached e h)),
    (λ h. ⊎_elim (grows.kept e) (λ r. closed_has o calls (Contains ys) closed r.0 r.1 e (grows.kept r.1 r.2) r.3) h),
  );
  once = grows.once;
}

-- the result of an ok, from the grown rows: all ends with those that are left, or only that they are too many
module _ (o : Object) (t u left : Table o.State) (ok : Asked) (all : Result Bool AllocError)
    (grows : HasEachOnce ok.calls → (ends : List (End o.State)) → AreShown t ok.calls ends → AreClosed o (take ok.tried ok.calls) ends → IfOk all (ShownGrown o u ok.calls ends))
    (within : IfOk all (λ all. all ≡ true → length (rows_of u) ≤ ok.budget))
    (over : ReachesOver o t ok all) where
  pub finds_left : (told : Bool) → all ≡ Ok told → (HasEachOnce ok.calls → (ends : List (End o.State)) → AreShown u ok.calls ends → IsLeft left ok ends) → FindsLeft o t left ok all
  finds_left told is settled = record {
    all = λ once ends shown closed. subst (λ r. IfOk r (λ b. b ≡ true → IsAdvanced o left ok ends)) (sym is) (λ whole.
        let n : ShownGrown o u ok.calls ends told = subst (λ r. IfOk r (ShownGrown o u ok.calls ends)) is (grows once ends shown closed) in
        let few : length (rows_of u) ≤ ok.budget = subst (λ r. IfOk r (λ b. b ≡ true → length (rows_of u) ≤ ok.budget)) is within whole in
        let long = n.shown.long in
        record {
          all = n.more;
          adds = grown_all o ok.calls ends n.more n.grows (n.closed whole);
          within = omega (arith, long, few);
          left = settled once n.more n.shown;
        });
    over = over;
  }

  not_all : (r : Result Bool AllocError) → ¬ (r ≡ Ok true) → (P : Type 0) → IfOk r (λ b. b ≡ true → P)
  not_all (Ok b) other P = λ is. absurd (other (ap Ok is))
  not_all (Err e) other P = tt

  pub finds_none : ¬ (all ≡ Ok true) → FindsLeft o t left ok all
  finds_none other = record { all = λ once ends shown closed. not_all all other (IsAdvanced o left ok ends); over = over }

-- the cost of one place more, and of all places
pub cost_more : (start before after at n : ℕ) → before ≤ start + at * n → after ≤ before + n → after ≤ start + (at + 1) * n
cost_more start before after at n so_far step = let one : (at + 1) * n ≡ at * n + n = grind arith in omega (arith, so_far, step, one)

-- the cost of places that are no more than one above the budget
pub cost_enough : (start now at budget n : ℕ) → now ≤ start + at * n → at ≤ budget + 1 → now ≤ start + (budget + 1) * n
cost_enough start now at budget n cost le = let more : at * n ≤ (budget + 1) * n = mul-le-mul_right n le in omega (arith, cost, more)

pub cost_within : (start now budget k n : ℕ) → now ≤ start + (budget + 1) * k → k ≤ n → now ≤ start + (budget + 1) * n
cost_within start now budget k n cost le = let more : (budget + 1) * k ≤ (budget + 1) * n = mul-le-mul_left (budget + 1) le in omega (arith, cost, more)
