-- by halves
use Rattle.std.proofs.Common.{◌≡◌, ℕ, zero, suc, ◌+◌, ◌-◌, ◌<◌, ◌≤◌, ⊎_elim, List, [], length, take, sym, subst, arith}
use Rattle.std.proofs.lemmas.Bool.{cases_order}
use Rattle.std.proofs.lemmas.List.{take_all}
use Rattle.models.specs.Objects.{unordered_queue}
use Rattle.witness.specs.declared.calls.Call.{Call}
use Rattle.witness.specs.Calls.{CanRun}
use Rattle.witness.proofs.queue.first_mismatch.Goals as goal

some_mismatch : (calls : List Call) (high : ℕ) → ¬ CanRun unordered_queue (take high calls) [] → 1 ≤ high
some_mismatch calls zero h = absurd (h tt)
some_mismatch calls (suc n) h = omega arith

pub halves-init : goal.halves-init
halves-init c = record {
  ordered = omega arith;
  within = omega arith;
  can_run = tt;
  rejected = subst (λ l. ¬ CanRun unordered_queue l []) (sym (take_all (length c.args.calls.now) c.args.calls.now (omega arith))) c.requires;
}

pub overflow_sub-result : goal.overflow_sub-result
overflow_sub-result c = some_mismatch c.args.calls.now c.halves.high c.halves.invariant.rejected

pub returns-clause-within : goal.returns-clause-within
returns-clause-within c =
    let some = some_mismatch c.args.calls.now c.halves.high c.halves.invariant.rejected in
    let within = c.halves.invariant.within in
    omega (arith, some, within)

-- the halves have met
met : (calls : List Call) (low high : ℕ) → low ≤ high → high - low ≤ 1 → CanRun unordered_queue (take low calls) [] → ¬ CanRun unordered_queue (take high calls) [] → low ≡ high - 1
met calls low high le near runs rejected =
    ⊎_elim
    (λ (e : low ≡ high). absurd (rejected (subst (λ n. CanRun unordered_queue (take n calls) []) e runs)))
    (λ h. ⊎_elim (λ (l : low < high). omega (arith, l, near)) (λ (l : high < low). absurd (omega (arith, l, le))) h)
    (cases_order low high)

pub returns-clause-can_run : goal.returns-clause-can_run
returns-clause-can_run c =
    let i = c.halves.invariant in
    subst (λ n. CanRun unordered_queue (take n c.args.calls.now) []) (met c.args.calls.now c.halves.low c.halves.high i.ordered c.halves-test.false i.can_run i.rejected) i.can_run

pub returns-clause-rejected : goal.returns-clause-rejected
returns-clause-rejected c =
    let some = some_mismatch c.args.calls.now c.halves.high c.halves.invariant.rejected in
    let e : c.halves.high ≡ c.halves.high - 1 + 1 = omega (arith, some) in
    subst (λ n. ¬ CanRun unordered_queue (take n c.args.calls.now) []) e c.halves.invariant.rejected
