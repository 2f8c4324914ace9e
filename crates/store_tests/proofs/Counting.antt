-- The effect of calls of a store on the number of serves, by the store's own law
use Rattle.std.proofs.Common.{◌≡◌, ℕ, ◌+◌, ◌≤◌, Result, Ok, Err, IfOk, OnOk, OnErr, sym, subst, arith}
use Rattle.std.specs.declared.alloc.AllocError.{AllocError}
use Rattle.edn.specs.declared.refusal.Refusal.{Refusal}
use Rattle.models.specs.declared.operation.Op.{Op}
use Rattle.events.specs.declared.event.Fault.{Fault}
use Rattle.test_store.specs.declared.outcome.Outcome.{Outcome}
use Rattle.test_store.specs.Store.{Cluster, MayServe, after_fault, VersionsWithin, StoreView, at_rest}

-- the law about a serve and a fault
abbrev pub ServeCounts : Type 0
ServeCounts = (old new : Cluster) (e : ℕ) (op : Op) (outcome : Outcome) (n : ℕ)
    → MayServe old e op outcome new → VersionsWithin old n → VersionsWithin new (n + 1)

abbrev pub FaultCounts : Type 0
FaultCounts = (fault : Fault) (s : Cluster) (n : ℕ) → VersionsWithin s n → VersionsWithin (after_fault fault s) n

pub serve_counted : ServeCounts → (old new : Cluster) (e : ℕ) (op : Op) (r : Result Outcome AllocError) (n : ℕ)
    → IfOk r (λ outcome. MayServe old e op outcome new) → OnErr r (new ≡ old) → VersionsWithin old n → VersionsWithin new (n + 1)
serve_counted law old new e op (Ok outcome) n served same within = law old new e op outcome n served within
serve_counted law old new e op (Err x) n served same within =
    subst (λ s. VersionsWithin s (n + 1)) (sym same) (λ key held h. (let l : held.version ≤ n = within key held h in omega arith))

pub fault_counted : {A : Type 0} → FaultCounts → (old new : Cluster) (fault : Fault) (r : Result A Refusal) (n : ℕ)
    → OnOk r (new ≡ after_fault fault old) → OnErr r (new ≡ old) → VersionsWithin old n → VersionsWithin new n
fault_counted law old new fault (Ok u) n struck same within = subst (λ s. VersionsWithin s n) (sym struck) (law fault old n within)
fault_counted law old new fault (Err x) n struck same within = subst (λ s. VersionsWithin s n) (sym same) within

pub rest_counted : (s : Cluster) (store : StoreView) (n : ℕ) → store ≡ at_rest s → VersionsWithin s n → VersionsWithin store.now n
rest_counted s store n is within = subst (λ (x : StoreView). VersionsWithin x.now n) (sym is) within
