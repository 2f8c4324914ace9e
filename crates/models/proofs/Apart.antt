-- no two outcomes of an operation in a state leave the same state: most tables list one outcome at most
use Rattle.std.proofs.Common.{◌↔◌, ◌<◌, ◌≤◌, ℕ, ℤ, IsTrue, Bool, true, false, if◌then◌else◌, Option, Some, List, [], ◌∷◌, length, sym, ap, arith}
use Rattle.std.specs.Ordering.{int_eq}
use Rattle.std.proofs.lemmas.Bool.{true≢false}
use Rattle.models.specs.declared.operation.Name.{Name}
use Rattle.models.specs.declared.operation.Name.TheVariants.{Read, Write, Cas, Acquire, Release, Enqueue, Dequeue, Add}
use Rattle.models.specs.declared.operation.Part.{Part}
use Rattle.models.specs.declared.operation.Part.TheVariants.{Nil, Int, Pair}
use Rattle.models.specs.declared.operation.Op.{Op}
use Rattle.models.specs.declared.finding.Found.{Found}
use Rattle.models.specs.declared.finding.Found.TheVariants.{Unit as Done}
use Rattle.models.specs.Objects.{AreApart, register_apply, cas_register_apply, mutex_apply, queue_apply, set_apply}

-- most tables have one outcome at most
cas_at_most_one : (a : ℤ) (x : Option ℤ × Found) (same : Bool) → length (if same then x ∷ [] else []) ≤ 1
cas_at_most_one a x true = omega arith
cas_at_most_one a x false = omega arith

register_at_most_one : (name : Name) (part : Part) (s : Option ℤ) → length (register_apply name part s) ≤ 1
register_at_most_one Write (Int v) s = omega arith
register_at_most_one Read Nil s = omega arith
register_at_most_one _ _ s = omega arith

cas_register_at_most_one : (name : Name) (part : Part) (s : Option ℤ) → length (cas_register_apply name part s) ≤ 1
cas_register_at_most_one Cas (Pair a b) (Some s) = cas_at_most_one a (Some b, Done) (int_eq s a)
cas_register_at_most_one name part s = register_at_most_one name part s

mutex_at_most_one : (name : Name) (part : Part) (s : Bool) → length (mutex_apply name part s) ≤ 1
mutex_at_most_one Acquire Nil false = omega arith
mutex_at_most_one Release Nil true = omega arith
mutex_at_most_one _ _ s = omega arith

queue_at_most_one : (name : Name) (part : Part) (s : List ℤ) → length (queue_apply name part s) ≤ 1
queue_at_most_one Enqueue (Int v) s = omega arith
queue_at_most_one Dequeue Nil (x ∷ s) = omega arith
queue_at_most_one _ _ s = omega arith

set_at_most_one : (name : Name) (part : Part) (s : List ℤ) → length (set_apply name part s) ≤ 1
set_at_most_one Add (Int v) s = omega arith
set_at_most_one Read Nil s = omega arith
set_at_most_one _ _ s = omega arith

alone : {S : Type 0} (xs : List (S × Found)) → length xs ≤ 1 → AreApart xs
alone xs few i j d lt fits = absurd (omega arith)

-- one outcome at most is no more than n, and none leaves the state of another
abbrev pub AreFew : {S : Type 0} → ℕ → List (S × Found) → Type 0
AreFew most xs = (IsTrue false ↔ (most < length xs)) × AreApart xs

at_most_one : {S : Type 0} (xs : List (S × Found)) (most : ℕ) → length xs ≤ 1 → 1 ≤ most → AreFew most xs
at_most_one xs most few some = (((λ t. absurd (true≢false (sym t))), (λ more. absurd (omega arith))), alone xs few)

pub register_alone : (op : Op) (s : Option ℤ) (most : ℕ) → 1 ≤ most → AreFew most (register_apply op.name op.part s)
register_alone op s most = at_most_one (register_apply op.name op.part s) most (register_at_most_one op.name op.part s)

pub cas_register_alone : (op : Op) (s : Option ℤ) (most : ℕ) → 1 ≤ most → AreFew most (cas_register_apply op.name op.part s)
cas_register_alone op s most = at_most_one (cas_register_apply op.name op.part s) most (cas_register_at_most_one op.name op.part s)

pub mutex_alone : (op : Op) (s : Bool) (most : ℕ) → 1 ≤ most → AreFew most (mutex_apply op.name op.part s)
mutex_alone op s most = at_most_one (mutex_apply op.name op.part s) most (mutex_at_most_one op.name op.part s)

pub queue_alone : (op : Op) (s : List ℤ) (most : ℕ) → 1 ≤ most → AreFew most (queue_apply op.name op.part s)
queue_alone op s most = at_most_one (queue_apply op.name op.part s) most (queue_at_most_one op.name op.part s)

pub set_alone : (op : Op) (s : List ℤ) (most : ℕ) → 1 ≤ most → AreFew most (set_apply op.name op.part s)
set_alone op s most = at_most_one (set_apply op.name op.part s) most (set_at_most_one op.name op.part s)
