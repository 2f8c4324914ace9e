-- one outcome alone, and runs that follow each other
use Rattle.std.proofs.Common.{◌≡◌, ⊎_elim, List, [], ◌∷◌, ◌++◌, sym, ap, subst}
use Rattle.models.specs.declared.operation.Op.{Op}
use Rattle.models.specs.declared.finding.Found.{Found}
use Rattle.models.specs.Objects.{Object, IsOneOf}
use Rattle.models.specs.Runs.{Runs}

-- a list of one, or of none
pub only_one : {X : Type 0} (x y : X) → IsOneOf (x ∷ []) y → x ≡ y
only_one x y h = ⊎_elim (λ e. e) (λ n. absurd n) h

pub same_outcome : {A B : Type 0} (p q : A × B) → IsOneOf (p ∷ []) q → (p.0 ≡ q.0) × (p.1 ≡ q.1)
same_outcome {A} {B} p q h =
    let same : p ≡ q = only_one p q h in
    (ap (λ (r : A × B). r.0) same, ap (λ (r : A × B). r.1) same)

-- runs that follow each other
pub Runs-append : (o : Object) (s mid t : o.State) (front back : List (Op × Found)) → Runs o s front mid → Runs o mid back t → Runs o s (front ++ back) t
Runs-append o s mid t [] back h k = subst (λ x. Runs o x back t) (sym h) k
Runs-append o s mid t (step ∷ front) back h k = (h.0, h.1, Runs-append o h.0 mid t front back h.2 k)
