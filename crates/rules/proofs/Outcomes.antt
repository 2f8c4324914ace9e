-- what holds of the outcomes of any rules
use Rattle.std.proofs.Common.{◌≡◌, ℕ, nat_eq, ℤ, Bool, true, false, if◌then◌else◌, Option, Some, None, unwrap_or, List, [], ◌∷◌, length, refl, ◌∙◌, ap}
use Rattle.rules.specs.declared.finding.Found.{Found}
use Rattle.rules.specs.declared.rule.Variable.{Variable as VariableOf}
use Rattle.rules.specs.declared.rule.Assignment.{Assignment}
use Rattle.rules.specs.declared.rule.Case.{Case}
use Rattle.rules.specs.declared.rules.Rules.{Rules}
use Rattle.rules.specs.Meaning.{State, with_value, chosen, truth_in, value_of, state_after, found_by, case_outcome, or_else, first_outcome, operation_named, read_name, reads}
use Rattle.rules.specs.Laws.{LeadsTo}

-- ---- what a computed value has come from

pub from_value : {X Y : Type 0} (o : Option X) (next : X → Option Y) (y : Y) → with_value o next ≡ Some y → (x : X) × (o ≡ Some x) × (next x ≡ Some y)
from_value None next y e = absurd (cc e)
from_value (Some x) next y e = (x, refl, e)

pub from_chosen : {Y : Type 0} (b : Bool) (o : Option Y) (y : Y) → chosen b o None ≡ Some y → o ≡ Some y
from_chosen true o y e = e
from_chosen false o y e = absurd (cc e)

pub from_if : {Y : Type 0} (b : Bool) (o : Option Y) (y : Y) → (if b then o else None) ≡ Some y → (b ≡ true) × (o ≡ Some y)
from_if true o y e = (refl, e)
from_if false o y e = absurd (cc e)

pub same_inside : {X : Type 0} (x y : X) → Some x ≡ Some y → x ≡ y
same_inside x y e = ap (λ o. unwrap_or o x) e

pub same_state : (p q : State × Found) → Some p ≡ Some q → p.0 ≡ q.0
same_state p q e = ap (λ (r : State × Found). r.0) (same_inside p q e)

-- ---- the state after a case, by its assignments

abbrev pub assignments_of : Bool → Case → List Assignment
assignments_of reads case = if reads then [] else case.set.items

pub case_state : (vs : List VariableOf) (s : State) (given : List ℤ) (r : Bool) (case : Case) (t : State) (found : Found) → case_outcome vs s given r case ≡ Some (t, found) → state_after vs s given (assignments_of r case) s ≡ Some t
case_state vs s given r case t found e =
    let a = from_value (value_of case.when s given) _ (t, found) e in
    let b = from_value (truth_in a.0) _ (t, found) a.2 in
    let c = from_chosen b.0 _ (t, found) b.2 in
    let d = from_value (state_after vs s given (assignments_of r case) s) _ (t, found) c in
    let f = from_value (found_by case.answer s given) _ (t, found) d.2 in
    d.1 ∙ ap Some (same_state (d.0, f.0) (t, found) f.2)

-- the assignments of each case are such
abbrev pub EachSets : (List Assignment → Type 0) → Bool → List Case → Type 0
EachSets P r [] = Unit {0}
EachSets P r (case ∷ cases) = P (assignments_of r case) × EachSets P r cases

-- the state is what some such assignments leave
abbrev pub IsLeftBy : (List Assignment → Type 0) → List VariableOf → List ℤ → State → State → Type 0
IsLeftBy P vs given s t = (xs : List Assignment) × P xs × (state_after vs s given xs s ≡ Some t)

pub first_state : (P : List Assignment → Type 0) (vs : List VariableOf) (s : State) (given : List ℤ) (r : Bool) (cases : List Case) (t : State) (found : Found) → EachSets P r cases → first_outcome vs s given r cases ≡ Some (t, found) → IsLeftBy P vs given s t
first_state P vs s given r [] t found each e = absurd (cc e)
first_state P vs s given r (case ∷ cases) t found each e = by_first (λ h. first_state P vs s given r cases t found each.1 h) (case_outcome vs s given r case) refl e
  where
    by_first : (first_outcome vs s given r cases ≡ Some (t, found) → IsLeftBy P vs given s t) → (o : Option (State × Found)) → case_outcome vs s given r case ≡ o → or_else o (first_outcome vs s given r cases) ≡ Some (t, found) → IsLeftBy P vs given s t
    by_first rest None is e = rest e
    by_first rest (Some p) is e = (assignments_of r case, each.0, case_state vs s given r case t found (is ∙ e))

each_any : (r : Bool) (cases : List Case) → EachSets (λ xs. Unit {0}) r cases
each_any r [] = tt
each_any r (case ∷ cases) = (tt, each_any r cases)

pub outcome_state : (rules : Rules) (name : ℕ) (given : List ℤ) (s t : State) (found : Found) → LeadsTo rules name given s t found → IsLeftBy (λ xs. Unit {0}) rules.variables.items given s t
outcome_state rules name given s t found e =
    let a = from_value (operation_named rules.operations.items name) _ (t, found) e in
    let b = from_if (nat_eq (length given) a.0.given) _ (t, found) a.2 in
    first_state (λ xs. Unit {0}) rules.variables.items s given (nat_eq name read_name) a.0.cases.items t found (each_any (nat_eq name read_name) a.0.cases.items) b.1
