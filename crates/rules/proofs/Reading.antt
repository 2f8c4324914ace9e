-- an operation of a name that reads leaves the state as it was
use Rattle.std.proofs.Common.{◌≡◌, ℕ, nat_eq, ◌&&◌, ℤ, Bool, true, false, if◌then◌else◌, Option, Some, List, [], ◌∷◌, length, refl, sym, ◌∙◌, ap, arith}
use Rattle.std.proofs.lemmas.Bool.Decides.{Decides-eqb}
use Rattle.rules.specs.declared.finding.Found.{Found}
use Rattle.rules.specs.declared.rule.Assignment.{Assignment}
use Rattle.rules.specs.declared.rule.Case.{Case}
use Rattle.rules.specs.declared.rule.Operation.{Operation}
use Rattle.rules.specs.declared.rules.Rules.{Rules}
use Rattle.rules.specs.Meaning.{State, state_after, operation_named, read_name, sets_nothing, reads_by, reads}
use Rattle.rules.specs.Laws.{LeadsTo}
use Rattle.rules.proofs.Outcomes.{from_value, from_if, same_inside, EachSets, first_state}

abbrev IsEmpty : List Assignment → Type 0
IsEmpty xs = xs ≡ []

both_true : (a b : Bool) → a && b ≡ true → (a ≡ true) × (b ≡ true)
both_true true b e = (refl, e)
both_true false b e = absurd (cc e)

none_there : (xs : List Assignment) → nat_eq (length xs) 0 ≡ true → xs ≡ []
none_there [] e = refl
none_there (x ∷ xs) e = let h = (Decides-eqb (length (x ∷ xs)) 0).0 e in absurd (omega arith)

none_set : (r : Bool) (xs : List Assignment) → nat_eq (length xs) 0 ≡ true → IsEmpty (if r then [] else xs)
none_set true xs e = refl
none_set false xs e = none_there xs e

-- the cases of a read set nothing by its name, and those of another name that reads by themselves
each_by_name : (r : Bool) (cases : List Case) → r ≡ true → EachSets IsEmpty r cases
each_by_name r [] is = tt
each_by_name r (case ∷ cases) is = (ap (λ b. if b then [] else case.set.items) is, each_by_name r cases is)

each_by_itself : (r : Bool) (cases : List Case) → sets_nothing cases ≡ true → EachSets IsEmpty r cases
each_by_itself r [] e = tt
each_by_itself r (case ∷ cases) e =
    let parts = both_true (nat_eq (length case.set.items) 0) (sets_nothing cases) e in
    (none_set r case.set.items parts.0, each_by_itself r cases parts.1)

each_reads : (r : Bool) (o : Option Operation) (operation : Operation) → o ≡ Some operation → (if r then true else reads_by o) ≡ true → EachSets IsEmpty r operation.cases.items
each_reads true o operation is e = each_by_name true operation.cases.items refl
each_reads false o operation is e = each_by_itself false operation.cases.items (ap reads_by (sym is) ∙ e)

pub leaves : (rules : Rules) (name : ℕ) (given : List ℤ) (s t : State) (found : Found) → reads rules name ≡ true → LeadsTo rules name given s t found → s ≡ t
leaves rules name given s t found is e =
    let r = nat_eq name read_name in
    let a = from_value (operation_named rules.operations.items name) _ (t, found) e in
    let b = from_if (nat_eq (length given) a.0.given) _ (t, found) a.2 in
    let each = each_reads r (operation_named rules.operations.items name) a.0 a.1 is in
    let left = first_state IsEmpty rules.variables.items s given r a.0.cases.items t found each b.1 in
    same_inside s t (ap (λ xs. state_after rules.variables.items s given xs s) (sym left.1) ∙ left.2)
