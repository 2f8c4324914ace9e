-- linearizable is closed under fronts
use Rattle.std.proofs.Common.{◌≡◌, ◌↔◌, ⊎_elim, Bool, List, [], ◌∷◌, ◌++◌, refl, sym, ap, ◌∙◌, subst, append_assoc}
use Rattle.std.proofs.lemmas.List.{append-nil}
use Rattle.models.specs.declared.operation.Op.{Op}
use Rattle.models.specs.Objects.{Object}
use Rattle.events.specs.Events.{Mark, Entry, marks, IsPrefixOf}
use Rattle.events.specs.Events.Mark.{Invoked, Returned, Failed, Crashed}
use Rattle.linspec.specs.MarkRule.{MayFollow, AreWellFormed}
use Rattle.linspec.specs.Orders.{Includes, Run, IsLegalOrder, IsLinearizable}
use Rattle.linspec.specs.Ends.{End, LeavesBy, IsEndBy, is_no_read, IsEnd}
use Rattle.linspec.proofs.Marks.{IsLegalOrder-fewer, IsLegalOrder-cut}
use Rattle.linspec.proofs.Invocations.{Around, around, IsLegalOrder-before, pending_from}
use Rattle.linspec.proofs.Fates.{end_of_by, not_before}

-- a history is linearizable where it has an end, whatever counts
pub IsLinearizable-end_by : (counts : Op → Bool) (o : Object) (marks : List Mark) → IsLinearizable o marks ↔ ((e : End o.State) × IsEndBy counts o marks e)
IsLinearizable-end_by counts o marks = (
  (λ h. let e : (e : End o.State) × LeavesBy counts o marks h.0 e × (e.state ≡ h.1) = end_of_by counts o marks h.0 h.1 h.2 in (e.0, (h.0, e.1))),
  (λ h. let v : LeavesBy counts o marks h.1.0 h.0 = h.1.1 in (h.1.0, h.0.state, v.legal)),
)

pub IsLinearizable-end : (o : Object) (marks : List Mark) → IsLinearizable o marks ↔ ((e : End o.State) × IsEnd o marks e)
IsLinearizable-end = IsLinearizable-end_by is_no_read

-- one mark fewer
IsLinearizable-fewer : (o : Object) (marks : List Mark) (m : Mark) → MayFollow marks m → IsLinearizable o (marks ++ m ∷ []) → IsLinearizable o marks
IsLinearizable-fewer o marks (Invoked id op) new h =
    ⊎_elim
    (λ (a : Around h.0 id).
    let w : IsLegalOrder o (marks ++ Invoked id op ∷ []) (a.before ++ a.here ∷ a.after) h.1 = subst (λ l. IsLegalOrder o (marks ++ Invoked id op ∷ []) l h.1) a.whole h.2 in
    let c : (s : o.State) × IsLegalOrder o (marks ++ Invoked id op ∷ []) a.before s × Run o s (a.here ∷ a.after) h.1 =
    IsLegalOrder-cut o (marks ++ Invoked id op ∷ []) a.before (a.here ∷ a.after) h.1 w (pending_from o marks id op new a.before a.after a.here h.1 a.is w) in
    let not_in : ¬ Includes a.before id = λ i. not_before a.before a.after a.here w.once (i.0, i.1, i.2 ∙ sym a.is) in
    (a.before, c.0, IsLegalOrder-before o marks id op new a.before c.0 not_in c.1))
    (λ not_in. (h.0, h.1, IsLegalOrder-before o marks id op new h.0 h.1 not_in h.2))
    (around h.0 id)
IsLinearizable-fewer o marks (Returned id a) is_open h = (h.0, h.1, IsLegalOrder-fewer o marks (Returned id a) h.0 h.1 (λ x k e. cc) h.2)
IsLinearizable-fewer o marks (Failed id) is_open h = (h.0, h.1, IsLegalOrder-fewer o marks (Failed id) h.0 h.1 (λ x k e. cc) h.2)
IsLinearizable-fewer o marks (Crashed id) is_open h = (h.0, h.1, IsLegalOrder-fewer o marks (Crashed id) h.0 h.1 (λ x k e. cc) h.2)

pub IsLinearizable-append : (o : Object) (marks rest : List Mark) → AreWellFormed (marks ++ rest) → IsLinearizable o (marks ++ rest) → IsLinearizable o marks
IsLinearizable-append o marks [] well h = subst (IsLinearizable o) (append-nil marks) h
IsLinearizable-append o marks (m ∷ rest) well h =
    IsLinearizable-fewer o marks m (well marks rest m refl)
    (IsLinearizable-append o (marks ++ m ∷ []) rest (subst AreWellFormed (sym (append_assoc marks (m ∷ []) rest)) well) (subst (IsLinearizable o) (sym (append_assoc marks (m ∷ []) rest)) h))

pub marks-append : (xs ys : List Entry) → marks (xs ++ ys) ≡ marks xs ++ marks ys
marks-append [] ys = refl
marks-append (x ∷ xs) ys = ap (λ l. x.mark ∷ l) (marks-append xs ys)

-- of a history's entries
pub IsLinearizable-front : (o : Object) (front entries : List Entry) → AreWellFormed (marks entries) → IsPrefixOf front entries → IsLinearizable o (marks entries) → IsLinearizable o (marks front)
IsLinearizable-front o front entries well is h =
    let e : marks entries ≡ marks front ++ marks is.0 = ap marks (sym is.1) ∙ marks-append front is.0 in
    IsLinearizable-append o (marks front) (marks is.0) (subst AreWellFormed e well) (subst (IsLinearizable o) e h)
