-- each legal order of a history comes of a lean end
use Rattle.std.proofs.Common.{◌≡◌, ℤ, inl, Option, List, [], ◌∷◌, ◌++◌, refl, sym, ap, ◌∙◌, subst, append_assoc, append-nil}
use Rattle.std.proofs.lemmas.Bool.{true≢false}
use Rattle.models.specs.Objects.{register}
use Rattle.events.specs.Events.{Mark}
use Rattle.events.specs.Events.Mark.{Invoked, Returned, Failed, Crashed}
use Rattle.linspec.specs.MarkRule.{AreWellFormed}
use Rattle.linspec.specs.Orders.{Taken, IsLegalOrder, IsLinearizable}
use Rattle.linspec.proofs.Lists.{Contains-nil, Contains-head}
use Rattle.linspec.proofs.Marks.{IsLegalOrder-fewer}
use Rattle.linspec.specs.LeanEnds.{LeanEnd, start, Becomes, BecomesBy, IsLeanEnd}
use Rattle.lean_ends.proofs.Covers.{Covers}
use Rattle.lean_ends.proofs.Events.{after_fail, after_crash, after_ok}
use Rattle.lean_ends.proofs.Beginning.{after_invoke}

abbrev pub AreComplete : List Mark → (LeanEnd → Type 0) → Type 0
AreComplete marks L = (order : List Taken) (t : Option ℤ) → IsLegalOrder register marks order t → (e : LeanEnd) × L e × Covers marks e order t

-- the ends that a mark makes of ends
abbrev pub Next : List Mark → (LeanEnd → Type 0) → Mark → LeanEnd → Type 0
Next marks L m f = (e : LeanEnd) × L e × Becomes marks e m f

module _ (marks : List Mark) (L : LeanEnd → Type 0) (complete : AreComplete marks L) where
  pub complete_after : (m : Mark) → AreWellFormed (marks ++ m ∷ []) → AreComplete (marks ++ m ∷ []) (Next marks L m)
  complete_after (Invoked id op) well order t l =
      let k = after_invoke marks id op well L complete order t l in (k.1, (k.0, k.2, k.3), k.4)
  complete_after (Returned id answer) well order t l =
      let k = complete order t (IsLegalOrder-fewer register marks (Returned id answer) order t (λ x h q. cc) l) in
      let f = after_ok marks id answer well k.0 order t l k.2 in (f.0, (k.0, k.1, f.1), f.2)
  complete_after (Failed id) well order t l =
      let k = complete order t (IsLegalOrder-fewer register marks (Failed id) order t (λ x h q. cc) l) in
      let f = after_fail marks id well k.0 order t l k.2 in (f.0, (k.0, k.1, f.1), f.2)
  complete_after (Crashed id) well order t l =
      let k = complete order t (IsLegalOrder-fewer register marks (Crashed id) order t (λ x h q. cc) l) in
      let f = after_crash marks id well k.0 order t k.2 in (f.0, (k.0, k.1, f.1), f.2)

-- at first
pub at_first : AreComplete [] (λ e. e ≡ start)
at_first [] t l = (
  start,
  refl,
  record {
    needed = λ i n. absurd (true≢false (sym n));
    how = inl (record {
      state = sym l.run;
      placed = λ x v k o. absurd (Contains-nil _ k.is_in.1);
      finds = λ r v h f. absurd (Contains-nil _ h.0.1);
    });
  },
)
at_first (x ∷ order) t l = absurd (Contains-nil _ (l.invoked x (Contains-head x order)))

complete_by : (before more : List Mark) (L : LeanEnd → Type 0) → AreWellFormed (before ++ more) → AreComplete before L
    → AreComplete (before ++ more) (λ f. (e : LeanEnd) × L e × BecomesBy before e more f)
complete_by before [] L well c order t l =
    let k = c order t (subst (λ ms. IsLegalOrder register ms order t) (append-nil before) l) in
    (k.0, (k.0, k.1, refl), subst (λ ms. Covers ms k.0 order t) (sym (append-nil before)) k.2)
complete_by before (m ∷ more) L well c order t l =
    let e : (before ++ m ∷ []) ++ more ≡ before ++ m ∷ more = append_assoc before (m ∷ []) more in
    let well' : AreWellFormed ((before ++ m ∷ []) ++ more) = subst AreWellFormed (sym e) well in
    let k = complete_by (before ++ m ∷ []) more (Next before L m) well' (complete_after before L c m (front before m more well)) order t (subst (λ ms. IsLegalOrder register ms order t) (sym e) l) in
    (k.0, (k.1.1.0, k.1.1.1, (k.1.0, k.1.1.2, k.1.2)), subst (λ ms. Covers ms k.0 order t) e k.2)
  where
    front : (before : List Mark) (m : Mark) (more : List Mark) → AreWellFormed (before ++ m ∷ more) → AreWellFormed (before ++ m ∷ [])
    front before m more w xs ys n cut = w xs (ys ++ more) n (sym (append_assoc xs (n ∷ ys) more) ∙ ap (λ l. l ++ more) cut ∙ append_assoc before (m ∷ []) more)

pub has_lean_end : (marks : List Mark) → AreWellFormed marks → IsLinearizable register marks → (e : LeanEnd) × IsLeanEnd marks e
has_lean_end marks well lin =
    let k = complete_by [] marks (λ e. e ≡ start) well at_first lin.0 lin.1 lin.2 in
    (k.0, subst (λ e. BecomesBy [] e marks k.0) k.1.1 k.1.2)
