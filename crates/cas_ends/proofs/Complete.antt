-- each legal order of a history comes of a end
use Rattle.std.proofs.Common.{◌≡◌, ◌≢◌, ℕ, ℤ, inl, inr, ⊎_elim, Option, None, List, [], ◌∷◌, ◌++◌, refl, sym, ap, ◌∙◌, subst, append_assoc, append-nil}
use Rattle.std.specs.List.{Contains}
use Rattle.std.proofs.lemmas.List.Elements.{Contains-append_left, Contains-push, Contains-push_cases}
use Rattle.models.specs.declared.finding.Answer.{Answer}
use Rattle.std.proofs.lemmas.Bool.{true≢false}
use Rattle.models.specs.Objects.{cas_register}
use Rattle.events.specs.Events.{Mark}
use Rattle.events.specs.Events.Mark.{Invoked, Returned, Failed, Crashed}
use Rattle.linspec.specs.MarkRule.{AreWellFormed}
use Rattle.linspec.specs.Operations.{HasReturned}
use Rattle.linspec.specs.Orders.{Taken, Run, IsLegalOrder, IsLinearizable}
use Rattle.linspec.proofs.Lists.{Contains-nil, Contains-head, snoc_cut}
use Rattle.linspec.proofs.Marks.{IsLegalOrder-fewer, IsLegalOrder-cut}
use Rattle.linspec.proofs.Fates.{returned_or_not}
use Rattle.linspec.specs.LeanEnds.{LeanEnd, start}
use Rattle.linspec.specs.CasEnds.{Becomes, BecomesBy, IsCasEnd}
use Rattle.lean_ends.proofs.Splits.{UpToLast, up_to_last}
use Rattle.cas_ends.proofs.Covers.{Covers}
use Rattle.cas_ends.proofs.Events.{Leads, after_fail, after_crash}
use Rattle.cas_ends.proofs.Oks.{ok_within, ok_behind}
use Rattle.cas_ends.proofs.Beginning.{EndsDone, after_invoke}

abbrev pub AreComplete : List Mark → (LeanEnd → Type 0) → Type 0
AreComplete marks L = (order : List Taken) (t : Option ℤ) → IsLegalOrder cas_register marks order t → EndsDone marks order → (e : LeanEnd) × L e × Covers marks e order t

-- the ends that a mark makes of ends
abbrev pub Next : List Mark → (LeanEnd → Type 0) → Mark → LeanEnd → Type 0
Next marks L m f = (e : LeanEnd) × L e × Becomes marks e m f

-- an order that ends with an operation that has returned, once the mark is there, did so before, or ends with the one that returns now
module _ (marks : List Mark) (m : Mark) (no_ok : (id : ℕ) (a : Answer) → m ≢ Returned id a) where
  pub ended_before : (order : List Taken) → EndsDone (marks ++ m ∷ []) order → EndsDone marks order
  ended_before order d = ⊎_elim inl
      (λ k. inr (k.0, k.1, k.2, ⊎_elim (λ (h : Contains marks (Returned k.1.id k.3.0)). (k.3.0, h)) (λ q. absurd (no_ok k.1.id k.3.0 q)) (Contains-push_cases marks m (Returned k.1.id k.3.0) k.3.1)))
      d

module _ (marks : List Mark) (L : LeanEnd → Type 0) (complete : AreComplete marks L) where
  -- an ok: the operation is within what was there already, or behind it with pending ones between
  after_ok : (id : ℕ) (answer : Answer) → AreWellFormed (marks ++ Returned id answer ∷ []) → AreComplete (marks ++ Returned id answer ∷ []) (Next marks L (Returned id answer))
  after_ok id answer well order t l done =
      let longer = marks ++ Returned id answer ∷ [] in
      let shorter = IsLegalOrder-fewer cas_register marks (Returned id answer) order t (λ x h q. cc) l in
      let s : UpToLast (λ (y : Taken). HasReturned marks y.id) order = up_to_last (λ (y : Taken). HasReturned marks y.id) (λ y. returned_or_not marks y.id) order in
      let d = IsLegalOrder-cut cas_register marks s.front s.rest t (subst (λ o. IsLegalOrder cas_register marks o t) s.cut shorter) s.none in
      let k = complete s.front d.0 d.1 s.last in
      let within : s.rest ≡ [] → (f : LeanEnd) × Next marks L (Returned id answer) f × Covers longer f order t = λ none.
      (let whole : s.front ≡ order = sym (append-nil s.front) ∙ ap (λ r. s.front ++ r) (sym none) ∙ sym s.cut in
      let at : d.0 ≡ t = subst (λ r. Run cas_register d.0 r t) none d.2 in
      let f = ok_within marks id answer well k.0 order t l (subst (Covers marks k.0 order) at (subst (λ o. Covers marks k.0 o d.0) whole k.2)) in
      (f.0, (k.0, k.1, f.1), f.2)) in
      ⊎_elim
      (λ empty. within (second_none s.front s.rest (sym s.cut ∙ empty)))
      (λ c. ⊎_elim
      within
      (λ r.
      let x : Taken = c.1 in
      let is : x.id ≡ id = which id answer x (λ h. s.none x (subst (λ q. Contains q x) (sym r.1) (Contains-push r.0 x)) h) c.3 in
      let shape : order ≡ (s.front ++ r.0) ++ x ∷ [] = s.cut ∙ ap (λ q. s.front ++ q) r.1 ∙ sym (append_assoc s.front r.0 (x ∷ [])) in
      let f = behind id answer x is order t (s.front ++ r.0) shape s.front r.0 refl well l d.0 (λ y h. s.none y (subst (λ q. Contains q y) (sym r.1) (Contains-append_left r.0 (x ∷ []) y h))) k.0 d.1.run k.2 in
      (f.0, (k.0, k.1, f.1), f.2))
      (snoc_cut s.front s.rest c.0 c.1 (sym s.cut ∙ c.2)))
      done
    where
      second_none : (xs ys : List Taken) → xs ++ ys ≡ [] → ys ≡ []
      second_none [] ys q = q
      second_none (x ∷ xs) ys q = cc

      which : (id : ℕ) (answer : Answer) (x : Taken) → ¬ HasReturned marks x.id → HasReturned (marks ++ Returned id answer ∷ []) x.id → x.id ≡ id
      which id answer x first h = ⊎_elim
          (λ k. absurd (first (h.0, k)))
          (λ q. (let same : id ≡ x.id = cc in sym same))
          (Contains-push_cases marks (Returned id answer) (Returned x.id h.0) h.1)

      behind : (id : ℕ) (answer : Answer) (x : Taken) → x.id ≡ id → (order : List Taken) (t : Option ℤ) (pq : List Taken) → order ≡ pq ++ x ∷ [] → (p q : List Taken) → pq ≡ p ++ q
          → AreWellFormed (marks ++ Returned id answer ∷ []) → IsLegalOrder cas_register (marks ++ Returned id answer ∷ []) order t → (u : Option ℤ)
          → ((y : Taken) → Contains q y → ¬ HasReturned marks y.id) → (e : LeanEnd) → Run cas_register None p u → Covers marks e p u → Leads marks (Returned id answer) e order t
      behind id answer x is order t pq shape p q two well l u pending e run c =
          let all : order ≡ (p ++ q) ++ x ∷ [] = shape ∙ ap (λ o. o ++ x ∷ []) two in
          subst (λ n. Leads marks (Returned n answer) e order t) is
          (subst (λ o. Leads marks (Returned x.id answer) e o t) (sym all)
          (ok_behind marks answer x (subst (λ n. AreWellFormed (marks ++ Returned n answer ∷ [])) (sym is) well) p q t u
          (subst (λ o. IsLegalOrder cas_register (marks ++ Returned x.id answer ∷ []) o t) all (subst (λ n. IsLegalOrder cas_register (marks ++ Returned n answer ∷ []) order t) (sym is) l))
          pending e run c))

  pub complete_after : (m : Mark) → AreWellFormed (marks ++ m ∷ []) → AreComplete (marks ++ m ∷ []) (Next marks L m)
  complete_after (Invoked id op) well order t l done =
      let k = after_invoke marks id op well L complete order t l done in (k.1, (k.0, k.2, k.3), k.4)
  complete_after (Returned id answer) well order t l done = after_ok id answer well order t l done
  complete_after (Failed id) well order t l done =
      let k = complete order t (IsLegalOrder-fewer cas_register marks (Failed id) order t (λ x h q. cc) l) (ended_before marks (Failed id) (λ i a q. cc) order done) in
      let f = after_fail marks id well k.0 order t l k.2 in (f.0, (k.0, k.1, f.1), f.2)
  complete_after (Crashed id) well order t l done =
      let s = IsLegalOrder-fewer cas_register marks (Crashed id) order t (λ x h q. cc) l in
      let k = complete order t s (ended_before marks (Crashed id) (λ i a q. cc) order done) in
      let f = after_crash marks id well k.0 order t s k.2 in (f.0, (k.0, k.1, f.1), f.2)

-- at first
pub at_first : AreComplete [] (λ e. e ≡ start)
at_first [] t l done = (
  start,
  refl,
  record {
    needed = λ i n. absurd (true≢false (sym n));
    sets = λ y a b h. absurd (Contains-nil y h);
    how = inl (record {
      state = sym l.run;
      placed = λ x v k o. absurd (Contains-nil _ k.is_in.1);
      finds = λ r v h f. absurd (Contains-nil _ h.0.1);
    });
  },
)
at_first (x ∷ order) t l done = absurd (Contains-nil _ (l.invoked x (Contains-head x order)))

complete_by : (before more : List Mark) (L : LeanEnd → Type 0) → AreWellFormed (before ++ more) → AreComplete before L
    → AreComplete (before ++ more) (λ f. (e : LeanEnd) × L e × BecomesBy before e more f)
complete_by before [] L well c order t l done =
    let k = c order t (subst (λ ms. IsLegalOrder cas_register ms order t) (append-nil before) l) (subst (λ ms. EndsDone ms order) (append-nil before) done) in
    (k.0, (k.0, k.1, refl), subst (λ ms. Covers ms k.0 order t) (sym (append-nil before)) k.2)
complete_by before (m ∷ more) L well c order t l done =
    let e : (before ++ m ∷ []) ++ more ≡ before ++ m ∷ more = append_assoc before (m ∷ []) more in
    let well' : AreWellFormed ((before ++ m ∷ []) ++ more) = subst AreWellFormed (sym e) well in
    let k = complete_by (before ++ m ∷ []) more (Next before L m) well' (complete_after before L c m (front before m more well)) order t (subst (λ ms. IsLegalOrder cas_register ms order t) (sym e) l) (subst (λ ms. EndsDone ms order) (sym e) done) in
    (k.0, (k.1.1.0, k.1.1.1, (k.1.0, k.1.1.2, k.1.2)), subst (λ ms. Covers ms k.0 order t) e k.2)
  where
    front : (before : List Mark) (m : Mark) (more : List Mark) → AreWellFormed (before ++ m ∷ more) → AreWellFormed (before ++ m ∷ [])
    front before m more w xs ys n cut = w xs (ys ++ more) n (sym (append_assoc xs (n ∷ ys) more) ∙ ap (λ l. l ++ more) cut ∙ append_assoc before (m ∷ []) more)

-- pending operations behind an order may be left out
pub cut_behind : (marks : List Mark) → IsLinearizable cas_register marks → (order : List Taken) × (t : Option ℤ) × IsLegalOrder cas_register marks order t × EndsDone marks order
cut_behind marks lin =
    let s : UpToLast (λ (y : Taken). HasReturned marks y.id) lin.0 = up_to_last (λ (y : Taken). HasReturned marks y.id) (λ y. returned_or_not marks y.id) lin.0 in
    let d = IsLegalOrder-cut cas_register marks s.front s.rest lin.1 (subst (λ o. IsLegalOrder cas_register marks o lin.1) s.cut lin.2) s.none in
    (s.front, d.0, d.1, s.last)

pub has_cas_end : (marks : List Mark) → AreWellFormed marks → IsLinearizable cas_register marks → (e : LeanEnd) × IsCasEnd marks e
has_cas_end marks well lin =
    let o = cut_behind marks lin in
    let k = complete_by [] marks (λ e. e ≡ start) well at_first o.0 o.1 o.2 o.3 in
    (k.0, subst (λ e. BecomesBy [] e marks k.0) k.1.1 k.1.2)
