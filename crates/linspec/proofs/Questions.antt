-- questions about all marks, by tests of each
use Rattle.std.proofs.Common.{◌≡◌, ◌↔◌, IsTrue, Bool, ℕ, ◌+◌, ◌<◌, List, [], ◌∷◌, ◌++◌, length, take, drop, get_or, refl, sym, ap, ◌∙◌, subst, add-one, drop-cons, ⊎_elim}
use Rattle.std.specs.List.{Contains, All, Any}
use Rattle.std.proofs.lemmas.List.{take_more, take-append-drop, map-append}
use Rattle.std.proofs.lemmas.List.Elements.{All-contains, Contains-get_or}
use Rattle.models.specs.declared.operation.Op.{Op}
use Rattle.models.specs.declared.finding.Answer.{Answer}
use Rattle.models.specs.declared.finding.Found.{Found}
use Rattle.models.specs.Objects.{Fits}
use Rattle.events.specs.Events.{Mark}
use Rattle.events.specs.Events.Mark.{Invoked, Returned, Failed}
use Rattle.linspec.specs.Operations.{HasReturned, Precedes}
use Rattle.linspec.specs.declared.kept_marks.KeptMark as kept
use Rattle.linspec.specs.declared.kept_marks.KeptMark.TheVariants.{Returned as Returned_kept}
use Rattle.linspec.specs.KeptMarks.{mark_of, marks_of_kept}
use Rattle.linspec.proofs.Lists.{Contains-head}
use Rattle.linspec.proofs.Filters.{from_map, to_map}
use Rattle.linspec.proofs.Marks.{Precedes-cases}

module _ (Q : Mark → Type 0) (marks : List kept.KeptMark) (r : Bool) where
  -- some mark is such
  some_said : IsTrue r ↔ Any (λ m. Q (mark_of m)) marks → IsTrue r ↔ ((m : Mark) × Contains (marks_of_kept marks) m × Q m)
  some_said e = (
    (λ t. let a : Any (λ m. Q (mark_of m)) marks = e.0 t in (mark_of a.1, to_map mark_of marks a.1 (a.0, a.2, a.3), a.4)),
    (λ h.
        let f : (m : kept.KeptMark) × Contains marks m × (mark_of m ≡ h.0) = from_map mark_of marks h.0 h.1 in
        e.1 (f.1.0, f.0, f.1.1, f.1.2, subst Q (sym f.2) h.2)),
  )

  -- each mark is such
  each_said : IsTrue r ↔ All (λ m. Q (mark_of m)) marks → IsTrue r ↔ ((m : Mark) → Contains (marks_of_kept marks) m → Q m)
  each_said e = (
    (λ t m h.
        let f : (k : kept.KeptMark) × Contains marks k × (mark_of k ≡ m) = from_map mark_of marks m h in
        subst Q f.2 (All-contains (λ k. Q (mark_of k)) marks f.0 (e.0 t) f.1)),
    (λ h. e.1 (λ k d l. h _ (to_map mark_of marks _ (Contains-get_or marks k d l)))),
  )

module _ (marks : List kept.KeptMark) (r : Bool) where
  pub some_failed : (id : ℕ) → IsTrue r ↔ Any (λ m. mark_of m ≡ Failed id) marks → IsTrue r ↔ Contains (marks_of_kept marks) (Failed id)
  some_failed id e =
      let some = some_said (λ m. m ≡ Failed id) marks r e in (
        (λ t. let h = some.0 t in subst (Contains (marks_of_kept marks)) h.2 h.1),
        (λ h. some.1 (Failed id, h, refl)),
      )

  pub some_returned : (id : ℕ) → IsTrue r ↔ Any (λ m. (answer : Answer) × (mark_of m ≡ Returned id answer)) marks → IsTrue r ↔ HasReturned (marks_of_kept marks) id
  some_returned id e =
      let some = some_said (λ m. (answer : Answer) × (m ≡ Returned id answer)) marks r e in (
        (λ t. let h = some.0 t in (h.2.0, subst (Contains (marks_of_kept marks)) h.2.1 h.1)),
        (λ h. some.1 (Returned id h.0, h.1, (h.0, refl))),
      )

  pub each_fits : (id : ℕ) (found : Found) → IsTrue r ↔ All (λ m. (answer : Answer) → mark_of m ≡ Returned id answer → Fits found answer) marks
      → IsTrue r ↔ ((answer : Answer) → Contains (marks_of_kept marks) (Returned id answer) → Fits found answer)
  each_fits id found e =
      let each = each_said (λ m. (answer : Answer) → m ≡ Returned id answer → Fits found answer) marks r e in (
        (λ t answer h. each.0 t (Returned id answer) h answer refl),
        (λ h. each.1 (λ m i answer is. h answer (subst (Contains (marks_of_kept marks)) is i))),
      )

  pub each_done : (taken : List ℕ) → IsTrue r ↔ All (λ m. (id : ℕ) (answer : Answer) → mark_of m ≡ Returned id answer → Contains taken id) marks
      → IsTrue r ↔ ((id : ℕ) → HasReturned (marks_of_kept marks) id → Contains taken id)
  each_done taken e =
      let each = each_said (λ m. (id : ℕ) (answer : Answer) → m ≡ Returned id answer → Contains taken id) marks r e in (
        (λ t id h. each.0 t (Returned id h.0) h.1 id h.0 refl),
        (λ h. each.1 (λ m i id answer is. h id (answer, subst (Contains (marks_of_kept marks)) is i))),
      )

module _ (marks : List kept.KeptMark) (at : ℕ) (m : kept.KeptMark) (l : at < length marks) (is : m ≡ get_or marks at m) (a b : ℕ) where
  -- the mark here is b's invocation, and a has returned before
  pub precedes_here : ((op : Op) × (mark_of m ≡ Invoked b op)) → HasReturned (marks_of_kept (take at marks)) a → Precedes (marks_of_kept marks) a b
  precedes_here inv ret = record {
    before = marks_of_kept (take at marks);
    after = marks_of_kept (drop at marks);
    cut = sym (map-append mark_of (take at marks) (drop at marks)) ∙ ap marks_of_kept (take-append-drop at marks);
    returned = ret;
    invoked = (inv.0, subst (λ xs. Contains (marks_of_kept xs) (Invoked b inv.0)) (sym from_here) (subst (Contains (mark_of m ∷ marks_of_kept (drop (at + 1) marks))) inv.1 (Contains-head (mark_of m) (marks_of_kept (drop (at + 1) marks)))));
  }
    where
      from_here : drop at marks ≡ m ∷ drop (at + 1) marks
      from_here = (let t : drop at marks ≡ get_or marks at m ∷ drop (at + 1) marks = rw (add-one, drop-cons marks at m) in t) ∙ ap (λ x. x ∷ drop (at + 1) marks) (sym is)

  -- or else it adds nothing
  pub precedes_no_more : ¬ Precedes (marks_of_kept (take at marks)) a b → (((op : Op) × (mark_of m ≡ Invoked b op)) → HasReturned (marks_of_kept (take at marks)) a → ⊥) → ¬ Precedes (marks_of_kept (take (at + 1) marks)) a b
  precedes_no_more none not_here p =
      ⊎_elim none (λ h. not_here (h.0, h.1) h.2)
      (Precedes-cases (marks_of_kept (take at marks)) (mark_of m) (subst (λ xs. Precedes xs a b) (ap marks_of_kept (take_more marks at m l ∙ ap (λ x. take at marks ++ x ∷ []) (sym is)) ∙ map-append mark_of (take at marks) (m ∷ [])) p))

-- the mark is the return of an operation that is taken
pub done_by : (taken : List ℕ) (m : kept.KeptMark) (i : ℕ) (a : Answer) (r : Bool) → m ≡ Returned_kept i a → IsTrue r ↔ Contains taken i → IsTrue r ↔ ((id : ℕ) (answer : Answer) → mark_of m ≡ Returned id answer → Contains taken id)
done_by taken m i a r is e = (
  (λ t id answer k. let q : Returned i a ≡ Returned id answer = sym (ap mark_of is) ∙ k in subst (Contains taken) (let same : i ≡ id = cc in same) (e.0 t)),
  (λ all. e.1 (all i a (ap mark_of is))),
)
