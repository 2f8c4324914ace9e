-- some values left out of the history of a set
use Rattle.std.proofs.Common.{◌≡◌, ◌↔◌, ℕ, ℤ, ◌⊎◌, inl, inr, ⊎_elim, Bool, true, false, not, IsTrue, List, [], ◌∷◌, refl, sym, ap, ◌∙◌, subst}
use Rattle.std.specs.List.{filter, Contains}
use Rattle.std.proofs.lemmas.Bool.{cases_Bool, true≢false, not-true}
use Rattle.std.proofs.lemmas.List.Elements.{Contains-append_right}
use Rattle.models.specs.declared.operation.Name.TheVariants.{Read, Add}
use Rattle.models.specs.declared.operation.Op.{Op}
use Rattle.models.specs.declared.finding.Found.TheVariants.{Elements}
use Rattle.models.specs.declared.finding.Answer.{Answer}
use Rattle.models.specs.declared.finding.Answer.TheVariants.{Nothing, Number, Numbers, Many}
use Rattle.values.specs.Members.{IsAscending, put_in}
use Rattle.models.specs.Objects.{Fits, set_of_numbers}
use Rattle.values.proofs.PutIn.{Contains-put_in, IsAscending-put_in}
use Rattle.values.proofs.Sorting.{one_ascending}
use Rattle.events.specs.Events.{Mark}
use Rattle.events.specs.Events.Mark.{Invoked, Returned, Failed}
use Rattle.linspec.specs.Orders.{Taken, Run, IsLegalOrder, IsLinearizable}
use Rattle.linspec.proofs.Lists.{Contains-head}
use Rattle.linspec.proofs.Filters.{filter-yes, filter-no, from_filter, to_filter}
use Rattle.shrinking_laws.specs.LeftOut.{without}
use Rattle.shrinking_laws.specs.Sets.{Adds, AreAddsOf, answer_without, answers_without}
use Rattle.shrinking_laws.proofs.Matching.{Matches, IsLegalOrder-match, simulated}
use Rattle.shrinking_laws.proofs.LeftOut.{from_without, to_without, Precedes-from_without}
use Rattle.shrinking_laws.proofs.Relabelling.{from_returned, from_failed, to_invoked, from_precedes}
use Rattle.shrinking_laws.proofs.Sets.{IsAdd, IsRead, set_view, by_add, by_read, same_int_part}

-- the values that stay, of a set
module _ (values : ℤ → Bool) where
  abbrev stays : ℤ → Bool
  stays v = not (values v)

  abbrev rest_of : List ℤ → List ℤ
  rest_of s = filter stays s

  IsAscending-rest : (s : List ℤ) → IsAscending s → IsAscending (rest_of s)
  IsAscending-rest [] is = tt
  IsAscending-rest (x ∷ s) is = ⊎_elim
      (λ yes. subst IsAscending (sym (filter-yes stays x s yes)) ((λ y h. is.0 y (from_filter stays s y h).0), IsAscending-rest s is.1))
      (λ no. subst IsAscending (sym (filter-no stays x s no)) (IsAscending-rest s is.1))
      (cases_Bool (stays x))

  rest-put_in : (v : ℤ) (s : List ℤ) → IsAscending s → values v ≡ false → rest_of (put_in v s) ≡ put_in v (rest_of s)
  rest-put_in v s is e = one_ascending (rest_of (put_in v s)) (put_in v (rest_of s)) (IsAscending-rest (put_in v s) (IsAscending-put_in v s is)) (IsAscending-put_in v (rest_of s) (IsAscending-rest s is))
      (λ y. (
        (λ h. (let r = from_filter stays (put_in v s) y h in (Contains-put_in v (rest_of s) y).1 (⊎_elim inl (λ k. inr (to_filter stays s y k r.1)) ((Contains-put_in v s y).0 r.0)))),
        (λ h. ⊎_elim
            (λ q. to_filter stays (put_in v s) y ((Contains-put_in v s y).1 (inl q)) (ap stays q ∙ ap not e))
            (λ k. (let r = from_filter stays s y k in to_filter stays (put_in v s) y ((Contains-put_in v s y).1 (inr r.0)) r.1))
            ((Contains-put_in v (rest_of s) y).0 h)),
      ))

  rest-put_in_gone : (v : ℤ) (s : List ℤ) → IsAscending s → values v ≡ true → rest_of (put_in v s) ≡ rest_of s
  rest-put_in_gone v s is e = one_ascending (rest_of (put_in v s)) (rest_of s) (IsAscending-rest (put_in v s) (IsAscending-put_in v s is)) (IsAscending-rest s is)
      (λ y. (
        (λ h. (let r = from_filter stays (put_in v s) y h in ⊎_elim
            (λ q. absurd (true≢false (sym e ∙ ap values (sym q) ∙ not-true (values y) r.1)))
            (λ k. to_filter stays s y k r.1)
            ((Contains-put_in v s y).0 r.0))),
        (λ h. (let r = from_filter stays s y h in to_filter stays (put_in v s) y ((Contains-put_in v s y).1 (inr r.0)) r.1)),
      ))

  fits_rest : (s : List ℤ) (answer : Answer) → Fits (Elements s) answer → Fits (Elements (rest_of s)) (answer_without values answer)
  fits_rest s Nothing h = h
  fits_rest s (Number a) h = h
  fits_rest s (Numbers a b) h = h
  fits_rest s (Many members) h = ap rest_of h

  module _ (ms : List Mark) (out : ℕ → Bool) (are : AreAddsOf values out ms) where
    abbrev same_op : ℕ → Op → Op
    same_op id op = op

    abbrev fewer : ℕ → Answer → Answer
    fewer id answer = answer_without values answer

    abbrev rest : List Mark
    rest = answers_without values (without out ms)

    abbrev Goes : Taken → Type 0
    Goes x = out x.id ≡ true

    record Lessened (x y : Taken) : Type 0 where
      id : y.id ≡ x.id
      op : y.op ≡ x.op
      kept : out x.id ≡ false
      fits : (answer : Answer) → Contains ms (Returned x.id answer) → Fits y.found (answer_without values answer)

    module _ (order : List Taken) (end : List ℤ) (l : IsLegalOrder set_of_numbers ms order end) where
      abbrev Fewer : List ℤ → List ℤ → Type 0
      Fewer s w = (rest_of s ≡ w) × IsAscending s

      module _ (x : Taken) (there : Contains order x) (s t w : List ℤ) (is : Fewer s w) (step : set_of_numbers.Steps s x.op x.found t) where
        abbrev Next : Type 0
        Next = (Goes x × Fewer t w) ⊎ ((y : Taken) × (u : List ℤ) × Lessened x y × set_of_numbers.Steps w y.op y.found u × Fewer t u)

        told : IsTrue (out x.id) ↔ ((v : ℤ) × Adds x.op v × IsTrue (values v))
        told = are x.id x.op (l.invoked x there)

        add : IsAdd x.op.name x.op.part s x.found t → Next
        add k =
            let ascends : IsAscending t = subst IsAscending (sym k.3) (IsAscending-put_in k.0 s is.1) in
            ⊎_elim
            (λ e. inl (told.1 (k.0, (k.1, k.2), e), (ap rest_of k.3 ∙ rest-put_in_gone k.0 s is.1 e ∙ is.0, ascends)))
            (λ e. inr (
              x,
              put_in k.0 w,
              record {
                id = refl;
                op = refl;
                kept = ⊎_elim
                    (λ o. (let r = told.0 o in absurd (true≢false (sym r.2 ∙ ap values (same_int_part r.0 k.0 x.op.part r.1.1 k.2) ∙ e))))
                    (λ o. o)
                    (cases_Bool (out x.id));
                fits = λ answer d. subst (λ f. Fits f (answer_without values answer)) (sym k.4) tt;
              },
              by_add x.op.name x.op.part w (put_in k.0 w) x.found (k.0, k.1, k.2, refl, k.4),
              (ap rest_of k.3 ∙ rest-put_in k.0 s is.1 e ∙ ap (put_in k.0) is.0, ascends),
            ))
            (cases_Bool (values k.0))

        read : IsRead x.op.name x.op.part s x.found t → Next
        read k = inr (
          record x { found = Elements w },
          w,
          record {
            id = refl;
            op = refl;
            kept = ⊎_elim
                (λ o. (let r = told.0 o in let clash : Read ≡ Add = sym k.0 ∙ r.1.0 in absurd (let none : ⊥ = cc in none)))
                (λ o. o)
                (cases_Bool (out x.id));
            fits = λ answer d. subst (λ z. Fits (Elements z) (answer_without values answer)) is.0 (fits_rest s answer (subst (λ f. Fits f answer) k.3 (l.fits x answer there d)));
          },
          by_read x.op.name x.op.part w w (Elements w) (k.0, k.1, refl, refl),
          (ap rest_of k.2 ∙ is.0, subst IsAscending (sym k.2) is.1),
        )

        next : Next
        next = ⊎_elim add read (set_view x.op.name x.op.part s t x.found step)

      fewer_runs : (other : List Taken) × (u : List ℤ) × Matches Goes Lessened order other × Run set_of_numbers [] other u
      fewer_runs = simulated set_of_numbers set_of_numbers Goes Lessened (λ before s w. Fewer s w) order
          (λ before after x s t w whole is step. next x (subst (λ k. Contains k x) whole (Contains-append_right before (x ∷ after) x (Contains-head x after))) s t w is step)
          [] order [] end [] refl (refl, tt) l.run

    pub IsLinearizable-without_values : IsLinearizable set_of_numbers ms → IsLinearizable set_of_numbers rest
    IsLinearizable-without_values h =
        let l : IsLegalOrder set_of_numbers ms h.0 h.1 = h.2 in
        let r = fewer_runs h.0 h.1 l in (
          r.0,
          r.1,
          IsLegalOrder-match Goes Lessened ms rest (λ x y k. k.id) (λ a b p. Precedes-from_without out ms a b (from_precedes same_op fewer (without out ms) a b p)) set_of_numbers set_of_numbers h.0 r.0 h.1 r.1 l r.2 r.3
              (λ x y i k. to_invoked same_op fewer (without out ms) y.id y.op (to_without out ms (Invoked y.id y.op)
              (subst (λ n. Contains ms (Invoked n y.op)) (sym k.id) (subst (λ p. Contains ms (Invoked x.id p)) (sym k.op) (l.invoked x i))) (ap out k.id ∙ k.kept)))
              (λ x y i k d. subst (λ n. Contains ms (Failed n)) k.id (from_without out ms _ (from_failed same_op fewer (without out ms) y.id d)).0)
              (λ id d. (let q = from_returned same_op fewer (without out ms) id d.0 d.1 in let m = from_without out ms _ q.1 in ((q.0, m.0), (λ x i e goes. true≢false (sym goes ∙ ap out e ∙ m.1)))))
              (λ x y answer i k d. (let q = from_returned same_op fewer (without out ms) y.id answer d in
              subst (Fits y.found) q.2 (k.fits q.0 (subst (λ n. Contains ms (Returned n q.0)) k.id (from_without out ms _ q.1).0)))),
        )
