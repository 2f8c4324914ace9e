-- an invocation, and what the legal orders are after it
use Rattle.std.proofs.Common.{◌≡◌, ℕ, ◌⊎◌, inl, inr, ⊎_elim, List, [], ◌∷◌, ◌++◌, refl, sym, ap, ◌∙◌, subst, append_assoc}
use Rattle.std.specs.List.{Contains}
use Rattle.std.proofs.lemmas.Bool.{cases_eq}
use Rattle.std.proofs.lemmas.List.Elements.{Contains-push, Contains-push_cases}
use Rattle.models.specs.declared.operation.Op.{Op}
use Rattle.models.specs.Objects.{Object}
use Rattle.events.specs.Events.{Mark}
use Rattle.events.specs.Events.Mark.{Invoked}
use Rattle.linspec.specs.Operations.{HasReturned, Precedes}
use Rattle.linspec.specs.Orders.{Taken, Pairwise, Includes, IsLegalOrder}
use Rattle.linspec.specs.MarkRule.{IsNew}
use Rattle.linspec.proofs.Lists.{Contains-nil, Contains-head, Contains-cons_cases, Pairwise-across}
use Rattle.linspec.proofs.Marks.{IsLegalOrder-fewer, IsLegalOrder-more}

-- an order at the place of an operation, if it is there
pub record Around (order : List Taken) (id : ℕ) : Type 0 where
  pub before : List Taken
  pub here : Taken
  pub after : List Taken
  pub whole : order ≡ before ++ here ∷ after
  pub is : here.id ≡ id

pub around : (order : List Taken) (id : ℕ) → Around order id ⊎ (¬ Includes order id)
around [] id = inr (λ i. Contains-nil i.0 i.1)
around (x ∷ order) id =
    ⊎_elim
    (λ e. inl (record { before = []; here = x; after = order; whole = refl; is = e }))
    (λ ne. ⊎_elim
    (λ a. inl (record { before = x ∷ a.before; here = a.here; after = a.after; whole = ap (λ l. x ∷ l) a.whole; is = a.is }))
    (λ not_in. inr (λ i. ⊎_elim (λ e. ne (ap (λ (w : Taken). w.id) e ∙ i.2)) (λ k. not_in (i.0, k, i.2)) (Contains-cons_cases x order i.0 i.1)))
    (around order id))
    (cases_eq x.id id)

module _ (o : Object) (marks : List Mark) (id : ℕ) (op : Op) (new : IsNew marks id) where
  -- an order of the old operations, without the new one
  pub IsLegalOrder-without : (order : List Taken) (s : o.State) → IsLegalOrder o marks order s → IsLegalOrder o (marks ++ Invoked id op ∷ []) order s
  IsLegalOrder-without order s l =
      IsLegalOrder-more o marks (Invoked id op) order s l
      (λ x op' h e. new _ (l.invoked x h) (sym (let t : id ≡ x.id = cc in t)))
      (λ x h e. cc) (λ i a e. cc) (λ x a h e. cc)

  pub IsLegalOrder-before : (order : List Taken) (s : o.State) → ¬ Includes order id → IsLegalOrder o (marks ++ Invoked id op ∷ []) order s → IsLegalOrder o marks order s
  IsLegalOrder-before order s not_in l = IsLegalOrder-fewer o marks (Invoked id op) order s (λ x h e. not_in (x, h, (let t : x.id ≡ id = cc in t))) l

  -- no operation stands at or after the new one that has returned
  pub pending_from : (xs ys : List Taken) (x : Taken) (t : o.State) → x.id ≡ id → IsLegalOrder o (marks ++ Invoked id op ∷ []) (xs ++ x ∷ ys) t
      → (y : Taken) → Contains (x ∷ ys) y → ¬ HasReturned (marks ++ Invoked id op ∷ []) y.id
  pending_from xs ys x t is l y h r =
      let earlier : HasReturned marks y.id = (r.0, ⊎_elim (λ k. k) (λ e. cc) (Contains-push_cases marks (Invoked id op) _ r.1)) in
      ⊎_elim
      (λ e. new _ earlier.1 (ap (λ (w : Taken). w.id) (sym e) ∙ is))
      (λ k. Pairwise-across (λ x y. ¬ Precedes (marks ++ Invoked id op ∷ []) y.id x.id) (xs ++ x ∷ []) ys
      (subst (λ l. Pairwise (λ x y. ¬ Precedes (marks ++ Invoked id op ∷ []) y.id x.id) l) (sym (append_assoc xs (x ∷ []) ys)) l.in_time)
      x y (Contains-push xs x) k
      (record { before = marks; after = Invoked id op ∷ []; cut = refl; returned = earlier; invoked = (op, subst (λ i. Contains (Invoked id op ∷ []) (Invoked i op)) (sym is) (Contains-head _ [])) }))
      (Contains-cons_cases x ys y h)
