-- the two finite parts of an end, under a fact Q that says which operations they record
use Rattle.std.proofs.Common.{◌≡◌, ◌≢◌, ◌↔◌, ℕ, ◌⊎◌, inl, inr, ⊎_elim, Bool, true, false, IsTrue, Option, Some, None, List, [], ◌∷◌, ◌++◌, refl, sym, ap, ◌∙◌, subst}
use Rattle.std.specs.Ordering.{nat_cmp}
use Rattle.std.specs.Cmp.{nat_cmp_total}
use Rattle.std.specs.FinMap as map
use Rattle.std.specs.FinSet as set
use Rattle.std.proofs.lemmas.Bool.{cases_eq}
use Rattle.std.proofs.lemmas.List.Elements.{Contains-append_left, Contains-push, Contains-push_cases}
use Rattle.models.specs.declared.finding.Found.{Found}
use Rattle.linspec.specs.Orders.{Taken, Includes}
use Rattle.linspec.specs.Ends.{HasFound}
use Rattle.linspec.proofs.FinLaws.{get-insert_same, get-insert_other, get-remove_same, get-remove_other, contains-insert_same, contains-insert_other}

-- p has what each operation of the order found of which Q holds
abbrev pub Records : (ℕ → Type 0) → List Taken → map.FinMap nat_cmp Found → Type 0
Records Q order p = (id : ℕ) (found : Found) → (map.get p id ≡ Some found) ↔ (HasFound order id found × Q id)

-- s has the operations of the order of which Q holds
abbrev pub Marks : (ℕ → Type 0) → List Taken → set.FinSet nat_cmp → Type 0
Marks Q order s = (id : ℕ) → IsTrue (set.contains s id) ↔ (Includes order id × Q id)

pub HasFound-more : (order : List Taken) (x : Taken) (id : ℕ) (f : Found) → HasFound order id f → HasFound (order ++ x ∷ []) id f
HasFound-more order x id f h = (h.0, Contains-append_left order (x ∷ []) _ h.1, h.2, h.3)

pub HasFound-cases : (order : List Taken) (x : Taken) (id : ℕ) (f : Found) → HasFound (order ++ x ∷ []) id f → HasFound order id f ⊎ ((x.id ≡ id) × (x.found ≡ f))
HasFound-cases order x id f h =
    ⊎_elim (λ k. inl (h.0, k, h.2, h.3)) (λ e. inr (ap (λ (w : Taken). w.id) e ∙ h.2, ap (λ (w : Taken). w.found) e ∙ h.3)) (Contains-push_cases order x h.0 h.1)

pub Includes-more : (order : List Taken) (x : Taken) (id : ℕ) → Includes order id → Includes (order ++ x ∷ []) id
Includes-more order x id h = (h.0, Contains-append_left order (x ∷ []) _ h.1, h.2)

pub Includes-cases : (order : List Taken) (x : Taken) (id : ℕ) → Includes (order ++ x ∷ []) id → Includes order id ⊎ (x.id ≡ id)
Includes-cases order x id h = ⊎_elim (λ k. inl (h.0, k, h.2)) (λ e. inr (ap (λ (w : Taken). w.id) e ∙ h.2)) (Contains-push_cases order x h.0 h.1)

same_some : {X : Type 0} (o : Option X) (a b : X) → o ≡ Some a → o ≡ Some b → a ≡ b
same_some o a b e f = let t : a ≡ b = cc in t

module _ (Q : ℕ → Type 0) (order : List Taken) where
  pub Records-add : (p : map.FinMap nat_cmp Found) (x : Taken) → Q x.id → ¬ Includes order x.id → Records Q order p → Records Q (order ++ x ∷ []) (map.insert p x.id x.found)
  Records-add p x q new r id f =
      ⊎_elim
      (λ e. (
        (λ h. ((x, Contains-push order x, sym e, same_some _ _ _ (get-insert_same p x.id x.found) (subst (λ i. map.get (map.insert p x.id x.found) i ≡ Some f) e h)), subst Q (sym e) q)),
        (λ h. ⊎_elim
            (λ k. absurd (new (k.0, k.1, k.2 ∙ e)))
            (λ k. ap (map.get (map.insert p x.id x.found)) e ∙ get-insert_same p x.id x.found ∙ ap Some k.1)
            (HasFound-cases order x id f h.0)),
      ))
      (λ ne. (
        (λ h. (let old : HasFound order id f × Q id = (r id f).0 (sym (get-insert_other p x.id x.found id ne) ∙ h) in (HasFound-more order x id f old.0, old.1))),
        (λ h. ⊎_elim
            (λ k. get-insert_other p x.id x.found id ne ∙ (r id f).1 (k, h.1))
            (λ k. absurd (ne (sym k.0)))
            (HasFound-cases order x id f h.0)),
      ))
      (cases_eq id x.id)

  pub Records-skip : (p : map.FinMap nat_cmp Found) (x : Taken) → ¬ Q x.id → Records Q order p → Records Q (order ++ x ∷ []) p
  Records-skip p x not_q r id f = (
    (λ h. (let old : HasFound order id f × Q id = (r id f).0 h in (HasFound-more order x id f old.0, old.1))),
    (λ h. ⊎_elim (λ k. (r id f).1 (k, h.1)) (λ k. absurd (not_q (subst Q (sym k.0) h.1))) (HasFound-cases order x id f h.0)),
  )

  pub Marks-add : (s : set.FinSet nat_cmp) (x : Taken) → Q x.id → Marks Q order s → Marks Q (order ++ x ∷ []) (set.insert s x.id)
  Marks-add s x q r id =
      ⊎_elim
      (λ e. (
        (λ h. ((x, Contains-push order x, sym e), subst Q (sym e) q)),
        (λ h. ap (set.contains (set.insert s x.id)) e ∙ contains-insert_same s x.id),
      ))
      (λ ne. (
        (λ h. (let old : Includes order id × Q id = (r id).0 (sym (contains-insert_other s x.id id ne) ∙ h) in (Includes-more order x id old.0, old.1))),
        (λ h. ⊎_elim (λ k. contains-insert_other s x.id id ne ∙ (r id).1 (k, h.1)) (λ k. absurd (ne (sym k))) (Includes-cases order x id h.0)),
      ))
      (cases_eq id x.id)

  pub Marks-skip : (s : set.FinSet nat_cmp) (x : Taken) → ¬ Q x.id → Marks Q order s → Marks Q (order ++ x ∷ []) s
  Marks-skip s x not_q r id = (
    (λ h. (let old : Includes order id × Q id = (r id).0 h in (Includes-more order x id old.0, old.1))),
    (λ h. ⊎_elim (λ k. (r id).1 (k, h.1)) (λ k. absurd (not_q (subst Q (sym k) h.1))) (Includes-cases order x id h.0)),
  )

  pub Records-unique : (p q : map.FinMap nat_cmp Found) → Records Q order p → Records Q order q → p ≡ q
  Records-unique p q r t = map.same_map nat_cmp_total map.nat_cmp-IsAntisymmetric p q (λ id. alike id (map.get p id) (map.get q id) refl refl)
    where
      alike : (id : ℕ) (a b : Option Found) → map.get p id ≡ a → map.get q id ≡ b → a ≡ b
      alike id None None e f = refl
      alike id None (Some b) e f = sym e ∙ (r id b).1 ((t id b).0 f)
      alike id (Some a) b e f = sym ((t id a).1 ((r id a).0 e)) ∙ f

  pub Marks-unique : (p q : set.FinSet nat_cmp) → Marks Q order p → Marks Q order q → p ≡ q
  Marks-unique p q r t = set.same_set nat_cmp_total map.nat_cmp-IsAntisymmetric p q (λ id. alike id (set.contains p id) (set.contains q id) refl refl)
    where
      alike : (id : ℕ) (a b : Bool) → set.contains p id ≡ a → set.contains q id ≡ b → a ≡ b
      alike id false false e f = refl
      alike id false true e f = sym e ∙ (r id).1 ((t id).0 f)
      alike id true b e f = sym ((t id).1 ((r id).0 e)) ∙ f

  -- where the fact is only asked of other operations
  pub Records-remove : (p : map.FinMap nat_cmp Found) (k : ℕ) → Records Q order p → Records (λ i. Q i × (i ≢ k)) order (map.remove p k)
  Records-remove p k r id f =
      ⊎_elim
      (λ e. (
        (λ h. cc (get-remove_same p k, ap (map.get (map.remove p k)) e)),
        (λ h. absurd (h.1.1 e)),
      ))
      (λ ne. (
        (λ h. (let old : HasFound order id f × Q id = (r id f).0 (sym (get-remove_other p k id ne) ∙ h) in (old.0, (old.1, ne)))),
        (λ h. get-remove_other p k id ne ∙ (r id f).1 (h.0, h.1.0)),
      ))
      (cases_eq id k)

  pub Records-change : (S : ℕ → Type 0) (p : map.FinMap nat_cmp Found) → ((i : ℕ) → Includes order i → Q i → S i) → ((i : ℕ) → Includes order i → S i → Q i) → Records Q order p → Records S order p
  Records-change S p to from r id f = (
    (λ h. (let old : HasFound order id f × Q id = (r id f).0 h in (old.0, to id (old.0.0, old.0.1, old.0.2) old.1))),
    (λ h. (r id f).1 (h.0, from id (h.0.0, h.0.1, h.0.2) h.1)),
  )

  pub Marks-change : (S : ℕ → Type 0) (s : set.FinSet nat_cmp) → ((i : ℕ) → Includes order i → Q i → S i) → ((i : ℕ) → Includes order i → S i → Q i) → Marks Q order s → Marks S order s
  Marks-change S s to from r id = (
    (λ h. (let old : Includes order id × Q id = (r id).0 h in (old.0, to id old.0 old.1))),
    (λ h. (r id).1 (h.0, from id h.0 h.1)),
  )

  -- one more operation of the order
  pub Marks-insert : (s : set.FinSet nat_cmp) (k : ℕ) → Includes order k → Marks Q order s → Marks (λ i. Q i ⊎ (i ≡ k)) order (set.insert s k)
  Marks-insert s k in' r id =
      ⊎_elim
      (λ e. (
        (λ h. ((in'.0, in'.1, in'.2 ∙ sym e), inr e)),
        (λ h. ap (set.contains (set.insert s k)) e ∙ contains-insert_same s k),
      ))
      (λ ne. (
        (λ h. (let old : Includes order id × Q id = (r id).0 (sym (contains-insert_other s k id ne) ∙ h) in (old.0, inl old.1))),
        (λ h. ⊎_elim (λ q. contains-insert_other s k id ne ∙ (r id).1 (h.0, q)) (λ e. absurd (ne e)) h.1),
      ))
      (cases_eq id k)
