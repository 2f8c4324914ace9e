-- when operations are invoked, and when they return
use Rattle.std.proofs.Common.{◌≡◌, ℕ, suc, ◌≤◌, ◌<◌, Bool, true, false, nat_eq, cond, ⊎_elim, List, [], ◌∷◌, ◌++◌, length, refl, sym, ap, ◌∙◌, subst, arith, append_assoc, append-nil}
use Rattle.std.specs.List.{Contains}
use Rattle.std.proofs.lemmas.Bool.{cases_Bool, true≢false, eqb-true, eq-eqb}
use Rattle.std.proofs.lemmas.List.Elements.{Contains-append_left, Contains-append_right, Contains-append_cases}
use Rattle.models.specs.declared.operation.Op.{Op}
use Rattle.models.specs.declared.finding.Answer.{Answer}
use Rattle.events.specs.Events.{Mark}
use Rattle.events.specs.Events.Mark.{Invoked, Returned, Failed, Crashed}
use Rattle.linspec.specs.MarkRule.{IsNew, AreWellFormed}
use Rattle.linspec.specs.Operations.{IsInvoked, HasReturned, Precedes}
use Rattle.linspec.proofs.Lists.{Contains-nil, Contains-head, Contains-tail, Contains-cons_cases, cut_at}

-- how many elements come before the first of which p says says
abbrev pub first_place : {X : Type 0} → (X → Bool) → List X → ℕ
first_place p [] = 0
first_place p (x ∷ xs) = cond (p x) 0 (suc (first_place p xs))

module _ {X : Type 0} (p : X → Bool) where
  here : (x : X) (xs : List X) → p x ≡ true → first_place p (x ∷ xs) ≡ 0
  here x xs e = ap (λ b. cond b 0 (suc (first_place p xs))) e

  further : (x : X) (xs : List X) → p x ≡ false → first_place p (x ∷ xs) ≡ suc (first_place p xs)
  further x xs e = ap (λ b. cond b 0 (suc (first_place p xs))) e

  early : (before after : List X) (x : X) → Contains before x → p x ≡ true → first_place p (before ++ after) < length before
  early [] after x h says = absurd (Contains-nil x h)
  early (y ∷ before) after x h says = ⊎_elim
      (λ e. (let z = here y (before ++ after) e in omega (arith, z)))
      (λ e. ⊎_elim
      (λ (q : y ≡ x). absurd (true≢false (sym says ∙ ap p (sym q) ∙ e)))
      (λ k. (let r = early before after x k says in let z = further y (before ++ after) e in omega (arith, z)))
      (Contains-cons_cases y before x h))
      (cases_Bool (p y))

  late : (before after : List X) → ((x : X) → Contains before x → p x ≡ false) → length before ≤ first_place p (before ++ after)
  late [] after none = omega arith
  late (y ∷ before) after none =
      let r = late before after (λ x h. none x (Contains-tail y before x h)) in
      let z = further y (before ++ after) (none y (Contains-head y before)) in
      omega (arith, z)

  at_most : (xs : List X) → first_place p xs ≤ length xs
  at_most [] = omega arith
  at_most (x ∷ xs) = ⊎_elim
      (λ e. (let z = here x xs e in omega (arith, z)))
      (λ e. (let r = at_most xs in let z = further x xs e in omega (arith, z)))
      (cases_Bool (p x))

  found : (xs : List X) (x : X) → Contains xs x → p x ≡ true
      → (before : List X) × (y : X) × (after : List X) × (before ++ y ∷ after ≡ xs) × (p y ≡ true) × (length before ≡ first_place p xs)
  found [] x h says = absurd (Contains-nil x h)
  found (z ∷ xs) x h says = ⊎_elim
      (λ e. ([], z, xs, refl, e, sym (here z xs e)))
      (λ e. ⊎_elim
      (λ (q : z ≡ x). absurd (true≢false (sym says ∙ ap p (sym q) ∙ e)))
      (λ k. (let r = found xs x k says in (z ∷ r.0, r.1, r.2, ap (λ l. z ∷ l) r.3, r.4, ap suc r.5 ∙ sym (further z xs e))))
      (Contains-cons_cases z xs x h))
      (cases_Bool (p z))

abbrev invokes : ℕ → Mark → Bool
invokes id (Invoked i op) = nat_eq i id
invokes id (Returned i answer) = false
invokes id (Failed i) = false
invokes id (Crashed i) = false

abbrev returns : ℕ → Mark → Bool
returns id (Invoked i op) = false
returns id (Returned i answer) = nat_eq i id
returns id (Failed i) = false
returns id (Crashed i) = false

-- how many marks come before the operation is invoked, and before it returns: all where it does not
abbrev pub moment : List Mark → ℕ → ℕ
moment marks id = first_place (invokes id) marks

abbrev pub ended : List Mark → ℕ → ℕ
ended marks id = first_place (returns id) marks

invoked_by : (id : ℕ) (m : Mark) → invokes id m ≡ true → (op : Op) × (m ≡ Invoked id op)
invoked_by id (Invoked i op) e = (op, ap (λ k. Invoked k op) (eqb-true i id e))
invoked_by id (Returned i answer) e = absurd (true≢false (sym e))
invoked_by id (Failed i) e = absurd (true≢false (sym e))
invoked_by id (Crashed i) e = absurd (true≢false (sym e))

returned_by : (id : ℕ) (m : Mark) → returns id m ≡ true → (answer : Answer) × (m ≡ Returned id answer)
returned_by id (Invoked i op) e = absurd (true≢false (sym e))
returned_by id (Returned i answer) e = (answer, ap (λ k. Returned k answer) (eqb-true i id e))
returned_by id (Failed i) e = absurd (true≢false (sym e))
returned_by id (Crashed i) e = absurd (true≢false (sym e))

pub moment_within : (ms : List Mark) (id : ℕ) → moment ms id ≤ length ms
moment_within ms id = at_most (invokes id) ms

pub ended_within : (ms : List Mark) (id : ℕ) → ended ms id ≤ length ms
ended_within ms id = at_most (returns id) ms

-- an operation precedes another exactly if it ends before the other begins
pub ends_before : (ms : List Mark) → AreWellFormed ms → (a b : ℕ) → Precedes ms a b → ended ms a < moment ms b
ends_before ms well a b p =
    let x : ended ms a < length p.before = subst (λ l. ended l a < length p.before) p.cut (early (returns a) p.before p.after (Returned a p.returned.0) p.returned.1 (eq-eqb a a refl)) in
    let y : length p.before ≤ moment ms b = subst (λ l. length p.before ≤ moment l b) p.cut (late (invokes b) p.before p.after not_before) in
    omega arith
  where
    new : (op : Op) → ¬ Contains p.before (Invoked b op)
    new op h =
        let d = cut_at p.after (Invoked b p.invoked.0) p.invoked.1 in
        let fresh : IsNew (p.before ++ d.0) b = well (p.before ++ d.0) d.1 (Invoked b p.invoked.0) (append_assoc p.before d.0 (Invoked b p.invoked.0 ∷ d.1) ∙ ap (λ l. p.before ++ l) (sym d.2) ∙ p.cut) in
        fresh (Invoked b op) (Contains-append_left p.before d.0 _ h) refl

    not_before : (m : Mark) → Contains p.before m → invokes b m ≡ false
    not_before m h = ⊎_elim
        (λ e. (let i = invoked_by b m e in absurd (new i.0 (subst (Contains p.before) i.1 h))))
        (λ e. e)
        (cases_Bool (invokes b m))

pub precedes_by : (ms : List Mark) (a b : ℕ) → HasReturned ms a → IsInvoked ms b → ended ms a < moment ms b → Precedes ms a b
precedes_by ms a b done is lt =
    let r = found (returns a) ms (Returned a done.0) done.1 (eq-eqb a a refl) in
    let back = returned_by a r.1 r.4 in
    let whole : (r.0 ++ r.1 ∷ []) ++ r.2 ≡ ms = append_assoc r.0 (r.1 ∷ []) r.2 ∙ r.3 in
    let long : length (r.0 ++ r.1 ∷ []) ≡ suc (ended ms a) = longer r.0 r.1 ∙ ap suc r.5 in
    ⊎_elim
    (λ k. (let x : moment ms b < length (r.0 ++ r.1 ∷ []) = subst (λ l. moment l b < length (r.0 ++ r.1 ∷ [])) whole (early (invokes b) (r.0 ++ r.1 ∷ []) r.2 (Invoked b is.0) k (eq-eqb b b refl)) in absurd (omega (arith, long))))
    (λ k. record { before = r.0 ++ r.1 ∷ []; after = r.2; cut = whole; returned = (back.0, subst (Contains (r.0 ++ r.1 ∷ [])) back.1 (Contains-append_right r.0 (r.1 ∷ []) r.1 (Contains-head r.1 []))); invoked = (is.0, k) })
    (Contains-append_cases (r.0 ++ r.1 ∷ []) r.2 (Invoked b is.0) (subst (λ l. Contains l (Invoked b is.0)) (sym whole) is.1))
  where
    longer : (xs : List Mark) (x : Mark) → length (xs ++ x ∷ []) ≡ suc (length xs)
    longer [] x = refl
    longer (y ∷ xs) x = ap suc (longer xs x)

-- who does not return ends after all
pub ended_never : (ms : List Mark) (id : ℕ) → ¬ HasReturned ms id → ended ms id ≡ length ms
ended_never ms id n =
    let x : length ms ≤ ended ms id = subst (λ l. length ms ≤ ended l id) (append-nil ms) (late (returns id) ms [] none) in
    let y : ended ms id ≤ length ms = ended_within ms id in
    omega arith
  where
    none : (m : Mark) → Contains ms m → returns id m ≡ false
    none m h = ⊎_elim
        (λ e. (let r = returned_by id m e in absurd (n (r.0, subst (Contains ms) r.1 h))))
        (λ e. e)
        (cases_Bool (returns id m))
