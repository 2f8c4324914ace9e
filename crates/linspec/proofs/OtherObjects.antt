-- a cas and a mutex
use Rattle.std.proofs.Common.{◌≡◌, ℕ, ℤ, pos, ◌⊎◌, inl, inr, ⊎_elim, Bool, true, false, Option, Some, None, List, [], ◌∷◌, refl, sym, ap, ◌∙◌, subst, arith}
use Rattle.std.specs.List.{Contains}
use Rattle.models.specs.declared.finding.Found.{Found}
use Rattle.models.specs.declared.finding.Found.TheVariants.{Unit as Done}
use Rattle.models.specs.declared.finding.Answer.TheVariants.{Nothing, Number, Numbers}
use Rattle.models.specs.Objects.{register, cas_register, mutex}
use Rattle.models.proofs.Steps.{same_outcome}
use Rattle.events.specs.Events.Mark.{Invoked, Returned}
use Rattle.linspec.specs.Orders.{Taken, Includes, Run, IsLegalOrder, IsLinearizable}
use Rattle.linspec.specs.Examples.{write, cas, acquire, key_marks, write_then_cas, acquire_while_held, mutex_held_twice}
use Rattle.linspec.proofs.Lists.{Contains-nil, Contains-head, Contains-tail, Contains-cons_cases}
use Rattle.linspec.proofs.LegalOrders.{legal_by}

pub cas_linearizable : IsLinearizable cas_register (key_marks 7 write_then_cas)
cas_linearizable =
    let order : List Taken = record { id = 0; op = write 7 (pos 1); found = Done } ∷ record { id = 2; op = cas 7 (pos 1) (pos 2); found = Done } ∷ [] in (
      order,
      Some (pos 2),
      legal_by cas_register (key_marks 7 write_then_cas) order (Some (pos 2)) refl refl refl
          ((0, omega arith, refl), ((2, omega arith, refl), tt))
          ((tt, (tt, tt)), ((tt, (tt, tt)), tt))
          (Some (pos 1), inl refl, (Some (pos 2), inl refl, refl)),
    )

no_step : (s t : Option ℤ) (found : Found) → register.Steps s (cas 7 (pos 1) (pos 2)) found t → ⊥
no_step s t found h = h

-- no run of a register has a cas in it
no_run : (order : List Taken) (s t : Option ℤ) → Run register s order t → (x : Taken) → Contains order x → x.op ≡ cas 7 (pos 1) (pos 2) → ⊥
no_run [] s t run x h e = Contains-nil x h
no_run (y ∷ order) s t run x h e =
    ⊎_elim
    (λ q. no_step s run.0 y.found (subst (λ op. register.Steps s op y.found run.0) (ap (λ (w : Taken). w.op) q ∙ e) run.1))
    (λ k. no_run order run.0 t run.2 x k e)
    (Contains-cons_cases y order x h)

which_cas : (x : Taken) → Contains (key_marks 7 write_then_cas) (Invoked x.id x.op) → (x.id ≡ 0) ⊎ (x.op ≡ cas 7 (pos 1) (pos 2))
which_cas x h =
    ⊎_elim (λ e. inl (let t : x.id ≡ 0 = cc in t)) (λ h. ⊎_elim (λ e. cc)
    (λ h. ⊎_elim (λ e. inr (let t : x.op ≡ cas 7 (pos 1) (pos 2) = cc in t)) (λ h. ⊎_elim (λ e. cc) (λ n. absurd (Contains-nil _ n))
    (Contains-cons_cases (Returned 2 (Numbers (pos 1) (pos 2))) [] _ h))
    (Contains-cons_cases (Invoked 2 (cas 7 (pos 1) (pos 2))) (Returned 2 (Numbers (pos 1) (pos 2)) ∷ []) _ h))
    (Contains-cons_cases (Returned 0 (Number (pos 1))) (Invoked 2 (cas 7 (pos 1) (pos 2)) ∷ Returned 2 (Numbers (pos 1) (pos 2)) ∷ []) _ h))
    (Contains-cons_cases (Invoked 0 (write 7 (pos 1))) (Returned 0 (Number (pos 1)) ∷ Invoked 2 (cas 7 (pos 1) (pos 2)) ∷ Returned 2 (Numbers (pos 1) (pos 2)) ∷ []) _ h)

no_order : (order : List Taken) (s : Option ℤ) → IsLegalOrder register (key_marks 7 write_then_cas) order s → ⊥
no_order order s l =
    let i : Includes order 2 = l.all_done 2 (Numbers (pos 1) (pos 2), (3, omega arith, refl)) in
    ⊎_elim
    (λ e. (let t : ◌≡◌ {A = ℕ} 0 2 = sym e ∙ i.2 in omega arith))
    (λ e. no_run order None s l.run i.0 i.1 e)
    (which_cas i.0 (l.invoked i.0 i.1))

pub no_cas_of_register : ¬ IsLinearizable register (key_marks 7 write_then_cas)
no_cas_of_register h = no_order h.0 h.1 h.2

pub waiting_linearizable : IsLinearizable mutex (key_marks 4 acquire_while_held)
waiting_linearizable =
    let order : List Taken = record { id = 0; op = acquire 4; found = Done } ∷ [] in
    (order, true, legal_by mutex (key_marks 4 acquire_while_held) order true refl refl refl ((0, omega arith, refl), tt) ((tt, tt), tt) (true, inl refl, refl))

acquire_step : (t : Bool) (found : Found) → mutex.Steps false (acquire 4) found t → t ≡ true
acquire_step t found h = sym (same_outcome (true, Done) (t, found) h).0

no_second_step : (t : Bool) (found : Found) → mutex.Steps true (acquire 4) found t → ⊥
no_second_step t found h = h

is_acquire : (x : Taken) → Contains (key_marks 4 mutex_held_twice) (Invoked x.id x.op) → x.op ≡ acquire 4
is_acquire x h =
    ⊎_elim (λ e. (let t : x.op ≡ acquire 4 = cc in t)) (λ h. ⊎_elim (λ e. cc)
    (λ h. ⊎_elim (λ e. (let t : x.op ≡ acquire 4 = cc in t)) (λ h. ⊎_elim (λ e. cc) (λ n. absurd (Contains-nil _ n))
    (Contains-cons_cases (Returned 2 Nothing) [] _ h))
    (Contains-cons_cases (Invoked 2 (acquire 4)) (Returned 2 Nothing ∷ []) _ h))
    (Contains-cons_cases (Returned 0 Nothing) (Invoked 2 (acquire 4) ∷ Returned 2 Nothing ∷ []) _ h))
    (Contains-cons_cases (Invoked 0 (acquire 4)) (Returned 0 Nothing ∷ Invoked 2 (acquire 4) ∷ Returned 2 Nothing ∷ []) _ h)

-- the first acquire leaves it held, and then no second one can take place
no_order_of_two : (order : List Taken) (s : Bool) → IsLegalOrder mutex (key_marks 4 mutex_held_twice) order s → ⊥
no_order_of_two [] s l = Contains-nil _ (l.all_done 0 (Nothing, (1, omega arith, refl))).1
no_order_of_two (x ∷ []) s l =
    let i : Includes (x ∷ []) 0 = l.all_done 0 (Nothing, (1, omega arith, refl)) in
    let j : Includes (x ∷ []) 2 = l.all_done 2 (Nothing, (3, omega arith, refl)) in
    let a : x ≡ i.0 = ⊎_elim (λ e. e) (λ n. absurd (Contains-nil _ n)) (Contains-cons_cases x [] i.0 i.1) in
    let b : x ≡ j.0 = ⊎_elim (λ e. e) (λ n. absurd (Contains-nil _ n)) (Contains-cons_cases x [] j.0 j.1) in
    let t : ◌≡◌ {A = ℕ} 0 2 = sym i.2 ∙ ap (λ (w : Taken). w.id) (sym a ∙ b) ∙ j.2 in
    omega arith
no_order_of_two (x ∷ y ∷ order) s l =
    let run : (mid : Bool) × mutex.Steps false x.op x.found mid × Run mutex mid (y ∷ order) s = l.run in
    let held : run.0 ≡ true = acquire_step run.0 x.found (subst (λ op. mutex.Steps false op x.found run.0) (is_acquire x (l.invoked x (Contains-head x (y ∷ order)))) run.1) in
    let step : mutex.Steps run.0 (acquire 4) y.found run.2.0 = subst (λ op. mutex.Steps run.0 op y.found run.2.0) (is_acquire y (l.invoked y (Contains-tail x (y ∷ order) y (Contains-head y order)))) run.2.1 in
    no_second_step run.2.0 y.found (subst (λ b. mutex.Steps b (acquire 4) y.found run.2.0) held step)

pub held_twice_not_linearizable : ¬ IsLinearizable mutex (key_marks 4 mutex_held_twice)
held_twice_not_linearizable h = no_order_of_two h.0 h.1 h.2
