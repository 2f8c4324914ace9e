-- the possible answers of a read of a register
use Rattle.std.proofs.Common.{◌≡◌, ◌≢◌, ℕ, ℤ, pos, ◌⊎◌, inl, inr, ⊎_elim, Option, Some, None, List, [], ◌∷◌, refl, sym, ap, ◌∙◌, subst, arith}
use Rattle.std.specs.List.{Contains}
use Rattle.models.specs.declared.operation.Op.{Op}
use Rattle.models.specs.declared.operation.Part.TheVariants.{Nil}
use Rattle.models.specs.declared.finding.Found.{Found}
use Rattle.models.specs.declared.finding.Found.TheVariants.{Unit as Done, Reg}
use Rattle.models.specs.declared.finding.Answer.TheVariants.{Number}
use Rattle.models.specs.Objects.{register, Fits}
use Rattle.models.proofs.Steps.{same_outcome}
use Rattle.events.specs.Events.{Mark}
use Rattle.events.specs.Events.Mark.{Invoked, Returned, Failed, Crashed}
use Rattle.linspec.specs.Operations.{Precedes}
use Rattle.linspec.specs.Orders.{Taken, Includes, Run, IsLegalOrder, IsLinearizable}
use Rattle.linspec.specs.Examples.{write, read, key_marks, write_then_open_read, write_then_read, read_of_pending_write, read_of_failed_write, reads_after_crashed_write}
use Rattle.linspec.proofs.Lists.{Contains-nil, Contains-head, Contains-tail, Contains-cons_cases}
use Rattle.linspec.proofs.LegalOrders.{legal_by}

-- a read finds the state and leaves it, a write leaves its value
read_step : (s t : Option ℤ) (found : Found) → register.Steps s (read 7 Nil) found t → (found ≡ Reg s) × (t ≡ s)
read_step s t found h = let p = same_outcome (s, Reg s) (t, found) h in (sym p.1, sym p.0)

write_step : (v : ℤ) (s t : Option ℤ) (found : Found) → register.Steps s (write 7 v) found t → t ≡ Some v
write_step v s t found h = sym (same_outcome (Some v, Done) (t, found) h).0

-- an included operation that isn't the first is a later one
later : (x : Taken) (order : List Taken) (id : ℕ) → x.id ≢ id → Includes (x ∷ order) id → Includes order id
later x order id ne h = ⊎_elim (λ e. absurd (ne (ap (λ (w : Taken). w.id) e ∙ h.2))) (λ k. (h.0, k, h.2)) (Contains-cons_cases x order h.0 h.1)

-- a read in state s fits its answer: the answer is s
read_fits : (s t : Option ℤ) (x : Taken) (a : ℤ) → x.op ≡ read 7 Nil → register.Steps s x.op x.found t → Fits x.found (Number a) → s ≡ Some a
read_fits s t x a op step fits =
    let found : x.found ≡ Reg s = (read_step s t x.found (subst (λ o. register.Steps s o x.found t) op step)).0 in
    subst (λ f. Fits f (Number a)) found fits

-- a legal order doesn't begin with an operation before one that precedes it
not_first : (marks : List Mark) (x : Taken) (order : List Taken) (s : Option ℤ) (id : ℕ) → IsLegalOrder register marks (x ∷ order) s → Includes (x ∷ order) id → Precedes marks id x.id → x.id ≡ id
not_first marks x order s id l h p =
    ⊎_elim
    (λ e. ap (λ (w : Taken). w.id) e ∙ h.2)
    (λ k. absurd (l.in_time.0 h.0 k (subst (λ i. Precedes marks i x.id) (sym h.2) p)))
    (Contains-cons_cases x order h.0 h.1)

pub open_read_linearizable : (v : ℤ) → IsLinearizable register (key_marks 7 (write_then_open_read v))
open_read_linearizable v =
    let order : List Taken = record { id = 0; op = write 7 v; found = Done } ∷ [] in
    (order, Some v, legal_by register (key_marks 7 (write_then_open_read v)) order (Some v) refl refl refl ((0, omega arith, refl), tt) ((tt, tt), tt) (Some v, inl refl, refl))

pub write_then_read_linearizable : (v : ℤ) → IsLinearizable register (key_marks 7 (write_then_read v v))
write_then_read_linearizable v =
    let order : List Taken = record { id = 0; op = write 7 v; found = Done } ∷ record { id = 2; op = read 7 Nil; found = Reg (Some v) } ∷ [] in (
      order,
      Some v,
      legal_by register (key_marks 7 (write_then_read v v)) order (Some v) refl refl refl
          ((0, omega arith, refl), ((2, omega arith, refl), tt))
          ((tt, (tt, tt)), ((tt, (refl, tt)), tt))
          (Some v, inl refl, (Some v, inl refl, refl)),
    )

pub pending_write_linearizable : IsLinearizable register (key_marks 7 read_of_pending_write)
pending_write_linearizable =
    let order : List Taken = record { id = 0; op = write 7 (pos 1); found = Done } ∷ record { id = 1; op = read 7 Nil; found = Reg (Some (pos 1)) } ∷ [] in (
      order,
      Some (pos 1),
      legal_by register (key_marks 7 read_of_pending_write) order (Some (pos 1)) refl refl refl
          ((0, omega arith, refl), ((1, omega arith, refl), tt))
          ((tt, (refl, tt)), tt)
          (Some (pos 1), inl refl, (Some (pos 1), inl refl, refl)),
    )

-- the crashed write takes place between the two reads
pub crashed_write_linearizable : IsLinearizable register (key_marks 7 (reads_after_crashed_write (pos 1) (pos 2)))
crashed_write_linearizable =
    let order : List Taken =
    record { id = 0; op = write 7 (pos 1); found = Done }
    ∷ record { id = 4; op = read 7 Nil; found = Reg (Some (pos 1)) }
    ∷ record { id = 2; op = write 7 (pos 2); found = Done }
    ∷ record { id = 6; op = read 7 Nil; found = Reg (Some (pos 2)) }
    ∷ [] in (
      order,
      Some (pos 2),
      legal_by register (key_marks 7 (reads_after_crashed_write (pos 1) (pos 2))) order (Some (pos 2)) refl refl refl
          ((0, omega arith, refl), ((4, omega arith, refl), ((2, omega arith, refl), ((6, omega arith, refl), tt))))
          ((tt, (tt, (tt, (tt, tt)))), ((tt, (refl, (tt, (tt, tt)))), ((tt, (tt, (tt, (refl, tt)))), tt)))
          (Some (pos 1), inl refl, (Some (pos 1), inl refl, (Some (pos 2), inl refl, (Some (pos 2), inl refl, refl)))),
    )

-- who is invoked in the write and the read
write_or_read : (v a : ℤ) (x : Taken) → Contains (key_marks 7 (write_then_read v a)) (Invoked x.id x.op) → ((x.id ≡ 0) × (x.op ≡ write 7 v)) ⊎ ((x.id ≡ 2) × (x.op ≡ read 7 Nil))
write_or_read v a x h =
    ⊎_elim (λ e. inl ((let t : x.id ≡ 0 = cc in t), (let t : x.op ≡ write 7 v = cc in t))) (λ h. ⊎_elim (λ e. cc)
    (λ h. ⊎_elim (λ e. inr ((let t : x.id ≡ 2 = cc in t), (let t : x.op ≡ read 7 Nil = cc in t))) (λ h. ⊎_elim (λ e. cc) (λ n. absurd (Contains-nil _ n))
    (Contains-cons_cases (Returned 2 (Number a)) [] _ h))
    (Contains-cons_cases (Invoked 2 (read 7 Nil)) (Returned 2 (Number a) ∷ []) _ h))
    (Contains-cons_cases (Returned 0 (Number v)) (Invoked 2 (read 7 Nil) ∷ Returned 2 (Number a) ∷ []) _ h))
    (Contains-cons_cases (Invoked 0 (write 7 v)) (Returned 0 (Number v) ∷ Invoked 2 (read 7 Nil) ∷ Returned 2 (Number a) ∷ []) _ h)

write_precedes_read : (v a : ℤ) → Precedes (key_marks 7 (write_then_read v a)) 0 2
write_precedes_read v a = record {
  before = Invoked 0 (write 7 v) ∷ Returned 0 (Number v) ∷ [];
  after = Invoked 2 (read 7 Nil) ∷ Returned 2 (Number a) ∷ [];
  cut = refl;
  returned = (Number v, (1, omega arith, refl));
  invoked = (read 7 Nil, (0, omega arith, refl));
}

-- a legal order begins with the write and the read
answer_is_it : (v a : ℤ) (order : List Taken) (s : Option ℤ) → IsLegalOrder register (key_marks 7 (write_then_read v a)) order s → v ≡ a
answer_is_it v a [] s l = absurd (Contains-nil _ (l.all_done 0 (Number v, (1, omega arith, refl))).1)
answer_is_it v a (x ∷ order) s l =
    let write_in : Includes (x ∷ order) 0 = l.all_done 0 (Number v, (1, omega arith, refl)) in
    let read_in : Includes (x ∷ order) 2 = l.all_done 2 (Number a, (3, omega arith, refl)) in
    ⊎_elim
    (λ is_write. second order is_write l (later x order 2 (λ e. (let t : ◌≡◌ {A = ℕ} 0 2 = sym is_write.0 ∙ e in omega arith)) read_in))
    (λ is_read. (let t : ◌≡◌ {A = ℕ} 2 0 = sym is_read.0 ∙ not_first (key_marks 7 (write_then_read v a)) x order s 0 l write_in (subst (λ i. Precedes (key_marks 7 (write_then_read v a)) 0 i) (sym is_read.0) (write_precedes_read v a)) in absurd (omega arith)))
    (write_or_read v a x (l.invoked x (Contains-head x order)))
  where
    second : (order : List Taken) → (x.id ≡ 0) × (x.op ≡ write 7 v) → IsLegalOrder register (key_marks 7 (write_then_read v a)) (x ∷ order) s → Includes order 2 → v ≡ a
    second [] is_write l h = absurd (Contains-nil _ h.1)
    second (y ∷ order) is_write l h =
        ⊎_elim
        (λ again. absurd (l.once.0 y (Contains-head y order) (is_write.0 ∙ sym again.0)))
        (λ is_read.
        let r : (mid : Option ℤ) × register.Steps None x.op x.found mid × Run register mid (y ∷ order) s = l.run in
        let wrote : r.0 ≡ Some v = write_step v None r.0 x.found (subst (λ op. register.Steps None op x.found r.0) is_write.1 r.1) in
        let fits : Fits y.found (Number a) = l.fits y (Number a) (Contains-tail x (y ∷ order) y (Contains-head y order)) (subst (λ i. Contains (key_marks 7 (write_then_read v a)) (Returned i (Number a))) (sym is_read.0) (3, omega arith, refl)) in
        let q : ◌≡◌ {A = Option ℤ} (Some v) (Some a) = sym wrote ∙ read_fits r.0 r.2.0 y a is_read.1 r.2.1 fits in cc)
        (write_or_read v a y (l.invoked y (Contains-tail x (y ∷ order) y (Contains-head y order))))

pub other_value_not_linearizable : (v a : ℤ) → v ≢ a → ¬ IsLinearizable register (key_marks 7 (write_then_read v a))
other_value_not_linearizable v a ne h = ne (answer_is_it v a h.0 h.1 h.2)

-- who is invoked in the read of a failed write
failed_or_read : (x : Taken) → Contains (key_marks 7 read_of_failed_write) (Invoked x.id x.op) → (x.id ≡ 0) ⊎ ((x.id ≡ 1) × (x.op ≡ read 7 Nil))
failed_or_read x h =
    ⊎_elim (λ e. inl (let t : x.id ≡ 0 = cc in t))
    (λ h. ⊎_elim (λ e. inr ((let t : x.id ≡ 1 = cc in t), (let t : x.op ≡ read 7 Nil = cc in t)))
    (λ h. ⊎_elim (λ e. cc) (λ h. ⊎_elim (λ e. cc) (λ n. absurd (Contains-nil _ n))
    (Contains-cons_cases (Failed 0) [] _ h))
    (Contains-cons_cases (Returned 1 (Number (pos 1))) (Failed 0 ∷ []) _ h))
    (Contains-cons_cases (Invoked 1 (read 7 Nil)) (Returned 1 (Number (pos 1)) ∷ Failed 0 ∷ []) _ h))
    (Contains-cons_cases (Invoked 0 (write 7 (pos 1))) (Invoked 1 (read 7 Nil) ∷ Returned 1 (Number (pos 1)) ∷ Failed 0 ∷ []) _ h)

-- the read comes first, and finds nil
no_order_of_failed : (order : List Taken) (s : Option ℤ) → IsLegalOrder register (key_marks 7 read_of_failed_write) order s → ⊥
no_order_of_failed [] s l = Contains-nil _ (l.all_done 1 (Number (pos 1), (2, omega arith, refl))).1
no_order_of_failed (x ∷ order) s l =
    let r : (mid : Option ℤ) × register.Steps None x.op x.found mid × Run register mid order s = l.run in
    ⊎_elim
    (λ is_write. l.none_failed x (Contains-head x order) (subst (λ i. Contains (key_marks 7 read_of_failed_write) (Failed i)) (sym is_write) (3, omega arith, refl)))
    (λ is_read.
    let fits : Fits x.found (Number (pos 1)) = l.fits x (Number (pos 1)) (Contains-head x order) (subst (λ i. Contains (key_marks 7 read_of_failed_write) (Returned i (Number (pos 1)))) (sym is_read.0) (2, omega arith, refl)) in
    let q : ◌≡◌ {A = Option ℤ} None (Some (pos 1)) = read_fits None r.0 x (pos 1) is_read.1 r.1 fits in cc)
    (failed_or_read x (l.invoked x (Contains-head x order)))

pub failed_write_not_linearizable : ¬ IsLinearizable register (key_marks 7 read_of_failed_write)
failed_write_not_linearizable h = no_order_of_failed h.0 h.1 h.2

-- two writes and two reads: a write of 1 that returns, a write of 2 that crashes, a read that answers 2, a read that answers 1
abbrev Crash : List Mark
Crash = key_marks 7 (reads_after_crashed_write (pos 2) (pos 1))

crash_cases : (x : Taken) → Contains Crash (Invoked x.id x.op)
    → (((x.id ≡ 0) × (x.op ≡ write 7 (pos 1))) ⊎ ((x.id ≡ 2) × (x.op ≡ write 7 (pos 2)))) ⊎ (((x.id ≡ 4) × (x.op ≡ read 7 Nil)) ⊎ ((x.id ≡ 6) × (x.op ≡ read 7 Nil)))
crash_cases x h =
    ⊎_elim (λ e. inl (inl ((let t : x.id ≡ 0 = cc in t), (let t : x.op ≡ write 7 (pos 1) = cc in t))))
    (λ h. ⊎_elim (λ e. cc)
    (λ h. ⊎_elim (λ e. inl (inr ((let t : x.id ≡ 2 = cc in t), (let t : x.op ≡ write 7 (pos 2) = cc in t))))
    (λ h. ⊎_elim (λ e. cc)
    (λ h. ⊎_elim (λ e. inr (inl ((let t : x.id ≡ 4 = cc in t), (let t : x.op ≡ read 7 Nil = cc in t))))
    (λ h. ⊎_elim (λ e. cc)
    (λ h. ⊎_elim (λ e. inr (inr ((let t : x.id ≡ 6 = cc in t), (let t : x.op ≡ read 7 Nil = cc in t))))
    (λ h. ⊎_elim (λ e. cc) (λ n. absurd (Contains-nil _ n))
    (Contains-cons_cases (Returned 6 (Number (pos 1))) [] _ h))
    (Contains-cons_cases (Invoked 6 (read 7 Nil)) (Returned 6 (Number (pos 1)) ∷ []) _ h))
    (Contains-cons_cases (Returned 4 (Number (pos 2))) (Invoked 6 (read 7 Nil) ∷ Returned 6 (Number (pos 1)) ∷ []) _ h))
    (Contains-cons_cases (Invoked 4 (read 7 Nil)) (Returned 4 (Number (pos 2)) ∷ Invoked 6 (read 7 Nil) ∷ Returned 6 (Number (pos 1)) ∷ []) _ h))
    (Contains-cons_cases (Crashed 2) (Invoked 4 (read 7 Nil) ∷ Returned 4 (Number (pos 2)) ∷ Invoked 6 (read 7 Nil) ∷ Returned 6 (Number (pos 1)) ∷ []) _ h))
    (Contains-cons_cases (Invoked 2 (write 7 (pos 2))) (Crashed 2 ∷ Invoked 4 (read 7 Nil) ∷ Returned 4 (Number (pos 2)) ∷ Invoked 6 (read 7 Nil) ∷ Returned 6 (Number (pos 1)) ∷ []) _ h))
    (Contains-cons_cases (Returned 0 (Number (pos 1))) (Invoked 2 (write 7 (pos 2)) ∷ Crashed 2 ∷ Invoked 4 (read 7 Nil) ∷ Returned 4 (Number (pos 2)) ∷ Invoked 6 (read 7 Nil) ∷ Returned 6 (Number (pos 1)) ∷ []) _ h))
    (Contains-cons_cases (Invoked 0 (write 7 (pos 1))) (Returned 0 (Number (pos 1)) ∷ Invoked 2 (write 7 (pos 2)) ∷ Crashed 2 ∷ Invoked 4 (read 7 Nil) ∷ Returned 4 (Number (pos 2)) ∷ Invoked 6 (read 7 Nil) ∷ Returned 6 (Number (pos 1)) ∷ []) _ h)

done_first : Contains Crash (Returned 0 (Number (pos 1)))
done_first = (1, omega arith, refl)

done_two : Contains Crash (Returned 4 (Number (pos 2)))
done_two = (5, omega arith, refl)

done_one : Contains Crash (Returned 6 (Number (pos 1)))
done_one = (7, omega arith, refl)

-- the first write precedes all others, and one read the other
after_first : (id : ℕ) (op : Op) → Contains (Invoked 2 (write 7 (pos 2)) ∷ Crashed 2 ∷ Invoked 4 (read 7 Nil) ∷ Returned 4 (Number (pos 2)) ∷ Invoked 6 (read 7 Nil) ∷ Returned 6 (Number (pos 1)) ∷ []) (Invoked id op) → Precedes Crash 0 id
after_first id op h = record {
  before = Invoked 0 (write 7 (pos 1)) ∷ Returned 0 (Number (pos 1)) ∷ [];
  after = Invoked 2 (write 7 (pos 2)) ∷ Crashed 2 ∷ Invoked 4 (read 7 Nil) ∷ Returned 4 (Number (pos 2)) ∷ Invoked 6 (read 7 Nil) ∷ Returned 6 (Number (pos 1)) ∷ [];
  cut = refl;
  returned = (Number (pos 1), (1, omega arith, refl));
  invoked = (op, h);
}

read_after_read : Precedes Crash 4 6
read_after_read = record {
  before = Invoked 0 (write 7 (pos 1)) ∷ Returned 0 (Number (pos 1)) ∷ Invoked 2 (write 7 (pos 2)) ∷ Crashed 2 ∷ Invoked 4 (read 7 Nil) ∷ Returned 4 (Number (pos 2)) ∷ [];
  after = Invoked 6 (read 7 Nil) ∷ Returned 6 (Number (pos 1)) ∷ [];
  cut = refl;
  returned = (Number (pos 2), (5, omega arith, refl));
  invoked = (read 7 Nil, (0, omega arith, refl));
}

-- a read that answers a finds that value
answers : (order : List Taken) (end s t : Option ℤ) (x : Taken) (id : ℕ) (a : ℤ) → IsLegalOrder register Crash order end → Contains order x → x.id ≡ id → x.op ≡ read 7 Nil → Contains Crash (Returned id (Number a))
    → register.Steps s x.op x.found t → s ≡ Some a
answers order end s t x id a l h is op d step = read_fits s t x a op step (l.fits x (Number a) h (subst (λ i. Contains Crash (Returned i (Number a))) (sym is) d))

apart : (v w : ℕ) → v ≢ w → ◌≡◌ {A = Option ℤ} (Some (pos v)) (Some (pos w)) → ⊥
apart v w ne e = ne (let q : v ≡ w = cc in q)

-- after both writes the reads find 2, so that none answers 1
no_third : (x y : Taken) (order : List Taken) (s end : Option ℤ) → x.id ≡ 0 → y.id ≡ 2 → IsLegalOrder register Crash (x ∷ y ∷ order) end → s ≡ Some (pos 2) → Run register s order end → ⊥
no_third x y [] s end zero two l st run =
    Contains-nil _ (later y [] 4 (λ e. (let t : ◌≡◌ {A = ℕ} 2 4 = sym two ∙ e in omega arith)) (later x (y ∷ []) 4 (λ e. (let t : ◌≡◌ {A = ℕ} 0 4 = sym zero ∙ e in omega arith)) (l.all_done 4 (Number (pos 2), done_two)))).1
no_third x y (z ∷ order) s end zero two l st run =
    let z_in : Contains (x ∷ y ∷ z ∷ order) z = Contains-tail x (y ∷ z ∷ order) z (Contains-tail y (z ∷ order) z (Contains-head z order)) in
    ⊎_elim
    (⊎_elim (λ w. l.once.0 z (Contains-tail y (z ∷ order) z (Contains-head z order)) (zero ∙ sym w.0)) (λ w. l.once.1.0 z (Contains-head z order) (two ∙ sym w.0)))
    (⊎_elim
    (λ four. fourth order four.0 four.1 l run)
    (λ six. apart 2 1 (λ e. omega arith) (sym st ∙ answers (x ∷ y ∷ z ∷ order) end s run.0 z 6 (pos 1) l z_in six.0 six.1 done_one run.1)))
    (crash_cases z (l.invoked z z_in))
  where
    fourth : (order : List Taken) → z.id ≡ 4 → z.op ≡ read 7 Nil → IsLegalOrder register Crash (x ∷ y ∷ z ∷ order) end → Run register s (z ∷ order) end → ⊥
    fourth [] four op l run =
        Contains-nil _ (later z [] 6 (λ e. (let t : ◌≡◌ {A = ℕ} 4 6 = sym four ∙ e in omega arith)) (later y (z ∷ []) 6 (λ e. (let t : ◌≡◌ {A = ℕ} 2 6 = sym two ∙ e in omega arith))
        (later x (y ∷ z ∷ []) 6 (λ e. (let t : ◌≡◌ {A = ℕ} 0 6 = sym zero ∙ e in omega arith)) (l.all_done 6 (Number (pos 1), done_one))))).1
    fourth (w ∷ order) four op l run =
        let w_in : Contains (x ∷ y ∷ z ∷ w ∷ order) w = Contains-tail x (y ∷ z ∷ w ∷ order) w (Contains-tail y (z ∷ w ∷ order) w (Contains-tail z (w ∷ order) w (Contains-head w order))) in
        let kept : run.0 ≡ s = (read_step s run.0 z.found (subst (λ o. register.Steps s o z.found run.0) op run.1)).1 in
        ⊎_elim
        (⊎_elim
        (λ v. l.once.0 w (Contains-tail y (z ∷ w ∷ order) w (Contains-tail z (w ∷ order) w (Contains-head w order))) (zero ∙ sym v.0))
        (λ v. l.once.1.0 w (Contains-tail z (w ∷ order) w (Contains-head w order)) (two ∙ sym v.0)))
        (⊎_elim
        (λ v. l.once.1.1.0 w (Contains-head w order) (four ∙ sym v.0))
        (λ six. apart 2 1 (λ e. omega arith) (sym (kept ∙ st) ∙ answers (x ∷ y ∷ z ∷ w ∷ order) end run.0 run.2.0 w 6 (pos 1) l w_in six.0 six.1 done_one run.2.1)))
        (crash_cases w (l.invoked w w_in))

-- after the first write: a read would find 1, so that the crashed write comes next
no_second : (x : Taken) (order : List Taken) (s end : Option ℤ) → x.id ≡ 0 → IsLegalOrder register Crash (x ∷ order) end → s ≡ Some (pos 1) → Run register s order end → ⊥
no_second x [] s end zero l st run = Contains-nil _ (later x [] 4 (λ e. (let t : ◌≡◌ {A = ℕ} 0 4 = sym zero ∙ e in omega arith)) (l.all_done 4 (Number (pos 2), done_two))).1
no_second x (y ∷ order) s end zero l st run =
    let y_in : Contains (x ∷ y ∷ order) y = Contains-tail x (y ∷ order) y (Contains-head y order) in
    ⊎_elim
    (⊎_elim
    (λ w. l.once.0 y (Contains-head y order) (zero ∙ sym w.0))
    (λ two. no_third x y order run.0 end zero two.0 l (write_step (pos 2) s run.0 y.found (subst (λ o. register.Steps s o y.found run.0) two.1 run.1)) run.2))
    (⊎_elim
    (λ four. apart 1 2 (λ e. omega arith) (sym st ∙ answers (x ∷ y ∷ order) end s run.0 y 4 (pos 2) l y_in four.0 four.1 done_two run.1))
    (λ six.
    let i : Includes (x ∷ y ∷ order) 4 = l.all_done 4 (Number (pos 2), done_two) in
    let j : Includes (y ∷ order) 4 = later x (y ∷ order) 4 (λ e. (let t : ◌≡◌ {A = ℕ} 0 4 = sym zero ∙ e in omega arith)) i in
    let k : Includes order 4 = later y order 4 (λ e. (let t : ◌≡◌ {A = ℕ} 6 4 = sym six.0 ∙ e in omega arith)) j in
    l.in_time.1.0 k.0 k.1 (subst (λ n. Precedes Crash n y.id) (sym k.2) (subst (λ n. Precedes Crash 4 n) (sym six.0) read_after_read))))
    (crash_cases y (l.invoked y y_in))

-- the first write comes first
no_order_after_crash : (order : List Taken) (end : Option ℤ) → IsLegalOrder register Crash order end → ⊥
no_order_after_crash [] end l = Contains-nil _ (l.all_done 0 (Number (pos 1), done_first)).1
no_order_after_crash (x ∷ order) end l =
    let r : (mid : Option ℤ) × register.Steps None x.op x.found mid × Run register mid order end = l.run in
    let i : Includes (x ∷ order) 0 = l.all_done 0 (Number (pos 1), done_first) in
    let first : (id : ℕ) → x.id ≡ id → Precedes Crash 0 id → id ≡ 0 = λ id e p. sym e ∙ not_first Crash x order end 0 l i (subst (λ n. Precedes Crash 0 n) (sym e) p) in
    ⊎_elim
    (⊎_elim
    (λ zero. no_second x order r.0 end zero.0 l (write_step (pos 1) None r.0 x.found (subst (λ o. register.Steps None o x.found r.0) zero.1 r.1)) r.2)
    (λ two. (let t : ◌≡◌ {A = ℕ} 2 0 = first 2 two.0 (after_first 2 (write 7 (pos 2)) (0, omega arith, refl)) in omega arith)))
    (⊎_elim
    (λ four. (let t : ◌≡◌ {A = ℕ} 4 0 = first 4 four.0 (after_first 4 (read 7 Nil) (2, omega arith, refl)) in omega arith))
    (λ six. (let t : ◌≡◌ {A = ℕ} 6 0 = first 6 six.0 (after_first 6 (read 7 Nil) (4, omega arith, refl)) in omega arith)))
    (crash_cases x (l.invoked x (Contains-head x order)))

-- once it was read, the crashed write has taken place
pub crashed_write_stays : ¬ IsLinearizable register Crash
crashed_write_stays h = no_order_after_crash h.0 h.1 h.2
