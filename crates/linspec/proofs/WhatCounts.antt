-- a crashed read: two ends where it counts, and one where it doesn't
use Rattle.std.proofs.Common.{◌≡◌, ◌≢◌, ℕ, ◌+◌, ◌≤◌, ℤ, inl, ⊎_elim, IsTrue, Option, None, List, [], ◌∷◌, length, refl, sym, ap, ◌∙◌, subst, arith}
use Rattle.std.specs.List.{Contains}
use Rattle.std.specs.FinSet as set
use Rattle.std.proofs.lemmas.Bool.{true≢false}
use Rattle.models.specs.declared.operation.Op.{Op}
use Rattle.models.specs.declared.operation.Part.TheVariants.{Nil}
use Rattle.models.specs.declared.finding.Found.TheVariants.{Reg}
use Rattle.models.specs.Objects.{register}
use Rattle.models.proofs.Steps.{same_outcome}
use Rattle.events.specs.Events.{Mark}
use Rattle.events.specs.Events.Mark.{Invoked, Crashed}
use Rattle.linspec.specs.Operations.{IsOpen}
use Rattle.linspec.specs.Orders.{Taken, Run, IsLegalOrder}
use Rattle.linspec.specs.Ends.{End, HasCrashedBy, LeavesBy, every, is_no_read, Leaves, IsEnd, HasMoreThan, IsEndWithReads, HasMoreThanWithReads}
use Rattle.linspec.specs.Examples.{read, key_marks, crashed_read}
use Rattle.linspec.proofs.Lists.{Contains-nil, Contains-head, Contains-tail, Contains-cons_cases}
use Rattle.linspec.proofs.Parts.{Records-unique, Marks-unique}
use Rattle.linspec.proofs.Fates.{end_of, end_of_by, end_is, crashed_part}
use Rattle.linspec.proofs.Counts.{no_longer_than}
use Rattle.linspec.proofs.LegalOrders.{legal_by}

abbrev H : List Mark
H = key_marks 7 crashed_read

abbrev taken : Taken
taken = record { id = 0; op = read 7 Nil; found = Reg None }

without : IsLegalOrder register H [] None
without = legal_by register H [] None refl refl refl tt tt refl

with_it : IsLegalOrder register H (taken ∷ []) None
with_it = legal_by register H (taken ∷ []) None refl refl refl ((0, omega arith, refl), tt) tt (None, inl refl, refl)

abbrev E0 : End (Option ℤ)
E0 = (end_of_by every register H [] None without).0

abbrev E1 : End (Option ℤ)
E1 = (end_of_by every register H (taken ∷ []) None with_it).0

differ : E0 ≢ E1
differ e =
    let in_one : IsTrue (set.contains E1.crashed 0) = (crashed_part register H (taken ∷ []) E1 (end_of_by every register H (taken ∷ []) None with_it).1 0).1 ((taken, Contains-head taken [], refl), (1, omega arith, refl)) in
    let in_none : IsTrue (set.contains E0.crashed 0) = subst (λ (f : End (Option ℤ)). IsTrue (set.contains f.crashed 0)) (sym e) in_one in
    Contains-nil _ ((crashed_part register H [] E0 (end_of_by every register H [] None without).1 0).0 in_none).0.1

pub two_ends : HasMoreThanWithReads register H 1
two_ends = record {
  ends = E0 ∷ E1 ∷ [];
  many = refl;
  distinct = ((λ y h. ⊎_elim (λ e. subst (λ z. E0 ≢ z) e differ) (λ n. absurd (Contains-nil y n)) (Contains-cons_cases E1 [] y h)), ((λ y h. absurd (Contains-nil y h)), tt));
  each = λ e h. ⊎_elim
      (λ q. subst (IsEndWithReads register H) q ([], (end_of_by every register H [] None without).1))
      (λ h. ⊎_elim (λ q. subst (IsEndWithReads register H) q (taken ∷ [], (end_of_by every register H (taken ∷ []) None with_it).1)) (λ n. absurd (Contains-nil e n)) (Contains-cons_cases E1 [] e h))
      (Contains-cons_cases E0 (E1 ∷ []) e h);
}

the_read : (id : ℕ) (op : Op) → Contains H (Invoked id op) → (id ≡ 0) × (op ≡ read 7 Nil)
the_read id op h =
    ⊎_elim
    (λ (e : Invoked 0 (read 7 Nil) ≡ Invoked id op). ((let t : id ≡ 0 = cc in t), (let t : op ≡ read 7 Nil = cc in t)))
    (λ h. ⊎_elim (λ (e : Crashed 0 ≡ Invoked id op). cc) (λ n. absurd (Contains-nil _ n)) (Contains-cons_cases (Crashed 0) [] _ h))
    (Contains-cons_cases (Invoked 0 (read 7 Nil)) (Crashed 0 ∷ []) _ h)

same_end : (order : List Taken) (l : IsLegalOrder register H order None) (e : End (Option ℤ)) (other : List Taken) → other ≡ order → e.state ≡ None → LeavesBy every register H other e → (end_of_by every register H order None l).0 ≡ e
same_end order l e other is st v =
    let own = end_of_by every register H order None l in
    end_is register H order own.0 e (own.2 ∙ sym st) own.1 (subst (λ o. LeavesBy every register H o e) is v)

among : (order : List Taken) (e : End (Option ℤ)) → LeavesBy every register H order e → Contains (E0 ∷ E1 ∷ []) e
among [] e v = subst (Contains (E0 ∷ E1 ∷ [])) (same_end [] without e [] refl (sym v.legal.run) v) (0, omega arith, refl)
among (x ∷ []) e v =
    let run : (mid : Option ℤ) × register.Steps None x.op x.found mid × (mid ≡ e.state) = v.legal.run in
    let w = the_read x.id x.op (v.legal.invoked x (Contains-head x [])) in
    let found = same_outcome (None, Reg None) (run.0, x.found) (subst (λ op. register.Steps None op x.found run.0) w.1 run.1) in
    let is : x ≡ taken = (λ i. record { id = w.0 i; op = w.1 i; found = sym found.1 i }) in
    subst (Contains (E0 ∷ E1 ∷ [])) (same_end (taken ∷ []) with_it e (x ∷ []) (ap (λ w. w ∷ []) is) (sym run.2 ∙ sym found.0) v) (1, omega arith, refl)
among (x ∷ y ∷ order) e v =
    let a = the_read x.id x.op (v.legal.invoked x (Contains-head x (y ∷ order))) in
    let b = the_read y.id y.op (v.legal.invoked y (Contains-tail x (y ∷ order) y (Contains-head y order))) in
    absurd (v.legal.once.0 y (Contains-head y order) (a.0 ∙ sym b.0))

pub not_three : ¬ HasMoreThanWithReads register H 2
not_three h =
    let l : length h.ends ≤ length (E0 ∷ E1 ∷ []) = no_longer_than h.ends (E0 ∷ E1 ∷ []) h.distinct (λ e k. (let i = h.each e k in among i.0 e i.1)) in
    let m : length h.ends ≡ 2 + 1 = h.many in
    omega arith

abbrev E : End (Option ℤ)
E = (end_of register H [] None without).0

crashed_here : Contains H (Crashed 0)
crashed_here = (1, omega arith, refl)

not_open : (id : ℕ) → ¬ IsOpen H id
not_open id is_open = is_open.not_crashed (subst (λ i. Contains H (Crashed i)) (sym (the_read id is_open.invoked.0 is_open.invoked.1).0) crashed_here)

not_counted : (id : ℕ) → ¬ HasCrashedBy is_no_read H id
not_counted id h = true≢false (sym h.1.2 ∙ ap is_no_read (the_read id h.1.0 h.1.1).1)

state_stays : (order : List Taken) (s t : Option ℤ) → ((x : Taken) → Contains order x → Contains H (Invoked x.id x.op)) → Run register s order t → s ≡ t
state_stays [] s t invoked run = run
state_stays (x ∷ order) s t invoked run =
    let is : x.op ≡ read 7 Nil = (the_read x.id x.op (invoked x (Contains-head x order))).1 in
    let step : register.Steps s (read 7 Nil) x.found run.0 = subst (λ op. register.Steps s op x.found run.0) is run.1 in
    (same_outcome (s, Reg s) (run.0, x.found) step).0 ∙ state_stays order run.0 t (λ y h. invoked y (later y h)) run.2
  where
    later : (y : Taken) → Contains order y → Contains (x ∷ order) y
    later y h = Contains-tail x order y h

only : (order : List Taken) (e : End (Option ℤ)) → Leaves register H order e → E ≡ e
only order e v =
    let start : Leaves register H [] E = (end_of register H [] None without).1 in
    let s : E.state ≡ e.state = (end_of register H [] None without).2 ∙ state_stays order None e.state v.legal.invoked v.legal.run in
    let p : E.pending ≡ e.pending = Records-unique (IsOpen H) [] E.pending e.pending start.pending
    (λ id found. ((λ h. absurd (not_open id ((v.pending id found).0 h).1)), (λ h. absurd (not_open id h.1)))) in
    let c : E.crashed ≡ e.crashed = Marks-unique (HasCrashedBy is_no_read H) [] E.crashed e.crashed start.crashed
    (λ id. ((λ h. absurd (not_counted id ((v.crashed id).0 h).1)), (λ h. absurd (not_counted id h.1)))) in
    λ i. record { state = s i; pending = p i; crashed = c i }

pub one_end : HasMoreThan register H 0
one_end = record {
  ends = E ∷ [];
  many = refl;
  distinct = ((λ y h. absurd (Contains-nil y h)), tt);
  each = λ e h. ⊎_elim (λ q. subst (IsEnd register H) q ([], (end_of register H [] None without).1)) (λ n. absurd (Contains-nil e n)) (Contains-cons_cases E [] e h);
}

pub not_two : ¬ HasMoreThan register H 1
not_two h =
    let l : length h.ends ≤ length (E ∷ []) = no_longer_than h.ends (E ∷ []) h.distinct (λ e k. (let i = h.each e k in subst (Contains (E ∷ [])) (only i.0 e i.1) (Contains-head E []))) in
    let m : length h.ends ≡ 1 + 1 = h.many in
    omega arith
