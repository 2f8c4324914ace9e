-- with a queue over budget, a read of a value that nobody has written
use Rattle.std.proofs.Common.{◌≡◌, ◌≢◌, ◌↔◌, ℕ, ◌+◌, ◌≤◌, ℤ, pos, ◌⊎◌, inl, inr, ⊎_elim, IsTrue, nat_eq, Option, Some, None, List, [], ◌∷◌, length, refl, sym, ap, ◌∙◌, subst, arith}
use Rattle.std.specs.List.{Contains}
use Rattle.std.proofs.lemmas.Bool.{cases_eq, eq-eqb, eqb-true, ne_eqb}
use Rattle.models.specs.declared.finding.Found.{Found}
use Rattle.models.specs.declared.finding.Found.TheVariants.{Reg}
use Rattle.models.specs.declared.finding.Answer.TheVariants.{Number}
use Rattle.models.specs.declared.operation.Part.TheVariants.{Nil}
use Rattle.models.specs.Objects.{register, Fits}
use Rattle.models.proofs.Steps.{same_outcome}
use Rattle.kinds.specs.Kinds.{object_of}
use Rattle.events.specs.Events.{Mark, Entry, of_key, marks, IsPrefixOf}
use Rattle.events.specs.Events.Mark.{Invoked, Returned}
use Rattle.linspec.specs.Operations.{HasReturned}
use Rattle.linspec.specs.Orders.{Taken, Run, IsLegalOrder, product}
use Rattle.linspec.specs.Ends.{End, Leaves, HasMoreThan, IsBlownBy, IsWithinBudget}
use Rattle.linspec.specs.Counts.{CountsMoreThan}
use Rattle.linspec.specs.Verdicts.{EndsShortestBadPrefix, IsVerdict}
use Rattle.linspec.specs.declared.verdict.Verdict.TheVariants.{Illegal, Unknown}
use Rattle.linspec.specs.Examples.{read, all_entries, bad_read_beside_blown, queue_at_one}
use Rattle.linspec.proofs.Lists.{Contains-nil, Contains-head, Contains-cons_cases}
use Rattle.linspec.proofs.Filters.{filter-none}
use Rattle.linspec.proofs.Fates.{end_of, end_is}
use Rattle.linspec.proofs.Counts.{no_longer_than}
use Rattle.linspec.proofs.LegalOrders.{legal_by}
use Rattle.linspec.proofs.Linearizable.{IsLinearizable-undone}
use Rattle.linspec.proofs.LastOk.{IsOk, not_ok, none_blown, within_at_last}
use Rattle.linspec.proofs.OneAnswer.{one_verdict}
use Rattle.linspec.proofs.Places.{rising_places}
use Rattle.linspec.proofs.BlownQueue.{first, second, ok, blown_at_four}

abbrev asks : Entry
asks = record { index = 3; key = 2; mark = Invoked 3 (read 2 Nil) }

abbrev answers : Entry
answers = record { index = 4; key = 2; mark = Returned 3 (Number (pos 3)) }

-- before it has answered, the read has two ends: without it and with it
abbrev Asked : List Mark
Asked = marks (asks ∷ [])

abbrev taken : Taken
taken = record { id = 3; op = read 2 Nil; found = Reg None }

the_read : (x : Taken) → Contains Asked (Invoked x.id x.op) → (x.id ≡ 3) × (x.op ≡ read 2 Nil)
the_read x h =
    ⊎_elim
    (λ (e : Invoked 3 (read 2 Nil) ≡ Invoked x.id x.op). ((let t : x.id ≡ 3 = cc in t), (let t : x.op ≡ read 2 Nil = cc in t)))
    (λ n. absurd (Contains-nil _ n))
    (Contains-cons_cases (Invoked 3 (read 2 Nil)) [] _ h)

finds_nil : (t : Option ℤ) (found : Found) → register.Steps None (read 2 Nil) found t → (found ≡ Reg None) × (t ≡ None)
finds_nil t found h = let p = same_outcome (None, Reg None) (t, found) h in (sym p.1, sym p.0)

without : IsLegalOrder register Asked [] None
without = legal_by register Asked [] None refl refl refl tt tt refl

with_it : IsLegalOrder register Asked (taken ∷ []) None
with_it = legal_by register Asked (taken ∷ []) None refl refl refl ((0, omega arith, refl), tt) tt (None, inl refl, refl)

abbrev left_by : (order : List Taken) → IsLegalOrder register Asked order None → End (Option ℤ)
left_by order l = (end_of register Asked order None l).0

ends : List (End (Option ℤ))
ends = left_by [] without ∷ left_by (taken ∷ []) with_it ∷ []

same_end : (order : List Taken) (l : IsLegalOrder register Asked order None) (e : End (Option ℤ)) (other : List Taken) → other ≡ order → e.state ≡ None → Leaves register Asked other e → left_by order l ≡ e
same_end order l e other is st v =
    end_is register Asked order (left_by order l) e ((end_of register Asked order None l).2 ∙ sym st) (end_of register Asked order None l).1 (subst (λ o. Leaves register Asked o e) is v)

among : (order : List Taken) (e : End (Option ℤ)) → Leaves register Asked order e → Contains ends e
unfolding ends
among [] e v = subst (Contains ends) (same_end [] without e [] refl (sym v.legal.run) v) (0, omega arith, refl)
among (x ∷ []) e v =
    let run : (mid : Option ℤ) × register.Steps None x.op x.found mid × (mid ≡ e.state) = v.legal.run in
    let w = the_read x (v.legal.invoked x (Contains-head x [])) in
    let found = finds_nil run.0 x.found (subst (λ op. register.Steps None op x.found run.0) w.1 run.1) in
    let is : x ≡ taken = (λ i. record { id = w.0 i; op = w.1 i; found = found.0 i }) in
    subst (Contains ends) (same_end (taken ∷ []) with_it e (x ∷ []) (ap (λ w. w ∷ []) is) (sym run.2 ∙ found.1) v) (1, omega arith, refl)
among (x ∷ y ∷ order) e v =
    let a = the_read x (v.legal.invoked x (Contains-head x (y ∷ order))) in
    let b = the_read y (v.legal.invoked y (later y)) in
    absurd (v.legal.once.0 y (Contains-head y order) (a.0 ∙ sym b.0))
  where
    later : (y : Taken) → Contains (x ∷ y ∷ order) y
    later y = (1, omega arith, refl)

few : ¬ HasMoreThan register Asked 4
unfolding ends
few h =
    let l : length h.ends ≤ length ends = no_longer_than h.ends ends h.distinct (λ e k. (let i = h.each e k in among i.0 e i.1)) in
    let m : length h.ends ≡ 4 + 1 = h.many in
    omega arith

no_other_ok : (x : Entry) → Contains (asks ∷ []) x → ¬ IsOk x
no_other_ok x h = ⊎_elim (not_ok asks x 3 (read 2 Nil) refl) (λ n. absurd (Contains-nil x n)) (Contains-cons_cases asks [] x h)

within : IsWithinBudget register 4 (asks ∷ answers ∷ [])
within = within_at_last (asks ∷ []) answers no_other_ok (HasMoreThan register) 4 few

-- the marks of all keys
abbrev entries : List Entry
entries = first ∷ second ∷ ok ∷ asks ∷ answers ∷ []

of_two_keys : (x : Entry) → Contains entries x → (x.key ≡ 1) ⊎ (x.key ≡ 2)
of_two_keys x h =
    ⊎_elim (λ e. inl (ap (λ (w : Entry). w.key) (sym e))) (λ h. ⊎_elim (λ e. inl (ap (λ (w : Entry). w.key) (sym e))) (λ h. ⊎_elim (λ e. inl (ap (λ (w : Entry). w.key) (sym e)))
    (λ h. ⊎_elim (λ e. inr (ap (λ (w : Entry). w.key) (sym e))) (λ h. ⊎_elim (λ e. inr (ap (λ (w : Entry). w.key) (sym e))) (λ n. absurd (Contains-nil x n))
    (Contains-cons_cases answers [] x h)) (Contains-cons_cases asks (answers ∷ []) x h)) (Contains-cons_cases ok (asks ∷ answers ∷ []) x h))
    (Contains-cons_cases second (ok ∷ asks ∷ answers ∷ []) x h)) (Contains-cons_cases first (second ∷ ok ∷ asks ∷ answers ∷ []) x h)

none_of : (k : ℕ) → k ≢ 1 → k ≢ 2 → of_key k entries ≡ []
none_of k not_one not_two =
    filter-none (λ (e : Entry). nat_eq e.key k) entries (λ x h. ne_eqb x.key k (λ e.
    ⊎_elim (λ one. (let q : k ≡ 1 = cc in not_one q)) (λ two. (let q : k ≡ 2 = cc in not_two q)) (of_two_keys x h)))

not_blown : (k : ℕ) → k ≢ 1 → ¬ IsBlownBy (CountsMoreThan (queue_at_one k)) 4 (of_key k entries)
not_blown k not_one b =
    ⊎_elim
    (λ two. (let c : IsBlownBy (HasMoreThan register) 4 (asks ∷ answers ∷ []) = subst (λ (n : ℕ). IsBlownBy (CountsMoreThan (queue_at_one n)) 4 (of_key n entries)) two b in within c.0 c.1))
    (λ not_two. none_blown (CountsMoreThan (queue_at_one k)) 4 (of_key k entries) (none_of k not_one not_two) b.0 b.1)
    (cases_eq k 2)

blown_is : (k : ℕ) → IsTrue (nat_eq k 1) ↔ IsBlownBy (CountsMoreThan (queue_at_one k)) 4 (of_key k entries)
blown_is k =
    ⊎_elim
    (λ e. ((λ t. subst (λ (n : ℕ). IsBlownBy (CountsMoreThan (queue_at_one n)) 4 (of_key n entries)) (sym e) (2, blown_at_four.blown)), (λ b. eq-eqb k 1 e)))
    (λ ne. ((λ t. absurd (ne (eqb-true k 1 t))), (λ b. absurd (not_blown k ne b))))
    (cases_eq k 1)

-- the read finds nil, and answers 3
abbrev Answered : List Mark
Answered = marks (asks ∷ answers ∷ [])

no_order : (order : List Taken) (s : (k : ℕ) → (object_of (queue_at_one k)).State) → IsLegalOrder (product queue_at_one) Answered order s → ⊥
no_order [] s l = Contains-nil _ (l.all_done 3 (Number (pos 3), (1, omega arith, refl))).1
no_order (x ∷ order) s l =
    let is : (x.id ≡ 3) × (x.op ≡ read 2 Nil) = invoked x (l.invoked x (Contains-head x order)) in
    let run : (mid : (k : ℕ) → (object_of (queue_at_one k)).State) × (product queue_at_one).Steps (product queue_at_one).start x.op x.found mid × Run (product queue_at_one) mid order s = l.run in
    let step : (product queue_at_one).Steps (product queue_at_one).start (read 2 Nil) x.found run.0 = subst (λ op. (product queue_at_one).Steps (product queue_at_one).start op x.found run.0) is.1 run.1 in
    let found : x.found ≡ Reg None = (finds_nil (run.0 2) x.found step.0).0 in
    let fits : Fits x.found (Number (pos 3)) = l.fits x (Number (pos 3)) (Contains-head x order) (subst (λ i. Contains Answered (Returned i (Number (pos 3)))) (sym is.0) (1, omega arith, refl)) in
    let q : ◌≡◌ {A = Option ℤ} None (Some (pos 3)) = subst (λ f. Fits f (Number (pos 3))) found fits in
    cc
  where
    invoked : (x : Taken) → Contains Answered (Invoked x.id x.op) → (x.id ≡ 3) × (x.op ≡ read 2 Nil)
    invoked x h =
        ⊎_elim
        (λ (e : Invoked 3 (read 2 Nil) ≡ Invoked x.id x.op). ((let t : x.id ≡ 3 = cc in t), (let t : x.op ≡ read 2 Nil = cc in t)))
        (λ h. ⊎_elim (λ (e : Returned 3 (Number (pos 3)) ≡ Invoked x.id x.op). cc) (λ n. absurd (Contains-nil _ n)) (Contains-cons_cases (Returned 3 (Number (pos 3))) [] _ h))
        (Contains-cons_cases (Invoked 3 (read 2 Nil)) (Returned 3 (Number (pos 3)) ∷ []) _ h)

-- a shorter front has no answer
none_returned : (front : List Entry) → IsPrefixOf front (asks ∷ answers ∷ []) → length front ≤ 1 → (id : ℕ) → ¬ HasReturned (marks front) id
none_returned [] is le id r = Contains-nil _ r.1
none_returned (x ∷ []) is le id r =
    let e : x ≡ asks = (let q : x ∷ is.0 ≡ asks ∷ answers ∷ [] = is.1 in cc) in
    ⊎_elim (λ q. (let clash : Invoked 3 (read 2 Nil) ≡ Returned id r.0 = ap (λ (w : Entry). w.mark) (sym e) ∙ q in cc)) (λ n. Contains-nil _ n) (Contains-cons_cases x.mark [] (Returned id r.0) r.1)
none_returned (x ∷ y ∷ front) is le id r = absurd (omega arith)

bad_front : EndsShortestBadPrefix (product queue_at_one) (asks ∷ answers ∷ []) answers
bad_front = record {
  before = asks ∷ [];
  front = ([], refl);
  bad = λ h. no_order h.0 h.1 h.2;
  shorter = λ front is le. IsLinearizable-undone (product queue_at_one) (marks front) (none_returned front is le);
}

pub verdict_illegal : IsVerdict queue_at_one (λ key. 4) (all_entries bad_read_beside_blown) (Illegal 2 4)
verdict_illegal = ((λ k. nat_eq k 1), blown_is, (answers, bad_front, refl, refl))

pub not_unknown : (key index : ℕ) → ¬ IsVerdict queue_at_one (λ key. 4) (all_entries bad_read_beside_blown) (Unknown key index)
not_unknown key index unknown =
    let same : Illegal 2 4 ≡ Unknown key index = one_verdict queue_at_one (λ key. 4) (all_entries bad_read_beside_blown) (rising_places bad_read_beside_blown) (Illegal 2 4) (Unknown key index) verdict_illegal unknown in
    cc
