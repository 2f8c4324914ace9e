-- calls that lead from ends to no others, after each event
use Rattle.std.proofs.Common.{◌≡◌, ◌≢◌, ℕ, zero, suc, ◌+◌, ◌-◌, ◌<◌, ◌≤◌, ◌⊎◌, inl, inr, ⊎_elim, Bool, true, false, not, Some, List, [], ◌∷◌, ◌++◌, length, take, drop, slice_get, refl, sym, ap, ◌∙◌, subst, arith}
use Rattle.std.specs.List.{Contains, filter}
use Rattle.std.proofs.lemmas.Bool.{cases_Bool, cases_eq, cases_lt, eq-eqb, ne_eqb, true≢false}
use Rattle.std.proofs.lemmas.List.{take-append-drop, take-append-le}
use Rattle.std.proofs.lemmas.List.Elements.{Contains-append_left, Contains-append_cases}
use Rattle.models.specs.declared.finding.Answer.{Answer}
use Rattle.models.specs.declared.finding.Found.{Found}
use Rattle.models.specs.Objects.{Object}
use Rattle.events.specs.Events.{IsPrefixOf}
use Rattle.linspec.specs.Ends.{End}
use Rattle.linspec.proofs.Filters.{filter-no, filter-yes, from_filter}
use Rattle.linspec.proofs.Lists.{Contains-cons_cases, Contains-head, Contains-nil, Contains-tail}
use Rattle.linspec.proofs.FinLaws.{get-remove_other}
use Rattle.moves.specs.declared.pending_op.PendingOp.{PendingOp}
use Rattle.moves.specs.declared.table.Table.{Table}
use Rattle.moves.specs.EndSteps.{Adds, Along, AreClosed, Fails, IsReached, Next, Settles, TakesLast, is_in, is_other, settled, with_call}
use Rattle.moves.specs.Tables.{HasEachOnce, IsThat, ShownWith, found_in_end}
use Rattle.moves.proofs.JustInTime.{commute}
use Rattle.moves.proofs.Reaching.{reached_itself, reached_next}
use Rattle.moves.proofs.Rows.{not_in_by, not_told, told_without, with_state}
use Rattle.interner.proofs.Lists.{get_front, has_place, one_of, some_at}
use Rattle.ends.proofs.Starting.{back, to}

module _ (o : Object) where
  pub closed_none : (ends : List (End o.State)) → AreClosed o [] ends
  closed_none ends e f h next = absurd (Contains-nil next.0 next.1)

  -- fewer calls
  pub closed_fewer : (calls fewer : List PendingOp) (ends : List (End o.State)) → ((c : PendingOp) → Contains fewer c → Contains calls c) → AreClosed o calls ends → AreClosed o fewer ends
  closed_fewer calls fewer ends among closed e f h next = closed e f h (next.0, among next.0 next.1, next.2)

  -- the same ends in another order
  pub closed_again : (calls : List PendingOp) (ends first : List (End o.State)) → Adds (Along IsThat ends) [] first → AreClosed o calls ends → AreClosed o calls first
  closed_again calls ends first adds closed e f h next = to o calls ends first adds f (closed e f (back o calls ends first adds e h) next)

  -- calls that were tried on old ends, and the others
  module _ (calls : List PendingOp) (start more : List (End o.State)) (tried first at : ℕ) (e : End o.State) (here : slice_get more at ≡ Some e) (front : IsPrefixOf start more) (closed : AreClosed o (take tried calls) start)
      (old : at < length start → first ≡ tried) (new : length start ≤ at → first ≡ 0) where
    was_there : at < length start → Contains start e
    was_there lt =
        let x = some_at start at lt in
        subst (Contains start) (one_of x.0 e (sym (get_front start more at x.0 front x.1) ∙ here)) (has_place start at x.0 x.1)

    still_there : (f : End o.State) → Contains start f → Contains more f
    still_there f h = subst (λ l. Contains l f) front.1 (Contains-append_left start front.0 f h)

    untried : (f : End o.State) → Next o calls e f → Contains more f ⊎ Next o (drop first calls) e f
    untried f next =
        ⊎_elim
        (λ lt. ⊎_elim
        (λ k. inl (still_there f (closed e f (was_there lt) (next.0, k, next.2))))
        (λ k. inr (subst (λ n. Next o (drop n calls) e f) (sym (old lt)) (next.0, k, next.2)))
        (Contains-append_cases (take tried calls) (drop tried calls) next.0 (subst (λ l. Contains l next.0) (sym (take-append-drop tried calls)) next.1)))
        (λ le. inr (subst (λ n. Next o (drop n calls) e f) (sym (new le)) next))
        (cases_lt at (length start))

    some_call : (f : End o.State) → Next o (drop first calls) e f → Next o calls e f
    some_call f next = (next.0, later first calls next.0 next.1, next.2)
      where
        later : (n : ℕ) (cs : List PendingOp) (c : PendingOp) → Contains (drop n cs) c → Contains cs c
        later zero cs c h = h
        later (suc n) [] c h = h
        later (suc n) (x ∷ cs) c h = Contains-tail x cs c (later n cs c h)

    pub all_tried : (t : Table o.State) → ShownWith t calls more (Next o (drop first calls) e) → ShownWith t calls more (Next o calls e)
    all_tried t w = record {
      more = w.more;
      shown = w.shown;
      front = w.front;
      adds = record {
        each = λ f. (
          (λ h. ⊎_elim (λ k. inl k) (λ next. inr (some_call f next)) ((w.adds.each f).0 h)),
          (λ h. (w.adds.each f).1 (⊎_elim (λ k. inl k) (λ next. untried f next) h)),
        );
        once = w.adds.once;
      };
    }

-- an end with a call more, after another one has returned
module _ {S : Type 0} (e : End S) (id q : ℕ) (ne : q ≢ id) where
  settled_with : (b : Bool) (found : Found) (s : S) → settled (with_call e q b found s) id ≡ with_call (settled e id) q b found s
  settled_with true found s = refl
  settled_with false found s = λ i. record { state = s; pending = commute e.pending id q found ne i; crashed = e.crashed }

  not_in_settled : (b : Bool) → is_in (settled e id) q b ≡ false → is_in e q b ≡ false
  not_in_settled b h = not_in_by e q b (told b ∙ not_told (settled e id) q b h)
    where
      told : (b : Bool) → found_in_end e q b ≡ found_in_end (settled e id) q b
      told true = refl
      told false = sym (get-remove_other e.pending id q ne)

other_id : (id : ℕ) (d : PendingOp) → is_other id d ≡ true → d.id ≢ id
other_id id d e q = true≢false (sym e ∙ ap not (eq-eqb d.id id q))

-- an ok leaves ends from which the others lead to none but these
pub closed_after_ok : (o : Object) (calls : List PendingOp) (ends all left : List (End o.State)) (id : ℕ) (answer : Answer) → Adds (IsReached o calls ends) ends all → Adds (Along (Settles id answer) all) [] left
    → AreClosed o (filter (is_other id) calls) left
closed_after_ok o calls ends all left id answer adds settles d f h next =
    ⊎_elim
    (λ k. absurd (Contains-nil d k))
    (λ s.
    let e = s.0 in
    let c = next.0 in
    let t = next.2 in
    let among = from_filter (is_other id) calls c next.1 in
    let ne = other_id id c among.1 in
    let e' : End o.State = with_call e c.id c.crashed t.found f.state in
    let state : e'.state ≡ f.state = with_state e c.id c.crashed t.found f.state in
    let last : TakesLast o e c e' = record {
      not_in = not_in_settled e id c.id ne c.crashed (subst (λ (x : End o.State). is_in x c.id c.crashed ≡ false) (sym s.2.1) t.not_in);
      found = t.found;
      step = subst (λ x. o.Steps e.state c.op t.found x) (sym state) (subst (λ (x : End o.State). o.Steps x.state c.op t.found f.state) (sym s.2.1) t.step);
      made = ap (with_call e c.id c.crashed t.found) (sym state);
    } in
    let reached = ⊎_elim (λ k. reached_itself o calls ends e k) (λ r. r) ((adds.each e).0 s.1) in
    let there = (adds.each e').1 (inr (reached_next o calls ends e e' reached (c, among.0, last))) in
    let fits : found_in_end e' id false ≡ found_in_end e id false = told_without e c.id id c.crashed false t.found f.state (λ q. ne (sym q)) in
    let is : settled e' id ≡ f = settled_with e id c.id ne c.crashed t.found f.state ∙ ap (λ (x : End o.State). with_call x c.id c.crashed t.found f.state) s.2.1 ∙ sym t.made in
    (settles.each f).1 (inr (e', there, ((s.2.0.0, fits ∙ s.2.0.1, s.2.0.2), is))))
    ((settles.each d).0 h)

-- a fail takes one call away
module _ (id : ℕ) where
  all_others : (calls : List PendingOp) → ((d : PendingOp) → Contains calls d → d.id ≢ id) → filter (is_other id) calls ≡ calls
  all_others [] apart = refl
  all_others (x ∷ calls) apart =
      filter-yes (is_other id) x calls (ap not (ne_eqb x.id id (apart x (Contains-head x calls))))
      ∙ ap (λ l. x ∷ l) (all_others calls (λ d k. apart d (Contains-tail x calls d k)))

  without_it : (x : PendingOp) (calls : List PendingOp) → HasEachOnce (x ∷ calls) → is_other id x ≡ false → filter (is_other id) (x ∷ calls) ≡ calls
  without_it x calls once gone =
      filter-no (is_other id) x calls gone
      ∙ all_others calls (λ d k q. once.0 d k (it x gone ∙ sym q))
    where
      it : (y : PendingOp) → is_other id y ≡ false → y.id ≡ id
      it y e = ⊎_elim (λ q. q) (λ ne. absurd (true≢false (sym (ap not (ne_eqb y.id id ne)) ∙ e))) (cases_eq y.id id)

  pub one_fewer : (calls : List PendingOp) → HasEachOnce calls → length calls ≤ length (filter (is_other id) calls) + 1
  one_fewer [] once = omega arith
  one_fewer (x ∷ calls) once =
      ⊎_elim
      (λ yes. let rest = one_fewer calls once.1 in let long = ap length (filter-yes (is_other id) x calls yes) in omega (arith, rest, long))
      (λ gone. let long = ap length (without_it x calls once gone) in omega (arith, long))
      (cases_Bool (is_other id x))

  first_still : (calls : List PendingOp) → HasEachOnce calls → (n : ℕ) (c : PendingOp) → Contains (take n (filter (is_other id) calls)) c → Contains (take (suc n) calls) c
  first_still [] once n c h = absurd (none n h)
    where
      none : (n : ℕ) → Contains (take n []) c → ⊥
      none zero h = Contains-nil c h
      none (suc n) h = Contains-nil c h
  first_still (x ∷ calls) once zero c h = absurd (Contains-nil c h)
  first_still (x ∷ calls) once (suc n) c h =
      ⊎_elim
      (λ yes. ⊎_elim
      (λ q. subst (Contains (x ∷ take (suc n) calls)) q (Contains-head x (take (suc n) calls)))
      (λ k. Contains-tail x (take (suc n) calls) c (first_still calls once.1 n c k))
      (Contains-cons_cases x (take n (filter (is_other id) calls)) c (subst (λ l. Contains (take (suc n) l) c) (filter-yes (is_other id) x calls yes) h)))
      (λ gone. Contains-tail x (take (suc n) calls) c (subst (λ l. Contains (take (suc n) l) c) (without_it x calls once gone) h))
      (cases_Bool (is_other id x))

  pub among_front : (n : ℕ) (xs : List PendingOp) (c : PendingOp) → Contains (take n xs) c → Contains xs c
  among_front n xs c h = subst (λ l. Contains l c) (take-append-drop n xs) (Contains-append_left (take n xs) (drop n xs) c h)

  pub closed_after_fail : (o : Object) (calls : List PendingOp) → HasEachOnce calls → (tried now : ℕ) → now ≡ tried - 1 → (ends left : List (End o.State)) → Adds (Along (Fails id) ends) [] left → AreClosed o (take tried calls) ends
      → AreClosed o (take now (filter (is_other id) calls)) left
  closed_after_fail o calls once zero now is ends left fails closed d f h next =
      let same : now ≡ 0 = omega (arith, is) in
      absurd (Contains-nil next.0 (subst (λ n. Contains (take n (filter (is_other id) calls)) next.0) same next.1))
  closed_after_fail o calls once (suc n) now is ends left fails closed d f h next =
      ⊎_elim
      (λ k. absurd (Contains-nil d k))
      (λ s.
      let c = next.0 in
      let t = next.2 in
      let same : now ≡ n = omega (arith, is) in
      let in_front : Contains (take n (filter (is_other id) calls)) c = subst (λ m. Contains (take m (filter (is_other id) calls)) c) same next.1 in
      let ne = other_id id c (from_filter (is_other id) calls c (among_front n (filter (is_other id) calls) c in_front)).1 in
      let there = closed d f (subst (Contains ends) s.2.1 s.1) (c, first_still calls once n c in_front, t) in
      let was_out : is_in d id false ≡ false = subst (λ (x : End o.State). is_in x id false ≡ false) s.2.1 s.2.0 in
      let told : found_in_end f id false ≡ found_in_end d id false = ap (λ (x : End o.State). found_in_end x id false) t.made ∙ told_without d c.id id c.crashed false t.found f.state (λ q. ne (sym q)) in
      let out : is_in f id false ≡ false = not_in_by f id false (told ∙ not_told d id false was_out) in
      (fails.each f).1 (inr (f, there, (out, refl))))
      ((fails.each d).0 h)

-- an invocation
pub tried_still : (n : ℕ) (calls : List PendingOp) (c : PendingOp) → n ≤ length calls → take n (calls ++ c ∷ []) ≡ take n calls
tried_still n calls c le = take-append-le n calls (c ∷ []) le
