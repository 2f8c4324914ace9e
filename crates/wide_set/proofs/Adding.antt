-- the facts after an add is done or has crashed
use Rattle.std.proofs.Common.{◌≡◌, ℕ, ◌≤◌, ℤ, ◌⊎◌, inl, inr, ⊎_elim, Option, Some, None, List, [], ◌∷◌, ◌++◌, length, refl, sym, ap, ◌∙◌, subst, arith}
use Rattle.std.specs.List.{Contains}
use Rattle.std.proofs.lemmas.List.Elements.{Contains-append_left, Contains-push, Contains-push_cases}
use Rattle.models.specs.declared.operation.Op.{Op}
use Rattle.models.specs.declared.finding.Answer.{Answer}
use Rattle.models.specs.declared.finding.Answer.TheVariants.{Many}
use Rattle.events.specs.Events.{Mark}
use Rattle.events.specs.Events.Mark.{Invoked, Returned, Crashed}
use Rattle.linspec.specs.MarkRule.{AreWellFormed}
use Rattle.set_chains.specs.Chains.{IsAddOf, HasRead}
use Rattle.set_chains.proofs.Once.{one_op}
use Rattle.set_chains.proofs.Oks.{chained_after_ok_of_add}
use Rattle.set_chains.proofs.Steps.{no_both, same_int_part}
use Rattle.wide_set.specs.declared.known.Answered.{Answered}
use Rattle.wide_set.specs.declared.log.Added.{Added}
use Rattle.wide_set.specs.Facts.{StandsAt, CannotFail, IsSettledBy, AreLogged, Facts, AreFacts, with_logged, without}
use Rattle.wide_set.proofs.Moments.{stands_on, stands_last, stands_cases, stands_contains, invoked_at_once}
use Rattle.wide_set.proofs.Carrying.{kept, add_is, add_was, stood, IsLogged, logged_is, logged_carried, answers_carried, invoked_before, pending_without, still_based}
use Rattle.wide_set.proofs.Events.{one_more, settled_invoked, still}

module _ (ms : List Mark) (m : Mark) (well : AreWellFormed (ms ++ m ∷ [])) (before : AreWellFormed ms) (id : ℕ) (v : ℤ) (own : IsAddOf ms id v) where
  one_value : (w : ℤ) → IsAddOf (ms ++ m ∷ []) id w → v ≡ w
  one_value w a =
      let same : a.0 ≡ own.0 = one_op (ms ++ m ∷ []) well id a.0 own.0 a.1 (kept ms m well _ own.1) in
      same_int_part v w own.0.part own.2.1 (ap (λ (o : Op). o.part) (sym same) ∙ a.2.1)

  module _ (was : (i : ℕ) → CannotFail (ms ++ m ∷ []) i → (id ≡ i) ⊎ CannotFail ms i) (log : List Added) (base : List ℤ) where
    -- of a value in the base nothing is logged
    pub logged_without : Contains base v → ((i : ℕ) (answer : Answer) → m ≡ Returned i answer → id ≡ i) → AreLogged log base ms → AreLogged log base (ms ++ m ∷ [])
    logged_without known returned = logged_carried ms m well log base
        (λ i w a out c. ⊎_elim
        (λ e. absurd (out (subst (Contains base) (one_value w (subst (λ j. IsAddOf (ms ++ m ∷ []) j w) (sym e) a)) known)))
        (λ k. (settled_invoked ms before i k, k))
        (was i c))
        (λ i w answer a out q. out (subst (Contains base) (one_value w (subst (λ j. IsAddOf (ms ++ m ∷ []) j w) (sym (returned i answer q)) a)) known))

    -- with the logged add
    pub logged_with : (e : Added) → e.value ≡ v → (op : Op) → StandsAt ms e.since (Invoked id op) → IsSettledBy (ms ++ m ∷ []) id e.by
        → ((i n : ℕ) (answer : Answer) → Returned i answer ≡ m → n ≡ length ms → (id ≡ i) × ((by : ℕ) × (e.by ≡ Some by) × (by ≤ n)))
        → AreLogged log base ms → AreLogged (log ++ e ∷ []) base (ms ++ m ∷ [])
    logged_with e is op stands settles returned are = record {
      is = λ a h. ⊎_elim
          (λ k. logged_is ms m well a (are.is a k))
          (λ same. subst (IsLogged (ms ++ m ∷ [])) same
          (id, op, add_is ms m well id e.value (subst (IsAddOf ms id) (sym is) own), stands_on ms (m ∷ []) e.since _ stands, settles))
          (Contains-push_cases log e a h);
      all = λ w i n o a out c s. ⊎_elim
          (λ (mine : id ≡ i).
          let same : v ≡ w = one_value w (subst (λ j. IsAddOf (ms ++ m ∷ []) j w) (sym mine) a) in
          let at : e.since ≡ n = invoked_at_once (ms ++ m ∷ []) well id e.since n op o (stands_on ms (m ∷ []) e.since _ stands) (subst (λ j. StandsAt (ms ++ m ∷ []) n (Invoked j o)) (sym mine) s) in
          (e, Contains-push log e, is ∙ same, omega arith))
          (λ k.
          let i' = settled_invoked ms before i k in
          let b = are.all w i n o (add_was ms m well i w i' a) out k (stood ms m well i i' o n s) in
          (b.0, Contains-append_left log (e ∷ []) b.0 b.1, b.2, b.3))
          (was i c);
      done = λ w i n answer a out s. ⊎_elim
          (λ k.
          let b = are.done w i n answer (add_was ms m well i w (invoked_before ms m well i answer (stands_contains ms n _ k)) a) out k in
          (b.0, b.1, Contains-append_left log (e ∷ []) b.0 b.2, b.3, b.4, b.5))
          (λ q.
          let r = returned i n answer q.0 q.1 in
          let same : v ≡ w = one_value w (subst (λ j. IsAddOf (ms ++ m ∷ []) j w) (sym r.0) a) in
          (e, r.1.0, Contains-push log e, is ∙ same, r.1.1, r.1.2))
          (stands_cases ms m n (Returned i answer) s);
    }

module _ (f : Facts) (ms : List Mark) (facts : AreFacts f ms) (id : ℕ) (v : ℤ) (own : IsAddOf ms id v) where
  -- the log entry of an add of the value
  abbrev pub as_logged : ℕ → Option ℕ → Added
  as_logged since by = record { value = v; since = since; by = by }

  module _ (well : AreWellFormed (ms ++ Crashed id ∷ [])) where
    was_settled : (i : ℕ) → CannotFail (ms ++ Crashed id ∷ []) i → (id ≡ i) ⊎ CannotFail ms i
    was_settled i c = ⊎_elim
        (λ r. inr (inl (r.0, ⊎_elim (λ k. k) (λ q. cc) (Contains-push_cases ms (Crashed id) _ r.1))))
        (λ k. ⊎_elim (λ j. inr (inr j)) (λ q. inl (let s : id ≡ i = cc in s)) (Contains-push_cases ms (Crashed id) _ k))
        c

    with_log : (log : List Added) → AreLogged log f.base (ms ++ Crashed id ∷ []) → AreFacts (record (without id f) { log = log }) (ms ++ Crashed id ∷ [])
    with_log log logged = record {
      well = well;
      chained = still f ms facts id well;
      now = one_more ms (Crashed id) f.now facts.now;
      pending = pending_without ms (Crashed id) tt f.pending facts.pending;
      logged = logged;
      answers = answers_carried ms (Crashed id) well f.base f.answers f.answers (λ a k. k) (λ a k. inl k) (λ i n members r q. absurd (cc q)) facts.answers;
      nested = facts.nested;
      based = still_based f id facts.based;
    }

    pub after_crash_of_known : Contains f.base v → AreFacts (without id f) (ms ++ Crashed id ∷ [])
    after_crash_of_known h = with_log f.log (logged_without ms (Crashed id) well facts.well id v own was_settled f.log f.base h (λ i answer q. cc) facts.logged)

    pub after_crash_of_add : (since : ℕ) (op : Op) → StandsAt ms since (Invoked id op) → AreFacts (with_logged id (as_logged since None) f) (ms ++ Crashed id ∷ [])
    after_crash_of_add since op stands = with_log (f.log ++ as_logged since None ∷ [])
        (logged_with ms (Crashed id) well facts.well id v own was_settled f.log f.base (as_logged since None) refl op stands (Contains-push ms (Crashed id)) (λ i n answer q e. absurd (cc q)) facts.logged)

  module _ (answer : Answer) (well : AreWellFormed (ms ++ Returned id answer ∷ [])) where
    abbrev more : List Mark
    more = ms ++ Returned id answer ∷ []

    was_done_or_crashed : (i : ℕ) → CannotFail more i → (id ≡ i) ⊎ CannotFail ms i
    was_done_or_crashed i c = ⊎_elim
        (λ r. ⊎_elim (λ j. inr (inl (r.0, j))) (λ q. inl (let s : id ≡ i = cc in s)) (Contains-push_cases ms (Returned id answer) _ r.1))
        (λ k. inr (inr (⊎_elim (λ j. j) (λ q. cc) (Contains-push_cases ms (Returned id answer) _ k))))
        c

    none : (i n : ℕ) (members : List ℤ) → HasRead more i members → Returned id answer ≡ Returned i (Many members) → n ≡ length ms → (a : Answered) × Contains f.answers a × (a.members ≡ members) × (a.by ≤ n)
    none i n members r q e =
        let mine : id ≡ i = cc in
        let same : r.op ≡ own.0 = one_op more well id r.op own.0 (subst (λ j. Contains more (Invoked j r.op)) (sym mine) r.invoked) (kept ms (Returned id answer) well _ own.1) in
        absurd (no_both own.0.name (ap (λ (o : Op). o.name) (sym same) ∙ r.reads) own.2.0)

    with_done : (log : List Added) → AreLogged log f.base more → AreFacts (record (without id f) { log = log }) more
    with_done log logged = record {
      well = well;
      chained = chained_after_ok_of_add ms id answer well v own facts.chained;
      now = one_more ms (Returned id answer) f.now facts.now;
      pending = pending_without ms (Returned id answer) tt f.pending facts.pending;
      logged = logged;
      answers = answers_carried ms (Returned id answer) well f.base f.answers f.answers (λ a k. k) (λ a k. inl k) none facts.answers;
      nested = facts.nested;
      based = still_based f id facts.based;
    }

    pub after_ok_of_known : Contains f.base v → AreFacts (without id f) more
    after_ok_of_known h = with_done f.log (logged_without ms (Returned id answer) well facts.well id v own was_done_or_crashed f.log f.base h (λ i a q. (let s : id ≡ i = cc in s)) facts.logged)

    pub after_ok_of_add : (since : ℕ) (op : Op) → StandsAt ms since (Invoked id op) → AreFacts (with_logged id (as_logged since (Some f.now)) f) more
    after_ok_of_add since op stands =
        let e : f.now ≡ length ms = facts.now in
        with_done (f.log ++ as_logged since (Some f.now) ∷ [])
        (logged_with ms (Returned id answer) well facts.well id v own was_done_or_crashed f.log f.base (as_logged since (Some f.now)) refl op stands
        (answer, subst (λ n. StandsAt more n (Returned id answer)) (sym e) (stands_last ms (Returned id answer)))
        (λ i n a q g. ((let s : id ≡ i = cc in s), (f.now, refl, omega arith)))
        facts.logged)
