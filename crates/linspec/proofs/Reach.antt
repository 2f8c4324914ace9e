-- ends are extended by one pending operation at a time, and an invocation adds just what is reached so
use Rattle.std.proofs.Common.{◌≡◌, ◌≢◌, ℕ, ◌⊎◌, inl, inr, ⊎_elim, Bool, true, false, Option, Some, None, List, [], ◌∷◌, ◌++◌, refl, sym, ap, ◌∙◌, subst, append_assoc}
use Rattle.std.specs.List.{filter, Contains}
use Rattle.std.specs.FinMap as map
use Rattle.std.specs.FinSet as set
use Rattle.std.proofs.lemmas.Bool.{true≢false}
use Rattle.std.proofs.lemmas.List.{append-nil}
use Rattle.std.proofs.lemmas.List.Elements.{Contains-append_right, Contains-push_cases}
use Rattle.models.specs.declared.operation.Op.{Op}
use Rattle.models.specs.declared.finding.Found.{Found}
use Rattle.models.specs.Objects.{Object, ReadsLeave}
use Rattle.events.specs.Events.{Mark}
use Rattle.events.specs.Events.Mark.{Invoked, Failed, Crashed}
use Rattle.linspec.specs.Operations.{HasReturned, IsOpen}
use Rattle.linspec.specs.Orders.{Taken, Includes, Run, IsLegalOrder}
use Rattle.linspec.specs.Ends.{End, HasFound, CountsIn, HasCrashedBy, is_no_read, Leaves, IsEnd}
use Rattle.linspec.proofs.Lists.{Contains-head, Contains-tail}
use Rattle.linspec.proofs.Filters.{from_filter}
use Rattle.linspec.proofs.Marks.{IsLegalOrder-extend, IsLegalOrder-cut}
use Rattle.linspec.specs.MarkRule.{id_of, IsNew}
use Rattle.linspec.proofs.Invocations.{Around, around, IsLegalOrder-without, IsLegalOrder-before, pending_from}
use Rattle.linspec.proofs.Open.{open_with_new, open_without_new}
use Rattle.linspec.proofs.Parts.{Records-add, Records-skip, Records-change, Marks-add, Marks-skip, Marks-change}
use Rattle.linspec.proofs.Fates.{counted_or_not, crashed_or_not, end_of_by, end_is, not_before}
use Rattle.linspec.proofs.Completions.{crashed_more, not_in_it}
use Rattle.linspec.proofs.WithoutReads.{decides_nothing, matters, without_reads}

-- e with an open operation, and with a crashed one, after which the state is t
abbrev pub with_open : {S : Type 0} → End S → Taken → S → End S
with_open e x t = record { state = t; pending = map.insert e.pending x.id x.found; crashed = e.crashed }

abbrev pub with_crashed : {S : Type 0} → End S → Taken → S → End S
with_crashed e x t = record { state = t; pending = e.pending; crashed = set.insert e.crashed x.id }

-- f is e with one more pending operation, which takes place last. If it has crashed it is not a read
pub record Extends (o : Object) (marks : List Mark) (e : End o.State) (x : Taken) (f : End o.State) : Type 0 where
  pub invoked : Contains marks (Invoked x.id x.op)
  pub not_returned : ¬ HasReturned marks x.id
  pub not_failed : ¬ Contains marks (Failed x.id)
  pub counted : Contains marks (Crashed x.id) → CountsIn is_no_read marks x.id
  pub step : o.Steps e.state x.op x.found f.state
  pub made : (¬ Contains marks (Crashed x.id)) × (map.get e.pending x.id ≡ None) × (f ≡ with_open e x f.state)
      ⊎ Contains marks (Crashed x.id) × (set.contains e.crashed x.id ≡ false) × (f ≡ with_crashed e x f.state)

-- f is e with these pending operations, one after another
abbrev pub Reaches : (o : Object) → List Mark → End o.State → List Taken → End o.State → Type 0
Reaches o marks e [] f = e ≡ f
Reaches o marks e (x ∷ xs) f = (mid : End o.State) × Extends o marks e x mid × Reaches o marks mid xs f

-- each crashed operation of these counts
abbrev pub AllCount : List Mark → List Taken → Type 0
AllCount marks xs = (x : Taken) → Contains xs x → Contains marks (Crashed x.id) → CountsIn is_no_read marks x.id

module _ (o : Object) (marks : List Mark) where
  pub leaves_more : (order : List Taken) (e f : End o.State) (x : Taken) → Leaves o marks order e → Extends o marks e x f → Leaves o marks (order ++ x ∷ []) f
  leaves_more order e f x v h =
      ⊎_elim
      (λ c.
      let is_open : IsOpen marks x.id = record { invoked = (x.op, h.invoked); not_returned = h.not_returned; not_failed = h.not_failed; not_crashed = c.0 } in
      let not_in : ¬ Includes order x.id = not_in_it marks order e.pending x.id v.pending is_open c.1 in
      subst (Leaves o marks (order ++ x ∷ [])) (sym c.2) (record {
        legal = IsLegalOrder-extend o marks order e.state f.state x v.legal h.invoked h.not_returned h.not_failed not_in h.step;
        pending = Records-add (IsOpen marks) order e.pending x is_open not_in v.pending;
        crashed = Marks-skip (HasCrashedBy is_no_read marks) order e.crashed x (λ k. c.0 k.0) v.crashed;
      }))
      (λ c.
      let not_in : ¬ Includes order x.id = λ i. true≢false (sym ((v.crashed x.id).1 (i, (c.0, h.counted c.0))) ∙ c.1) in
      subst (Leaves o marks (order ++ x ∷ [])) (sym c.2) (record {
        legal = IsLegalOrder-extend o marks order e.state f.state x v.legal h.invoked h.not_returned h.not_failed not_in h.step;
        pending = Records-skip (IsOpen marks) order e.pending x (λ q. q.not_crashed c.0) v.pending;
        crashed = Marks-add (HasCrashedBy is_no_read marks) order e.crashed x (c.0, h.counted c.0) v.crashed;
      }))
      h.made

  leaves_reach : (xs order : List Taken) (e f : End o.State) → Leaves o marks order e → Reaches o marks e xs f → Leaves o marks (order ++ xs) f
  leaves_reach [] order e f v r = subst (λ l. Leaves o marks l f) (sym (append-nil order)) (subst (Leaves o marks order) r v)
  leaves_reach (x ∷ xs) order e f v r =
      subst (λ l. Leaves o marks l f) (append_assoc order (x ∷ []) xs) (leaves_reach xs (order ++ x ∷ []) r.0 f (leaves_more order e r.0 x v r.1) r.2)

  -- an end that is reached from an end is an end
  pub ends_closed : (e : End o.State) (xs : List Taken) (f : End o.State) → IsEnd o marks e → Reaches o marks e xs f → IsEnd o marks f
  ends_closed e xs f end r = (end.0 ++ xs, leaves_reach xs end.0 e f end.1 r)

  none_there : (order : List Taken) (e : End o.State) (id : ℕ) → Leaves o marks order e → ¬ Includes order id → map.get e.pending id ≡ None
  none_there order e id v not_in = by_cases (map.get e.pending id) refl
    where
      by_cases : (r : Option Found) → map.get e.pending id ≡ r → map.get e.pending id ≡ None
      by_cases None is = is
      by_cases (Some g) is = let k : HasFound order id g × IsOpen marks id = (v.pending id g).0 is in absurd (not_in (k.0.0, k.0.1, k.0.2))

  not_there : (order : List Taken) (e : End o.State) (id : ℕ) → Leaves o marks order e → ¬ Includes order id → set.contains e.crashed id ≡ false
  not_there order e id v not_in = by_cases (set.contains e.crashed id) refl
    where
      by_cases : (r : Bool) → set.contains e.crashed id ≡ r → set.contains e.crashed id ≡ false
      by_cases false is = is
      by_cases true is = absurd (not_in ((v.crashed id).0 is).0)

  -- pending operations at the end of an order are a reach
  reach_by : (xs order : List Taken) (e f : End o.State) → AllCount marks xs → Leaves o marks order e → Run o e.state xs f.state → Leaves o marks (order ++ xs) f
      → ((y : Taken) → Contains xs y → ¬ HasReturned marks y.id) → Reaches o marks e xs f
  reach_by [] order e f all v run w pending = end_is o marks order e f run v (subst (λ l. Leaves o marks l f) (append-nil order) w)
  reach_by (x ∷ xs) order e f all v run w pending =
      let not_in : ¬ Includes order x.id = not_before order xs x w.legal.once in
      let in' : Contains (order ++ x ∷ xs) x = Contains-append_right order (x ∷ xs) x (Contains-head x xs) in
      let made : (mid : End o.State) × Extends o marks e x mid × (mid.state ≡ run.0) =
      ⊎_elim
      (λ c. (
        with_crashed e x run.0,
        record {
          invoked = w.legal.invoked x in';
          not_returned = pending x (Contains-head x xs);
          not_failed = w.legal.none_failed x in';
          counted = all x (Contains-head x xs);
          step = run.1;
          made = inr (c, not_there order e x.id v not_in, refl);
        },
        refl,
      ))
      (λ nc. (
        with_open e x run.0,
        record {
          invoked = w.legal.invoked x in';
          not_returned = pending x (Contains-head x xs);
          not_failed = w.legal.none_failed x in';
          counted = all x (Contains-head x xs);
          step = run.1;
          made = inl (nc, none_there order e x.id v not_in, refl);
        },
        refl,
      ))
      (crashed_or_not marks x.id) in (
        made.0,
        made.1,
        reach_by xs (order ++ x ∷ []) made.0 f (λ y h. all y (Contains-tail x xs y h)) (leaves_more order e made.0 x v made.1)
            (subst (λ s. Run o s xs f.state) (sym made.2) run.2)
            (subst (λ l. Leaves o marks l f) (sym (append_assoc order (x ∷ []) xs)) w)
            (λ y h. pending y (Contains-tail x xs y h)),
      )

  -- every end of an order that ends with pending operations is reached from an end of the operations before them
  pub end_before : (order xs : List Taken) (f : End o.State) → AllCount marks xs → Leaves o marks (order ++ xs) f → ((y : Taken) → Contains xs y → ¬ HasReturned marks y.id)
      → (e : End o.State) × Leaves o marks order e × Reaches o marks e xs f
  end_before order xs f all w pending =
      let c : (s : o.State) × IsLegalOrder o marks order s × Run o s xs f.state = IsLegalOrder-cut o marks order xs f.state w.legal pending in
      let e : (e : End o.State) × Leaves o marks order e × (e.state ≡ c.0) = end_of_by is_no_read o marks order c.0 c.1 in
      (e.0, e.1, reach_by xs order e.0 f all e.1 (subst (λ s. Run o s xs f.state) (sym e.2) c.2) w pending)

module _ (o : Object) (marks : List Mark) (id : ℕ) (op : Op) (new : IsNew marks id) where
  -- which other operations have crashed, and count
  crashed_old : (i : ℕ) → i ≢ id → HasCrashedBy is_no_read (marks ++ Invoked id op ∷ []) i → HasCrashedBy is_no_read marks i
  crashed_old i ne h = (
    ⊎_elim (λ k. k) (λ e. cc) (Contains-push_cases marks (Invoked id op) _ h.0),
    (h.1.0, ⊎_elim (λ k. k) (λ e. absurd (ne (sym (ap id_of e)))) (Contains-push_cases marks (Invoked id op) _ h.1.1), h.1.2),
  )

  leaves_with : (order : List Taken) (e : End o.State) → ¬ Includes order id → Leaves o marks order e → Leaves o (marks ++ Invoked id op ∷ []) order e
  leaves_with order e not_in v = record {
    legal = IsLegalOrder-without o marks id op new order e.state v.legal;
    pending = Records-change (IsOpen marks) order (IsOpen (marks ++ Invoked id op ∷ [])) e.pending
        (λ i in' q. open_with_new marks id op new i q) (λ i in' q. open_without_new marks id op new i (λ e. not_in (subst (Includes order) e in')) q) v.pending;
    crashed = Marks-change (HasCrashedBy is_no_read marks) order (HasCrashedBy is_no_read (marks ++ Invoked id op ∷ [])) e.crashed
        (λ i _ q. crashed_more is_no_read marks (Invoked id op) i q) (λ i in' q. crashed_old i (λ e. not_in (subst (Includes order) e in')) q) v.crashed;
  }

  leaves_before : (order : List Taken) (e : End o.State) → ¬ Includes order id → Leaves o (marks ++ Invoked id op ∷ []) order e → Leaves o marks order e
  leaves_before order e not_in v = record {
    legal = IsLegalOrder-before o marks id op new order e.state not_in v.legal;
    pending = Records-change (IsOpen (marks ++ Invoked id op ∷ [])) order (IsOpen marks) e.pending
        (λ i in' q. open_without_new marks id op new i (λ e. not_in (subst (Includes order) e in')) q) (λ i in' q. open_with_new marks id op new i q) v.pending;
    crashed = Marks-change (HasCrashedBy is_no_read (marks ++ Invoked id op ∷ [])) order (HasCrashedBy is_no_read marks) e.crashed
        (λ i in' q. crashed_old i (λ e. not_in (subst (Includes order) e in')) q) (λ i _ q. crashed_more is_no_read marks (Invoked id op) i q) v.crashed;
  }

  new_not_in : (order : List Taken) (s : o.State) → IsLegalOrder o marks order s → ¬ Includes order id
  new_not_in order s l i = new _ (l.invoked i.0 i.1) i.2

  pub invoke_after : (e : End o.State) (xs : List Taken) (f : End o.State) → IsEnd o marks e → Reaches o (marks ++ Invoked id op ∷ []) e xs f → IsEnd o (marks ++ Invoked id op ∷ []) f
  invoke_after e xs f end r =
      let v : Leaves o marks end.0 e = end.1 in
      ends_closed o (marks ++ Invoked id op ∷ []) e xs f (end.0, leaves_with end.0 e (new_not_in end.0 e.state v.legal) v) r

  -- an order may be taken without the reads that decide nothing
  pub invoke_before : ReadsLeave o → (f : End o.State) → IsEnd o (marks ++ Invoked id op ∷ []) f → (e : End o.State) × (xs : List Taken) × IsEnd o marks e × Reaches o (marks ++ Invoked id op ∷ []) e xs f
  invoke_before reads f end =
      let m : List Mark = marks ++ Invoked id op ∷ [] in
      let order : List Taken = filter (matters m) end.0 in
      let v : Leaves o m order f = without_reads o reads m end.0 f end.1 in
      ⊎_elim
      (λ (a : Around order id).
      let w : Leaves o m (a.before ++ a.here ∷ a.after) f = subst (λ l. Leaves o m l f) a.whole v in
      let pending : (y : Taken) → Contains (a.here ∷ a.after) y → ¬ HasReturned m y.id = pending_from o marks id op new a.before a.after a.here f.state a.is w.legal in
      let counted : AllCount m (a.here ∷ a.after) = λ x h c. ⊎_elim (λ k. k) (λ not.
      absurd (decides_nothing m x (from_filter (matters m) end.0 x (subst (λ l. Contains l x) (sym a.whole) (Contains-append_right a.before (a.here ∷ a.after) x h))).1
      (c, not, pending x h))) (counted_or_not is_no_read m x.id) in
      let c : (e : End o.State) × Leaves o m a.before e × Reaches o m e (a.here ∷ a.after) f = end_before o m a.before (a.here ∷ a.after) f counted w pending in
      let not_in : ¬ Includes a.before id = λ i. not_before a.before a.after a.here w.legal.once (i.0, i.1, i.2 ∙ sym a.is) in
      (c.0, a.here ∷ a.after, (a.before, leaves_before a.before c.0 not_in c.1), c.2))
      (λ not_in. (f, [], (order, leaves_before order f not_in v), refl))
      (around order id)
