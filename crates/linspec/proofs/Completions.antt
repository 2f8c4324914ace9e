-- the ends after an ok, a fail and an info, by the ends before it
use Rattle.std.proofs.Common.{◌≡◌, ◌≢◌, ◌↔◌, ℕ, ◌⊎◌, inl, inr, ⊎_elim, Bool, true, false, IsTrue, Option, Some, None, List, [], ◌∷◌, ◌++◌, refl, sym, ap, ◌∙◌, subst}
use Rattle.std.specs.List.{Contains}
use Rattle.std.specs.Ordering.{nat_cmp}
use Rattle.std.specs.FinMap as map
use Rattle.std.specs.FinSet as set
use Rattle.std.proofs.lemmas.Bool.{true≢false}
use Rattle.std.proofs.lemmas.List.Elements.{Contains-append_left, Contains-push, Contains-push_cases}
use Rattle.models.specs.declared.operation.Op.{Op}
use Rattle.models.specs.declared.finding.Found.{Found}
use Rattle.models.specs.declared.finding.Answer.{Answer}
use Rattle.models.specs.Objects.{Object, Fits}
use Rattle.events.specs.Events.{Mark}
use Rattle.events.specs.Events.Mark.{Returned, Failed, Crashed}
use Rattle.linspec.specs.Operations.{IsOpen}
use Rattle.linspec.specs.Orders.{Taken, Pairwise, Includes, IsLegalOrder}
use Rattle.linspec.specs.Ends.{End, HasFound, CountsIn, HasCrashedBy, LeavesBy, IsEndBy}
use Rattle.linspec.proofs.Lists.{Contains-nil, Contains-cons_cases}
use Rattle.linspec.proofs.Marks.{IsLegalOrder-fewer, IsLegalOrder-more}
use Rattle.linspec.specs.MarkRule.{id_of}
use Rattle.linspec.proofs.Open.{IsCompletion, no_invocation, was_open, stays_open}
use Rattle.linspec.proofs.Parts.{Records, Marks, Records-remove, Records-change, Marks-change, Marks-insert}
use Rattle.linspec.proofs.Fates.{end_of_by, end_is}

-- the end without what an open operation found: it is done now
abbrev pub settled : {S : Type 0} → End S → ℕ → End S
settled e id = record { state = e.state; pending = map.remove e.pending id; crashed = e.crashed }

-- the end where the open operation has crashed: it counts, or it is in the end no longer
abbrev pub crashed_end : {S : Type 0} → Bool → End S → ℕ → End S
crashed_end true e id = record { state = e.state; pending = map.remove e.pending id; crashed = set.insert e.crashed id }
crashed_end false e id = settled e id

-- the same, if it is in the end
abbrev pub crashed_if : {S : Type 0} → Bool → Option Found → End S → ℕ → End S
crashed_if counted None e id = e
crashed_if counted (Some found) e id = crashed_end counted e id

abbrev pub after_crash_by : {S : Type 0} → Bool → End S → ℕ → End S
after_crash_by counted e id = crashed_if counted (map.get e.pending id) e id

-- which crashed operations count, after one more mark
pub crashed_more : (counts : Op → Bool) (marks : List Mark) (m : Mark) (id : ℕ) → HasCrashedBy counts marks id → HasCrashedBy counts (marks ++ m ∷ []) id
crashed_more counts marks m id h = (Contains-append_left marks (m ∷ []) _ h.0, (h.1.0, Contains-append_left marks (m ∷ []) _ h.1.1, h.1.2))

counted_before : (counts : Op → Bool) (marks : List Mark) (m : Mark) → IsCompletion m → (id : ℕ) → CountsIn counts (marks ++ m ∷ []) id → CountsIn counts marks id
counted_before counts marks m c id h = (h.0, ⊎_elim (λ k. k) (λ e. absurd (no_invocation m c id h.0 e)) (Contains-push_cases marks m _ h.1), h.2)

crashed_before : (counts : Op → Bool) (marks : List Mark) (m : Mark) → IsCompletion m → (id : ℕ) → m ≢ Crashed id → HasCrashedBy counts (marks ++ m ∷ []) id → HasCrashedBy counts marks id
crashed_before counts marks m c id ne h = (⊎_elim (λ k. k) (λ e. absurd (ne e)) (Contains-push_cases marks m _ h.0), counted_before counts marks m c id h.1)

same_id_once : (order : List Taken) → Pairwise (λ x y. x.id ≢ y.id) order → (x y : Taken) → Contains order x → Contains order y → x.id ≡ y.id → x ≡ y
same_id_once [] once x y h k e = absurd (Contains-nil x h)
same_id_once (z ∷ order) once x y h k e =
    ⊎_elim
    (λ zx. ⊎_elim
    (λ zy. sym zx ∙ zy)
    (λ ky. absurd (once.0 y ky (ap (λ (w : Taken). w.id) zx ∙ e)))
    (Contains-cons_cases z order y k))
    (λ hx. ⊎_elim
    (λ zy. absurd (once.0 x hx (ap (λ (w : Taken). w.id) zy ∙ sym e)))
    (λ ky. same_id_once order once.1 x y hx ky e)
    (Contains-cons_cases z order y k))
    (Contains-cons_cases z order x h)

found_of : (marks : List Mark) (order : List Taken) (p : map.FinMap nat_cmp Found) (id : ℕ) → Records (IsOpen marks) order p → IsOpen marks id → Includes order id → (found : Found) × (map.get p id ≡ Some found) × HasFound order id found
found_of marks order p id r is_open i = (i.0.found, (r id i.0.found).1 ((i.0, i.1, i.2, refl), is_open), (i.0, i.1, i.2, refl))

module _ {counts : Op → Bool} (o : Object) (marks : List Mark) (id : ℕ) (answer : Answer) (is_open : IsOpen marks id) where
  leaves_ok : (order : List Taken) (e : End o.State) → LeavesBy counts o marks order e → IsLegalOrder o (marks ++ Returned id answer ∷ []) order e.state → LeavesBy counts o (marks ++ Returned id answer ∷ []) order (settled e id)
  leaves_ok order e v l = record {
    legal = l;
    pending = Records-change (λ i. IsOpen marks i × (i ≢ id)) order (IsOpen (marks ++ Returned id answer ∷ [])) (map.remove e.pending id)
        (λ i _ q. stays_open marks (Returned id answer) tt i q.0 q.1) (λ i _ q. was_open marks (Returned id answer) tt i q)
        (Records-remove (IsOpen marks) order e.pending id v.pending);
    crashed = Marks-change (HasCrashedBy counts marks) order (HasCrashedBy counts (marks ++ Returned id answer ∷ [])) e.crashed
        (λ i _ q. crashed_more counts marks (Returned id answer) i q) (λ i _ q. crashed_before counts marks (Returned id answer) tt i (λ e. cc) q) v.crashed;
  }

  pub ok_after : (e : End o.State) (found : Found) → IsEndBy counts o marks e → map.get e.pending id ≡ Some found → Fits found answer → IsEndBy counts o (marks ++ Returned id answer ∷ []) (settled e id)
  ok_after e found end has fits =
      let v : LeavesBy counts o marks end.0 e = end.1 in
      let f : HasFound end.0 id found × IsOpen marks id = (v.pending id found).0 has in (
        end.0,
        leaves_ok end.0 e v (IsLegalOrder-more o marks (Returned id answer) end.0 e.state v.legal
            (λ x op h e. cc) (λ x h e. cc)
            (λ i a e. (let t : id ≡ i = cc in (f.0.0, f.0.1, f.0.2 ∙ t)))
            (λ x a h e.
            let t : id ≡ x.id = cc in
            let u : answer ≡ a = cc in
            let same : f.0.0 ≡ x = same_id_once end.0 v.legal.once f.0.0 x f.0.1 h (f.0.2 ∙ t) in
            subst (λ b. Fits x.found b) u (subst (λ g. Fits g answer) (sym f.0.3 ∙ ap (λ (w : Taken). w.found) same) fits))),
      )

  pub ok_before : (f : End o.State) → IsEndBy counts o (marks ++ Returned id answer ∷ []) f → (e : End o.State) × (found : Found) × IsEndBy counts o marks e × (map.get e.pending id ≡ Some found) × Fits found answer × (f ≡ settled e id)
  ok_before f end =
      let v : LeavesBy counts o (marks ++ Returned id answer ∷ []) end.0 f = end.1 in
      let l : IsLegalOrder o marks end.0 f.state = IsLegalOrder-fewer o marks (Returned id answer) end.0 f.state (λ x h e. cc) v.legal in
      let e : (e : End o.State) × LeavesBy counts o marks end.0 e × (e.state ≡ f.state) = end_of_by counts o marks end.0 f.state l in
      let i : Includes end.0 id = v.legal.all_done id (answer, Contains-push marks _) in
      let g : (found : Found) × (map.get e.0.pending id ≡ Some found) × HasFound end.0 id found = found_of marks end.0 e.0.pending id e.1.pending is_open i in (
        e.0,
        g.0,
        (end.0, e.1),
        g.1,
        subst (λ b. Fits b answer) g.2.3 (v.legal.fits g.2.0 answer g.2.1 (subst (λ j. Contains (marks ++ Returned id answer ∷ []) (Returned j answer)) (sym g.2.2) (Contains-push marks _))),
        end_is o (marks ++ Returned id answer ∷ []) end.0 f (settled e.0 id) (sym e.2) v (leaves_ok end.0 e.0 e.1 (subst (λ s. IsLegalOrder o (marks ++ Returned id answer ∷ []) end.0 s) (sym e.2) v.legal)),
      )

pub not_in_it : (marks : List Mark) (order : List Taken) (p : map.FinMap nat_cmp Found) (id : ℕ) → Records (IsOpen marks) order p → IsOpen marks id → map.get p id ≡ None → ¬ Includes order id
not_in_it marks order p id r is_open none i = let g : (found : Found) × (map.get p id ≡ Some found) × HasFound order id found = found_of marks order p id r is_open i in clash (map.get p id) g.0 none g.1
  where
    clash : (o : Option Found) (f : Found) → o ≡ None → o ≡ Some f → ⊥
    clash o f e g = cc

module _ {counts : Op → Bool} (o : Object) (marks : List Mark) (id : ℕ) (is_open : IsOpen marks id) where
  -- an order without the operation leaves the same end after each completion of it
  leaves_without : (m : Mark) → IsCompletion m → id_of m ≡ id → (order : List Taken) (e : End o.State) → ¬ Includes order id
      → LeavesBy counts o marks order e → IsLegalOrder o (marks ++ m ∷ []) order e.state → LeavesBy counts o (marks ++ m ∷ []) order e
  leaves_without m c is order e not_in v l = record {
    legal = l;
    pending = Records-change (IsOpen marks) order (IsOpen (marks ++ m ∷ [])) e.pending
        (λ i in' q. stays_open marks m c i q (λ e. not_in (subst (Includes order) (e ∙ is) in'))) (λ i _ q. (was_open marks m c i q).0) v.pending;
    crashed = Marks-change (HasCrashedBy counts marks) order (HasCrashedBy counts (marks ++ m ∷ [])) e.crashed
        (λ i _ q. crashed_more counts marks m i q)
        (λ i in' q. crashed_before counts marks m c i (λ e. not_in (subst (Includes order) (sym (ap id_of e) ∙ is) in')) q) v.crashed;
  }

  pub fail_after : (e : End o.State) → IsEndBy counts o marks e → map.get e.pending id ≡ None → IsEndBy counts o (marks ++ Failed id ∷ []) e
  fail_after e end none =
      let v : LeavesBy counts o marks end.0 e = end.1 in
      let not_in : ¬ Includes end.0 id = not_in_it marks end.0 e.pending id v.pending is_open none in (
        end.0,
        leaves_without (Failed id) tt refl end.0 e not_in v (IsLegalOrder-more o marks (Failed id) end.0 e.state v.legal
            (λ x op h e. cc) (λ x h e. not_in (x, h, (let t : x.id ≡ id = cc in t))) (λ i a e. cc) (λ x a h e. cc)),
      )

  pub fail_before : (e : End o.State) → IsEndBy counts o (marks ++ Failed id ∷ []) e → IsEndBy counts o marks e × (map.get e.pending id ≡ None)
  fail_before f end =
      let v : LeavesBy counts o (marks ++ Failed id ∷ []) end.0 f = end.1 in
      let l : IsLegalOrder o marks end.0 f.state = IsLegalOrder-fewer o marks (Failed id) end.0 f.state (λ x h e. cc) v.legal in
      let not_in : ¬ Includes end.0 id = λ i. v.legal.none_failed i.0 i.1 (subst (λ j. Contains (marks ++ Failed id ∷ []) (Failed j)) (sym i.2) (Contains-push marks _)) in
      let e : (e : End o.State) × LeavesBy counts o marks end.0 e × (e.state ≡ f.state) = end_of_by counts o marks end.0 f.state l in
      let same : f ≡ e.0 = end_is o (marks ++ Failed id ∷ []) end.0 f e.0 (sym e.2) v
      (leaves_without (Failed id) tt refl end.0 e.0 not_in e.1 (subst (λ s. IsLegalOrder o (marks ++ Failed id ∷ []) end.0 s) (sym e.2) v.legal)) in
      (subst (IsEndBy counts o marks) (sym same) (end.0, e.1), none_there f (map.get f.pending id) refl not_in v)
    where
      none_there : (f : End o.State) (r : Option Found) → map.get f.pending id ≡ r → ¬ Includes end.0 id → LeavesBy counts o (marks ++ Failed id ∷ []) end.0 f → map.get f.pending id ≡ None
      none_there f None e not_in v = e
      none_there f (Some g) e not_in v = let k : HasFound end.0 id g × IsOpen (marks ++ Failed id ∷ []) id = (v.pending id g).0 e in absurd (not_in (k.0.0, k.0.1, k.0.2))

-- an info: an operation that counts is among the crashed ones then, and any other is in the end no longer
module _ (counts : Op → Bool) (o : Object) (marks : List Mark) (id : ℕ) (is_open : IsOpen marks id) (counted : Bool) (tells : IsTrue counted ↔ CountsIn counts marks id) where
  pending_after : (order : List Taken) (e : End o.State) → LeavesBy counts o marks order e → Records (IsOpen (marks ++ Crashed id ∷ [])) order (map.remove e.pending id)
  pending_after order e v =
      Records-change (λ i. IsOpen marks i × (i ≢ id)) order (IsOpen (marks ++ Crashed id ∷ [])) (map.remove e.pending id)
      (λ i _ q. stays_open marks (Crashed id) tt i q.0 q.1) (λ i _ q. was_open marks (Crashed id) tt i q)
      (Records-remove (IsOpen marks) order e.pending id v.pending)

  crashed_at : (i : ℕ) → i ≡ id → IsTrue counted → HasCrashedBy counts (marks ++ Crashed id ∷ []) i
  crashed_at i e t = (
    subst (λ j. Contains (marks ++ Crashed id ∷ []) (Crashed j)) (sym e) (Contains-push marks _),
    (let k : CountsIn counts marks i = subst (CountsIn counts marks) (sym e) (tells.0 t) in (k.0, Contains-append_left marks (Crashed id ∷ []) _ k.1, k.2)),
  )

  marks_after : (order : List Taken) (e : End o.State) (b : Bool) → counted ≡ b → Includes order id → LeavesBy counts o marks order e
      → Marks (HasCrashedBy counts (marks ++ Crashed id ∷ [])) order (crashed_end b e id).crashed
  marks_after order e true is in' v =
      Marks-change (λ i. HasCrashedBy counts marks i ⊎ (i ≡ id)) order (HasCrashedBy counts (marks ++ Crashed id ∷ [])) (set.insert e.crashed id)
      (λ i _ q. ⊎_elim (λ k. crashed_more counts marks (Crashed id) i k) (λ e. crashed_at i e is) q)
      (λ i _ q. ⊎_elim (λ k. inl (k, counted_before counts marks (Crashed id) tt i q.1)) (λ e. inr (sym (ap id_of e))) (Contains-push_cases marks (Crashed id) _ q.0))
      (Marks-insert (HasCrashedBy counts marks) order e.crashed id in' v.crashed)
  marks_after order e false is in' v =
      Marks-change (HasCrashedBy counts marks) order (HasCrashedBy counts (marks ++ Crashed id ∷ [])) e.crashed
      (λ i _ q. crashed_more counts marks (Crashed id) i q)
      (λ i _ q. crashed_before counts marks (Crashed id) tt i
      (λ e. true≢false (sym (tells.1 (subst (CountsIn counts marks) (sym (ap id_of e)) (counted_before counts marks (Crashed id) tt i q.1))) ∙ is)) q)
      v.crashed

  with_parts : (order : List Taken) (e : End o.State) (b : Bool) → counted ≡ b → Includes order id → LeavesBy counts o marks order e
      → IsLegalOrder o (marks ++ Crashed id ∷ []) order e.state → LeavesBy counts o (marks ++ Crashed id ∷ []) order (crashed_end b e id)
  with_parts order e true is in' v l = record { legal = l; pending = pending_after order e v; crashed = marks_after order e true is in' v }
  with_parts order e false is in' v l = record { legal = l; pending = pending_after order e v; crashed = marks_after order e false is in' v }

  leaves_crash : (order : List Taken) (e : End o.State) (r : Option Found) → map.get e.pending id ≡ r → LeavesBy counts o marks order e → IsLegalOrder o (marks ++ Crashed id ∷ []) order e.state
      → LeavesBy counts o (marks ++ Crashed id ∷ []) order (crashed_if counted r e id)
  leaves_crash order e None is v l = leaves_without o marks id is_open (Crashed id) tt refl order e (not_in_it marks order e.pending id v.pending is_open is) v l
  leaves_crash order e (Some found) is v l =
      let f : HasFound order id found × IsOpen marks id = (v.pending id found).0 is in
      with_parts order e counted refl (f.0.0, f.0.1, f.0.2) v l

  pub info_after_by : (e : End o.State) → IsEndBy counts o marks e → IsEndBy counts o (marks ++ Crashed id ∷ []) (after_crash_by counted e id)
  info_after_by e end =
      let v : LeavesBy counts o marks end.0 e = end.1 in (
        end.0,
        leaves_crash end.0 e (map.get e.pending id) refl v (IsLegalOrder-more o marks (Crashed id) end.0 e.state v.legal
            (λ x op h e. cc) (λ x h e. cc) (λ i a e. cc) (λ x a h e. cc)),
      )

  pub info_before_by : (f : End o.State) → IsEndBy counts o (marks ++ Crashed id ∷ []) f → (e : End o.State) × IsEndBy counts o marks e × (f ≡ after_crash_by counted e id)
  info_before_by f end =
      let v : LeavesBy counts o (marks ++ Crashed id ∷ []) end.0 f = end.1 in
      let l : IsLegalOrder o marks end.0 f.state = IsLegalOrder-fewer o marks (Crashed id) end.0 f.state (λ x h e. cc) v.legal in
      let e : (e : End o.State) × LeavesBy counts o marks end.0 e × (e.state ≡ f.state) = end_of_by counts o marks end.0 f.state l in (
        e.0,
        (end.0, e.1),
        end_is o (marks ++ Crashed id ∷ []) end.0 f (after_crash_by counted e.0 id) (sym e.2 ∙ same_state (map.get e.0.pending id) counted e.0) v
            (leaves_crash end.0 e.0 (map.get e.0.pending id) refl e.1 (subst (λ s. IsLegalOrder o (marks ++ Crashed id ∷ []) end.0 s) (sym e.2) v.legal)),
      )
    where
      same_state : (r : Option Found) (b : Bool) (e : End o.State) → e.state ≡ (crashed_if b r e id).state
      same_state None b e = refl
      same_state (Some g) true e = refl
      same_state (Some g) false e = refl
