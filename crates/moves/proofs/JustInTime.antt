-- ends that are reached by pending operations, after an invocation, a fail and an info (Lowe 2017)
use Rattle.std.proofs.Common.{◌≡◌, ◌≢◌, ℕ, ◌⊎◌, inl, inr, ⊎_elim, Bool, true, false, Option, Some, None, List, [], ◌∷◌, ◌++◌, refl, sym, ap, ◌∙◌, subst}
use Rattle.std.specs.List.{Contains}
use Rattle.std.specs.Ordering.{nat_cmp}
use Rattle.std.specs.Cmp.{nat_cmp_total}
use Rattle.std.specs.FinMap as map
use Rattle.std.specs.FinSet as set
use Rattle.std.proofs.lemmas.Bool.{cases_Bool, cases_eq}
use Rattle.std.proofs.lemmas.List.Elements.{Contains-append_left, Contains-push, Contains-push_cases}
use Rattle.models.specs.declared.operation.Op.{Op}
use Rattle.models.specs.declared.finding.Found.{Found}
use Rattle.models.specs.declared.operation.Name.TheVariants.{Read}
use Rattle.models.specs.Objects.{Object, ReadsLeave}
use Rattle.events.specs.Events.{Mark}
use Rattle.events.specs.Events.Mark.{Invoked, Failed, Crashed}
use Rattle.linspec.specs.MarkRule.{id_of, IsNew}
use Rattle.linspec.specs.Operations.{IsOpen}
use Rattle.linspec.specs.Orders.{Taken}
use Rattle.linspec.specs.Ends.{End, CountsIn, is_no_read, Leaves, IsEnd}
use Rattle.linspec.proofs.FinLaws.{get-insert_same, get-insert_other, get-remove_same, get-remove_other, contains-insert_same, contains-insert_other}
use Rattle.linspec.proofs.Completions.{after_crash_by, crashed_if as crashed_if_by}
use Rattle.linspec.proofs.Reach.{Extends, Reaches, ends_closed}
use Rattle.linspec.proofs.WithoutReads.{is_read}
use Rattle.moves.specs.EndSteps.{after_crash, crashed_if, settled}

pub Reaches-append : (o : Object) (marks : List Mark) (xs ys : List Taken) (a b c : End o.State) → Reaches o marks a xs b → Reaches o marks b ys c → Reaches o marks a (xs ++ ys) c
Reaches-append o marks [] ys a b c r s = subst (λ d. Reaches o marks d ys c) (sym r) s
Reaches-append o marks (x ∷ xs) ys a b c r s = (r.0, r.1, Reaches-append o marks xs ys r.0 b c r.2 s)

-- an operation that counts still does with one more mark
counted_more : (marks : List Mark) (m : Mark) (i : ℕ) → CountsIn is_no_read marks i → CountsIn is_no_read (marks ++ m ∷ []) i
counted_more marks m i h = (h.0, Contains-append_left marks (m ∷ []) _ h.1, h.2)

module _ (o : Object) (marks : List Mark) (id : ℕ) (op : Op) (new : IsNew marks id) where
  Extends-new : (e : End o.State) (x : Taken) (f : End o.State) → Extends o marks e x f → Extends o (marks ++ Invoked id op ∷ []) e x f
  Extends-new e x f h = record {
    invoked = Contains-append_left marks (Invoked id op ∷ []) _ h.invoked;
    not_returned = λ r. ⊎_elim (λ k. h.not_returned (r.0, k)) (λ e. cc) (Contains-push_cases marks (Invoked id op) _ r.1);
    not_failed = λ r. ⊎_elim h.not_failed (λ e. cc) (Contains-push_cases marks (Invoked id op) _ r);
    counted = λ r. counted_more marks (Invoked id op) x.id (h.counted (⊎_elim (λ k. k) (λ e. cc) (Contains-push_cases marks (Invoked id op) _ r)));
    step = h.step;
    made = ⊎_elim (λ m. inl ((λ r. ⊎_elim m.0 (λ e. cc) (Contains-push_cases marks (Invoked id op) _ r)), m.1, m.2)) (λ m. inr (Contains-append_left marks (Invoked id op ∷ []) _ m.0, m.1, m.2)) h.made;
  }

  pub Reaches-new : (xs : List Taken) (e f : End o.State) → Reaches o marks e xs f → Reaches o (marks ++ Invoked id op ∷ []) e xs f
  Reaches-new [] e f r = r
  Reaches-new (x ∷ xs) e f r = (r.0, Extends-new e x r.0 r.1, Reaches-new xs r.0 f r.2)

pub clash : (o : Option Found) (f : Found) → o ≡ None → o ≡ Some f → ⊥
clash o f e g = cc

-- to take one key out, and to put another in
pub commute : (p : map.FinMap nat_cmp Found) (id k : ℕ) (v : Found) → k ≢ id → map.remove (map.insert p k v) id ≡ map.insert (map.remove p id) k v
commute p id k v ne = map.same_map nat_cmp_total map.nat_cmp-IsAntisymmetric _ _ (λ q.
    ⊎_elim
    (λ e. subst (λ q. map.get (map.remove (map.insert p k v) id) q ≡ map.get (map.insert (map.remove p id) k v) q) (sym e)
    (get-remove_same (map.insert p k v) id ∙ sym (get-insert_other (map.remove p id) k v id (λ h. ne (sym h)) ∙ get-remove_same p id)))
    (λ q_id. ⊎_elim
    (λ e. subst (λ q. map.get (map.remove (map.insert p k v) id) q ≡ map.get (map.insert (map.remove p id) k v) q) (sym e)
    (get-remove_other (map.insert p k v) id k ne ∙ get-insert_same p k v ∙ sym (get-insert_same (map.remove p id) k v)))
    (λ q_k. get-remove_other (map.insert p k v) id q q_id ∙ get-insert_other p k v q q_k ∙ sym (get-insert_other (map.remove p id) k v q q_k ∙ get-remove_other p id q q_id))
    (cases_eq q k))
    (cases_eq q id))

-- putting a key in and taking it out again leaves the map
in_and_out : (p : map.FinMap nat_cmp Found) (k : ℕ) (v : Found) → map.get p k ≡ None → map.remove (map.insert p k v) k ≡ p
in_and_out p k v none = map.same_map nat_cmp_total map.nat_cmp-IsAntisymmetric _ _ (λ q.
    ⊎_elim
    (λ e. subst (λ q. map.get (map.remove (map.insert p k v) k) q ≡ map.get p q) (sym e) (get-remove_same (map.insert p k v) k ∙ sym none))
    (λ ne. get-remove_other (map.insert p k v) k q ne ∙ get-insert_other p k v q ne)
    (cases_eq q k))

-- two keys go in, in either order
commute_set : (s : set.FinSet nat_cmp) (a b : ℕ) → set.insert (set.insert s a) b ≡ set.insert (set.insert s b) a
commute_set s a b = set.same_set nat_cmp_total map.nat_cmp-IsAntisymmetric _ _ (λ q.
    ⊎_elim
    (λ e. subst (λ q. set.contains (set.insert (set.insert s a) b) q ≡ set.contains (set.insert (set.insert s b) a) q) (sym e)
    (contains-insert_same (set.insert s a) b ∙ sym (at_first s a b)))
    (λ nb. contains-insert_other (set.insert s a) b q nb ∙ ⊎_elim
    (λ e. subst (λ q. set.contains (set.insert s a) q ≡ set.contains (set.insert (set.insert s b) a) q) (sym e) (contains-insert_same s a ∙ sym (contains-insert_same (set.insert s b) a)))
    (λ na. contains-insert_other s a q na ∙ sym (contains-insert_other (set.insert s b) a q na ∙ contains-insert_other s b q nb))
    (cases_eq q a))
    (cases_eq q b))
  where
    at_first : (s : set.FinSet nat_cmp) (a b : ℕ) → set.contains (set.insert (set.insert s b) a) b ≡ true
    at_first s a b = ⊎_elim
        (λ e. ap (set.contains (set.insert (set.insert s b) a)) e ∙ contains-insert_same (set.insert s b) a)
        (λ ne. contains-insert_other (set.insert s b) a b ne ∙ contains-insert_same s b)
        (cases_eq b a)

module _ (o : Object) (marks : List Mark) (id : ℕ) (is_open : IsOpen marks id) where
  another : (e f : End o.State) (y : Taken) (g : Found) → Extends o marks e y f → map.get e.pending id ≡ Some g → y.id ≢ id
  another e f y g h has q = ⊎_elim (λ m. clash _ g (ap (map.get e.pending) (sym q) ∙ m.1) has) (λ m. is_open.not_crashed (subst (λ i. Contains marks (Crashed i)) q m.0)) h.made

  still_has : (e f : End o.State) (y : Taken) (g : Found) → Extends o marks e y f → map.get e.pending id ≡ Some g → map.get f.pending id ≡ Some g
  still_has e f y g h has =
      ⊎_elim
      (λ m. ap (λ (d : End o.State). map.get d.pending id) m.2 ∙ get-insert_other e.pending y.id y.found id (λ q. another e f y g h has (sym q)) ∙ has)
      (λ m. ap (λ (d : End o.State). map.get d.pending id) m.2 ∙ has)
      h.made

  Reaches-has : (xs : List Taken) (e f : End o.State) (g : Found) → Reaches o marks e xs f → map.get e.pending id ≡ Some g → map.get f.pending id ≡ Some g
  Reaches-has [] e f g r has = ap (λ (d : End o.State). map.get d.pending id) (sym r) ∙ has
  Reaches-has (x ∷ xs) e f g r has = Reaches-has xs r.0 f g r.2 (still_has e r.0 x g r.1 has)

  -- who extends with the operation itself has it then
  has_it : (e f : End o.State) (y : Taken) → Extends o marks e y f → y.id ≡ id → map.get f.pending id ≡ Some y.found
  has_it e f y h q =
      ⊎_elim
      (λ m. ap (λ (d : End o.State). map.get d.pending id) m.2 ∙ subst (λ i. map.get (map.insert e.pending y.id y.found) i ≡ Some y.found) q (get-insert_same e.pending y.id y.found))
      (λ m. absurd (is_open.not_crashed (subst (λ i. Contains marks (Crashed i)) q m.0)))
      h.made

  pub none_before : (c e : End o.State) (xs : List Taken) → Reaches o marks c xs e → map.get e.pending id ≡ None → map.get c.pending id ≡ None
  none_before c e xs r none = by_case (map.get c.pending id) refl
    where
      by_case : (q : Option Found) → map.get c.pending id ≡ q → map.get c.pending id ≡ None
      by_case None q = q
      by_case (Some g) q = absurd (clash _ g none (Reaches-has xs c e g r q))

  Extends-failed : (e f : End o.State) (y : Taken) → y.id ≢ id → Extends o marks e y f → Extends o (marks ++ Failed id ∷ []) e y f
  Extends-failed e f y ne h = record {
    invoked = Contains-append_left marks (Failed id ∷ []) _ h.invoked;
    not_returned = λ r. ⊎_elim (λ k. h.not_returned (r.0, k)) (λ e. cc) (Contains-push_cases marks (Failed id) _ r.1);
    not_failed = λ r. ⊎_elim h.not_failed (λ q. ne (sym (ap id_of q))) (Contains-push_cases marks (Failed id) _ r);
    counted = λ r. counted_more marks (Failed id) y.id (h.counted (⊎_elim (λ k. k) (λ q. cc) (Contains-push_cases marks (Failed id) _ r)));
    step = h.step;
    made = ⊎_elim (λ m. inl ((λ r. ⊎_elim m.0 (λ e. cc) (Contains-push_cases marks (Failed id) _ r)), m.1, m.2)) (λ m. inr (Contains-append_left marks (Failed id ∷ []) _ m.0, m.1, m.2)) h.made;
  }

  pub Reaches-failed : (xs : List Taken) (c e : End o.State) → Reaches o marks c xs e → map.get e.pending id ≡ None → Reaches o (marks ++ Failed id ∷ []) c xs e
  Reaches-failed [] c e r none = r
  Reaches-failed (x ∷ xs) c e r none =
      let ne : x.id ≢ id = λ q. clash _ x.found (none_before r.0 e xs r.2 none) (has_it c r.0 x r.1 q) in
      (r.0, Extends-failed c r.0 x ne r.1, Reaches-failed xs r.0 e r.2 none)

  still_counted : (e f : End o.State) (y : Taken) → Extends o marks e y f → (Contains marks (Crashed y.id) ⊎ (y.id ≡ id) → CountsIn is_no_read marks y.id) → Contains (marks ++ Crashed id ∷ []) (Crashed y.id) → CountsIn is_no_read (marks ++ Crashed id ∷ []) y.id
  still_counted e f y h by r = counted_more marks (Crashed id) y.id (by (⊎_elim (λ k. inl k) (λ q. inr (sym (ap id_of q))) (Contains-push_cases marks (Crashed id) _ r)))

  -- where the operation crashes and counts, each step stays one
  Extends-crashed : CountsIn is_no_read marks id → (e f : End o.State) (y : Taken) → Extends o marks e y f → (q s : Option Found) → map.get e.pending id ≡ q → map.get f.pending id ≡ s → set.contains e.crashed id ≡ false
      → Extends o (marks ++ Crashed id ∷ []) (crashed_if q e id) y (crashed_if s f id)
  Extends-crashed counts e f y h None None is_q is_s not_yet =
      let ne : y.id ≢ id = λ q. clash _ y.found is_s (has_it e f y h q) in
      record {
        invoked = Contains-append_left marks (Crashed id ∷ []) _ h.invoked;
        not_returned = λ r. ⊎_elim (λ k. h.not_returned (r.0, k)) (λ e. cc) (Contains-push_cases marks (Crashed id) _ r.1);
        not_failed = λ r. ⊎_elim h.not_failed (λ e. cc) (Contains-push_cases marks (Crashed id) _ r);
        counted = still_counted e f y h (λ k. ⊎_elim h.counted (λ q. subst (CountsIn is_no_read marks) (sym q) counts) k);
        step = h.step;
        made = ⊎_elim (λ m. inl ((λ r. ⊎_elim m.0 (λ q. ne (sym (ap id_of q))) (Contains-push_cases marks (Crashed id) _ r)), m.1, m.2)) (λ m. inr (Contains-append_left marks (Crashed id ∷ []) _ m.0, m.1, m.2)) h.made;
      }
  Extends-crashed counts e f y h None (Some g) is_q is_s not_yet =
      let is : y.id ≡ id = ⊎_elim (λ q. q) (λ ne. absurd (clash _ g (stays_none ne) is_s)) (cases_eq y.id id) in
      record {
        invoked = Contains-append_left marks (Crashed id ∷ []) _ h.invoked;
        not_returned = λ r. ⊎_elim (λ k. h.not_returned (r.0, k)) (λ e. cc) (Contains-push_cases marks (Crashed id) _ r.1);
        not_failed = λ r. ⊎_elim h.not_failed (λ e. cc) (Contains-push_cases marks (Crashed id) _ r);
        counted = still_counted e f y h (λ k. ⊎_elim h.counted (λ q. subst (CountsIn is_no_read marks) (sym q) counts) k);
        step = h.step;
        made = inr (
          subst (λ i. Contains (marks ++ Crashed id ∷ []) (Crashed i)) (sym is) (Contains-push marks _),
          ap (set.contains e.crashed) is ∙ not_yet,
          ⊎_elim
              (λ m. (λ i. record {
                state = f.state;
                pending = (ap (λ (d : End o.State). map.remove d.pending id) m.2 ∙ subst (λ k. map.remove (map.insert e.pending k y.found) id ≡ e.pending) (sym is) (in_and_out e.pending id y.found is_q)) i;
                crashed = (ap (λ (d : End o.State). set.insert d.crashed id) m.2 ∙ ap (set.insert e.crashed) (sym is)) i;
              }))
              (λ m. absurd (is_open.not_crashed (subst (λ i. Contains marks (Crashed i)) is m.0)))
              h.made,
        );
      }
    where
      stays_none : y.id ≢ id → map.get f.pending id ≡ None
      stays_none ne = ⊎_elim
          (λ m. ap (λ (d : End o.State). map.get d.pending id) m.2 ∙ get-insert_other e.pending y.id y.found id (λ q. ne (sym q)) ∙ is_q)
          (λ m. ap (λ (d : End o.State). map.get d.pending id) m.2 ∙ is_q) h.made
  Extends-crashed counts e f y h (Some g) None is_q is_s not_yet = absurd (clash _ g is_s (still_has e f y g h is_q))
  Extends-crashed counts e f y h (Some g) (Some g') is_q is_s not_yet =
      let ne : y.id ≢ id = another e f y g h is_q in
      record {
        invoked = Contains-append_left marks (Crashed id ∷ []) _ h.invoked;
        not_returned = λ r. ⊎_elim (λ k. h.not_returned (r.0, k)) (λ e. cc) (Contains-push_cases marks (Crashed id) _ r.1);
        not_failed = λ r. ⊎_elim h.not_failed (λ e. cc) (Contains-push_cases marks (Crashed id) _ r);
        counted = still_counted e f y h (λ k. ⊎_elim h.counted (λ q. subst (CountsIn is_no_read marks) (sym q) counts) k);
        step = h.step;
        made = ⊎_elim
            (λ m. inl (
              (λ r. ⊎_elim m.0 (λ q. ne (sym (ap id_of q))) (Contains-push_cases marks (Crashed id) _ r)),
              get-remove_other e.pending id y.id ne ∙ m.1,
              (λ i. record { state = f.state; pending = (ap (λ (d : End o.State). map.remove d.pending id) m.2 ∙ commute e.pending id y.id y.found ne) i; crashed = ap (λ (d : End o.State). set.insert d.crashed id) m.2 i }),
            ))
            (λ m. inr (
              Contains-append_left marks (Crashed id ∷ []) _ m.0,
              contains-insert_other e.crashed id y.id ne ∙ m.1,
              (λ i. record { state = f.state; pending = ap (λ (d : End o.State). map.remove d.pending id) m.2 i; crashed = (ap (λ (d : End o.State). set.insert d.crashed id) m.2 ∙ commute_set e.crashed y.id id) i }),
            ))
            h.made;
      }

  no_crash_yet : (e : End o.State) → IsEnd o marks e → set.contains e.crashed id ≡ false
  no_crash_yet e end = by_case (set.contains e.crashed id) refl
    where
      by_case : (b : Bool) → set.contains e.crashed id ≡ b → set.contains e.crashed id ≡ false
      by_case false q = q
      by_case true q = absurd (is_open.not_crashed (let v : Leaves o marks end.0 e = end.1 in ((v.crashed id).0 q).1.0))

  pub Reaches-crashed : CountsIn is_no_read marks id → (xs : List Taken) (c e : End o.State) → IsEnd o marks c → Reaches o marks c xs e
      → Reaches o (marks ++ Crashed id ∷ []) (after_crash true c id) xs (after_crash true e id)
  Reaches-crashed counts [] c e end r = ap (λ d. after_crash true d id) r
  Reaches-crashed counts (x ∷ xs) c e end r = (
    after_crash true r.0 id,
    Extends-crashed counts c r.0 x r.1 (map.get c.pending id) (map.get r.0.pending id) refl refl (no_crash_yet c end),
    Reaches-crashed counts xs r.0 e (ends_closed o marks c (x ∷ []) r.0 end (r.0, r.1, refl)) r.2,
  )

-- putting a key in and taking it out again leaves the other entries
in_and_gone : (p : map.FinMap nat_cmp Found) (k : ℕ) (v : Found) → map.remove (map.insert p k v) k ≡ map.remove p k
in_and_gone p k v = map.same_map nat_cmp_total map.nat_cmp-IsAntisymmetric _ _ (λ q.
    ⊎_elim
    (λ e. subst (λ q. map.get (map.remove (map.insert p k v) k) q ≡ map.get (map.remove p k) q) (sym e) (get-remove_same (map.insert p k v) k ∙ sym (get-remove_same p k)))
    (λ ne. get-remove_other (map.insert p k v) k q ne ∙ get-insert_other p k v q ne ∙ sym (get-remove_other p k q ne))
    (cases_eq q k))

-- a missing key may be taken out
out_of_none : (p : map.FinMap nat_cmp Found) (k : ℕ) → map.get p k ≡ None → map.remove p k ≡ p
out_of_none p k none = map.same_map nat_cmp_total map.nat_cmp-IsAntisymmetric _ _ (λ q.
    ⊎_elim
    (λ e. subst (λ q. map.get (map.remove p k) q ≡ map.get p q) (sym e) (get-remove_same p k ∙ sym none))
    (λ ne. get-remove_other p k q ne)
    (cases_eq q k))

-- where a read crashes it is set aside, and its own step is one no longer
module _ (o : Object) (reads : ReadsLeave o) (marks : List Mark) (id : ℕ) (is_open : IsOpen marks id) (not_counted : ¬ CountsIn is_no_read marks id) where
  its_own : (e f : End o.State) (y : Taken) → Extends o marks e y f → y.id ≡ id → settled e id ≡ settled f id
  its_own e f y h q =
      let name : y.op.name ≡ Read = is_read y.op (⊎_elim (λ t. absurd (not_counted (y.op, subst (λ i. Contains marks (Invoked i y.op)) q h.invoked, t))) (λ w. w) (cases_Bool (is_no_read y.op))) in
      let state : e.state ≡ f.state = reads y.op e.state f.state y.found name h.step in
      ⊎_elim
      (λ m.
      let pending : map.remove e.pending id ≡ map.remove f.pending id = sym (ap (λ (d : End o.State). map.remove d.pending id) m.2 ∙ subst (λ k. map.remove (map.insert e.pending k y.found) id ≡ map.remove e.pending id) (sym q) (in_and_gone e.pending id y.found)) in
      let crashed : e.crashed ≡ f.crashed = sym (ap (λ (d : End o.State). d.crashed) m.2) in
      (λ i. record { state = state i; pending = pending i; crashed = crashed i }))
      (λ m. absurd (is_open.not_crashed (subst (λ i. Contains marks (Crashed i)) q m.0)))
      h.made

  Extends-aside : (e f : End o.State) (y : Taken) → Extends o marks e y f → y.id ≢ id → Extends o (marks ++ Crashed id ∷ []) (settled e id) y (settled f id)
  Extends-aside e f y h ne = record {
    invoked = Contains-append_left marks (Crashed id ∷ []) _ h.invoked;
    not_returned = λ r. ⊎_elim (λ k. h.not_returned (r.0, k)) (λ e. cc) (Contains-push_cases marks (Crashed id) _ r.1);
    not_failed = λ r. ⊎_elim h.not_failed (λ e. cc) (Contains-push_cases marks (Crashed id) _ r);
    counted = λ r. ⊎_elim (λ k. counted_more marks (Crashed id) y.id (h.counted k)) (λ q. absurd (ne (sym (ap id_of q)))) (Contains-push_cases marks (Crashed id) _ r);
    step = h.step;
    made = ⊎_elim
        (λ m. inl (
          (λ r. ⊎_elim m.0 (λ q. ne (sym (ap id_of q))) (Contains-push_cases marks (Crashed id) _ r)),
          get-remove_other e.pending id y.id ne ∙ m.1,
          (λ i. record { state = f.state; pending = (ap (λ (d : End o.State). map.remove d.pending id) m.2 ∙ commute e.pending id y.id y.found ne) i; crashed = ap (λ (d : End o.State). d.crashed) m.2 i }),
        ))
        (λ m. inr (
          Contains-append_left marks (Crashed id ∷ []) _ m.0,
          m.1,
          (λ i. record { state = f.state; pending = ap (λ (d : End o.State). map.remove d.pending id) m.2 i; crashed = ap (λ (d : End o.State). d.crashed) m.2 i }),
        ))
        h.made;
  }

  pub Reaches-aside : (xs : List Taken) (c e : End o.State) → Reaches o marks c xs e → (ys : List Taken) × Reaches o (marks ++ Crashed id ∷ []) (settled c id) ys (settled e id)
  Reaches-aside [] c e r = ([], ap (λ d. settled d id) r)
  Reaches-aside (x ∷ xs) c e r =
      let rest = Reaches-aside xs r.0 e r.2 in
      ⊎_elim
      (λ q. (rest.0, subst (λ d. Reaches o (marks ++ Crashed id ∷ []) d rest.0 (settled e id)) (sym (its_own c r.0 x r.1 q)) rest.1))
      (λ ne. (x ∷ rest.0, (settled r.0 id, Extends-aside c r.0 x r.1 ne, rest.1)))
      (cases_eq x.id id)

-- an operation that does not count is in no end any more
pub aside : {S : Type 0} (e : End S) (id : ℕ) → after_crash_by false e id ≡ after_crash false e id
aside e id = by (map.get e.pending id) refl
  where
    by : (r : Option Found) → map.get e.pending id ≡ r → crashed_if_by false r e id ≡ settled e id
    by None none = λ i. record { state = e.state; pending = sym (out_of_none e.pending id none) i; crashed = e.crashed }
    by (Some found) some = refl
