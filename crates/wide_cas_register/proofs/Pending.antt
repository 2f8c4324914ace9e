-- the operations that may still take place after a mark
use Rattle.std.proofs.Common.{◌≡◌, ◌≢◌, ◌↔◌, ℕ, ◌+◌, ◌<◌, ℤ, ⊎_elim, Bool, true, ◌&&◌, cond, map, Option, Some, None, List, [], ◌∷◌, ◌++◌, length, refl, sym, ap, ◌∙◌, subst, arith, length-append}
use Rattle.std.specs.List.{Contains, filter}
use Rattle.std.proofs.lemmas.Bool.{cases_Bool, cases_eq, and_parts, and_from}
use Rattle.std.proofs.lemmas.List.Elements.{Contains-append_left, Contains-push, Contains-push_cases}
use Rattle.models.specs.declared.operation.Name.{Name}
use Rattle.models.specs.declared.operation.Name.TheVariants.{Read, Write, Cas}
use Rattle.models.specs.declared.operation.Part.{Part}
use Rattle.models.specs.declared.operation.Part.TheVariants.{Nil, Int, Pair}
use Rattle.models.specs.declared.operation.Op.{Op}
use Rattle.models.specs.declared.finding.Answer.{Answer}
use Rattle.events.specs.Events.{Mark}
use Rattle.events.specs.Events.Mark.{Invoked, Returned, Failed, Crashed}
use Rattle.linspec.specs.Operations.{IsOpen}
use Rattle.linspec.specs.MarkRule.{id_of, IsNew, MayFollow}
use Rattle.linspec.specs.Orders.{Pairwise}
use Rattle.linspec.proofs.Lists.{Contains-nil, Contains-cons_cases, Pairwise-append}
use Rattle.linspec.proofs.Open.{IsCompletion, no_invocation, was_open, stays_open, open_with_new, open_without_new, new_is_open}
use Rattle.linspec.specs.LeanEnds.{MayWrite, Reads as ReadsBy, Writes as WritesBy}
use Rattle.lean_ends.proofs.Ending.{write_was, write_is, read_was}
use Rattle.linspec.specs.CasEnds.{MayCas, Sets as SetsBy}
use Rattle.wide_cas_register.specs.declared.calls.Call.{Call}
use Rattle.wide_cas_register.specs.declared.calls.What.{What}
use Rattle.wide_cas_register.specs.declared.calls.What.TheVariants.{Writes, Sets, Reads}
use Rattle.wide_cas_register.specs.Facts.{AreCalls, IsCall, calls_after, calls_with, crashed, is_other, outlives, what_by}
use Rattle.wide_cas_register.proofs.Lists.{was_in, passes, stays_in}
use Rattle.wide_cas_register.proofs.Others.{map_from, map_to, other_from, other_to, outlives_to, outlives_read, outlives_write}
use Rattle.wide_cas_register.proofs.Reading.{reads_by, by_reads}

writes_by : (name : Name) (part : Part) (v : ℤ) → what_by name part ≡ Some (Writes v) → (name ≡ Write) × (part ≡ Int v)
writes_by Write (Int w) v e = (refl, (let q : Some (Writes w) ≡ Some (Writes v) = e in let s : w ≡ v = cc in ap Int s))
writes_by Read Nil v e = cc
writes_by Cas (Pair a b) v e = cc
writes_by _ _ v e = cc

sets_by : (name : Name) (part : Part) (a b : ℤ) → what_by name part ≡ Some (Sets a b) → (name ≡ Cas) × (part ≡ Pair a b)
sets_by Cas (Pair x y) a b e = (refl, (let q : Some (Sets x y) ≡ Some (Sets a b) = e in let s : x ≡ a = cc in let t : y ≡ b = cc in ap (λ z. Pair z y) s ∙ ap (Pair a) t))
sets_by Read Nil a b e = cc
sets_by Write (Int v) a b e = cc
sets_by _ _ a b e = cc

by_sets : (op : Op) (a b : ℤ) → SetsBy op a b → what_by op.name op.part ≡ Some (Sets a b)
by_sets op a b r = ap (λ n. what_by n op.part) r.0 ∙ ap (what_by Cas) r.1

by_writes : (op : Op) (v : ℤ) → WritesBy op v → what_by op.name op.part ≡ Some (Writes v)
by_writes op v r = ap (λ n. what_by n op.part) r.0 ∙ ap (what_by Write) r.1

module _ {X : Type 0} (R : X → X → Type 0) (p : X → Bool) where
  pub Pairwise-filter : (xs : List X) → Pairwise R xs → Pairwise R (filter p xs)
  Pairwise-filter [] h = tt
  Pairwise-filter (x ∷ xs) h = ⊎_elim
      (λ e. subst (λ b. Pairwise R (cond b (x ∷ filter p xs) (filter p xs))) (sym e) ((λ y k. h.0 y (was_in p xs y k)), Pairwise-filter xs h.1))
      (λ e. subst (λ b. Pairwise R (cond b (x ∷ filter p xs) (filter p xs))) (sym e) (Pairwise-filter xs h.1))
      (cases_Bool (p x))

pub Pairwise-map : {X Y : Type 0} (f : X → Y) (S : Y → Y → Type 0) (xs : List X) → Pairwise (λ x y. S (f x) (f y)) xs → Pairwise S (map f xs)
Pairwise-map f S [] h = tt
Pairwise-map f S (x ∷ xs) h = ((λ y k. (let j = map_from f xs y k in subst (S (f x)) j.2 (h.0 j.0 j.1))), Pairwise-map f S xs h.1)

abbrev Apart : Call → Call → Type 0
Apart a b = a.id ≢ b.id

module _ (marks : List Mark) (calls : List Call) (are : AreCalls calls marks) where
  later : (m : Mark) (c : Call) → Contains calls c → c.since < length (marks ++ m ∷ [])
  later m c h = let l : length (marks ++ m ∷ []) ≡ length marks + 1 = length-append marks (m ∷ []) in let s = are.since c h in omega arith

  -- a completion of another operation
  module _ (m : Mark) (completes : IsCompletion m) where
    abbrev longer : List Mark
    longer = marks ++ m ∷ []

    call_is : (i : ℕ) (what : What) → i ≢ id_of m → IsCall marks i what → IsCall longer i what
    call_is i Reads ne h = ((h.0.0, Contains-append_left marks (m ∷ []) _ h.0.1, h.0.2), stays_open marks m completes i h.1 ne)
    call_is i (Writes v) ne h = write_is marks m completes i v ne h
    call_is i (Sets a b) ne h = record {
      cas = (h.cas.0, Contains-append_left marks (m ∷ []) _ h.cas.1, h.cas.2);
      not_returned = λ r. ⊎_elim (λ k. h.not_returned (r.0, k)) (λ e. ne (sym (ap id_of e))) (Contains-push_cases marks m _ r.1);
      not_failed = λ f. ⊎_elim h.not_failed (λ e. ne (sym (ap id_of e))) (Contains-push_cases marks m _ f);
    }

    call_was : (i : ℕ) (what : What) → IsCall longer i what → IsCall marks i what
    call_was i Reads h = (read_was marks m completes i h).0
    call_was i (Writes v) h = write_was marks m completes i v h
    call_was i (Sets a b) h = record {
      cas = (h.cas.0, ⊎_elim (λ k. k) (λ e. absurd (no_invocation m completes i h.cas.0 e)) (Contains-push_cases marks m _ h.cas.1), h.cas.2);
      not_returned = λ r. h.not_returned (r.0, Contains-append_left marks (m ∷ []) _ r.1);
      not_failed = λ f. h.not_failed (Contains-append_left marks (m ∷ []) _ f);
    }

    open_same : (c : Call) → Contains calls c → c.id ≢ id_of m → (c.is_open ≡ true) ↔ IsOpen longer c.id
    open_same c h ne = ((λ e. stays_open marks m completes c.id ((are.is_open c h).0 e) ne), (λ o. (are.is_open c h).1 (was_open marks m completes c.id o).0))

    calls_done : (id : ℕ) → id_of m ≡ id → ((what : What) → ¬ IsCall longer id what) → AreCalls (filter (is_other id) calls) longer
    calls_done id i none =
        let ne : (c : Call) → Contains (filter (is_other id) calls) c → c.id ≢ id_of m = λ c h e. other_from id c (passes (is_other id) calls c h) (e ∙ i) in
        let was : (c : Call) → Contains (filter (is_other id) calls) c → Contains calls c = was_in (is_other id) calls in record {
          once = Pairwise-filter Apart (is_other id) calls are.once;
          since = λ c h. later m c (was c h);
          is = λ c h. call_is c.id c.what (ne c h) (are.is c (was c h));
          is_open = λ c h. open_same c (was c h) (ne c h);
          all = λ x what h. (let k = are.all x what (call_was x what h) in
              let other : k.0.id ≢ id = (λ e. none what (subst (λ z. IsCall longer z what) (sym k.2 ∙ e) h)) in
              (k.0, stays_in (is_other id) calls k.0 k.1 (other_to id k.0 other), k.2, k.3));
        }

  pub calls_returned : (id : ℕ) (answer : Answer) → AreCalls (filter (is_other id) calls) (marks ++ Returned id answer ∷ [])
  calls_returned id answer = calls_done (Returned id answer) tt id refl none
    where
      none : (what : What) → ¬ IsCall (marks ++ Returned id answer ∷ []) id what
      none Reads h = h.1.not_returned (answer, Contains-push marks _)
      none (Writes v) h = h.not_returned (answer, Contains-push marks _)
      none (Sets a b) h = h.not_returned (answer, Contains-push marks _)

  pub calls_failed : (id : ℕ) → AreCalls (filter (is_other id) calls) (marks ++ Failed id ∷ [])
  calls_failed id = calls_done (Failed id) tt id refl none
    where
      none : (what : What) → ¬ IsCall (marks ++ Failed id ∷ []) id what
      none Reads h = h.1.not_failed (Contains-push marks _)
      none (Writes v) h = h.not_failed (Contains-push marks _)
      none (Sets a b) h = h.not_failed (Contains-push marks _)

  module _ (id : ℕ) where
    abbrev rest : List Call
    rest = filter (outlives id) calls

    abbrev after : List Mark
    after = marks ++ Crashed id ∷ []

    write_crashed : (x : ℕ) (v : ℤ) → MayWrite marks x v → MayWrite after x v
    write_crashed x v w = record {
      write = (w.write.0, Contains-append_left marks (Crashed id ∷ []) _ w.write.1, w.write.2);
      not_returned = λ r. ⊎_elim (λ k. w.not_returned (r.0, k)) (λ e. cc) (Contains-push_cases marks (Crashed id) _ r.1);
      not_failed = λ f. ⊎_elim w.not_failed (λ e. cc) (Contains-push_cases marks (Crashed id) _ f);
    }

    cas_crashed : (x : ℕ) (a b : ℤ) → MayCas marks x a b → MayCas after x a b
    cas_crashed x a b w = record {
      cas = (w.cas.0, Contains-append_left marks (Crashed id ∷ []) _ w.cas.1, w.cas.2);
      not_returned = λ r. ⊎_elim (λ k. w.not_returned (r.0, k)) (λ e. cc) (Contains-push_cases marks (Crashed id) _ r.1);
      not_failed = λ f. ⊎_elim w.not_failed (λ e. cc) (Contains-push_cases marks (Crashed id) _ f);
    }

    crashed_is : (c : Call) (what : What) → c.what ≡ what → Contains rest c → IsCall after c.id what
    crashed_is c Reads q h = call_is (Crashed id) tt c.id Reads (outlives_read id c q (passes (outlives id) calls c h)) (subst (IsCall marks c.id) q (are.is c (was_in (outlives id) calls c h)))
    crashed_is c (Writes v) q h = write_crashed c.id v (subst (IsCall marks c.id) q (are.is c (was_in (outlives id) calls c h)))
    crashed_is c (Sets a b) q h = cas_crashed c.id a b (subst (IsCall marks c.id) q (are.is c (was_in (outlives id) calls c h)))

    lives : (c : Call) (what : What) → c.what ≡ what → IsCall after c.id what → outlives id c ≡ true
    lives c Reads q h = outlives_to id c (read_was marks (Crashed id) tt c.id h).1
    lives c (Writes v) q h = outlives_write id c (Writes v) q (λ e. cc)
    lives c (Sets a b) q h = outlives_write id c (Sets a b) q (λ e. cc)

    open_crashed : (c : Call) → Contains calls c → ((c.is_open && is_other id c) ≡ true) ↔ IsOpen after c.id
    open_crashed c h = (
      (λ e. (let k = and_parts _ _ e in stays_open marks (Crashed id) tt c.id ((are.is_open c h).0 k.0) (other_from id c k.1))),
      (λ o. (let k = was_open marks (Crashed id) tt c.id o in and_from _ _ ((are.is_open c h).1 k.0) (other_to id c k.1))),
    )

    pub calls_crashed : AreCalls (map (crashed id) rest) after
    calls_crashed = record {
      once = Pairwise-map (crashed id) Apart rest (Pairwise-filter Apart (outlives id) calls are.once);
      since = λ c h. (let k = map_from (crashed id) rest c h in subst (λ (x : Call). x.since < length after) k.2 (later (Crashed id) k.0 (was_in (outlives id) calls k.0 k.1)));
      is = λ c h. (let k = map_from (crashed id) rest c h in subst (λ (x : Call). IsCall after x.id x.what) k.2 (crashed_is k.0 k.0.what refl k.1));
      is_open = λ c h. (let k = map_from (crashed id) rest c h in subst (λ (x : Call). (x.is_open ≡ true) ↔ IsOpen after x.id) k.2 (open_crashed k.0 (was_in (outlives id) calls k.0 k.1)));
      all = λ x what h. (let k = are.all x what (call_was (Crashed id) tt x what h) in
          (crashed id k.0, map_to (crashed id) rest k.0 (stays_in (outlives id) calls k.0 k.1 (lives k.0 what k.3 (subst (λ z. IsCall after z what) (sym k.2) h))), k.2, k.3));
    }

  module _ (id : ℕ) (op : Op) (new : IsNew marks id) where
    abbrev with' : List Mark
    with' = marks ++ Invoked id op ∷ []

    begun_is : (i : ℕ) (what : What) → IsCall marks i what → IsCall with' i what
    begun_is i Reads h = ((h.0.0, Contains-append_left marks (Invoked id op ∷ []) _ h.0.1, h.0.2), open_with_new marks id op new i h.1)
    begun_is i (Writes v) w = record {
      write = (w.write.0, Contains-append_left marks (Invoked id op ∷ []) _ w.write.1, w.write.2);
      not_returned = λ r. ⊎_elim (λ k. w.not_returned (r.0, k)) (λ e. cc) (Contains-push_cases marks (Invoked id op) _ r.1);
      not_failed = λ f. ⊎_elim w.not_failed (λ e. cc) (Contains-push_cases marks (Invoked id op) _ f);
    }
    begun_is i (Sets a b) w = record {
      cas = (w.cas.0, Contains-append_left marks (Invoked id op ∷ []) _ w.cas.1, w.cas.2);
      not_returned = λ r. ⊎_elim (λ k. w.not_returned (r.0, k)) (λ e. cc) (Contains-push_cases marks (Invoked id op) _ r.1);
      not_failed = λ f. ⊎_elim w.not_failed (λ e. cc) (Contains-push_cases marks (Invoked id op) _ f);
    }

    invoked_was : (x : ℕ) (o : Op) → x ≢ id → Contains with' (Invoked x o) → Contains marks (Invoked x o)
    invoked_was x o ne h = ⊎_elim (λ k. k) (λ q. absurd (ne (sym (ap id_of q)))) (Contains-push_cases marks (Invoked id op) _ h)

    begun_was : (i : ℕ) (what : What) → i ≢ id → IsCall with' i what → IsCall marks i what
    begun_was i Reads ne h = ((h.0.0, invoked_was i h.0.0 ne h.0.1, h.0.2), open_without_new marks id op new i ne h.1)
    begun_was i (Writes v) ne w = record {
      write = (w.write.0, invoked_was i w.write.0 ne w.write.1, w.write.2);
      not_returned = λ r. w.not_returned (r.0, Contains-append_left marks (Invoked id op ∷ []) _ r.1);
      not_failed = λ f. w.not_failed (Contains-append_left marks (Invoked id op ∷ []) _ f);
    }
    begun_was i (Sets a b) ne w = record {
      cas = (w.cas.0, invoked_was i w.cas.0 ne w.cas.1, w.cas.2);
      not_returned = λ r. w.not_returned (r.0, Contains-append_left marks (Invoked id op ∷ []) _ r.1);
      not_failed = λ f. w.not_failed (Contains-append_left marks (Invoked id op ∷ []) _ f);
    }

    the_op : (o : Op) → Contains with' (Invoked id o) → op ≡ o
    the_op o h = ⊎_elim (λ k. absurd (new (Invoked id o) k refl)) (λ (q : Invoked id op ≡ Invoked id o). let s : op ≡ o = cc in s) (Contains-push_cases marks (Invoked id op) _ h)

    it_is : (what : What) → IsCall with' id what → what_by op.name op.part ≡ Some what
    it_is Reads h = by_reads op (subst ReadsBy (sym (the_op h.0.0 h.0.1)) h.0.2)
    it_is (Writes v) w = by_writes op v (subst (λ o. WritesBy o v) (sym (the_op w.write.0 w.write.1)) w.write.2)
    it_is (Sets a b) w = by_sets op a b (subst (λ o. SetsBy o a b) (sym (the_op w.cas.0 w.cas.1)) w.cas.2)

    new_call : (what : What) → what_by op.name op.part ≡ Some what → IsCall with' id what
    new_call Reads e = ((op, Contains-push marks _, reads_by op.name op.part e), new_is_open marks id op new)
    new_call (Writes v) e =
        let o = new_is_open marks id op new in
        record { write = (op, Contains-push marks _, writes_by op.name op.part v e); not_returned = o.not_returned; not_failed = o.not_failed }
    new_call (Sets a b) e =
        let o = new_is_open marks id op new in
        record { cas = (op, Contains-push marks _, sets_by op.name op.part a b e); not_returned = o.not_returned; not_failed = o.not_failed }

    not_new : (c : Call) → Contains calls c → c.id ≢ id
    not_new c h e = is_invoked c.what (are.is c h)
      where
        is_invoked : (what : What) → IsCall marks c.id what → ⊥
        is_invoked Reads k = new (Invoked c.id k.0.0) k.0.1 e
        is_invoked (Writes v) k = new (Invoked c.id k.write.0) k.write.1 e
        is_invoked (Sets a b) k = new (Invoked c.id k.cas.0) k.cas.1 e

    still_open : (c : Call) → Contains calls c → (c.is_open ≡ true) ↔ IsOpen with' c.id
    still_open c h = ((λ e. open_with_new marks id op new c.id ((are.is_open c h).0 e)), (λ o. (are.is_open c h).1 (open_without_new marks id op new c.id (not_new c h) o)))

    invoked_by : (w : Option What) → what_by op.name op.part ≡ w → AreCalls (calls_with calls (length marks) id w) with'
    invoked_by None q = record {
      once = are.once;
      since = later (Invoked id op);
      is = λ c h. begun_is c.id c.what (are.is c h);
      is_open = still_open;
      all = λ x what h. ⊎_elim
          (λ s. absurd (let bad : None ≡ Some what = sym q ∙ it_is what (subst (λ z. IsCall with' z what) s h) in let no : ⊥ = cc in no))
          (λ ne. are.all x what (begun_was x what ne h))
          (cases_eq x id);
    }
    invoked_by (Some what) q =
        let c : Call = record { id = id; what = what; since = length marks; is_open = true } in record {
          once = Pairwise-append Apart calls (c ∷ []) are.once ((λ y h. absurd (Contains-nil y h)), tt)
              (λ x y h k. ⊎_elim (λ s. (λ e. not_new x h (e ∙ sym (ap (λ (z : Call). z.id) s)))) (λ j. absurd (Contains-nil y j)) (Contains-cons_cases c [] y k));
          since = λ x h. ⊎_elim
              (later (Invoked id op) x)
              (λ s. subst (λ (z : Call). z.since < length with') s (let l : length with' ≡ length marks + 1 = length-append marks (Invoked id op ∷ []) in omega arith))
              (Contains-push_cases calls c x h);
          is = λ x h. ⊎_elim
              (λ k. begun_is x.id x.what (are.is x k))
              (λ s. subst (λ (z : Call). IsCall with' z.id z.what) s (new_call what q))
              (Contains-push_cases calls c x h);
          is_open = λ x h. ⊎_elim
              (still_open x)
              (λ s. subst (λ (z : Call). (z.is_open ≡ true) ↔ IsOpen with' z.id) s ((λ e. new_is_open marks id op new), (λ o. refl)))
              (Contains-push_cases calls c x h);
          all = λ x u h. ⊎_elim
              (λ s. (let same : Some what ≡ Some u = sym q ∙ it_is u (subst (λ z. IsCall with' z u) s h) in
              let s' : what ≡ u = cc in (c, Contains-push calls c, sym s, s')))
              (λ ne. (let k = are.all x u (begun_was x u ne h) in (k.0, Contains-append_left calls (c ∷ []) k.0 k.1, k.2, k.3)))
              (cases_eq x id);
        }

    pub calls_invoked : AreCalls (calls_with calls (length marks) id (what_by op.name op.part)) with'
    calls_invoked = invoked_by (what_by op.name op.part) refl

  pub are_after : (m : Mark) → MayFollow marks m → AreCalls (calls_after calls (length marks) m) (marks ++ m ∷ [])
  are_after (Invoked id op) may = calls_invoked id op may
  are_after (Returned id answer) may = calls_returned id answer
  are_after (Failed id) may = calls_failed id
  are_after (Crashed id) may = calls_crashed id
