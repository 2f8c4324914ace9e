-- ends as rows of numbers
use Rattle.std.proofs.Common.{◌≡◌, ◌≢◌, ℕ, zero, suc, ◌+◌, ◌<◌, ⊎_elim, Bool, true, false, Option, Some, None, is_some, List, [], ◌∷◌, ◌++◌, length, slice_get, get_or, set, refl, sym, ap, ◌∙◌, subst, arith, add-one}
use Rattle.std.specs.List.{Contains}
use Rattle.std.specs.Cmp.{nat_cmp_total}
use Rattle.std.specs.FinMap as finmap
use Rattle.std.specs.FinSet as finset
use Rattle.std.proofs.lemmas.Bool.{cases_eq, true≢false}
use Rattle.std.proofs.lemmas.List.{get_or_append_left, get_or-set_same, get_or-set_other, length-set}
use Rattle.std.proofs.lemmas.Option.{slice_get_within, slice_get-get_or, get_or_from_slice_get}
use Rattle.std.proofs.lemmas.Grind.{same_number_lists}
use Rattle.models.specs.declared.finding.Found.{Found}
use Rattle.models.specs.declared.finding.Found.TheVariants.{Unit as Nothing}
use Rattle.events.specs.Events.{IsPrefixOf}
use Rattle.linspec.specs.Ends.{End}
use Rattle.linspec.proofs.FinLaws.{get-insert_same, get-insert_other, contains-insert_same, contains-insert_other}
use Rattle.interner.proofs.Lists.{clash, get_front, get_last, has_place, one_of, place_of, some_at}
use Rattle.moves.specs.declared.pending_op.PendingOp.{PendingOp}
use Rattle.moves.specs.EndSteps.{is_in, with_call}
use Rattle.moves.specs.KeptEnds.{IsIncluded}
use Rattle.moves.specs.Tables.{HasEachOnce, Says, found_by, found_in_end, nothing_if, told_by}
use Rattle.interner.specs.Numbers.{IsOnceIn, IsSlot}
use Rattle.moves.proofs.Changes.{same_parts}

-- calls of other operations
pub other_ids : (calls : List PendingOp) → HasEachOnce calls → (i j : ℕ) (c d : PendingOp) → slice_get calls i ≡ Some c → slice_get calls j ≡ Some d → i ≢ j → c.id ≢ d.id
other_ids [] once i j c d a b ne = absurd (clash c _ refl a)
other_ids (x ∷ calls) once zero zero c d a b ne = absurd (ne refl)
other_ids (x ∷ calls) once zero (suc j) c d a b ne = λ e. once.0 d (has_place calls j d b) (ap (λ (y : PendingOp). y.id) (one_of x c a) ∙ e)
other_ids (x ∷ calls) once (suc i) zero c d a b ne = λ e. once.0 c (has_place calls i c a) (ap (λ (y : PendingOp). y.id) (one_of x d b) ∙ sym e)
other_ids (x ∷ calls) once (suc i) (suc j) c d a b ne = other_ids calls once.1 i j c d a b (λ e. ne (ap suc e))

-- the record of a call
was_true : (b : Bool) → nothing_if b ≡ Some Nothing → b ≡ true
was_true true e = refl
was_true false e = absurd (clash Nothing _ refl e)

no_nothing : (b : Bool) → nothing_if b ≡ None → b ≡ false
no_nothing true e = absurd (clash Nothing _ e refl)
no_nothing false e = refl

none_was : {X : Type 0} (r : Option X) → is_some r ≡ false → r ≡ None
none_was None e = refl
none_was (Some x) e = absurd (true≢false e)

module _ {S : Type 0} where
  pub not_told : (e : End S) (id : ℕ) (b : Bool) → is_in e id b ≡ false → found_in_end e id b ≡ None
  not_told e id true h = ap nothing_if h
  not_told e id false h = none_was (finmap.get e.pending id) h

  pub not_in_by : (e : End S) (id : ℕ) (b : Bool) → found_in_end e id b ≡ None → is_in e id b ≡ false
  not_in_by e id true h = no_nothing (finset.contains e.crashed id) h
  not_in_by e id false h = ap is_some h

  pub told_pending : (e : End S) (c : PendingOp) (id : ℕ) → c.id ≡ id → c.crashed ≡ false → found_by e c ≡ finmap.get e.pending id
  told_pending e c id a b = ap (λ k. found_in_end e c.id k) b ∙ ap (λ i. finmap.get e.pending i) a

  told_crashed : (e : End S) (c : PendingOp) (id : ℕ) → c.id ≡ id → c.crashed ≡ true → found_by e c ≡ nothing_if (finset.contains e.crashed id)
  told_crashed e c id a b = ap (λ k. found_in_end e c.id k) b ∙ ap (λ i. nothing_if (finset.contains e.crashed i)) a

  -- with the call
  pub with_state : (e : End S) (id : ℕ) (b : Bool) (found : Found) (s : S) → (with_call e id b found s).state ≡ s
  with_state e id true found s = refl
  with_state e id false found s = refl

  pub told_with : (e : End S) (id : ℕ) (b : Bool) (found : Found) (s : S) → found_in_end (with_call e id b found s) id b ≡ Some (told_by b found)
  told_with e id true found s = ap nothing_if (contains-insert_same e.crashed id)
  told_with e id false found s = get-insert_same e.pending id found

  pub told_without : (e : End S) (id q : ℕ) (b d : Bool) (found : Found) (s : S) → q ≢ id → found_in_end (with_call e id b found s) q d ≡ found_in_end e q d
  told_without e id q true true found s ne = ap nothing_if (contains-insert_other e.crashed id q ne)
  told_without e id q true false found s ne = refl
  told_without e id q false true found s ne = refl
  told_without e id q false false found s ne = get-insert_other e.pending id found q ne

both_true : (b c : Bool) → (b ≡ true → c ≡ true) → (c ≡ true → b ≡ true) → b ≡ c
both_true true c f g = sym (f refl)
both_true false true f g = g refl
both_true false false f g = refl

both_some : {X : Type 0} (p q : Option X) → ((x : X) → p ≡ Some x → q ≡ Some x) → ((x : X) → q ≡ Some x → p ≡ Some x) → p ≡ q
both_some None None f g = refl
both_some (Some x) q f g = sym (f x refl)
both_some None (Some y) f g = g y refl

module _ {S : Type 0} (calls : List PendingOp) where
  pending_too : (e f : End S) → IsIncluded calls e → ((c : PendingOp) → Contains calls c → found_by e c ≡ found_by f c) → (id : ℕ) (x : Found) → finmap.get e.pending id ≡ Some x → finmap.get f.pending id ≡ Some x
  pending_too e f a told id x h =
      let k = a.pending id x h in
      sym (told_pending f k.0 id k.2 k.3) ∙ sym (told k.0 k.1) ∙ told_pending e k.0 id k.2 k.3 ∙ h

  crashed_too : (e f : End S) → IsIncluded calls e → ((c : PendingOp) → Contains calls c → found_by e c ≡ found_by f c) → (id : ℕ) → finset.contains e.crashed id ≡ true → finset.contains f.crashed id ≡ true
  crashed_too e f a told id h =
      let k = a.crashed id h in
      was_true (finset.contains f.crashed id) (sym (told_crashed f k.0 id k.2 k.3) ∙ sym (told k.0 k.1) ∙ told_crashed e k.0 id k.2 k.3 ∙ ap nothing_if h)

  -- ends with the same record of each call are one
  pub same_told : (e f : End S) → IsIncluded calls e → IsIncluded calls f → e.state ≡ f.state → ((c : PendingOp) → Contains calls c → found_by e c ≡ found_by f c) → e ≡ f
  same_told e f a b state told =
      let back : (c : PendingOp) → Contains calls c → found_by f c ≡ found_by e c = λ c h. sym (told c h) in
      same_parts e f state
      (finmap.same_map nat_cmp_total finmap.nat_cmp-IsAntisymmetric _ _ (λ id. both_some (finmap.get e.pending id) (finmap.get f.pending id) (pending_too e f a told id) (pending_too f e b back id)))
      (finset.same_set nat_cmp_total finset.nat_cmp-IsAntisymmetric _ _ (λ id. both_true (finset.contains e.crashed id) (finset.contains f.crashed id) (crashed_too e f a told id) (crashed_too f e b back id)))

  -- the end with a call of the list
  pub included_with : (e : End S) (c : PendingOp) (b : Bool) (found : Found) (s : S) → c.crashed ≡ b → Contains calls c → IsIncluded calls e → IsIncluded calls (with_call e c.id b found s)
  included_with e c true found s is h a = record {
    pending = a.pending;
    crashed = λ id t.
        ⊎_elim
        (λ q. (c, h, sym q, is))
        (λ ne. a.crashed id (sym (contains-insert_other e.crashed c.id id ne) ∙ t))
        (cases_eq id c.id);
  }
  included_with e c false found s is h a = record {
    pending = λ id x t.
        ⊎_elim
        (λ q. (c, h, sym q, is))
        (λ ne. a.pending id x (sym (get-insert_other e.pending c.id found id ne) ∙ t))
        (cases_eq id c.id);
    crashed = a.crashed;
  }

-- numbers of answers
module _ (founds : List Found) where
  one_found : (slot : ℕ) (p q : Option Found) → IsSlot founds slot p → IsSlot founds slot q → p ≡ q
  one_found slot None None a b = refl
  one_found slot None (Some y) a b = absurd (omega (arith, a, b.1))
  one_found slot (Some x) None a b = absurd (omega (arith, a.1, b))
  one_found slot (Some x) (Some y) a b =
      let same : a.0 ≡ b.0 = omega (arith, a.1, b.1) in
      sym a.2 ∙ ap (slice_get founds) same ∙ b.2

  one_slot : (s t : ℕ) (p : Option Found) → IsOnceIn founds → IsSlot founds s p → IsSlot founds t p → s ≡ t
  one_slot s t None once a b = a ∙ sym b
  one_slot s t (Some x) once a b = let same : a.0 ≡ b.0 = once a.0 b.0 x a.2 b.2 in omega (arith, a.1, b.1, same)

  pub zero_none : (slot : ℕ) (p : Option Found) → slot ≡ 0 → IsSlot founds slot p → p ≡ None
  zero_none slot None e a = refl
  zero_none slot (Some x) e a = absurd (omega (arith, e, a.1))

  pub slot_more : (more : List Found) (slot : ℕ) (p : Option Found) → IsPrefixOf founds more → IsSlot founds slot p → IsSlot more slot p
  slot_more more slot None front a = a
  slot_more more slot (Some x) front a = (a.0, a.1, get_front founds more a.0 x front a.2)

module _ {S : Type 0} (states : List S) (founds : List Found) (calls : List PendingOp) where
  pub one_end : (row : List ℕ) (e f : End S) → Says states founds calls row e → Says states founds calls row f → e ≡ f
  one_end row e f a b =
      same_told calls e f a.included b.included (one_of e.state f.state (sym a.state ∙ b.state))
      (λ c h. let p = place_of calls c h in one_found founds (get_or row (p.0 + 1) 0) (found_by e c) (found_by f c) (a.slots p.0 c p.1) (b.slots p.0 c p.1))

  pub one_row : IsOnceIn states → IsOnceIn founds → (row other : List ℕ) (e : End S) → Says states founds calls row e → Says states founds calls other e → row ≡ other
  one_row states_once founds_once row other e a b = same_number_lists row other (a.long ∙ sym b.long) at
    where
      at : (k : ℕ) → k < length row → get_or row k 0 ≡ get_or other k 0
      at zero lt = states_once (get_or row 0 0) (get_or other 0 0) e.state a.state b.state
      at (suc i) lt =
          let less : i < length calls = omega (arith, lt, a.long) in
          let c = some_at calls i less in
          subst (λ k. get_or row k 0 ≡ get_or other k 0) (add-one i) (one_slot founds (get_or row (i + 1) 0) (get_or other (i + 1) 0) (found_by e c.0) founds_once (a.slots i c.0 c.1) (b.slots i c.0 c.1))

  pub says_more : (more_states : List S) (more_founds : List Found) (row : List ℕ) (e : End S) → IsPrefixOf states more_states → IsPrefixOf founds more_founds → Says states founds calls row e → Says more_states more_founds calls row e
  says_more more_states more_founds row e f g a = record {
    long = a.long;
    state = get_front states more_states (get_or row 0 0) e.state f a.state;
    slots = λ i c h. slot_more founds more_founds (get_or row (i + 1) 0) (found_by e c) g (a.slots i c h);
    included = a.included;
  }

  -- the row with a call
  module _ (once : HasEachOnce calls) (i : ℕ) (c : PendingOp) (here : slice_get calls i ≡ Some c) (e : End S) (row : List ℕ) (a : Says states founds calls row e) where
    long : i + 1 < length row
    long = let lt = slice_get_within calls i c here in omega (arith, lt, a.long)

    pub says_with : (n slot : ℕ) (s : S) (found : Found) (next : List ℕ) → slice_get states n ≡ Some s → IsSlot founds slot (Some (told_by c.crashed found)) → next ≡ set (set row 0 n) (i + 1) slot
        → Says states founds calls next (with_call e c.id c.crashed found s)
    says_with n slot s found next state told is = record {
      long = ap length is ∙ length-set (set row 0 n) (i + 1) slot ∙ length-set row 0 n ∙ a.long;
      state =
          let first : get_or next 0 0 ≡ n = ap (λ l. get_or l 0 0) is ∙ get_or-set_other (set row 0 n) (i + 1) 0 slot 0 (λ q. omega (arith, q)) ∙ get_or-set_same row 0 n 0 (let l = long in omega (arith, l)) in
          ap (slice_get states) first ∙ state ∙ ap Some (sym (with_state e c.id c.crashed found s));
      slots = slots;
      included = included_with calls e c c.crashed found s refl (has_place calls i c here) a.included;
    }
      where
        at_other : (j : ℕ) → j ≢ i → get_or next (j + 1) 0 ≡ get_or row (j + 1) 0
        at_other j ne = ap (λ l. get_or l (j + 1) 0) is ∙ get_or-set_other (set row 0 n) (i + 1) (j + 1) slot 0 (λ q. ne (omega (arith, q))) ∙ get_or-set_other row 0 (j + 1) n 0 (λ q. omega (arith, q))

        at_here : get_or next (i + 1) 0 ≡ slot
        at_here = ap (λ l. get_or l (i + 1) 0) is ∙ get_or-set_same (set row 0 n) (i + 1) slot 0 (let l = long in let m : length (set row 0 n) ≡ length row = length-set row 0 n in omega (arith, l, m))

        slots : (j : ℕ) (d : PendingOp) → slice_get calls j ≡ Some d → IsSlot founds (get_or next (j + 1) 0) (found_by (with_call e c.id c.crashed found s) d)
        slots j d h =
            ⊎_elim
            (λ q.
            let same : c ≡ d = one_of c d (sym here ∙ ap (slice_get calls) (sym q) ∙ h) in
            subst (λ x. IsSlot founds (get_or next (j + 1) 0) (found_by (with_call e c.id c.crashed found s) x)) same
            (subst (IsSlot founds (get_or next (j + 1) 0)) (sym (told_with e c.id c.crashed found s)) (subst (λ m. IsSlot founds m (Some (told_by c.crashed found))) (sym (ap (λ m. get_or next (m + 1) 0) q ∙ at_here)) told)))
            (λ ne.
            let apart : d.id ≢ c.id = other_ids calls once j i d c h here ne in
            subst (λ m. IsSlot founds m (found_by (with_call e c.id c.crashed found s) d)) (sym (at_other j ne))
            (subst (IsSlot founds (get_or row (j + 1) 0)) (sym (told_without e c.id d.id c.crashed d.crashed found s apart)) (a.slots j d h)))
            (cases_eq j i)

-- whether a call is in
pub in_unless : {S : Type 0} (founds : List Found) (e : End S) (c : PendingOp) (row : List ℕ) (k : ℕ) → k < length row → IsSlot founds (get_or row k 0) (found_by e c) → ¬ (slice_get row k ≡ Some 0) → is_in e c.id c.crashed ≡ true
in_unless founds e c row k within slot other = by (is_in e c.id c.crashed) refl
  where
    by : (b : Bool) → is_in e c.id c.crashed ≡ b → is_in e c.id c.crashed ≡ true
    by true is = is
    by false is =
        let zero' : get_or row k 0 ≡ 0 = subst (IsSlot founds (get_or row k 0)) (not_told e c.id c.crashed is) slot in
        absurd (other (slice_get-get_or row k 0 within ∙ ap Some zero'))

-- a row that is made, a number after another
pub slots_more : {S : Type 0} (founds more : List Found) (calls : List PendingOp) (e : End S) (row longer : List ℕ) (n slot : ℕ) (c : PendingOp) → IsPrefixOf founds more → length row ≡ n + 1 → longer ≡ row ++ slot ∷ []
    → slice_get calls n ≡ Some c → IsSlot more slot (found_by e c) → ((i : ℕ) (d : PendingOp) → i < n → slice_get calls i ≡ Some d → IsSlot founds (get_or row (i + 1) 0) (found_by e d))
    → (i : ℕ) (d : PendingOp) → i < n + 1 → slice_get calls i ≡ Some d → IsSlot more (get_or longer (i + 1) 0) (found_by e d)
slots_more founds more calls e row longer n slot c front long is here new so_far i d lt h =
    ⊎_elim
    (λ q.
    let same : c ≡ d = one_of c d (sym here ∙ ap (slice_get calls) (sym q) ∙ h) in
    let at : get_or longer (i + 1) 0 ≡ slot = ap (λ l. get_or l (i + 1) 0) is ∙ ap (λ m. get_or (row ++ slot ∷ []) (m + 1) 0) q ∙ ap (λ m. get_or (row ++ slot ∷ []) m 0) (sym long) ∙ get_or_from_slice_get (row ++ slot ∷ []) (length row) slot 0 (get_last row slot) in
    subst (λ x. IsSlot more (get_or longer (i + 1) 0) (found_by e x)) same (subst (λ m. IsSlot more m (found_by e c)) (sym at) new))
    (λ ne.
    let less : i < n = omega (arith, lt, ne) in
    let within : i + 1 < length row = omega (arith, less, long) in
    let at : get_or longer (i + 1) 0 ≡ get_or row (i + 1) 0 = ap (λ l. get_or l (i + 1) 0) is ∙ get_or_append_left row (slot ∷ []) 0 (i + 1) within in
    subst (λ m. IsSlot more m (found_by e d)) (sym at) (slot_more founds more (get_or row (i + 1) 0) (found_by e d) front (so_far i d less h)))
    (cases_eq i n)
