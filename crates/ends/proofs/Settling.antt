-- ends after an ok and a fail, by rows
use Rattle.std.proofs.Common.{◌≡◌, ◌≢◌, ℕ, zero, suc, ◌+◌, ◌<◌, ◌≤◌, ⊎_elim, Bool, true, false, not, Some, None, List, [], ◌∷◌, length, slice_get, get_or, refl, sym, ap, ◌∙◌, subst, arith}
use Rattle.std.specs.FinMap as finmap
use Rattle.std.proofs.lemmas.Bool.{cases_eq, cases_lt, eq-eqb, ne_eqb, true≢false}
use Rattle.std.specs.List.{Contains, filter, remove}
use Rattle.std.proofs.lemmas.List.Edits.{get_or-remove_above, get_or-remove_below, length-remove}
use Rattle.std.proofs.lemmas.Option.{slice_get_read, slice_get_within, slice_get-get_or, get_or_from_slice_get}
use Rattle.models.specs.declared.finding.Answer.{Answer}
use Rattle.models.specs.declared.finding.Found.{Found}
use Rattle.linspec.specs.Ends.{End}
use Rattle.linspec.proofs.Filters.{filter-no, filter-yes, from_filter, to_filter}
use Rattle.linspec.proofs.Lists.{Contains-head, Contains-tail}
use Rattle.linspec.proofs.FinLaws.{get-remove_same, get-remove_other}
use Rattle.moves.specs.declared.pending_op.PendingOp.{PendingOp}
use Rattle.moves.specs.declared.table.Table.{Table}
use Rattle.moves.specs.EndSteps.{Adds, Along, FitsAt, IsOut, Settles, is_other, settled}
use Rattle.moves.specs.KeptEnds.{IsIncluded}
use Rattle.moves.specs.Tables.{AreShown, HasEachOnce, IsOpenAt, Says, found_by, found_in_end}
use Rattle.interner.specs.Numbers.{IsSlot}
use Rattle.moves.proofs.Adding.{Adds-none}
use Rattle.moves.proofs.Rows.{not_in_by, not_told, other_ids, told_pending, zero_none}
use Rattle.moves.proofs.Changes.{same_parts}
use Rattle.std.specs.Cmp.{nat_cmp_total}
use Rattle.interner.proofs.Lists.{clash, has_place, one_of, place_of}
use Rattle.moves.proofs.Showing.{end_here}

module _ {S : Type 0} (calls : List PendingOp) where
  -- the answer of an open call in the end
  pub told_open : (at id : ℕ) (e : End S) (h : IsOpenAt calls at id) → found_by e h.call ≡ finmap.get e.pending id
  told_open at id e h = told_pending e h.call id h.same h.not_crashed

  module _ (t : Table S) (ends : List (End S)) (shown : AreShown t calls ends) (id : ℕ) (answer : Answer) where
    not_open : ((at : ℕ) → ¬ IsOpenAt calls at id) → (e : End S) → IsIncluded calls e → ¬ FitsAt e id answer
    not_open none e included fits =
        let c = included.pending id fits.0 fits.1 in
        let p = place_of calls c.0 c.1 in
        none p.0 (record { call = c.0; there = p.1; same = c.2; not_crashed = c.3 })

    -- where no open call is of the operation, no end includes it
    pub none_settles : ((at : ℕ) → ¬ IsOpenAt calls at id) → Adds (Along (Settles id answer) ends) [] []
    none_settles none = Adds-none (Along (Settles id answer) ends) [] (λ y s. let p = place_of ends s.0 s.1 in not_open none s.0 (end_here calls t ends shown p.0 s.0 p.1).included s.2.0)

  -- the row without an open call
  module _ (states : List S) (founds : List Found) (once : HasEachOnce calls) (at id : ℕ) (h : IsOpenAt calls at id) (e : End S) where
    told_other : (q : ℕ) (b : Bool) → q ≢ id → found_in_end (settled e id) q b ≡ found_in_end e q b
    told_other q true ne = refl
    told_other q false ne = get-remove_other e.pending id q ne

-- the calls without one
pub without_call : (calls : List PendingOp) → HasEachOnce calls → (at id : ℕ) (c : PendingOp) → slice_get calls at ≡ Some c → c.id ≡ id → filter (is_other id) calls ≡ remove calls at
without_call [] once at id c h same = absurd (clash c _ refl h)
without_call (x ∷ calls) once zero id c h same =
    let is : x.id ≡ id = ap (λ (y : PendingOp). y.id) (one_of x c h) ∙ same in
    filter-no (is_other id) x calls (ap not (eq-eqb x.id id is))
    ∙ all_stay calls (λ d k. λ e. once.0 d k (is ∙ sym e))
  where
    all_stay : (rest : List PendingOp) → ((d : PendingOp) → Contains rest d → d.id ≢ id) → filter (is_other id) rest ≡ rest
    all_stay [] apart = refl
    all_stay (y ∷ rest) apart =
        filter-yes (is_other id) y rest (ap not (ne_eqb y.id id (apart y (Contains-head y rest))))
        ∙ ap (λ l. y ∷ l) (all_stay rest (λ d k. apart d (Contains-tail y rest d k)))
without_call (x ∷ calls) once (suc at) id c h same =
    filter-yes (is_other id) x calls (ap not (ne_eqb x.id id (λ e. once.0 c (has_place calls at c h) (e ∙ sym same))))
    ∙ ap (λ l. x ∷ l) (without_call calls once.1 at id c h same)

get_removed : {X : Type 0} (xs : List X) (at j : ℕ) (x : X) → at < length xs → slice_get (remove xs at) j ≡ Some x → (j < at → slice_get xs j ≡ Some x) × (at ≤ j → slice_get xs (j + 1) ≡ Some x)
get_removed xs at j x within h =
    let lt = slice_get_within (remove xs at) j x h in
    let long = length-remove xs at within in
    let is : get_or (remove xs at) j x ≡ x = get_or_from_slice_get (remove xs at) j x x h in (
      (λ less. slice_get_read xs (length xs) j x refl (omega (arith, less, within)) (sym is ∙ get_or-remove_below xs at x j less within)),
      (λ le. slice_get_read xs (length xs) (j + 1) x refl (omega (arith, lt, long)) (sym is ∙ get_or-remove_above xs at x j le within)),
    )

-- the row without an open call
module _ {S : Type 0} (states : List S) (founds : List Found) (calls : List PendingOp) (once : HasEachOnce calls) (at id : ℕ) (h : IsOpenAt calls at id) (e : End S) where
  apart_id : (c : PendingOp) → Contains calls c → c.crashed ≡ true → c.id ≢ id
  apart_id c k crashed q =
      let p = place_of calls c k in
      ⊎_elim
      (λ here. true≢false (sym crashed ∙ ap (λ (x : PendingOp). x.crashed) (one_of c h.call (sym p.1 ∙ ap (slice_get calls) here ∙ h.there)) ∙ h.not_crashed))
      (λ ne. other_ids calls once p.0 at c h.call p.1 h.there ne (q ∙ sym h.same))
      (cases_eq p.0 at)

  others : (c : PendingOp) → Contains calls c → c.id ≢ id → Contains (filter (is_other id) calls) c
  others c k ne = to_filter (is_other id) calls c k (ap not (ne_eqb c.id id ne))

  included_others : IsIncluded calls e → IsIncluded (filter (is_other id) calls) (settled e id)
  included_others a = record {
    pending = λ q x k.
        ⊎_elim
        (λ same. absurd (clash x _ (get-remove_same e.pending id) (subst (λ i. finmap.get (finmap.remove e.pending id) i ≡ Some x) same k)))
        (λ ne. let c = a.pending q x (sym (get-remove_other e.pending id q ne) ∙ k) in (c.0, others c.0 c.1 (λ z. ne (sym c.2 ∙ z)), c.2, c.3))
        (cases_eq q id);
    crashed = λ q k. let c = a.crashed q k in (c.0, others c.0 c.1 (apart_id c.0 c.1 c.3), c.2, c.3);
  }

  pub says_without : (row next : List ℕ) → Says states founds calls row e → next ≡ remove row (at + 1) → Says states founds (filter (is_other id) calls) next (settled e id)
  says_without row next a is =
      let lt = slice_get_within calls at h.call h.there in
      let long = a.long in
      let within : at + 1 < length row = omega (arith, lt, long) in
      let left : filter (is_other id) calls ≡ remove calls at = without_call calls once at id h.call h.there h.same in
      record {
        long =
            (let m : length (remove row (at + 1)) + 1 ≡ length row = length-remove row (at + 1) within in
            let n : length (remove calls at) + 1 ≡ length calls = length-remove calls at lt in
            let l = ap length left in
            let k = ap length is in
            omega (arith, m, n, l, k, long));
        state = ap (slice_get states) (ap (λ l. get_or l 0 0) is ∙ get_or-remove_below row (at + 1) 0 0 (omega arith) within) ∙ a.state;
        slots = λ j d k.
            let r = get_removed calls at j d lt (ap (λ l. slice_get l j) (sym left) ∙ k) in
            let ne : d.id ≢ id = is_other_id d (from_filter (is_other id) calls d (has_place (filter (is_other id) calls) j d k)).1 in
            let told = told_other calls states founds once at id h e d.id d.crashed ne in
            ⊎_elim
            (λ less.
            let stays : get_or next (j + 1) 0 ≡ get_or row (j + 1) 0 = ap (λ l. get_or l (j + 1) 0) is ∙ get_or-remove_below row (at + 1) 0 (j + 1) (omega (arith, less)) within in
            subst (λ m. IsSlot founds m (found_by (settled e id) d)) (sym stays) (subst (IsSlot founds (get_or row (j + 1) 0)) (sym told) (a.slots j d (r.0 less))))
            (λ le.
            let moved : get_or next (j + 1) 0 ≡ get_or row (j + 1 + 1) 0 = ap (λ l. get_or l (j + 1) 0) is ∙ get_or-remove_above row (at + 1) 0 (j + 1) (omega (arith, le)) within in
            subst (λ m. IsSlot founds m (found_by (settled e id) d)) (sym moved) (subst (IsSlot founds (get_or row (j + 1 + 1) 0)) (sym told) (a.slots (j + 1) d (r.1 le))))
            (cases_lt j at);
        included = included_others a.included;
      }
    where
      is_other_id : (d : PendingOp) → is_other id d ≡ true → d.id ≢ id
      is_other_id d e q = true≢false (sym e ∙ ap not (eq-eqb d.id id q))

-- an end that the open call is not in
module _ {S : Type 0} (founds : List Found) (calls : List PendingOp) (at id : ℕ) (h : IsOpenAt calls at id) (states : List S) (e : End S) (row : List ℕ) (a : Says states founds calls row e) where
  pub out_by_zero : slice_get row (at + 1) ≡ Some 0 → IsOut e id
  out_by_zero zero' =
      not_in_by e id false
      (sym (told_open calls at id e h)
      ∙ zero_none founds (get_or row (at + 1) 0) (found_by e h.call) (get_or_from_slice_get row (at + 1) 0 0 zero') (a.slots at h.call h.there))

  pub zero_by_out : IsOut e id → slice_get row (at + 1) ≡ Some 0
  zero_by_out out =
      let lt = slice_get_within calls at h.call h.there in
      let long = a.long in
      let none : found_by e h.call ≡ None = told_open calls at id e h ∙ not_told e id false out in
      slice_get-get_or row (at + 1) 0 (omega (arith, lt, long)) ∙ ap Some (subst (IsSlot founds (get_or row (at + 1) 0)) none (a.slots at h.call h.there))

pub settled_out : {S : Type 0} (e : End S) (id : ℕ) → IsOut e id → settled e id ≡ e
settled_out e id out =
    same_parts (settled e id) e refl
    (finmap.same_map nat_cmp_total finmap.nat_cmp-IsAntisymmetric _ _ (λ q.
    ⊎_elim
    (λ same. subst (λ i. finmap.get (finmap.remove e.pending id) i ≡ finmap.get e.pending i) (sym same) (get-remove_same e.pending id ∙ sym (not_told e id false out)))
    (λ ne. get-remove_other e.pending id q ne)
    (cases_eq q id)))
    refl
