-- products by other numbers
use Rattle.std.proofs.Common.{◌≡◌, ◌↔◌, ◌⊎◌, inl, inr, ⊎_elim, ◌+◌, ◌-◌, ◌^◌, ◌<◌, ◌≤◌, ℕ, zero, suc, Option, Some, None, List, [], ◌∷◌, ◌++◌, length, length-append, slice_get, get_or, refl, sym, ap, ◌∙◌, subst, arith, add-one}
use Rattle.std.proofs.lemmas.Bool.{cases_eq}
use Rattle.std.proofs.lemmas.List.{get_or_append_left}
use Rattle.std.proofs.lemmas.Option.{get_or_from_slice_get, same_Some, slice_get_within}
use Rattle.models.specs.declared.finding.Found.{Found}
use Rattle.events.specs.Events.{IsPrefixOf}
use Rattle.linspec.specs.Ends.{End}
use Rattle.interner.specs.Numbers.{IsOnceIn, IsSlot}
use Rattle.interner.proofs.Lists.{get_front, get_last}
use Rattle.moves.specs.declared.pending_op.PendingOp.{PendingOp}
use Rattle.moves.specs.declared.table.Table.{Table}
use Rattle.moves.specs.EndSteps.{Along}
use Rattle.moves.specs.Tables.{AreShown, IsThat, Shows, ShownWith, found_by, with_rows}
use Rattle.moves.proofs.Rows.{slot_more}
use Rattle.moves.proofs.Showing.{no_get}
use Rattle.products.specs.Products.{AreApart, AreIn, Has, HasWith, IsIn, IsInAt, IsInOne, Product, Puts, rows_in}
use Rattle.products.proofs.Leaving.{puts_with}
use Rattle.products.proofs.Numbers.{by_bits, has_alone, has_nothing}
use Rattle.product_ends.specs.Conversion.{AreRenumbered, IsRenumbered, IsSameFound}
use Rattle.product_ends.specs.Transitions.{IsAlone}
use Rattle.product_ends.proofs.Saying.{end_in, row_in, shown_by_products}

-- the number of one thing
module _ (founds others : List Found) where
  pub same_some : (number at other : ℕ) (found : Found) → number ≡ at + 1 → slice_get founds at ≡ Some found → IsSlot others other (Some found) → IsSameFound founds others number other
  same_some number at other found is here slot = (Some found, (at, is, here), slot)

  pub same_on : (more : List Found) → IsPrefixOf others more → (number other : ℕ) → IsSameFound founds others number other → IsSameFound founds more number other
  same_on more front number other s = (s.0, s.1, slot_more others more other s.0 front s.2)

  pub renumbered_on : (more : List Found) → IsPrefixOf others more → (set other : ℕ) → IsRenumbered founds others set other → IsRenumbered founds more set other
  renumbered_on more front set other r = record {
    each = λ n has. let m = r.each n has in (m.0, m.1, same_on more front n m.0 m.2);
    only = λ m has. let n = r.only m has in (n.0, n.1, same_on more front n.0 m n.2);
  }

  -- a set of one number alone
  pub renumbered_alone : (set other : ℕ) → 2 ^ 63 ≤ set → (to : ℕ) × IsAlone other to × IsSameFound founds others (set - 2 ^ 63) to → IsRenumbered founds others set other
  renumbered_alone set other high one = record {
    each = λ n has.
        let e = (has_alone set n high).0 has in
        let is : set - 2 ^ 63 ≡ n = omega (arith, e) in
        (one.0, (one.1 one.0).1 refl, subst (λ k. IsSameFound founds others k one.0) is one.2);
    only = λ m has. (
      set - 2 ^ 63,
      (has_alone set (set - 2 ^ 63) high).1 (omega (arith, high)),
      subst (λ k. IsSameFound founds others (set - 2 ^ 63) k) (sym ((one.1 m).0 has)) one.2,
    );
  }

-- the numbers of the set below this one
pub record IsRenumberedTo (founds others : List Found) (set other n : ℕ) : Type 0 where
  pub each : (k : ℕ) → k < n → Has set k → (m : ℕ) × Has other m × IsSameFound founds others k m
  pub only : (m : ℕ) → Has other m → (k : ℕ) × Has set k × IsSameFound founds others k m

module _ (founds others : List Found) (set other : ℕ) where
  pub renumbered_none : other ≡ 0 → IsRenumberedTo founds others set other 0
  renumbered_none none = record {
    each = λ k lt has. absurd (omega (arith, lt));
    only = λ m has. absurd (has_nothing m (subst (λ s. Has s m) none has));
  }

  module _ (more : List Found) (n : ℕ) (front : IsPrefixOf others more) (r : IsRenumberedTo founds others set other n) where
    pub renumbered_skip : ¬ Has set n → IsRenumberedTo founds more set other (n + 1)
    renumbered_skip none = record {
      each = λ k lt has.
          ⊎_elim
          (λ e. absurd (none (subst (Has set) e has)))
          (λ ne. let m = r.each k (omega (arith, lt, ne)) has in (m.0, m.1, same_on founds others more front k m.0 m.2))
          (cases_eq k n);
      only = λ m has. let k = r.only m has in (k.0, k.1, same_on founds others more front k.0 m k.2);
    }

    pub renumbered_more : (one both : ℕ) → Has set n → (to : ℕ) × IsAlone one to × IsSameFound founds more n to → ((m : ℕ) → Has both m ↔ (Has other m ⊎ Has one m)) → IsRenumberedTo founds more set both (n + 1)
    renumbered_more one both has that is = record {
      each = λ k lt h.
          ⊎_elim
          (λ e. (that.0, (is that.0).1 (inr ((that.1 that.0).1 refl)), subst (λ i. IsSameFound founds more i that.0) (sym e) that.2))
          (λ ne. let m = r.each k (omega (arith, lt, ne)) h in (m.0, (is m.0).1 (inl m.1), same_on founds others more front k m.0 m.2))
          (cases_eq k n);
      only = λ m h.
          ⊎_elim
          (λ o. let k = r.only m o in (k.0, k.1, same_on founds others more front k.0 m k.2))
          (λ o. (n, has, subst (λ i. IsSameFound founds more n i) (sym ((that.1 m).0 o)) that.2))
          ((is m).0 h);
    }

  pub renumbered_bits : (n : ℕ) → set < 2 ^ 63 → 63 ≤ n → IsRenumberedTo founds others set other n → IsRenumbered founds others set other
  renumbered_bits n low all r = record {
    each = λ k has. let few = ((by_bits set k low).0 has).0 in r.each k (omega (arith, few, all)) has;
    only = r.only;
  }

-- one set more
pub sets_none : (founds others : List Found) (sets new : List ℕ) → new ≡ [] → AreRenumbered founds others sets new 0
sets_none founds others sets new none = record { long = ap length none; each = λ k lt. absurd (omega (arith, lt)) }

pub sets_more : (founds others more : List Found) (sets new : List ℕ) (n set other : ℕ) → IsPrefixOf others more → set ≡ get_or sets n 0 → AreRenumbered founds others sets new n → IsRenumbered founds more set other
    → AreRenumbered founds more sets (new ++ other ∷ []) (n + 1)
sets_more founds others more sets new n set other front here are is = record {
  long = length-append new (other ∷ []) ∙ ap (λ m. m + 1) are.long;
  each = λ k lt.
      ⊎_elim
      (λ e.
      let last : get_or (new ++ other ∷ []) k 0 ≡ other = ap (λ m. get_or (new ++ other ∷ []) m 0) (e ∙ sym are.long) ∙ get_or_from_slice_get (new ++ other ∷ []) (length new) other 0 (get_last new other) in
      subst (λ s. IsRenumbered founds more (get_or sets k 0) s) (sym last) (subst (λ s. IsRenumbered founds more s other) (here ∙ sym (ap (λ m. get_or sets m 0) e)) is))
      (λ ne.
      let less : k < n = omega (arith, lt, ne) in
      let long = are.long in
      let stays = get_or_append_left new (other ∷ []) 0 k (omega (arith, less, long)) in
      subst (λ s. IsRenumbered founds more (get_or sets k 0) s) (sym stays) (renumbered_on founds others more front (get_or sets k 0) (get_or new k 0) (are.each k less)))
      (cases_eq k n);
}

-- numbers that are related place by place
abbrev pub AreRelated : (ℕ → ℕ → Type 0) → List ℕ → List ℕ → Type 0
AreRelated R numbers others =
    (length others ≡ length numbers) × ((k : ℕ) → k < length numbers → R (get_or numbers k 0) (get_or others k 0))

abbrev pub IsMatched : (ℕ → ℕ → Type 0) → List ℕ → List ℕ → List ℕ → Type 0
IsMatched R sets others numbers = (new : List ℕ) × AreIn others new × AreRelated R numbers new

matched : (R : ℕ → ℕ → Type 0) (sets others : List ℕ) → length others ≡ length sets
    → ((k : ℕ) → k < length sets → (n : ℕ) → Has (get_or sets k 0) n → (m : ℕ) × Has (get_or others k 0) m × R n m) → (numbers : List ℕ) → AreIn sets numbers → IsMatched R sets others numbers
matched R [] [] long each [] are = ([], tt, (refl, (λ k lt. absurd (omega (arith, lt)))))
matched R [] [] long each (n ∷ numbers) are = absurd are
matched R [] (other ∷ others) long each numbers are = absurd (omega (arith, long))
matched R (set ∷ sets) [] long each numbers are = absurd (omega (arith, long))
matched R (set ∷ sets) (other ∷ others) long each [] are = absurd are
matched R (set ∷ sets) (other ∷ others) long each (n ∷ numbers) are =
    let m = each 0 (omega arith) n are.0 in
    let r = matched R sets others (omega (arith, long)) (λ k lt. each (suc k) (omega (arith, lt))) numbers are.1 in
    (m.0 ∷ r.0, (m.1, r.1), (ap suc r.2.0, both n m.0 numbers r.0 m.2 r.2.1))
  where
    both : (n m : ℕ) (numbers new : List ℕ) → R n m → ((k : ℕ) → k < length numbers → R (get_or numbers k 0) (get_or new k 0)) → (k : ℕ) → k < length (n ∷ numbers) → R (get_or (n ∷ numbers) k 0) (get_or (m ∷ new) k 0)
    both n m numbers new first rest zero lt = first
    both n m numbers new first rest (suc k) lt = rest k (omega (arith, lt))

-- the rows say the same by these tables
pub record IsSameRow {S : Type 0} (t u : Table S) (row new : List ℕ) : Type 0 where
  pub long : length new ≡ length row
  pub state : (s : S) × (slice_get t.states (get_or row 0 0) ≡ Some s) × (slice_get u.states (get_or new 0 0) ≡ Some s)
  pub slots : (i : ℕ) → i + 1 < length row → IsSameFound t.founds u.founds (get_or row (i + 1) 0) (get_or new (i + 1) 0)

one_found : (founds : List Found) (slot : ℕ) (p q : Option Found) → IsSlot founds slot p → IsSlot founds slot q → p ≡ q
one_found founds slot None None a b = refl
one_found founds slot None (Some y) a b = absurd (let e = b.1 in omega (arith, a, e))
one_found founds slot (Some x) None a b = absurd (let e = a.1 in omega (arith, e, b))
one_found founds slot (Some x) (Some y) a b =
    let same : a.0 ≡ b.0 = (let e = a.1 in let f = b.1 in omega (arith, e, f)) in
    sym a.2 ∙ ap (slice_get founds) same ∙ b.2

module _ {S : Type 0} (t u : Table S) where
  shows_same : (calls : List PendingOp) (row new : List ℕ) (e : End S) → IsSameRow t u row new → Shows t calls row e → Shows u calls new e
  shows_same calls row new e r a = record {
    long = r.long ∙ a.long;
    state = r.state.2 ∙ sym r.state.1 ∙ a.state;
    slots = λ i c h.
        let lt = slice_get_within calls i c h in
        let long = a.long in
        let s = r.slots i (omega (arith, lt, long)) in
        subst (IsSlot u.founds (get_or new (i + 1) 0)) (one_found t.founds (get_or row (i + 1) 0) s.0 (found_by e c) s.1 (a.slots i c h)) s.2;
    included = a.included;
  }

  same_row_on : (v : Table S) → IsPrefixOf u.states v.states → IsPrefixOf u.founds v.founds → (row new : List ℕ) → IsSameRow t u row new → IsSameRow t v row new
  same_row_on v states founds row new r = record {
    long = r.long;
    state = (r.state.0, r.state.1, get_front u.states v.states (get_or new 0 0) r.state.0 states r.state.2);
    slots = λ i lt. same_on t.founds u.founds v.founds founds (get_or row (i + 1) 0) (get_or new (i + 1) 0) (r.slots i lt);
  }

  -- the rows of one product
  module _ (first number : ℕ) (state : S) (sets others : List ℕ) (old : slice_get t.states first ≡ Some state) (new_state : slice_get u.states number ≡ Some state) (are : AreRenumbered t.founds u.founds sets others (length sets)) where
    row_of_parts : (numbers new : List ℕ) → AreRelated (IsSameFound t.founds u.founds) numbers new → IsSameRow t u (first ∷ numbers) (number ∷ new)
    row_of_parts numbers new r = record {
      long = ap suc r.0;
      state = (state, old, new_state);
      slots = λ i lt. subst (λ k. IsSameFound t.founds u.founds (get_or (first ∷ numbers) k 0) (get_or (number ∷ new) k 0)) (sym (add-one i)) (r.1 i (omega (arith, lt)));
    }

    pub row_to : (row : List ℕ) → IsIn (first, sets) row → (new : List ℕ) × IsIn (number, others) new × IsSameRow t u row new
    row_to [] is = absurd is
    row_to (n ∷ numbers) is =
        let m = matched (IsSameFound t.founds u.founds) sets others are.long (λ k lt. (are.each k lt).each) numbers is.1 in
        (number ∷ m.0, (refl, m.1), subst (λ k. IsSameRow t u (k ∷ numbers) (number ∷ m.0)) (sym is.0) (row_of_parts numbers m.0 m.2))

    pub row_back : (new : List ℕ) → IsIn (number, others) new → (row : List ℕ) × IsIn (first, sets) row × IsSameRow t u row new
    row_back [] is = absurd is
    row_back (m ∷ new) is =
        let long = are.long in
        let k = matched (λ m n. IsSameFound t.founds u.founds n m) others sets (sym long) (λ k lt. (are.each k (omega (arith, lt, long))).only) new is.1 in
        let rows : length k.0 ≡ length new = k.2.0 in
        (first ∷ k.0, (refl, k.1), subst (λ i. IsSameRow t u (first ∷ k.0) (i ∷ new)) (sym is.0) (row_of_parts k.0 new (sym rows, (λ i lt. k.2.1 i (omega (arith, lt, rows))))))

-- so far the rows of the products before this place have rows that say the same
pub record AreSaidAgain {S : Type 0} (t u : Table S) (kept products : List Product) (n : ℕ) : Type 0 where
  pub states_once : IsOnceIn u.states
  pub founds_once : IsOnceIn u.founds
  pub each : (at : ℕ) (row : List ℕ) → at < n → IsInAt kept at row → (new : List ℕ) × IsInOne products new × IsSameRow t u row new
  pub only : (new : List ℕ) → IsInOne products new → (row : List ℕ) × IsInOne kept row × IsSameRow t u row new

pub said_none : {S : Type 0} (t u : Table S) (kept products : List Product) → u.states ≡ [] → u.founds ≡ [] → products ≡ [] → AreSaidAgain t u kept products 0
said_none t u kept products states founds none = record {
  states_once = λ i j x h k. absurd (no_get u.states i x states h);
  founds_once = λ i j x h k. absurd (no_get u.founds i x founds h);
  each = λ at row lt is. absurd (omega (arith, lt));
  only = λ new is. absurd (no_get products is.0 is.1.0 none is.1.1);
}

pub said_more : {S : Type 0} (t u v : Table S) (kept old new : List Product) (n first number : ℕ) (state : S) (sets others : List ℕ) → IsPrefixOf u.states v.states → IsPrefixOf u.founds v.founds → IsOnceIn v.states → (IsOnceIn u.founds → IsOnceIn v.founds)
    → slice_get kept n ≡ Some (first, sets) → slice_get t.states first ≡ Some state → slice_get v.states number ≡ Some state → AreRenumbered t.founds v.founds sets others (length sets)
    → Puts (number, others) 0 old new → AreSaidAgain t u kept old n → AreSaidAgain t v kept new (n + 1)
said_more t u v kept old new n first number state sets others states founds states_once founds_once here old_state new_state are puts so_far = record {
  states_once = states_once;
  founds_once = founds_once so_far.founds_once;
  each = λ at row lt is.
      ⊎_elim
      (λ e.
      let that = subst (λ p. IsIn p row) (same_Some is.0 (first, sets) (sym is.1 ∙ ap (slice_get kept) e ∙ here)) is.2 in
      let r = row_to t v first number state sets others old_state new_state are row that in
      (r.0, (brings r.0).1 (inr r.1), r.2))
      (λ ne.
      let r = so_far.each at row (omega (arith, lt, ne)) is in
      (r.0, (brings r.0).1 (inl r.1), same_row_on t u v states founds row r.0 r.2))
      (cases_eq at n);
  only = λ row is.
      ⊎_elim
      (λ k. let r = so_far.only row k in (r.0, r.1, same_row_on t u v states founds r.0 row r.2))
      (λ k. let r = row_back t v first number state sets others old_state new_state are row k in (r.0, (n, ((first, sets), here, r.1)), r.2))
      ((brings row).0 is);
}
  where
    brings : HasWith (IsIn (number, others)) old new
    brings = puts_with (number, others) old new puts

pub said_all : {S : Type 0} (t u : Table S) (kept products : List Product) → AreApart products → AreSaidAgain t u kept products (length kept) → (calls : List PendingOp) (ends : List (End S)) → AreShown (with_rows t (rows_in kept)) calls ends
    → ShownWith (with_rows u (rows_in products)) calls [] (Along IsThat ends)
said_all t u kept products apart all calls ends shown =
    shown_by_products u calls all.states_once all.founds_once products apart (Along IsThat ends)
    (λ new is.
    let r = all.only new is in
    let e = end_in t calls kept ends shown r.0 r.1 in
    (e.0, shows_same t u calls r.0 new e.0 r.2 e.1, (e.0, e.2, refl)))
    (λ e p.
    let r = row_in t calls kept ends shown p.0 p.1 in
    let m = all.each r.1.0 r.0 (slice_get_within kept r.1.0 r.1.1.0 r.1.1.1) r.1.1 in
    (m.0, m.1, subst (Shows u calls m.0) p.2 (shows_same t u calls r.0 m.0 p.0 m.2 r.2)))
