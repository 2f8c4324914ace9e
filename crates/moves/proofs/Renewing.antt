-- rows that say the same by other numbers of states
use Rattle.std.proofs.Common.{◌≡◌, ℕ, ◌+◌, ◌<◌, ⊎_elim, Some, List, [], ◌∷◌, ◌++◌, length, slice_get, get_or, sym, ap, ◌∙◌, subst, arith, length-append}
use Rattle.std.proofs.lemmas.Bool.{cases_eq}
use Rattle.std.proofs.lemmas.List.{get_or-set_same, get_or-set_other, length-set}
use Rattle.std.proofs.lemmas.Option.{slice_get_within}
use Rattle.events.specs.Events.{IsPrefixOf}
use Rattle.linspec.specs.Ends.{End}
use Rattle.models.specs.declared.finding.Found.{Found}
use Rattle.moves.specs.declared.pending_op.PendingOp.{PendingOp}
use Rattle.moves.specs.declared.table.Table.{Table}
use Rattle.moves.specs.Tables.{AreShown, IsSameTable, Says, SaysTheSame, SayTheSame, ShowTheSame, found_by, rows_of}
use Rattle.interner.specs.Numbers.{IsOnceIn, IsSlot}
use Rattle.words.specs.Puts.{IsPut}
use Rattle.interner.proofs.Lists.{get_front, get_last, get_left, one_of, some_at}
use Rattle.moves.proofs.Showing.{shown_more, widens_rows}

module _ {S : Type 0} (states others : List S) (founds : List Found) (calls : List PendingOp) (row new : List ℕ) (e : End S) (same : SaysTheSame states others row new) where
  first : get_or new 0 0 ≡ same.0
  first = ap (λ l. get_or l 0 0) same.5 ∙ get_or-set_same row 0 same.0 0 same.4

  rest : (i : ℕ) → get_or new (i + 1) 0 ≡ get_or row (i + 1) 0
  rest i = ap (λ l. get_or l (i + 1) 0) same.5 ∙ get_or-set_other row 0 (i + 1) same.0 0 (λ q. omega (arith, q))

  long : length new ≡ length row
  long = ap length same.5 ∙ length-set row 0 same.0

  pub says_again : Says states founds calls row e → Says others founds calls new e
  says_again a = record {
    long = long ∙ a.long;
    state = ap (slice_get others) first ∙ same.3 ∙ sym same.2 ∙ a.state;
    slots = λ i c h. subst (λ m. IsSlot founds m (found_by e c)) (sym (rest i)) (a.slots i c h);
    included = a.included;
  }

  pub says_before : Says others founds calls new e → Says states founds calls row e
  says_before a = record {
    long = sym long ∙ a.long;
    state = same.2 ∙ sym same.3 ∙ sym (ap (slice_get others) first) ∙ a.state;
    slots = λ i c h. subst (λ m. IsSlot founds m (found_by e c)) (rest i) (a.slots i c h);
    included = a.included;
  }

-- all rows
module _ {S : Type 0} (t u : Table S) (same : SayTheSame t u (length (rows_of t))) (calls : List PendingOp) (ends : List (End S)) where
  pub shown_again : AreShown t calls ends → AreShown u calls ends
  shown_again a = record {
    states_once = same.once;
    founds_once = subst IsOnceIn (sym same.founds) a.founds_once;
    long = same.long ∙ a.long;
    each = λ i new e h k.
        let lt : i < length (rows_of t) = (let b = slice_get_within (rows_of u) i new h in let l = same.long in omega (arith, b, l)) in
        let r = some_at (rows_of t) i lt in
        let x = same.each i r.0 lt r.1 in
        subst (λ l. Says u.states u.founds calls l e) (one_of x.0 new (sym x.1 ∙ h))
        (subst (λ f. Says u.states f calls x.0 e) (sym same.founds) (says_again t.states u.states t.founds calls r.0 x.0 e x.2 (a.each i r.0 e r.1 k)));
  }

  pub shown_before : IsOnceIn t.states → AreShown u calls ends → AreShown t calls ends
  shown_before once a = record {
    states_once = once;
    founds_once = subst IsOnceIn same.founds a.founds_once;
    long = sym same.long ∙ a.long;
    each = λ i row e h k.
        let x = same.each i row (slice_get_within (rows_of t) i row h) h in
        says_before t.states u.states t.founds calls row x.0 e x.2 (subst (λ f. Says u.states f calls x.0 e) same.founds (a.each i x.0 e x.1 k));
  }

-- a row more
module _ {S : Type 0} (t u v : Table S) (n : ℕ) (row new : List ℕ) (a : SayTheSame t u n) (here : slice_get (rows_of t) n ≡ Some row) (founds : v.founds ≡ u.founds) (front : IsPrefixOf u.states v.states) (once : IsOnceIn v.states)
    (says : SaysTheSame t.states v.states row new) (put : IsPut new (rows_of u) (rows_of v)) (more : n < length (rows_of v)) where
  pushed : rows_of v ≡ rows_of u ++ new ∷ []
  pushed = ⊎_elim (λ p. absurd (let l = ap length p.1 in let k = a.long in omega (arith, l, k, more))) (λ p. p.1) put

  pub say_more : SayTheSame t v (n + 1)
  say_more = record {
    founds = founds ∙ a.founds;
    once = once;
    long = ap length pushed ∙ length-append (rows_of u) (new ∷ []) ∙ ap (λ m. m + 1) a.long;
    each = λ i r less h.
        ⊎_elim
        (λ q. (
          new,
          ap (λ l. slice_get l i) pushed ∙ ap (slice_get (rows_of u ++ new ∷ [])) (q ∙ sym a.long) ∙ get_last (rows_of u) new,
          subst (λ l. SaysTheSame t.states v.states l new) (one_of row r (sym here ∙ ap (slice_get (rows_of t)) (sym q) ∙ h)) says,
        ))
        (λ ne.
        let x = a.each i r (omega (arith, less, ne)) h in (
          x.0,
          ap (λ l. slice_get l i) pushed ∙ get_left (rows_of u) (new ∷ []) i x.0 x.1,
          (x.2.0, x.2.1, x.2.2, get_front u.states v.states x.2.0 x.2.1 front x.2.3, x.2.4, x.2.5),
        ))
        (cases_eq i n);
  }

-- a table that is the same
pub shown_same : {S : Type 0} (t u : Table S) → IsSameTable t u → ShowTheSame t u
shown_same t u s calls ends = (
  shown_more calls t u ends (widens_rows t u s.states s.founds) s.rows,
  shown_more calls u t ends (widens_rows u t (sym s.states) (sym s.founds)) (sym s.rows),
)
