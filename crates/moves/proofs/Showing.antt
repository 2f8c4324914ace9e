-- lists of ends that rows say
use Rattle.std.proofs.Common.{◌≡◌, ℕ, ◌+◌, ◌<◌, ◌≤◌, inl, inr, ⊎_elim, Some, List, [], ◌∷◌, ◌++◌, length, take, drop, zero, suc, slice_get, get_or, refl, sym, ap, ◌∙◌, subst, arith, length-append}
use Rattle.std.specs.List.{Contains}
use Rattle.std.proofs.lemmas.List.{get_or_append_left, take-append-le, take_all}
use Rattle.std.proofs.lemmas.List.Elements.{Contains-push_cases}
use Rattle.std.proofs.lemmas.Option.{slice_get_within, get_or_from_slice_get}
use Rattle.models.specs.Objects.{Object}
use Rattle.events.specs.Events.{IsPrefixOf}
use Rattle.linspec.specs.Ends.{End}
use Rattle.moves.specs.declared.pending_op.PendingOp.{PendingOp}
use Rattle.moves.specs.declared.table.Table.{Table}
use Rattle.moves.specs.EndSteps.{Adds, TakesLast, Next, Along, Grows}
use Rattle.models.specs.declared.finding.Found.{Found}
use Rattle.moves.specs.KeptEnds.{AreIncluded}
use Rattle.moves.specs.Tables.{AreLed, AreShown, KeepsRows, OnlyAdds, OnlyTries, Says, Shows, ShownWith, Widens, row_led, rows_of, with_rows}
use Rattle.interner.specs.Numbers.{IsOnceIn}
use Rattle.words.specs.Puts.{IsPut}
use Rattle.moves.proofs.Adding.{IsPrefixOf-itself, IsPrefixOf-push, IsPrefixOf-trans, Adds-old, Adds-new, Adds-change, Adds-more, Adds-more_from, Adds-start}
use Rattle.interner.proofs.Lists.{one_more, clash, place_of, has_place, some_at, get_push}
use Rattle.moves.proofs.Reaching.{reached_next}
use Rattle.moves.proofs.Rows.{one_end, one_row, says_more}

-- tables that widen
pub widens_itself : {S : Type 0} (t : Table S) → Widens t t
widens_itself t = record { states = IsPrefixOf-itself t.states; founds = IsPrefixOf-itself t.founds; states_once = λ h. h; founds_once = λ h. h }

pub widens_on : {S : Type 0} (t u v : Table S) → Widens t u → Widens u v → Widens t v
widens_on t u v a b = record {
  states = IsPrefixOf-trans t.states u.states v.states a.states b.states;
  founds = IsPrefixOf-trans t.founds u.founds v.founds a.founds b.founds;
  states_once = λ h. b.states_once (a.states_once h);
  founds_once = λ h. b.founds_once (a.founds_once h);
}

-- the rows stay, and go on to stay
pub keeps_itself : {S : Type 0} (t : Table S) → KeepsRows t t
keeps_itself t = record { widens = widens_itself t; rows = refl }

pub keeps_on : {S : Type 0} (t u v : Table S) → KeepsRows t u → KeepsRows u v → KeepsRows t v
keeps_on t u v a b = record { widens = widens_on t u v a.widens b.widens; rows = b.rows ∙ a.rows }

pub adds_itself : {S : Type 0} (t : Table S) (n : ℕ) → OnlyAdds t t n n
adds_itself t n = record { widens = widens_itself t; front = IsPrefixOf-itself (rows_of t); never_falls = omega arith }

module _ {S : Type 0} {t u v : Table S} {a b c : ℕ} where
  pub tries_on : OnlyTries t u a b → OnlyTries u v b c → OnlyTries t v a c
  tries_on one more = record {
    widens = widens_on t u v one.widens more.widens;
    rows = more.rows ∙ one.rows;
    never_falls = (let x = one.never_falls in let y = more.never_falls in omega (arith, x, y));
  }

  pub adds_on : OnlyAdds t u a b → OnlyAdds u v b c → OnlyAdds t v a c
  adds_on one more = record {
    widens = widens_on t u v one.widens more.widens;
    front = IsPrefixOf-trans (rows_of t) (rows_of u) (rows_of v) one.front more.front;
    never_falls = (let x = one.never_falls in let y = more.never_falls in omega (arith, x, y));
  }

-- a table whose states or whose found things are more
pub widens_states : {S : Type 0} (t u : Table S) (states : List S) → Widens t u → IsPrefixOf u.states states → (IsOnceIn u.states → IsOnceIn states) → Widens t (record { alloc = u.alloc; states = states; founds = u.founds; rows = u.rows })
widens_states t u states w front once = record {
  states = IsPrefixOf-trans t.states u.states states w.states front;
  founds = w.founds;
  states_once = λ h. once (w.states_once h);
  founds_once = w.founds_once;
}

pub widens_founds : {S : Type 0} (t u : Table S) (founds : List Found) → Widens t u → IsPrefixOf u.founds founds → (IsOnceIn u.founds → IsOnceIn founds) → Widens t (record { alloc = u.alloc; states = u.states; founds = founds; rows = u.rows })
widens_founds t u founds w front once = record {
  states = w.states;
  founds = IsPrefixOf-trans t.founds u.founds founds w.founds front;
  states_once = w.states_once;
  founds_once = λ h. once (w.founds_once h);
}

pub widens_rows : {S : Type 0} (t u : Table S) → u.states ≡ t.states → u.founds ≡ t.founds → Widens t u
widens_rows t u a b = record {
  states = subst (IsPrefixOf t.states) (sym a) (IsPrefixOf-itself t.states);
  founds = subst (IsPrefixOf t.founds) (sym b) (IsPrefixOf-itself t.founds);
  states_once = λ h. subst IsOnceIn (sym a) h;
  founds_once = λ h. subst IsOnceIn (sym b) h;
}

-- a table without rows
pub no_get : {X : Type 0} (xs : List X) (i : ℕ) (x : X) → xs ≡ [] → slice_get xs i ≡ Some x → ⊥
no_get xs i x none h = clash x _ (ap (λ l. slice_get l i) none) h

pub shown_none : {S : Type 0} (calls : List PendingOp) (t : Table S) → t.states ≡ [] → t.founds ≡ [] → rows_of t ≡ [] → AreShown t calls []
shown_none calls t a b c = record {
  states_once = λ i j x h k. absurd (no_get t.states i x a h);
  founds_once = λ i j x h k. absurd (no_get t.founds i x b h);
  long = ap length c;
  each = λ i row e h k. absurd (no_get (rows_of t) i row c h);
}

-- the table alone, with no rows
pub shown_no_rows : {S : Type 0} (calls left : List PendingOp) (t : Table S) (ends : List (End S)) → AreShown t calls ends → (rows : List (List ℕ)) → rows ≡ [] → AreShown (with_rows t rows) left []
shown_no_rows calls left t ends shown rows none = record {
  states_once = shown.states_once;
  founds_once = shown.founds_once;
  long = ap length none;
  each = λ i row e h k. absurd (no_get rows i row none h);
}

pub shown_first : {S : Type 0} (calls : List PendingOp) (t : Table S) (R : End S → End S → Type 0) → AreShown t calls [] → ShownWith t calls [] (Along R [])
shown_first calls t R a = record { more = []; shown = a; front = IsPrefixOf-itself []; adds = Adds-start R [] }

module _ {S : Type 0} (calls : List PendingOp) (t u : Table S) where
  pub shows_more : (row : List ℕ) (e : End S) → Widens t u → Shows t calls row e → Shows u calls row e
  shows_more row e w a = says_more t.states t.founds calls u.states u.founds row e w.states w.founds a

  pub shown_more : (ends : List (End S)) → Widens t u → rows_of u ≡ rows_of t → AreShown t calls ends → AreShown u calls ends
  shown_more ends w same a = record {
    states_once = w.states_once a.states_once;
    founds_once = w.founds_once a.founds_once;
    long = ap length same ∙ a.long;
    each = λ i row e h k. shows_more row e w (a.each i row e (subst (λ l. slice_get l i ≡ Some row) same h) k);
  }

  -- a row is put with the others
  module _ (ends : List (End S)) (row : List ℕ) (f : End S) (w : Widens t u) (a : AreShown t calls ends) (shows : Shows t calls row f) where
    there : Contains (rows_of t) row → Contains ends f
    there h =
        let p = place_of (rows_of t) row h in
        let lt : p.0 < length ends = (let b = slice_get_within (rows_of t) p.0 row p.1 in let l = a.long in omega (arith, b, l)) in
        let e = some_at ends p.0 lt in
        subst (Contains ends) (one_end t.states t.founds calls row e.0 f (a.each p.0 row e.0 p.1 e.1) shows) (has_place ends p.0 e.0 e.1)

    back : Contains ends f → Contains (rows_of t) row
    back h =
        let p = place_of ends f h in
        let lt : p.0 < length (rows_of t) = (let b = slice_get_within ends p.0 f p.1 in let l = a.long in omega (arith, b, l)) in
        let r = some_at (rows_of t) p.0 lt in
        subst (Contains (rows_of t)) (one_row t.states t.founds calls a.states_once a.founds_once r.0 row f (a.each p.0 r.0 f r.1 p.1) shows) (has_place (rows_of t) p.0 r.0 r.1)

    pushed : rows_of u ≡ rows_of t ++ row ∷ [] → (i : ℕ) (r : List ℕ) (e : End S) → slice_get (rows_of u) i ≡ Some r → slice_get (ends ++ f ∷ []) i ≡ Some e → Shows u calls r e
    pushed push i r e h k =
        ⊎_elim
        (λ p. ⊎_elim
        (λ q. shows_more r e w (a.each i r e p q))
        (λ q. absurd (let b = slice_get_within (rows_of t) i r p in let l = a.long in omega (arith, b, l, q.0)))
        (get_push ends f i e k))
        (λ p. ⊎_elim
        (λ q. absurd (let b = slice_get_within ends i e q in let l = a.long in omega (arith, b, l, p.0)))
        (λ q. subst (λ x. Shows u calls x e) p.1 (subst (Shows u calls row) q.1 (shows_more row f w shows)))
        (get_push ends f i e k))
        (get_push (rows_of t) row i r (subst (λ l. slice_get l i ≡ Some r) push h))

    pub shown_put : IsPut row (rows_of t) (rows_of u) → ShownWith u calls ends (λ g. f ≡ g)
    shown_put put =
        ⊎_elim
        (λ h. record { more = ends; shown = shown_more ends w h.1 a; front = IsPrefixOf-itself ends; adds = Adds-old ends f (there h.0) })
        (λ h. record {
          more = ends ++ f ∷ [];
          shown = record {
            states_once = w.states_once a.states_once;
            founds_once = w.founds_once a.founds_once;
            long =
                ap length h.1 ∙ length-append (rows_of t) (row ∷ []) ∙ ap (λ n. n + 1) a.long ∙ sym (length-append ends (f ∷ []));
            each = pushed h.1;
          };
          front = IsPrefixOf-push ends f;
          adds = Adds-new ends f (λ k. h.0 (back k));
        })
        put

-- the end of the row at a place
pub end_at : {S : Type 0} (calls : List PendingOp) (t : Table S) (ends : List (End S)) → AreShown t calls ends → (i : ℕ) (row : List ℕ) → slice_get (rows_of t) i ≡ Some row → (e : End S) × (slice_get ends i ≡ Some e) × Shows t calls row e
end_at calls t ends a i row h =
    let b = slice_get_within (rows_of t) i row h in
    let l = a.long in
    let e = some_at ends i (omega (arith, b, l)) in
    (e.0, e.1, a.each i row e.0 h e.1)

-- rows that stay where more are put
pub front_stays : (old new : List (List ℕ)) (i : ℕ) → i < length old → IsPrefixOf old new → get_or new i [] ≡ get_or old i []
front_stays old new i lt front = ap (λ l. get_or l i []) (sym front.1) ∙ get_or_append_left old front.0 [] i lt

pub front_within : (old new : List (List ℕ)) (i : ℕ) → i < length old → IsPrefixOf old new → i < length new
front_within old new i lt front = let long = ap length (sym front.1) ∙ length-append old front.0 in omega (arith, lt, long)

pub front_by : (old same new : List (List ℕ)) (row : List ℕ) → same ≡ old → IsPut row same new → IsPrefixOf old new
front_by old same new row is put =
    subst (λ l. IsPrefixOf l new) is
    (⊎_elim (λ h. subst (IsPrefixOf same) (sym h.1) (IsPrefixOf-itself same)) (λ h. subst (IsPrefixOf same) (sym h.1) (IsPrefixOf-push same row)) put)

-- the row of the end at a place
pub end_here : {S : Type 0} (calls : List PendingOp) (t : Table S) (ends : List (End S)) → AreShown t calls ends → (i : ℕ) (e : End S) → slice_get ends i ≡ Some e → Says t.states t.founds calls (get_or (rows_of t) i []) e
end_here calls t ends a i e h =
    let b = slice_get_within ends i e h in
    let l = a.long in
    let r = some_at (rows_of t) i (omega (arith, b, l)) in
    subst (λ row. Says t.states t.founds calls row e) (sym (get_or_from_slice_get (rows_of t) i r.0 [] r.1)) (a.each i r.0 e r.1 h)

-- the calls include what the ends do
pub included_shown : {S : Type 0} (calls : List PendingOp) (t : Table S) (ends : List (End S)) → AreShown t calls ends → AreIncluded calls ends
included_shown calls t ends a e h = let p = place_of ends e h in (end_here calls t ends a p.0 e p.1).included

-- calls one after another, from one end
module _ (o : Object) (calls : List PendingOp) (e : End o.State) (ends : List (End o.State)) (i : ℕ) (c : PendingOp) (here : slice_get calls i ≡ Some c) where
  within : i < length calls
  within = slice_get_within calls i c here

  is_here : c ≡ get_or calls i c
  is_here = sym (get_or_from_slice_get calls i c c here)

  pub next_there : (from : ℕ) → from ≤ i → (t u : Table o.State) → (s : ShownWith t calls ends (Next o (drop from (take i calls)) e)) → ShownWith u calls s.more (TakesLast o e c)
      → ShownWith u calls ends (Next o (drop from (take (i + 1) calls)) e)
  next_there from low t u s p = record {
    more = p.more;
    shown = p.shown;
    front = IsPrefixOf-trans ends s.more p.more s.front p.front;
    adds = Adds-more_from (TakesLast o e) calls ends s.more p.more from i c low within is_here s.adds p.adds;
  }

-- rows by targets, put one after another
pub led_more : {S : Type 0} (calls : List PendingOp) (first t u : Table S) (row : List ℕ) (at : ℕ) (targets : List (ℕ × ℕ)) (place : ℕ) (to : ℕ × ℕ) (ends : List (End S)) → slice_get targets place ≡ Some to
    → t.states ≡ first.states → t.founds ≡ first.founds → u.states ≡ t.states → u.founds ≡ t.founds → (f : End S) → Shows first calls (row_led row at to) f
    → IsPut (row_led row at to) (rows_of t) (rows_of u) → ShownWith t calls ends (Along (λ x g. Shows first calls (row_led row at x) g) (take place targets))
    → ShownWith u calls ends (Along (λ x g. Shows first calls (row_led row at x) g) (take (place + 1) targets))
led_more {S} calls first t u row at targets place to ends here states founds same_states same_founds f shows put s =
    let R : ℕ × ℕ → End S → Type 0 = (λ x g. Shows first calls (row_led row at x) g) in
    let now : Shows t calls (row_led row at to) f = shows_more calls first t (row_led row at to) f (widens_rows first t states founds) shows in
    let p = shown_put calls t u s.more (row_led row at to) f (widens_rows t u same_states same_founds) s.shown now put in
    record {
      more = p.more;
      shown = p.shown;
      front = IsPrefixOf-trans ends s.more p.more s.front p.front;
      adds = Adds-more R targets ends s.more p.more place to (slice_get_within targets place to here) (sym (get_or_from_slice_get targets place to to here)) s.adds
          (Adds-change (λ g. f ≡ g) (R to) s.more p.more (λ g e. subst (Shows first calls (row_led row at to)) e shows) (λ g k. one_end first.states first.founds calls (row_led row at to) f g shows k) p.adds);
    }

-- none, and one alone
pub led_none : {S : Type 0} (calls : List PendingOp) (t : Table S) (R : ℕ × ℕ → End S → Type 0) (ends : List (End S)) → AreShown t calls ends → ShownWith t calls ends (Along R [])
led_none calls t R ends shown = record { more = ends; shown = shown; front = IsPrefixOf-itself ends; adds = Adds-start R ends }

pub led_one : {S : Type 0} (calls : List PendingOp) (t u : Table S) (row : List ℕ) (at : ℕ) (to : ℕ × ℕ) (ends : List (End S)) → u.states ≡ t.states → u.founds ≡ t.founds → (f : End S) → Shows t calls (row_led row at to) f
    → IsPut (row_led row at to) (rows_of t) (rows_of u) → AreShown t calls ends → ShownWith u calls ends (Along (λ x g. Shows t calls (row_led row at x) g) (to ∷ []))
led_one calls t u row at to ends states founds f shows put shown =
    led_more calls t t u row at (to ∷ []) 0 to ends refl refl refl states founds f shows put (led_none calls t (λ x g. Shows t calls (row_led row at x) g) ends shown)

-- which are those that the call leads to
pub all_led : (o : Object) (calls : List PendingOp) (t u : Table o.State) (row : List ℕ) (at : ℕ) (e : End o.State) (c : PendingOp) (targets : List (ℕ × ℕ)) (ends : List (End o.State)) → AreLed o t calls row at e c targets
    → ShownWith u calls ends (Along (λ x g. Shows t calls (row_led row (at + 1) x) g) targets) → ShownWith u calls ends (TakesLast o e c)
all_led o calls t u row at e c targets ends led s = record {
  more = s.more;
  shown = s.shown;
  front = s.front;
  adds = Adds-change (Along (λ x g. Shows t calls (row_led row (at + 1) x) g) targets) (TakesLast o e c) ends s.more
      (λ g h. let f = led.each h.0 h.1 in subst (TakesLast o e c) (one_end t.states t.founds calls (row_led row (at + 1) h.0) f.0 g f.2 h.2) f.1)
      (λ g last. led.all g last) s.adds;
}

none_between : {X : Type 0} (n : ℕ) (xs : List X) → drop n (take n xs) ≡ []
none_between zero xs = refl
none_between (suc n) [] = refl
none_between (suc n) (x ∷ xs) = none_between n xs

pub none_yet : (o : Object) (calls : List PendingOp) (first : ℕ) (e : End o.State) (ends : List (End o.State)) → Adds (Next o (drop first (take first calls)) e) ends ends
none_yet o calls first e ends = subst (λ l. Adds (Next o l e) ends ends) (sym (none_between first calls)) (Adds-start (TakesLast o e) ends)

-- an end that no call is left for
none_left : {X : Type 0} (n : ℕ) (xs : List X) → length xs ≤ n → drop n xs ≡ []
none_left zero [] le = refl
none_left zero (x ∷ xs) le = absurd (omega (arith, le))
none_left (suc n) [] le = refl
none_left (suc n) (x ∷ xs) le = none_left n xs (omega (arith, le))

pub none_more : (o : Object) (calls : List PendingOp) (t : Table o.State) (first : ℕ) (e : End o.State) (ends : List (End o.State)) → length calls ≤ first → AreShown t calls ends → ShownWith t calls ends (Next o (drop first calls) e)
none_more o calls t first e ends le shown = record {
  more = ends;
  shown = shown;
  front = IsPrefixOf-itself ends;
  adds = subst (λ l. Adds (Next o l e) ends ends) (sym (none_left first calls le)) (Adds-start (TakesLast o e) ends);
}

-- the ends that were gone through lead nowhere else
abbrev pub AreDone : (o : Object) → List PendingOp → List (End o.State) → ℕ → Type 0
AreDone o calls ends n = (e g : End o.State) → Contains (take n ends) e → Next o calls e g → Contains ends g

-- all calls from one end more
module _ (o : Object) (calls : List PendingOp) (start more : List (End o.State)) (at : ℕ) (e : End o.State) (here : slice_get more at ≡ Some e) (u : Table o.State) (w : ShownWith u calls more (Next o calls e)) where
  pub grows_on : Grows o calls start more → Grows o calls start w.more
  grows_on grows = record {
    kept = λ x h. (w.adds.each x).1 (inl (grows.kept x h));
    reached = λ x h. ⊎_elim (grows.reached x) (λ n. reached_next o calls start e x (grows.reached e (has_place more at e here)) n) ((w.adds.each x).0 h);
    once = λ h. w.adds.once (grows.once h);
  }

  first : take (at + 1) w.more ≡ take at more ++ e ∷ []
  first =
      let lt = slice_get_within more at e here in
      ap (take (at + 1)) (sym w.front.1) ∙ take-append-le (at + 1) more w.front.0 (omega (arith, lt)) ∙ one_more more at e lt (sym (get_or_from_slice_get more at e e here))

  pub done_on : AreDone o calls more at → AreDone o calls w.more (at + 1)
  done_on done x g h n =
      ⊎_elim
      (λ k. (w.adds.each g).1 (inl (done x g k n)))
      (λ is. (w.adds.each g).1 (inr (subst (λ d. Next o calls d g) (sym is) n)))
      (Contains-push_cases (take at more) e x (subst (λ l. Contains l x) first h))

-- an end more is put
pub shown_after : {S : Type 0} (calls : List PendingOp) (t u v : Table S) (R : End S → End S → Type 0) (cs : List (End S)) (i : ℕ) (c f : End S) (row : List ℕ) → slice_get cs i ≡ Some c → ((g : End S) → f ≡ g → R c g) → ((g : End S) → R c g → f ≡ g)
    → Widens t u → rows_of u ≡ rows_of t → Shows u calls row f → Widens u v → IsPut row (rows_of u) (rows_of v) → ShownWith t calls [] (Along R (take i cs)) → ShownWith v calls [] (Along R (take (i + 1) cs))
shown_after calls t u v R cs i c f row here to from w same shows x put s =
    let p = shown_put calls u v s.more row f x (shown_more calls t u s.more w same s.shown) shows put in
    record {
      more = p.more;
      shown = p.shown;
      front = IsPrefixOf-trans [] s.more p.more s.front p.front;
      adds = Adds-more R cs [] s.more p.more i c (slice_get_within cs i c here) (sym (get_or_from_slice_get cs i c c here)) s.adds (Adds-change (λ g. f ≡ g) (R c) s.more p.more to from p.adds);
    }

-- the rows that were gone through are all
pub all_done : (o : Object) (calls : List PendingOp) (ends : List (End o.State)) (n : ℕ) → length ends ≤ n → AreDone o calls ends n → (e f : End o.State) → Contains ends e → Next o calls e f → Contains ends f
all_done o calls ends n le done e f h next = done e f (subst (λ l. Contains l e) (sym (take_all n ends le)) h) next
