-- copies, operations that are out, and what a row becomes as a write is put
use Rattle.std.proofs.Common.{◌≡◌, ◌≢◌, ◌↔◌, ℕ, ◌+◌, ◌<◌, ◌≤◌, ℤ, ◌⊎◌, inl, inr, ⊎_elim, Some, Bool, true, false, not, nat_eq, nat_lt, ◌&&◌, ◌||◌, Option, List, [], ◌∷◌, ◌++◌, length, map, take, get_or, suc, refl, sym, ap, ◌∙◌, subst, arith, length-append}
use Rattle.std.specs.List.{AllZip, Contains, filter, list_any}
use Rattle.std.specs.Ordering.{int_eq}
use Rattle.std.proofs.lemmas.Bool.Decides.{nat_tests}
use Rattle.std.proofs.lemmas.List.{take_all, take_more}
use Rattle.std.proofs.lemmas.List.Elements.{AllZip-push}
use Rattle.events.specs.Events.{Mark}
use Rattle.linspec.specs.MarkRule.{AreWellFormed}
use Rattle.linspec.proofs.Lists.{Contains-nil, Contains-cons_cases}
use Rattle.linspec.specs.LeanEnds.{AreLeanEnds, start}
use Rattle.wide_register.specs.declared.calls.Call.{Call}
use Rattle.wide_register.specs.declared.calls.What.{What}
use Rattle.wide_register.specs.declared.calls.What.TheVariants.{Writes, Reads}
use Rattle.wide_register.specs.declared.row.Passed.{Passed}
use Rattle.wide_register.specs.declared.row.Row.{Row}
use Rattle.wide_register.specs.declared.kept.Kept.{Kept}
use Rattle.wide_register.specs.Facts.{AreApart, AreCalls, AreFacts, AreSame, HasLeastGaps, IsAtMostBy, IsCall, IsFirst, IsPassedIn, IsPut, IsSame, IsWithoutId, StoodAfter, end_of, is_read, is_state, moments_of}
use Rattle.wide_register.proofs.Lists.{was_in, passes, stays_in}
use Rattle.wide_register.proofs.Trimming.{zip_from}

not_from : (a b : ℕ) → not (nat_eq a b) ≡ true → a ≢ b
not_from a b h = grind (arith, nat_tests)

not_to : (a b : ℕ) → a ≢ b → not (nat_eq a b) ≡ true
not_to a b h = grind (arith, nat_tests)

-- those with another id
module _ {X : Type 0} (key : X → ℕ) (id : ℕ) (xs ys : List X) where
  abbrev pub is_another : X → Bool
  is_another x = not (nat_eq (key x) id)

  pub others_left : ys ≡ filter is_another xs → (x : X) → Contains ys x ↔ (Contains xs x × (key x ≢ id))
  others_left e x = (
    (λ h. (let k = subst (λ l. Contains l x) e h in (was_in is_another xs x k, not_from (key x) id (passes is_another xs x k)))),
    (λ h. subst (λ l. Contains l x) (sym e) (stays_in is_another xs x h.0 (not_to (key x) id h.1))),
  )

pub without_same : (id : ℕ) (a b c : Row) → IsSame a b → IsWithoutId id b c → IsWithoutId id a c
without_same id a b c s w = record {
  state = w.state ∙ s.state;
  needed = subst (λ l. (i : ℕ) → Contains c.needed.items i ↔ (Contains l i × (i ≢ id))) s.needed w.needed;
  door = w.door ∙ s.door;
  passed = w.passed ∙ s.passed;
}

module _ (write : ℕ) (v : Option ℤ) (gap : ℕ) (state : Option ℤ) (out : ℕ) where
  pub put_made : (row copied made new : Row) → IsWithoutId out made new → IsSame row copied → made.state ≡ state → made.door ≡ gap
      → ((i : ℕ) → i ≢ out → Contains made.needed.items i ↔ ((i ≡ write) ⊎ Contains copied.needed.items i))
      → ((u : ℤ) (t : ℕ) → StoodAfter made.passed.items u t ↔ (StoodAfter copied.passed.items u t ⊎ ((v ≡ Some u) × (t < gap))))
      → IsPut write v gap state out row new
  put_made row copied made new w s state_is door needed passed = record {
    state_is = w.state ∙ state_is;
    needed = λ i. (
      (λ h. (let k = (w.needed i).0 h in (⊎_elim inl (λ o. inr (subst (λ l. Contains l i) s.needed o)) ((needed i k.1).0 k.0), k.1))),
      (λ h. (w.needed i).1 ((needed i h.1).1 (⊎_elim inl (λ o. inr (subst (λ l. Contains l i) (sym s.needed) o)) h.0), h.1)),
    );
    door = w.door ∙ door;
    passed = λ u t. (
      (λ h. ⊎_elim (λ o. inl (subst (λ l. StoodAfter l u t) s.passed o)) (λ g. inr g) ((passed u t).0 (subst (λ l. StoodAfter l u t) w.passed h))),
      (λ h. subst (λ l. StoodAfter l u t) (sym w.passed) ((passed u t).1 (⊎_elim (λ o. inl (subst (λ l. StoodAfter l u t) (sym s.passed) o)) (λ g. inr g) h))),
    );
  }

-- copies of rows
pub copied_more : (xs zs ys : List Row) (i : ℕ) (x y : Row) → zs ≡ xs → i < length zs → x ≡ get_or zs i x → AllZip IsSame (take i xs) ys → IsSame x y → AllZip IsSame (take (i + 1) xs) (ys ++ y ∷ [])
copied_more xs zs ys i x y e h is before s =
    let next : take (i + 1) zs ≡ take i zs ++ x ∷ [] = take_more zs i x h ∙ ap (λ z. take i zs ++ z ∷ []) (sym is) in
    let was : AllZip IsSame (take i zs) ys = subst (λ l. AllZip IsSame (take i l) ys) (sym e) before in
    subst (λ l. AllZip IsSame (take (i + 1) l) (ys ++ y ∷ [])) e
    (subst (λ l. AllZip IsSame l (ys ++ y ∷ [])) (sym next) (AllZip-push IsSame (take i zs) ys x y was s))

pub copied_all : (xs zs ys : List Row) (i : ℕ) → zs ≡ xs → length zs ≤ i → AllZip IsSame (take i xs) ys → AllZip IsSame xs ys
copied_all xs zs ys i e h before = subst (λ l. AllZip IsSame l ys) (take_all i xs (subst (λ l. length l ≤ i) e h)) before

same_back : (x y : Row) → IsSame x y → IsSame y x
same_back x y s = record { state = sym s.state; needed = sym s.needed; door = sym s.door; passed = sym s.passed }

zip_back : (xs ys : List Row) → AllZip IsSame xs ys → AllZip IsSame ys xs
zip_back [] [] z = z
zip_back [] (b ∷ ys) z = absurd z
zip_back (a ∷ xs) [] z = absurd z
zip_back (a ∷ xs) (b ∷ ys) z = (same_back a b z.0, zip_back xs ys z.1)

end_same : (calls : List Call) (x y : Row) → IsSame x y → end_of calls y ≡ end_of calls x
end_same calls x y s = λ t. record {
  state = s.state t;
  needed = λ i. list_any (nat_eq i) (s.needed t);
  door = λ i. list_any (λ (c : Call). nat_eq c.id i && nat_lt c.since (s.door t)) calls && not (list_any (nat_eq i) (s.needed t));
  finds = λ r v. list_any (λ (c : Call). (nat_eq c.id r && is_read c.what)
      && (list_any (λ (p : Passed). int_eq p.value v && nat_lt c.since p.gap) (s.passed t) || is_state (s.state t) v)) calls;
}

ends_same : (calls : List Call) (xs ys : List Row) → AllZip IsSame xs ys → map (end_of calls) xs ≡ map (end_of calls) ys
ends_same calls [] [] z = refl
ends_same calls [] (b ∷ ys) z = absurd z
ends_same calls (a ∷ xs) [] z = absurd z
ends_same calls (a ∷ xs) (b ∷ ys) z = ap (λ e. e ∷ map (end_of calls) xs) (sym (end_same calls a b z.0)) ∙ ap (λ l. end_of calls b ∷ l) (ends_same calls xs ys z.1)

module _ (calls : List Call) where
  at_most_same : (a b x y : Row) → IsSame a b → IsSame x y → IsAtMostBy calls b y → IsAtMostBy calls a x
  at_most_same a b x y s u m = record {
    state = sym s.state ∙ m.state ∙ u.state;
    needed = λ i h. subst (λ l. Contains l i) s.needed (m.needed i (subst (λ l. Contains l i) (sym u.needed) h));
    passed = λ p h. subst (λ l. IsPassedIn l p) u.passed (m.passed p (subst (λ l. Contains l p) (sym s.passed) h));
    fits = λ c h. record {
      needed = λ n o. subst (λ l. Contains l c.id) u.needed ((m.fits c h).needed (subst (λ l. Contains l c.id) (sym s.needed) n) o);
      door = λ d. (let k : c.since < y.door = (m.fits c h).door (subst (λ n. c.since < n) (sym s.door) d.0, (λ n. d.1 (subst (λ l. Contains l c.id) s.needed n))) in
          subst (λ n. c.since < n) u.door k);
    };
  }

  apart_same : (xs ys : List Row) → AllZip IsSame xs ys → AreApart calls xs → AreApart calls ys
  apart_same [] [] z p = tt
  apart_same [] (b ∷ ys) z p = absurd z
  apart_same (a ∷ xs) [] z p = absurd z
  apart_same (a ∷ xs) (b ∷ ys) z p = (
    (λ y h. (let r = zip_from IsSame xs ys z.1 y h in
        let q = p.0 r.0 r.1 in
        ((λ m. q.0 (at_most_same a b r.0 y z.0 r.2 m)), (λ m. q.1 (at_most_same r.0 y a b r.2 z.0 m))))),
    apart_same xs ys z.1 p.1,
  )

same_gaps : (moments : List ℕ) (x y : Row) → IsSame x y → HasLeastGaps moments x → HasLeastGaps moments y
same_gaps moments x y s h p g =
    let l = h p (subst (λ z. Contains z p) s.passed g) in
    ((λ e. l.0 (sym s.state ∙ e)), l.1)

pub facts_same : (k new : Kept) → AreSame k new → (marks : List Mark) → AreFacts k marks → AreFacts new marks
facts_same k new s marks f = record {
  well = f.well;
  now = s.moment ∙ f.now;
  calls = subst (λ c. AreCalls c marks) (sym s.calls) f.calls;
  doors = λ row h. (let r = zip_from IsSame k.rows.items new.rows.items s.rows row h in
      let d : r.0.door ≤ k.moment = f.doors r.0 r.1 in
      let e : row.door ≡ r.0.door = r.2.door in
      let m : new.moment ≡ k.moment = s.moment in
      omega arith);
  gaps = λ row h. (let r = zip_from IsSame k.rows.items new.rows.items s.rows row h in
      subst (λ c. HasLeastGaps (moments_of c) row) (sym s.calls) (same_gaps (moments_of k.calls.items) r.0 row r.2 (f.gaps r.0 r.1)));
  apart = subst (λ c. AreApart c new.rows.items) (sym s.calls) (apart_same k.calls.items k.rows.items new.rows.items s.rows f.apart);
  ends = subst (λ c. AreLeanEnds marks (map (end_of c) new.rows.items)) (sym s.calls)
      (subst (AreLeanEnds marks) (ends_same k.calls.items k.rows.items new.rows.items s.rows) f.ends);
}

pub are_same_back : (k new : Kept) → AreSame k new → AreSame new k
are_same_back k new s = record { moment = sym s.moment; calls = sym s.calls; rows = zip_back k.rows.items new.rows.items s.rows }

-- a history without events
none_well : AreWellFormed []
none_well before after m cut =
    let a : length (before ++ m ∷ after) ≡ length before + suc (length after) = length-append before (m ∷ after) in
    let b : length (before ++ m ∷ after) ≡ 0 = ap length cut in
    absurd (omega arith)

no_call : (id : ℕ) (what : What) → ¬ IsCall [] id what
no_call id Reads h = Contains-nil _ h.0.1
no_call id (Writes v) h = Contains-nil _ h.write.1

no_calls : AreCalls [] []
no_calls = record {
  once = tt;
  since = λ c h. absurd (Contains-nil c h);
  is = λ c h. absurd (Contains-nil c h);
  is_open = λ c h. absurd (Contains-nil c h);
  all = λ id what h. absurd (no_call id what h);
}

first_end : (row : Row) → IsFirst row → end_of [] row ≡ start
first_end row f = λ t. record {
  state = f.state t;
  needed = λ i. list_any (nat_eq i) (f.needed t);
  door = λ i. list_any (λ (c : Call). nat_eq c.id i && nat_lt c.since (f.door t)) [] && not (list_any (nat_eq i) (f.needed t));
  finds = λ r v. false;
}

pub first_facts : (k : Kept) (row : Row) → k.moment ≡ 0 → k.calls.items ≡ [] → k.rows.items ≡ row ∷ [] → IsFirst row → AreFacts k []
first_facts k row moment calls rows first = record {
  well = none_well;
  now = moment;
  calls = subst (λ c. AreCalls c []) (sym calls) no_calls;
  doors = λ r h. ⊎_elim
      (λ e. (let d : row.door ≡ 0 = first.door in let same : row.door ≡ r.door = ap (λ (x : Row). x.door) e in omega arith))
      (λ n. absurd (Contains-nil r n))
      (Contains-cons_cases row [] r (subst (λ l. Contains l r) rows h));
  gaps = λ r h. ⊎_elim
      (λ e. subst (HasLeastGaps (moments_of k.calls.items)) e (λ p g. absurd (Contains-nil p (subst (λ l. Contains l p) first.passed g))))
      (λ n. absurd (Contains-nil r n))
      (Contains-cons_cases row [] r (subst (λ l. Contains l r) rows h));
  apart = subst (AreApart k.calls.items) (sym rows) ((λ y h. absurd (Contains-nil y h)), tt);
  ends = subst (λ c. AreLeanEnds [] (map (end_of c) k.rows.items)) (sym calls)
      (subst (λ l. AreLeanEnds [] (map (end_of []) l)) (sym rows) (ap (λ e. e ∷ []) (sym (first_end row first))));
}
