-- copies, operations that are out, and what a row becomes as a write is put
use Rattle.std.proofs.Common.{◌≡◌, ◌≢◌, ◌↔◌, ℕ, ◌+◌, ◌<◌, ◌≤◌, ℤ, ◌⊎◌, inl, inr, ⊎_elim, Bool, true, not, nat_eq, nat_lt, ◌&&◌, Option, Some, List, [], ◌∷◌, ◌++◌, length, map, take, get_or, suc, refl, sym, ap, ◌∙◌, subst, arith, length-append}
use Rattle.std.specs.List.{AllZip, Contains, filter, list_any}
use Rattle.std.specs.Ordering.{int_eq}
use Rattle.std.proofs.lemmas.Bool.Decides.{nat_tests}
use Rattle.std.proofs.lemmas.List.{take_all, take_more}
use Rattle.std.proofs.lemmas.List.Elements.{AllZip-push, Contains-push, Contains-append_left, Contains-push_cases}
use Rattle.events.specs.Events.{Mark}
use Rattle.linspec.specs.MarkRule.{AreWellFormed}
use Rattle.linspec.proofs.Lists.{Contains-nil, Contains-cons_cases}
use Rattle.linspec.specs.LeanEnds.{start}
use Rattle.linspec.specs.CasEnds.{AreCasEnds}
use Rattle.wide_cas_register.specs.declared.calls.Call.{Call}
use Rattle.wide_cas_register.specs.declared.calls.What.{What}
use Rattle.wide_cas_register.specs.declared.calls.What.TheVariants.{Writes, Sets, Reads}
use Rattle.wide_cas_register.specs.declared.row.Found.{Found}
use Rattle.wide_cas_register.specs.declared.row.Row.{Row}
use Rattle.wide_cas_register.specs.declared.kept.Kept.{Kept}
use Rattle.wide_cas_register.specs.Facts.{AreCalls, AreFacts, AreSame, IsCall, IsFirst, IsFoundBy, IsPut, IsSame, IsSet, IsWithoutId, end_of, is_set}
use Rattle.wide_cas_register.proofs.Lists.{was_in, passes, stays_in, zip_from}

not_from : (a b : ℕ) → not (nat_eq a b) ≡ true → a ≢ b
not_from a b h = grind (arith, nat_tests)

not_to : (a b : ℕ) → a ≢ b → not (nat_eq a b) ≡ true
not_to a b h = grind (arith, nat_tests)

-- those with another id
module _ {X : Type 0} (key : X → ℕ) (id : ℕ) (xs ys : List X) where
  abbrev pub is_another : X → Bool
  is_another x = not (nat_eq (key x) id)

  pub others_left : ys ≡ filter is_another xs → (x : X) → Contains ys x ↔ (Contains xs x × (key x ≢ id))
  others_left e x = (
    (λ h. (let k = subst (λ l. Contains l x) e h in (was_in is_another xs x k, not_from (key x) id (passes is_another xs x k)))),
    (λ h. subst (λ l. Contains l x) (sym e) (stays_in is_another xs x h.0 (not_to (key x) id h.1))),
  )

pub without_same : (id : ℕ) (a b c : Row) → IsSame a b → IsWithoutId id b c → IsWithoutId id a c
without_same id a b c s w = record {
  state = w.state ∙ s.state;
  needed = subst (λ l. (i : ℕ) → Contains c.needed.items i ↔ (Contains l i × (i ≢ id))) s.needed w.needed;
  door = w.door ∙ s.door;
  finds = subst (λ l. (f : Found) → Contains c.finds.items f ↔ (Contains l f × (f.read ≢ id))) s.finds w.finds;
}

-- one more operation is needed, and a value is found at a gap
module _ (calls : List Call) (write : ℕ) (v : ℤ) (gap : ℕ) (row copied made : Row) (s : IsSame row copied) (needed : made.needed.items ≡ copied.needed.items ++ write ∷ [])
    (finds : (f : Found) → Contains made.finds.items f ↔ (Contains copied.finds.items f ⊎ IsFoundBy calls gap v f)) where
  needed_made : (i : ℕ) → Contains made.needed.items i ↔ ((i ≡ write) ⊎ Contains row.needed.items i)
  needed_made i = (
    (λ h. ⊎_elim (λ o. inr (subst (λ l. Contains l i) s.needed o)) (λ e. inl (sym e)) (Contains-push_cases copied.needed.items write i (subst (λ l. Contains l i) needed h))),
    (λ h. subst (λ l. Contains l i) (sym needed) (⊎_elim
        (λ e. subst (Contains (copied.needed.items ++ write ∷ [])) (sym e) (Contains-push copied.needed.items write))
        (λ o. Contains-append_left copied.needed.items (write ∷ []) i (subst (λ l. Contains l i) (sym s.needed) o))
        h)),
  )

  finds_made : (f : Found) → Contains made.finds.items f ↔ (Contains row.finds.items f ⊎ IsFoundBy calls gap v f)
  finds_made f = (
    (λ h. ⊎_elim (λ o. inl (subst (λ l. Contains l f) s.finds o)) (λ g. inr g) ((finds f).0 h)),
    (λ h. (finds f).1 (⊎_elim (λ o. inl (subst (λ l. Contains l f) (sym s.finds) o)) (λ g. inr g) h)),
  )

  pub put_made : (state : Option ℤ) → made.state ≡ state → made.door ≡ gap → IsPut calls write v gap state row made
  put_made state is door = record { state_is = is; needed = needed_made; door = door; finds = finds_made }

  pub set_made : made.state ≡ Some v → made.door ≡ copied.door → IsSet calls write v gap row made
  set_made is door = record { state_is = is; needed = needed_made; door = door ∙ s.door; finds = finds_made }

-- copies of rows
pub copied_more : (xs zs ys : List Row) (i : ℕ) (x y : Row) → zs ≡ xs → i < length zs → x ≡ get_or zs i x → AllZip IsSame (take i xs) ys → IsSame x y → AllZip IsSame (take (i + 1) xs) (ys ++ y ∷ [])
copied_more xs zs ys i x y e h is before s =
    let next : take (i + 1) zs ≡ take i zs ++ x ∷ [] = take_more zs i x h ∙ ap (λ z. take i zs ++ z ∷ []) (sym is) in
    let was : AllZip IsSame (take i zs) ys = subst (λ l. AllZip IsSame (take i l) ys) (sym e) before in
    subst (λ l. AllZip IsSame (take (i + 1) l) (ys ++ y ∷ [])) e
    (subst (λ l. AllZip IsSame l (ys ++ y ∷ [])) (sym next) (AllZip-push IsSame (take i zs) ys x y was s))

pub copied_all : (xs zs ys : List Row) (i : ℕ) → zs ≡ xs → length zs ≤ i → AllZip IsSame (take i xs) ys → AllZip IsSame xs ys
copied_all xs zs ys i e h before = subst (λ l. AllZip IsSame l ys) (take_all i xs (subst (λ l. length l ≤ i) e h)) before

same_back : (x y : Row) → IsSame x y → IsSame y x
same_back x y s = record { state = sym s.state; needed = sym s.needed; door = sym s.door; finds = sym s.finds }

zip_back : (xs ys : List Row) → AllZip IsSame xs ys → AllZip IsSame ys xs
zip_back [] [] z = z
zip_back [] (b ∷ ys) z = absurd z
zip_back (a ∷ xs) [] z = absurd z
zip_back (a ∷ xs) (b ∷ ys) z = (same_back a b z.0, zip_back xs ys z.1)

pub end_same : (calls : List Call) (x y : Row) → IsSame x y → end_of calls y ≡ end_of calls x
end_same calls x y s = λ t. record {
  state = s.state t;
  needed = λ i. list_any (nat_eq i) (s.needed t);
  door = λ i. list_any (λ (c : Call). nat_eq c.id i && (nat_lt c.since (s.door t) && not (is_set c.what))) calls && not (list_any (nat_eq i) (s.needed t));
  finds = λ r v. list_any (λ (f : Found). nat_eq f.read r && int_eq f.value v) (s.finds t);
}

ends_same : (calls : List Call) (xs ys : List Row) → AllZip IsSame xs ys → map (end_of calls) xs ≡ map (end_of calls) ys
ends_same calls [] [] z = refl
ends_same calls [] (b ∷ ys) z = absurd z
ends_same calls (a ∷ xs) [] z = absurd z
ends_same calls (a ∷ xs) (b ∷ ys) z = ap (λ e. e ∷ map (end_of calls) xs) (sym (end_same calls a b z.0)) ∙ ap (λ l. end_of calls b ∷ l) (ends_same calls xs ys z.1)

pub facts_same : (k new : Kept) → AreSame k new → (marks : List Mark) → AreFacts k marks → AreFacts new marks
facts_same k new s marks f = record {
  well = f.well;
  now = s.moment ∙ f.now;
  calls = subst (λ c. AreCalls c marks) (sym s.calls) f.calls;
  doors = λ row h. (let r = zip_from IsSame k.rows.items new.rows.items s.rows row h in
      let d : r.0.door ≤ k.moment = f.doors r.0 r.1 in
      let e : row.door ≡ r.0.door = r.2.door in
      let m : new.moment ≡ k.moment = s.moment in
      omega arith);
  ends = subst (λ c. AreCasEnds marks (map (end_of c) new.rows.items)) (sym s.calls)
      (subst (AreCasEnds marks) (ends_same k.calls.items k.rows.items new.rows.items s.rows) f.ends);
}

pub are_same_back : (k new : Kept) → AreSame k new → AreSame new k
are_same_back k new s = record { moment = sym s.moment; calls = sym s.calls; rows = zip_back k.rows.items new.rows.items s.rows }

-- a history without events
none_well : AreWellFormed []
none_well before after m cut =
    let a : length (before ++ m ∷ after) ≡ length before + suc (length after) = length-append before (m ∷ after) in
    let b : length (before ++ m ∷ after) ≡ 0 = ap length cut in
    absurd (omega arith)

no_call : (id : ℕ) (what : What) → ¬ IsCall [] id what
no_call id Reads h = Contains-nil _ h.0.1
no_call id (Writes v) h = Contains-nil _ h.write.1
no_call id (Sets a b) h = Contains-nil _ h.cas.1

no_calls : AreCalls [] []
no_calls = record {
  once = tt;
  since = λ c h. absurd (Contains-nil c h);
  is = λ c h. absurd (Contains-nil c h);
  is_open = λ c h. absurd (Contains-nil c h);
  all = λ id what h. absurd (no_call id what h);
}

first_end : (row : Row) → IsFirst row → end_of [] row ≡ start
first_end row f = λ t. record {
  state = f.state t;
  needed = λ i. list_any (nat_eq i) (f.needed t);
  door = λ i. list_any (λ (c : Call). nat_eq c.id i && (nat_lt c.since (f.door t) && not (is_set c.what))) [] && not (list_any (nat_eq i) (f.needed t));
  finds = λ r v. list_any (λ (g : Found). nat_eq g.read r && int_eq g.value v) (f.finds t);
}

pub first_facts : (k : Kept) (row : Row) → k.moment ≡ 0 → k.calls.items ≡ [] → k.rows.items ≡ row ∷ [] → IsFirst row → AreFacts k []
first_facts k row moment calls rows first = record {
  well = none_well;
  now = moment;
  calls = subst (λ c. AreCalls c []) (sym calls) no_calls;
  doors = λ r h. ⊎_elim
      (λ e. (let d : row.door ≡ 0 = first.door in let same : row.door ≡ r.door = ap (λ (x : Row). x.door) e in omega arith))
      (λ n. absurd (Contains-nil r n))
      (Contains-cons_cases row [] r (subst (λ l. Contains l r) rows h));
  ends = subst (λ c. AreCasEnds [] (map (end_of c) k.rows.items)) (sym calls)
      (subst (λ l. AreCasEnds [] (map (end_of []) l)) (sym rows) (ap (λ e. e ∷ []) (sym (first_end row first))));
}
