-- the rows that an event makes of rows and of fronts are gathered
use Rattle.std.proofs.Common.{◌≡◌, ℕ, ◌+◌, ◌<◌, ◌≤◌, ◌⊎◌, inl, inr, ⊎_elim, Option, Some, None, List, [], ◌∷◌, ◌++◌, length, take, get_or, sym, ap, ◌∙◌, subst}
use Rattle.std.specs.Prelude.{IfSome}
use Rattle.std.specs.List.{Contains}
use Rattle.std.proofs.lemmas.List.{take_all, take_more}
use Rattle.std.proofs.lemmas.List.Elements.{Contains-append_left, Contains-push, Contains-push_cases}
use Rattle.linspec.proofs.Lists.{Contains-nil}
use Rattle.wide_cas_register.specs.declared.calls.Call.{Call}
use Rattle.wide_cas_register.specs.declared.row.Row.{Row}
use Rattle.wide_cas_register.specs.declared.fronts.Front.{Front}
use Rattle.wide_cas_register.specs.declared.next.Effect.{Effect}
use Rattle.wide_cas_register.specs.declared.next.Effect.TheVariants.{Keeps, Begins, Leaves, Fails, EndsWrite, EndsCas, EndsRead, EndsNil, Dies}
use Rattle.wide_cas_register.specs.declared.kept.Kept.{Kept}
use Rattle.wide_cas_register.specs.Facts.{AllOfFront, AllOfRow, AreApart, IsKeptIn, OfFront, OfRow}
use Rattle.wide_cas_register.specs.Fronts.{AreGathered, IsMade}
use Rattle.wide_cas_register.proofs.Keeping.{kept_still}

-- what holds of all that is made holds so too
module _ (calls : List Call) (P Q : Row → Type 0) (so : (r : Row) → P r → Q r) where
  pub all_row_so : (effect : Effect) (row : Row) → AllOfRow calls effect row P → AllOfRow calls effect row Q
  all_row_so Keeps row h = (h.0, h.1, so h.0 h.2)
  all_row_so (Begins id) row h = (h.0, h.1, so h.0 h.2)
  all_row_so (Leaves id) row h = (h.0, h.1, so h.0 h.2)
  all_row_so (Fails id) row h = λ n. (let k = h n in (k.0, k.1, so k.0 k.2))
  all_row_so (EndsWrite w v) row h = ((λ n. (let k = h.0 n in (k.0, k.1, so k.0 k.2))), (λ n d. (let k = h.1 n d in (k.0, k.1, so k.0 k.2))))
  all_row_so (EndsCas c a b) row h = λ n. (let k = h n in (k.0, k.1, so k.0 k.2))
  all_row_so (EndsRead r v) row h = ((λ n. (let k = h.0 n in (k.0, k.1, so k.0 k.2))), (λ n d c j f. (let k = h.1 n d c j f in (k.0, k.1, so k.0 k.2))))
  all_row_so (EndsNil id) row h = tt
  all_row_so Dies row h = tt

  pub all_front_so : (now : ℕ) (effect : Effect) (f : Front) → AllOfFront calls now effect f P → AllOfFront calls now effect f Q
  all_front_so now Keeps f h = tt
  all_front_so now (Begins id) f h = tt
  all_front_so now (Leaves id) f h = tt
  all_front_so now (Fails id) f h = tt
  all_front_so now (EndsWrite w v) f h = λ can. (let k = h can in (k.0, k.1, so k.0 k.2))
  all_front_so now (EndsCas c a b) f h = λ can. (let k = h can in (k.0, k.1, so k.0 k.2))
  all_front_so now (EndsRead r v) f h = λ e. (let k = h e in (k.0, k.1, so k.0 k.2))
  all_front_so now (EndsNil id) f h = (h.0, h.1, so h.0 h.2)
  all_front_so now Dies f h = tt

module _ (k : Kept) (effect : Effect) (later : List Call) where
  abbrev Made : List Row → List Front → Row → Type 0
  Made rows fronts r = IsMade k.calls.items k.moment effect rows fronts r

  pub none_gathered : (left : List Row) → left ≡ [] → AreGathered k effect later [] [] left
  none_gathered left e = subst (AreGathered k effect later [] []) (sym e) (record {
    each = λ r h. absurd (Contains-nil r h);
    all_rows = λ row h. absurd (Contains-nil row h);
    all_fronts = λ f h. absurd (Contains-nil f h);
    apart = tt;
  })

  -- one more row
  module _ (rows zs : List Row) (e : zs ≡ rows) (i : ℕ) where
    module _ (row : Row) (h : i < length zs) (is : row ≡ get_or zs i row) (left new made : List Row) (g : AreGathered k effect later (take i rows) [] left) where
      next : take (i + 1) rows ≡ take i rows ++ row ∷ []
      next = subst (λ l. take (i + 1) l ≡ take i l ++ row ∷ []) e (take_more zs i row h ∙ ap (λ z. take i zs ++ z ∷ []) (sym is))

      wider : (r : Row) → Made (take i rows) [] r → Made (take (i + 1) rows) [] r
      wider r m = ⊎_elim
          (λ a. inl (a.0, subst (λ l. Contains l a.0) (sym next) (Contains-append_left (take i rows) (row ∷ []) a.0 a.1), a.2))
          (λ b. inr b)
          m

      pub row_gathered : ((r : Row) → Contains made r → OfRow k.calls.items effect row r) → AllOfRow k.calls.items effect row (Contains made)
          → ((r : Row) → Contains new r → Contains left r ⊎ Contains made r) → ((r : Row) → Contains left r → IsKeptIn later new r)
          → ((r : Row) → Contains made r → IsKeptIn later new r) → (AreApart later left → AreApart later new) → AreGathered k effect later (take (i + 1) rows) [] new
      row_gathered each all put old kept apart = record {
        each = λ r j. ⊎_elim
            (λ o. wider r (g.each r o))
            (λ m. inl (row, subst (λ l. Contains l row) (sym next) (Contains-push (take i rows) row), each r m))
            (put r j);
        all_rows = λ x j. ⊎_elim
            (λ o. all_row_so k.calls.items (IsKeptIn later left) (IsKeptIn later new) (kept_still later left new old) effect x (g.all_rows x o))
            (λ q. subst (λ y. AllOfRow k.calls.items effect y (IsKeptIn later new)) q (all_row_so k.calls.items (Contains made) (IsKeptIn later new) kept effect row all))
            (Contains-push_cases (take i rows) row x (subst (λ l. Contains l x) next j));
        all_fronts = λ f j. absurd (Contains-nil f j);
        apart = apart g.apart;
      }

    pub rows_gathered : length zs ≤ i → (left : List Row) → AreGathered k effect later (take i rows) [] left → AreGathered k effect later rows [] left
    rows_gathered h left g = subst (λ l. AreGathered k effect later l [] left) (take_all i rows (subst (λ l. length l ≤ i) e h)) g

  -- one more front
  module _ (rows : List Row) (fronts : List Front) (i : ℕ) where
    pub fronts_gathered : length fronts ≤ i → (left : List Row) → AreGathered k effect later rows (take i fronts) left → AreGathered k effect later rows fronts left
    fronts_gathered h left g = subst (λ l. AreGathered k effect later rows l left) (take_all i fronts h) g

    module _ (front : Front) (h : i < length fronts) (is : front ≡ get_or fronts i front) (left : List Row) (g : AreGathered k effect later rows (take i fronts) left) where
      further : take (i + 1) fronts ≡ take i fronts ++ front ∷ []
      further = take_more fronts i front h ∙ ap (λ z. take i fronts ++ z ∷ []) (sym is)

      still_of : (r : Row) → Made rows (take i fronts) r → Made rows (take (i + 1) fronts) r
      still_of r m = ⊎_elim
          (λ a. inl a)
          (λ b. inr (b.0, subst (λ l. Contains l b.0) (sym further) (Contains-append_left (take i fronts) (front ∷ []) b.0 b.1), b.2))
          m

      pub front_passed : (found : Option Row) → found ≡ None → AllOfFront k.calls.items k.moment effect front (λ r. found ≡ Some r) → AreGathered k effect later rows (take (i + 1) fronts) left
      front_passed found none all = record {
        each = λ r j. still_of r (g.each r j);
        all_rows = g.all_rows;
        all_fronts = λ f j. ⊎_elim
            (g.all_fronts f)
            (λ q. subst (λ y. AllOfFront k.calls.items k.moment effect y (IsKeptIn later left)) q
            (all_front_so k.calls.items (λ r. found ≡ Some r) (IsKeptIn later left) (λ r e. absurd (let no : None ≡ Some r = sym none ∙ e in let f : ⊥ = cc in f)) k.moment effect front all))
            (Contains-push_cases (take i fronts) front f (subst (λ l. Contains l f) further j));
        apart = g.apart;
      }

      pub front_gathered : (row : Row) (found : Option Row) → found ≡ Some row → (new : List Row) → IfSome found (OfFront k.calls.items k.moment effect front)
          → AllOfFront k.calls.items k.moment effect front (λ r. found ≡ Some r) → ((r : Row) → Contains new r → Contains left r ⊎ (r ≡ row))
          → ((r : Row) → Contains left r → IsKeptIn later new r) → IsKeptIn later new row → (AreApart later left → AreApart later new) → AreGathered k effect later rows (take (i + 1) fronts) new
      front_gathered row found some new of all put old kept apart =
          let made : OfFront k.calls.items k.moment effect front row = subst (λ o. IfSome o (OfFront k.calls.items k.moment effect front)) some of in
          let here : Contains (take (i + 1) fronts) front = subst (λ l. Contains l front) (sym further) (Contains-push (take i fronts) front) in
          record {
            each = λ r j. ⊎_elim
                (λ o. still_of r (g.each r o))
                (λ q. inr (front, here, subst (OfFront k.calls.items k.moment effect front) (sym q) made))
                (put r j);
            all_rows = λ x j. all_row_so k.calls.items (IsKeptIn later left) (IsKeptIn later new) (kept_still later left new old) effect x (g.all_rows x j);
            all_fronts = λ f j. ⊎_elim
                (λ o. all_front_so k.calls.items (IsKeptIn later left) (IsKeptIn later new) (kept_still later left new old) k.moment effect f (g.all_fronts f o))
                (λ q. subst (λ y. AllOfFront k.calls.items k.moment effect y (IsKeptIn later new)) q
                (all_front_so k.calls.items (λ r. found ≡ Some r) (IsKeptIn later new)
                (λ r e. (let same : row ≡ r = (let both : Some row ≡ Some r = sym some ∙ e in cc) in subst (IsKeptIn later new) same kept)) k.moment effect front all))
                (Contains-push_cases (take i fronts) front f (subst (λ l. Contains l f) further j));
            apart = apart g.apart;
          }
