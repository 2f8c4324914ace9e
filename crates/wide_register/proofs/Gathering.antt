-- the rows that an event makes of some rows are gathered
use Rattle.std.proofs.Common.{◌≡◌, ◌↔◌, ℕ, ◌+◌, ◌<◌, ◌≤◌, ◌⊎◌, inl, inr, ⊎_elim, List, [], ◌∷◌, ◌++◌, length, take, get_or, sym, ap, ◌∙◌, subst, arith}
use Rattle.std.specs.List.{Contains}
use Rattle.std.proofs.lemmas.List.{take_all, take_more}
use Rattle.std.proofs.lemmas.List.Elements.{Contains-append_left, Contains-append_right, Contains-append_cases, Contains-push, Contains-push_cases}
use Rattle.linspec.specs.Orders.{Pairwise}
use Rattle.linspec.proofs.Lists.{Contains-nil, Pairwise-append}
use Rattle.wide_register.specs.declared.calls.Call.{Call}
use Rattle.wide_register.specs.declared.next.Effect.{Effect}
use Rattle.wide_register.specs.declared.row.Row.{Row}
use Rattle.wide_register.specs.declared.kept.Kept.{Kept}
use Rattle.wide_register.specs.declared.gather.Halves.{Halves}
use Rattle.wide_register.specs.Facts.{AreAllMade, AreApart, AreHalves, AreRowsAfter, FindTheSame, HasLeastGaps, HasNextBy, IsAtMostBy, IsKeptIn, IsMadeOf, IsNextBy, IsOpenIn, moments_of}

-- a row of these, and what the effect made of it
abbrev pub IsMadeOfThese : Kept → List ℕ → Effect → List Row → Row → Type 0
IsMadeOfThese k moments effect these r =
    (row : Row) × Contains these row × (made : Row) × IsNextBy k.calls.items k.moment effect row made × FindTheSame moments made r

abbrev pub Each : Kept → List ℕ → Effect → List Row → List Row → Type 0
Each k moments effect these made = (r : Row) → Contains made r → IsMadeOfThese k moments effect these r

abbrev pub All : Kept → List ℕ → Effect → List Row → List Row → Type 0
All k moments effect these made = (row : Row) → Contains these row → (next : List Row) × HasNextBy k.calls.items k.moment effect row next
    × ((m : Row) → Contains next m → (r : Row) × FindTheSame moments m r × Contains made r)

abbrev pub AllLeast : List ℕ → List Row → Type 0
AllLeast moments made = (r : Row) → Contains made r → HasLeastGaps moments r

pub none_least : (moments : List ℕ) (made : List Row) → made ≡ [] → AllLeast moments made
none_least moments made q r h = absurd (Contains-nil r (subst (λ l. Contains l r) q h))

module _ (k : Kept) (moments : List ℕ) (effect : Effect) (rows : List Row) where
  pub none_each : (made : List Row) → made ≡ [] → Each k moments effect (take 0 rows) made
  none_each made q r h = absurd (Contains-nil r (subst (λ l. Contains l r) q h))

  pub none_all : (made : List Row) → All k moments effect (take 0 rows) made
  none_all made row h = absurd (Contains-nil row h)

module _ (k : Kept) (moments : List ℕ) (effect : Effect) (rows zs : List Row) (e : zs ≡ rows) (i : ℕ) where
  module _ (row : Row) (h : i < length zs) (is : row ≡ get_or zs i row) (made new next : List Row)
      (joined : (r : Row) → Contains new r → Contains made r ⊎ ((m : Row) × Contains next m × FindTheSame moments m r × HasLeastGaps moments r))
      (still : (r : Row) → Contains made r → Contains new r)
      (taken : (m : Row) → Contains next m → (r : Row) × FindTheSame moments m r × Contains new r) where
    more : take (i + 1) rows ≡ take i rows ++ row ∷ []
    more = subst (λ l. take (i + 1) l ≡ take i l ++ row ∷ []) e (take_more zs i row h ∙ ap (λ z. take i zs ++ z ∷ []) (sym is))

    pub each_gathered : Each k moments effect (take i rows) made → ((r : Row) → Contains next r → IsNextBy k.calls.items k.moment effect row r) → Each k moments effect (take (i + 1) rows) new
    each_gathered before each r g = ⊎_elim
        (λ j. (let b = before r j in (b.0, subst (λ l. Contains l b.0) (sym more) (Contains-append_left (take i rows) (row ∷ []) b.0 b.1), b.2, b.3, b.4)))
        (λ m. (row, subst (λ l. Contains l row) (sym more) (Contains-push (take i rows) row), m.0, each m.0 m.1, m.2))
        (joined r g)

    pub all_gathered : All k moments effect (take i rows) made → HasNextBy k.calls.items k.moment effect row next → All k moments effect (take (i + 1) rows) new
    all_gathered before all x g = ⊎_elim
        (λ j. (let b = before x j in (b.0, b.1, (λ m n. (let r = b.2 m n in (r.0, r.1, still r.0 r.2))))))
        (λ q. (next, subst (λ y. HasNextBy k.calls.items k.moment effect y next) q all, taken))
        (Contains-push_cases (take i rows) row x (subst (λ l. Contains l x) more g))

    pub least_gathered : AllLeast moments made → AllLeast moments new
    least_gathered before r g = ⊎_elim (before r) (λ m. m.3) (joined r g)

  module _ (most : length zs ≤ i) (made : List Row) where
    whole : take i rows ≡ rows
    whole = take_all i rows (subst (λ l. length l ≤ i) e most)

    pub each_at_end : Each k moments effect (take i rows) made → Each k moments effect rows made
    each_at_end h = subst (λ l. Each k moments effect l made) whole h

    pub all_at_end : All k moments effect (take i rows) made → All k moments effect rows made
    all_at_end h = subst (λ l. All k moments effect l made) whole h

-- of several rows one is put behind others, as far as reads that were invoked at these moments may tell
module _ (moments : List ℕ) (first all more rows rest new : List Row) (row made : Row) (cut : more ≡ rest ++ row ∷ []) (pushed : new ≡ rows ++ made ∷ []) where
  abbrev Comes : List Row → Row → Type 0
  Comes from r = (m : Row) × Contains from m × FindTheSame moments m r × HasLeastGaps moments r

  pub each_joined : ((r : Row) → Contains more r → Contains all r) → ((r : Row) → Contains rows r → Contains first r ⊎ Comes all r) → FindTheSame moments row made → HasLeastGaps moments made
      → (r : Row) → Contains new r → Contains first r ⊎ Comes all r
  each_joined within each same least r h = ⊎_elim
      (each r)
      (λ e. inr (subst (Comes all) e (row, within row (subst (λ l. Contains l row) (sym cut) (Contains-push rest row)), same, least)))
      (Contains-push_cases rows made r (subst (λ l. Contains l r) pushed h))

module _ (rows new : List Row) (made : Row) (pushed : new ≡ rows ++ made ∷ []) where
  pub still_joined : (r : Row) → Contains rows r → Contains new r
  still_joined r h = subst (λ l. Contains l r) (sym pushed) (Contains-append_left rows (made ∷ []) r h)

  pub just_joined : Contains new made
  just_joined = subst (λ l. Contains l made) (sym pushed) (Contains-push rows made)

pub pushed_other : (rows new : List Row) (row : Row) (id : ℕ) → new ≡ rows ++ row ∷ [] → ¬ Contains row.needed.items id → (r : Row) → Contains new r ↔ (Contains rows r ⊎ ((row ≡ r) × (¬ Contains row.needed.items id)))
pushed_other rows new row id pushed none r = (
  (λ h. ⊎_elim inl (λ e. inr (e, none)) (Contains-push_cases rows row r (subst (λ l. Contains l r) pushed h))),
  (λ h. ⊎_elim (still_joined rows new row pushed r) (λ k. subst (Contains new) k.0 (just_joined rows new row pushed)) h),
)

pub rest_joined : (all from rest : List Row) (row : Row) → from ≡ rest ++ row ∷ [] → ((r : Row) → Contains from r → Contains all r) → (r : Row) → Contains rest r → Contains all r
rest_joined all from rest row cut within r h = within r (subst (λ l. Contains l r) (sym cut) (Contains-append_left rest (row ∷ []) r h))

module _ (moments : List ℕ) (all more rows rest new : List Row) (row made : Row) (cut : more ≡ rest ++ row ∷ []) (pushed : new ≡ rows ++ made ∷ []) where
  abbrev Stays : List Row → Row → Type 0
  Stays to m = (r : Row) × FindTheSame moments m r × Contains to r

  pub all_joined : ((m : Row) → Contains all m → Contains more m ⊎ Stays rows m) → FindTheSame moments row made → (m : Row) → Contains all m → Contains rest m ⊎ Stays new m
  all_joined was same m h = ⊎_elim
      (λ k. ⊎_elim
      inl
      (λ e. inr (subst (Stays new) e (made, same, just_joined rows new made pushed)))
      (Contains-push_cases rest row m (subst (λ l. Contains l m) cut k)))
      (λ k. inr (k.0, k.1, still_joined rows new made pushed k.0 k.2))
      (was m h)

-- the rows that are left after an effect
pub rows_after : (k : Kept) (effect : Effect) (later : List Call) (moments : List ℕ) (made left : List Row) → moments ≡ moments_of later
    → ((r : Row) → Contains made r → IsMadeOf k moments effect r) → AreAllMade k moments effect (Contains made) → AllLeast moments made
    → ((r : Row) → Contains left r → Contains made r) → ((r : Row) → Contains made r → IsKeptIn later left r) → AreApart later left → AreRowsAfter k later effect left
rows_after k effect later moments made left e each all least within kept apart = record {
  each = λ r h. subst (λ ms. IsMadeOf k ms effect r) e (each r (within r h));
  all = λ row h. (let n = all row h in (n.0, n.1, (λ m i. (let r = n.2 m i in (r.0, subst (λ ms. FindTheSame ms m r.0) e r.1, kept r.0 r.2)))));
  apart = apart;
  gaps = λ r h. subst (λ ms. HasLeastGaps ms r) e (least r (within r h));
}

-- two parts of which each row of one needs an open operation, and no row of the other
module _ (calls : List Call) (id : ℕ) (is_open : IsOpenIn calls id) where
  abbrev Apart : Row → Row → Type 0
  Apart a b = (¬ IsAtMostBy calls a b) × (¬ IsAtMostBy calls b a)

  needs_apart : (a b : Row) → Contains a.needed.items id → ¬ Contains b.needed.items id → Apart a b
  needs_apart a b n f =
      let c = is_open in (
        (λ m. f (subst (Contains b.needed.items) c.2 ((m.fits c.0 c.1).needed (subst (Contains a.needed.items) (sym c.2) n) c.3))),
        (λ m. f (m.needed id n)),
      )

  pub both_apart : (xs ys : List Row) → ((r : Row) → Contains xs r → Contains r.needed.items id) → ((r : Row) → Contains ys r → ¬ Contains r.needed.items id)
      → AreApart calls xs → AreApart calls ys → AreApart calls (xs ++ ys)
  both_apart xs ys with' without p q = Pairwise-append Apart xs ys p q (λ a b h k. needs_apart a b (with' a h) (without b k))

pub kept_left : (calls : List Call) (xs ys : List Row) (r : Row) → IsKeptIn calls xs r → IsKeptIn calls (xs ++ ys) r
kept_left calls xs ys r k = (k.0, Contains-append_left xs ys k.0 k.1, k.2)

pub kept_right : (calls : List Call) (xs ys : List Row) (r : Row) → IsKeptIn calls ys r → IsKeptIn calls (xs ++ ys) r
kept_right calls xs ys r k = (k.0, Contains-append_right xs ys k.0 k.1, k.2)

-- of several rows one is placed
module _ (all more rest : List Row) (row : Row) (cut : more ≡ rest ++ row ∷ []) (P : Row → Type 0) (half new : List Row) (within : (r : Row) → Contains more r → Contains all r) where
  pub place_each : ((r : Row) → Contains half r → Contains all r × P r) → ((r : Row) → Contains new r → Contains half r ⊎ ((row ≡ r) × P row)) → (r : Row) → Contains new r → Contains all r × P r
  place_each before put r h = ⊎_elim
      (before r)
      (λ k. (within r (subst (λ l. Contains l r) (sym cut) (subst (Contains (rest ++ row ∷ [])) k.0 (Contains-push rest row))), subst P k.0 k.1))
      (put r h)

module _ (all more rest : List Row) (row : Row) (cut : more ≡ rest ++ row ∷ []) (with' new_with without new_without : List Row) where
  pub all_placed : ((r : Row) → Contains all r → Contains more r ⊎ (Contains with' r ⊎ Contains without r)) → ((r : Row) → Contains with' r → Contains new_with r) → ((r : Row) → Contains without r → Contains new_without r)
      → Contains new_with row ⊎ Contains new_without row → (r : Row) → Contains all r → Contains rest r ⊎ (Contains new_with r ⊎ Contains new_without r)
  all_placed was a b placed r h = ⊎_elim
      (λ k. ⊎_elim inl (λ e. inr (subst (λ x. Contains new_with x ⊎ Contains new_without x) e placed)) (Contains-push_cases rest row r (subst (λ l. Contains l r) cut k)))
      (λ k. inr (⊎_elim (λ x. inl (a r x)) (λ x. inr (b r x)) k))
      (was r h)

pub few_apart : {X : Type 0} (R : X → X → Type 0) (xs : List X) → length xs ≤ 1 → Pairwise R xs
few_apart R [] h = tt
few_apart R (x ∷ []) h = ((λ y k. absurd (Contains-nil y k)), tt)
few_apart R (x ∷ y ∷ xs) h = absurd (omega arith)

-- both halves are gathered
module _ (calls : List Call) (id : ℕ) (is_open : IsOpenIn calls id) (rows xs ys : List Row) (halves : Halves) (are : AreHalves id rows halves)
    (each_x : (r : Row) → Contains xs r → Contains halves.with.items r) (each_y : (r : Row) → Contains ys r → Contains halves.without.items r) where
  pub halves_each : (both : List Row) → both ≡ xs ++ ys → (r : Row) → Contains both r → Contains rows r
  halves_each both e r h = ⊎_elim (λ k. (are.with' r (each_x r k)).0) (λ k. (are.without r (each_y r k)).0) (Contains-append_cases xs ys r (subst (λ l. Contains l r) e h))

  pub halves_kept : (both : List Row) → both ≡ xs ++ ys → ((r : Row) → Contains halves.with.items r → IsKeptIn calls xs r) → ((r : Row) → Contains halves.without.items r → IsKeptIn calls ys r)
      → (r : Row) → Contains rows r → IsKeptIn calls both r
  halves_kept both e kept_x kept_y r h = subst (λ l. IsKeptIn calls l r) (sym e)
      (⊎_elim (λ k. kept_left calls xs ys r (kept_x r k)) (λ k. kept_right calls xs ys r (kept_y r k)) (are.all r h))

  pub halves_apart : (both : List Row) → both ≡ xs ++ ys → AreApart calls xs → AreApart calls ys → AreApart calls both
  halves_apart both e p q = subst (AreApart calls) (sym e)
      (both_apart calls id is_open xs ys (λ r h. (are.with' r (each_x r h)).1) (λ r h. (are.without r (each_y r h)).1) p q)
