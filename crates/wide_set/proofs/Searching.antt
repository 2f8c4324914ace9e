-- the results of searches of lists
use Rattle.std.proofs.Common.{◌≡◌, ◌≢◌, ◌↔◌, ℕ, suc, ◌+◌, ◌-◌, ◌≤◌, ◌<◌, ℤ, ◌⊎◌, inl, inr, ⊎_elim, Option, Some, None, Ok, Err, Result, List, [], ◌∷◌, ◌++◌, length, take, drop, get_or, min, IsTrue, refl, sym, ap, ◌∙◌, subst, arith, length-append, length-drop, IfSome}
use Rattle.std.specs.List.{Contains, insert}
use Rattle.std.specs.Result.{is_ok}
use Rattle.std.specs.Ordering.{int_cmp}
use Rattle.std.specs.List.Sorted.{IsBinarySearchResult, IsSearchInRange}
use Rattle.std.specs.declared.cmp.Ordering.TheVariants.{Equal}
use Rattle.std.proofs.lemmas.Bool.{cases_lt, true≢false}
use Rattle.std.proofs.lemmas.Cmp.{int_ranked}
use Rattle.std.proofs.lemmas.List.{length-take}
use Rattle.std.proofs.lemmas.List.Elements.{Contains-append_left, Contains-push, Contains-push_cases}
use Rattle.values.specs.Members.{IsAscending, put_in}
use Rattle.values.proofs.PutIn.{put_in-member, put_in-not_found}
use Rattle.wide_set.specs.declared.known.Pending.{Pending}
use Rattle.wide_set.specs.declared.known.Call.TheVariants as calls
use Rattle.wide_set.specs.declared.log.Added.{Added}
use Rattle.wide_set.specs.Facts.{HasLogged, HasPendingAdd, IsDoneBeyond}
use Rattle.wide_set.specs.Queries.{IsNoLater, IsBefore, IsFirstWith, IsWithOther, earlier_of}
use Rattle.wide_set.proofs.Loops.{with_here}

length-insert : (xs : List ℤ) (i : ℕ) (v : ℤ) → i ≤ length xs → length (insert xs i v) ≡ suc (length xs)
length-insert xs i v le =
    let a : length (take i xs ++ v ∷ drop i xs) ≡ length (take i xs) + suc (length (drop i xs)) = length-append (take i xs) (v ∷ drop i xs) in
    let b : length (take i xs) ≡ min i (length xs) = length-take i xs in
    let c : length (drop i xs) ≡ length xs - i = length-drop i xs in
    omega arith

pub found_or_not : (v : ℤ) (xs : List ℤ) (r : Result ℕ ℕ) → IsAscending xs → IsSearchInRange r (length xs) → IsBinarySearchResult (λ y. int_cmp y v) xs r → IsTrue (is_ok r) ↔ Contains xs v
found_or_not v xs (Ok i) is within found = ((λ t. (i, within, int_ranked (get_or xs i v) v Equal (sym (found v)))), (λ h. refl))
found_or_not v xs (Err i) is within found = (
  (λ t. absurd (true≢false (sym t))),
  (λ h.
      let e : insert xs i v ≡ put_in v xs = put_in-not_found v xs i is within found in
      let f : put_in v xs ≡ xs = put_in-member v xs is h in
      let g : length (insert xs i v) ≡ suc (length xs) = length-insert xs i v within in
      let k : length (insert xs i v) ≡ length xs = ap length (e ∙ f) in
      absurd (omega arith)),
)

earlier_than_new : (first : Option ℕ) (n : ℕ) → earlier_of first n ≤ n
earlier_than_new None n = omega arith
earlier_than_new (Some m) n = omega arith

earlier_than_old : (first : Option ℕ) (n k : ℕ) → IsNoLater first k → earlier_of first n ≤ k
earlier_than_old None n k h = absurd h
earlier_than_old (Some m) n k h = omega arith

module _ (pending : List Pending) (but : ℕ) (v : ℤ) where
  pub next_found : (x : Pending) → Contains pending x → (x.id ≢ but) × (x.call ≡ calls.Add v) → (first : Option ℕ) → IfSome first (λ m. HasPendingAdd pending but v m) → HasPendingAdd pending but v (earlier_of first x.since)
  next_found x h adds None i = (x, h, adds.0, adds.1, refl)
  next_found x h adds (Some m) i = ⊎_elim
      (λ (lt : m < x.since). (let e : min m x.since ≡ m = omega arith in subst (HasPendingAdd pending but v) (sym e) i))
      (λ (le : x.since ≤ m). (x, h, adds.0, adds.1, (let e : x.since ≡ min m x.since = omega arith in e)))
      (cases_lt m x.since)

  abbrev pub IsLeast : ℕ → Option ℕ → Type 0
  IsLeast i first = (p : Pending) → Contains (take i pending) p → p.id ≢ but → p.call ≡ calls.Add v → IsNoLater first p.since

  pub next_least : (i : ℕ) (d : Pending) → i < length pending → (first : Option ℕ) → IsLeast i first → IsLeast (i + 1) (Some (earlier_of first (get_or pending i d).since))
  next_least i d lt first least = with_here (λ (p : Pending). p.id ≢ but → p.call ≡ calls.Add v → earlier_of first (get_or pending i d).since ≤ p.since) pending i d lt
      (λ p h ne e. earlier_than_old first (get_or pending i d).since p.since (least p h ne e))
      (λ ne e. earlier_than_new first (get_or pending i d).since)

  pub same_least : (i : ℕ) (d : Pending) → i < length pending → (first : Option ℕ) → IsLeast i first → ¬ (((get_or pending i d).id ≢ but) × ((get_or pending i d).call ≡ calls.Add v)) → IsLeast (i + 1) first
  same_least i d lt first least none = with_here (λ (p : Pending). p.id ≢ but → p.call ≡ calls.Add v → IsNoLater first p.since) pending i d lt least (λ ne e. absurd (none (ne, e)))

-- the first of the adds of a value that are logged
module _ (log : List Added) (v : ℤ) where
  pub next_logged : (x : Added) → Contains log x → x.value ≡ v → (first : Option ℕ) → IfSome first (λ m. HasLogged log v m) → HasLogged log v (earlier_of first x.since)
  next_logged x h e None i = (x, h, e, refl)
  next_logged x h e (Some m) i = ⊎_elim
      (λ (lt : m < x.since). (let q : min m x.since ≡ m = omega arith in subst (HasLogged log v) (sym q) i))
      (λ (le : x.since ≤ m). (x, h, e, (let q : x.since ≡ min m x.since = omega arith in q)))
      (cases_lt m x.since)

  abbrev pub IsLeastLogged : ℕ → Option ℕ → Type 0
  IsLeastLogged i first = (a : Added) → Contains (take i log) a → a.value ≡ v → IsNoLater first a.since

  pub next_least_logged : (i : ℕ) (d : Added) → i < length log → (first : Option ℕ) → IsLeastLogged i first → IsLeastLogged (i + 1) (Some (earlier_of first (get_or log i d).since))
  next_least_logged i d lt first least = with_here (λ (a : Added). a.value ≡ v → earlier_of first (get_or log i d).since ≤ a.since) log i d lt
      (λ a h e. earlier_than_old first (get_or log i d).since a.since (least a h e))
      (λ e. earlier_than_new first (get_or log i d).since)

  pub same_least_logged : (i : ℕ) (d : Added) → i < length log → (first : Option ℕ) → IsLeastLogged i first → (get_or log i d).value ≢ v → IsLeastLogged (i + 1) first
  same_least_logged i d lt first least none = with_here (λ (a : Added). a.value ≡ v → IsNoLater first a.since) log i d lt least (λ e. absurd (none e))

-- the lesser of two first moments
module _ (P Q : ℕ → Type 0) (n : ℕ) (here : P n) (first_here : (m : ℕ) → P m → n ≤ m) where
  pub both_found : (first : Option ℕ) → IfSome first Q → P (earlier_of first n) ⊎ Q (earlier_of first n)
  both_found None i = inl here
  both_found (Some m) i = ⊎_elim
      (λ (lt : m < n). (let q : m ≡ min m n = omega arith in inr (subst Q q i)))
      (λ (le : n ≤ m). (let q : n ≡ min m n = omega arith in inl (subst P q here)))
      (cases_lt m n)

  pub both_least : (first : Option ℕ) → ((m : ℕ) → Q m → IsNoLater first m) → (m : ℕ) → P m ⊎ Q m → earlier_of first n ≤ m
  both_least first least m h = ⊎_elim
      (λ p. (let a : n ≤ m = first_here m p in let b : earlier_of first n ≤ n = earlier_than_new first n in omega arith))
      (λ q. earlier_than_old first n m (least m q))
      h

-- the first moment, with one more that may come before it
pub not_before_first : (first : Option ℕ) (n : ℕ) → ¬ IsBefore n first → IsNoLater first n
not_before_first None n h = absurd (h tt)
not_before_first (Some m) n h = ⊎_elim (λ (lt : n < m). absurd (h lt)) (λ (le : m ≤ n). le) (cases_lt n m)

pub before_first : (first : Option ℕ) (n k : ℕ) → IsBefore n first → IsNoLater first k → n ≤ k
before_first None n k h later = absurd later
before_first (Some m) n k h later = let lt : n < m = h in let le : m ≤ k = later in omega arith

-- the first moment at which an add of another value than the members was done, among those so far
module _ (log : List Added) (members : List ℤ) where
  abbrev pub IsFoundBeyond : Option ℕ → Type 0
  IsFoundBeyond first = IfSome first (λ n. (a : Added) × IsDoneBeyond log members a n)

  abbrev pub IsLeastBeyond : ℕ → Option ℕ → Type 0
  IsLeastBeyond i first = (a : Added) → Contains (take i log) a → (n : ℕ) → a.by ≡ Some n → ¬ Contains members a.value → IsNoLater first n

  found_of : (a : Added) → Contains log a → ¬ Contains members a.value → (by : Option ℕ) → a.by ≡ by → IsFoundBeyond by
  found_of a h out None e = tt
  found_of a h out (Some n) e = (a, (h, e, out))

  pub found_with : (a : Added) → Contains log a → (first next : Option ℕ) → IsFirstWith a members first next → IsFoundBeyond first → IsFoundBeyond next
  found_with a h first next with found = ⊎_elim
      (λ same. subst IsFoundBeyond (sym same) found)
      (λ own. found_of a h own.1 next (sym own.0))
      with.from

  pub least_with : (i : ℕ) (d : Added) → i < length log → (first next : Option ℕ) → IsFirstWith (get_or log i d) members first next → IsLeastBeyond i first → IsLeastBeyond (i + 1) next
  least_with i d lt first next with least = with_here (λ (a : Added). (n : ℕ) → a.by ≡ Some n → ¬ Contains members a.value → IsNoLater next n) log i d lt
      (λ a h n e out. with.earlier n (least a h n e out))
      with.least

-- a value that is put behind the others, if there is one
pub put_more : (old new : List ℤ) (w : ℤ) (o : Option ℤ) → o ≡ Some w → new ≡ old ++ w ∷ [] → (v : ℤ) → Contains new v ↔ (Contains old v ⊎ (o ≡ Some v))
put_more old new w o is e v = (
  (λ h. ⊎_elim inl (λ same. inr (is ∙ ap Some same)) (Contains-push_cases old w v (subst (λ l. Contains l v) e h))),
  (λ h. subst (λ l. Contains l v) (sym e) (⊎_elim (λ k. Contains-append_left old (w ∷ []) v k) (λ q. (let r : Some w ≡ Some v = sym is ∙ q in let same : w ≡ v = cc in subst (Contains (old ++ w ∷ [])) same (Contains-push old w))) h)),
)

pub put_none : (old : List ℤ) (o : Option ℤ) → o ≡ None → (v : ℤ) → Contains old v ↔ (Contains old v ⊎ (o ≡ Some v))
put_none old o is v = (inl, (λ h. ⊎_elim (λ k. k) (λ q. (let r : None ≡ Some v = sym is ∙ q in cc)) h))

pub right_found : (P Q : ℕ → Type 0) (first : Option ℕ) → IfSome first Q → IfSome first (λ n. P n ⊎ Q n)
right_found P Q None i = tt
right_found P Q (Some n) i = inr i

-- the adds of other values than these, so far
module _ (log next list : List Added) (x : Added) (values : List ℤ) (is : IsWithOther log x values next) where
  pub other_was : Contains list x → ((a : Added) → Contains log a → Contains list a) → (a : Added) → Contains next a → Contains list a
  other_was here was a h = ⊎_elim
      (λ same. was a (subst (λ l. Contains l a) same.0 h))
      (λ more. ⊎_elim (was a) (λ e. subst (Contains list) e here) (Contains-push_cases log x a (subst (λ l. Contains l a) more.0 h)))
      is

  pub other_stays : (a : Added) → Contains log a → Contains next a
  other_stays a h = ⊎_elim
      (λ same. subst (λ l. Contains l a) (sym same.0) h)
      (λ more. subst (λ l. Contains l a) (sym more.0) (Contains-append_left log (x ∷ []) a h))
      is

  pub other_is_in : ¬ Contains values x.value → Contains next x
  other_is_in out = ⊎_elim
      (λ same. absurd (out same.1))
      (λ more. subst (λ l. Contains l x) (sym more.0) (Contains-push log x))
      is
