-- how keys stand: statuses that join to a verdict, after one of the keys has changed
use Rattle.std.proofs.Common.{◌≡◌, ◌≢◌, ◌⊎◌, ℕ, List, [], ◌∷◌, ◌++◌, refl, sym, ap, ◌∙◌, subst, ⊎_elim}
use Rattle.std.specs.List.{Contains}
use Rattle.std.specs.Map.{keys_of}
use Rattle.std.proofs.lemmas.List.Elements.{Contains-append_left, Contains-append_right, Contains-append_cases, Contains-push, Contains-push_cases}
use Rattle.linspec.specs.declared.verdict.KeyStatus.{KeyStatus}
use Rattle.linspec.specs.declared.verdict.KeyStatus.TheVariants.{Alive, Dead, Over}
use Rattle.linspec.specs.declared.verdict.Verdict.{Verdict}
use Rattle.linspec.specs.Orders.{Pairwise}
use Rattle.linspec.specs.Verdicts.{IsJoin}
use Rattle.linspec.proofs.Lists.{Contains-nil, Contains-head, Contains-tail, Contains-cons_cases}
use Rattle.linspec.proofs.Filters.{to_map}
use Rattle.locality.specs.BadKeys.{HaveSameBadKeys}
use Rattle.linspec.specs.KeyHistory.{KeyHistory, IsStatusOf}
use Rattle.monitor.specs.Rows.{AreStatusesOf, JoinsRows}

-- statuses of two lists of rows, one after the other
pub statuses_append : (xs ys : List (ℕ × KeyHistory)) (ss ts : List (ℕ × KeyStatus)) → AreStatusesOf xs ss → AreStatusesOf ys ts → AreStatusesOf (xs ++ ys) (ss ++ ts)
statuses_append [] ys [] ts a b = b
statuses_append [] ys (s ∷ ss) ts a b = absurd a
statuses_append (x ∷ xs) ys [] ts a b = absurd a
statuses_append (x ∷ xs) ys (s ∷ ss) ts a b = (a.0, a.1, statuses_append xs ys ss ts a.2 b)

-- the status of a row, between those of the others
pub record StatusAmong (before : List (ℕ × KeyHistory)) (k : ℕ) (h : KeyHistory) (after : List (ℕ × KeyHistory)) (statuses : List (ℕ × KeyStatus)) : Type 0 where
  pub first : List (ℕ × KeyStatus)
  pub status : KeyStatus
  pub last : List (ℕ × KeyStatus)
  pub cut : statuses ≡ first ++ (k, status) ∷ last
  pub of_before : AreStatusesOf before first
  pub is : IsStatusOf h status
  pub of_after : AreStatusesOf after last

pub status_among : (before : List (ℕ × KeyHistory)) (k : ℕ) (h : KeyHistory) (after : List (ℕ × KeyHistory)) (statuses : List (ℕ × KeyStatus)) → AreStatusesOf (before ++ (k, h) ∷ after) statuses
    → StatusAmong before k h after statuses
status_among [] k h after [] a = absurd a
status_among [] k h after (s ∷ statuses) a =
    record { first = []; status = s.1; last = statuses; cut = ap (λ (j : ℕ). (j, s.1) ∷ statuses) a.0; of_before = tt; is = a.1; of_after = a.2 }
status_among (x ∷ before) k h after [] a = absurd a
status_among (x ∷ before) k h after (s ∷ statuses) a =
    let rest : StatusAmong before k h after statuses = status_among before k h after statuses a.2 in
    record {
      first = s ∷ rest.first;
      status = rest.status;
      last = rest.last;
      cut = ap (λ (l : List (ℕ × KeyStatus)). s ∷ l) rest.cut;
      of_before = (a.0, a.1, rest.of_before);
      is = rest.is;
      of_after = rest.of_after;
    }

-- a pair replaces another, or is put after all: the other elements are the same
module _ {X : Type 0} (first last : List X) (s t : X) where
  pub to_replaced : (x : X) → (s ≡ x → t ≡ x) → Contains ((first ++ s ∷ last) ++ t ∷ []) x → Contains (first ++ t ∷ last) x
  to_replaced x same h =
      ⊎_elim
      (λ old. ⊎_elim
      (λ i. Contains-append_left first (t ∷ last) x i)
      (λ i. ⊎_elim (λ e. middle x (same e)) (λ j. Contains-append_right first (t ∷ last) x (Contains-tail t last x j)) (Contains-cons_cases s last x i))
      (Contains-append_cases first (s ∷ last) x old))
      (λ new. middle x new)
      (Contains-push_cases (first ++ s ∷ last) t x h)
    where
      middle : (x : X) → t ≡ x → Contains (first ++ t ∷ last) x
      middle x e = subst (Contains (first ++ t ∷ last)) e (Contains-append_right first (t ∷ last) t (Contains-head t last))

  pub from_replaced : (x : X) → Contains (first ++ t ∷ last) x → Contains ((first ++ s ∷ last) ++ t ∷ []) x
  from_replaced x h =
      ⊎_elim
      (λ i. Contains-append_left (first ++ s ∷ last) (t ∷ []) x (Contains-append_left first (s ∷ last) x i))
      (λ i. ⊎_elim
      (λ e. subst (Contains ((first ++ s ∷ last) ++ t ∷ [])) e (Contains-push (first ++ s ∷ last) t))
      (λ j. Contains-append_left (first ++ s ∷ last) (t ∷ []) x (Contains-append_right first (s ∷ last) x (Contains-tail s last x j)))
      (Contains-cons_cases t last x i))
      (Contains-append_cases first (t ∷ last) x h)

-- a key that was alive, or stays as it was: the status that it has now may be joined to the others
pub same_bad_keys : (first last : List (ℕ × KeyStatus)) (k : ℕ) (s t : KeyStatus) → (s ≡ Alive) ⊎ (t ≡ s) → HaveSameBadKeys ((first ++ (k, s) ∷ last) ++ (k, t) ∷ []) (first ++ (k, t) ∷ last)
same_bad_keys first last k s t was = record {
  dead = λ j i. (to_replaced first last (k, s) (k, t) (j, Dead i) (stays j (Dead i) (λ e. cc)), from_replaced first last (k, s) (k, t) (j, Dead i));
  over = λ j i. (to_replaced first last (k, s) (k, t) (j, Over i) (stays j (Over i) (λ e. cc)), from_replaced first last (k, s) (k, t) (j, Over i));
}
  where
    stays : (j : ℕ) (bad : KeyStatus) → (Alive ≡ bad → ⊥) → ◌≡◌ {A = ℕ × KeyStatus} (k, s) (j, bad) → ◌≡◌ {A = ℕ × KeyStatus} (k, t) (j, bad)
    stays j bad not e =
        ⊎_elim
        (λ alive. absurd (not (sym alive ∙ ap (λ (p : ℕ × KeyStatus). p.1) e)))
        (λ same. ap (λ (x : KeyStatus). (k, x)) same ∙ e)
        was

-- the join of a status and a verdict
abbrev pub JoinsWith : Verdict → ℕ → KeyStatus → Verdict → Type 0
JoinsWith v key status w = (statuses : List (ℕ × KeyStatus)) → IsJoin statuses v → IsJoin (statuses ++ (key, status) ∷ []) w

abbrev pub BadKeysDecide : Type 0
BadKeysDecide = (xs ys : List (ℕ × KeyStatus)) (v : Verdict) → HaveSameBadKeys xs ys → IsJoin xs v → IsJoin ys v

-- one more row
pub joins_push : (rows : List (ℕ × KeyHistory)) (k : ℕ) (h : KeyHistory) (status : KeyStatus) (v w : Verdict) → JoinsRows rows v → IsStatusOf h status → JoinsWith v k status w
    → JoinsRows (rows ++ (k, h) ∷ []) w
joins_push rows k h status v w joined is with_it =
    (joined.0 ++ (k, status) ∷ [], statuses_append rows ((k, h) ∷ []) joined.0 ((k, status) ∷ []) joined.1 (refl, is, tt), with_it joined.0 joined.2)

-- one row with another history, where its key was alive, or stays as it was
pub joins_set : BadKeysDecide → (before after : List (ℕ × KeyHistory)) (k : ℕ) (h next : KeyHistory) (status : KeyStatus) (v w : Verdict) → JoinsRows (before ++ (k, h) ∷ after) v
    → IsStatusOf next status → ((s : KeyStatus) → IsStatusOf h s → (s ≡ Alive) ⊎ (status ≡ s)) → JoinsWith v k status w → JoinsRows (before ++ (k, next) ∷ after) w
joins_set decide before after k h next status v w joined is settled with_it =
    let among : StatusAmong before k h after joined.0 = status_among before k h after joined.0 joined.1 in (
      among.first ++ (k, status) ∷ among.last,
      statuses_append before ((k, next) ∷ after) among.first ((k, status) ∷ among.last) among.of_before (refl, is, among.of_after),
      decide ((among.first ++ (k, among.status) ∷ among.last) ++ (k, status) ∷ []) (among.first ++ (k, status) ∷ among.last) w
          (same_bad_keys among.first among.last k among.status status (settled among.status among.is))
          (subst (λ (l : List (ℕ × KeyStatus)). IsJoin (l ++ (k, status) ∷ []) w) among.cut (with_it joined.0 joined.2)),
    )

-- the facts about the rows from the statuses
pub status_row : (rows : List (ℕ × KeyHistory)) (statuses : List (ℕ × KeyStatus)) (k : ℕ) (s : KeyStatus) → AreStatusesOf rows statuses → Contains statuses (k, s)
    → (h : KeyHistory) × Contains rows (k, h) × IsStatusOf h s
status_row [] [] k s a has = absurd (Contains-nil (k, s) has)
status_row [] (t ∷ statuses) k s a has = absurd a
status_row (row ∷ rows) [] k s a has = absurd a
status_row (row ∷ rows) (t ∷ statuses) k s a has =
    ⊎_elim
    (λ e. (
      row.1,
      subst (λ (j : ℕ). Contains (row ∷ rows) (j, row.1)) (sym a.0 ∙ ap (λ (p : ℕ × KeyStatus). p.0) e) (Contains-head row rows),
      subst (IsStatusOf row.1) (ap (λ (p : ℕ × KeyStatus). p.1) e) a.1,
    ))
    (λ i. let rest = status_row rows statuses k s a.2 i in (rest.0, Contains-tail row rows (k, rest.0) rest.1, rest.2))
    (Contains-cons_cases t statuses (k, s) has)

pub row_status : (rows : List (ℕ × KeyHistory)) (statuses : List (ℕ × KeyStatus)) (k : ℕ) (h : KeyHistory) → AreStatusesOf rows statuses → Contains rows (k, h)
    → (s : KeyStatus) × Contains statuses (k, s)
row_status [] statuses k h a has = absurd (Contains-nil (k, h) has)
row_status (row ∷ rows) [] k h a has = absurd a
row_status (row ∷ rows) (t ∷ statuses) k h a has =
    ⊎_elim
    (λ e. (t.1, subst (λ (j : ℕ). Contains (t ∷ statuses) (j, t.1)) (a.0 ∙ ap (λ (p : ℕ × KeyHistory). p.0) e) (Contains-head t statuses)))
    (λ i. let rest = row_status rows statuses k h a.2 i in (rest.0, Contains-tail t statuses (k, rest.0) rest.1))
    (Contains-cons_cases row rows (k, h) has)

pub status_keys : (rows : List (ℕ × KeyHistory)) (statuses : List (ℕ × KeyStatus)) → AreStatusesOf rows statuses → keys_of statuses ≡ keys_of rows
status_keys [] [] a = refl
status_keys [] (s ∷ statuses) a = absurd a
status_keys (row ∷ rows) [] a = absurd a
status_keys (row ∷ rows) (s ∷ statuses) a = ap (λ (k : ℕ). k ∷ keys_of statuses) a.0 ∙ ap (λ (l : List ℕ). row.0 ∷ l) (status_keys rows statuses a.2)

pub keys_apart : (statuses : List (ℕ × KeyStatus)) → Pairwise (λ i j. i ≢ j) (keys_of statuses) → Pairwise (λ p q. p.0 ≢ q.0) statuses
keys_apart [] h = tt
keys_apart (s ∷ statuses) h = (λ q has. h.0 q.0 (to_map (λ (p : ℕ × KeyStatus). p.0) statuses q has), keys_apart statuses h.1)
