-- each prefix of a history has a verdict, if it is known how each key stands at the end
use Rattle.std.proofs.Common.{◌≡◌, ◌≢◌, ◌⊎◌, inl, inr, ⊎_elim, ℕ, ◌+◌, ◌<◌, ◌≤◌, nat_eq, List, [], ◌∷◌, ◌++◌, map, length, take, drop, refl, sym, ap, ◌∙◌, subst, append_assoc, append-nil, length-append, All, arith}
use Rattle.std.specs.List.{Contains}
use Rattle.std.specs.Map.{keys_of}
use Rattle.std.proofs.lemmas.Bool.{cases_lt}
use Rattle.std.proofs.lemmas.List.{take-append-drop}
use Rattle.std.proofs.lemmas.List.Elements.{All-head, All-tail, Contains-append_left, Contains-append_right, filter-append}
use Rattle.models.specs.Objects.{Object}
use Rattle.kinds.specs.declared.model_kind.ModelKind.{ModelKind}
use Rattle.kinds.specs.Kinds.{object_of}
use Rattle.events.specs.declared.event.Event.{Event}
use Rattle.events.specs.ProcessRule.{IsHistory}
use Rattle.history.specs.WellFormed.{IsHistoryOf}
use Rattle.events.specs.Events.{Mark, Entry, op_event, entries_by, entries_from, entries_of, last_after, indexed_from, of_key, marks, IsPrefixOf}
use Rattle.linspec.specs.declared.verdict.KeyStatus.{KeyStatus}
use Rattle.linspec.specs.declared.verdict.KeyStatus.TheVariants.{Alive, Dead, Over}
use Rattle.linspec.specs.declared.verdict.Verdict.{Verdict}
use Rattle.linspec.specs.declared.verdict.Verdict.TheVariants.{Legal, Illegal, Unknown}
use Rattle.linspec.specs.MarkRule.{IsKeyed, AreWellFormed}
use Rattle.linspec.specs.Orders.{IsLinearizable, Pairwise}
use Rattle.linspec.specs.Ends.{Count, IsBlownAtBy, IsWithinBudgetBy}
use Rattle.linspec.specs.Counts.{CountsMoreThan}
use Rattle.linspec.specs.Verdicts.{IsKeyStatusBy, IsKeyStatus, IsRising, AreStatuses, IsJoin}
use Rattle.linspec.proofs.Lists.{Contains-nil, Contains-head, Contains-tail, Contains-cons_cases, Pairwise-across}
use Rattle.linspec.proofs.Filters.{Pairwise-filter, to_map, from_map}
use Rattle.linspec.proofs.ByKind.{counted_order}
use Rattle.linspec.proofs.Prefixes.{IsLinearizable-front}
use Rattle.locality.proofs.BadKeys.{IsJoin-none}
use Rattle.locality.proofs.MoreStatuses.{IsJoin-alive, IsJoin-dead_later, IsJoin-dead_earlier, IsJoin-dead_unknown, IsJoin-dead_legal, IsJoin-over_illegal, IsJoin-over_later, IsJoin-over_earlier, IsJoin-over_legal}
use Rattle.locality.proofs.SetAside.{AreWellFormed-front, AreWellFormed-filter}
use Rattle.linspec.specs.KeyHistory.{IsStatusOf}
use Rattle.linspec.specs.JudgedHistory.{JudgedHistory, IsVerdictOn, rewound, kind_of, budget_of, entries_in, keys_in_order, history_of_key}
use Rattle.monitor.specs.Rows.{AreStatusesOf}
use Rattle.monitor.specs.Judged.{rows_of}
use Rattle.monitor.proofs.Statuses.{keys_apart}
use Rattle.history.proofs.Prefixes.{history-take}
use Rattle.monitor.proofs.Verdicts.{Laws, statuses_of_keys}

-- prefixes of prefixes
front_of_front : {X : Type 0} (xs ys zs : List X) → IsPrefixOf xs ys → IsPrefixOf ys zs → IsPrefixOf xs zs
front_of_front xs ys zs f g = (f.0 ++ g.0, sym (append_assoc xs f.0 g.0) ∙ ap (λ l. l ++ g.0) f.1 ∙ g.1)

front_length : {X : Type 0} (xs ys : List X) → IsPrefixOf xs ys → length xs ≤ length ys
front_length xs ys f = omega (arith, length-append xs f.0, ap length f.1)

in_front : {X : Type 0} (xs ys : List X) (x : X) → IsPrefixOf xs ys → Contains xs x → Contains ys x
in_front xs ys x f h = subst (λ l. Contains l x) f.1 (Contains-append_left xs f.0 x h)

-- a front ends before an element, or goes past it
stops_or_passes : {X : Type 0} (front rest before after : List X) (x : X) → front ++ rest ≡ before ++ x ∷ after → IsPrefixOf front before ⊎ IsPrefixOf (before ++ x ∷ []) front
stops_or_passes [] rest before after x h = inl (before, refl)
stops_or_passes (y ∷ front) rest [] after x h = inr (front, (let head : y ≡ x = cc in ap (λ z. z ∷ front) (sym head)))
stops_or_passes (y ∷ front) rest (b ∷ before) after x h =
    let head : y ≡ b = cc in
    let tail : front ++ rest ≡ before ++ x ∷ after = cc in
    ⊎_elim
    (λ f. inl (f.0, ap (λ z. z ∷ (front ++ f.0)) head ∙ ap (λ l. b ∷ l) f.1))
    (λ f. inr (f.0, ap (λ z. z ∷ ((before ++ x ∷ []) ++ f.0)) (sym head) ∙ ap (λ l. y ∷ l) f.1))
    (stops_or_passes front rest before after x tail)

-- how a key stands at a prefix of its history
module _ (more : Count) (o : Object) (budget : ℕ) (some_order : (before : List Mark) → more before budget → IsLinearizable o before) (front entries : List Entry) (is : IsPrefixOf front entries) where
  blown_later : (i : ℕ) → IsBlownAtBy more budget front i → IsBlownAtBy more budget entries i
  blown_later i b = record {
    before = b.before;
    event = b.event;
    after = b.after ++ is.0;
    cut = sym (append_assoc b.before (b.event ∷ b.after) is.0) ∙ ap (λ l. l ++ is.0) b.cut ∙ is.1;
    here = b.here;
    is_ok = b.is_ok;
    many = b.many;
  }

  within : IsWithinBudgetBy more budget entries → IsWithinBudgetBy more budget front
  within h i b = h i (blown_later i b)

  pub front_status : AreWellFormed (marks entries) → IsRising entries → (s : KeyStatus) → IsKeyStatusBy more o budget entries s → (t : KeyStatus) × IsKeyStatusBy more o budget front t
  front_status well rising Alive h = (Alive, (within h.0, λ f g. h.1 f (front_of_front f front entries g is)))
  front_status well rising (Dead i) h =
      let last = h.1.0 in
      let bad = h.1.1 in
      ⊎_elim
      (λ (f : IsPrefixOf front bad.before). (Alive, (within h.0, λ g k. bad.shorter g (front_of_front g front entries k is) (front_length g bad.before (front_of_front g front bad.before k f)))))
      (λ (f : IsPrefixOf (bad.before ++ last ∷ []) front). (
        Dead i,
        (within h.0, (last, record { before = bad.before; front = f; bad = bad.bad; shorter = λ g k le. bad.shorter g (front_of_front g front entries k is) le }, h.1.2)),
      ))
      (stops_or_passes front is.0 bad.before bad.front.0 last (is.1 ∙ sym bad.front.1 ∙ append_assoc bad.before (last ∷ []) bad.front.0))
  front_status well rising (Over i) h =
      let b = h.blown in
      ⊎_elim
      (λ (f : IsPrefixOf front b.before). (
        Alive,
        (
          λ j x. (let sooner : j < i = earlier f j x in let later : i ≤ j = h.least j (blown_later j x) in omega arith),
          λ g k. IsLinearizable-front o g b.before (AreWellFormed-front b.before entries (b.event ∷ b.after, b.cut) well) (front_of_front g front b.before k f) (some_order (marks b.before) b.many),
        ),
      ))
      (λ (f : IsPrefixOf (b.before ++ b.event ∷ []) front). (
        Over i,
        record {
          blown = record {
            before = b.before;
            event = b.event;
            after = f.0;
            cut = sym (append_assoc b.before (b.event ∷ []) f.0) ∙ f.1;
            here = b.here;
            is_ok = b.is_ok;
            many = b.many;
          };
          least = λ j x. h.least j (blown_later j x);
        },
      ))
      (stops_or_passes front is.0 b.before b.after b.event (is.1 ∙ sym b.cut))
    where
      earlier : IsPrefixOf front h.blown.before → (j : ℕ) → IsBlownAtBy more budget front j → j < i
      earlier f j x =
          let b = h.blown in
          let x_in : Contains b.before x.event = in_front front b.before x.event f (subst (λ l. Contains l x.event) x.cut (Contains-append_right x.before (x.event ∷ x.after) x.event (Contains-head x.event x.after))) in
          let lt : x.event.index < b.event.index =
          Pairwise-across (λ e g. e.index < g.index) b.before (b.event ∷ b.after) (subst IsRising (sym b.cut) rising) x.event b.event x_in (Contains-head b.event b.after) in
          omega (arith, x.here, b.here)

-- how each of the keys stands at a prefix of the history
module _ (kinds : ℕ → ModelKind) (budgets : ℕ → ℕ) (front entries : List Entry) (is : IsPrefixOf front entries) where
  abbrev StandsSo : ℕ × KeyStatus → Type 0
  StandsSo s = IsKeyStatus (kinds s.0) (budgets s.0) (of_key s.0 front) s.1

  key_front : (k : ℕ) → IsPrefixOf (of_key k front) (of_key k entries)
  key_front k = (of_key k is.0, sym (filter-append (λ (e : Entry). nat_eq e.key k) front is.0) ∙ ap (of_key k) is.1)

  each_status : (statuses : List (ℕ × KeyStatus)) → ((s : ℕ × KeyStatus) → Contains statuses s → (t : KeyStatus) × StandsSo (s.0, t))
      → (new : List (ℕ × KeyStatus)) × (keys_of new ≡ keys_of statuses) × ((t : ℕ × KeyStatus) → Contains new t → StandsSo t)
  each_status [] each = ([], refl, λ t h. absurd (Contains-nil t h))
  each_status (s ∷ statuses) each =
      let here = each s (Contains-head s statuses) in
      let rest = each_status statuses (λ x h. each x (Contains-tail s statuses x h)) in (
        (s.0, here.0) ∷ rest.0,
        ap (λ l. s.0 ∷ l) rest.1,
        λ t h. ⊎_elim
            (λ e. subst StandsSo e here.1)
            (λ i. rest.2 t i)
            (Contains-cons_cases (s.0, here.0) rest.0 t h),
      )

  keys_once : (statuses : List (ℕ × KeyStatus)) → Pairwise (λ p q. p.0 ≢ q.0) statuses → Pairwise (λ i j. i ≢ j) (keys_of statuses)
  keys_once [] h = tt
  keys_once (s ∷ statuses) h = (
    λ k has e. (let from = from_map (λ (p : ℕ × KeyStatus). p.0) statuses k has in h.0 from.0 from.1 (e ∙ sym from.2)),
    keys_once statuses h.1,
  )

  pub front_statuses : IsKeyed entries → AreWellFormed (marks entries) → IsRising entries → (statuses : List (ℕ × KeyStatus)) → AreStatuses kinds budgets entries statuses
      → (new : List (ℕ × KeyStatus)) × AreStatuses kinds budgets front new
  front_statuses keyed well rising statuses are =
      let new = each_status statuses (λ s h. status_of s.0 s.1 (are.each s.0 s.1 h)) in (
        new.0,
        record {
          each = λ k t h. new.2 (k, t) h;
          once = keys_apart new.0 (subst (Pairwise (λ i j. i ≢ j)) (sym new.1) (keys_once statuses are.once));
          all = λ e h. has_status new.0 new.1 e.key (are.all e (in_front front entries e is h));
        },
      )
    where
      status_of : (k : ℕ) (s : KeyStatus) → IsKeyStatus (kinds k) (budgets k) (of_key k entries) s → (t : KeyStatus) × StandsSo (k, t)
      status_of k s h =
          front_status (CountsMoreThan (kinds k)) (object_of (kinds k)) (budgets k) (λ before. counted_order (kinds k) before (budgets k)) (of_key k front) (of_key k entries) (key_front k)
          (AreWellFormed-filter (λ (e : Entry). nat_eq e.key k) (λ e f same. ap (λ j. nat_eq j k) same) entries keyed well)
          (Pairwise-filter (λ (e : Entry). nat_eq e.key k) (λ e f. e.index < f.index) entries rising) s h

      has_status : (new : List (ℕ × KeyStatus)) → keys_of new ≡ keys_of statuses → (k : ℕ) → (s : KeyStatus) × Contains statuses (k, s) → (t : KeyStatus) × Contains new (k, t)
      has_status new keys k s =
          let from = from_map (λ (p : ℕ × KeyStatus). p.0) new k (subst (λ l. Contains l k) (sym keys) (to_map (λ (p : ℕ × KeyStatus). p.0) statuses (k, s.0) s.1)) in
          (from.0.1, subst (λ j. Contains new (j, from.0.1)) from.2 from.1)

-- the entries of the first events are a prefix of all
indexed_front : (i : ℕ) (xs ys : List Event) → IsPrefixOf (indexed_from i xs) (indexed_from i (xs ++ ys))
indexed_front i [] ys = (indexed_from i ys, refl)
indexed_front i (x ∷ xs) ys = let rest = indexed_front (i + 1) xs ys in (rest.0, ap (λ l. (i, x) ∷ l) rest.1)

entries_front : (last : ℕ → ℕ) (xs ys : List (ℕ × Event)) → IsPrefixOf (entries_from last xs) (entries_from last (xs ++ ys))
entries_front last [] ys = (entries_from last ys, refl)
entries_front last (x ∷ xs) ys =
    let here = entries_by x.0 last (op_event x.1) in
    let next = last_after x.0 last (op_event x.1) in
    let rest = entries_front next xs ys in
    (rest.0, append_assoc here (entries_from next xs) rest.0 ∙ ap (λ l. here ++ l) rest.1)

pub entries_taken : (n : ℕ) (events : List Event) → IsPrefixOf (entries_of (indexed_from 0 (take n events))) (entries_of (indexed_from 0 events))
entries_taken n events =
    let front = indexed_front 0 (take n events) (drop n events) in
    subst (λ l. IsPrefixOf (entries_of (indexed_from 0 (take n events))) (entries_of (indexed_from 0 l))) (take-append-drop n events)
    (subst (λ l. IsPrefixOf (entries_of (indexed_from 0 (take n events))) (entries_of l)) front.1 (entries_front (λ _. 0) (indexed_from 0 (take n events)) front.0))

-- every list of statuses has a join
abbrev pub HasJoin : List (ℕ × KeyStatus) → Type 0
HasJoin statuses = (v : Verdict) × IsJoin statuses v

join_more : (statuses : List (ℕ × KeyStatus)) (key : ℕ) (status : KeyStatus) (v : Verdict) → IsJoin statuses v → HasJoin (statuses ++ (key, status) ∷ [])
join_more statuses key Alive v j = (v, IsJoin-alive statuses key v j)
join_more statuses key (Dead i) (Illegal k n) j =
    ⊎_elim
    (λ lt. (Illegal key i, IsJoin-dead_earlier statuses key i k n j lt))
    (λ le. (Illegal k n, IsJoin-dead_later statuses key i k n j le))
    (cases_lt i n)
join_more statuses key (Dead i) (Unknown k n) j = (Illegal key i, IsJoin-dead_unknown statuses key i k n j)
join_more statuses key (Dead i) Legal j = (Illegal key i, IsJoin-dead_legal statuses key i j)
join_more statuses key (Over i) (Illegal k n) j = (Illegal k n, IsJoin-over_illegal statuses key i k n j)
join_more statuses key (Over i) (Unknown k n) j =
    ⊎_elim
    (λ lt. (Unknown key i, IsJoin-over_earlier statuses key i k n j lt))
    (λ le. (Unknown k n, IsJoin-over_later statuses key i k n j le))
    (cases_lt i n)
join_more statuses key (Over i) Legal j = (Unknown key i, IsJoin-over_legal statuses key i j)

join_all : (done rest : List (ℕ × KeyStatus)) → HasJoin done → HasJoin (done ++ rest)
join_all done [] j = (j.0, subst (λ l. IsJoin l j.0) (sym (append-nil done)) j.1)
join_all done (s ∷ rest) j =
    let all = join_all (done ++ s ∷ []) rest (join_more done s.0 s.1 j.0 j.1) in
    (all.0, subst (λ l. IsJoin l all.0) (append_assoc done (s ∷ []) rest) all.1)

pub has_join : (statuses : List (ℕ × KeyStatus)) → HasJoin statuses
has_join statuses = join_all [] statuses (Legal, IsJoin-none)

-- so a history has a verdict at each length
pub verdict_at : Laws → (h : JudgedHistory) (statuses : List (ℕ × KeyStatus)) → IsHistoryOf h.concurrency h.events → AreStatusesOf (rows_of h) statuses → (n : ℕ)
    → (v : Verdict) × IsVerdictOn (rewound n h) v
verdict_at laws h statuses may are n =
    let whole : IsHistory (indexed_from 0 h.events) = laws.rule h.concurrency h.events may in
    let part : IsHistory (indexed_from 0 (take n h.events)) = laws.rule h.concurrency (take n h.events) (history-take h.concurrency n h.events may) in
    let new = front_statuses (kind_of h) (budget_of h) (entries_in (rewound n h)) (entries_in h) (entries_taken n h.events)
    (laws.keyed _ whole) (laws.well _ whole) (laws.rising _ whole) statuses (statuses_of_keys laws h statuses may are) in
    let join = has_join new.0 in
    (join.0, laws.join (kind_of h) (budget_of h) (entries_in (rewound n h)) new.0 join.0 (laws.keyed _ part) (laws.well _ part) (laws.rising _ part) new.1 join.1)

-- the statuses of the keys are those of their rows
pub statuses_of_rows : (h : JudgedHistory) (statuses : List (ℕ × KeyStatus)) → All (λ (s : ℕ × KeyStatus). IsStatusOf (history_of_key h s.0) s.1) statuses
    → map (λ (s : ℕ × KeyStatus). s.0) statuses ≡ keys_in_order h.events → AreStatusesOf (rows_of h) statuses
statuses_of_rows h statuses each keys = subst (λ ks. AreStatusesOf (map (λ key. (key, history_of_key h key)) ks) statuses) keys (by_each statuses each)
  where
    by_each : (ss : List (ℕ × KeyStatus)) → All (λ (s : ℕ × KeyStatus). IsStatusOf (history_of_key h s.0) s.1) ss
        → AreStatusesOf (map (λ key. (key, history_of_key h key)) (map (λ (s : ℕ × KeyStatus). s.0) ss)) ss
    by_each [] each = tt
    by_each (s ∷ ss) each = (
      refl,
      All-head (λ (s : ℕ × KeyStatus). IsStatusOf (history_of_key h s.0) s.1) s ss each,
      by_each ss (All-tail (λ (s : ℕ × KeyStatus). IsStatusOf (history_of_key h s.0) s.1) s ss each),
    )
