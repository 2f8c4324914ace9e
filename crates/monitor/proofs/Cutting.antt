-- the cut of all lines is prepared, one after the other
use Rattle.std.proofs.Common.{◌≡◌, ℕ, zero, suc, ◌+◌, ◌%◌, ◌≤◌, if◌then◌else◌, true, false, Some, IfSome, List, [], ◌∷◌, length, take, slice_get, refl, sym, ap, subst, ◌∙◌, arith}
use Rattle.std.specs.List.{filter}
use Rattle.std.proofs.lemmas.Bool.{cond_both, true≢false, ltb-false}
use Rattle.std.proofs.lemmas.List.{map-append, length-map, length_push, take_all}
use Rattle.std.proofs.lemmas.List.Sums.{sum_by_more}
use Rattle.std.proofs.lemmas.Option.{get_or_from_slice_get, slice_get_within}
use Rattle.linspec.specs.declared.verdict.KeyStatus.{KeyStatus}
use Rattle.linspec.specs.declared.verdict.Verdict.{Verdict}
use Rattle.linspec.specs.KeyHistory.{KeyHistory, IsStatusOf, cut_at, events_below, loses_at, begins_below}
use Rattle.checkpoints.specs.KeyLineView.{KeyLineView, with_next, replays_at, count_on}
use Rattle.monitor.specs.Rows.{nows, cut_rows, change_at, each_line, with_cut, replays_in, JoinsRows, IsCutAt, AreCutAt}
use Rattle.monitor.proofs.Changing.{first_changed, first_have, was_at, changed-more, changed_alike, unchanged}
use Rattle.monitor.proofs.Joins.{now_read}
use Rattle.monitor.proofs.Places.{one_more_kept, one_more_dropped}
use Rattle.monitor.proofs.Statuses.{JoinsWith, joins_push}

-- a line with its cut prepared
abbrev pub cut_next : ℕ → KeyLineView → KeyLineView
cut_next n line = with_next (cut_at n line.now) (replays_at n line.now) line

cut_now : (n : ℕ) (line : KeyLineView) → (with_cut n line).now ≡ line.now
cut_now n line = cond_both (begins_below n line.now) (cut_next n line) line (λ l. l.now ≡ line.now) (λ e. refl) (λ e. refl)

is_cut : (n : ℕ) (line : KeyLineView) → IsCutAt n (with_cut n line)
is_cut n line = cond_both (begins_below n line.now) (cut_next n line) line (IsCutAt n)
    (λ e begins. (refl, refl))
    (λ e begins. absurd (true≢false (sym begins ∙ e)))

each_is_cut : (n : ℕ) (rows : List (ℕ × KeyLineView)) (place : ℕ) → IfSome (slice_get (each_line (with_cut n) rows) place) (λ row. IsCutAt n row.1)
each_is_cut n [] place = tt
each_is_cut n (x ∷ rows) zero = is_cut n x.1
each_is_cut n (x ∷ rows) (suc place) = each_is_cut n rows place

pub are_cut : (n : ℕ) (old : List (ℕ × KeyLineView)) {rows : List (ℕ × KeyLineView)} → rows ≡ each_line (with_cut n) old → AreCutAt n rows
are_cut n old is place = subst (λ (l : List (ℕ × KeyLineView)). IfSome (slice_get l place) (λ row. IsCutAt n row.1)) (sym is) (each_is_cut n old place)

-- a key that has no event before n is not judged again
pub none_replayed : (n : ℕ) (h : KeyHistory) → begins_below n h ≡ false → 0 ≡ replays_at n h
none_replayed n h none =
    let empty : length (events_below n h.events) ≤ 0 = ltb-false 0 (length (events_below n h.events)) none in
    cond_both (loses_at n h) (length (events_below n h.events) % 64) 0 (λ k. 0 ≡ k) (λ e. omega arith) (λ e. refl)

abbrev begun : ℕ → List (ℕ × KeyHistory) → List (ℕ × KeyHistory)
begun n rows = filter (λ row. begins_below n row.1) rows

-- the cut of the first n lines is prepared
pub record AreCutSoFar (n : ℕ) (old rows : List (ℕ × KeyLineView)) (place kept : ℕ) (v : Verdict) (start judged_again : ℕ) : Type 0 where
  pub changed : rows ≡ first_changed (with_cut n) place old
  pub few : kept ≤ place
  pub count : kept ≡ length (begun n (take place (nows old)))
  pub joins : JoinsRows (cut_rows n (begun n (take place (nows old)))) v
  pub counted : judged_again ≡ count_on start (replays_in n (take place (nows old)))

-- lines that have what others had are as many
pub same_length : (old rows : List (ℕ × KeyLineView)) → nows rows ≡ nows old → length rows ≡ length old
same_length old rows same =
    sym (length-map rows (λ (row : ℕ × KeyLineView). (row.0, row.1.now))) ∙ ap length same ∙ length-map old (λ (row : ℕ × KeyLineView). (row.0, row.1.now))

module _ {n : ℕ} {old rows : List (ℕ × KeyLineView)} {place kept : ℕ} {v : Verdict} {start judged_again : ℕ} (so_far : AreCutSoFar n old rows place kept v start judged_again) where
  pub same_nows : nows rows ≡ nows old
  same_nows = ap nows so_far.changed ∙ first_have (with_cut n) (cut_now n) place old

  -- one line more, by the row that is read
  module _ {key : ℕ} {line : KeyLineView} (at : slice_get rows place ≡ Some (key, line)) where
    abbrev old_row : ℕ × KeyHistory
    old_row = (key, line.now)

    old_at : slice_get (nows old) place ≡ Some old_row
    old_at = now_read old place key line (was_at (with_cut n) old place so_far.changed at)

    one_counted : replays_in n (take (place + 1) (nows old)) ≡ replays_in n (take place (nows old)) + replays_at n line.now
    one_counted =
        sum_by_more (λ (r : ℕ × KeyHistory). replays_at n r.1) (nows old) place old_row (slice_get_within (nows old) place old_row old_at)
        ∙ ap (λ (r : ℕ × KeyHistory). replays_in n (take place (nows old)) + replays_at n r.1) (get_or_from_slice_get (nows old) place old_row old_row old_at)

    pub AreCutSoFar-skip : begins_below n line.now ≡ false → AreCutSoFar n old rows (place + 1) kept v start judged_again
    AreCutSoFar-skip none =
        let e = one_more_dropped (nows old) place old_row old_at (λ (r : ℕ × KeyHistory). begins_below n r.1) none in
        let zero = none_replayed n line.now none in
        let same : replays_in n (take place (nows old)) ≡ replays_in n (take (place + 1) (nows old)) = omega (arith, one_counted, zero) in
        record {
          changed = sym (unchanged rows place at (with_cut n) (ap (λ b. if b then cut_next n line else line) none)) ∙ changed-more (with_cut n) old place so_far.changed;
          few = omega (arith, so_far.few);
          count = so_far.count ∙ sym (ap length e);
          joins = subst (λ (l : List (ℕ × KeyHistory)). JoinsRows (cut_rows n l) v) (sym e) so_far.joins;
          counted = so_far.counted ∙ ap (count_on start) same;
        }

    pub AreCutSoFar-more : {after : List (ℕ × KeyLineView)} (status : KeyStatus) {w : Verdict} {count : ℕ} → begins_below n line.now ≡ true
        → after ≡ change_at place (cut_next n) rows → IsStatusOf (cut_at n line.now) status → JoinsWith v key status w → count ≡ count_on judged_again (replays_at n line.now)
        → AreCutSoFar n old after (place + 1) (kept + 1) w start count
    AreCutSoFar-more status {w = w} begins is stands joins counts =
        let e = one_more_kept (nows old) place old_row old_at (λ (r : ℕ × KeyHistory). begins_below n r.1) begins in
        let before = begun n (take place (nows old)) in
        record {
          changed = is ∙ changed_alike rows place at (cut_next n) (with_cut n) (sym (ap (λ b. if b then cut_next n line else line) begins)) ∙ changed-more (with_cut n) old place so_far.changed;
          few = omega (arith, so_far.few);
          count = ap (λ i. i + 1) so_far.count ∙ sym (ap length e ∙ length_push before old_row);
          joins = subst (λ (l : List (ℕ × KeyHistory)). JoinsRows l w)
              (sym (ap (cut_rows n) e ∙ map-append (λ (r : ℕ × KeyHistory). (r.0, cut_at n r.1)) before (old_row ∷ [])))
              (joins_push (cut_rows n before) key (cut_at n line.now) status v w so_far.joins stands joins);
          counted = counts ∙ ap (λ c. count_on c (replays_at n line.now)) so_far.counted
              ∙ count_twice start (replays_in n (take place (nows old))) (replays_at n line.now) ∙ ap (count_on start) (sym one_counted);
        }
      where
        count_twice : (m a b : ℕ) → count_on (count_on m a) b ≡ count_on m (a + b)
        count_twice m a b = omega arith

  -- once all lines are through
  module _ (all : length old ≤ place) where
    whole : take place (nows old) ≡ nows old
    whole = take_all place (nows old) (let long = length-map {B = ℕ × KeyHistory} old (λ (row : ℕ × KeyLineView). (row.0, row.1.now)) in omega (arith, long, all))

    pub all_kept : kept ≡ length (begun n (nows old))
    all_kept = so_far.count ∙ ap (λ l. length (begun n l)) whole

    pub all_joined : JoinsRows (cut_rows n (begun n (nows old))) v
    all_joined = subst (λ (l : List (ℕ × KeyHistory)). JoinsRows (cut_rows n (begun n l)) v) whole so_far.joins

    pub all_counted : judged_again ≡ count_on start (replays_in n (nows old))
    all_counted = so_far.counted ∙ ap (λ l. count_on start (replays_in n l)) whole
