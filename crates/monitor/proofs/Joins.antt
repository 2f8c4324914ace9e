-- the verdict that joins how keys stand, kept up to date
use Rattle.std.proofs.Common.{◌≡◌, ◌≢◌, ℕ, ◌+◌, ◌≤◌, Some, List, [], ◌∷◌, ◌++◌, length, take, slice_get, sym, ap, subst, ◌∙◌, ⊎_elim, arith}
use Rattle.std.specs.Option.{option_map}
use Rattle.std.proofs.lemmas.Bool.{cases_eq}
use Rattle.std.proofs.lemmas.Option.{slice_get-map}
use Rattle.std.proofs.lemmas.List.{take_all, length-map}
use Rattle.indexmap.specs.Layout.{set_value_at, length-set_value_at}
use Rattle.linspec.specs.declared.verdict.KeyStatus.{KeyStatus}
use Rattle.linspec.specs.declared.verdict.Verdict.{Verdict}
use Rattle.linspec.specs.Verdicts.{IsJoin}
use Rattle.linspec.specs.KeyHistory.{KeyHistory, IsStatusOf}
use Rattle.checkpoints.specs.KeyLineView.{KeyLineView}
use Rattle.monitor.specs.Rows.{nows, JoinsRows}
use Rattle.monitor.proofs.Places.{read_written, others_stay, one_more_taken}
use Rattle.monitor.proofs.Statuses.{joins_push}

-- the present history of a line, at its place
pub now_read : (rows : List (ℕ × KeyLineView)) (place key : ℕ) (line : KeyLineView) → slice_get rows place ≡ Some (key, line) → slice_get (nows rows) place ≡ Some (key, line.now)
now_read rows place key line at =
    slice_get-map (λ (row : ℕ × KeyLineView). (row.0, row.1.now)) rows place
    ∙ ap (option_map (λ (row : ℕ × KeyLineView). (row.0, row.1.now))) at

-- the row of a key whose line is read, in the rows where the line at a place has something else
with_other : (rows : List (ℕ × KeyLineView)) (place other key : ℕ) (line : KeyLineView) (next : KeyHistory) (status : KeyStatus) → slice_get rows other ≡ Some (key, line) → (other ≡ place → IsStatusOf next status) → (other ≢ place → IsStatusOf line.now status) → (h : KeyHistory) × (slice_get (set_value_at (nows rows) place next) other ≡ Some (key, h)) × IsStatusOf h status
with_other rows place other key line next status at here there =
    let now = now_read rows other key line at in
    ⊎_elim
    (λ (e : other ≡ place). (next, subst (λ i. slice_get (set_value_at (nows rows) i next) other ≡ Some (key, next)) e (read_written (nows rows) other key line.now next now), here e))
    (λ (ne : other ≢ place). (line.now, others_stay (nows rows) place other next ne ∙ now, there ne))
    (cases_eq other place)

pub JoinsRows-more_with : (rows : List (ℕ × KeyLineView)) (place other key : ℕ) (line : KeyLineView) (next : KeyHistory) (status : KeyStatus) (v w : Verdict) → slice_get rows other ≡ Some (key, line) → (other ≡ place → IsStatusOf next status) → (other ≢ place → IsStatusOf line.now status) → ((statuses : List (ℕ × KeyStatus)) → IsJoin statuses v → IsJoin (statuses ++ (key, status) ∷ []) w) → JoinsRows (take other (set_value_at (nows rows) place next)) v → JoinsRows (take (other + 1) (set_value_at (nows rows) place next)) w
JoinsRows-more_with rows place other key line next status v w at here there joins j =
    let row = with_other rows place other key line next status at here there in
    let written = set_value_at (nows rows) place next in
    subst (λ (l : List (ℕ × KeyHistory)). JoinsRows l w) (sym (one_more_taken written other (key, row.0) row.1)) (joins_push (take other written) key row.0 status v w j row.2 joins)

-- all have been joined
pub JoinsRows-all_with : (es rows : List (ℕ × KeyLineView)) → es ≡ rows → (place other : ℕ) (next : KeyHistory) (v : Verdict) → length es ≤ other → JoinsRows (take other (set_value_at (nows rows) place next)) v → JoinsRows (set_value_at (nows rows) place next) v
JoinsRows-all_with es rows seen place other next v le j =
    let long : length (set_value_at (nows rows) place next) ≡ length es =
    length-set_value_at (nows rows) place next ∙ length-map rows (λ (row : ℕ × KeyLineView). (row.0, row.1.now)) ∙ sym (ap length seen) in
    subst (λ (l : List (ℕ × KeyHistory)). JoinsRows l v) (take_all other (set_value_at (nows rows) place next) (omega arith)) j
