-- No version is greater than the number of serves
use Rattle.std.proofs.Common.{◌≡◌, ℕ, ◌+◌, ◌≤◌, ⊎_elim, nat_eq, Bool, true, false, cond, Option, Some, None, unwrap_or, List, [], ◌∷◌, map, refl, sym, ap, ◌∙◌, subst, arith}
use Rattle.std.specs.List.{Contains}
use Rattle.std.specs.Map.{lookup}
use Rattle.std.proofs.lemmas.Bool.{cases_eq}
use Rattle.models.specs.declared.operation.Op.{Op}
use Rattle.models.specs.declared.finding.Found.{Found}
use Rattle.kinds.specs.declared.model_kind.ModelKind.{ModelKind}
use Rattle.events.specs.declared.event.Fault.{Fault}
use Rattle.events.specs.declared.event.Fault.TheVariants.{Partition, Heal, Pause, Resume, Crash, Restart, LoseReplies}
use Rattle.test_store.specs.declared.held.Held.{Held}
use Rattle.test_store.specs.declared.links.Links.{Links}
use Rattle.test_store.specs.declared.outcome.Mode.{Mode}
use Rattle.test_store.specs.declared.outcome.Mode.TheVariants.{Strict, Sloppy}
use Rattle.test_store.specs.declared.outcome.Outcome.{Outcome}
use Rattle.test_store.specs.declared.outcome.Outcome.TheVariants.{Done, Refused, Lost}
use Rattle.test_store.specs.Copies.{fresh, fresh_row, newest, taken_over, healed, healed_by, healed_entry}
use Rattle.test_store.specs.Reach.{ups}
use Rattle.test_store.specs.Store.{Cluster, opening, row_of, row_in, with_row, servers, Serves, MayServe, rows_after, after_fault, VersionsOf, VersionsWithin}
use Rattle.test_store.proofs.Newest.{newest_in, newest_within}
use Rattle.test_store.proofs.Majorities.{taken_in}
use Rattle.test_store.proofs.Puts.{row_same, row_other}
use Rattle.test_store.proofs.TruthKept.{fresh_in}

pub opening_versions : (n : ℕ) (mode : Mode) (kind : ModelKind) → VersionsWithin (opening n mode kind) 0
opening_versions n mode kind key held h = (let e : held.version ≡ 0 = ap (λ (g : Held). g.version) (fresh_in n (fresh kind) held h) in omega arith)

taken_versions : (flags : List Bool) (new : Held) (row : List Held) (n : ℕ) → VersionsOf row n → new.version ≤ n → VersionsOf (taken_over flags new row) n
taken_versions flags new row n within le held h =
    ⊎_elim (λ s. (let e : held.version ≡ new.version = ap (λ (g : Held). g.version) s in omega arith)) (within held) (taken_in flags new row held h)

put_versions : (s : Cluster) (e : ℕ) (op : Op) (found : Found) (row : List Held) (n : ℕ) → Serves s e op found row → VersionsWithin s n → VersionsWithin (with_row op.key row s) (n + 1)
put_versions s e op found row n t within key held h =
    ⊎_elim
    (λ same. own (subst (λ l. Contains l held) (row_same s op.key row) (subst (λ k. Contains (row_of (with_row op.key row s) k) held) same h)))
    (λ ne. up (within key held (subst (λ l. Contains l held) (row_other s op.key row key ne) h)))
    (cases_eq key op.key)
  where
    up : held.version ≤ n → held.version ≤ n + 1
    up l = omega arith

    own : Contains row held → held.version ≤ n + 1
    own k =
        (let flags : List Bool = servers s.mode s.replicas s.links e in
        let le : t.held.version ≤ n = newest_within flags (row_of s op.key) t.held n (within op.key) t.is_newest in
        taken_versions flags (record { version = t.held.version + 1; state = t.state }) (row_of s op.key) (n + 1) (λ g i. (let l : g.version ≤ n = within op.key g i in omega arith)) (omega arith) held
        (subst (λ l. Contains l held) t.row_is k))

pub serve_versions : (old new : Cluster) (e : ℕ) (op : Op) (outcome : Outcome) (n : ℕ) → MayServe old e op outcome new → VersionsWithin old n → VersionsWithin new (n + 1)
serve_versions old new e op Refused n may within = subst (λ s. VersionsWithin s (n + 1)) (sym may.1) (λ key held h. (let l : held.version ≤ n = within key held h in omega arith))
serve_versions old new e op (Done found) n may within = subst (λ s. VersionsWithin s (n + 1)) (sym may.3) (put_versions old e op found may.0 n may.1 within)
serve_versions old new e op Lost n may within = subst (λ s. VersionsWithin s (n + 1)) (sym may.4) (put_versions old e op may.0 may.1 n may.2 within)

-- healing
abbrev heal_option : List Bool → Option (List Held) → Option (List Held)
heal_option chosen None = None
heal_option chosen (Some row) = Some (healed chosen row)

heal_cond : (chosen : List Bool) (b : Bool) (row : List Held) (o : Option (List Held)) → cond b (Some (healed chosen row)) (heal_option chosen o) ≡ heal_option chosen (cond b (Some row) o)
heal_cond chosen true row o = refl
heal_cond chosen false row o = refl

heal_lookup : (chosen : List Bool) (rows : List (ℕ × List Held)) (key : ℕ) → lookup (nat_eq key) (map (healed_entry chosen) rows) ≡ heal_option chosen (lookup (nat_eq key) rows)
heal_lookup chosen [] key = refl
heal_lookup chosen (x ∷ rows) key =
    ap (λ o. cond (nat_eq key x.0) (Some (healed chosen x.1)) o) (heal_lookup chosen rows key) ∙ heal_cond chosen (nat_eq key x.0) x.1 (lookup (nat_eq key) rows)

healed_versions : (chosen : List Bool) (row : List Held) (n : ℕ) → VersionsOf row n → VersionsOf (healed chosen row) n
healed_versions chosen row n within = by_newest (newest chosen row) refl
  where
    by_newest : (best : Option Held) → newest chosen row ≡ best → VersionsOf (healed_by chosen row best) n
    by_newest None is = within
    by_newest (Some best) is = taken_versions chosen best row n within (within best (newest_in chosen row best is))

option_versions : (chosen : List Bool) (o : Option (List Held)) (d : List Held) (n : ℕ) → VersionsOf (unwrap_or o d) n → VersionsOf (unwrap_or (heal_option chosen o) d) n
option_versions chosen None d n within = within
option_versions chosen (Some row) d n within = healed_versions chosen row n within

heal_rows : (chosen : List Bool) (rows : List (ℕ × List Held)) (m : ℕ) (kind : ModelKind) (key n : ℕ) → VersionsOf (row_in rows m kind key) n → VersionsOf (row_in (map (healed_entry chosen) rows) m kind key) n
heal_rows chosen rows m kind key n within =
    subst (λ o. VersionsOf (unwrap_or o (fresh_row m kind)) n) (sym (heal_lookup chosen rows key)) (option_versions chosen (lookup (nat_eq key) rows) (fresh_row m kind) n within)

rows_versions : (mode : Mode) (m : ℕ) (links : Links) (fault : Fault) (rows : List (ℕ × List Held)) (kind : ModelKind) (key n : ℕ) → VersionsOf (row_in rows m kind key) n → VersionsOf (row_in (rows_after mode m links fault rows) m kind key) n
rows_versions Sloppy m links Heal rows kind key n within = heal_rows (ups m links) rows m kind key n within
rows_versions Sloppy m links (Partition groups) rows kind key n within = within
rows_versions Sloppy m links (Pause r) rows kind key n within = within
rows_versions Sloppy m links (Resume r) rows kind key n within = within
rows_versions Sloppy m links (Crash r) rows kind key n within = within
rows_versions Sloppy m links (Restart r) rows kind key n within = within
rows_versions Sloppy m links (LoseReplies k) rows kind key n within = within
rows_versions Strict m links Heal rows kind key n within = within
rows_versions Strict m links (Partition groups) rows kind key n within = within
rows_versions Strict m links (Pause r) rows kind key n within = within
rows_versions Strict m links (Resume r) rows kind key n within = within
rows_versions Strict m links (Crash r) rows kind key n within = within
rows_versions Strict m links (Restart r) rows kind key n within = within
rows_versions Strict m links (LoseReplies k) rows kind key n within = within

pub fault_versions : (fault : Fault) (s : Cluster) (n : ℕ) → VersionsWithin s n → VersionsWithin (after_fault fault s) n
fault_versions fault s n within key = rows_versions s.mode s.replicas s.links fault s.rows s.kind key n (within key)

pub serve_replicas : (old new : Cluster) (e : ℕ) (op : Op) (outcome : Outcome) → MayServe old e op outcome new → new.replicas ≡ old.replicas
serve_replicas old new e op Refused may = ap (λ (s : Cluster). s.replicas) may.1
serve_replicas old new e op (Done found) may = ap (λ (s : Cluster). s.replicas) may.3
serve_replicas old new e op Lost may = ap (λ (s : Cluster). s.replicas) may.4
