-- A strict store holds one true state of each key
use Rattle.std.proofs.Common.{◌≡◌, ◌≢◌, ℕ, zero, suc, ◌+◌, ◌*◌, ◌<◌, ◌≤◌, ⊎_elim, nat_eq, Bool, cond, Some, IfSome, List, [], ◌∷◌, map, inl, length, replicate, refl, sym, ap, ◌∙◌, subst, arith}
use Rattle.std.specs.List.{Contains}
use Rattle.std.proofs.lemmas.Bool.{cases_eq, eq-eqb, ne_eqb, ltb-true}
use Rattle.std.proofs.lemmas.List.{length-replicate}
use Rattle.std.proofs.lemmas.Option.{same_Some}
use Rattle.models.specs.declared.operation.Op.{Op}
use Rattle.models.specs.declared.finding.Found.{Found}
use Rattle.models.specs.Objects.{IsOneOf}
use Rattle.kinds.specs.declared.model_kind.ModelKind.{ModelKind}
use Rattle.kinds.specs.declared.any_state.AnyState.{AnyState}
use Rattle.kinds.specs.Kinds.{table_of, object_of}
use Rattle.kinds.specs.AnyState.{any}
use Rattle.events.specs.declared.event.Fault.{Fault}
use Rattle.events.specs.declared.event.Fault.TheVariants.{Partition, Heal, Pause, Resume, Crash, Restart, LoseReplies}
use Rattle.test_store.specs.declared.held.Held.{Held}
use Rattle.test_store.specs.declared.links.Links.{Links}
use Rattle.test_store.specs.declared.outcome.Mode.{Mode}
use Rattle.test_store.specs.declared.outcome.Mode.TheVariants.{Strict}
use Rattle.test_store.specs.declared.outcome.Outcome.{Outcome}
use Rattle.test_store.specs.declared.outcome.Outcome.TheVariants.{Done, Refused, Lost}
use Rattle.test_store.specs.Copies.{fresh, fresh_row, taken_over}
use Rattle.test_store.specs.Reach.{is_up, reaches, reached}
use Rattle.test_store.specs.Store.{first_of, Cluster, opening, row_of, row_in, with_row, is_majority, TakesPlace, Serves, MayServe, rows_after, after_fault, IsCount, StoreView, at_rest}
use Rattle.test_store.specs.Truth.{Truth, start_truth, with_version, TrueState, IsTrueOf, TrulySteps, KeepsTruth, LeavesTruth}
use Rattle.test_store.proofs.Majorities.{Ends, count, ends_chosen, HasNewest, has_newest, taken_len, taken_in, taken_count, Contains-cases, with_cons, one_if}
use Rattle.test_store.proofs.Puts.{row_same, row_other}
use Rattle.test_store.proofs.Striking.{and_right}

-- the row of a key that was never changed
fresh_count : (n : ℕ) (held : Held) → with_version held.version (replicate n held) ≡ n
fresh_count zero held = refl
fresh_count (suc n) held =
    (let c : with_version held.version (held ∷ replicate n held) ≡ with_version held.version (replicate n held) + one_if (nat_eq held.version held.version) = with_cons held.version held (replicate n held) in
    let one : one_if (nat_eq held.version held.version) ≡ 1 = ap one_if (eq-eqb held.version held.version refl) in
    let rest : with_version held.version (replicate n held) ≡ n = fresh_count n held in
    let all : with_version held.version (replicate (suc n) held) ≡ suc n = omega arith in all)

pub fresh_in : (n : ℕ) (held h : Held) → Contains (replicate n held) h → h ≡ held
fresh_in zero held h k = absurd (omega arith)
fresh_in (suc n) held h k = ⊎_elim sym (fresh_in n held h) (Contains-cases held (replicate n held) h k)

pub holds_fresh : (kind : ModelKind) (n : ℕ) → 1 ≤ n → TrueState kind n (fresh_row n kind) (object_of kind).start
holds_fresh kind n h = record {
  version = 0;
  len = length-replicate n (fresh kind);
  majority = (let c : with_version 0 (fresh_row n kind) ≡ n = fresh_count n (fresh kind) in omega arith);
  greatest = λ held k. (let e : held.version ≡ 0 = ap (λ (g : Held). g.version) (fresh_in n (fresh kind) held k) in omega arith);
  same = λ held k v. ap (λ (g : Held). g.state) (fresh_in n (fresh kind) held k);
}

pub opening_true : (n : ℕ) (kind : ModelKind) → IsCount n → IsTrueOf kind (opening n Strict kind) (start_truth kind)
opening_true n kind h key = holds_fresh kind n h.0

-- an outcome, its state seen as one of any kind
abbrev pub seen : {S : Type 0} → (S → AnyState) → S × Found → AnyState × Found
seen view o = (view o.0, o.1)

-- the first listed outcome as an outcome of the object
pub record FirstStep {S : Type 0} (view : S → AnyState) (xs : List (S × Found)) (came : AnyState × Found) : Type 0 where
  pub next : S
  pub after_is : came.0 ≡ view next
  pub listed : IsOneOf xs (next, came.1)

pub first_step : {S : Type 0} (view : S → AnyState) (xs : List (S × Found)) (came : AnyState × Found)
    → Some came ≡ first_of (map (seen view) xs) → FirstStep view xs came
first_step view [] came e = absurd cc
first_step {S} view (x ∷ xs) came e =
    let same : came ≡ seen view x = same_Some came (seen view x) e in
    let found_is : came.1 ≡ x.1 = ap (λ (q : AnyState × Found). q.1) same in
    let finding : Found → S × Found = λ f. (x.0, f) in
    record { next = x.0; after_is = ap (λ (q : AnyState × Found). q.0) same; listed = inl (ap finding (sym found_is)) }

-- the row that a serve of the strict store leaves, and what it does to the truth
record Moves (kind : ModelKind) (n : ℕ) (state : (object_of kind).State) (op : Op) (found : Found) (row' : List Held) : Type 0 where
  next : (object_of kind).State
  step : (object_of kind).Steps state op found next
  holds : TrueState kind n row' next

moves : (kind : ModelKind) (n : ℕ) (links : Links) (e : ℕ) (op : Op) (row : List Held) (found : Found) (row' : List Held) (state : (object_of kind).State)
    → TrueState kind n row state → TakesPlace Strict n links e op row found row' → Moves kind n state op found row'
moves kind n links e op row found row' state h t =
    let flags : List Bool = reached n links e in
    let ends : Ends flags row = ends_chosen n (reaches links e) row h.len in
    let most : n < 2 * count flags = ltb-true n (2 * count flags) (and_right (is_up links e) (is_majority n flags) t.may) in
    let len : length row ≡ n = h.len in
    let major : n < 2 * with_version h.version row = h.majority in
    let new : HasNewest flags row h.version = has_newest flags row h.version ends h.greatest (omega arith) in
    let held_is : new.held ≡ t.held = same_Some new.held t.held (sym new.is ∙ t.is_newest) in
    let state_is : t.held.state ≡ any kind state = ap (λ (g : Held). g.state) (sym held_is) ∙ h.same new.held new.member new.has in
    let came : AnyState × Found = (t.state, found) in
    let o : FirstStep (any kind) ((table_of kind).apply op state) came =
    first_step (any kind) ((table_of kind).apply op state) came (t.step kind state state_is) in
    let version_is : t.held.version ≡ h.version = ap (λ (g : Held). g.version) (sym held_is) ∙ new.has in
    let put : Held = record { version = t.held.version + 1; state = t.state } in
    let taken : TrueState kind n (taken_over flags put row) o.next = record {
      version = t.held.version + 1;
      len = taken_len flags put row ∙ len;
      majority = (let le : count flags ≤ with_version (t.held.version + 1) (taken_over flags put row) = taken_count flags put row ends in omega arith);
      greatest = λ g k. ⊎_elim
          (λ s. (let v : g.version ≡ t.held.version + 1 = ap (λ (w : Held). w.version) s in omega arith))
          (λ j. (let b : g.version ≤ h.version = h.greatest g j in omega arith))
          (taken_in flags put row g k);
      same = λ g k v. ⊎_elim
          (λ s. ap (λ (w : Held). w.state) s ∙ o.after_is)
          (λ j. (let b : g.version ≤ h.version = h.greatest g j in absurd (omega arith)))
          (taken_in flags put row g k);
    } in
    record { next = o.next; step = o.listed; holds = subst (λ l. TrueState kind n l o.next) (sym t.row_is) taken }

-- the truth with another state of one key
abbrev with_state : (kind : ModelKind) → Truth kind → ℕ → (object_of kind).State → Truth kind
with_state kind truth key state k = cond (nat_eq k key) state (truth k)

with_same : (kind : ModelKind) (truth : Truth kind) (key : ℕ) (state : (object_of kind).State) → with_state kind truth key state key ≡ state
with_same kind truth key state = ap (λ b. cond b state (truth key)) (eq-eqb key key refl)

with_other : (kind : ModelKind) (truth : Truth kind) (key : ℕ) (state : (object_of kind).State) (k : ℕ) → k ≢ key → with_state kind truth key state k ≡ truth k
with_other kind truth key state k ne = ap (λ b. cond b state (truth k)) (ne_eqb k key ne)

record Kept (kind : ModelKind) (truth : Truth kind) (s : Cluster) (op : Op) (found : Found) (row : List Held) : Type 0 where
  truth' : Truth kind
  steps : TrulySteps kind truth op found truth'
  holds : IsTrueOf kind (with_row op.key row s) truth'

kept : (kind : ModelKind) (truth : Truth kind) (s : Cluster) (e : ℕ) (op : Op) (found : Found) (row : List Held) → s.mode ≡ Strict → IsTrueOf kind s truth → Serves s e op found row → Kept kind truth s op found row
kept kind truth s e op found row strict true_of serves =
    let t : TakesPlace Strict s.replicas s.links e op (row_of s op.key) found row = subst (λ m. TakesPlace m s.replicas s.links e op (row_of s op.key) found row) strict serves in
    let m : Moves kind s.replicas (truth op.key) op found row = moves kind s.replicas s.links e op (row_of s op.key) found row (truth op.key) (true_of op.key) t in
    let new : Truth kind = with_state kind truth op.key m.next in
    let at_key : new op.key ≡ m.next = with_same kind truth op.key m.next in record {
      truth' = new;
      steps = (subst (λ x. (object_of kind).Steps (truth op.key) op found x) (sym at_key) m.step, λ k ne. with_other kind truth op.key m.next k ne);
      holds = λ k. ⊎_elim
          (λ same. subst (λ j. TrueState kind s.replicas (row_of (with_row op.key row s) j) (new j)) (sym same)
          (subst (λ x. TrueState kind s.replicas (row_of (with_row op.key row s) op.key) x) (sym at_key) (subst (λ l. TrueState kind s.replicas l m.next) (sym (row_same s op.key row)) m.holds)))
          (λ ne. subst (λ x. TrueState kind s.replicas (row_of (with_row op.key row s) k) x) (sym (with_other kind truth op.key m.next k ne))
          (subst (λ l. TrueState kind s.replicas l (truth k)) (sym (row_other s op.key row k ne)) (true_of k)))
          (cases_eq k op.key);
    }

pub serve_keeps : (old : Cluster) (e : ℕ) (op : Op) (outcome : Outcome) (new : Cluster) → MayServe old e op outcome new → KeepsTruth old op outcome new
serve_keeps old e op Refused new may kind truth strict true_of =
    (truth, refl, subst (λ s. IsTrueOf kind s truth) (sym may.1) true_of, ap (λ (s : Cluster). s.mode) may.1 ∙ strict)
serve_keeps old e op (Done found) new may kind truth strict true_of =
    let k : Kept kind truth old op found may.0 = kept kind truth old e op found may.0 strict true_of may.1 in
    (k.truth', k.steps, subst (λ s. IsTrueOf kind s k.truth') (sym may.3) k.holds, ap (λ (s : Cluster). s.mode) may.3 ∙ strict)
serve_keeps old e op Lost new may kind truth strict true_of =
    let k : Kept kind truth old op may.0 may.1 = kept kind truth old e op may.0 may.1 strict true_of may.2 in
    (k.truth', (may.0, k.steps), subst (λ s. IsTrueOf kind s k.truth') (sym may.4) k.holds, ap (λ (s : Cluster). s.mode) may.4 ∙ strict)

same_rows : (mode : Mode) (n : ℕ) (links : Links) (fault : Fault) (rows : List (ℕ × List Held)) → mode ≡ Strict → rows_after mode n links fault rows ≡ rows
same_rows mode n links fault rows strict = ap (λ m. rows_after m n links fault rows) strict ∙ by_fault fault
  where
    by_fault : (fault : Fault) → rows_after Strict n links fault rows ≡ rows
    by_fault Heal = refl
    by_fault (Partition groups) = refl
    by_fault (Pause r) = refl
    by_fault (Resume r) = refl
    by_fault (Crash r) = refl
    by_fault (Restart r) = refl
    by_fault (LoseReplies k) = refl

pub fault_leaves : (fault : Fault) (s : Cluster) → LeavesTruth s (after_fault fault s)
fault_leaves fault s kind truth strict true_of = (
  (λ key. subst (λ rows. TrueState kind s.replicas (row_in rows s.replicas s.kind key) (truth key)) (sym (same_rows s.mode s.replicas s.links fault s.rows strict)) (true_of key)),
  strict,
)

-- the prepared change, carried out
pub serving : (old st new : StoreView) (e : ℕ) (op : Op) (outcome : Outcome) → (next : Cluster) × MayServe old.now e op outcome next × (st ≡ record { now = old.now; next = Some next })
    → IfSome st.next (λ next. new ≡ at_rest next) → KeepsTruth old.now op outcome new.now
serving old st new e op outcome served done =
    let is : new ≡ at_rest served.0 = subst (λ (x : StoreView). IfSome x.next (λ next. new ≡ at_rest next)) served.2 done in
    subst (λ (x : StoreView). KeepsTruth old.now op outcome x.now) (sym is) (serve_keeps old.now e op outcome served.0 served.1)
