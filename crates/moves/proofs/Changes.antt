-- one end that is changed
use Rattle.std.proofs.Common.{◌≡◌, ◌≢◌, ℕ, ⊎_elim, Bool, true, false, not, nat_eq, Option, Some, None, List, [], ◌∷◌, ◌++◌, is_some, refl, sym, ap, ◌∙◌, subst}
use Rattle.std.specs.List.{filter}
use Rattle.std.specs.Cmp.{nat_cmp_total}
use Rattle.std.specs.Ordering.{nat_cmp}
use Rattle.std.specs.FinMap as finmap
use Rattle.std.specs.FinSet as finset
use Rattle.std.proofs.lemmas.Bool.{cases_eq, eq-eqb, ne_eqb, true≢false}
use Rattle.models.specs.declared.finding.Found.{Found}
use Rattle.linspec.specs.Ends.{End}
use Rattle.linspec.proofs.FinLaws.{get-insert_same, get-insert_other, get-remove_same, get-remove_other}
use Rattle.linspec.proofs.Filters.{filter-yes, filter-no}
use Rattle.moves.specs.KeptEnds.{pending_in, found_at, crashed_in}
use Rattle.moves.specs.EndSteps.{settled, after_crash, crashed_if, is_in, with_call}

pub same_parts : {S : Type 0} (e f : End S) → e.state ≡ f.state → e.pending ≡ f.pending → e.crashed ≡ f.crashed → e ≡ f
same_parts e f a b c = λ i. record { state = a i; pending = b i; crashed = c i }

-- the entries of other operations
abbrev pub other_entries : ℕ → List (ℕ × Found) → List (ℕ × Found)
other_entries id entries = filter (λ (x : ℕ × Found). not (nat_eq x.0 id)) entries

gone : (entries : List (ℕ × Found)) (id : ℕ) → found_at (other_entries id entries) id ≡ None
gone [] id = finmap.get-empty {X = Found} nat_cmp id
gone (x ∷ entries) id =
    ⊎_elim
    (λ q. ap (λ l. found_at l id) (filter-no (λ (y : ℕ × Found). not (nat_eq y.0 id)) x entries (ap not (eq-eqb x.0 id q))) ∙ gone entries id)
    (λ ne. ap (λ l. found_at l id) (filter-yes (λ (y : ℕ × Found). not (nat_eq y.0 id)) x entries (ap not (ne_eqb x.0 id ne)))
    ∙ get-insert_other (pending_in (other_entries id entries)) x.0 x.1 id (λ q. ne (sym q)) ∙ gone entries id)
    (cases_eq x.0 id)

stays : (entries : List (ℕ × Found)) (id q : ℕ) → q ≢ id → found_at (other_entries id entries) q ≡ found_at entries q
stays [] id q other = refl
stays (x ∷ entries) id q other =
    ⊎_elim
    (λ same. ap (λ l. found_at l q) (filter-no (λ (y : ℕ × Found). not (nat_eq y.0 id)) x entries (ap not (eq-eqb x.0 id same)))
    ∙ stays entries id q other ∙ sym (get-insert_other (pending_in entries) x.0 x.1 q (λ e. other (e ∙ same))))
    (λ ne. ap (λ l. found_at l q) (filter-yes (λ (y : ℕ × Found). not (nat_eq y.0 id)) x entries (ap not (ne_eqb x.0 id ne)))
    ∙ ⊎_elim
    (λ here. subst (λ j. found_at (x ∷ other_entries id entries) j ≡ found_at (x ∷ entries) j) (sym here)
    (get-insert_same (pending_in (other_entries id entries)) x.0 x.1 ∙ sym (get-insert_same (pending_in entries) x.0 x.1)))
    (λ there. get-insert_other (pending_in (other_entries id entries)) x.0 x.1 q there ∙ stays entries id q other ∙ sym (get-insert_other (pending_in entries) x.0 x.1 q there))
    (cases_eq q x.0))
    (cases_eq x.0 id)

pub pending-others : (entries : List (ℕ × Found)) (id : ℕ) → pending_in (other_entries id entries) ≡ finmap.remove (pending_in entries) id
pending-others entries id =
    finmap.same_map nat_cmp_total finmap.nat_cmp-IsAntisymmetric _ _ (λ q.
    ⊎_elim
    (λ same. subst (λ j. found_at (other_entries id entries) j ≡ finmap.get (finmap.remove (pending_in entries) id) j) (sym same)
    (gone entries id ∙ sym (get-remove_same (pending_in entries) id)))
    (λ ne. stays entries id q ne ∙ sym (get-remove_other (pending_in entries) id q ne))
    (cases_eq q id))

-- the end of a state, entries and ids
abbrev pub end_by : {S : Type 0} → S → List (ℕ × Found) → List ℕ → End S
end_by state entries ids = record { state = state; pending = pending_in entries; crashed = crashed_in ids }

pub settled_by : {S : Type 0} (state : S) (entries left : List (ℕ × Found)) (ids : List ℕ) (id : ℕ) → left ≡ other_entries id entries
    → end_by state left ids ≡ settled (end_by state entries ids) id
settled_by state entries left ids id is = same_parts (end_by state left ids) (settled (end_by state entries ids) id) refl (ap pending_in is ∙ pending-others entries id) refl

crashed_push : (ids : List ℕ) (id : ℕ) → crashed_in (ids ++ id ∷ []) ≡ finset.insert (crashed_in ids) id
crashed_push ids id = finset.from_list_push nat_cmp_total finset.nat_cmp-IsAntisymmetric ids id

crash_is : {S : Type 0} (e : End S) (id : ℕ) (r : Option Found) → is_some r ≡ true → crashed_if r e id ≡ record { state = e.state; pending = finmap.remove e.pending id; crashed = finset.insert e.crashed id }
crash_is e id None some = absurd (true≢false (sym some))
crash_is e id (Some found) some = refl

-- it was there: its id is pushed, and then it is settled
pub crashed_by : {S : Type 0} (state : S) (entries : List (ℕ × Found)) (ids pushed : List ℕ) (f : End S) (id : ℕ) → is_in (end_by state entries ids) id false ≡ true
    → pushed ≡ ids ++ id ∷ [] → f ≡ settled (end_by state entries pushed) id → f ≡ after_crash true (end_by state entries ids) id
crashed_by state entries ids pushed f id there push is =
    is
    ∙ same_parts (settled (end_by state entries pushed) id) (record { state = state; pending = finmap.remove (pending_in entries) id; crashed = finset.insert (crashed_in ids) id })
    refl refl (ap crashed_in push ∙ crashed_push ids id)
    ∙ sym (crash_is (end_by state entries ids) id (found_at entries id) there)

none_of : (r : Option Found) → is_some r ≡ false → r ≡ None
none_of None e = refl
none_of (Some found) e = absurd (true≢false e)

-- with a crashed call, and with an open one
module _ {S : Type 0} (was state : S) (entries now_entries : List (ℕ × Found)) (ids now_ids : List ℕ) (id : ℕ) (found : Found) (crashed : Bool) where
  pub with_crashed_call : crashed ≡ true → now_entries ≡ entries → now_ids ≡ ids ++ id ∷ [] → end_by state now_entries now_ids ≡ with_call (end_by was entries ids) id crashed found state
  with_crashed_call is a b =
      subst (λ c. end_by state now_entries now_ids ≡ with_call (end_by was entries ids) id c found state) (sym is)
      (same_parts (end_by state now_entries now_ids) (with_call (end_by was entries ids) id true found state) refl (ap pending_in a) (ap crashed_in b ∙ crashed_push ids id))

  pub with_open_call : crashed ≡ false → is_in (end_by was entries ids) id crashed ≡ false → now_entries ≡ entries ++ (id, found) ∷ [] → now_ids ≡ ids
      → end_by state now_entries now_ids ≡ with_call (end_by was entries ids) id crashed found state
  with_open_call is not_in a b =
      let none : found_at entries id ≡ None = none_of _ (subst (λ c. is_in (end_by was entries ids) id c ≡ false) is not_in) in
      subst (λ c. end_by state now_entries now_ids ≡ with_call (end_by was entries ids) id c found state) (sym is)
      (same_parts (end_by state now_entries now_ids) (with_call (end_by was entries ids) id false found state) refl
      (ap pending_in a ∙ finmap.from_entries_push nat_cmp_total finmap.nat_cmp-IsAntisymmetric entries id found (sym (finmap.get-from_entries nat_cmp_total entries id) ∙ none))
      (ap crashed_in b))
