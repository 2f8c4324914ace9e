-- the results of the tables of the objects
use Rattle.std.proofs.Common.{◌≡◌, ◌↔◌, ℕ, ℤ, inl, Bool, true, false, if◌then◌else◌, Option, Some, None, List, [], ◌∷◌, ◌++◌, map, refl, sym, ap, subst}
use Rattle.std.specs.Ordering.{int_eq}
use Rattle.std.proofs.lemmas.List.{append-nil, append_assoc}
use Rattle.std.proofs.lemmas.Bool.Decides.{Decides-int_eq}
use Rattle.models.specs.declared.operation.Name.TheVariants.{Cas, Acquire}
use Rattle.models.specs.declared.operation.Part.TheVariants.{Nil, Pair}
use Rattle.models.specs.declared.finding.Found.{Found}
use Rattle.models.specs.declared.finding.Found.TheVariants.{Unit as Done}
use Rattle.models.specs.Objects.{IsOneOf, cas_register_apply, mutex_apply, fifo_queue}
use Rattle.models.specs.Runs.{Runs, enqueued, dequeued}
use Rattle.models.proofs.Steps.{same_outcome, Runs-append}

-- the result of a cas, by whether the state is its first value
abbrev by_test : ℤ → Bool → List (Option ℤ × Found)
by_test b true = (Some b, Done) ∷ []
by_test b false = []

cas_from : (x a b : ℤ) (t : Option ℤ) (found : Found) (same : Bool) → int_eq x a ≡ same → IsOneOf (by_test b same) (t, found) → (Some x ≡ Some a) × (t ≡ Some b) × (found ≡ Done)
cas_from x a b t found true e h =
    let parts = same_outcome (Some b, Done) (t, found) h in
    (ap Some ((Decides-int_eq x a).0 e), sym parts.0, sym parts.1)
cas_from x a b t found false e h = absurd h

cas_to : (x a b : ℤ) (t : Option ℤ) (found : Found) (same : Bool) → int_eq x a ≡ same → x ≡ a → t ≡ Some b → found ≡ Done → IsOneOf (by_test b same) (t, found)
cas_to x a b t found true e q h k = inl cc
cas_to x a b t found false e q h k = let f = (Decides-int_eq x a).1 q in cc

by_test_is : (b : ℤ) (same : Bool) → by_test b same ≡ (if same then (Some b, Done) ∷ [] else [])
by_test_is b true = refl
by_test_is b false = refl

pub cas_takes_place : (a b : ℤ) (s t : Option ℤ) (found : Found) → IsOneOf (cas_register_apply Cas (Pair a b) s) (t, found) ↔ ((s ≡ Some a) × (t ≡ Some b) × (found ≡ Done))
cas_takes_place a b None t found = ((λ h. absurd h), (λ h. let e : None ≡ Some a = h.0 in cc))
cas_takes_place a b (Some x) t found =
    let same = int_eq x a in (
      (λ h. cas_from x a b t found same refl (subst (λ l. IsOneOf l (t, found)) (sym (by_test_is b same)) h)),
      (λ h.
          let x_is : x ≡ a = (let e : Some x ≡ Some a = h.0 in cc) in
          subst (λ l. IsOneOf l (t, found)) (by_test_is b same) (cas_to x a b t found same refl x_is h.1 h.2)),
    )

pub not_acquired_twice : (s t u : Bool) (f g : Found) → IsOneOf (mutex_apply Acquire Nil s) (t, f) → ¬ IsOneOf (mutex_apply Acquire Nil t) (u, g)
not_acquired_twice true t u f g h k = absurd h
not_acquired_twice false true u f g h k = absurd k
not_acquired_twice false false u f g h k = let e : true ≡ false = (same_outcome (true, Done) (false, f) h).0 in cc

all_enqueued : (key : ℕ) (s values : List ℤ) → Runs fifo_queue s (map (enqueued key) values) (s ++ values)
all_enqueued key s [] = sym (append-nil s)
all_enqueued key s (v ∷ values) = (s ++ v ∷ [], inl refl, subst (Runs fifo_queue (s ++ v ∷ []) (map (enqueued key) values)) (append_assoc s (v ∷ []) values) (all_enqueued key (s ++ v ∷ []) values))

all_dequeued : (key : ℕ) (values : List ℤ) → Runs fifo_queue values (map (dequeued key) values) []
all_dequeued key [] = refl
all_dequeued key (v ∷ values) = (values, inl refl, all_dequeued key values)

pub given_back_in_order : (key : ℕ) (values : List ℤ) → Runs fifo_queue [] (map (enqueued key) values ++ map (dequeued key) values) []
given_back_in_order key values = Runs-append fifo_queue [] values [] (map (enqueued key) values) (map (dequeued key) values) (all_enqueued key [] values) (all_dequeued key values)
