-- few events of one process are a history
use Rattle.std.proofs.Common.{◌≡◌, ℕ, ◌+◌, ◌≤◌, List, [], ◌∷◌, ◌++◌, refl, sym, subst, arith}
use Rattle.models.specs.declared.operation.Name.{Name}
use Rattle.models.specs.declared.operation.Part.{Part}
use Rattle.events.specs.declared.event.EventKind.TheVariants.{Invoke, Ok, Fail, Info}
use Rattle.events.specs.declared.event.Event.{Event}
use Rattle.events.specs.ProcessRule.{IsHistory}
use Rattle.verdict_tests.specs.ShortLine.{event_by, heal}

module _ (i : ℕ) (name : Name) (part : Part) (events : List (ℕ × Event)) (first : Event) (invokes : first ≡ event_by Invoke name part) where
  pub may_invoke : events ≡ [] → IsHistory (events ++ (i, first) ∷ [])
  may_invoke are =
      subst (λ l. IsHistory (l ++ (i, first) ∷ [])) (sym are)
      (subst (λ e. IsHistory ((i, e) ∷ [])) (sym invokes) (omega arith, (refl, refl), tt))

  module _ (j : ℕ) (second : Event) (answer : Part) (are : events ≡ (i, first) ∷ []) (later : i + 1 ≤ j) where
    ended : IsHistory ((i, event_by Invoke name part) ∷ (j, second) ∷ []) → IsHistory (events ++ (j, second) ∷ [])
    ended h =
        subst (λ l. IsHistory (l ++ (j, second) ∷ [])) (sym are)
        (subst (λ e. IsHistory ((i, e) ∷ (j, second) ∷ [])) (sym invokes) h)

    pub may_return : second ≡ event_by Ok name answer → IsHistory (events ++ (j, second) ∷ [])
    may_return is = ended (subst (λ e. IsHistory ((i, event_by Invoke name part) ∷ (j, e) ∷ [])) (sym is) (omega arith, (refl, refl), (later, refl, tt)))

    pub may_fail : second ≡ event_by Fail name answer → IsHistory (events ++ (j, second) ∷ [])
    may_fail is = ended (subst (λ e. IsHistory ((i, event_by Invoke name part) ∷ (j, e) ∷ [])) (sym is) (omega arith, (refl, refl), (later, refl, tt)))

    pub may_crash : second ≡ event_by Info name answer → IsHistory (events ++ (j, second) ∷ [])
    may_crash is = ended (subst (λ e. IsHistory ((i, event_by Invoke name part) ∷ (j, e) ∷ [])) (sym is) (omega arith, (refl, refl), (later, refl, tt)))

-- and after a fault
module _ (i : ℕ) (name : Name) (part : Part) (events : List (ℕ × Event)) (first : Event) (invokes : first ≡ event_by Invoke name part) (later : 1 ≤ i) where
  pub may_invoke_then : events ≡ (0, heal) ∷ [] → IsHistory (events ++ (i, first) ∷ [])
  may_invoke_then are =
      subst (λ l. IsHistory (l ++ (i, first) ∷ [])) (sym are)
      (subst (λ e. IsHistory ((0, heal) ∷ (i, e) ∷ [])) (sym invokes) (omega arith, tt, (later, (refl, refl), tt)))

  pub may_return_then : (j : ℕ) (second : Event) (answer : Part) → events ≡ (0, heal) ∷ (i, first) ∷ [] → i + 1 ≤ j → second ≡ event_by Ok name answer → IsHistory (events ++ (j, second) ∷ [])
  may_return_then j second answer are after is =
      subst (λ l. IsHistory (l ++ (j, second) ∷ [])) (sym are)
      (subst (λ e. IsHistory ((0, heal) ∷ (i, e) ∷ (j, second) ∷ [])) (sym invokes)
      (subst (λ e. IsHistory ((0, heal) ∷ (i, event_by Invoke name part) ∷ (j, e) ∷ [])) (sym is) (omega arith, tt, (later, (refl, refl), (after, refl, tt)))))
