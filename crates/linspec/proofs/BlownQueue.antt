-- two enqueues at once blow a budget of four at the ok of one of them
use Rattle.std.proofs.Common.{◌≡◌, ◌≢◌, ◌↔◌, ℕ, ◌≤◌, pos, ⊎_elim, IsTrue, nat_eq, List, [], ◌∷◌, refl, sym, ap, subst}
use Rattle.std.specs.List.{Contains}
use Rattle.std.proofs.lemmas.Bool.{cases_eq, eq-eqb, eqb-true, ne_eqb}
use Rattle.models.specs.declared.finding.Answer.TheVariants.{Number}
use Rattle.models.specs.Objects.{fifo_queue}
use Rattle.kinds.specs.declared.model_kind.ModelKind.TheVariants.{FifoQueue}
use Rattle.events.specs.Events.{Entry, of_key}
use Rattle.events.specs.Events.Mark.{Invoked, Returned}
use Rattle.linspec.specs.Orders.{product}
use Rattle.linspec.specs.Ends.{HasMoreThan, IsBlown, IsBlownIndex, IsWithinBudget}
use Rattle.linspec.specs.Verdicts.{IsVerdict}
use Rattle.linspec.specs.declared.verdict.Verdict.TheVariants.{Unknown}
use Rattle.linspec.specs.Examples.{enqueue, all_entries, key_entries, two_enqueues_then_ok}
use Rattle.linspec.proofs.Lists.{Contains-nil, Contains-cons_cases}
use Rattle.linspec.proofs.Filters.{filter-none}
use Rattle.linspec.proofs.Enqueues.{five_ends}
use Rattle.linspec.proofs.LastOk.{IsOk, not_ok, none_blown, fronts_of_none, blown_at_last, within_at_last}

abbrev pub first : Entry
first = record { index = 0; key = 1; mark = Invoked 0 (enqueue 1 (pos 5)) }

abbrev pub second : Entry
second = record { index = 1; key = 1; mark = Invoked 1 (enqueue 1 (pos 6)) }

abbrev pub ok : Entry
ok = record { index = 2; key = 1; mark = Returned 0 (Number (pos 5)) }

no_other_ok : (x : Entry) → Contains (first ∷ second ∷ []) x → ¬ IsOk x
no_other_ok x h =
    ⊎_elim (not_ok first x 0 (enqueue 1 (pos 5)) refl)
    (λ h. ⊎_elim (not_ok second x 1 (enqueue 1 (pos 6)) refl) (λ n. absurd (Contains-nil x n)) (Contains-cons_cases second [] x h))
    (Contains-cons_cases first (second ∷ []) x h)

pub blown_at_four : IsBlownIndex fifo_queue 4 (key_entries 1 two_enqueues_then_ok) 2
blown_at_four = blown_at_last (first ∷ second ∷ []) ok no_other_ok (HasMoreThan fifo_queue) 4 (0, Number (pos 5), refl) five_ends.0

pub within_five : IsWithinBudget fifo_queue 5 (key_entries 1 two_enqueues_then_ok)
within_five = within_at_last (first ∷ second ∷ []) ok no_other_ok (HasMoreThan fifo_queue) 5 five_ends.1

abbrev entries : List Entry
entries = first ∷ second ∷ ok ∷ []

all_of_one : (x : Entry) → Contains entries x → x.key ≡ 1
all_of_one x h =
    ⊎_elim (λ e. ap (λ (w : Entry). w.key) (sym e)) (λ h. ⊎_elim (λ e. ap (λ (w : Entry). w.key) (sym e)) (λ h. ⊎_elim (λ e. ap (λ (w : Entry). w.key) (sym e)) (λ n. absurd (Contains-nil x n))
    (Contains-cons_cases ok [] x h)) (Contains-cons_cases second (ok ∷ []) x h)) (Contains-cons_cases first (second ∷ ok ∷ []) x h)

none_of : (k : ℕ) → k ≢ 1 → of_key k entries ≡ []
none_of k ne = filter-none (λ (e : Entry). nat_eq e.key k) entries (λ x h. ne_eqb x.key k (λ e. (let one : x.key ≡ 1 = all_of_one x h in let q : k ≡ 1 = cc in ne q)))

blown_is : (k : ℕ) → IsTrue (nat_eq k 1) ↔ IsBlown fifo_queue 4 (of_key k entries)
blown_is k =
    ⊎_elim
    (λ e. ((λ t. subst (λ (n : ℕ). IsBlown fifo_queue 4 (of_key n entries)) (sym e) (2, blown_at_four.blown)), (λ b. eq-eqb k 1 e)))
    (λ ne. ((λ t. absurd (ne (eqb-true k 1 t))), (λ b. absurd (none_blown (HasMoreThan fifo_queue) 4 (of_key k entries) (none_of k ne) b.0 b.1))))
    (cases_eq k 1)

least : (k i : ℕ) → IsBlownIndex fifo_queue 4 (of_key k entries) i → 2 ≤ i
least k i b =
    ⊎_elim
    (λ e. blown_at_four.least i (subst (λ (n : ℕ). IsBlownIndex fifo_queue 4 (of_key n entries) i) e b).blown)
    (λ ne. absurd (none_blown (HasMoreThan fifo_queue) 4 (of_key k entries) (none_of k ne) i b.blown))
    (cases_eq k 1)

-- nothing is left without the key over budget
pub verdict_unknown : IsVerdict (λ key. FifoQueue) (λ key. 4) (all_entries two_enqueues_then_ok) (Unknown 1 2)
verdict_unknown = ((λ k. nat_eq k 1), blown_is, (fronts_of_none (product (λ key. FifoQueue)), blown_at_four, least))
