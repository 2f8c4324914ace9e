-- The operations of an order are those of tickets, in turn
use Rattle.std.proofs.Common.{◌≡◌, ℕ, ⊎_elim, Option, Some, None, List, [], ◌∷◌, ◌++◌, slice_get, slice_set, sym, ap, ◌∙◌, subst, append_assoc}
use Rattle.std.specs.List.{cons_option}
use Rattle.std.proofs.lemmas.List.{append-nil}
use Rattle.std.proofs.lemmas.Option.{same_Some}
use Rattle.linspec.specs.Orders.{Taken}
use Rattle.test_store.specs.declared.outcome.Outcome.{Outcome}
use Rattle.machine.specs.declared.ticket.Ticket.{Ticket}
use Rattle.machine.specs.Trials.{AreOfTickets, served_as}
use Rattle.machine.proofs.Places.{get_more, get_after_set}

-- the operation is that of the ticket with this number
abbrev pub IsOfTicket : List Ticket → ℕ → Taken → Type 0
IsOfTicket tickets number x = (t : Ticket) × (slice_get tickets number ≡ Some t) × (x.id ≡ t.index) × (x.op ≡ t.op)

-- where the tickets are others, but each stands for the same operation
pub of_others : (tickets others : List Ticket) → ((k : ℕ) (x : Taken) → IsOfTicket tickets k x → IsOfTicket others k x) → (numbers : List ℕ) (order : List Taken) → AreOfTickets tickets numbers order → AreOfTickets others numbers order
of_others tickets others each [] [] h = tt
of_others tickets others each [] (x ∷ order) h = absurd h
of_others tickets others each (k ∷ numbers) [] h = absurd h
of_others tickets others each (k ∷ numbers) (x ∷ order) h = (each k x h.0, of_others tickets others each numbers order h.1)

pub of_more : (tickets more : List Ticket) (k : ℕ) (x : Taken) → IsOfTicket tickets k x → IsOfTicket (tickets ++ more) k x
of_more tickets more k x h = (h.0, get_more tickets more k h.0 h.1, h.2, h.3)

pub of_served : (tickets : List Ticket) (number : ℕ) (t : Ticket) (outcome : Outcome) → slice_get tickets number ≡ Some t → (k : ℕ) (x : Taken) → IsOfTicket tickets k x → IsOfTicket (slice_set tickets number (served_as outcome t)) k x
of_served tickets number t outcome at k x h =
    ⊎_elim
    (λ other. (h.0, other, h.2, h.3))
    (λ same. (let is : h.0 ≡ t = same_Some h.0 t (sym h.1 ∙ ap (slice_get tickets) same.0 ∙ at) in
    (served_as outcome t, same.1, h.2 ∙ ap (λ (u : Ticket). u.index) is, h.3 ∙ ap (λ (u : Ticket). u.op) is)))
    (get_after_set tickets number (served_as outcome t) k h.0 h.1)

pub of_push : (tickets : List Ticket) (numbers : List ℕ) (order : List Taken) (k : ℕ) (x : Taken) → AreOfTickets tickets numbers order → IsOfTicket tickets k x → AreOfTickets tickets (numbers ++ k ∷ []) (order ++ x ∷ [])
of_push tickets [] [] k x h own = (own, tt)
of_push tickets [] (y ∷ order) k x h own = absurd h
of_push tickets (j ∷ numbers) [] k x h own = absurd h
of_push tickets (j ∷ numbers) (y ∷ order) k x h own = (h.0, of_push tickets numbers order k x h.1 own)

pub of_same : (tickets : List Ticket) (numbers : List ℕ) (order : List Taken) → AreOfTickets tickets numbers order → AreOfTickets tickets (numbers ++ []) order
of_same tickets numbers order h = subst (λ l. AreOfTickets tickets l order) (sym (append-nil numbers)) h

-- one more number, if there is one, and the rest
pub with_rest : (numbers : List ℕ) (o : Option ℕ) (rest : List ℕ) → (numbers ++ cons_option o []) ++ rest ≡ numbers ++ cons_option o rest
with_rest numbers None rest = ap (λ l. l ++ rest) (append-nil numbers)
with_rest numbers (Some k) rest = append_assoc numbers (k ∷ []) rest
