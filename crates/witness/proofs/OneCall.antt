-- an operation of a history has one call
use Rattle.std.proofs.Common.{◌≡◌, ℕ, Option, Some, None, List, [], ◌∷◌, refl, ap, ◌∙◌}
use Rattle.models.specs.declared.finding.Answer.{Answer}
use Rattle.events.specs.declared.event.Event.{Event}
use Rattle.witness.specs.declared.calls.Call.{Call}
use Rattle.witness.specs.Orders.{marks_in, HasAnswer, IsCall, AreCalls}
use Rattle.witness.proofs.Sound.{IsSound, one_op, one_answer}

module _ (events : List Event) (sound : IsSound events) where
  answers_one : (id : ℕ) (a b : Option Answer) → HasAnswer (marks_in events) id a → HasAnswer (marks_in events) id b → a ≡ b
  answers_one id None None h k = refl
  answers_one id None (Some b) h k = absurd (h (b, k))
  answers_one id (Some a) None h k = absurd (k (a, h))
  answers_one id (Some a) (Some b) h k = ap Some (one_answer events sound id a b h k)

  pub call_one : (id : ℕ) (c d : Call) → IsCall (marks_in events) id c → IsCall (marks_in events) id d → c ≡ d
  call_one id c d h k =
      let op : c.op ≡ d.op = one_op events sound id c.op d.op h.invoked k.invoked in
      let answer : c.answer ≡ d.answer = answers_one id c.answer d.answer h.answered k.answered in
      ap (λ o. record { op = o; answer = c.answer }) op ∙ ap (λ a. record { op = d.op; answer = a }) answer

  pub calls_one : (ids : List ℕ) (cs ds : List Call) → AreCalls (marks_in events) ids cs → AreCalls (marks_in events) ids ds → cs ≡ ds
  calls_one [] [] [] h k = refl
  calls_one [] [] (d ∷ ds) h k = absurd k
  calls_one [] (c ∷ cs) ds h k = absurd h
  calls_one (id ∷ ids) [] ds h k = absurd h
  calls_one (id ∷ ids) (c ∷ cs) [] h k = absurd k
  calls_one (id ∷ ids) (c ∷ cs) (d ∷ ds) h k = ap (λ x. x ∷ cs) (call_one id c d h.0 k.0) ∙ ap (λ l. d ∷ l) (calls_one ids cs ds h.1 k.1)
