use Rattle.std.proofs.Common.{◌≡◌, [], true, false, inl, inr, sym, ◌∙◌, ap, subst, ⊎_elim}
use Rattle.std.specs.Io.KnownBytes.{Consumes, IsAtEnd}
use Rattle.confirm_command.specs.Confirms.{StandsFor}
use Rattle.confirm_command.specs.Found.{ComesTo, refused_of_order}
use Rattle.confirm_command.specs.declared.found.Found.TheVariants.{Refused}
use Rattle.check_command.proofs.Recording.{reads_none}
use Rattle.confirm_command.proofs.Confirmed.{confirms}
use Rattle.confirm_command.proofs.confirming.confirm_text.Goals as goal
use Rattle.confirm_command.proofs.confirming.confirm_text.Goals.{in-Ok, in-Ok-read_whole, in-Err-read_whole, in-Err}

pub returns : goal.returns
returns g c =
    let (told, which, tells) = c.tell.ensures in
    let threads = c.args.concurrency in
    let kind = c.args.kind in
    let order_left = g.O.Read.remaining c.args.order.now in
    elim c.match-read_whole.branch [
      | in-Ok w ↦ elim w.match-read_whole-2.branch [
        | in-Ok-read_whole w' ↦
            let bytes = w.in-Ok.bytes.items in
            let listed = w'.in-Ok-read_whole.listed.items in
            let ensured = w'.in-Ok-read_whole.ensures in
            confirms threads kind _ _ _ _ _ _ _ _ _ _ _ bytes w.in-Ok.ensures.bytes
            listed (subst (λ o. Consumes order_left (g.O.Read.remaining o) listed) (sym w.order-is) ensured.bytes)
            w'.confirm_bytes.result
            (inl (
              (w.in-Ok.ensures.end, w.in-Ok.ensures.unfailed),
              (subst (λ o. IsAtEnd (g.O.Read.remaining o)) (sym w.order-is) ensured.end, subst (λ o. g.O.Failed.has_failed o ≡ false) (sym w.order-is) ensured.unfailed),
              subst (λ l. ComesTo threads kind l listed w'.confirm_bytes.result) w'.as_slice.ensures.value
                  (subst (λ l. ComesTo threads kind w'.as_slice.result.now l w'.confirm_bytes.result) w'.as_slice-in-Ok-read_whole.ensures.value w'.confirm_bytes.ensures),
            ))
            told (subst (StandsFor told) (w.found-is ∙ w'.found-is) which) tells
        | in-Err-read_whole w' ↦
            let ensured = w'.in-Err-read_whole.ensures in
            let seen = ensured.some.0 in
            let found = refused_of_order w'.in-Err-read_whole.refusal in
            confirms threads kind _ _ _ _ _ _ _ _ _ _ _ w.in-Ok.bytes.items w.in-Ok.ensures.bytes
            seen (subst (λ o. Consumes order_left (g.O.Read.remaining o) seen) (sym w.order-is) ensured.some.1)
            found
            (⊎_elim
            (λ memory. inr (inr (inr (ap refused_of_order memory.0, w.in-Ok.ensures.unfailed, subst (λ o. g.O.Failed.has_failed o ≡ false) (sym w.order-is) memory.1))))
            (λ failed. inr (inr (inl (ap refused_of_order failed.0, subst (λ o. g.O.Failed.has_failed o ≡ true) (sym w.order-is) failed.1))))
            ensured.cause)
            told (subst (StandsFor told) (w.found-is ∙ w'.found-is ∙ w'.refused_order.ensures) which) tells
      ]
      | in-Err w ↦
          let ensured = w.in-Err.ensures in
          let untouched = subst (λ o. g.O.Failed.has_failed o ≡ false) (sym w.order-is) c.requires.orders in
          confirms threads kind _ _ _ _ _ _ _ _ _ _ _ ensured.some.0 ensured.some.1
          [] (subst (λ o. Consumes order_left (g.O.Read.remaining o) []) (sym w.order-is) (reads_none order_left))
          (Refused w.in-Err.refusal)
          (⊎_elim
          (λ memory. inr (inr (inr (ap Refused memory.0, memory.1, untouched))))
          (λ failed. inr (inl (ap Refused failed.0, failed.1)))
          ensured.cause)
          told (subst (StandsFor told) w.found-is which) tells
    ]
