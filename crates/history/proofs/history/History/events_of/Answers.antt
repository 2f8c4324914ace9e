use Rattle.std.proofs.Common.{◌<◌, ◌++◌, ◌∷◌, [], ℕ, Vec, Global, length, ap, sym, ◌∙◌, arith}
use Rattle.events.specs.declared.event.Event.{Event}
use Rattle.history.proofs.KeyPrefixes.{key_has, key_lacks}
use Rattle.history.proofs.history.History.events_of.Goals as goal
use Rattle.history.proofs.history.History.events_of.Goals.{then-is_of_key+in_ok-copy+in_ok-push, else-is_of_key}

pub loop-i-preserved : goal.loop-i-preserved
loop-i-preserved c =
    let events = c.events-events.result.now in
    let i = c.loop-i.i in
    let event = c.index-events-i.result in
    let below : i < length events = omega arith in
    elim c.if-is_of_key.branch [
      | then-is_of_key+in_ok-copy+in_ok-push w ↦
          key_has c.args.key events i event c.loop-i.found.items c.if-is_of_key.found.items below c.index-events-i.is (sym c.is_of_key.ensures ∙ w.if-is_of_key.true) c.loop-i.invariant
          (ap (λ (v : Vec (ℕ × Event) Global). v.items) w.found-is ∙ w.in_ok-push.ensures.items ∙ ap (λ (e : Event). c.loop-i.found.items ++ (i, e) ∷ []) w.in_ok-copy.ensures)
      | else-is_of_key w ↦
          ap (λ (v : Vec (ℕ × Event) Global). v.items) w.found-is ∙ key_lacks c.args.key events i event c.loop-i.found.items below c.index-events-i.is (sym c.is_of_key.ensures ∙ w.if-is_of_key.false) c.loop-i.invariant
    ]
