-- the reply text of lines in two parts
use Rattle.std.proofs.Common.{◌≡◌, ℕ, List, [], ◌∷◌, ◌++◌, ap, refl, sym, ◌∙◌, append_assoc}
use Rattle.line_loop.specs.ReplyText.{Replies}
use Rattle.theorem.specs.Theorem.{Answers, Session}

pub in_parts : (first later : List (List ℕ)) (old : Session) (text : List ℕ) (end : Session) → Replies Answers old (first ++ later) text end
    → (mid : Session) × (front : List ℕ) × (back : List ℕ) × Replies Answers old first front mid × Replies Answers mid later back end × (text ≡ front ++ back)
in_parts [] later old text end r = (old, [], text, (refl, refl), r, refl)
in_parts (line ∷ first) later old text end r =
    let (next, reply, others, one, run, is) = r in
    let (mid, front, back, before, behind, in_two) = in_parts first later next others end run in
    (mid, reply ++ front, back, (next, reply, front, one, before, refl), behind, is ∙ ap (λ l. reply ++ l) in_two ∙ sym (append_assoc reply front back))
