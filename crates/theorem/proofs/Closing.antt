-- a script that is not strict stays open, and a closed script replies nothing
use Rattle.std.proofs.Common.{◌≡◌, ℕ, Bool, true, false, List, [], ◌∷◌, ◌++◌, ap, refl, sym, subst, ◌∙◌}
use Rattle.std.specs.Prelude.{◌&&◌}
use Rattle.line_loop.specs.ReplyText.{Replies}
use Rattle.theorem.specs.Theorem.{Answers, Session}

abbrev IsKept : Session → Session → Type 0
IsKept old new = (new.is_strict ≡ old.is_strict) × (old.is_strict ≡ false → old.is_closed ≡ false → new.is_closed ≡ false)

-- one line

line_kept : (old new : Session) (line text : List ℕ) (is_closed : Bool) → old.is_closed ≡ is_closed → Answers old line text new → IsKept old new
line_kept old new line text false is_open a =
    let (history, is_refused, answers, at) = a.0 is_open in
    (ap (λ (s : Session). s.is_strict) at, λ sloppy begun. ap (λ (s : Session). s.is_closed) at ∙ ap (λ b. b && is_refused) sloppy)
line_kept old new line text true closed a =
    let (none, same) = a.1 closed in
    (ap (λ (s : Session). s.is_strict) same, λ sloppy begun. ap (λ (s : Session). s.is_closed) same ∙ begun)

-- lines in turn

pub stays_open : (is_strict : Bool) (lines : List (List ℕ)) (old : Session) (text : List ℕ) (end : Session) → old.is_strict ≡ is_strict → (is_strict ≡ false → old.is_closed ≡ false)
    → Replies Answers old lines text end → (end.is_strict ≡ is_strict) × (is_strict ≡ false → end.is_closed ≡ false)
stays_open is_strict [] old text end is begun r =
    (ap (λ (s : Session). s.is_strict) r.1 ∙ is, λ sloppy. ap (λ (s : Session). s.is_closed) r.1 ∙ begun sloppy)
stays_open is_strict (line ∷ lines) old text end is begun r =
    let (mid, first, others, one, later, joined) = r in
    let kept = line_kept old mid line first old.is_closed refl one in
    stays_open is_strict lines mid others end (kept.0 ∙ is) (λ sloppy. kept.1 (is ∙ sloppy) (begun sloppy)) later

pub silent : (old end : Session) (lines : List (List ℕ)) (text : List ℕ) → old.is_closed ≡ true → Replies Answers old lines text end → (text ≡ []) × (end ≡ old)
silent old end [] text closed r = r
silent old end (line ∷ lines) text closed r =
    let (mid, first, others, one, later, joined) = r in
    let (none, same) = one.1 closed in
    let (nothing, still) = silent mid end lines others (ap (λ (s : Session). s.is_closed) same ∙ closed) later in
    (joined ∙ ap (λ l. l ++ others) none ∙ nothing, still ∙ same)
