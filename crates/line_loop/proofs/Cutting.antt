-- The effect of more bytes on the cut of an input, and on the held part of its last line.
use Rattle.std.proofs.Common.{◌≡◌, ◌≢◌, ℕ, ◌+◌, ◌-◌, ◌<◌, ◌≤◌, List, [], ◌∷◌, ◌++◌, length, take, refl, ap, sym, ◌∙◌, subst, arith, append-nil, append_assoc, length-take, inl, inr}
use Rattle.std.specs.Prelude.{flat_map}
use Rattle.std.proofs.lemmas.List.{take-append-le, take_all}
use Rattle.std.proofs.lemmas.List.Elements.{All-append, All-nil, All-cons}
use Rattle.std.proofs.lemmas.Bool.Decides.{eqb_tells, leb_tells}
use Rattle.std.proofs.lemmas.Grind.{flat_map-append}
use Rattle.std.proofs.Math.Seq.{take-append-add}
use Rattle.line_loop.specs.Lines.{ended, IsLine, Cuts, last_line}

pub cuts_nothing : Cuts [] [] []
cuts_nothing = record { whole = refl; each = All-nil IsLine; partial = All-nil (λ b. b ≢ 10) }

pub cuts_along : {s t : List ℕ} {l m : List (List ℕ)} {rest : List ℕ} → s ≡ t → l ≡ m → Cuts s l rest → Cuts t m rest
cuts_along {s} {t} {l} {m} {rest} p q h = subst (λ x. Cuts x m rest) p (subst (λ x. Cuts s x rest) q h)

-- more bytes, none of them a line feed
pub cuts_bytes : {seen : List ℕ} {lines : List (List ℕ)} {rest : List ℕ} (bytes : List ℕ) → IsLine bytes → Cuts seen lines rest → Cuts (seen ++ bytes) lines (rest ++ bytes)
cuts_bytes {seen} {lines} {rest} bytes plain h = record {
  whole = ap (λ l. l ++ bytes) h.whole ∙ append_assoc (flat_map ended lines) rest bytes;
  each = h.each;
  partial = All-append (λ x. x ≢ 10) rest bytes h.partial plain;
}

-- a line feed more
pub cuts_feed : {seen : List ℕ} {lines : List (List ℕ)} {rest : List ℕ} → Cuts seen lines rest → Cuts (seen ++ 10 ∷ []) (lines ++ rest ∷ []) []
cuts_feed {seen} {lines} {rest} h = record {
  whole = ap (λ l. l ++ 10 ∷ []) h.whole ∙ append_assoc (flat_map ended lines) rest (10 ∷ []) ∙ sym (append-nil _ ∙ flat_map-append ended lines (rest ∷ []) ∙ ap (λ l. flat_map ended lines ++ l) (append-nil (ended rest)));
  each = All-append IsLine lines (rest ∷ []) h.each (All-cons IsLine rest [] h.partial (All-nil IsLine));
  partial = All-nil (λ x. x ≢ 10);
}

-- the cut of a longer input
pub record CutMore (seen : List ℕ) (lines : List (List ℕ)) (more : List ℕ) : Type 0 where
  pub extra : List (List ℕ)
  pub rest : List ℕ
  pub cut : Cuts (seen ++ more) (lines ++ extra) rest

cuts_one : {seen : List ℕ} {lines : List (List ℕ)} {rest : List ℕ} (b : ℕ) → b ≢ 10 → Cuts seen lines rest → Cuts (seen ++ b ∷ []) lines (rest ++ b ∷ [])
cuts_one b other h = cuts_bytes (b ∷ []) (All-cons (λ x. x ≢ 10) b [] other (All-nil (λ x. x ≢ 10))) h

cuts_feed_at : {seen : List ℕ} {lines : List (List ℕ)} {rest : List ℕ} (b : ℕ) → b ≡ 10 → Cuts seen lines rest → Cuts (seen ++ b ∷ []) (lines ++ rest ∷ []) []
cuts_feed_at {seen} b feed h = cuts_along (ap (λ x. seen ++ x ∷ []) (sym feed)) refl (cuts_feed h)

pub cuts_more : (more seen : List ℕ) (lines : List (List ℕ)) (rest : List ℕ) → Cuts seen lines rest → CutMore seen lines more
cuts_more [] seen lines rest h = record { extra = []; rest = rest; cut = cuts_along (sym (append-nil seen)) (sym (append-nil lines)) h }
cuts_more (b ∷ bs) seen lines rest h = elim (eqb_tells b 10) as (λ _. CutMore seen lines (b ∷ bs)) [
  | inl p ↦
      let next = cuts_more bs (seen ++ b ∷ []) (lines ++ rest ∷ []) [] (cuts_feed_at b p.1 h) in
      record { extra = rest ∷ next.extra; rest = next.rest; cut = cuts_along (append_assoc seen (b ∷ []) bs) (append_assoc lines (rest ∷ []) next.extra) next.cut }
  | inr p ↦
      let next = cuts_more bs (seen ++ b ∷ []) lines (rest ++ b ∷ []) (cuts_one b p.1 h) in
      record { extra = next.extra; rest = next.rest; cut = cuts_along (append_assoc seen (b ∷ []) bs) refl next.cut }
]

-- and the line is over the limit where what is held is
pub clip_over : (n : ℕ) (held rest : List ℕ) → held ≡ take (n + 1) rest → n < length rest → n < length held
clip_over n held rest e h =
    let cut : length held ≡ length (take (n + 1) rest) = ap length e in
    omega (arith, length-take (n + 1) rest)

clip_short : (n : ℕ) (rest bytes : List ℕ) → length rest ≤ n → rest ++ take (n - length rest) bytes ≡ take n (rest ++ bytes)
clip_short n rest bytes h =
    let whole : length rest + (n - length rest) ≡ n = omega arith in
    sym (take-append-add rest bytes (n - length rest)) ∙ ap (λ k. take k (rest ++ bytes)) whole

-- more bytes are held, up to the limit
pub clip_more : (n : ℕ) (held rest bytes : List ℕ) → held ≡ take n rest → held ++ take (n - length held) bytes ≡ take n (rest ++ bytes)
clip_more n held rest bytes e = elim (leb_tells (length rest) n) as (λ _. held ++ take (n - length held) bytes ≡ take n (rest ++ bytes)) [
  | inl p ↦
      let same : held ≡ rest = e ∙ take_all n rest p.1 in
      ap (λ l. l ++ take (n - length l) bytes) same ∙ clip_short n rest bytes p.1
  | inr p ↦
      let cut : length held ≡ length (take n rest) = ap length e in
      let long : n ≤ length rest = omega (arith, p.1) in
      let full : n - length held ≡ 0 = omega (arith, length-take n rest) in
      ap (λ k. held ++ take k bytes) full ∙ append-nil held ∙ e ∙ sym (take-append-le n rest bytes long)
]

-- where nothing is held there is no rest
pub rest_none : (n : ℕ) (held rest : List ℕ) → held ≡ take (n + 1) rest → held ≡ [] → rest ≡ []
rest_none n held [] e none = refl
rest_none n held (b ∷ bs) e none = absurd (omega (arith, ap length (sym none ∙ e), length-take (n + 1) (b ∷ bs)))

-- a last line
pub last_none : (n : ℕ) (held rest : List ℕ) → held ≡ take (n + 1) rest → held ≡ [] → last_line rest ≡ []
last_none n held [] e none = refl
last_none n held (b ∷ bs) e none = absurd (omega (arith, ap length (sym none ∙ e), length-take (n + 1) (b ∷ bs)))

pub last_some : (n : ℕ) (held rest : List ℕ) → held ≡ take (n + 1) rest → 0 < length held → last_line rest ≡ rest ∷ []
last_some n held [] e some = absurd (omega (arith, ap length e, length-take {A = ℕ} (n + 1) []))
last_some n held (b ∷ bs) e some = refl
