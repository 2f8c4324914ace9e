-- Strings that are passed over, run by run
use Rattle.std.proofs.Common.{◌≡◌, ℕ, zero, suc, ◌<◌, false, List, [], ◌∷◌, ◌++◌, sym, subst, arith}
use Rattle.std.specs.Prelude.{slice_index}
use Rattle.std.specs.Str.{IsUtf8}
use Rattle.std.proofs.lemmas.Str.{IsUtf8-append, IsUtf8-nil, IsUtf8-from_ascii}
use Rattle.edn.specs.Bytes.{SpellsByte}
use Rattle.edn.specs.Bytes.SpellsByte.{itself}
use Rattle.edn.specs.Text.{ReadsString}
use Rattle.edn.specs.Text.ReadsString.{closing, one_byte}
use Rattle.plain_events.specs.Passed.{ends_run, IsRun, IsStringAt}

no_quote : (b : ℕ) → ends_run b ≡ false → ¬ (b ≡ 34)
no_quote b h e = let f = subst (λ x. ends_run x ≡ false) e h in cc

no_backslash : (b : ℕ) → ends_run b ≡ false → ¬ (b ≡ 92)
no_backslash b h e = let f = subst (λ x. ends_run x ≡ false) e h in cc

run_then : (run : List ℕ) {t s r : List ℕ} → IsRun run → ReadsString t s r → ReadsString (run ++ t) (run ++ s) r
run_then [] h k = k
run_then (b ∷ bs) h k = one_byte (itself (no_quote b h.0) (no_backslash b h.0)) (run_then bs h.1 k)

ascii_at : (b i : ℕ) → b < 128 → slice_index (b ∷ []) i < 128
ascii_at b zero h = h
ascii_at b (suc i) h = omega arith

one_utf8 : (b : ℕ) → b < 128 → IsUtf8 (b ∷ [])
one_utf8 b h = IsUtf8-from_ascii (b ∷ []) (λ i. ascii_at b i h)

-- the rest of the string is in the text behind the bytes that were read
abbrev pub StringSoFar : List ℕ → List ℕ → Type 0
StringSoFar text rest = (s r : List ℕ) → ReadsString rest s r → IsUtf8 s → (w : List ℕ) × ReadsString text w r × IsUtf8 w

pub string_more : (text rest run behind next : List ℕ) (b : ℕ) → rest ≡ run ++ behind → IsRun run → IsUtf8 run → SpellsByte behind b next → b < 128 → StringSoFar text rest → StringSoFar text next
string_more text rest run behind next b e i u k small so s r h w =
    so (run ++ b ∷ s) r (subst (λ t. ReadsString t (run ++ b ∷ s) r) (sym e) (run_then run i (one_byte k h)))
    (IsUtf8-append run (b ∷ s) u (IsUtf8-append (b ∷ []) s (one_utf8 b small) w))

pub string_closed : (text rest run behind closed : List ℕ) → rest ≡ run ++ behind → IsRun run → IsUtf8 run → behind ≡ 34 ∷ closed → StringSoFar text rest → IsStringAt text closed
string_closed text rest run behind closed e i u f so =
    let end : ReadsString behind [] closed = subst (λ t. ReadsString t [] closed) (sym f) closing in
    so (run ++ []) closed (subst (λ t. ReadsString t (run ++ []) closed) (sym e) (run_then run i end)) (IsUtf8-append run [] u IsUtf8-nil)
