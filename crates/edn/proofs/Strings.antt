-- Strings that are read byte by byte
use Rattle.std.proofs.Common.{◌≡◌, ℕ, List, [], ◌∷◌, ◌++◌, refl, sym, subst, append_assoc, append-nil}
use Rattle.std.specs.Str.{IsUtf8}
use Rattle.edn.specs.Bytes.{SpellsByte}
use Rattle.edn.specs.Text.{ReadsString}
use Rattle.edn.specs.Text.ReadsString.{closing, one_byte}
use Rattle.edn.proofs.Unique.{one_spelled, no_spelled_quote, one_string}

-- the part of the text that was read so far, and the rest
pub record StringSoFar (text read rest : List ℕ) : Type 0 where
  pub sound : (s r : List ℕ) → ReadsString rest s r → ReadsString text (read ++ s) r
  pub complete : (s r : List ℕ) → ReadsString text s r → (left : List ℕ) × ReadsString rest left r

after_byte : {t u s r : List ℕ} {b : ℕ} → SpellsByte t b u → ReadsString t s r → (left : List ℕ) × ReadsString u left r
after_byte i closing = absurd (no_spelled_quote i)
after_byte {r = r} i (one_byte {s = s} j h) = let same = one_spelled i j in (s, subst (λ x. ReadsString x s r) (sym same.1) h)

pub string_more : (text read rest next : List ℕ) (b : ℕ) → SpellsByte rest b next → StringSoFar text read rest → StringSoFar text (read ++ b ∷ []) next
string_more text read rest next b i h = record {
  sound = λ s r k. subst (λ x. ReadsString text x r) (sym (append_assoc read (b ∷ []) s)) (h.sound (b ∷ s) r (one_byte i k));
  complete = λ s r k. let a = h.complete s r k in after_byte i a.1;
}

pub string_closed : (text read rest behind : List ℕ) → rest ≡ 34 ∷ behind → StringSoFar text read rest → ReadsString text read behind
string_closed text read rest behind e h =
    let k = h.sound [] behind (subst (λ x. ReadsString x [] behind) (sym e) closing) in
    subst (λ x. ReadsString text x behind) (append-nil read) k

-- neither a byte nor the closing quote
stuck : {t s r : List ℕ} → ((b : ℕ) (u : List ℕ) → SpellsByte t b u → ⊥) → ((u : List ℕ) → t ≡ 34 ∷ u → ⊥) → ReadsString t s r → ⊥
stuck n q closing = q _ refl
stuck n q (one_byte i h) = n _ _ i

pub string_stuck : (text read rest : List ℕ) → ((b : ℕ) (u : List ℕ) → SpellsByte rest b u → ⊥) → ((u : List ℕ) → rest ≡ 34 ∷ u → ⊥) → StringSoFar text read rest →
    (s r : List ℕ) → ReadsString text s r → ⊥
string_stuck text read rest n q h s r k = let a = h.complete s r k in stuck n q a.1

-- the text reads as no other string
pub string_alone : (text read behind : List ℕ) → ReadsString text read behind → ¬ IsUtf8 read → (s r : List ℕ) → ReadsString text s r → IsUtf8 s → ⊥
string_alone text read behind h n s r k u = let same = one_string h k in n (subst IsUtf8 (sym same.0) u)
