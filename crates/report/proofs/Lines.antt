-- The lines of some keys, and of one more.
use Rattle.std.proofs.Common.{◌≡◌, ℕ, zero, suc, ◌+◌, List, [], ◌∷◌, ◌++◌, take, Some, Result, Ok, Err, OnOk, is_ok, if◌then◌else◌, refl, sym, ap, ◌∙◌, arith, append_assoc, append-nil}
use Rattle.std.specs.Prelude.{slice_get}
use Rattle.std.proofs.lemmas.List.{take_more, map-append}
use Rattle.std.proofs.lemmas.List.Elements.{All-append}
use Rattle.std.proofs.lemmas.Option.{slice_get_within, get_or_from_slice_get}
use Rattle.linspec.specs.declared.verdict.KeyStatus.{KeyStatus}
use Rattle.linspec.specs.KeyHistory.{IsStatusOf}
use Rattle.linspec.specs.JudgedHistory.{JudgedHistory, history_of_key}
use Rattle.report.specs.Report.{line_in, lines_in, Stand, IsRows}

one_stands : (h : JudgedHistory) (row : ℕ × KeyStatus) → IsStatusOf (history_of_key h row.0) row.1 → Stand h (row ∷ [])
one_stands h row is zero d within = is
one_stands h row is (suc k) d within = absurd (omega (arith, within))

lines_append : (h : JudgedHistory) (xs ys : List (ℕ × KeyStatus)) → lines_in h (xs ++ ys) ≡ lines_in h xs ++ lines_in h ys
lines_append h [] ys = refl
lines_append h (x ∷ xs) ys = ap (λ t. line_in h x ++ t) (lines_append h xs ys) ∙ sym (append_assoc (line_in h x) (lines_in h xs) (lines_in h ys))

-- one key more
pub one_more : (h : JudgedHistory) (keys text line : List ℕ) (place key : ℕ) (status : KeyStatus)
    → IsRows h (take place keys) text → slice_get keys place ≡ Some key → IsStatusOf (history_of_key h key) status
    → line ≡ line_in h (key, status) → IsRows h (take (place + 1) keys) (text ++ line)
one_more h keys text line place key status is at stands line_is = record {
  rows = is.rows ++ (key, status) ∷ [];
  keys_are = map-append (λ (row : ℕ × KeyStatus). row.0) is.rows ((key, status) ∷ []) ∙ (ap (λ l. l ++ key ∷ []) is.keys_are ∙ sym more);
  stand = All-append (λ (row : ℕ × KeyStatus). IsStatusOf (history_of_key h row.0) row.1) is.rows ((key, status) ∷ []) is.stand (one_stands h (key, status) stands);
  text_is = together;
} where
  more : take (place + 1) keys ≡ take place keys ++ key ∷ []
  more = take_more keys place key (slice_get_within keys place key at) ∙ ap (λ k. take place keys ++ k ∷ []) (get_or_from_slice_get keys place key key at)

  last : lines_in h ((key, status) ∷ []) ≡ line
  last = append-nil (line_in h (key, status)) ∙ sym line_is

  together : text ++ line ≡ lines_in h (is.rows ++ (key, status) ∷ [])
  together = ap (λ t. t ++ line) is.text_is ∙ (ap (λ t. lines_in h is.rows ++ t) (sym last) ∙ sym (lines_append h is.rows ((key, status) ∷ [])))

-- what follows where bytes have grown
pub on_grown : {A E Q : Type 0} (r : Result A E) (new grown old : List ℕ) → new ≡ (if is_ok r then grown else old) → (new ≡ grown → Q) → OnOk r Q
on_grown (Ok x) new grown old is f = f is
on_grown (Err e) new grown old is f = tt
