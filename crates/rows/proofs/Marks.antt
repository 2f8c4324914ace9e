-- rows that are put where their number at one place is marked
use Rattle.std.proofs.Common.{◌≡◌, ℕ, ◌+◌, ◌/◌, ◌%◌, ◌^◌, ◌<◌, Bool, false, List, [], length, get_or, sym, ap, ◌∙◌, subst, arith, add-one}
use Rattle.std.specs.List.{remove}
use Rattle.std.proofs.lemmas.Option.{slice_get-get_or}
use Rattle.rows.specs.RowSets.{IsPutIf, PutsMarked, is_marked, mark_of}
use Rattle.words.specs.Words.{digits}
use Rattle.words.proofs.Digits.{digit_at, length-digits}

-- the mark of a row that has a number there, and of one that has none
pub marked_is : (row : List ℕ) (place number : ℕ) (marks : List Bool) → place < length row → number ≡ get_or row place 0 → get_or marks number false ≡ is_marked place marks row
marked_is row place number marks lt is =
    ap (λ n. get_or marks n false) is ∙ sym (ap (mark_of marks) (slice_get-get_or row place 0 lt))

pub marked_digit : (base n word place number : ℕ) (marks : List Bool) → place < n → number ≡ word / base ^ place % base → get_or marks number false ≡ is_marked place marks (digits base n word)
marked_digit base n word place number marks lt is =
    marked_is (digits base n word) place number marks (let l = length-digits base n word in omega (arith, lt, l)) (is ∙ sym (digit_at base n word place lt))

-- one row more
pub puts_more : (place : ℕ) (marks : List Bool) (rows : List (List ℕ)) (at : ℕ) (row : List ℕ) (old mid new : List (List ℕ)) (b : Bool) → get_or rows at [] ≡ row → is_marked place marks row ≡ b → PutsMarked place marks rows at old mid
    → IsPutIf b (remove row place) mid new → PutsMarked place marks rows (at + 1) old new
puts_more place marks rows at row old mid new b here is so_far put =
    subst (λ n. PutsMarked place marks rows n old new) (sym (add-one at)) (
      mid,
      so_far,
      subst (λ r. IsPutIf (is_marked place marks r) (remove r place) mid new) (sym here) (subst (λ c. IsPutIf c (remove row place) mid new) (sym is) put),
    )
