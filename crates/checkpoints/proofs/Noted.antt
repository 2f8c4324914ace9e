-- which index is noted for a process, where one is noted, forgotten or looked for
use Rattle.std.proofs.Common.{◌≡◌, ◌≢◌, ℕ, zero, suc, ⊎_elim, cond, nat_eq, Option, Some, None, List, [], ◌∷◌, ◌++◌, sym, ap, ◌∙◌, subst, set, take, slice_get}
use Rattle.std.proofs.lemmas.Bool.{cases_eq}
use Rattle.std.specs.List.{remove}
use Rattle.linspec.proofs.Histories.{cond_same, cond_other}
use Rattle.checkpoints.specs.Noted.{noted_of}

-- the first pair names another process, if none is noted
other : (y : ℕ × ℕ) (rest : Option ℕ) (p : ℕ) → cond (nat_eq y.0 p) (Some y.1) rest ≡ None → y.0 ≢ p
other y rest p none e = (let clash : Some y.1 ≡ None = sym (cond_same y.0 p (Some y.1) rest e) ∙ none in cc)

left : (y : ℕ × ℕ) (rest : Option ℕ) (p : ℕ) → cond (nat_eq y.0 p) (Some y.1) rest ≡ None → rest ≡ None
left y rest p none = sym (cond_other y.0 p (Some y.1) rest (other y rest p none)) ∙ none

-- one more pair was looked at
pub passed_over : (xs : List (ℕ × ℕ)) (k p : ℕ) → noted_of (take k xs) p ≡ None → (x : ℕ × ℕ) → slice_get xs k ≡ Some x → x.0 ≢ p → noted_of (take (suc k) xs) p ≡ None
passed_over [] k p none x is ne = (let clash : None ≡ Some x = is in cc)
passed_over (y ∷ xs) zero p none x is ne = (let same : y ≡ x = cc in cond_other y.0 p (Some y.1) None (subst (λ (z : ℕ × ℕ). z.0 ≢ p) (sym same) ne))
passed_over (y ∷ xs) (suc k) p none x is ne =
    cond_other y.0 p (Some y.1) (noted_of (take (suc k) xs) p) (other y (noted_of (take k xs) p) p none)
    ∙ passed_over xs k p (left y (noted_of (take k xs) p) p none) x is ne

-- the note of a process is the first pair that names it
pub noted_here : (xs : List (ℕ × ℕ)) (k p i : ℕ) → noted_of (take k xs) p ≡ None → slice_get xs k ≡ Some (p, i) → noted_of xs p ≡ Some i
noted_here [] k p i none is = (let x : ℕ × ℕ = (p, i) in let clash : None ≡ Some x = is in cc)
noted_here (y ∷ xs) zero p i none is = (let same : y ≡ (p, i) = cc in cond_same y.0 p (Some y.1) (noted_of xs p) (ap (λ (z : ℕ × ℕ). z.0) same) ∙ ap (λ (z : ℕ × ℕ). Some z.1) same)
noted_here (y ∷ xs) (suc k) p i none is =
    cond_other y.0 p (Some y.1) (noted_of xs p) (other y (noted_of (take k xs) p) p none)
    ∙ noted_here xs k p i (left y (noted_of (take k xs) p) p none) is

-- another index takes its place
pub noted_set : (xs : List (ℕ × ℕ)) (k p i : ℕ) → noted_of (take k xs) p ≡ None → slice_get xs k ≡ Some (p, i) → (j q : ℕ) → noted_of (set xs k (p, j)) q ≡ cond (nat_eq q p) (Some j) (noted_of xs q)
noted_set [] k p i none is j q = (let x : ℕ × ℕ = (p, i) in let clash : None ≡ Some x = is in cc)
noted_set (y ∷ xs) zero p i none is j q =
    let same : y ≡ (p, i) = cc in
    let here : y.0 ≡ p = ap (λ (z : ℕ × ℕ). z.0) same in
    ⊎_elim
    (λ e. cond_same p q (Some j) (noted_of xs q) (sym e) ∙ sym (cond_same q p (Some j) (noted_of (y ∷ xs) q) e))
    (λ ne. cond_other p q (Some j) (noted_of xs q) (λ e. ne (sym e)) ∙ sym (cond_other y.0 q (Some y.1) (noted_of xs q) (λ e. ne (sym e ∙ here))) ∙ sym (cond_other q p (Some j) (noted_of (y ∷ xs) q) ne))
    (cases_eq q p)
noted_set (y ∷ xs) (suc k) p i none is j q =
    let apart : y.0 ≢ p = other y (noted_of (take k xs) p) p none in
    let later = noted_set xs k p i (left y (noted_of (take k xs) p) p none) is j q in
    ⊎_elim
    (λ e. cond_other y.0 q (Some y.1) (noted_of (set xs k (p, j)) q) (λ h. apart (h ∙ e)) ∙ later ∙ cond_same q p (Some j) (noted_of xs q) e ∙ sym (cond_same q p (Some j) (noted_of (y ∷ xs) q) e))
    (λ ne. ap (cond (nat_eq y.0 q) (Some y.1)) (later ∙ cond_other q p (Some j) (noted_of xs q) ne) ∙ sym (cond_other q p (Some j) (noted_of (y ∷ xs) q) ne))
    (cases_eq q p)

-- an index is noted for a process that has none
pub noted_more : (xs : List (ℕ × ℕ)) (p : ℕ) → noted_of xs p ≡ None → (j q : ℕ) → noted_of (xs ++ (p, j) ∷ []) q ≡ cond (nat_eq q p) (Some j) (noted_of xs q)
noted_more [] p none j q =
    ⊎_elim
    (λ e. cond_same p q (Some j) None (sym e) ∙ sym (cond_same q p (Some j) None e))
    (λ ne. cond_other p q (Some j) None (λ e. ne (sym e)) ∙ sym (cond_other q p (Some j) None ne))
    (cases_eq q p)
noted_more (y ∷ xs) p none j q =
    let apart : y.0 ≢ p = other y (noted_of xs p) p none in
    let later = noted_more xs p (left y (noted_of xs p) p none) j q in
    ⊎_elim
    (λ e. cond_other y.0 q (Some y.1) (noted_of (xs ++ (p, j) ∷ []) q) (λ h. apart (h ∙ e)) ∙ later ∙ cond_same q p (Some j) (noted_of xs q) e ∙ sym (cond_same q p (Some j) (noted_of (y ∷ xs) q) e))
    (λ ne. ap (cond (nat_eq y.0 q) (Some y.1)) (later ∙ cond_other q p (Some j) (noted_of xs q) ne) ∙ sym (cond_other q p (Some j) (noted_of (y ∷ xs) q) ne))
    (cases_eq q p)

-- a pair of the process goes
pub noted_others : (xs : List (ℕ × ℕ)) (k p i : ℕ) → slice_get xs k ≡ Some (p, i) → (q : ℕ) → q ≢ p → noted_of (remove xs k) q ≡ noted_of xs q
noted_others [] k p i is q ne = (let x : ℕ × ℕ = (p, i) in let clash : None ≡ Some x = is in cc)
noted_others (y ∷ xs) zero p i is q ne =
    let same : y ≡ (p, i) = cc in
    sym (cond_other y.0 q (Some y.1) (noted_of xs q) (λ e. ne (sym e ∙ ap (λ (z : ℕ × ℕ). z.0) same)))
noted_others (y ∷ xs) (suc k) p i is q ne = ap (cond (nat_eq y.0 q) (Some y.1)) (noted_others xs k p i is q ne)
