-- Marks of the replicas that were seen
use Rattle.std.proofs.Common.{◌≡◌, ℕ, ◌+◌, ◌<◌, ◌≤◌, ◌==◌, Bool, true, false, cond, Vec, Global, map, take, drop, List, [], ◌∷◌, ◌++◌, length, get_or, slice_set, All, count_by, refl, sym, ap, ◌∙◌, subst, append_assoc, length-append, ⊎_elim, arith}
use Rattle.std.proofs.lemmas.Bool.{cases_eq, eq-eqb, ne_eqb}
use Rattle.std.specs.List.{concat}
use Rattle.std.proofs.lemmas.List.{length-set, get_or-set_same, get_or-set_other, take-append-drop, take_more, take_all, map-append, append-nil}
use Rattle.std.proofs.lemmas.List.Elements.{All-push}
use Rattle.std.proofs.lemmas.List.Sums.{sum_by-append}
use Rattle.std.proofs.Math.Seq.{get_or-append_seam}
use Rattle.events.specs.Replicas.{IsReplica, AreApart, HasSeen}

abbrev count : ℕ → List ℕ → ℕ
count r numbers = count_by (λ x. x == r) numbers

abbrev one_if : Bool → ℕ
one_if b = cond b 1 0

count-append : (r : ℕ) (xs ys : List ℕ) → count r (xs ++ ys) ≡ count r xs + count r ys
count-append r xs ys = sum_by-append (λ x. one_if (x == r)) xs ys

one_if-le : (b : Bool) → one_if b ≤ 1
one_if-le true = omega arith
one_if-le false = omega arith

-- a new number is marked
pub seen_more : (seen : List Bool) (numbers : List ℕ) (x : ℕ) → HasSeen seen numbers → x < 7 → get_or seen x false ≡ false → HasSeen (slice_set seen x true) (numbers ++ x ∷ [])
seen_more seen numbers x h below new = record {
  len = length-set seen x true ∙ h.len;
  replicas = All-push IsReplica numbers x h.replicas (omega arith);
  counts = λ r. (let more : count r (numbers ++ x ∷ []) ≡ count r numbers + (0 + one_if (x == r)) = count-append r numbers (x ∷ []) in let before : count r numbers ≡ one_if (get_or seen r false) = h.counts r in
      let P : ℕ → Type 0 = λ n. count r (numbers ++ x ∷ []) ≡ n in
      let goal : P (one_if (get_or (slice_set seen x true) r false)) = ⊎_elim
      (λ same.
      let one : one_if (x == r) ≡ 1 = ap one_if (eq-eqb x r (sym same)) in
      let none : one_if (get_or seen r false) ≡ 0 = ap one_if (ap (λ k. get_or seen k false) same ∙ new) in
      let now : one_if (get_or (slice_set seen x true) r false) ≡ 1 = ap one_if (ap (λ k. get_or (slice_set seen x true) k false) same ∙ get_or-set_same seen x true false within) in
      omega arith)
      (λ other.
      let none : one_if (x == r) ≡ 0 = ap one_if (ne_eqb x r (λ q. other (sym q))) in
      let now : one_if (get_or (slice_set seen x true) r false) ≡ one_if (get_or seen r false) = ap one_if (get_or-set_other seen x r true false other) in
      omega arith)
      (cases_eq r x) in goal);
}
  where
    within : x < length seen
    within = (let len : length seen ≡ 7 = h.len in omega arith)

-- a marked number stands twice
pub seen_twice : (seen : List Bool) (numbers after : List ℕ) (x : ℕ) → HasSeen seen numbers → get_or seen x false ≡ true → AreApart ((numbers ++ x ∷ []) ++ after) → ⊥
seen_twice seen numbers after x h marked apart =
    (let most : count x ((numbers ++ x ∷ []) ++ after) ≤ 1 = apart.1 x in
    let split : count x ((numbers ++ x ∷ []) ++ after) ≡ count x (numbers ++ x ∷ []) + count x after = count-append x (numbers ++ x ∷ []) after in
    let here : count x (numbers ++ x ∷ []) ≡ count x numbers + (0 + one_if (x == x)) = count-append x numbers (x ∷ []) in
    let one : one_if (x == x) ≡ 1 = ap one_if (eq-eqb x x refl) in
    let before : count x numbers ≡ 1 = h.counts x ∙ ap one_if marked in
    omega arith)

-- a number is not that of a replica
pub not_replica : (numbers after : List ℕ) (x : ℕ) → 7 ≤ x → AreApart ((numbers ++ x ∷ []) ++ after) → ⊥
not_replica numbers after x h apart =
    (let here : get_or (numbers ++ x ∷ after) (length numbers) x ≡ x = get_or-append_seam numbers x after x in
    let same : (numbers ++ x ∷ []) ++ after ≡ numbers ++ x ∷ after = append_assoc numbers (x ∷ []) after in
    let len : length (numbers ++ x ∷ after) ≡ length numbers + length (x ∷ after) = length-append numbers (x ∷ after) in
    let replicas : All IsReplica (numbers ++ x ∷ after) = subst (All IsReplica) same apart.0 in
    let small : IsReplica (get_or (numbers ++ x ∷ after) (length numbers) x) = replicas (length numbers) x (omega arith) in
    omega arith)

pub seen_apart : (seen : List Bool) (numbers : List ℕ) → HasSeen seen numbers → AreApart numbers
seen_apart seen numbers h = (h.replicas, λ r. (let is : count r numbers ≡ one_if (get_or seen r false) = h.counts r in let most : one_if (get_or seen r false) ≤ 1 = one_if-le (get_or seen r false) in omega arith))

-- a list cut at an element
cut_at : (xs : List ℕ) (i : ℕ) → i < length xs → xs ≡ (take i xs ++ get_or xs i 0 ∷ []) ++ drop (i + 1) xs
cut_at xs i h = sym (take-append-drop (i + 1) xs) ∙ ap (λ l. l ++ drop (i + 1) xs) (take_more xs i 0 h)

cut_within : (before numbers after : List ℕ) (i : ℕ) → i < length numbers → (before ++ numbers) ++ after ≡ ((before ++ take i numbers) ++ get_or numbers i 0 ∷ []) ++ (drop (i + 1) numbers ++ after)
cut_within before numbers after i h =
    ap (λ l. (before ++ l) ++ after) (cut_at numbers i h) ∙ simp append_assoc

pub stops_twice : (seen : List Bool) (before numbers after : List ℕ) (i x : ℕ) → i < length numbers → x ≡ get_or numbers i 0 → HasSeen seen (before ++ take i numbers) → get_or seen x false ≡ true → AreApart ((before ++ numbers) ++ after) → ⊥
stops_twice seen before numbers after i x h is kept marked apart =
    seen_twice seen (before ++ take i numbers) (drop (i + 1) numbers ++ after) (get_or numbers i 0) kept (ap (λ k. get_or seen k false) (sym is) ∙ marked)
    (subst AreApart (cut_within before numbers after i h) apart)

pub stops_far : (before numbers after : List ℕ) (i x : ℕ) → i < length numbers → x ≡ get_or numbers i 0 → 7 ≤ x → AreApart ((before ++ numbers) ++ after) → ⊥
stops_far before numbers after i x h is far apart =
    not_replica (before ++ take i numbers) (drop (i + 1) numbers ++ after) (get_or numbers i 0) (omega arith) (subst AreApart (cut_within before numbers after i h) apart)

pub marks_more : (seen : List Bool) (before numbers : List ℕ) (i x : ℕ) → i < length numbers → x ≡ get_or numbers i 0 → HasSeen seen (before ++ take i numbers) → x < 7 → get_or seen x false ≡ false → HasSeen (slice_set seen x true) (before ++ take (i + 1) numbers)
marks_more seen before numbers i x h is kept below new =
    subst (HasSeen (slice_set seen x true)) (append_assoc before (take i numbers) (x ∷ []) ∙ ap (λ l. before ++ l) (ap (λ y. take i numbers ++ y ∷ []) is ∙ sym (take_more numbers i 0 h)))
    (seen_more seen (before ++ take i numbers) x kept below new)

-- the numbers of groups
pub concat-append : (xs ys : List (List ℕ)) → concat (xs ++ ys) ≡ concat xs ++ concat ys
concat-append [] ys = refl
concat-append (x ∷ xs) ys = ap (λ l. x ++ l) (concat-append xs ys) ∙ sym (append_assoc x (concat xs) (concat ys))

abbrev pub numbers_in : List (Vec ℕ Global) → List ℕ
numbers_in groups = concat (map (λ (v : Vec ℕ Global). v.items) groups)

numbers_in-append : (xs ys : List (Vec ℕ Global)) → numbers_in (xs ++ ys) ≡ numbers_in xs ++ numbers_in ys
numbers_in-append xs ys = ap concat (map-append (λ (v : Vec ℕ Global). v.items) xs ys) ∙ concat-append (map (λ (v : Vec ℕ Global). v.items) xs) (map (λ (v : Vec ℕ Global). v.items) ys)

pub numbers_in_more : (groups : List (Vec ℕ Global)) (i : ℕ) (g : Vec ℕ Global) → i < length groups → g ≡ get_or groups i g → numbers_in (take (i + 1) groups) ≡ numbers_in (take i groups) ++ g.items
numbers_in_more groups i g h is =
    ap numbers_in (take_more groups i g h) ∙ numbers_in-append (take i groups) (get_or groups i g ∷ []) ∙ ap (λ (v : Vec ℕ Global). numbers_in (take i groups) ++ (v.items ++ [])) (sym is)
    ∙ ap (λ l. numbers_in (take i groups) ++ l) (append-nil g.items)

pub numbers_in_cut : (groups : List (Vec ℕ Global)) (i : ℕ) (g : Vec ℕ Global) → i < length groups → g ≡ get_or groups i g → numbers_in groups ≡ (numbers_in (take i groups) ++ g.items) ++ numbers_in (drop (i + 1) groups)
numbers_in_cut groups i g h is =
    ap numbers_in (sym (take-append-drop (i + 1) groups)) ∙ numbers_in-append (take (i + 1) groups) (drop (i + 1) groups) ∙ ap (λ l. l ++ numbers_in (drop (i + 1) groups)) (numbers_in_more groups i g h is)

pub numbers_in_all : (groups : List (Vec ℕ Global)) (i : ℕ) → length groups ≤ i → numbers_in (take i groups) ≡ numbers_in groups
numbers_in_all groups i h = ap numbers_in (take_all i groups h)

-- numbers and groups cut at one of them
pub seam : (before ns : List ℕ) (x : ℕ) (later after numbers : List ℕ) → numbers ≡ ns ++ x ∷ later → (before ++ numbers) ++ after ≡ ((before ++ ns) ++ x ∷ []) ++ (later ++ after)
seam before ns x later after numbers is = ap (λ l. (before ++ l) ++ after) is ∙ simp append_assoc

pub concat_at : (gs : List (List ℕ)) (x : List ℕ) (later all : List (List ℕ)) → all ≡ gs ++ x ∷ later → concat all ≡ (concat gs ++ x) ++ concat later
concat_at gs x later all is = ap concat is ∙ concat-append gs (x ∷ later) ∙ sym (append_assoc (concat gs) x (concat later))

pub concat_push : (gs : List (List ℕ)) (x : List ℕ) → concat gs ++ x ≡ concat (gs ++ x ∷ [])
concat_push gs x = sym (concat-append gs (x ∷ []) ∙ ap (λ l. concat gs ++ l) (append-nil x))
