-- integers in turn, and spans of them
use Rattle.std.proofs.Common.{◌≡◌, ◌+◌, ◌-◌, ◌<ℤ◌, ◌≤ℤ◌, ◌⊎◌, inl, inr, ⊎_elim, zero-add, sym, ap, ◌∙◌, subst, arith}
use Rattle.std.specs.Prelude.{ℕ, zero, suc, ℤ, pos, negsuc, ◌+ℤ◌, ◌-ℤ◌, unsigned_abs, List, [], ◌∷◌, ◌++◌, length, refl}
use Rattle.std.specs.List.{Contains}
use Rattle.std.proofs.lemmas.Int.{ints, by_lt_z}
use Rattle.std.proofs.lemmas.List.Elements.{Contains-append_left, Contains-append_right, Contains-append_cases}
use Rattle.values.specs.declared.span_row.Span.{Span}
use Rattle.values.specs.Members.{IsAscending, put_in}
use Rattle.values.specs.Spans.{in_turn, many, from_to, integers_in, StartBehind, StandApart}
use Rattle.values.proofs.PutIn.{no_member, first_member, later_member, member_cases, is_lower, not_lower, put_in-first, put_in-later}

-- how many there are
non_negative : (z : ℤ) → pos 0 ≤ℤ z → pos (unsigned_abs z) ≡ z
non_negative (pos n) h = refl
non_negative (negsuc n) h = absurd (omega (arith, ints))

pub many_is : (a b : ℤ) → a ≤ℤ (b +ℤ pos 1) → a +ℤ pos (many a b) ≡ b +ℤ pos 1
many_is a b h =
    let e = non_negative ((b -ℤ a) +ℤ pos 1) (omega (arith, ints)) in
    let f : a +ℤ ((b -ℤ a) +ℤ pos 1) ≡ b +ℤ pos 1 = omega (arith, ints) in
    ap (λ z. a +ℤ z) e ∙ f

pub many_of : (a b : ℤ) (n : ℕ) → a +ℤ pos n ≡ b +ℤ pos 1 → many a b ≡ n
many_of a b n e = let h = many_is a b (omega (arith, ints)) in omega (arith, ints)

same_or_below : (x y : ℤ) → x ≤ℤ y → (x ≡ y) ⊎ (x <ℤ y)
same_or_below x y h = by_lt_z x y (λ l. inr l) (λ g. inl (omega (arith, ints)))

length-in_turn : (x : ℤ) (n : ℕ) → length (in_turn x n) ≡ n
length-in_turn x zero = refl
length-in_turn x (suc n) = ap suc (length-in_turn (x +ℤ pos 1) n)

pub length-from_to : (a b : ℤ) → a ≤ℤ b → length (from_to a b) ≡ unsigned_abs (b -ℤ a) + 1
length-from_to a b h =
    let e = non_negative (b -ℤ a) (omega (arith, ints)) in
    length-in_turn a (many a b) ∙ many_of a b (unsigned_abs (b -ℤ a) + 1) (omega (arith, ints, e))

-- integers in turn, and more
pub in_turn-append : (x : ℤ) (n m : ℕ) → in_turn x (n + m) ≡ in_turn x n ++ in_turn (x +ℤ pos n) m
in_turn-append x zero m =
    let e : x ≡ x +ℤ pos 0 = omega (arith, ints) in
    ap (in_turn x) (zero-add m) ∙ ap (λ y. in_turn y m) e
in_turn-append x (suc n) m =
    let e : suc n + m ≡ suc (n + m) = omega arith in
    let f : (x +ℤ pos 1) +ℤ pos n ≡ x +ℤ pos (suc n) = omega (arith, ints) in
    ap (in_turn x) e ∙ ap (λ l. x ∷ l) (in_turn-append (x +ℤ pos 1) n m ∙ ap (λ y. in_turn (x +ℤ pos 1) n ++ in_turn y m) f)

in_turn_within : (x : ℤ) (n : ℕ) (y : ℤ) → Contains (in_turn x n) y → (x ≤ℤ y) × (y <ℤ (x +ℤ pos n))
in_turn_within x zero y h = absurd (no_member y h)
in_turn_within x (suc n) y h =
    ⊎_elim
    (λ (e : x ≡ y). (omega (arith, ints), omega (arith, ints)))
    (λ k. let i = in_turn_within (x +ℤ pos 1) n y k in let low : (x +ℤ pos 1) ≤ℤ y = i.0 in let high : y <ℤ ((x +ℤ pos 1) +ℤ pos n) = i.1 in (omega (arith, ints), omega (arith, ints)))
    (member_cases x (in_turn (x +ℤ pos 1) n) y h)

in_turn_has : (x : ℤ) (n : ℕ) (y : ℤ) → x ≤ℤ y → y <ℤ (x +ℤ pos n) → Contains (in_turn x n) y
in_turn_has x zero y h k = absurd (omega (arith, ints))
in_turn_has x (suc n) y h k =
    ⊎_elim
    (λ e. subst (Contains (x ∷ in_turn (x +ℤ pos 1) n)) e (first_member x (in_turn (x +ℤ pos 1) n)))
    (λ (l : x <ℤ y). later_member x (in_turn (x +ℤ pos 1) n) y (in_turn_has (x +ℤ pos 1) n y (omega (arith, ints)) (omega (arith, ints))))
    (same_or_below x y h)

in_turn_ascends : (x : ℤ) (n : ℕ) (rest : List ℤ) → IsAscending rest → ((y : ℤ) → Contains rest y → (x +ℤ pos n) ≤ℤ y) → IsAscending (in_turn x n ++ rest)
in_turn_ascends x zero rest is far = is
in_turn_ascends x (suc n) rest is far = (
  (λ y h. ⊎_elim
      (λ k. let low : (x +ℤ pos 1) ≤ℤ y = (in_turn_within (x +ℤ pos 1) n y k).0 in omega (arith, ints))
      (λ k. let low : (x +ℤ pos (suc n)) ≤ℤ y = far y k in omega (arith, ints))
      (Contains-append_cases (in_turn (x +ℤ pos 1) n) rest y h)),
  in_turn_ascends (x +ℤ pos 1) n rest is (λ y k. let low : (x +ℤ pos (suc n)) ≤ℤ y = far y k in omega (arith, ints)),
)

-- integers in turn with others behind them determine their number
in_turn_cancel : (x : ℤ) (n m : ℕ) (ls bs : List ℤ) → ((y : ℤ) → Contains ls y → (x +ℤ pos n) <ℤ y) → ((y : ℤ) → Contains bs y → (x +ℤ pos m) <ℤ y) → in_turn x n ++ ls ≡ in_turn x m ++ bs → (n ≡ m) × (ls ≡ bs)
in_turn_cancel x zero zero ls bs past_ls past_bs e = (refl, e)
in_turn_cancel x zero (suc m) ls bs past_ls past_bs e =
    let l = past_ls x (subst (λ l. Contains l x) (sym e) (first_member x (in_turn (x +ℤ pos 1) m ++ bs))) in absurd (omega (arith, ints, l))
in_turn_cancel x (suc n) zero ls bs past_ls past_bs e =
    let l = past_bs x (subst (λ l. Contains l x) e (first_member x (in_turn (x +ℤ pos 1) n ++ ls))) in absurd (omega (arith, ints, l))
in_turn_cancel x (suc n) (suc m) ls bs past_ls past_bs e =
    let t : in_turn (x +ℤ pos 1) n ++ ls ≡ in_turn (x +ℤ pos 1) m ++ bs = cc in
    let rest = in_turn_cancel (x +ℤ pos 1) n m ls bs
    (λ y k. let l : (x +ℤ pos (suc n)) <ℤ y = past_ls y k in omega (arith, ints))
    (λ y k. let l : (x +ℤ pos (suc m)) <ℤ y = past_bs y k in omega (arith, ints)) t in
    (ap suc rest.0, rest.1)

-- spans one by one
pub not_empty : (spans : List Span) → StandApart spans → (span : Span) → Contains spans span → span.from ≤ℤ span.to
not_empty [] is span h = absurd (no_member span h)
not_empty (s ∷ spans) is span h = ⊎_elim (λ e. subst (λ (t : Span). t.from ≤ℤ t.to) e is.0) (not_empty spans is.2 span) (member_cases s spans span h)

pub in_one : (spans : List Span) → StandApart spans → (y : ℤ) → Contains (integers_in spans) y → (span : Span) × Contains spans span × (span.from ≤ℤ y) × (y ≤ℤ span.to)
in_one [] is y h = absurd (no_member y h)
in_one (s ∷ spans) is y h =
    ⊎_elim
    (λ k.
    let some : s.from ≤ℤ s.to = is.0 in
    let e = many_is s.from s.to (omega (arith, ints)) in
    let i = in_turn_within s.from (many s.from s.to) y k in
    let low : s.from ≤ℤ y = i.0 in
    let high : y <ℤ (s.from +ℤ pos (many s.from s.to)) = i.1 in
    (s, first_member s spans, low, omega (arith, ints)))
    (λ k. let o = in_one spans is.2 y k in (o.0, later_member s spans o.0 o.1, o.2, o.3))
    (Contains-append_cases (from_to s.from s.to) (integers_in spans) y h)

pub has_one : (spans : List Span) (span : Span) → Contains spans span → (y : ℤ) → span.from ≤ℤ y → y ≤ℤ span.to → Contains (integers_in spans) y
has_one [] span h y low high = absurd (no_member span h)
has_one (s ∷ spans) span h y low high =
    ⊎_elim
    (λ e.
    let many_there = many_is span.from span.to (omega (arith, ints)) in
    let there : Contains (from_to span.from span.to) y = in_turn_has span.from (many span.from span.to) y low (omega (arith, ints)) in
    Contains-append_left (from_to s.from s.to) (integers_in spans) y (subst (λ (t : Span). Contains (from_to t.from t.to) y) (sym e) there))
    (λ k. Contains-append_right (from_to s.from s.to) (integers_in spans) y (has_one spans span k y low high))
    (member_cases s spans span h)

pub behind_all : (spans : List Span) (x : ℤ) → StandApart spans → StartBehind spans x → (y : ℤ) → Contains (integers_in spans) y → (x +ℤ pos 1) <ℤ y
behind_all spans x is far y h =
    let o = in_one spans is y h in
    let low : o.0.from ≤ℤ y = o.2 in
    let more : (x +ℤ pos 1) <ℤ o.0.from = far o.0 o.1 in
    omega (arith, ints, low, more)

pub integers_ascend : (spans : List Span) → StandApart spans → IsAscending (integers_in spans)
integers_ascend [] is = tt
integers_ascend (s ∷ spans) is =
    let some : s.from ≤ℤ s.to = is.0 in
    let e = many_is s.from s.to (omega (arith, ints)) in
    in_turn_ascends s.from (many s.from s.to) (integers_in spans) (integers_ascend spans is.2)
    (λ y h. let l = behind_all spans s.to is.2 is.1 y h in omega (arith, ints))

-- the spans before and behind a place
pub apart_front : (xs ys : List Span) → StandApart (xs ++ ys) → StandApart xs
apart_front [] ys is = tt
apart_front (s ∷ xs) ys is = (is.0, (λ t h. is.1 t (Contains-append_left xs ys t h)), apart_front xs ys is.2)

pub apart_back : (xs ys : List Span) → StandApart (xs ++ ys) → StandApart ys
apart_back [] ys is = is
apart_back (s ∷ xs) ys is = apart_back xs ys is.2

pub apart_across : (xs ys : List Span) → StandApart (xs ++ ys) → (s t : Span) → Contains xs s → Contains ys t → (s.to +ℤ pos 1) <ℤ t.from
apart_across [] ys is s t h k = absurd (no_member s h)
apart_across (x ∷ xs) ys is s t h k =
    ⊎_elim
    (λ e. subst (λ (u : Span). (u.to +ℤ pos 1) <ℤ t.from) e (is.1 t (Contains-append_right xs ys t k)))
    (λ j. apart_across xs ys is.2 s t j k)
    (member_cases x xs s h)

pub apart_joined : (xs ys : List Span) → StandApart xs → StandApart ys → ((s t : Span) → Contains xs s → Contains ys t → (s.to +ℤ pos 1) <ℤ t.from) → StandApart (xs ++ ys)
apart_joined [] ys is js across = js
apart_joined (x ∷ xs) ys is js across = (
  is.0,
  (λ t h. ⊎_elim (is.1 t) (λ k. across x t (first_member x xs) k) (Contains-append_cases xs ys t h)),
  apart_joined xs ys is.2 js (λ s t h k. across s t (later_member x xs s h) k),
)

-- spans that are apart are known by their integers
pub same_span : (s t : Span) → s.from ≡ t.from → s.to ≡ t.to → s ≡ t
same_span s t e f =
    let one : ℤ → Span = (λ z. record { from = z; to = s.to }) in
    let two : ℤ → Span = (λ z. record { from = t.from; to = z }) in
    ap one e ∙ ap two f

some_more : (a b : ℤ) → a ≤ℤ b → (n : ℕ) × (many a b ≡ suc n)
some_more a b h =
    let e = many_is a b (omega (arith, ints)) in
    let f : many a b ≡ suc (many a b - 1) = omega (arith, ints) in
    (many a b - 1, f)

pub one_list : (xs ys : List Span) → StandApart xs → StandApart ys → integers_in xs ≡ integers_in ys → xs ≡ ys
one_list [] [] is js e = refl
one_list [] (y ∷ ys) is js e =
    absurd (no_member y.from (subst (λ l. Contains l y.from) (sym e) (has_one (y ∷ ys) y (first_member y ys) y.from (omega (arith, ints)) js.0)))
one_list (x ∷ xs) [] is js e =
    absurd (no_member x.from (subst (λ l. Contains l x.from) e (has_one (x ∷ xs) x (first_member x xs) x.from (omega (arith, ints)) is.0)))
one_list (x ∷ xs) (y ∷ ys) is js e =
    let x_some : x.from ≤ℤ x.to = is.0 in
    let y_some : y.from ≤ℤ y.to = js.0 in
    let x_many = many_is x.from x.to (omega (arith, ints)) in
    let y_many = many_is y.from y.to (omega (arith, ints)) in
    let n = some_more x.from x.to x_some in
    let m = some_more y.from y.to y_some in
    let n_is : many x.from x.to ≡ suc n.0 = n.1 in
    let m_is : many y.from y.to ≡ suc m.0 = m.1 in
    let whole : in_turn x.from (suc n.0) ++ integers_in xs ≡ in_turn y.from (suc m.0) ++ integers_in ys =
    ap (λ k. in_turn x.from k ++ integers_in xs) (sym n.1) ∙ e ∙ ap (λ k. in_turn y.from k ++ integers_in ys) m.1 in
    let first : x.from ≡ y.from = cc whole in
    let rest = in_turn_cancel x.from (suc n.0) (suc m.0) (integers_in xs) (integers_in ys)
    (λ z h. let l = behind_all xs x.to is.2 is.1 z h in omega (arith, ints))
    (λ z h. let l = behind_all ys y.to js.2 js.1 z h in omega (arith, ints))
    (whole ∙ ap (λ z. in_turn z (suc m.0) ++ integers_in ys) (sym first)) in
    let same_many : suc n.0 ≡ suc m.0 = rest.0 in
    let last : x.to ≡ y.to = omega (arith, ints) in
    ap (λ s. s ∷ xs) (same_span x y first last) ∙ ap (λ l. y ∷ l) (one_list xs ys is.2 js.2 rest.1)

-- put in between
pub put_in-between : (v : ℤ) (ls bs : List ℤ) → ((y : ℤ) → Contains ls y → y <ℤ v) → ((y : ℤ) → Contains bs y → v <ℤ y) → put_in v (ls ++ bs) ≡ ls ++ v ∷ bs
put_in-between v [] [] below above = refl
put_in-between v [] (b ∷ bs) below above = put_in-first v b bs (is_lower v b (above b (first_member b bs)))
put_in-between v (a ∷ ls) bs below above =
    let l = below a (first_member a ls) in
    put_in-later v a (ls ++ bs) (not_lower v a l) (is_lower a v l) ∙ ap (λ t. a ∷ t) (put_in-between v ls bs (λ y h. below y (later_member a ls y h)) above)
