-- a value put in among spans
use Rattle.std.proofs.Common.{◌≡◌, ◌≢◌, ◌+◌, ◌-◌, ◌%◌, ◌^◌, ◌<ℤ◌, ◌≤ℤ◌, ⊎_elim, sym, ap, ◌∙◌, subst, arith}
use Rattle.std.specs.Prelude.{ℕ, zero, suc, ◌≤◌, ◌<◌, ℤ, pos, ◌+ℤ◌, ◌-ℤ◌, List, [], ◌∷◌, ◌++◌, length, get_or, take, drop}
use Rattle.std.specs.List.{Contains}
use Rattle.std.proofs.lemmas.Bool.{cases_lt}
use Rattle.std.proofs.lemmas.Int.{ints, by_lt_z}
use Rattle.std.proofs.lemmas.List.{append-nil, append_assoc, take-append-drop, get_or-take, get_or-drop, length-take, length-drop, take_more, drop_more, drop_all}
use Rattle.std.proofs.lemmas.List.Concat.{flat_map-append}
use Rattle.std.proofs.lemmas.List.Elements.{Contains-get_or, Contains-append_right, Contains-append_cases}
use Rattle.values.specs.declared.span_row.Span.{Span}
use Rattle.values.specs.Members.{put_in}
use Rattle.values.specs.Spans.{in_turn, many, from_to, integers_in, EndBefore, StartBehind, StandApart}
use Rattle.values.specs.Sums.{mixed, sum_of}
use Rattle.values.proofs.Sums.{sum_of-between}
use Rattle.values.proofs.PutIn.{no_member, first_member, member_cases, put_in-member}
use Rattle.values.proofs.InSpans.{many_is, many_of, in_turn-append, not_empty, in_one, has_one, integers_ascend, apart_front, apart_back, apart_across, apart_joined, put_in-between}

-- the last integers ascend, so a place is found among them
later_end : (xs : List Span) → StandApart xs → (i j : ℕ) (d : Span) → i ≤ j → j < length xs → (get_or xs i d).to ≤ℤ (get_or xs j d).to
later_end [] is i j d le lt = absurd (omega arith)
later_end (x ∷ xs) is zero zero d le lt = omega (arith, ints)
later_end (x ∷ xs) is zero (suc j) d le lt =
    let has : Contains xs (get_or xs j d) = Contains-get_or xs j d (omega arith) in
    let far = is.1 (get_or xs j d) has in
    let some = not_empty xs is.2 (get_or xs j d) has in
    omega (arith, ints, far, some)
later_end (x ∷ xs) is (suc i) zero d le lt = absurd (omega arith)
later_end (x ∷ xs) is (suc i) (suc j) d le lt = later_end xs is.2 i j d (omega arith) (omega arith)

pub end_before_place : (xs : List Span) → StandApart xs → (n : ℕ) (v : ℤ) → n ≤ length xs
    → ((k : ℕ) (d : Span) → n ≡ k + 1 → (get_or xs k d).to <ℤ v) → (span : Span) → Contains (take n xs) span → span.to <ℤ v
end_before_place xs is n v fits point span h =
    let long = length-take n xs in
    let within : h.0 < length (take n xs) = h.1 in
    let lt : h.0 < n = omega (arith, long, within) in
    let e : get_or xs h.0 span ≡ span = sym (get_or-take n xs h.0 span lt) ∙ h.2 in
    let last : (get_or xs (n - 1) span).to <ℤ v = point (n - 1) span (omega arith) in
    let up_to : (get_or xs h.0 span).to ≤ℤ (get_or xs (n - 1) span).to = later_end xs is h.0 (n - 1) span (omega arith) (omega arith) in
    subst (λ (t : Span). t.to <ℤ v) e (omega (arith, ints, last, up_to))

pub end_behind_place : (xs : List Span) → StandApart xs → (n : ℕ) (v : ℤ) → n ≤ length xs
    → ((d : Span) → n < length xs → v ≤ℤ (get_or xs n d).to) → (span : Span) → Contains (drop n xs) span → v ≤ℤ span.to
end_behind_place xs is n v fits point span h =
    let long = length-drop n xs in
    let within : h.0 < length (drop n xs) = h.1 in
    let lt : n + h.0 < length xs = omega (arith, long, within) in
    let e : get_or xs (n + h.0) span ≡ span = sym (get_or-drop n xs h.0 span) ∙ h.2 in
    let first : v ≤ℤ (get_or xs n span).to = point span (omega arith) in
    let from : (get_or xs n span).to ≤ℤ (get_or xs (n + h.0) span).to = later_end xs is n (n + h.0) span (omega arith) lt in
    subst (λ (t : Span). v ≤ℤ t.to) e (omega (arith, ints, first, from))

-- the integers from one to another, cut
pub from_to_more : (a v : ℤ) → a ≤ℤ v → from_to a (v -ℤ pos 1) ++ v ∷ [] ≡ from_to a v
from_to_more a v h =
    let n = many a (v -ℤ pos 1) in
    let n_is : a +ℤ pos n ≡ (v -ℤ pos 1) +ℤ pos 1 = many_is a (v -ℤ pos 1) (omega (arith, ints)) in
    let there : a +ℤ pos n ≡ v = omega (arith, ints, n_is) in
    let all : many a v ≡ n + 1 = many_of a v (n + 1) (omega (arith, ints, n_is)) in
    ap (λ z. in_turn a n ++ z ∷ []) (sym there) ∙ sym (in_turn-append a n 1) ∙ ap (in_turn a) (sym all)

pub from_to_cut : (a v b : ℤ) → a ≤ℤ v → v ≤ℤ b → from_to a b ≡ from_to a v ++ from_to (v +ℤ pos 1) b
from_to_cut a v b h k =
    let n = many a v in
    let m = many (v +ℤ pos 1) b in
    let n_is : a +ℤ pos n ≡ v +ℤ pos 1 = many_is a v (omega (arith, ints)) in
    let m_is : (v +ℤ pos 1) +ℤ pos m ≡ b +ℤ pos 1 = many_is (v +ℤ pos 1) b (omega (arith, ints)) in
    let all : many a b ≡ n + m = many_of a b (n + m) (omega (arith, ints, n_is, m_is)) in
    ap (in_turn a) all ∙ in_turn-append a n m ∙ ap (λ z. in_turn a n ++ in_turn z m) n_is

pub pushed : (old items new : List ℤ) (a v : ℤ) → a ≤ℤ v → items ≡ old ++ from_to a (v -ℤ pos 1) → new ≡ items ++ v ∷ [] → new ≡ old ++ from_to a v
pushed old items new a v h so_far is =
    is ∙ ap (λ l. l ++ v ∷ []) so_far ∙ append_assoc old (from_to a (v -ℤ pos 1)) (v ∷ []) ∙ ap (λ l. old ++ l) (from_to_more a v h)

regroup : (f l r k : List ℤ) (v : ℤ) → f ++ (((l ++ v ∷ []) ++ r) ++ k) ≡ (f ++ l) ++ v ∷ (r ++ k)
regroup f l r k v = simp append_assoc

-- where the span with the value starts
pub last_split : (xs : List Span) (at : ℕ) (d : Span) → 0 < at → at ≤ length xs → take at xs ≡ take (at - 1) xs ++ get_or xs (at - 1) d ∷ []
last_split xs at d some fits =
    let e : at ≡ (at - 1) + 1 = omega arith in
    ap (λ n. take n xs) e ∙ take_more xs (at - 1) d (omega arith)

pub last_member : (xs : List Span) (last : Span) → Contains (xs ++ last ∷ []) last
last_member xs last = Contains-append_right xs (last ∷ []) last (first_member last [])

pub starts_at_last : (xs : List Span) (last : Span) (v : ℤ) → last.to +ℤ pos 1 ≡ v → integers_in (xs ++ last ∷ []) ≡ integers_in xs ++ from_to last.from (v -ℤ pos 1)
starts_at_last xs last v e =
    let end : last.to ≡ v -ℤ pos 1 = omega (arith, ints, e) in
    flat_map-append (λ (span : Span). from_to span.from span.to) xs (last ∷ [])
    ∙ ap (λ l. integers_in xs ++ l) (append-nil (from_to last.from last.to) ∙ ap (from_to last.from) end)

pub ends_before_alone : (xs : List Span) (last : Span) (v : ℤ) → StandApart (xs ++ last ∷ []) → last.to <ℤ v → last.to +ℤ pos 1 ≢ v → EndBefore (xs ++ last ∷ []) v
ends_before_alone xs last v is below other span h =
    let end : (last.to +ℤ pos 1) <ℤ v = by_lt_z (last.to +ℤ pos 1) v (λ l. l) (λ k. absurd (other (omega (arith, ints, k, below)))) in
    ⊎_elim
    (λ k.
    let some = not_empty (xs ++ last ∷ []) is last (last_member xs last) in
    let far = apart_across xs (last ∷ []) is span last k (first_member last []) in
    omega (arith, ints, some, far, end))
    (λ k. ⊎_elim (λ e. subst (λ (t : Span). (t.to +ℤ pos 1) <ℤ v) e end) (λ n. absurd (no_member span n)) (member_cases last [] span k))
    (Contains-append_cases xs (last ∷ []) span h)

-- where it ends
pub starts_behind_alone : (next : Span) (xs : List Span) (v : ℤ) → StandApart (next ∷ xs) → v <ℤ next.from → v +ℤ pos 1 ≢ next.from → StartBehind (next ∷ xs) v
starts_behind_alone next xs v is above other span h =
    let start : (v +ℤ pos 1) <ℤ next.from = by_lt_z (v +ℤ pos 1) next.from (λ l. l) (λ k. absurd (other (omega (arith, ints, k, above)))) in
    ⊎_elim
    (λ e. subst (λ (t : Span). (v +ℤ pos 1) <ℤ t.from) e start)
    (λ k. let some : next.from ≤ℤ next.to = is.0 in let far = is.1 span k in omega (arith, ints, some, far, start))
    (member_cases next xs span h)

-- spans of which the first starts behind the value
pub all_start_behind : (xs : List Span) (at : ℕ) (v : ℤ) → StandApart (drop at xs) → ((d : Span) → at < length xs → v <ℤ (get_or xs at d).from) → (span : Span) → Contains (drop at xs) span → v <ℤ span.from
all_start_behind xs at v is first span h =
    ⊎_elim
    (λ lt.
    let next = get_or xs at span in
    let e : drop at xs ≡ next ∷ drop (at + 1) xs = drop_more xs at span lt in
    let js : StandApart (next ∷ drop (at + 1) xs) = subst StandApart e is in
    let start : v <ℤ next.from = first span lt in
    ⊎_elim
    (λ e. subst (λ (t : Span). v <ℤ t.from) e start)
    (λ k. let some : next.from ≤ℤ next.to = js.0 in let far = js.1 span k in omega (arith, ints, some, far, start))
    (member_cases next (drop (at + 1) xs) span (subst (λ l. Contains l span) e h)))
    (λ le. absurd (no_member span (subst (λ l. Contains l span) (drop_all at xs le) h)))
    (cases_lt at (length xs))

-- the spans on both sides of a place
pub apart_before : (xs : List Span) (at : ℕ) → StandApart xs → StandApart (take at xs)
apart_before xs at is = apart_front (take at xs) (drop at xs) (subst StandApart (sym (take-append-drop at xs)) is)

pub apart_behind : (xs : List Span) (at : ℕ) → StandApart xs → StandApart (drop at xs)
apart_behind xs at is = apart_back (take at xs) (drop at xs) (subst StandApart (sym (take-append-drop at xs)) is)

both_sides : (xs : List Span) (at : ℕ) → integers_in xs ≡ integers_in (take at xs) ++ integers_in (drop at xs)
both_sides xs at = ap integers_in (sym (take-append-drop at xs)) ∙ flat_map-append (λ (span : Span). from_to span.from span.to) (take at xs) (drop at xs)

-- the integers after the value was put in
pub between : (xs : List Span) (at : ℕ) (front back : List Span) (span : Span) (v : ℤ) → span.from ≤ℤ v → v ≤ℤ span.to
    → integers_in (take at xs) ≡ integers_in front ++ from_to span.from (v -ℤ pos 1)
    → integers_in (drop at xs) ≡ from_to (v +ℤ pos 1) span.to ++ integers_in back
    → integers_in (front ++ span ∷ back) ≡ integers_in (take at xs) ++ v ∷ integers_in (drop at xs)
between xs at front back span v low high starts ends =
    let f = integers_in front in
    let l = from_to span.from (v -ℤ pos 1) in
    let r = from_to (v +ℤ pos 1) span.to in
    let k = integers_in back in
    let middle : from_to span.from span.to ≡ (l ++ v ∷ []) ++ r = from_to_cut span.from v span.to low high ∙ ap (λ m. m ++ r) (sym (from_to_more span.from v low)) in
    flat_map-append (λ (s : Span). from_to s.from s.to) front (span ∷ back)
    ∙ ap (λ m. f ++ (m ++ k)) middle ∙ regroup f l r k v
    ∙ ap (λ m. m ++ v ∷ (r ++ k)) (sym starts) ∙ ap (λ m. integers_in (take at xs) ++ v ∷ m) (sym ends)

pub put_in_sides : (xs : List Span) (at : ℕ) (v : ℤ) → StandApart xs → ((s : Span) → Contains (take at xs) s → s.to <ℤ v)
    → ((s : Span) → Contains (drop at xs) s → v <ℤ s.from) → integers_in (take at xs) ++ v ∷ integers_in (drop at xs) ≡ put_in v (integers_in xs)
put_in_sides xs at v is before behind =
    sym (put_in-between v (integers_in (take at xs)) (integers_in (drop at xs))
    (λ y h. let o = in_one (take at xs) (apart_before xs at is) y h in let below = before o.0 o.1 in let up_to : y ≤ℤ o.0.to = o.3 in omega (arith, ints, below, up_to))
    (λ y h. let o = in_one (drop at xs) (apart_behind xs at is) y h in let above = behind o.0 o.1 in let from : o.0.from ≤ℤ y = o.2 in omega (arith, ints, above, from)))
    ∙ ap (put_in v) (sym (both_sides xs at))

pub sum_with : (xs : List Span) (at : ℕ) (v : ℤ) → sum_of (integers_in (take at xs) ++ v ∷ integers_in (drop at xs)) ≡ (sum_of (integers_in xs) + mixed v) % 2 ^ 128
sum_with xs at v = sum_of-between (integers_in (take at xs)) (integers_in (drop at xs)) v ∙ ap (λ l. (sum_of l + mixed v) % 2 ^ 128) (sym (both_sides xs at))

-- and the spans are apart still
pub apart_with : (xs : List Span) (before behind : ℕ) (span : Span) → StandApart xs → before ≤ behind → span.from ≤ℤ span.to
    → EndBefore (take before xs) span.from → StartBehind (drop behind xs) span.to → StandApart (take before xs ++ span ∷ drop behind xs)
apart_with xs before behind span is le some ends starts =
    apart_joined (take before xs) (span ∷ drop behind xs) (apart_before xs before is) (some, starts, apart_behind xs behind is)
    (λ s t h k.
    let end = ends s h in
    ⊎_elim
    (λ (e : span ≡ t). subst (λ (u : Span). (s.to +ℤ pos 1) <ℤ u.from) e end)
    (λ j. let start = starts t j in omega (arith, ints, end, start, some))
    (member_cases span (drop behind xs) t k))

-- a value that one of the spans has
pub put_in_there : (xs : List Span) (at : ℕ) (v : ℤ) → StandApart xs → ((s : Span) → Contains (drop at xs) s → v ≤ℤ s.to) → ((d : Span) → (at < length xs) × ((get_or xs at d).from ≤ℤ v)) → put_in v (integers_in xs) ≡ integers_in xs
put_in_there xs at v is behind starts =
    let d : Span = record { from = v; to = v } in
    let lt : at < length xs = (starts d).0 in
    let s = get_or xs at d in
    let first : Contains (drop at xs) s = subst (λ l. Contains l s) (sym (drop_more xs at d lt)) (first_member s (drop (at + 1) xs)) in
    put_in-member v (integers_in xs) (integers_ascend xs is) (has_one xs s (Contains-get_or xs at d lt) v (starts d).1 (behind s first))

-- the integers of the spans as they are gone through
pub integers_more : (xs : List Span) (at : ℕ) (d : Span) → at < length xs → integers_in (take (at + 1) xs) ≡ integers_in (take at xs) ++ from_to (get_or xs at d).from (get_or xs at d).to
integers_more xs at d lt =
    let s = get_or xs at d in
    ap integers_in (take_more xs at d lt) ∙ flat_map-append (λ (span : Span). from_to span.from span.to) (take at xs) (s ∷ [])
    ∙ ap (λ l. integers_in (take at xs) ++ l) (append-nil (from_to s.from s.to))

-- a part of them
pub part_apart : (spans part : List Span) (at many : ℕ) → StandApart spans → take (at + many) spans ≡ take at spans ++ part → StandApart part
part_apart spans part at many is e = apart_back (take at spans) part (subst StandApart e (apart_before spans (at + many) is))

-- one of them
pub not_turned : (spans : List Span) (at : ℕ) (d : Span) → StandApart spans → at < length spans → (get_or spans at d).from ≤ℤ (get_or spans at d).to
not_turned spans at d is h = not_empty spans is (get_or spans at d) (Contains-get_or spans at d h)
