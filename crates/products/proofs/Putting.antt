-- Rows that are put with those of a family
use Rattle.std.proofs.Common.{◌≡◌, ◌↔◌, ◌⊎◌, ◌≢◌, ◌<◌, ◌≤◌, ◌+◌, ◌∷◌, ◌++◌, [], ℕ, zero, suc, List, Some, ◌^◌, length, take, drop, set, get_or, ap, sym, ◌∙◌, subst, inl, inr, arith}
use Rattle.std.specs.List.{slice_get}
use Rattle.std.proofs.lemmas.List.{get_or_read, length-append, length-set, get_or-drop, get_or-set_same, get_or-set_other}
use Rattle.std.proofs.lemmas.Option.{same_Some, slice_get_within, slice_get-get_or}
use Rattle.std.proofs.lemmas.Bool.{cases_eq, cases_lt, cases_order}
use Rattle.std.specs.Int.{bit_at}
use Rattle.products.proofs.Numbers.{by_bits, has_alone, has_nothing}
use Rattle.products.proofs.Sets.{are_in_at, are_in_from, are_in_long}
use Rattle.products.specs.Products.{Has, AreIn, HasWith, IsIn, IsInAt, IsInOne, IsPiece, Product, Puts, Widens}
use Rattle.products.proofs.Families.{in_push, in_set, is_in_either, is_in_joined, push_kept, push_last, set_here, set_kept, set_there}

-- sets that stay
same_widens : (added old new : List ℕ) → new ≡ old → Widens added old new
same_widens added old new same =
    subst (Widens added old) (sym same) (λ place number. ((λ h. h), (λ h. inl h)))

-- a product behind the others
pub puts_pushed : (product : Product) (from : ℕ) (old : List Product) → Puts product from old (old ++ product ∷ [])
puts_pushed product from old = record {
  front = λ at before within. push_kept old product at within;
  long = omega (arith, length-append old (product ∷ []));
  kept = λ at row h. (h.0, push_kept old product at (slice_get_within old at h.0 h.1) ∙ h.1, h.2);
  all = λ row h. (length old, (product, push_last old product, h));
  only = λ at row h. elim (in_push old product at row h) [ inl was ↦ inl was | inr last ↦ inr last.1 ];
  wider = λ at before after was is.
      same_widens product.1 before.1 after.1
      (ap (λ (p : Product). p.1) (same_Some after before (sym is ∙ push_kept old product at (slice_get_within old at before was) ∙ was)));
}

-- a set at one place that has got the numbers of another one
widens_at : (added others : List ℕ) (place word : ℕ) → place < length others
    → ((n : ℕ) → Has word n ↔ (Has (get_or added place 0) n ⊎ Has (get_or others place 0) n)) → Widens added others (set others place word)
widens_at added others place word inner both i n = elim (cases_eq i place) [
  | inl same ↦
      let now : get_or (set others place word) i 0 ≡ word = ap (λ k. get_or (set others place word) k 0) same ∙ get_or-set_same others place word 0 inner in (
        (λ h. subst (λ s. Has s n) (sym now) ((both n).1 (inr (subst (λ k. Has (get_or others k 0) n) same h)))),
        (λ h. elim ((both n).0 (subst (λ s. Has s n) now h)) [
          | inl more ↦ inr (subst (λ k. Has (get_or added k 0) n) (sym same) more)
          | inr was ↦ inl (subst (λ k. Has (get_or others k 0) n) (sym same) was)
        ]),
      )
  | inr other ↦
      let now : get_or (set others place word) i 0 ≡ get_or others i 0 = get_or-set_other others place i word 0 other in
      ((λ h. subst (λ s. Has s n) (sym now) h), (λ h. inl (subst (λ s. Has s n) now h)))
]

-- a product from which it differs at one place, which has got its rows
pub puts_joined : (first from at place word : ℕ) (sets others : List ℕ) (old : List Product) → from ≤ at
    → slice_get old at ≡ Some (first, others) → place < length others
    → ((row : List ℕ) → AreIn (set others place word) row ↔ (AreIn others row ⊎ AreIn sets row))
    → ((n : ℕ) → Has word n ↔ (Has (get_or sets place 0) n ⊎ Has (get_or others place 0) n))
    → Puts (first, sets) from old (set old at (first, set others place word))
puts_joined first from at place word sets others old beyond there inner joined both =
    let new : Product = (first, set others place word) in
    let was : Product = (first, others) in
    let added : Product = (first, sets) in
    record {
      front = λ i before within. set_there old at i new (λ same. absurd (omega (arith, same, before)));
      long = omega (arith, length-set old at new);
      kept = λ i row h. set_kept old at i was new row there (λ g. is_in_either first sets others (set others place word) row joined (inl g)) h;
      all = λ row h. (at, (new, set_here old at new (slice_get_within old at was there), is_in_either first sets others (set others place word) row joined (inr h)));
      only = λ i row h. elim (in_set old at i was new added row there (λ g. is_in_joined first sets others (set others place word) row joined g) h) [
        | inl before ↦ inl before
        | inr more ↦ inr more.1
      ];
      wider = λ i before after one other. elim (cases_eq i at) [
        | inl same ↦
            let same_before : was ≡ before = same_Some was before (sym there ∙ ap (slice_get old) (sym same) ∙ one) in
            let same_after : new ≡ after = same_Some new after (sym (set_here old at new (slice_get_within old at was there)) ∙ ap (slice_get (set old at new)) (sym same) ∙ other) in
            subst (λ (p : Product). Widens sets before.1 p.1) same_after
            (subst (λ (p : Product). Widens sets p.1 new.1) same_before (widens_at sets others place word inner both))
        | inr apart ↦
            same_widens sets before.1 after.1 (ap (λ (p : Product). p.1) (same_Some after before (sym other ∙ set_there old at i new apart ∙ one)))
      ];
    }

-- the rows that are put, by all products
pub puts_has : (product : Product) (from : ℕ) (old new : List Product) → Puts product from old new → HasWith (IsIn product) old new
puts_has product from old new puts row = (
  (λ h. elim (puts.only h.0 row h.1) [ inl was ↦ inl (h.0, was) | inr more ↦ inr more ]),
  (λ h. elim h [ inl was ↦ (was.0, puts.kept was.0 row was.1) | inr more ↦ puts.all row more ]),
)

-- a piece of a product, as far as it is on the stack
pub record IsPushed (place start left : ℕ) (old others : List ℕ) (at : ℕ) (now : List ℕ) : Type 0 where
  pub below : take (length old) now ≡ old
  pub long : length now ≡ length old + at
  pub before : (k number : ℕ) → k < at → k < place
      → Has (get_or now (length old + k) 0) number ↔ (Has (get_or old (start + k) 0) number × Has (get_or others k 0) number)
  pub here : place < at → get_or now (length old + place) 0 ≡ left
  pub behind : (k : ℕ) → k < at → place < k → get_or now (length old + k) 0 ≡ get_or old (start + k) 0

-- whether a set has a number
has_or_not : (set number : ℕ) → Has set number ⊎ ¬ Has set number
has_or_not set number = elim (cases_lt set (2 ^ 63)) [
  | inl low ↦ elim (cases_lt number 63) [
    | inl told ↦ elim (cases_eq (bit_at set number) 1) [
      | inl one ↦ inl ((by_bits set number low).1 (told, one))
      | inr other ↦ inr (λ h. other ((by_bits set number low).0 h).1)
    ]
    | inr beyond ↦ inr (λ h. absurd (let told : number < 63 = ((by_bits set number low).0 h).0 in omega (arith, told, beyond)))
  ]
  | inr high ↦ elim (cases_eq set (2 ^ 63 + number)) [
    | inl same ↦ inl ((has_alone set number high).1 same)
    | inr other ↦ inr (λ h. other ((has_alone set number high).0 h))
  ]
]

-- the row is one of the sets, and this is the first place at which its number is not one of the others
pub record Leaves (place : ℕ) (sets others row : List ℕ) : Type 0 where
  pub inside : AreIn sets row
  pub before : (k : ℕ) → k < place → Has (get_or others k 0) (get_or row k 0)
  pub here : ¬ Has (get_or others place 0) (get_or row place 0)

piece_leaves : (place : ℕ) (sets others piece row : List ℕ) → IsPiece place sets others piece → place < length sets → AreIn piece row
    → Leaves place sets others row
piece_leaves place sets others piece row is within h =
    let long = is.long in
    let rows = are_in_long piece row h in
    let at : (k : ℕ) → k < length sets → Has (get_or piece k 0) (get_or row k 0) = λ k lower. are_in_at piece row k (omega (arith, long, lower)) h in
    record {
      inside = are_in_from sets row (omega (arith, long, rows)) (λ k lower. elim (cases_order k place) [
        | inl same ↦ subst (λ i. Has (get_or sets i 0) (get_or row i 0)) (sym same) ((is.here (get_or row place 0)).0 (at place within)).0
        | inr other ↦ elim other [
          | inl less ↦ ((is.before k (get_or row k 0) less).0 (at k lower)).0
          | inr more ↦ subst (λ s. Has s (get_or row k 0)) (is.behind k more) (at k lower)
        ]
      ]);
      before = λ k less. ((is.before k (get_or row k 0) less).0 (at k (omega (arith, less, within)))).1;
      here = ((is.here (get_or row place 0)).0 (at place within)).1;
    }

leaves_piece : (place : ℕ) (sets others piece row : List ℕ) → IsPiece place sets others piece → place < length sets
    → Leaves place sets others row → AreIn piece row
leaves_piece place sets others piece row is within leaves =
    let long = is.long in
    let rows = are_in_long sets row leaves.inside in
    are_in_from piece row (omega (arith, long, rows)) (λ k lower.
    let has : Has (get_or sets k 0) (get_or row k 0) = are_in_at sets row k (omega (arith, long, lower)) leaves.inside in
    elim (cases_order k place) [
      | inl same ↦ subst (λ i. Has (get_or piece i 0) (get_or row i 0)) (sym same)
          ((is.here (get_or row place 0)).1 (subst (λ i. Has (get_or sets i 0) (get_or row i 0)) same has, leaves.here))
      | inr other ↦ elim other [
        | inl less ↦ (is.before k (get_or row k 0) less).1 (has, leaves.before k less)
        | inr more ↦ subst (λ s. Has s (get_or row k 0)) (sym (is.behind k more)) has
      ]
    ])

leaves_once : (i j : ℕ) (sets others row : List ℕ) → Leaves i sets others row → Leaves j sets others row → i ≡ j
leaves_once i j sets others row a b = elim (cases_order i j) [
  | inl same ↦ same
  | inr other ↦ elim other [
    | inl less ↦ absurd (a.here (b.before i less))
    | inr more ↦ absurd (b.here (a.before j more))
  ]
]

leaves_out : (place : ℕ) (sets others row : List ℕ) → place < length others → Leaves place sets others row → ¬ AreIn others row
leaves_out place sets others row within leaves h = leaves.here (are_in_at others row place within h)

-- up to a place the numbers of the row are in the others, or the row leaves them before
leaves_or_follows : (n : ℕ) (sets others row : List ℕ) → AreIn sets row
    → ((k : ℕ) → k < n → Has (get_or others k 0) (get_or row k 0)) ⊎ ((place : ℕ) × (place < n) × Leaves place sets others row)
leaves_or_follows zero sets others row h = inl (λ k none. absurd (omega (arith, none)))
leaves_or_follows (suc n) sets others row h = elim (leaves_or_follows n sets others row h) [
  | inl follows ↦ elim (has_or_not (get_or others n 0) (get_or row n 0)) [
    | inl has ↦ inl (λ k lower. elim (cases_eq k n) [
      | inl same ↦ subst (λ i. Has (get_or others i 0) (get_or row i 0)) (sym same) has
      | inr other ↦ follows k (omega (arith, lower, other))
    ])
    | inr not ↦ inr (n, omega arith, record { inside = h; before = follows; here = not })
  ]
  | inr leaves ↦ inr (leaves.0, (let lower = leaves.1 in omega (arith, lower)), leaves.2)
]

leaves_or_in : (sets others row : List ℕ) → length sets ≡ length others → AreIn sets row
    → AreIn others row ⊎ ((place : ℕ) × (place < length sets) × Leaves place sets others row)
leaves_or_in sets others row long h = elim (leaves_or_follows (length sets) sets others row h) [
  | inl follows ↦ inl (are_in_from others row (sym long ∙ are_in_long sets row h) (λ k lower. follows k (omega (arith, long, lower))))
  | inr leaves ↦ inr leaves
]

-- the row begins with the number, and leaves the others at this place or behind it
abbrev pub IsLeftFrom : ℕ → ℕ → List ℕ → List ℕ → List ℕ → Type 0
IsLeftFrom n first sets others [] = ⊥
IsLeftFrom n first sets others (number ∷ row) =
    (number ≡ first) × ((place : ℕ) × (n ≤ place) × (place < length sets) × Leaves place sets others row)

-- rows are with others, as `Puts` says it of a product
pub record Brings (P : List ℕ → Type 0) (added : List ℕ) (from : ℕ) (old new : List Product) : Type 0 where
  pub front : (at : ℕ) → at < from → at < length old → slice_get new at ≡ slice_get old at
  pub long : length old ≤ length new
  pub kept : (at : ℕ) (row : List ℕ) → IsInAt old at row → IsInAt new at row
  pub all : (row : List ℕ) → P row → IsInOne new row
  pub only : (at : ℕ) (row : List ℕ) → IsInAt new at row → IsInAt old at row ⊎ P row
  pub wider : (at : ℕ) (before after : Product) → slice_get old at ≡ Some before → slice_get new at ≡ Some after → Widens added before.1 after.1

brings_same : (P Q : List ℕ → Type 0) (added : List ℕ) (from : ℕ) (old new : List Product) → ((row : List ℕ) → P row → Q row)
    → ((row : List ℕ) → Q row → P row) → Brings P added from old new → Brings Q added from old new
brings_same P Q added from old new to back brings = record {
  front = brings.front;
  long = brings.long;
  kept = brings.kept;
  all = λ row h. brings.all row (back row h);
  only = λ at row h. elim (brings.only at row h) [ inl was ↦ inl was | inr more ↦ inr (to row more) ];
  wider = brings.wider;
}

-- one product more
brings_more : (P Q : List ℕ → Type 0) (added : List ℕ) (from : ℕ) (product : Product) (old middle new : List Product)
    → ((place number : ℕ) → Has (get_or product.1 place 0) number → Has (get_or added place 0) number)
    → ((row : List ℕ) → P row ⊎ IsIn product row → Q row) → ((row : List ℕ) → Q row → P row ⊎ IsIn product row)
    → Brings P added from old middle → Puts product from middle new → Brings Q added from old new
brings_more P Q added from product old middle new within to back brings puts =
    let longer = brings.long in
    let longest = puts.long in
    record {
      front = λ at before inner. puts.front at before (omega (arith, longer, inner)) ∙ brings.front at before inner;
      long = omega (arith, longer, longest);
      kept = λ at row h. puts.kept at row (brings.kept at row h);
      all = λ row h. elim (back row h) [
        | inl was ↦ let there = brings.all row was in (there.0, puts.kept there.0 row there.1)
        | inr more ↦ puts.all row more
      ];
      only = λ at row h. elim (puts.only at row h) [
        | inl middle_has ↦ elim (brings.only at row middle_has) [ inl was ↦ inl was | inr more ↦ inr (to row (inl more)) ]
        | inr more ↦ inr (to row (inr more))
      ];
      wider = λ at before after was is place number.
          let inner : at < length middle = (let lower = slice_get_within old at before was in omega (arith, longer, lower)) in
          let one = get_or middle at before in
          let there : slice_get middle at ≡ Some one = slice_get-get_or middle at before inner in
          let first = brings.wider at before one was there place number in
          let second = puts.wider at one after there is place number in (
            (λ h. second.0 (first.0 h)),
            (λ h. elim (second.1 h) [
              | inl middle_has ↦ first.1 middle_has
              | inr more ↦ inr (within place number more)
            ]),
          );
    }

-- the sets of the product at a place
abbrev pub sets_at : List Product → ℕ → List ℕ
sets_at products at = (get_or products at (0, [])).1

pub product_at : (products : List Product) (at first : ℕ) → at < length products
    → ((product : Product) → slice_get products at ≡ Some product → product.0 ≡ first)
    → slice_get products at ≡ Some (first, sets_at products at)
product_at products at first within same =
    let there = slice_get-get_or products at (0, []) within in
    there ∙ ap (λ n. Some (n, sets_at products at)) (same (get_or products at (0, [])) there)

-- the sets of the product at a place have up to the n-th the numbers of these
abbrev pub IsAlike : ℕ → ℕ → List ℕ → List Product → Type 0
IsAlike n at others products =
    (k number : ℕ) → k < n → Has (get_or (sets_at products at) k 0) number ↔ Has (get_or others k 0) number

-- no piece is left at this place
pub left_nothing : (place first from at left : ℕ) (sets others : List ℕ) (old middle : List Product)
    → Brings (IsLeftFrom (place + 1) first sets others) sets from old middle → IsAlike (place + 1) at others middle
    → ((number : ℕ) → Has left number ↔ (Has (get_or sets place 0) number × ¬ Has (get_or (sets_at middle at) place 0) number)) → left ≡ 0
    → Brings (IsLeftFrom place first sets others) sets from old middle
left_nothing place first from at left sets others old middle brings alike says none =
    brings_same (IsLeftFrom (place + 1) first sets others) (IsLeftFrom place first sets others) sets from old middle to back brings
  where
    to : (row : List ℕ) → IsLeftFrom (place + 1) first sets others row → IsLeftFrom place first sets others row
    to [] h = h
    to (number ∷ row) h = (h.0, (h.1.0, (let upto = h.1.1 in omega (arith, upto)), h.1.2, h.1.3))

    back : (row : List ℕ) → IsLeftFrom place first sets others row → IsLeftFrom (place + 1) first sets others row
    back [] h = h
    back (number ∷ row) h = elim (cases_eq h.1.0 place) [
      | inl same ↦
          let leaves : Leaves place sets others row = subst (λ i. Leaves i sets others row) same h.1.3 in
          let within : place < length sets = subst (λ i. i < length sets) same h.1.2 in
          absurd (has_nothing (get_or row place 0) (subst (λ s. Has s (get_or row place 0)) none
          ((says (get_or row place 0)).1 (
            are_in_at sets row place within leaves.inside,
            (λ has. leaves.here ((alike place (get_or row place 0) (omega arith)).0 has)),
          ))))
      | inr other ↦ (h.0, (h.1.0, (let upto = h.1.1 in omega (arith, upto, other)), h.1.2, h.1.3))
    ]

-- a piece of the changed product is a piece of the old one
piece_alike : (place at : ℕ) (sets others piece : List ℕ) (middle : List Product) → IsAlike (place + 1) at others middle
    → IsPiece place sets (sets_at middle at) piece → IsPiece place sets others piece
piece_alike place at sets others piece middle alike is = record {
  long = is.long;
  before = λ k number lower. (
    (λ h. (((is.before k number lower).0 h).0, (alike k number (omega (arith, lower))).0 ((is.before k number lower).0 h).1)),
    (λ h. (is.before k number lower).1 (h.0, (alike k number (omega (arith, lower))).1 h.1)),
  );
  here = λ number. (
    (λ h. (((is.here number).0 h).0, (λ has. ((is.here number).0 h).1 ((alike place number (omega arith)).1 has)))),
    (λ h. (is.here number).1 (h.0, (λ has. h.1 ((alike place number (omega arith)).0 has)))),
  );
  behind = is.behind;
}

-- the rows of a piece are rows of the product
piece_within : (place : ℕ) (sets others piece : List ℕ) → IsPiece place sets others piece → (k number : ℕ)
    → Has (get_or piece k 0) number → Has (get_or sets k 0) number
piece_within place sets others piece is k number h = elim (cases_order k place) [
  | inl same ↦ subst (λ i. Has (get_or sets i 0) number) (sym same) ((is.here number).0 (subst (λ i. Has (get_or piece i 0) number) same h)).0
  | inr other ↦ elim other [
    | inl less ↦ ((is.before k number less).0 h).0
    | inr more ↦ subst (λ s. Has s number) (is.behind k more) h
  ]
]

-- the rows of a piece stand before the product that it leaves
pub piece_apart : (place first from at : ℕ) (sets piece : List ℕ) (old middle : List Product)
    → Brings (IsLeftFrom (place + 1) first sets (sets_at old at)) sets from old middle → IsAlike (place + 1) at (sets_at old at) middle
    → IsPiece place sets (sets_at middle at) piece → place < length sets → length (sets_at old at) ≡ length sets
    → slice_get old at ≡ Some (first, sets_at old at)
    → ((i : ℕ) (row : List ℕ) → IsIn (first, sets) row → IsInAt old i row → i ≤ at)
    → (i : ℕ) (row : List ℕ) → IsIn (first, piece) row → IsInAt middle i row → i < at
piece_apart place first from at sets piece old middle brings alike is within long there apart i [] h stands = absurd h
piece_apart place first from at sets piece old middle brings alike is within long there apart i (number ∷ row) h stands =
    let others = sets_at old at in
    let leaves = piece_leaves place sets others piece row (piece_alike place at sets others piece middle alike is) within h.1 in
    elim (brings.only i (number ∷ row) stands) [
      | inl was ↦
          let upto = apart i (number ∷ row) (h.0, leaves.inside) was in
          elim (cases_eq i at) [
            | inl same ↦
                let product = same_Some was.0 (first, others) (sym was.1 ∙ ap (slice_get old) same ∙ there) in
                let inside : IsIn (first, others) (number ∷ row) = subst (λ (p : Product). IsIn p (number ∷ row)) product was.2 in
                absurd (leaves_out place sets others row (omega (arith, long, within)) leaves inside.1)
            | inr other ↦ omega (arith, upto, other)
          ]
      | inr more ↦
          let same = leaves_once place more.1.0 sets others row leaves more.1.3 in
          let beyond = more.1.1 in
          absurd (omega (arith, same, beyond))
    ]

-- the product at the place has got no number before that of the piece
pub piece_alike_after : (place first from at : ℕ) (sets others piece : List ℕ) (middle new : List Product)
    → IsAlike (place + 1) at others middle → IsPiece place sets (sets_at middle at) piece → at < length middle
    → Puts (first, piece) from middle new → IsAlike place at others new
piece_alike_after place first from at sets others piece middle new alike is within puts k number lower =
    let longer = puts.long in
    let before = slice_get-get_or middle at (0, []) within in
    let after = slice_get-get_or new at (0, []) (omega (arith, within, longer)) in
    let wide = puts.wider at (get_or middle at (0, [])) (get_or new at (0, [])) before after k number in
    let same = alike k number (omega (arith, lower)) in (
      (λ h. elim (wide.1 h) [
        | inl was ↦ same.0 was
        | inr more ↦ same.0 ((is.before k number lower).0 more).1
      ]),
      (λ h. wide.0 (same.1 h)),
    )

-- a piece is put
pub piece_put : (place first from at : ℕ) (sets others piece : List ℕ) (old middle new : List Product)
    → Brings (IsLeftFrom (place + 1) first sets others) sets from old middle → IsAlike (place + 1) at others middle
    → IsPiece place sets (sets_at middle at) piece → place < length sets → Puts (first, piece) from middle new
    → Brings (IsLeftFrom place first sets others) sets from old new
piece_put place first from at sets others piece old middle new brings alike is within puts =
    brings_more (IsLeftFrom (place + 1) first sets others) (IsLeftFrom place first sets others) sets from (first, piece) old middle new
    (piece_within place sets (sets_at middle at) piece is) to back brings puts
  where
    of_others : IsPiece place sets others piece
    of_others = piece_alike place at sets others piece middle alike is

    to : (row : List ℕ) → IsLeftFrom (place + 1) first sets others row ⊎ IsIn (first, piece) row → IsLeftFrom place first sets others row
    to [] h = elim h [ inl was ↦ was | inr more ↦ more ]
    to (number ∷ row) h = elim h [
      | inl was ↦ (was.0, (was.1.0, (let upto = was.1.1 in omega (arith, upto)), was.1.2, was.1.3))
      | inr more ↦ (more.0, (place, omega arith, within, piece_leaves place sets others piece row of_others within more.1))
    ]

    back : (row : List ℕ) → IsLeftFrom place first sets others row → IsLeftFrom (place + 1) first sets others row ⊎ IsIn (first, piece) row
    back [] h = inl h
    back (number ∷ row) h = elim (cases_eq h.1.0 place) [
      | inl same ↦ inr (h.0, leaves_piece place sets others piece row of_others within (subst (λ i. Leaves i sets others row) same h.1.3))
      | inr other ↦ inl (h.0, (h.1.0, (let upto = h.1.1 in omega (arith, upto, other)), h.1.2, h.1.3))
    ]

-- all pieces are put, or none
pub pieces_put : (first from at : ℕ) (sets others : List ℕ) (old new : List Product) → slice_get old at ≡ Some (first, others)
    → length sets ≡ length others → Brings (IsLeftFrom 0 first sets others) sets from old new → Puts (first, sets) from old new
pieces_put first from at sets others old new there long brings = record {
  front = brings.front;
  long = brings.long;
  kept = brings.kept;
  all = all;
  only = λ i row h. elim (brings.only i row h) [ inl was ↦ inl was | inr more ↦ inr (inside row more) ];
  wider = brings.wider;
}
  where
    all : (row : List ℕ) → IsIn (first, sets) row → IsInOne new row
    all [] h = absurd h
    all (number ∷ row) h = elim (leaves_or_in sets others row long h.1) [
      | inl has ↦ (at, brings.kept at (number ∷ row) ((first, others), there, (h.0, has)))
      | inr leaves ↦ brings.all (number ∷ row) (h.0, (leaves.0, omega arith, leaves.1, leaves.2))
    ]

    inside : (row : List ℕ) → IsLeftFrom 0 first sets others row → IsIn (first, sets) row
    inside [] h = h
    inside (number ∷ row) h = (h.0, h.1.3.inside)

-- a product whose rows are in the one at a place
pub inside_one : (first at : ℕ) (sets others : List ℕ) (products : List Product) → slice_get products at ≡ Some (first, others)
    → ((row : List ℕ) → AreIn sets row → AreIn others row) → (row : List ℕ) → IsIn (first, sets) row → IsInOne products row
inside_one first at sets others products there inside [] h = absurd h
inside_one first at sets others products there inside (number ∷ row) h = (at, ((first, others), there, (h.0, inside row h.1)))

-- or are not
pub apart_one : (first at : ℕ) (sets others : List ℕ) (products : List Product) → slice_get products at ≡ Some (first, others)
    → ((row : List ℕ) → AreIn sets row → ¬ AreIn others row) → (row : List ℕ) → IsIn (first, sets) row → ¬ IsInAt products at row
apart_one first at sets others products there apart [] h stands = absurd h
apart_one first at sets others products there apart (number ∷ row) h stands =
    let product = same_Some stands.0 (first, others) (sym stands.1 ∙ there) in
    let inside : IsIn (first, others) (number ∷ row) = subst (λ (p : Product). IsIn p (number ∷ row)) product stands.2 in
    apart row h.1 inside.1

pub other_first : (first at : ℕ) (sets : List ℕ) (products : List Product) (one : Product)
    → ((product : Product) → slice_get products at ≡ Some product → product ≡ one) → one.0 ≢ first
    → (row : List ℕ) → IsIn (first, sets) row → ¬ IsInAt products at row
other_first first at sets products one is other [] h stands = absurd h
other_first first at sets products one is other (number ∷ row) h stands =
    other (sym (ap (λ (p : Product). p.0) (is stands.0 stands.1)) ∙ sym stands.2.0 ∙ h.0)

-- no row of the product is in one more
pub passed : (at end first : ℕ) (sets : List ℕ) (products : List Product)
    → ((i : ℕ) (row : List ℕ) → at + 1 ≤ i → i < end → IsIn (first, sets) row → ¬ IsInAt products i row)
    → ((row : List ℕ) → IsIn (first, sets) row → ¬ IsInAt products at row)
    → (i : ℕ) (row : List ℕ) → at ≤ i → i < end → IsIn (first, sets) row → ¬ IsInAt products i row
passed at end first sets products before here i row upto lower h stands =
    elim (cases_eq i at) [
      | inl same ↦ here row h (subst (λ k. IsInAt products k row) same stands)
      | inr other ↦ before i row (omega (arith, upto, other)) lower h stands
    ]

-- the rest at the place, by the sets that were read
pub left_says : (start place at left index : ℕ) (items old sets : List ℕ) (products : List Product) → items ≡ old
    → index ≡ get_or items (start + place) index → start + place < length items → sets ≡ sets_at products at
    → ((n : ℕ) → Has left n ↔ (Has index n × ¬ Has (get_or sets place 0) n))
    → (n : ℕ) → Has left n ↔ (Has (get_or (drop start old) place 0) n × ¬ Has (get_or (sets_at products at) place 0) n)
left_says start place at left index items old sets products same read within others says n =
    let one : index ≡ get_or (drop start old) place 0 =
    get_or_read items (start + place) index within read 0 ∙ sym (get_or-drop start items place 0) ∙ ap (λ l. get_or (drop start l) place 0) same in
    subst (λ i. Has left n ↔ (Has i n × ¬ Has (get_or (sets_at products at) place 0) n)) one
    (subst (λ l. Has left n ↔ (Has index n × ¬ Has (get_or l place 0) n)) others (says n))

-- the piece on the stack, by the sets that were read
pub piece_is : (start place at top : ℕ) (items old sets new : List ℕ) (products : List Product) → items ≡ old → sets ≡ sets_at products at
    → top ≡ length items → IsPiece place (drop start items) sets (drop (length items) new)
    → IsPiece place (drop start old) (sets_at products at) (drop top new)
piece_is start place at top items old sets new products same others height is =
    subst (λ l. IsPiece place (drop start l) (sets_at products at) (drop top new)) same
    (subst (λ l. IsPiece place (drop start items) l (drop top new)) others
    (subst (λ n. IsPiece place (drop start items) sets (drop n new)) (sym height) is))
