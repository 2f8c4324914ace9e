-- values that wait, without one, and cut at a moment
use Rattle.std.proofs.Common.{◌≡◌, ◌≢◌, ℕ, zero, suc, ◌+◌, ◌<◌, ◌≤◌, ℤ, ⊎_elim, Option, Some, None, List, [], ◌∷◌, ◌++◌, length, take, drop, get_or, refl, sym, ap, ◌∙◌, subst, arith}
use Rattle.std.specs.List.{Contains}
use Rattle.std.proofs.lemmas.Bool.{cases_lt}
use Rattle.std.proofs.lemmas.List.{take-append-drop, drop_all}
use Rattle.std.proofs.lemmas.List.Elements.{Contains-append_left, Contains-append_right, Contains-append_cases}
use Rattle.events.specs.Events.{Mark}
use Rattle.linspec.specs.Orders.{Pairwise}
use Rattle.linspec.proofs.Lists.{Contains-nil, Contains-head, Pairwise-append, Pairwise-left, Pairwise-right, Pairwise-across}
use Rattle.wide_fifo_queue.specs.declared.known.Waiting.{Waiting}
use Rattle.wide_fifo_queue.specs.declared.known.Owed.{Owed}
use Rattle.wide_fifo_queue.specs.Facts.{Waits, Facts, AreFacts}
use Rattle.wide_fifo_queue.specs.Queries.{IsDueOf, IsWaitingBut}
use Rattle.wide_fifo_queue.proofs.Dequeuing.{IsSooner, waits_once, apart}
use Rattle.wide_fifo_queue.proofs.Places.{in_take, in_drop, in_either, from_it, it_or_behind, it_is_in, behind_in}

some_in : (ys : List Waiting) (n : ℕ) → n < length ys → (x : Waiting) × (x ≡ get_or ys n x)
some_in [] n l = absurd (omega arith)
some_in (y ∷ ys) zero l = (y, refl)
some_in (y ∷ ys) (suc n) l = some_in ys n (omega arith)

module _ (f : Facts) (ms : List Mark) (facts : AreFacts f ms) (v : ℤ) where
  -- the values that wait but this one
  pub record IsBut (others : List Waiting) : Type 0 where
    pub are : (w : Waiting) → Contains others w → Contains f.waiting w × (w.value ≢ v)
    pub all : (w : Waiting) → Contains f.waiting w → w.value ≢ v → Contains others w
    pub in_order : Pairwise IsSooner others

  -- one value waits once
  waits_in_one_place : (w x : Waiting) → Contains f.waiting w → Contains f.waiting x → w.value ≡ x.value → w.by ≡ x.by
  waits_in_one_place w x h k e = waits_once f ms facts x.value w.by x.by (subst (λ u. Waits f.entered ms u w.by) e (facts.waiting.is w h)) (facts.waiting.is x k)

  without_it : (at : ℕ) → at < length f.waiting → ((w : Waiting) → w ≡ get_or f.waiting at w → w.value ≡ v) → IsBut (take at f.waiting ++ drop (at + 1) f.waiting)
  without_it at lt is =
      let x = some_in f.waiting at lt in
      let value : x.0.value ≡ v = is x.0 x.1 in
      let here : Contains f.waiting x.0 = it_is_in f.waiting at x.0 lt x.1 in
      let whole : Pairwise IsSooner (take at f.waiting ++ drop at f.waiting) = subst (Pairwise IsSooner) (sym (take-append-drop at f.waiting)) facts.waiting.in_order in
      let right : Pairwise IsSooner (x.0 ∷ drop (at + 1) f.waiting) = subst (Pairwise IsSooner) (from_it f.waiting at x.0 lt x.1) (Pairwise-right IsSooner (take at f.waiting) (drop at f.waiting) whole) in
      record {
        are = λ w h. ⊎_elim
            (λ i.
            let k = in_take f.waiting at w i in (
              k,
              λ q.
                  let sooner : w.by < x.0.by = Pairwise-across IsSooner (take at f.waiting) (drop at f.waiting) whole w x.0 i (it_is_first at lt x.0 x.1) in
                  let same : w.by ≡ x.0.by = waits_in_one_place w x.0 k here (q ∙ sym value) in
                  absurd (omega arith),
            ))
            (λ i.
            let k = in_drop f.waiting (at + 1) w i in (
              k,
              λ q.
                  let sooner : x.0.by < w.by = right.0 w i in
                  let same : w.by ≡ x.0.by = waits_in_one_place w x.0 k here (q ∙ sym value) in
                  absurd (omega arith),
            ))
            (Contains-append_cases (take at f.waiting) (drop (at + 1) f.waiting) w h);
        all = λ w h ne. ⊎_elim
            (λ i. Contains-append_left (take at f.waiting) (drop (at + 1) f.waiting) w i)
            (λ i. ⊎_elim
            (λ (r : x.0 ≡ w). absurd (ne (ap (λ (y : Waiting). y.value) (sym r) ∙ value)))
            (λ j. Contains-append_right (take at f.waiting) (drop (at + 1) f.waiting) w j)
            (it_or_behind f.waiting at x.0 lt x.1 w i))
            (in_either f.waiting at w h);
        in_order = Pairwise-append IsSooner (take at f.waiting) (drop (at + 1) f.waiting)
            (Pairwise-left IsSooner (take at f.waiting) (drop at f.waiting) whole)
            right.1
            (λ w y h k. Pairwise-across IsSooner (take at f.waiting) (drop at f.waiting) whole w y h (behind_in f.waiting at x.0 lt x.1 y k));
      }
    where
      it_is_first : (at : ℕ) (lt : at < length f.waiting) (x : Waiting) (is : x ≡ get_or f.waiting at x) → Contains (drop at f.waiting) x
      it_is_first at lt x is = subst (λ l. Contains l x) (sym (from_it f.waiting at x lt is)) (Contains-head x (drop (at + 1) f.waiting))

  pub but_of : (due : Option Owed) → IsDueOf f.owed v due → (others : List Waiting) → IsWaitingBut f.waiting v due others → IsBut others
  but_of None none others is = ⊎_elim
      (λ s. subst IsBut (sym (s.3 ∙ ap (λ n. take s.0 f.waiting ++ drop n f.waiting) (let q : suc s.0 ≡ s.0 + 1 = omega arith in q))) (without_it s.0 s.1 s.2))
      (λ s. subst IsBut (sym s.0) (record { are = λ w h. (h, s.1 w h); all = λ w h ne. h; in_order = facts.waiting.in_order }))
      is
  but_of (Some o) due others is = subst IsBut (sym is) (record {
    are = λ w h. (h, λ q. apart f ms facts w o h due.0 (due.1 ∙ sym q));
    all = λ w h ne. h;
    in_order = facts.waiting.in_order;
  })

-- those at a place and behind it came in no earlier than this moment
pub no_earlier : (others : List Waiting) (many since : ℕ) → Pairwise IsSooner others → (many < length others → (w : Waiting) → w ≡ get_or others many w → since ≤ w.by) → (w : Waiting) → Contains (drop many others) w → since ≤ w.by
no_earlier others many since turn first w h = ⊎_elim
    (λ lt.
    let x = some_in others many lt in
    let le : since ≤ x.0.by = first lt x.0 x.1 in
    let right : Pairwise IsSooner (x.0 ∷ drop (many + 1) others) = subst (Pairwise IsSooner) (from_it others many x.0 lt x.1) (Pairwise-right IsSooner (take many others) (drop many others) (subst (Pairwise IsSooner) (sym (take-append-drop many others)) turn)) in
    ⊎_elim
    (λ (r : x.0 ≡ w). subst (λ (y : Waiting). since ≤ y.by) r le)
    (λ j. (let sooner : x.0.by < w.by = right.0 w j in omega arith))
    (it_or_behind others many x.0 lt x.1 w h))
    (λ ge. absurd (Contains-nil w (subst (λ l. Contains l w) (drop_all many others ge) h)))
    (cases_lt many (length others))
