-- a key's state is saved after each 64th event that others follow
use Rattle.std.proofs.Common.{◌≡◌, ℕ, ◌+◌, ◌-◌, ◌*◌, ◌/◌, ◌<◌, ◌≤◌, ⊎_elim, Result, Ok, Err, OnOk, List, [], ◌∷◌, ◌++◌, length, take, drop, slice_index_or, sym, ap, ◌∙◌, subst, arith, length-append}
use Rattle.std.proofs.lemmas.Bool.{cases_lt}
use Rattle.std.proofs.lemmas.List.{take_all, take-take, take-append-le, length-take, length-take-le, get_or-take, get_or_append_left, take-append-drop}
use Rattle.std.proofs.Math.Seq.{get_or-append_seam}
use Rattle.std.proofs.lemmas.Slice.{between_is}
use Rattle.std.specs.List.{between}
use Rattle.kinds.specs.declared.model_kind.ModelKind.{ModelKind}
use Rattle.events.specs.declared.event.Event.{Event}
use Rattle.checkpoints.specs.declared.key_state.KeyState.{KeyState}
use Rattle.checkpoints.specs.KeyState.{IsKeyState}
use Rattle.checkpoints.specs.Saved.{AreSaved}

-- a fact about any result holds for a good one
pub always : {T E P : Type 0} (result : Result T E) → P → OnOk result P
always (Ok x) p = p
always (Err e) p = tt

module _ (kind : ModelKind) (budget : ℕ) where
  pub AreSaved-none : AreSaved kind budget [] []
  AreSaved-none = record { within = omega arith; all = omega arith; each = λ i d lt. absurd (omega arith) }

  module _ (events : List (ℕ × Event)) (saved : List KeyState) (are : AreSaved kind budget events saved) where
    -- they are enough with one more event, where the last 64th one is among them
    pub AreSaved-with : (x : ℕ × Event) → length events / 64 ≤ length saved → AreSaved kind budget (events ++ x ∷ []) saved
    AreSaved-with x enough =
        let within : 64 * length saved ≤ length events = are.within in
        let more : length (events ++ x ∷ []) ≡ length events + 1 = length-append events (x ∷ []) in
        record {
          within = omega arith;
          all = omega arith;
          each = λ i d lt. subst (λ l. IsKeyState kind budget l (slice_index_or saved i d)) (sym (take-append-le (64 * (i + 1)) events (x ∷ []) (omega arith))) (are.each i d lt);
        }

    -- the state is saved that the key has after a 64th event
    pub AreSaved-more : (state : KeyState) → length saved < length events / 64 → IsKeyState kind budget events state → AreSaved kind budget events (saved ++ state ∷ [])
    AreSaved-more state due stands =
        let all : length events ≤ 64 * length saved + 64 = are.all in
        let more : length (saved ++ state ∷ []) ≡ length saved + 1 = length-append saved (state ∷ []) in
        record { within = omega arith; all = omega arith; each = at_each }
      where
        at_each : (i : ℕ) (d : KeyState) → i < length (saved ++ state ∷ []) → IsKeyState kind budget (take (64 * (i + 1)) events) (slice_index_or (saved ++ state ∷ []) i d)
        at_each i d lt =
            let all : length events ≤ 64 * length saved + 64 = are.all in
            let more : length (saved ++ state ∷ []) ≡ length saved + 1 = length-append saved (state ∷ []) in
            ⊎_elim
            (λ (before : i < length saved).
            subst (IsKeyState kind budget (take (64 * (i + 1)) events)) (sym (get_or_append_left saved (state ∷ []) d i before)) (are.each i d before))
            (λ (le : length saved ≤ i).
            (let last : length saved ≡ i = omega arith in
            subst (IsKeyState kind budget (take (64 * (i + 1)) events)) (sym (ap (λ j. slice_index_or (saved ++ state ∷ []) j d) (sym last) ∙ get_or-append_seam saved state [] d))
            (subst (λ l. IsKeyState kind budget l state) (sym (take_all (64 * (i + 1)) events (omega arith))) stands)))
            (cases_lt i (length saved))

    -- the state that was saved as this one
    pub saved_state : (count : ℕ) → 0 < count → count ≤ length saved → (d : KeyState) → d ≡ slice_index_or saved (count - 1) d → IsKeyState kind budget (take (64 * count) events) d
    saved_state count some le d is =
        let more : 64 * (count - 1 + 1) ≡ 64 * count = omega arith in
        subst (IsKeyState kind budget (take (64 * count) events)) (sym is)
        (subst (λ n. IsKeyState kind budget (take n events) (slice_index_or saved (count - 1) d)) more (are.each (count - 1) d (omega arith)))

    -- the saved states of the first k events
    pub AreSaved-take : (k : ℕ) → k ≤ length events → AreSaved kind budget (take k events) (take (k / 64) saved)
    AreSaved-take k le =
        let within : 64 * length saved ≤ length events = are.within in
        let all : length events ≤ 64 * length saved + 64 = are.all in
        let taken : length (take k events) ≡ k = length-take-le k events le in
        let few = length-take (k / 64) saved in
        record {
          within = omega (arith, few);
          all = omega (arith, few);
          each = λ i d lt. subst (IsKeyState kind budget (take (64 * (i + 1)) (take k events))) (sym (get_or-take (k / 64) saved i d (omega (arith, few))))
              (subst (λ l. IsKeyState kind budget l (slice_index_or saved i d)) (sym (take-take (64 * (i + 1)) k events (omega (arith, few)))) (are.each i d (omega (arith, few))));
        }

-- the first events of a part, and the rest of it
pub parts : {X : Type 0} (xs : List X) (from to : ℕ) → from ≤ to → take from xs ++ between from to xs ≡ take to xs
parts xs from to le =
    ap (λ l. take from xs ++ l) (between_is xs from to)
    ∙ ap (λ l. l ++ drop from (take to xs)) (sym (take-take from to xs le))
    ∙ take-append-drop from (take to xs)
