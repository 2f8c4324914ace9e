-- the rows that an ok makes of a row, as they are put one after the other
use Rattle.std.proofs.Common.{◌≡◌, ℕ, ◌+◌, ◌<◌, ◌≤◌, ℤ, ◌⊎◌, inl, inr, ⊎_elim, Some, List, [], ◌∷◌, length, take, get_or, sym, subst}
use Rattle.std.specs.List.{Contains}
use Rattle.std.proofs.lemmas.List.{take_all, take_more}
use Rattle.std.proofs.lemmas.List.Elements.{Contains-append_left, Contains-push, Contains-push_cases}
use Rattle.linspec.proofs.Lists.{Contains-nil, Contains-head}
use Rattle.wide_register.specs.declared.calls.Call.{Call}
use Rattle.wide_register.specs.declared.row.Row.{Row}
use Rattle.wide_register.specs.Facts.{Has, HasDoor, HasPuts, HasWritten, IsFree, IsPut, IsPutOf, IsWritten}

-- a row alone
module _ (P : Row → Type 0) (made : List Row) (r : Row) (e : made ≡ r ∷ []) (is : P r) where
  pub has_alone : Has made P
  has_alone = (r, subst (λ l. Contains l r) (sym e) (Contains-head r []), is)

pub has_still : (P : Row → Type 0) (old made : List Row) → ((new : Row) → Contains old new → Contains made new) → Has old P → Has made P
has_still P old made to h = (h.0, to h.0 h.1, h.2)

module _ (now : ℕ) (row : Row) where
  -- all of these rows were there, or are so
  abbrev pub EachPut : List Row → ℕ → ℤ → ℕ → Type 0 → List Row → Type 0
  EachPut old write v out may made = (new : Row) → Contains made new
      → Contains old new ⊎ IsPut write row.state now (Some v) out row new ⊎ (may × IsPut write (Some v) row.door row.state out row new)

  pub each_put : (old made : List Row) (w : Call) (v : ℤ) (out : ℕ) (may before : Type 0) → (may → before) → EachPut old w.id v out may made
      → (new : Row) → Contains made new → Contains old new ⊎ IsPutOf now w v out before row new
  each_put old made w v out may before to each new h = ⊎_elim inl (λ k. inr (⊎_elim inl (λ b. inr (to b.0, b.1)) k)) (each new h)

  pub has_puts : (made : List Row) (w : Call) (v : ℤ) (out : ℕ) (may before : Type 0) → (before → may) → Has made (IsPut w.id row.state now (Some v) out row)
      → (may → Has made (IsPut w.id (Some v) row.door row.state out row)) → HasPuts now w v out before row made
  has_puts made w v out may before to behind there = (behind, λ b. there (to b))

  puts_still : (old made : List Row) (w : Call) (v : ℤ) (out : ℕ) (before : Type 0) → ((new : Row) → Contains old new → Contains made new)
      → HasPuts now w v out before row old → HasPuts now w v out before row made
  puts_still old made w v out before to h =
      (has_still (IsPut w.id row.state now (Some v) out row) old made to h.0, λ b. has_still (IsPut w.id (Some v) row.door row.state out row) old made to (h.1 b))

  -- the write takes place now
  module _ (w : Call) (v : ℤ) (free : ¬ Contains row.needed.items w.id) (may : Type 0) (to : may → HasDoor row w) (from : HasDoor row w → may) (old made : List Row) (none : old ≡ []) where
    pub write_each : EachPut old w.id v w.id may made → (x : Row) → Contains made x → IsWritten now w v row x
    write_each put x h = ⊎_elim (λ k. absurd (Contains-nil x (subst (λ l. Contains l x) none k))) (λ p. inr (free, p)) (each_put old made w v w.id may (HasDoor row w) to put x h)

    pub write_all : Has made (IsPut w.id row.state now (Some v) w.id row) → (may → Has made (IsPut w.id (Some v) row.door row.state w.id row)) → HasWritten now w v row made
    write_all behind there = ((λ n. absurd (free n)), (λ n. has_puts made w v w.id may (HasDoor row w) from behind there))

module _ (calls : List Call) (now : ℕ) (row : Row) where
  -- the ok of a read, after n operations were tried
  module _ (r : Call) (v : ℤ) where
    abbrev pub Doors : Call → Type 0
    Doors c = HasDoor row r × HasDoor row c

    abbrev pub IsTried : ℕ → Row → Type 0
    IsTried i new = (c : Call) × Contains (take i calls) c × IsFree row v c × IsPutOf now c v r.id (Doors c) row new

    abbrev pub EachTried : ℕ → List Row → Type 0
    EachTried i made = (new : Row) → Contains made new → IsTried i new

    abbrev pub AllTried : ℕ → List Row → Type 0
    AllTried i made = (c : Call) → Contains (take i calls) c → IsFree row v c → HasPuts now c v r.id (Doors c) row made

    module _ (i : ℕ) (d : Call) (more : i < length calls) (made : List Row) (each : EachTried i made) (all : AllTried i made) where
      abbrev c : Call
      c = get_or calls i d

      split : (x : Call) → Contains (take (i + 1) calls) x → Contains (take i calls) x ⊎ (c ≡ x)
      split x h = Contains-push_cases (take i calls) c x (subst (λ l. Contains l x) (take_more calls i d more) h)

      here : Contains (take (i + 1) calls) c
      here = subst (λ l. Contains l c) (sym (take_more calls i d more)) (Contains-push (take i calls) c)

      before : (x : Call) → Contains (take i calls) x → Contains (take (i + 1) calls) x
      before x h = subst (λ l. Contains l x) (sym (take_more calls i d more)) (Contains-append_left (take i calls) (c ∷ []) x h)

      still : (new : Row) → Contains made new → IsTried (i + 1) new
      still new h = let k = each new h in (k.0, before k.0 k.1, k.2, k.3)

      -- it is not free
      pub passed_each : EachTried (i + 1) made
      passed_each = still

      pub passed_all : ¬ IsFree row v c → AllTried (i + 1) made
      passed_all n x h f = ⊎_elim (λ k. all x k f) (λ e. absurd (n (subst (IsFree row v) (sym e) f))) (split x h)

      -- it is free
      module _ (free : IsFree row v c) (may : Type 0) (to : may → Doors c) (from : Doors c → may) (next : List Row) where
        pub tried_each : EachPut now row made c.id v r.id may next → EachTried (i + 1) next
        tried_each put new h = ⊎_elim (still new) (λ p. (c, here, free, p)) (each_put now row made next c v r.id may (Doors c) to put new h)

        pub tried_all : ((new : Row) → Contains made new → Contains next new) → Has next (IsPut c.id row.state now (Some v) r.id row)
            → (may → Has next (IsPut c.id (Some v) row.door row.state r.id row)) → AllTried (i + 1) next
        tried_all keep behind there x h f = ⊎_elim
            (λ k. puts_still now row made next x v r.id (Doors x) keep (all x k f))
            (λ e. subst (λ y. HasPuts now y v r.id (Doors y) row next) e (has_puts now row next c v r.id may (Doors c) from behind there))
            (split x h)

    abbrev pub EachRead : List Row → Type 0
    EachRead made = (new : Row) → Contains made new → (c : Call) × Contains calls c × IsFree row v c × IsPutOf now c v r.id (Doors c) row new

    abbrev pub AllRead : List Row → Type 0
    AllRead made = (c : Call) → Contains calls c → IsFree row v c → HasPuts now c v r.id (Doors c) row made

    -- all were tried
    module _ (i : ℕ) (most : length calls ≤ i) (made : List Row) where
      whole : take i calls ≡ calls
      whole = take_all i calls most

      pub all_tried_each : EachTried i made → EachRead made
      all_tried_each each new h = let k = each new h in (k.0, subst (λ l. Contains l k.0) whole k.1, k.2, k.3)

      pub all_tried_all : AllTried i made → AllRead made
      all_tried_all all c h f = all c (subst (λ l. Contains l c) (sym whole) h) f
