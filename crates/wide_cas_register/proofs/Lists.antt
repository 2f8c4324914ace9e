-- lists that were filtered, and values that were put
use Rattle.std.proofs.Common.{◌≡◌, ⊎_elim, Bool, true, cond, List, [], ◌∷◌, sym, subst}
use Rattle.std.specs.List.{AllZip, Contains, filter}
use Rattle.std.proofs.lemmas.List.Elements.{Contains-append_right, All-contains, All-filter, All-contains_itself, filter_passes, filter-append}
use Rattle.linspec.proofs.Lists.{Contains-nil, Contains-head, Contains-tail, Contains-cons_cases, cut_at}

module _ {X : Type 0} (p : X → Bool) (xs : List X) where
  pub was_in : (x : X) → Contains (filter p xs) x → Contains xs x
  was_in x h = All-contains (Contains xs) (filter p xs) x (All-filter p (Contains xs) xs (All-contains_itself xs)) h

  pub passes : (x : X) → Contains (filter p xs) x → p x ≡ true
  passes x h = All-contains (λ y. p y ≡ true) (filter p xs) x (filter_passes p xs) h

  pub stays_in : (x : X) → Contains xs x → p x ≡ true → Contains (filter p xs) x
  stays_in x h e =
      let c = cut_at xs x h in
      let here : Contains (cond (p x) (x ∷ filter p c.1) (filter p c.1)) x = subst (λ b. Contains (cond b (x ∷ filter p c.1) (filter p c.1)) x) (sym e) (Contains-head x (filter p c.1)) in
      subst (λ l. Contains (filter p l) x) (sym c.2)
      (subst (λ l. Contains l x) (sym (filter-append p c.0 (x ∷ c.1))) (Contains-append_right (filter p c.0) (filter p (x ∷ c.1)) x here))

-- each of the second list is that of one of the first
pub zip_from : {X Y : Type 0} (R : X → Y → Type 0) (xs : List X) (ys : List Y) → AllZip R xs ys → (y : Y) → Contains ys y → (x : X) × Contains xs x × R x y
zip_from R [] [] z y h = absurd (Contains-nil y h)
zip_from R [] (b ∷ ys) z y h = absurd z
zip_from R (a ∷ xs) [] z y h = absurd z
zip_from R (a ∷ xs) (b ∷ ys) z y h = ⊎_elim
    (λ e. (a, Contains-head a xs, subst (R a) e z.0))
    (λ k. (let r = zip_from R xs ys z.1 y k in (r.0, Contains-tail a xs r.0 r.1, r.2)))
    (Contains-cons_cases b ys y h)
