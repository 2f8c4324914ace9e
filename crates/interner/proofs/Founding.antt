-- the answer, by its number
use Rattle.std.proofs.Common.{◌≡◌, ◌≢◌, ◌+◌, ℕ, ⊎_elim, Bool, true, false, cond, Some, None, List, [], ◌∷◌, ◌++◌, length, slice_get, refl, sym, ap, ◌∙◌}
use Rattle.std.specs.BTreeMap.{BTreeMap, get}
use Rattle.std.specs.Ordering.{is_eq}
use Rattle.std.specs.Cmp.Lexicographic.{pointwise_decides}
use Rattle.std.proofs.lemmas.Bool.Decides.{Decides-int_eq}
use Rattle.values.specs.Comparisons.{ints_eq-exact, ints_tie}
use Rattle.models.specs.declared.finding.Found.{Found}
use Rattle.models.specs.declared.finding.Found.TheVariants.{Reg as Register, Item as Front, Elements as Set}
use Rattle.interner.specs.declared.found_key.FoundKey.{FoundKey}
use Rattle.interner.specs.declared.found_key.FoundKey.TheVariants.{Unit, Reg, Item, Elements}
use Rattle.interner.specs.contracts.found_key.FoundKeyOrd.TheImpl.{cmp-value}
use Rattle.interner.specs.FoundKeys.{found_of}
use Rattle.interner.specs.Founds.{AreSlots}
use Rattle.interner.proofs.Lists.{clash, get_last, get_left, get_push, one_of}

-- equal keys are of the same
equal : (a b : FoundKey) → is_eq (cmp-value.it a b) ≡ true → found_of a ≡ found_of b
equal Unit Unit e = refl
equal (Reg None) (Reg None) e = refl
equal (Reg None) (Reg (Some y)) e = absurd (cc e)
equal (Reg (Some x)) (Reg None) e = absurd (cc e)
equal (Reg (Some x)) (Reg (Some y)) e = ap (λ n. Register (Some n)) ((Decides-int_eq x y).0 e)
equal (Item x) (Item y) e = ap Front ((Decides-int_eq x y).0 e)
equal (Elements x) (Elements y) e = ap Set (ints_eq-exact x y (ints_tie x y ∙ e))
equal _ _ e = absurd (cc e)

-- and the other way round
ties : (a b : FoundKey) → found_of a ≡ found_of b → is_eq (cmp-value.it a b) ≡ true
ties Unit Unit e = refl
ties (Reg None) (Reg None) e = refl
ties (Reg None) (Reg (Some y)) e = absurd cc
ties (Reg (Some x)) (Reg None) e = absurd cc
ties (Reg (Some x)) (Reg (Some y)) e = let same : x ≡ y = cc in (Decides-int_eq x y).1 same
ties (Item x) (Item y) e = let same : x ≡ y = cc in (Decides-int_eq x y).1 same
ties (Elements x) (Elements y) e = let same : x ≡ y = cc in sym (ints_tie x y) ∙ (pointwise_decides Decides-int_eq x y).1 same
ties _ _ e = absurd cc

module _ (slots : BTreeMap FoundKey ℕ) (founds : List Found) (are : AreSlots slots founds) where
  -- one more behind them
  pub slots_with : (new : BTreeMap FoundKey ℕ) (now : List Found) (key : FoundKey) (slot : ℕ) → slot ≡ length founds + 1 → ((q : FoundKey) → get cmp-value.it new q ≡ cond (is_eq (cmp-value.it key q)) (Some slot) (get cmp-value.it slots q)) → now ≡ founds ++ found_of key ∷ [] → AreSlots new now
  slots_with new now key slot long updates push = record {
    has = λ n q le h e.
        ⊎_elim
        (λ p. has_by q (are.has n q le p) (is_eq (cmp-value.it key q)) refl e)
        (λ p. clash slot _ e (updates q ∙ ap (λ b. cond b (Some slot) (get cmp-value.it slots q)) (ties key q p.1)))
        (get_push founds (found_of key) n (found_of q) (sym (ap (λ l. slice_get l n) push) ∙ h));
    stands = λ q n h. stands_by q n h (is_eq (cmp-value.it key q)) refl;
  }
    where
      has_by : (q : FoundKey) → get cmp-value.it slots q ≢ None → (b : Bool) → is_eq (cmp-value.it key q) ≡ b → get cmp-value.it new q ≢ None
      has_by q old true e none = clash slot _ none (updates q ∙ ap (λ b. cond b (Some slot) (get cmp-value.it slots q)) e)
      has_by q old false e none = old (sym (updates q ∙ ap (λ b. cond b (Some slot) (get cmp-value.it slots q)) e) ∙ none)

      stands_by : (q : FoundKey) (n : ℕ) → get cmp-value.it new q ≡ Some n → (b : Bool) → is_eq (cmp-value.it key q) ≡ b → (at : ℕ) × (n ≡ at + 1) × (slice_get now at ≡ Some (found_of q))
      stands_by q n h true e =
          let is : slot ≡ n = one_of slot n (sym (updates q ∙ ap (λ b. cond b (Some slot) (get cmp-value.it slots q)) e) ∙ h) in
          (length founds, sym is ∙ long, ap (λ l. slice_get l (length founds)) push ∙ get_last founds (found_of key) ∙ ap Some (equal key q e))
      stands_by q n h false e =
          let s = are.stands q n (sym (updates q ∙ ap (λ b. cond b (Some slot) (get cmp-value.it slots q)) e) ∙ h) in
          (s.0, s.1, ap (λ l. slice_get l s.0) push ∙ get_left founds (found_of key ∷ []) s.0 (found_of q) s.2)
