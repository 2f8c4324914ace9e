-- the facts after each event
use Rattle.std.proofs.Common.{◌≡◌, ℕ, ◌+◌, ◌<◌, ℤ, ◌⊎◌, inl, inr, ⊎_elim, List, [], ◌∷◌, ◌++◌, length, refl, sym, ◌∙◌, subst, arith, length-append}
use Rattle.std.specs.List.{Contains}
use Rattle.std.proofs.lemmas.List.Elements.{Contains-append_left, Contains-push_cases}
use Rattle.models.specs.declared.operation.Op.{Op}
use Rattle.events.specs.Events.{Mark}
use Rattle.events.specs.Events.Mark.{Invoked, Failed, Crashed}
use Rattle.linspec.specs.Operations.{IsInvoked, IsOpen}
use Rattle.linspec.specs.MarkRule.{AreWellFormed}
use Rattle.linspec.proofs.Lists.{cut_at}
use Rattle.set_chains.specs.Chains.{IsAddOf, IsChained}
use Rattle.set_chains.proofs.Once.{returned_invoked}
use Rattle.set_chains.proofs.Quiet.{quiet}
use Rattle.wide_set.specs.declared.known.Pending.{Pending}
use Rattle.wide_set.specs.Facts.{CannotFail, Facts, AreFacts, IsBase, call_by, with_invoked, without}
use Rattle.wide_set.proofs.Carrying.{add_was, logged_carried, answers_carried, pending_without, still_based, pending_with}
use Rattle.wide_set.proofs.Moments.{stands_below}

pub one_more : (ms : List Mark) (m : Mark) (now : ℕ) → now ≡ length ms → now + 1 ≡ length (ms ++ m ∷ [])
one_more ms m now e = let a : length (ms ++ m ∷ []) ≡ length ms + 1 = length-append ms (m ∷ []) in omega arith

crashed_invoked : (ms : List Mark) → AreWellFormed ms → (id : ℕ) → Contains ms (Crashed id) → IsInvoked ms id
crashed_invoked ms well id h =
    let c = cut_at ms (Crashed id) h in
    let is : IsOpen c.0 id = well c.0 c.1 (Crashed id) (sym c.2) in
    (is.invoked.0, subst (λ l. Contains l (Invoked id is.invoked.0)) (sym c.2) (Contains-append_left c.0 (Crashed id ∷ c.1) _ is.invoked.1))

pub settled_invoked : (ms : List Mark) → AreWellFormed ms → (id : ℕ) → CannotFail ms id → IsInvoked ms id
settled_invoked ms well id c = ⊎_elim (λ r. returned_invoked ms well id r.0 r.1) (λ k. crashed_invoked ms well id k) c

module _ (f : Facts) (ms : List Mark) (facts : AreFacts f ms) where
  module _ (id : ℕ) (op : Op) (well : AreWellFormed (ms ++ Invoked id op ∷ [])) where
    pub after_invoke : (p : Pending) → p.id ≡ id → p.since ≡ f.now → call_by op.name op.part ≡ p.call → AreFacts (with_invoked p f) (ms ++ Invoked id op ∷ [])
    after_invoke p e g h = record {
      well = well;
      chained = (quiet ms (Invoked id op) well (λ n a q. cc) (λ n q. cc)).1 facts.chained;
      now = one_more ms (Invoked id op) f.now facts.now;
      pending = pending_with ms id op (well ms [] (Invoked id op) refl) f.pending p e (g ∙ facts.now) h facts.pending;
      logged = logged_carried ms (Invoked id op) well f.log f.base (λ i v a out c. (let k = was i c in (settled_invoked ms facts.well i k, k))) (λ i v answer a out q. cc) facts.logged;
      answers = answers_carried ms (Invoked id op) well f.base f.answers f.answers (λ a k. k) (λ a k. inl k) (λ i n members r q. absurd (cc q)) facts.answers;
      nested = facts.nested;
      based = based;
    }
      where
        based : (v : ℤ) → Contains f.base v → IsBase (with_invoked p f)
        based v k =
            let b = facts.based v k in
            let lt : b.0.by < length ms = stands_below ms b.0.by _ (facts.answers.is b.0 b.1).2 in
            let now : f.now ≡ length ms = facts.now in
            (b.0, b.1, b.2, (λ q j. ⊎_elim (λ i. b.3 q i) (λ (same : p ≡ q). subst (λ (x : Pending). b.0.by < x.since) same (omega arith)) (Contains-push_cases f.pending p q j)))

        was : (i : ℕ) → CannotFail (ms ++ Invoked id op ∷ []) i → CannotFail ms i
        was i c = ⊎_elim
            (λ r. inl (r.0, ⊎_elim (λ k. k) (λ q. cc) (Contains-push_cases ms (Invoked id op) _ r.1)))
            (λ k. inr (⊎_elim (λ j. j) (λ q. cc) (Contains-push_cases ms (Invoked id op) _ k)))
            c

  module _ (id : ℕ) (well : AreWellFormed (ms ++ Failed id ∷ [])) where
    pub after_fail : IsChained (ms ++ Failed id ∷ []) → AreFacts (without id f) (ms ++ Failed id ∷ [])
    after_fail chained = record {
      well = well;
      chained = chained;
      now = one_more ms (Failed id) f.now facts.now;
      pending = pending_without ms (Failed id) tt f.pending facts.pending;
      logged = logged_carried ms (Failed id) well f.log f.base (λ i v a out c. (let k = was i c in (settled_invoked ms facts.well i k, k))) (λ i v answer a out q. cc) facts.logged;
      answers = answers_carried ms (Failed id) well f.base f.answers f.answers (λ a k. k) (λ a k. inl k) (λ i n members r q. absurd (cc q)) facts.answers;
      nested = facts.nested;
      based = still_based f id facts.based;
    }
      where
        was : (i : ℕ) → CannotFail (ms ++ Failed id ∷ []) i → CannotFail ms i
        was i c = ⊎_elim
            (λ r. inl (r.0, ⊎_elim (λ k. k) (λ q. cc) (Contains-push_cases ms (Failed id) _ r.1)))
            (λ k. inr (⊎_elim (λ j. j) (λ q. cc) (Contains-push_cases ms (Failed id) _ k)))
            c

  -- the operation puts in no value beyond the base
  abbrev PutsNone : ℕ → Type 0
  PutsNone id = (v : ℤ) → ¬ Contains f.base v → ¬ IsAddOf ms id v

  module _ (id : ℕ) (well : AreWellFormed (ms ++ Crashed id ∷ [])) where
    is_open : IsOpen ms id
    is_open = well ms [] (Crashed id) refl

    pub still : IsChained (ms ++ Crashed id ∷ [])
    still = (quiet ms (Crashed id) well (λ n a q. cc) (λ n q. cc)).1 facts.chained

    was : (i : ℕ) → CannotFail (ms ++ Crashed id ∷ []) i → (id ≡ i) ⊎ CannotFail ms i
    was i c = ⊎_elim
        (λ r. inr (inl (r.0, ⊎_elim (λ k. k) (λ q. cc) (Contains-push_cases ms (Crashed id) _ r.1))))
        (λ k. ⊎_elim (λ j. inr (inr j)) (λ q. inl (let s : id ≡ i = cc in s)) (Contains-push_cases ms (Crashed id) _ k))
        c

    pub after_crash : PutsNone id → AreFacts (without id f) (ms ++ Crashed id ∷ [])
    after_crash none = record {
      well = well;
      chained = still;
      now = one_more ms (Crashed id) f.now facts.now;
      pending = pending_without ms (Crashed id) tt f.pending facts.pending;
      logged = logged_carried ms (Crashed id) well f.log f.base back (λ i v answer a out q. cc) facts.logged;
      answers = answers_carried ms (Crashed id) well f.base f.answers f.answers (λ a k. k) (λ a k. inl k) (λ i n members r q. absurd (cc q)) facts.answers;
      nested = facts.nested;
      based = still_based f id facts.based;
    }
      where
        back : (i : ℕ) (v : ℤ) → IsAddOf (ms ++ Crashed id ∷ []) i v → ¬ Contains f.base v → CannotFail (ms ++ Crashed id ∷ []) i → IsInvoked ms i × CannotFail ms i
        back i v a out c = ⊎_elim
            (λ e. absurd (none v out (add_was ms (Crashed id) well id v is_open.invoked (subst (λ j. IsAddOf (ms ++ Crashed id ∷ []) j v) (sym e) a))))
            (λ k. (settled_invoked ms facts.well i k, k))
            (was i c)
