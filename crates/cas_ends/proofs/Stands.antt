-- an order that has, of the open and crashed operations, those alone that an end needs
use Rattle.std.proofs.Common.{◌≡◌, ℕ, ℤ, ◌⊎◌, inl, inr, ⊎_elim, Bool, true, false, IsTrue, Option, Some, None, List, [], ◌∷◌, ◌++◌, refl, sym, ap, ◌∙◌, subst, append_assoc, append-nil}
use Rattle.std.specs.List.{Contains}
use Rattle.std.proofs.lemmas.List.Elements.{Contains-append_left, Contains-push, Contains-push_cases}
use Rattle.models.specs.declared.finding.Found.TheVariants.{Unit as Done}
use Rattle.models.specs.Objects.{cas_register}
use Rattle.events.specs.Events.{Mark}
use Rattle.linspec.specs.Operations.{HasReturned, Precedes}
use Rattle.linspec.specs.Orders.{Taken, Includes, Run, IsLegalOrder}
use Rattle.linspec.proofs.Lists.{Contains-nil, Contains-cons_cases}
use Rattle.linspec.proofs.Marks.{IsLegalOrder-extend, Run-append, Run-cut, Precedes-returned}
use Rattle.linspec.specs.MarkRule.{AreWellFormed}
use Rattle.linspec.specs.LeanEnds.{Writes, IsWriteOf, IsRead, MayRead, MayWrite, LeanEnd, IsPutBehind, IsPutBefore}
use Rattle.lean_ends.proofs.Splits.{two_cuts}
use Rattle.lean_ends.proofs.Orders.{IsLegalOrder-within, within_cases, within_it, within_others}
use Rattle.lean_ends.proofs.Stands.{MayCome}
use Rattle.linspec.specs.CasEnds.{IsCasOf, MayCas, IsSetBehind, SetsBehind, WalksBy}
use Rattle.cas_ends.proofs.Steps.{write_step, cas_step, write_anywhere}
use Rattle.cas_ends.proofs.Once.{cas_no_read, cas_no_write}
use Rattle.cas_ends.proofs.Covers.{MayFind, IsUpdate}

-- the last write of the order, before which the operations of the door may come
pub record Door (marks : List Mark) (e : LeanEnd) (order : List Taken) : Type 0 where
  pub before : List Taken
  pub write : Taken
  pub behind : List Taken
  pub cut : order ≡ before ++ write ∷ behind
  pub value : ℤ
  pub writes : Writes write.op value
  pub late : (z : ℕ) → IsTrue (e.door z) → (y : Taken) → Contains (write ∷ behind) y → ¬ Precedes marks y.id z

pub record Stands (marks : List Mark) (e : LeanEnd) (order : List Taken) (t : Option ℤ) : Type 0 where
  pub legal : IsLegalOrder cas_register marks order t
  pub state : t ≡ e.state
  pub only : (x : Taken) → Contains order x → ¬ HasReturned marks x.id → IsTrue (e.needed x.id)
  pub needed : (i : ℕ) → IsTrue (e.needed i) → Includes order i × IsUpdate marks i
  pub comes : (z : ℕ) → IsTrue (e.door z) → MayCome marks z × (¬ IsTrue (e.needed z))
  pub door : ((z : ℕ) → ¬ IsTrue (e.door z)) ⊎ Door marks e order
  pub finds : (r : ℕ) (v : ℤ) → IsTrue (e.finds r v) → MayRead marks r × MayFind marks order r v

module _ (marks : List Mark) (e g : LeanEnd) (order : List Taken) (t : Option ℤ) (x : ℕ) (v : ℤ)
    (s : Stands marks e order t) (may : MayWrite marks x v) (free : ¬ IsTrue (e.needed x)) where
  abbrev taken : Taken
  taken = record { id = x; op = may.write.0; found = Done }

  writes : Writes may.write.0 v
  writes = may.write.2

  not_in : ¬ Includes order x
  not_in h = free (subst (λ n. IsTrue (e.needed n)) h.2 (s.only h.0 h.1 (λ r. may.not_returned (subst (HasReturned marks) h.2 r))))

  precedes_none : (z : ℕ) → ¬ Precedes marks x z
  precedes_none z p = may.not_returned (Precedes-returned marks x z p)

  module _ (put : IsPutBehind marks e x v g) where
    found_behind : (r : ℕ) (w : ℤ) → MayFind marks order r w → MayFind marks (order ++ taken ∷ []) r w
    found_behind r w f = (
      f.0,
      f.1 ++ taken ∷ [],
      ap (λ l. l ++ taken ∷ []) f.2 ∙ append_assoc f.0 f.1 (taken ∷ []),
      f.3,
      λ y h. ⊎_elim (f.4 y) (λ q p. precedes_none r (subst (λ (z : Taken). Precedes marks z.id r) (sym q) p)) (Contains-push_cases f.1 taken y h),
    )

    legal_behind : IsLegalOrder cas_register marks (order ++ taken ∷ []) (Some v)
    legal_behind = IsLegalOrder-extend cas_register marks order t (Some v) taken s.legal may.write.1 may.not_returned may.not_failed not_in (write_step may.write.0 v t writes)

    pub stands_behind : Stands marks g (order ++ taken ∷ []) (Some v)
    stands_behind = record {
      legal = legal_behind;
      state = sym put.state;
      only = λ y h n. (put.needed y.id).1 (⊎_elim (λ k. inr (s.only y k n)) (λ q. inl (ap (λ (z : Taken). z.id) (sym q))) (Contains-push_cases order taken y h));
      needed = λ i n. ⊎_elim
          (λ q. ((taken, Contains-push order taken, sym q), inl (v, subst (λ j. IsWriteOf marks j v) (sym q) may.write)))
          (λ k. (let j = s.needed i k in ((j.0.0, Contains-append_left order (taken ∷ []) j.0.0 j.0.1, j.0.2), j.1)))
          ((put.needed i).0 n);
      comes = λ z d. (put.door z).0 d;
      door = inr (record {
        before = order;
        write = taken;
        behind = [];
        cut = refl;
        value = v;
        writes = writes;
        late = λ z d y h p. ⊎_elim (λ q. precedes_none z (subst (λ (w : Taken). Precedes marks w.id z) (sym q) p)) (λ k. Contains-nil y k) (Contains-cons_cases taken [] y h);
      });
      finds = λ r w h. ⊎_elim
          (λ k. (let f = s.finds r w k in (f.0, found_behind r w f.1)))
          (λ k. (k.0, (order ++ taken ∷ [], [], sym (append-nil (order ++ taken ∷ [])), subst (λ u. Run cas_register None (order ++ taken ∷ []) (Some u)) (sym k.1) legal_behind.run, (λ y j. absurd (Contains-nil y j)))))
          ((put.finds r w).0 h);
    }

  module _ (put : IsPutBefore marks e x v g) (d : Door marks e order) where
    abbrev longer : List Taken
    longer = d.before ++ taken ∷ d.write ∷ d.behind

    run_order : Run cas_register None (d.before ++ d.write ∷ d.behind) t
    run_order = subst (λ l. Run cas_register None l t) d.cut s.legal.run

    -- the run up to the last write, and from it on
    to_it : (u : Option ℤ) × Run cas_register None d.before u × Run cas_register u (d.write ∷ d.behind) t
    to_it = Run-cut cas_register None t d.before (d.write ∷ d.behind) run_order

    -- from the new write on
    on : (m : List Taken) (u w : Option ℤ) → Run cas_register u (d.write ∷ m) w → Run cas_register (Some v) (d.write ∷ m) w
    on m u w r = (r.0, write_anywhere d.write.op d.value u (Some v) r.0 d.write.found d.writes r.1, r.2)

    legal_before : IsLegalOrder cas_register marks longer t
    legal_before = IsLegalOrder-within cas_register marks d.before (d.write ∷ d.behind) to_it.0 (Some v) t taken
        (subst (λ l. IsLegalOrder cas_register marks l t) d.cut s.legal) may.write.1 may.not_returned may.not_failed
        (subst (λ l. ¬ Includes l x) d.cut not_in)
        (λ y h. d.late x put.may y h)
        to_it.1 (write_step may.write.0 v to_it.0 writes) (on d.behind to_it.0 t to_it.2)

    run_new : Run cas_register None (d.before ++ taken ∷ []) (Some v)
    run_new = Run-append cas_register None to_it.0 (Some v) d.before (taken ∷ []) to_it.1 (Some v, write_step may.write.0 v to_it.0 writes, refl)

    assoc : (l : List Taken) → (d.before ++ taken ∷ []) ++ l ≡ d.before ++ taken ∷ l
    assoc l = append_assoc d.before (taken ∷ []) l

    found_before : (r : ℕ) (w : ℤ) → MayFind marks order r w → MayFind marks longer r w
    found_before r w f = ⊎_elim
        (λ k. (
          f.0,
          k.0 ++ taken ∷ d.write ∷ d.behind,
          ap (λ l. l ++ taken ∷ d.write ∷ d.behind) k.1 ∙ append_assoc f.0 k.0 (taken ∷ d.write ∷ d.behind),
          f.3,
          λ y h. ⊎_elim
              (λ q p. precedes_none r (subst (λ (z : Taken). Precedes marks z.id r) (sym q) p))
              (λ j. f.4 y (subst (λ l. Contains l y) (sym k.2) j))
              (within_cases k.0 (d.write ∷ d.behind) taken y h),
        ))
        (λ k. by_middle k.0 k.1 k.2)
        (two_cuts f.0 f.1 d.before (d.write ∷ d.behind) (sym f.2 ∙ d.cut))
      where
        by_middle : (m : List Taken) → f.0 ≡ d.before ++ m → d.write ∷ d.behind ≡ m ++ f.1 → MayFind marks longer r w
        by_middle [] at rest = (
          d.before,
          taken ∷ d.write ∷ d.behind,
          refl,
          subst (λ l. Run cas_register None l (Some w)) (at ∙ append-nil d.before) f.3,
          λ y h. ⊎_elim
              (λ q p. precedes_none r (subst (λ (z : Taken). Precedes marks z.id r) (sym q) p))
              (λ j. f.4 y (subst (λ l. Contains l y) rest j))
              (Contains-cons_cases taken (d.write ∷ d.behind) y h),
        )
        by_middle (z ∷ m) at rest =
            let is : d.write ≡ z = cc in
            let tail : d.behind ≡ m ++ f.1 = cc in
            let c = Run-cut cas_register None (Some w) d.before (z ∷ m) (subst (λ l. Run cas_register None l (Some w)) at f.3) in
            let c2 : Run cas_register c.0 (d.write ∷ m) (Some w) = subst (λ y. Run cas_register c.0 (y ∷ m) (Some w)) (sym is) c.2 in (
              (d.before ++ taken ∷ []) ++ d.write ∷ m,
              f.1,
              ap (λ l. d.before ++ taken ∷ d.write ∷ l) tail ∙ sym (assoc (d.write ∷ (m ++ f.1))) ∙ sym (append_assoc (d.before ++ taken ∷ []) (d.write ∷ m) f.1),
              Run-append cas_register None (Some v) (Some w) (d.before ++ taken ∷ []) (d.write ∷ m) run_new (on m c.0 (Some w) c2),
              f.4,
            )

    pub stands_before : Stands marks g longer t
    stands_before = record {
      legal = legal_before;
      state = s.state ∙ sym put.state;
      only = λ y h n. (put.needed y.id).1 (⊎_elim
          (λ q. inl (ap (λ (z : Taken). z.id) (sym q)))
          (λ k. inr (s.only y (subst (λ l. Contains l y) (sym d.cut) k) n))
          (within_cases d.before (d.write ∷ d.behind) taken y h));
      needed = λ i n. ⊎_elim
          (λ q. ((taken, within_it d.before (d.write ∷ d.behind) taken, sym q), inl (v, subst (λ j. IsWriteOf marks j v) (sym q) may.write)))
          (λ k. (let j = s.needed i k in ((j.0.0, within_others d.before (d.write ∷ d.behind) taken j.0.0 (subst (λ l. Contains l j.0.0) d.cut j.0.1), j.0.2), j.1)))
          ((put.needed i).0 n);
      comes = λ z h. (let k = (put.door z).0 h in let c = s.comes z k.0 in (c.0, (λ n. ⊎_elim k.1 c.1 ((put.needed z).0 n))));
      door = inr (record {
        before = d.before ++ taken ∷ [];
        write = d.write;
        behind = d.behind;
        cut = sym (assoc (d.write ∷ d.behind));
        value = d.value;
        writes = d.writes;
        late = λ z h y i. d.late z ((put.door z).0 h).0 y i;
      });
      finds = λ r w h. ⊎_elim
          (λ k. (let f = s.finds r w k in (f.0, found_before r w f.1)))
          (λ k. (k.0, (d.before ++ taken ∷ [], d.write ∷ d.behind, sym (assoc (d.write ∷ d.behind)), subst (λ u. Run cas_register None (d.before ++ taken ∷ []) (Some u)) (sym k.2) run_new, (λ y j. d.late r k.1 y j))))
          ((put.finds r w).0 h);
    }

  pub stands_put : IsPutBehind marks e x v g ⊎ IsPutBefore marks e x v g → (longer : List Taken) × (u : Option ℤ) × Stands marks g longer u
  stands_put = ⊎_elim
      (λ p. (order ++ taken ∷ [], Some v, stands_behind p))
      (λ p. ⊎_elim (λ none. absurd (none x p.may)) (λ d. (longer p d, t, stands_before p d)) s.door)

-- a cas takes place behind
module _ (marks : List Mark) (well : AreWellFormed marks) (e g : LeanEnd) (order : List Taken) (t : Option ℤ) (x : ℕ) (a b : ℤ)
    (s : Stands marks e order t) (may : MayCas marks x a b) (free : ¬ IsTrue (e.needed x)) (put : IsSetBehind marks e x a b g) where
  abbrev it : Taken
  it = record { id = x; op = may.cas.0; found = Done }

  outside : ¬ Includes order x
  outside h = free (subst (λ n. IsTrue (e.needed n)) h.2 (s.only h.0 h.1 (λ r. may.not_returned (subst (HasReturned marks) h.2 r))))

  never_first : (z : ℕ) → ¬ Precedes marks x z
  never_first z p = may.not_returned (Precedes-returned marks x z p)

  legal_set : IsLegalOrder cas_register marks (order ++ it ∷ []) (Some b)
  legal_set = IsLegalOrder-extend cas_register marks order t (Some b) it s.legal may.cas.1 may.not_returned may.not_failed outside (cas_step may.cas.0 a b t may.cas.2 (s.state ∙ put.takes))

  late_on : (z : ℕ) (l : List Taken) → ((y : Taken) → Contains l y → ¬ Precedes marks y.id z) → (y : Taken) → Contains (l ++ it ∷ []) y → ¬ Precedes marks y.id z
  late_on z l none y h = ⊎_elim (none y) (λ q p. never_first z (subst (λ (w : Taken). Precedes marks w.id z) (sym q) p)) (Contains-push_cases l it y h)

  found_on : (r : ℕ) (w : ℤ) → MayFind marks order r w → MayFind marks (order ++ it ∷ []) r w
  found_on r w f = (f.0, f.1 ++ it ∷ [], ap (λ l. l ++ it ∷ []) f.2 ∙ append_assoc f.0 f.1 (it ∷ []), f.3, late_on r f.1 f.4)

  not_it : (z : ℕ) → MayCome marks z → ¬ (z ≡ x)
  not_it z c q = ⊎_elim
      (λ r. cas_no_read marks well x a b may.cas (subst (IsRead marks) q r.0))
      (λ w. cas_no_write marks well x a b may.cas w.0 (subst (λ n. IsWriteOf marks n w.0) q w.1.write))
      c

  pub stands_set : Stands marks g (order ++ it ∷ []) (Some b)
  stands_set = record {
    legal = legal_set;
    state = sym put.state;
    only = λ y h n. (put.needed y.id).1 (⊎_elim (λ k. inr (s.only y k n)) (λ q. inl (ap (λ (z : Taken). z.id) (sym q))) (Contains-push_cases order it y h));
    needed = λ i n. ⊎_elim
        (λ q. ((it, Contains-push order it, sym q), inr (a, b, subst (λ j. IsCasOf marks j a b) (sym q) may.cas)))
        (λ k. (let j = s.needed i k in ((j.0.0, Contains-append_left order (it ∷ []) j.0.0 j.0.1, j.0.2), j.1)))
        ((put.needed i).0 n);
    comes = λ z d. (let c = s.comes z ((put.door z).0 d) in (c.0, (λ n. ⊎_elim (not_it z c.0) c.1 ((put.needed z).0 n))));
    door = ⊎_elim (λ none. inl (λ z d. none z ((put.door z).0 d))) (λ d. inr (record {
      before = d.before;
      write = d.write;
      behind = d.behind ++ it ∷ [];
      cut = ap (λ l. l ++ it ∷ []) d.cut ∙ append_assoc d.before (d.write ∷ d.behind) (it ∷ []);
      value = d.value;
      writes = d.writes;
      late = λ z h. late_on z (d.write ∷ d.behind) (d.late z ((put.door z).0 h));
    })) s.door;
    finds = λ r w h. ⊎_elim
        (λ k. (let f = s.finds r w k in (f.0, found_on r w f.1)))
        (λ k. (k.0, (order ++ it ∷ [], [], sym (append-nil (order ++ it ∷ [])), subst (λ u. Run cas_register None (order ++ it ∷ []) (Some u)) (sym k.1) legal_set.run, (λ y j. absurd (Contains-nil y j)))))
        ((put.finds r w).0 h);
  }

-- some order stands for the end
abbrev pub IsLeft : List Mark → LeanEnd → Type 0
IsLeft marks e = (order : List Taken) × (t : Option ℤ) × Stands marks e order t

pub left_set : (marks : List Mark) → AreWellFormed marks → (e g : LeanEnd) (x : ℕ) → IsLeft marks e → SetsBehind marks e x g → IsLeft marks g
left_set marks well e g x s k = (_, Some k.1.1, stands_set marks well e g s.0 s.1 x k.1.0 k.1.1 s.2 k.1.2 k.0 k.1.3)

pub left_put : (marks : List Mark) (e g : LeanEnd) (x : ℕ) (v : ℤ) → IsLeft marks e → MayWrite marks x v → ¬ IsTrue (e.needed x) → IsPutBehind marks e x v g ⊎ IsPutBefore marks e x v g → IsLeft marks g
left_put marks e g x v s may free put = stands_put marks e g s.0 s.1 x v s.2 may free put

-- so it is behind a walk
pub left_walk : (marks : List Mark) → AreWellFormed marks → (e f : LeanEnd) (h k : Bool) (xs : List ℕ) → WalksBy marks e h xs f k → IsLeft marks e → IsLeft marks f
left_walk marks well e f h k [] w s = subst (IsLeft marks) w.0 s
left_walk marks well e f h k (x ∷ xs) w s = ⊎_elim
    (λ c. left_walk marks well w.0 f false k xs c.1 (left_set marks well e w.0 x s c.0))
    (λ c. left_walk marks well w.0 f true k xs c.2 (left_put marks e w.0 x c.1.1.0 s c.1.1.1 c.1.0 (inl c.1.1.2)))
    w.1
