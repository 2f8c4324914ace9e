-- each order of the history with one more completion stands for an end that the completion makes of an old end
use Rattle.std.proofs.Common.{◌≡◌, ◌≢◌, ℕ, ℤ, inl, inr, ⊎_elim, IsTrue, Option, Some, None, List, [], ◌∷◌, ◌++◌, refl, sym, ap, ◌∙◌, subst, append_assoc}
use Rattle.std.specs.List.{Contains}
use Rattle.std.proofs.lemmas.List.Elements.{Contains-append_left, Contains-push, Contains-push_cases}
use Rattle.models.specs.declared.finding.Found.TheVariants.{Reg}
use Rattle.models.specs.declared.finding.Answer.{Answer}
use Rattle.models.specs.declared.finding.Answer.TheVariants.{Nothing, Number, Numbers, Many}
use Rattle.models.specs.Objects.{register, Fits}
use Rattle.events.specs.Events.{Mark}
use Rattle.events.specs.Events.Mark.{Invoked, Returned, Failed, Crashed}
use Rattle.linspec.specs.MarkRule.{AreWellFormed}
use Rattle.linspec.specs.Operations.{IsOpen, Precedes}
use Rattle.linspec.specs.Orders.{Taken, Includes, Pairwise, Run, IsLegalOrder}
use Rattle.linspec.proofs.Lists.{Contains-cons_cases, Pairwise-right, cut_at}
use Rattle.linspec.proofs.Marks.{IsLegalOrder-fewer, Run-cut, Precedes-returned}
use Rattle.linspec.proofs.Open.{was_open}
use Rattle.linspec.specs.LeanEnds.{IsWriteOf, IsRead, MayWrite, LeanEnd, IsWithout, Becomes}
use Rattle.lean_ends.proofs.Steps.{step_view}
use Rattle.lean_ends.proofs.Once.{read_no_write, read_or_not}
use Rattle.lean_ends.proofs.Makes.{is_true, some_behind, some_before, some_without}
use Rattle.lean_ends.proofs.Covers.{MayFind, Extra, Covers}
use Rattle.lean_ends.proofs.Puts.{put_behind, put_before}
use Rattle.lean_ends.proofs.Ending.{write_was, read_was, find_was, covers_without}

pub front_well : (marks : List Mark) (m : Mark) → AreWellFormed (marks ++ m ∷ []) → AreWellFormed marks
front_well marks m well before after n cut = well before (after ++ m ∷ []) n (sym (append_assoc before (n ∷ after) (m ∷ [])) ∙ ap (λ l. l ++ m ∷ []) cut)

-- an end made by a mark, which stands for the order
abbrev pub Leads : List Mark → Mark → LeanEnd → List Taken → Option ℤ → Type 0
Leads marks m e order t = (f : LeanEnd) × Becomes marks e m f × Covers (marks ++ m ∷ []) f order t

module _ (marks : List Mark) (id : ℕ) (well : AreWellFormed (marks ++ Failed id ∷ [])) (e : LeanEnd) (order : List Taken) (t : Option ℤ)
    (l : IsLegalOrder register (marks ++ Failed id ∷ []) order t) (c : Covers marks e order t) where
  not_in : ¬ Includes order id
  not_in h = l.none_failed h.0 h.1 (subst (λ n. Contains (marks ++ Failed id ∷ []) (Failed n)) (sym h.2) (Contains-push marks (Failed id)))

  pub after_fail : Leads marks (Failed id) e order t
  after_fail =
      let f = some_without e id in (
        f.0,
        ((λ n. not_in (c.needed id n).0), f.1),
        covers_without marks (Failed id) tt e f.0 order t f.1
            (λ x v w s. w.not_failed (subst (λ n. Contains (marks ++ Failed id ∷ []) (Failed n)) (sym s) (Contains-push marks (Failed id))))
            (λ x v k s. not_in (subst (Includes order) s k.is_in))
            c,
      )

module _ (marks : List Mark) (id : ℕ) (well : AreWellFormed (marks ++ Crashed id ∷ [])) (e : LeanEnd) (order : List Taken) (t : Option ℤ) (c : Covers marks e order t) where
  before : AreWellFormed marks
  before = front_well marks (Crashed id) well

  stays : (x : ℕ) (v : ℤ) → MayWrite marks x v → MayWrite (marks ++ Crashed id ∷ []) x v
  stays x v w = record {
    write = (w.write.0, Contains-append_left marks (Crashed id ∷ []) _ w.write.1, w.write.2);
    not_returned = λ r. ⊎_elim (λ k. w.not_returned (r.0, k)) (λ q. cc) (Contains-push_cases marks (Crashed id) _ r.1);
    not_failed = λ f. ⊎_elim w.not_failed (λ q. cc) (Contains-push_cases marks (Crashed id) _ f);
  }

  extra_stays : (x : ℕ) (v : ℤ) → Extra marks e order x v → Extra (marks ++ Crashed id ∷ []) e order x v
  extra_stays x v k = record { is_in = k.is_in; may = stays x v k.may; free = k.free }

  extra_was : (x : ℕ) (v : ℤ) → Extra (marks ++ Crashed id ∷ []) e order x v → Extra marks e order x v
  extra_was x v k = record { is_in = k.is_in; may = write_was marks (Crashed id) tt x v k.may; free = k.free }

  covers_still : Covers (marks ++ Crashed id ∷ []) e order t
  covers_still = record {
    needed = λ i n. (let k = c.needed i n in (k.0, (k.1.0, (k.1.1.0, Contains-append_left marks (Crashed id ∷ []) _ k.1.1.1, k.1.1.2))));
    how = ⊎_elim
        (λ s. inl (record {
          state = s.state;
          placed = λ x v k o. s.placed x v (extra_was x v k) (was_open marks (Crashed id) tt x o).0;
          finds = λ r v h g. ⊎_elim inl (λ j. inr (j.0, extra_stays j.0 v j.1, j.2, j.3)) (s.finds r v (read_was marks (Crashed id) tt r h).0 (find_was marks (Crashed id) tt order r v g));
        }))
        (λ b. inr (record {
          last = (b.last.0, b.last.1, extra_stays b.last.0 b.last.1 b.last.2, b.last.3);
          finds = λ r v h g. ⊎_elim inl (λ j. inr (j.0, extra_stays j.0 v j.1)) (b.finds r v (read_was marks (Crashed id) tt r h).0 (find_was marks (Crashed id) tt order r v g));
        }))
        c.how;
  }

  pub after_crash : Leads marks (Crashed id) e order t
  after_crash = ⊎_elim
      (λ r.
      let f = some_without e id in (
        f.0,
        inl (r, f.1),
        covers_without marks (Crashed id) tt e f.0 order t f.1
            (λ x v w s. read_no_write marks before id v r (subst (λ n. IsWriteOf marks n v) s (write_was marks (Crashed id) tt x v w).write))
            (λ x v k s. read_no_write marks before id v r (subst (λ n. IsWriteOf marks n v) s k.may.write))
            c,
      ))
      (λ n. (e, inr (n, refl), covers_still))
      (read_or_not marks before id)

module _ (marks : List Mark) (id : ℕ) (answer : Answer) (well : AreWellFormed (marks ++ Returned id answer ∷ [])) (e : LeanEnd) (order : List Taken) (t : Option ℤ)
    (l : IsLegalOrder register (marks ++ Returned id answer ∷ []) order t) (c : Covers marks e order t) where
  abbrev longer : List Mark
  longer = marks ++ Returned id answer ∷ []

  earlier : AreWellFormed marks
  earlier = front_well marks (Returned id answer) well

  is_open : IsOpen marks id
  is_open = well marks [] (Returned id answer) refl

  returned : Contains longer (Returned id answer)
  returned = Contains-push marks (Returned id answer)

  shorter : IsLegalOrder register marks order t
  shorter = IsLegalOrder-fewer register marks (Returned id answer) order t (λ x h q. cc) l

  apart : (x : ℕ) (v : ℤ) → MayWrite longer x v → x ≢ id
  apart x v w s = w.not_returned (answer, subst (λ n. Contains longer (Returned n answer)) (sym s) returned)

  -- the operation is removed from an end that stands for the order and does not have it as a free write
  goes : (g : LeanEnd) → Covers marks g order t → ((x : ℕ) (v : ℤ) → Extra marks g order x v → x ≢ id) → (f : LeanEnd) × IsWithout g id f × Covers longer f order t
  goes g cov other = let f = some_without g id in (f.0, f.1, covers_without marks (Returned id answer) tt g f.0 order t f.1 apart other cov)

  with_write : (v : ℤ) → IsWriteOf marks id v → Includes order id → Leads marks (Returned id answer) e order t
  with_write v w i = ⊎_elim
      (λ n.
      let f = goes e c (λ x u k s. k.free (subst (λ j. IsTrue (e.needed j)) (sym s) n)) in
      (f.0, inl (v, w, inl (n, f.1)), f.2))
      (λ n.
      let k : Extra marks e order id v = record { is_in = i; may = record { write = w; not_returned = is_open.not_returned; not_failed = is_open.not_failed }; free = n } in
      ⊎_elim
      (λ s.
      let g = some_before marks earlier e id v (s.placed id v k is_open) in
      let f = goes g.0 (put_before marks earlier e g.0 order t id v k c.needed g.1 s) (λ x u j q. j.free ((g.1.needed x).1 (inl q))) in
      (f.0, inl (v, w, inr (n, (g.0, inr g.1, f.1))), f.2))
      (λ b.
      let g = some_behind marks earlier e id v in
      let f = goes g.0 (put_behind marks earlier e g.0 order t id v k c.needed g.1 b) (λ x u j q. j.free ((g.1.needed x).1 (inl q))) in
      (f.0, inl (v, w, inr (n, (g.0, inl g.1, f.1))), f.2))
      c.how)
      (is_true (e.needed id))

  no_write : IsRead marks id → (g : LeanEnd) (x : ℕ) (v : ℤ) → Extra marks g order x v → x ≢ id
  no_write r g x v k s = read_no_write marks earlier id v r (subst (λ n. IsWriteOf marks n v) s k.may.write)

  with_value : (v : ℤ) → IsRead marks id → answer ≡ Number v → MayFind marks order id v → Leads marks (Returned id answer) e order t
  with_value v r a found = ⊎_elim
      (λ n.
      let f = goes e c (no_write r e) in
      (f.0, inr (inr (v, r, a, inl (n, f.1))), f.2))
      (λ n. ⊎_elim
      (λ s. ⊎_elim
      (λ h. absurd (n h))
      (λ h.
      let x : ℕ = h.0 in
      let g = some_before marks earlier e x v h.2 in
      let f = goes g.0 (put_before marks earlier e g.0 order t x v h.1 c.needed g.1 s) (no_write r g.0) in
      (f.0, inr (inr (v, r, a, inr (n, (x, g.0, h.1.may, h.1.free, inr (h.3, g.1), f.1)))), f.2))
      (s.finds id v (r, is_open) found))
      (λ b. ⊎_elim
      (λ h. absurd (n h))
      (λ h.
      let x : ℕ = h.0 in
      let g = some_behind marks earlier e x v in
      let f = goes g.0 (put_behind marks earlier e g.0 order t x v h.1 c.needed g.1 b) (no_write r g.0) in
      (f.0, inr (inr (v, r, a, inr (n, (x, g.0, h.1.may, h.1.free, inl g.1, f.1)))), f.2))
      (b.finds id v (r, is_open) found))
      c.how)
      (is_true (e.finds id v))

  -- where the read stands it may stand
  stands : (xs ys : List Taken) (y : Taken) → order ≡ xs ++ y ∷ ys → y.id ≡ id → (v : ℤ) → Run register None xs (Some v) → MayFind marks order id v
  stands xs ys y cut is v run = (
    xs,
    y ∷ ys,
    cut,
    run,
    λ z h p. ⊎_elim
        (λ q. is_open.not_returned (Precedes-returned marks id id (subst (λ n. Precedes marks n id) (ap (λ (w : Taken). w.id) (sym q) ∙ is) p)))
        (λ k. (Pairwise-right (λ a b. ¬ Precedes marks b.id a.id) xs (y ∷ ys) (subst (Pairwise (λ a b. ¬ Precedes marks b.id a.id)) cut shorter.in_time)).0 z k (subst (Precedes marks z.id) (sym is) p))
        (Contains-cons_cases y ys z h),
  )

  with_read : (xs ys : List Taken) (y : Taken) → order ≡ xs ++ y ∷ ys → y.id ≡ id → (s : Option ℤ) → Run register None xs s → (a : Answer) → answer ≡ a → Fits (Reg s) a → IsRead marks id → Leads marks (Returned id answer) e order t
  with_read xs ys y cut is s run Nothing q fits r =
      let f = goes e c (no_write r e) in (f.0, inr (inl (r, q, f.1)), f.2)
  with_read xs ys y cut is s run (Number v) q fits r = with_value v r q (stands xs ys y cut is v (subst (Run register None xs) fits run))
  with_read xs ys y cut is s run (Numbers v w) q fits r = absurd fits
  with_read xs ys y cut is s run (Many members) q fits r = absurd fits

  pub after_ok : Leads marks (Returned id answer) e order t
  after_ok =
      let i = l.all_done id (answer, returned) in
      let d = cut_at order i.0 i.1 in
      let run = Run-cut register None t d.0 (i.0 ∷ d.1) (subst (λ o. Run register None o t) d.2 l.run) in
      let invoked : Contains marks (Invoked id i.0.op) = subst (λ n. Contains marks (Invoked n i.0.op)) i.2 (shorter.invoked i.0 i.1) in
      ⊎_elim
      (λ r. with_read d.0 d.1 i.0 d.2 i.2 run.0 run.1 answer refl
      (subst (λ f. Fits f answer) r.3 (l.fits i.0 answer i.1 (subst (λ n. Contains longer (Returned n answer)) (sym i.2) returned)))
      (i.0.op, invoked, (r.0, r.1)))
      (λ w. with_write w.0 (i.0.op, invoked, (w.1, w.2)) i)
      (step_view i.0.op run.0 run.2.0 i.0.found run.2.1)
