-- each order of the history with one more ok stands for an end that the ok makes of an old end
use Rattle.std.proofs.Common.{◌≡◌, ◌≢◌, ℕ, ℤ, inl, inr, ⊎_elim, true, false, IsTrue, Option, Some, None, List, [], ◌∷◌, ◌++◌, refl, sym, ap, ◌∙◌, subst}
use Rattle.std.specs.List.{Contains}
use Rattle.std.proofs.lemmas.List.Elements.{Contains-push}
use Rattle.models.specs.declared.finding.Found.TheVariants.{Reg}
use Rattle.models.specs.declared.finding.Answer.{Answer}
use Rattle.models.specs.declared.finding.Answer.TheVariants.{Nothing, Number, Numbers, Many}
use Rattle.models.specs.Objects.{cas_register, Fits}
use Rattle.events.specs.Events.{Mark}
use Rattle.events.specs.Events.Mark.{Invoked, Returned}
use Rattle.linspec.specs.MarkRule.{AreWellFormed}
use Rattle.linspec.specs.Operations.{HasReturned, IsOpen, Precedes}
use Rattle.linspec.specs.Orders.{Taken, Includes, Pairwise, Run, IsLegalOrder}
use Rattle.linspec.proofs.Lists.{Contains-nil, Contains-cons_cases, Contains-head, Pairwise-right, Pairwise-across, cut_at}
use Rattle.linspec.proofs.Marks.{IsLegalOrder-fewer, IsLegalOrder-cut, Run-cut, Precedes-returned}
use Rattle.linspec.specs.LeanEnds.{Reads, IsWriteOf, IsRead, MayWrite, LeanEnd, IsWithout}
use Rattle.lean_ends.proofs.Once.{read_no_write}
use Rattle.lean_ends.proofs.Makes.{is_true, some_behind, some_before, some_without}
use Rattle.lean_ends.proofs.Covers.{Extra}
use Rattle.lean_ends.proofs.Events.{front_well}
use Rattle.linspec.specs.CasEnds.{Sets, IsCasOf, MayCas, Walks}
use Rattle.cas_ends.proofs.Steps.{step_view, run_same}
use Rattle.cas_ends.proofs.Once.{cas_no_write}
use Rattle.cas_ends.proofs.Makes.{some_set}
use Rattle.cas_ends.proofs.Covers.{MayFind, Covers}
use Rattle.cas_ends.proofs.Puts.{put_behind, put_before}
use Rattle.cas_ends.proofs.Pushes.{covers_read, covers_written, covers_set}
use Rattle.cas_ends.proofs.Walking.{Settled, settled, along, stay, then_writes, walks_append}
use Rattle.cas_ends.proofs.Ending.{covers_without}
use Rattle.cas_ends.proofs.Events.{Leads}

module _ (marks : List Mark) (id : ℕ) (answer : Answer) (well : AreWellFormed (marks ++ Returned id answer ∷ [])) where
  abbrev longer : List Mark
  longer = marks ++ Returned id answer ∷ []

  earlier : AreWellFormed marks
  earlier = front_well marks (Returned id answer) well

  is_open : IsOpen marks id
  is_open = well marks [] (Returned id answer) refl

  returned : Contains longer (Returned id answer)
  returned = Contains-push marks (Returned id answer)

  apart : (x : ℕ) (v : ℤ) → MayWrite longer x v → x ≢ id
  apart x v w s = w.not_returned (answer, subst (λ n. Contains longer (Returned n answer)) (sym s) returned)

  -- the operation is removed from an end that stands for the order and does not have it as a free write
  goes : (g : LeanEnd) (order : List Taken) (t : Option ℤ) → Covers marks g order t → ((x : ℕ) (v : ℤ) → Extra marks g order x v → x ≢ id)
      → (f : LeanEnd) × IsWithout g id f × Covers longer f order t
  goes g order t cov other =
      let f = some_without g id in
      (f.0, f.1, covers_without marks (Returned id answer) tt g f.0 order t f.1 apart other cov)

  no_write : IsRead marks id → (g : LeanEnd) (order : List Taken) (x : ℕ) (v : ℤ) → Extra marks g order x v → x ≢ id
  no_write r g order x v k s = read_no_write marks earlier id v r (subst (λ n. IsWriteOf marks n v) s k.may.write)

  -- the operation is within an order for which the end stands
  module _ (e : LeanEnd) (order : List Taken) (t : Option ℤ) (l : IsLegalOrder cas_register longer order t) (c : Covers marks e order t) where
    shorter : IsLegalOrder cas_register marks order t
    shorter = IsLegalOrder-fewer cas_register marks (Returned id answer) order t (λ x h q. cc) l

    with_write : (v : ℤ) → IsWriteOf marks id v → Includes order id → Leads marks (Returned id answer) e order t
    with_write v w i = ⊎_elim
        (λ n.
        let f = goes e order t c (λ x u k s. k.free (subst (λ j. IsTrue (e.needed j)) (sym s) n)) in
        (f.0, inl (v, w, inl (n, f.1)), f.2))
        (λ n.
        let k : Extra marks e order id v = record { is_in = i; may = record { write = w; not_returned = is_open.not_returned; not_failed = is_open.not_failed }; free = n } in
        ⊎_elim
        (λ s.
        let g = some_before marks earlier e id v (s.placed id v k is_open) in
        let f = goes g.0 order t (put_before marks earlier e g.0 order t id v k c g.1 s) (λ x u j q. j.free ((g.1.needed x).1 (inl q))) in
        (f.0, inl (v, w, inr (inl (n, (g.0, g.1, f.1)))), f.2))
        (λ b.
        let g = some_behind marks earlier e id v in
        let f = goes g.0 order t (put_behind marks earlier e g.0 order t id v k c g.1 b) (λ x u j q. j.free ((g.1.needed x).1 (inl q))) in
        (f.0, inl (v, w, inr (inr (e, g.0, stay marks e, n, g.1, f.1))), f.2))
        c.how)
        (is_true (e.needed id))

    with_cas : (y : Taken) (a b : ℤ) → Contains order y → y.id ≡ id → Sets y.op a b → Leads marks (Returned id answer) e order t
    with_cas y a b h q s =
        let n : IsTrue (e.needed id) = subst (λ j. IsTrue (e.needed j)) q (c.sets y a b h s (subst (IsOpen marks) (sym q) is_open)) in
        let k : IsCasOf marks id a b = subst (λ j. IsCasOf marks j a b) q (y.op, shorter.invoked y h, s) in
        let f = goes e order t c (λ x v j z. cas_no_write marks earlier id a b k v (subst (λ n. IsWriteOf marks n v) z j.may.write)) in
        (f.0, inr (inl (a, b, k, inl (n, f.1))), f.2)

    with_value : (v : ℤ) → IsRead marks id → answer ≡ Number v → MayFind marks order id v → Leads marks (Returned id answer) e order t
    with_value v r a found = ⊎_elim
        (λ s. ⊎_elim
        (λ n. now n)
        (λ h. ⊎_elim
        now
        (λ n.
        let x : ℕ = h.0 in
        let g = some_before marks earlier e x v h.2 in
        let f = goes g.0 order t (put_before marks earlier e g.0 order t x v h.1 c g.1 s) (no_write r g.0 order) in
        (f.0, inr (inr (inr (v, r, a, inr (inl (n, x, g.0, h.1.may, h.1.free, h.3, g.1, f.1))))), f.2))
        (is_true (e.finds id v)))
        (s.finds id v (r, is_open) found))
        (λ b. ⊎_elim
        (λ n. now n)
        (λ h.
        let x : ℕ = h.0 in
        let g = some_behind marks earlier e x v in
        let f = goes g.0 order t (put_behind marks earlier e g.0 order t x v h.1 c g.1 b) (no_write r g.0 order) in
        (f.0, inr (inr (inr (v, r, a, inr (inr (g.0, true, then_writes marks e e g.0 x (stay marks e) (h.1.free, (v, h.1.may, g.1)), g.1.state, f.1))))), f.2))
        (b.finds id v (r, is_open) found))
        c.how
      where
        now : IsTrue (e.finds id v) → Leads marks (Returned id answer) e order t
        now n =
            let f = goes e order t c (no_write r e order) in
            (f.0, inr (inr (inr (v, r, a, inl (n, f.1)))), f.2)

    -- where the read stands it may stand
    stands : (xs ys : List Taken) (y : Taken) → order ≡ xs ++ y ∷ ys → y.id ≡ id → (v : ℤ) → Run cas_register None xs (Some v) → MayFind marks order id v
    stands xs ys y cut is v run = (
      xs,
      y ∷ ys,
      cut,
      run,
      λ z h p. ⊎_elim
          (λ q. is_open.not_returned (Precedes-returned marks id id (subst (λ n. Precedes marks n id) (ap (λ (w : Taken). w.id) (sym q) ∙ is) p)))
          (λ k. (Pairwise-right (λ a b. ¬ Precedes marks b.id a.id) xs (y ∷ ys) (subst (Pairwise (λ a b. ¬ Precedes marks b.id a.id)) cut shorter.in_time)).0 z k (subst (Precedes marks z.id) (sym is) p))
          (Contains-cons_cases y ys z h),
    )

    with_read : (xs ys : List Taken) (y : Taken) → order ≡ xs ++ y ∷ ys → y.id ≡ id → (s : Option ℤ) → Run cas_register None xs s → (a : Answer) → answer ≡ a → Fits (Reg s) a → IsRead marks id → Leads marks (Returned id answer) e order t
    with_read xs ys y cut is s run Nothing q fits r =
        let f = goes e order t c (no_write r e order) in (f.0, inr (inr (inl (r, q, (e, false, stay marks e, f.1)))), f.2)
    with_read xs ys y cut is s run (Number v) q fits r = with_value v r q (stands xs ys y cut is v (subst (Run cas_register None xs) fits run))
    with_read xs ys y cut is s run (Numbers v w) q fits r = absurd fits
    with_read xs ys y cut is s run (Many members) q fits r = absurd fits

    pub ok_within : Leads marks (Returned id answer) e order t
    ok_within =
        let i = l.all_done id (answer, returned) in
        let d = cut_at order i.0 i.1 in
        let run = Run-cut cas_register None t d.0 (i.0 ∷ d.1) (subst (λ o. Run cas_register None o t) d.2 l.run) in
        let invoked : Contains marks (Invoked id i.0.op) = subst (λ n. Contains marks (Invoked n i.0.op)) i.2 (shorter.invoked i.0 i.1) in
        ⊎_elim
        (λ r. with_read d.0 d.1 i.0 d.2 i.2 run.0 run.1 answer refl
        (subst (λ f. Fits f answer) r.3 (l.fits i.0 answer i.1 (subst (λ n. Contains longer (Returned n answer)) (sym i.2) returned)))
        (i.0.op, invoked, (r.0, r.1)))
        (λ o. ⊎_elim
        (λ w. with_write w.0 (i.0.op, invoked, (w.1, w.2)) i)
        (λ k. with_cas i.0 k.0 k.1 i.1 i.2 (k.2, k.3))
        o)
        (step_view i.0.op run.0 run.2.0 i.0.found run.2.1)

-- the operation is the last of the order, behind pending ones
module _ (marks : List Mark) (answer : Answer) (x : Taken) (well : AreWellFormed (marks ++ Returned x.id answer ∷ [])) (p q : List Taken) (t u : Option ℤ)
    (l : IsLegalOrder cas_register (marks ++ Returned x.id answer ∷ []) ((p ++ q) ++ x ∷ []) t)
    (pending : (y : Taken) → Contains q y → ¬ HasReturned marks y.id) (e : LeanEnd) (run_p : Run cas_register None p u) (c : Covers marks e p u) where
  abbrev order : List Taken
  order = (p ++ q) ++ x ∷ []

  before : AreWellFormed marks
  before = earlier marks x.id answer well

  open_now : IsOpen marks x.id
  open_now = is_open marks x.id answer well

  here : Contains order x
  here = Contains-push (p ++ q) x

  fewer : IsLegalOrder cas_register marks order t
  fewer = IsLegalOrder-fewer cas_register marks (Returned x.id answer) order t (λ y h z. cc) l

  invoked : Contains marks (Invoked x.id x.op)
  invoked = fewer.invoked x here

  not_in : ¬ Includes (p ++ q) x.id
  not_in h = Pairwise-across (λ a b. a.id ≢ b.id) (p ++ q) (x ∷ []) fewer.once h.0 x h.1 (Contains-head x []) h.2

  cut : (m : Option ℤ) × IsLegalOrder cas_register marks (p ++ q) m × Run cas_register m (x ∷ []) t
  cut = IsLegalOrder-cut cas_register marks (p ++ q) (x ∷ []) t fewer (λ y h r. ⊎_elim
      (λ z. open_now.not_returned (subst (HasReturned marks) (ap (λ (w : Taken). w.id) (sym z)) r))
      (λ k. absurd (Contains-nil y k))
      (Contains-cons_cases x [] y h))

  abbrev m : Option ℤ
  m = cut.0

  run_q : Run cas_register u q m
  run_q = let r = Run-cut cas_register None m p q cut.1.run in subst (λ s. Run cas_register s q m) (run_same p None r.0 u r.1 run_p) r.2

  walked : (g : LeanEnd) × Walks marks e g false × Covers marks g (p ++ q) m
  walked = along marks before q p e u m c run_p run_q cut.1 pending

  step : cas_register.Steps m x.op x.found t
  step = subst (cas_register.Steps m x.op x.found) cut.2.2 cut.2.1

  longer_walk : (d : Settled marks walked.0 (p ++ q) m) → Walks marks e d.end d.writes
  longer_walk d = (walked.1.0 ++ d.walk.0, walks_append marks e walked.0 d.end false false d.writes walked.1.0 d.walk.0 walked.1.1 d.walk.1)

  free : (g : LeanEnd) → Covers marks g (p ++ q) m → ¬ IsTrue (g.needed x.id)
  free g k n = not_in (k.needed x.id n).0

  by_read : (a : Answer) → answer ≡ a → Fits (Reg m) a → Reads x.op → m ≡ t → Leads marks (Returned x.id answer) e order t
  by_read Nothing z fits r same =
      let cov = covers_read marks before walked.0 (p ++ q) x m t cut.1.run step invoked not_in walked.2 r same in
      let is : IsRead marks x.id = (x.op, invoked, r) in
      let f = goes marks x.id answer well walked.0 order t cov (no_write marks x.id answer well is walked.0 order) in
      (f.0, inr (inr (inl (is, z, (walked.0, false, walked.1, f.1)))), f.2)
  by_read (Number v) z fits r same =
      let d = settled marks before walked.0 (p ++ q) m walked.2 in
      let cov = covers_read marks before d.end (p ++ q) x m t cut.1.run step invoked not_in d.covers r same in
      let is : IsRead marks x.id = (x.op, invoked, r) in
      let f = goes marks x.id answer well d.end order t cov (no_write marks x.id answer well is d.end order) in
      (f.0, inr (inr (inr (v, is, z, inr (inr (d.end, d.writes, longer_walk d, sym d.same.state ∙ fits, f.1))))), f.2)
  by_read (Numbers v w) z fits r same = absurd fits
  by_read (Many members) z fits r same = absurd fits

  pub ok_behind : Leads marks (Returned x.id answer) e order t
  ok_behind = ⊎_elim
      (λ r. by_read answer refl (subst (λ f. Fits f answer) r.3 (l.fits x answer here (returned marks x.id answer well))) (r.0, r.1) r.2)
      (λ o. ⊎_elim
      (λ w.
      let may : MayWrite marks x.id w.0 = record { write = (x.op, invoked, (w.1, w.2)); not_returned = open_now.not_returned; not_failed = open_now.not_failed } in
      let g = some_behind marks before walked.0 x.id w.0 in
      let cov = covers_written marks before walked.0 (p ++ q) x m t cut.1.run step invoked not_in walked.2 w.0 may (w.1, w.2) w.3 g.0 g.1 in
      let f = goes marks x.id answer well g.0 order t cov (λ y v j z. j.free ((g.1.needed y).1 (inl z))) in
      (f.0, inl (w.0, may.write, inr (inr (walked.0, g.0, walked.1, free walked.0 walked.2, g.1, f.1))), f.2))
      (λ k.
      let may : MayCas marks x.id k.0 k.1 = record { cas = (x.op, invoked, (k.2, k.3)); not_returned = open_now.not_returned; not_failed = open_now.not_failed } in
      let d = settled marks before walked.0 (p ++ q) m walked.2 in
      let g = some_set marks before d.end x.id k.0 k.1 (sym d.same.state ∙ k.4) in
      let cov = covers_set marks before d.end (p ++ q) x m t cut.1.run step invoked not_in d.covers k.0 k.1 may k.5 d.same g.0 g.1 in
      let f = goes marks x.id answer well g.0 order t cov (λ y v j z. cas_no_write marks before x.id k.0 k.1 may.cas v (subst (λ n. IsWriteOf marks n v) z j.may.write)) in
      (f.0, inr (inl (k.0, k.1, may.cas, inr (d.end, g.0, d.writes, longer_walk d, free d.end d.covers, g.1, f.1))), f.2))
      o)
      (step_view x.op m t x.found step)
