-- a read that has answered v takes place just where cas [v v] does
use Rattle.std.proofs.Common.{◌≡◌, ◌≢◌, ◌↔◌, ℕ, ℤ, ◌⊎◌, inl, inr, ⊎_elim, Option, Some, None, List, [], ◌∷◌, ◌++◌, refl, sym, ap, ◌∙◌, subst}
use Rattle.std.specs.List.{Contains}
use Rattle.std.proofs.lemmas.List.Elements.{Contains-append_right}
use Rattle.models.specs.declared.operation.Name.TheVariants.{Read, Write, Cas}
use Rattle.models.specs.declared.operation.Part.TheVariants.{Nil, Pair}
use Rattle.models.specs.declared.operation.Op.{Op}
use Rattle.models.specs.declared.finding.Found.TheVariants.{Unit as Done, Reg}
use Rattle.models.specs.declared.finding.Answer.{Answer}
use Rattle.models.specs.declared.finding.Answer.TheVariants.{Number}
use Rattle.models.specs.Objects.{Fits, register, cas_register}
use Rattle.events.specs.Events.{Mark}
use Rattle.events.specs.Events.Mark.{Invoked, Returned, Failed}
use Rattle.linspec.specs.MarkRule.{AreWellFormed}
use Rattle.linspec.specs.Orders.{Taken, Run, IsLegalOrder, IsLinearizable}
use Rattle.linspec.proofs.Lists.{Contains-head, Contains-tail}
use Rattle.shrinking_laws.specs.ReadsAsCas.{AreAnsweredReads, cas_if, answer_if, reads_as_cas, HasNoCas}
use Rattle.shrinking_laws.proofs.Matching.{Matches, IsLegalOrder-match, simulated}
use Rattle.shrinking_laws.proofs.Once.{one_op, one_answer}
use Rattle.shrinking_laws.proofs.Relabelling.{from_invoked, from_returned, from_failed, to_invoked, to_returned, to_failed, from_precedes, to_precedes}
use Rattle.shrinking_laws.proofs.RegisterSteps.{view_register, view_cas_register, by_cas_view, by_view}

by_option : {P : Type 0} (r : Option ℤ) → (r ≡ None → P) → ((v : ℤ) → r ≡ Some v → P) → P
by_option None none some = none refl
by_option (Some v) none some = some v refl

module _ (reads : ℕ → Option ℤ) where
  abbrev ops : ℕ → Op → Op
  ops id op = cas_if op (reads id)

  abbrev answers : ℕ → Answer → Answer
  answers id answer = answer_if answer (reads id)

  -- an operation of an order of the one history, and of the other
  record Same (ms : List Mark) (x y : Taken) : Type 0 where
    id : y.id ≡ x.id
    invoked : Contains ms (Invoked y.id y.op)
    fits : (answer : Answer) → Contains ms (Returned y.id answer) → Fits y.found answer

  abbrev Never : Taken → Type 0
  Never x = ⊥

  module _ (ms : List Mark) (well : AreWellFormed ms) (are : AreAnsweredReads reads ms) where
    abbrev changed : List Mark
    changed = reads_as_cas reads ms

    is_read : (id : ℕ) (v : ℤ) (op : Op) → reads id ≡ Some v → Contains ms (Invoked id op) → (op.name ≡ Read) × (op.part ≡ Nil)
    is_read id v op e h =
        let q = are id v e in
        let same : q.0 ≡ op = one_op ms well id q.0 op q.1 h in
        (ap (λ (p : Op). p.name) (sym same) ∙ q.2, ap (λ (p : Op). p.part) (sym same) ∙ q.3)

    middle : (before after order : List Taken) (x : Taken) → before ++ x ∷ after ≡ order → Contains order x
    middle before after order x whole = subst (λ l. Contains l x) whole (Contains-append_right before (x ∷ after) x (Contains-head x after))

    abbrev Step : (List Mark) → Taken → Option ℤ → Option ℤ → Type 0
    Step other x t v = (Never x × (t ≡ v)) ⊎ ((y : Taken) × (w : Option ℤ) × Same other x y × cas_register.Steps v y.op y.found w × (t ≡ w))

    module _ (order : List Taken) (end : Option ℤ) (l : IsLegalOrder cas_register ms order end) where
      step_to : (x : Taken) (s t v : Option ℤ) → Contains order x → s ≡ v → cas_register.Steps s x.op x.found t → Step changed x t v
      step_to x s t v h same step = by_option (reads x.id) none some
        where
          there : Contains changed (Invoked x.id (cas_if x.op (reads x.id)))
          there = to_invoked ops answers ms x.id x.op (l.invoked x h)

          none : reads x.id ≡ None → Step changed x t v
          none e = inr (
            x,
            t,
            record {
              id = refl;
              invoked = subst (λ r. Contains changed (Invoked x.id (cas_if x.op r))) e there;
              fits = λ answer d. (let q = from_returned ops answers ms x.id answer d in subst (Fits x.found) (ap (λ r. answer_if q.0 r) (sym e) ∙ q.2) (l.fits x q.0 h q.1));
            },
            subst (λ w. cas_register.Steps w x.op x.found t) same step,
            refl,
          )

          some : (v' : ℤ) → reads x.id ≡ Some v' → Step changed x t v
          some a e =
              let is = is_read x.id a x.op e (l.invoked x h) in
              let fits : Fits x.found (Number a) = l.fits x (Number a) h (are x.id a e).4 in
              ⊎_elim
              (λ k. (let clash : Write ≡ Read = sym k.1 ∙ is.0 in absurd (let no : ⊥ = cc in no)))
              (λ j. ⊎_elim
              (λ k.
              let state : s ≡ Some a = subst (λ g. Fits g (Number a)) k.3 fits in
              let after : t ≡ Some a = k.2 ∙ state in
              let y : Taken = record { id = x.id; op = cas_if x.op (Some a); found = Done } in
              inr (
                y,
                t,
                record {
                  id = refl;
                  invoked = subst (λ r. Contains changed (Invoked x.id (cas_if x.op r))) e there;
                  fits = λ answer d. tt;
                },
                by_cas_view Cas (Pair a a) v t Done (inr (inr (a, a, refl, refl, sym same ∙ state, after, refl))),
                refl,
              ))
              (λ k. (let clash : Cas ≡ Read = sym k.2 ∙ is.0 in absurd (let no : ⊥ = cc in no)))
              j)
              (view_cas_register x.op.name x.op.part s t x.found step)

      runs_to : (ys : List Taken) × (w : Option ℤ) × Matches Never (Same changed) order ys × Run cas_register None ys w
      runs_to = simulated cas_register cas_register Never (Same changed) (λ before s v. s ≡ v) order
          (λ before after x s t v whole same step. step_to x s t v (middle before after order x whole) same step) [] order None end None refl refl l.run

    pub to_cas : IsLinearizable cas_register ms → IsLinearizable cas_register changed
    to_cas h =
        let l : IsLegalOrder cas_register ms h.0 h.1 = h.2 in
        let r = runs_to h.0 h.1 l in (
          r.0,
          r.1,
          IsLegalOrder-match Never (Same changed) ms changed (λ x y k. k.id) (from_precedes ops answers ms) cas_register cas_register h.0 r.0 h.1 r.1 l r.2 r.3
              (λ x y i k. k.invoked)
              (λ x y i k d. subst (λ n. Contains ms (Failed n)) k.id (from_failed ops answers ms y.id d))
              (λ id d. ((let q = from_returned ops answers ms id d.0 d.1 in (q.0, q.1)), (λ x i e no. no)))
              (λ x y answer i k d. k.fits answer d),
        )

    module _ (order : List Taken) (end : Option ℤ) (l : IsLegalOrder cas_register changed order end) where
      step_back : (x : Taken) (s t v : Option ℤ) → Contains order x → s ≡ v → cas_register.Steps s x.op x.found t → Step ms x t v
      step_back x s t v h same step = by_option (reads x.id) none some
        where
          was : (before : Op) × Contains ms (Invoked x.id before) × (cas_if before (reads x.id) ≡ x.op)
          was = from_invoked ops answers ms x.id x.op (l.invoked x h)

          answered : (answer : Answer) → Contains ms (Returned x.id answer) → Fits x.found (answer_if answer (reads x.id))
          answered answer d = l.fits x (answer_if answer (reads x.id)) h (to_returned ops answers ms x.id answer d)

          none : reads x.id ≡ None → Step ms x t v
          none e = inr (
            x,
            t,
            record {
              id = refl;
              invoked = subst (λ p. Contains ms (Invoked x.id p)) (ap (λ r. cas_if was.0 r) (sym e) ∙ was.2) was.1;
              fits = λ answer d. subst (λ r. Fits x.found (answer_if answer r)) e (answered answer d);
            },
            subst (λ w. cas_register.Steps w x.op x.found t) same step,
            refl,
          )

          some : (v' : ℤ) → reads x.id ≡ Some v' → Step ms x t v
          some a e =
              let is = is_read x.id a was.0 e was.1 in
              let now : cas_if was.0 (Some a) ≡ x.op = ap (λ r. cas_if was.0 r) (sym e) ∙ was.2 in
              let name : Cas ≡ x.op.name = ap (λ (p : Op). p.name) now in
              let part : Pair a a ≡ x.op.part = ap (λ (p : Op). p.part) now in
              ⊎_elim
              (λ k. (let clash : Cas ≡ Write = name ∙ k.1 in absurd (let no : ⊥ = cc in no)))
              (λ j. ⊎_elim
              (λ k. (let clash : Cas ≡ Read = name ∙ k.0 in absurd (let no : ⊥ = cc in no)))
              (λ k.
              let pairs : Pair a a ≡ Pair k.0 k.1 = part ∙ k.3 in
              let first : a ≡ k.0 = cc in
              let second : a ≡ k.1 = cc in
              let state : v ≡ Some a = sym same ∙ k.4 ∙ ap Some (sym first) in
              let after : t ≡ v = k.5 ∙ ap Some (sym second) ∙ sym {b = Some a} state in
              let y : Taken = record { id = x.id; op = was.0; found = Reg v } in
              inr (
                y,
                v,
                record {
                  id = refl;
                  invoked = was.1;
                  fits = λ answer d. (let q : Number a ≡ answer = one_answer ms well x.id (Number a) answer (are x.id a e).4 d in subst (Fits (Reg v)) q state);
                },
                by_cas_view was.0.name was.0.part v v (Reg v) (inr (inl (is.0, is.1, refl, refl))),
                after,
              ))
              j)
              (view_cas_register x.op.name x.op.part s t x.found step)

      runs_back : (ys : List Taken) × (w : Option ℤ) × Matches Never (Same ms) order ys × Run cas_register None ys w
      runs_back = simulated cas_register cas_register Never (Same ms) (λ before s v. s ≡ v) order
          (λ before after x s t v whole same step. step_back x s t v (middle before after order x whole) same step) [] order None end None refl refl l.run

    pub from_cas : IsLinearizable cas_register changed → IsLinearizable cas_register ms
    from_cas h =
        let l : IsLegalOrder cas_register changed h.0 h.1 = h.2 in
        let r = runs_back h.0 h.1 l in (
          r.0,
          r.1,
          IsLegalOrder-match Never (Same ms) changed ms (λ x y k. k.id) (to_precedes ops answers ms) cas_register cas_register h.0 r.0 h.1 r.1 l r.2 r.3
              (λ x y i k. k.invoked)
              (λ x y i k d. subst (λ n. Contains changed (Failed n)) k.id (to_failed ops answers ms y.id d))
              (λ id d. ((answer_if d.0 (reads id), to_returned ops answers ms id d.0 d.1), (λ x i e no. no)))
              (λ x y answer i k d. k.fits answer d),
        )

    pub as_cas : IsLinearizable cas_register ms ↔ IsLinearizable cas_register changed
    as_cas = (to_cas, from_cas)

-- without a compare-and-set a register with it is one without it
module _ (ms : List Mark) (no : HasNoCas ms) where
  run_with : (order : List Taken) (s t : Option ℤ) → Run register s order t → Run cas_register s order t
  run_with [] s t r = r
  run_with (x ∷ order) s t r = (r.0, by_cas_view x.op.name x.op.part s r.0 x.found (view_register x.op.name x.op.part s r.0 x.found r.1), run_with order r.0 t r.2)

  run_plain : (order : List Taken) (s t : Option ℤ) → ((x : Taken) → Contains order x → x.op.name ≢ Cas) → Run cas_register s order t → Run register s order t
  run_plain [] s t each r = r
  run_plain (x ∷ order) s t each r = (
    r.0,
    by_view x.op.name x.op.part s r.0 x.found (each x (Contains-head x order)) (view_cas_register x.op.name x.op.part s r.0 x.found r.1),
    run_plain order r.0 t (λ y h. each y (Contains-tail x order y h)) r.2,
  )

  pub plain_as_cas_register : IsLinearizable register ms ↔ IsLinearizable cas_register ms
  plain_as_cas_register = (
    (λ h. let l : IsLegalOrder register ms h.0 h.1 = h.2 in (h.0, h.1, record { invoked = l.invoked; once = l.once; none_failed = l.none_failed; all_done = l.all_done; in_time = l.in_time; run = run_with h.0 None h.1 l.run; fits = l.fits })),
    (λ h. let l : IsLegalOrder cas_register ms h.0 h.1 = h.2 in (h.0, h.1, record { invoked = l.invoked; once = l.once; none_failed = l.none_failed; all_done = l.all_done; in_time = l.in_time; run = run_plain h.0 None h.1 (λ x i. no x.id x.op (l.invoked x i)) l.run; fits = l.fits })),
  )
