-- the operations that may be left out of the history of a register
use Rattle.std.proofs.Common.{◌≡◌, ◌≢◌, ℕ, ℤ, ◌⊎◌, inl, inr, ⊎_elim, Bool, true, false, Option, Some, None, List, [], ◌∷◌, ◌++◌, refl, sym, ap, ◌∙◌, subst, append_assoc}
use Rattle.std.specs.List.{Contains}
use Rattle.std.proofs.lemmas.Bool.{cases_Bool, true≢false}
use Rattle.std.proofs.lemmas.List.Elements.{Contains-append_right, Contains-append_left, Contains-append_cases, Contains-push_cases}
use Rattle.models.specs.declared.operation.Name.{Name}
use Rattle.models.specs.declared.operation.Name.TheVariants.{Read, Write, Cas}
use Rattle.models.specs.declared.operation.Part.{Part}
use Rattle.models.specs.declared.operation.Part.TheVariants.{Nil, Int, Pair}
use Rattle.models.specs.declared.operation.Op.{Op}
use Rattle.models.specs.declared.finding.Found.{Found}
use Rattle.models.specs.declared.finding.Found.TheVariants.{Reg}
use Rattle.models.specs.declared.finding.Answer.{Answer}
use Rattle.models.specs.declared.finding.Answer.TheVariants.{Nothing, Number, Numbers, Many}
use Rattle.models.specs.Objects.{Object, Fits, register, cas_register}
use Rattle.events.specs.Events.{Mark}
use Rattle.events.specs.Events.Mark.{Invoked, Returned}
use Rattle.linspec.specs.MarkRule.{AreWellFormed}
use Rattle.linspec.specs.Operations.{HasReturned, Precedes}
use Rattle.linspec.specs.Orders.{Taken, Includes, Pairwise, Run, IsLegalOrder, IsLinearizable}
use Rattle.linspec.proofs.Lists.{Contains-nil, Contains-head, Contains-cons_cases, Pairwise-across, Pairwise-left, Pairwise-right}
use Rattle.shrinking_laws.specs.LeftOut.{without}
use Rattle.shrinking_laws.specs.Registers.{brought_by, compared_by, IsBringer, IsFinder, MayHaveFound, DragsFinders, IsByValues}
use Rattle.shrinking_laws.proofs.Matching.{Matches, simulated}
use Rattle.shrinking_laws.proofs.Once.{one_op, not_before_itself}
use Rattle.shrinking_laws.proofs.LeftOut.{MayGo, Stays, IsLinearizable-rest}
use Rattle.shrinking_laws.proofs.RegisterSteps.{IsRead, IsCas, View, view_register, view_cas_register, by_cas_view, by_view, no_cas}

-- the written and the compared value, by the sort of the operation
brings_write : (name : Name) (part : Part) (v : ℤ) → name ≡ Write → part ≡ Int v → brought_by name part ≡ Some v
brings_write name part v e f = λ i. brought_by (e i) (f i)

brings_cas : (name : Name) (part : Part) (a b : ℤ) → name ≡ Cas → part ≡ Pair a b → brought_by name part ≡ Some b
brings_cas name part a b e f = λ i. brought_by (e i) (f i)

brings_read : (name : Name) (part : Part) → name ≡ Read → part ≡ Nil → brought_by name part ≡ None
brings_read name part e f = λ i. brought_by (e i) (f i)

compares_cas : (name : Name) (part : Part) (a b : ℤ) → name ≡ Cas → part ≡ Pair a b → compared_by name part ≡ Some a
compares_cas name part a b e f = λ i. compared_by (e i) (f i)

same_some : (a b : ℤ) (s : Option ℤ) → s ≡ Some a → s ≡ Some b → a ≡ b
same_some a b s e f = let q : Some a ≡ Some b = sym e ∙ f in cc

-- where the state is v, an answer that fits another state fits it, or is v
other_fits : (v : ℤ) (s w : Option ℤ) (answer : Answer) → s ≡ Some v → answer ≢ Number v → Fits (Reg s) answer → Fits (Reg w) answer
other_fits v s w Nothing e ne fits = fits
other_fits v s w (Number a) e ne fits = absurd (ne (ap Number (same_some a v s fits e)))
other_fits v s w (Numbers a b) e ne fits = fits
other_fits v s w (Many members) e ne fits = fits

module _ (Steps : Option ℤ → Op → Found → Option ℤ → Type 0)
    (view : (s t : Option ℤ) (op : Op) (found : Found) → Steps s op found t → View op.name op.part s found t)
    (again : (s t v w : Option ℤ) (op : Op) (found other : Found) → Steps s op found t → View op.name op.part v other w → Steps v op other w)
    (marks : List Mark) (well : AreWellFormed marks) (out : ℕ → Bool) (drags : DragsFinders out marks) where
  abbrev o : Object
  o = record { State = Option ℤ; start = None; Steps = Steps }

  module _ (order : List Taken) (end : Option ℤ) (l : IsLegalOrder o marks order end) where
    -- the last bringer of a front is left out, and brought its state in
    record LastIsOut (before : List Taken) (s : Option ℤ) : Type 0 where
      front : List Taken
      bringer : Taken
      rest : List Taken
      whole : front ++ bringer ∷ rest ≡ before
      left_out : out bringer.id ≡ true
      value : ℤ
      brings : brought_by bringer.op.name bringer.op.part ≡ Some value
      state : s ≡ Some value
      none_after : (y : Taken) → Contains rest y → brought_by y.op.name y.op.part ≡ None

    -- how the state compares with the one that the rest has
    abbrev Compares : List Taken → Option ℤ → Option ℤ → Type 0
    Compares before s v = (s ≡ v) ⊎ LastIsOut before s

    in_order : (x : Taken) → Contains order x → Contains marks (Invoked x.id x.op)
    in_order x h = l.invoked x h

    module _ (before after : List Taken) (x : Taken) (whole : before ++ x ∷ after ≡ order) where
      abbrev InTime : Taken → Taken → Type 0
      InTime y z = ¬ Precedes marks z.id y.id

      in_time : Pairwise InTime (before ++ x ∷ after)
      in_time = subst (Pairwise InTime) (sym whole) l.in_time

      here : Contains order x
      here = subst (λ k. Contains k x) whole (Contains-append_right before (x ∷ after) x (Contains-head x after))

      -- a finder of the value may have found it
      module _ (s : Option ℤ) (last : LastIsOut before s) where
        abbrev b : Taken
        b = last.bringer

        parts : (P : List Taken → Type 0) → P before → P (last.front ++ b ∷ last.rest)
        parts P h = subst P (sym last.whole) h

        b_before : Contains before b
        b_before = subst (λ k. Contains k b) last.whole (Contains-append_right last.front (b ∷ last.rest) b (Contains-head b last.rest))

        b_there : Contains order b
        b_there = subst (λ k. Contains k b) whole (Contains-append_left before (x ∷ after) b b_before)

        is_bringer : IsBringer marks b.id last.value
        is_bringer = (b.op, in_order b b_there, last.brings)

        none_between : (third : ℕ) (v : ℤ) → IsBringer marks third v → HasReturned marks third → Precedes marks b.id third → ¬ Precedes marks third x.id
        none_between third v brings done p q =
            let i : Includes order third = l.all_done third done in
            let z : Taken = i.0 in
            let p' : Precedes marks b.id z.id = subst (λ n. Precedes marks b.id n) (sym i.2) p in
            let q' : Precedes marks z.id x.id = subst (λ n. Precedes marks n x.id) (sym i.2) q in
            ⊎_elim
            (λ k. ⊎_elim
            (λ j. Pairwise-across InTime last.front (b ∷ last.rest) (parts (Pairwise InTime) (Pairwise-left InTime before (x ∷ after) in_time)) z b j (Contains-head b last.rest) p')
            (λ j. ⊎_elim
            (λ (e : b ≡ z). not_before_itself marks well b.id (subst (λ (w : Taken). Precedes marks b.id w.id) (sym e) p'))
            (λ r.
            let same : brings.0 ≡ z.op = one_op marks well third brings.0 z.op brings.1 (subst (λ n. Contains marks (Invoked n z.op)) i.2 (in_order z i.1)) in
            let none : brought_by z.op.name z.op.part ≡ None = last.none_after z r in
            let some : brought_by z.op.name z.op.part ≡ Some v = subst (λ (p : Op). brought_by p.name p.part ≡ Some v) same brings.2 in
            (let clash : None ≡ Some v = sym none ∙ some in cc))
            (Contains-cons_cases b last.rest z j))
            (Contains-append_cases last.front (b ∷ last.rest) z (parts (λ k. Contains k z) k)))
            (λ k. ⊎_elim
            (λ (e : x ≡ z). not_before_itself marks well x.id (subst (λ (w : Taken). Precedes marks w.id x.id) (sym e) q'))
            (λ j. (Pairwise-right InTime before (x ∷ after) in_time).0 z j q')
            (Contains-cons_cases x after z k))
            (Contains-append_cases before (x ∷ after) z (subst (λ k. Contains k z) (sym whole) i.1))

        may_have_found : MayHaveFound marks b.id x.id
        may_have_found = record {
          not_before = Pairwise-across InTime before (x ∷ after) in_time b x b_before (Contains-head x after);
          none_between = none_between;
        }

        goes_too : IsFinder marks x.id last.value → out x.id ≡ true
        goes_too finder = drags b.id x.id last.value is_bringer finder may_have_found last.left_out

        still_last : brought_by x.op.name x.op.part ≡ None → LastIsOut (before ++ x ∷ []) s
        still_last none = record {
          front = last.front;
          bringer = b;
          rest = last.rest ++ x ∷ [];
          whole = sym (append_assoc last.front (b ∷ last.rest) (x ∷ [])) ∙ ap (λ k. k ++ x ∷ []) last.whole;
          left_out = last.left_out;
          value = last.value;
          brings = last.brings;
          state = last.state;
          none_after = λ y h. ⊎_elim (last.none_after y) (λ e. subst (λ (w : Taken). brought_by w.op.name w.op.part ≡ None) e none) (Contains-push_cases last.rest x y h);
        }

      now_last : (v : ℤ) (t : Option ℤ) → out x.id ≡ true → brought_by x.op.name x.op.part ≡ Some v → t ≡ Some v → LastIsOut (before ++ x ∷ []) t
      now_last v t e brings state = record {
        front = before;
        bringer = x;
        rest = [];
        whole = refl;
        left_out = e;
        value = v;
        brings = brings;
        state = state;
        none_after = λ y h. absurd (Contains-nil y h);
      }

      -- one step, of an operation that goes or stays
      module _ (s t v : Option ℤ) (how : Compares before s v) (step : Steps s x.op x.found t) where
        abbrev Next : Type 0
        Next = (MayGo out marks x × Compares (before ++ x ∷ []) t v)
            ⊎ ((y : Taken) × (w : Option ℤ) × Stays out marks x y × Steps v y.op y.found w × Compares (before ++ x ∷ []) t w)

        reads_on : brought_by x.op.name x.op.part ≡ None → t ≡ s → (w : Option ℤ) → w ≡ v → Compares (before ++ x ∷ []) t w
        reads_on none same w is = ⊎_elim
            (λ e. inl (same ∙ e ∙ sym is))
            (λ last. inr (subst (LastIsOut (before ++ x ∷ [])) (sym same) (still_last s last none)))
            how

        goes : out x.id ≡ true → Next
        goes e = inl (
          inl e,
          ⊎_elim
              (λ k. inr (now_last k.0 t e (brings_write x.op.name x.op.part k.0 k.1 k.2) k.3))
              (λ j. ⊎_elim
              (λ k. reads_on (brings_read x.op.name x.op.part k.0 k.1) k.2 v refl)
              (λ k. inr (now_last k.1 t e (brings_cas x.op.name x.op.part k.0 k.1 k.2 k.3) k.5))
              j)
              (view s t x.op x.found step),
        )

        no_finder : out x.id ≡ false → (last : LastIsOut before s) → ¬ IsFinder marks x.id last.value
        no_finder e last finder = true≢false (sym (goes_too s last finder) ∙ e)

        stays : out x.id ≡ false → Next
        stays e = inr (⊎_elim
            (λ k. (x, t, record { stays = e; id = refl; op = refl; fits = fits_here }, again s t v t x.op x.found x.found step (inl (k.0, k.1, k.2, k.3, k.4)), inl refl))
            (λ j. ⊎_elim
            (λ k. (
              record x { found = Reg v },
              v,
              record { stays = e; id = refl; op = refl; fits = λ answer d. fits_read k answer d },
              again s t v v x.op x.found (Reg v) step (inr (inl (k.0, k.1, refl, refl))),
              reads_on (brings_read x.op.name x.op.part k.0 k.1) k.2 v refl,
            ))
            (λ k. (
              x,
              t,
              record { stays = e; id = refl; op = refl; fits = fits_here },
              again s t v t x.op x.found x.found step (inr (inr (k.0, k.1, k.2, k.3, at_cas k, k.5, k.6))),
              inl refl,
            ))
            j)
            (view s t x.op x.found step))
          where
            fits_here : (answer : Answer) → Contains marks (Returned x.id answer) → Fits x.found answer
            fits_here answer d = l.fits x answer here d

            fits_read : IsRead x.op.name x.op.part s x.found t → (answer : Answer) → Contains marks (Returned x.id answer) → Fits (Reg v) answer
            fits_read k answer d =
                let fits : Fits (Reg s) answer = subst (λ f. Fits f answer) k.3 (l.fits x answer here d) in
                ⊎_elim
                (λ q. subst (λ w. Fits (Reg w) answer) q fits)
                (λ last. other_fits last.value s v answer last.state
                (λ q. no_finder e last (x.op, in_order x here, inl (k.0, subst (λ a. Contains marks (Returned x.id a)) q d))) fits)
                how

            at_cas : (k : IsCas x.op.name x.op.part s x.found t) → v ≡ Some k.0
            at_cas k = ⊎_elim
                (λ q. sym q ∙ k.4)
                (λ last. absurd (no_finder e last (
                  x.op,
                  in_order x here,
                  inr (compares_cas x.op.name x.op.part k.0 k.1 k.2 k.3 ∙ ap Some (same_some k.0 last.value s k.4 last.state)),
                )))
                how

        next : Next
        next = ⊎_elim goes stays (cases_Bool (out x.id))

    rest_runs : (other : List Taken) × (t : Option ℤ) × Matches (MayGo out marks) (Stays out marks) order other × Run o None other t
    rest_runs = simulated o o (MayGo out marks) (Stays out marks) Compares order
        (λ before after x s t v whole how step. next before after x whole s t v how step)
        [] order None end None refl (inl refl) l.run

  rest_linearizable : IsLinearizable o marks → IsLinearizable o (without out marks)
  rest_linearizable h = IsLinearizable-rest out o marks (λ order s l. rest_runs order s l) h

pub IsLinearizable-without_finders : (marks : List Mark) (out : ℕ → Bool) → AreWellFormed marks → DragsFinders out marks → IsLinearizable register marks → IsLinearizable register (without out marks)
IsLinearizable-without_finders marks out well drags h =
    rest_linearizable register.Steps
    (λ s t op found step. view_register op.name op.part s t found step)
    (λ s t v w op found other step how. by_view op.name op.part v w other (λ e. no_cas op.name op.part s t found e step) how)
    marks well out drags h

pub IsLinearizable-without_finders_cas : (marks : List Mark) (out : ℕ → Bool) → AreWellFormed marks → DragsFinders out marks → IsLinearizable cas_register marks → IsLinearizable cas_register (without out marks)
IsLinearizable-without_finders_cas marks out well drags h =
    rest_linearizable cas_register.Steps
    (λ s t op found step. view_cas_register op.name op.part s t found step)
    (λ s t v w op found other step how. by_cas_view op.name op.part v w other how)
    marks well out drags h

pub by_values : (marks : List Mark) (out : ℕ → Bool) → IsByValues out marks → DragsFinders out marks
by_values marks out by bringer finder v b f may h = by bringer finder v (inl b) (inr f) h
