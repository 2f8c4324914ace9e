-- the steps of a register
use Rattle.std.proofs.Common.{◌≡◌, ℤ, ◌⊎◌, inl, inr, ⊎_elim, Option, Some, List, [], ◌∷◌, ◌++◌, refl, sym, ap, ◌∙◌, subst}
use Rattle.std.specs.List.{Contains}
use Rattle.models.specs.declared.operation.Name.{Name}
use Rattle.models.specs.declared.operation.Name.TheVariants.{Read, Write}
use Rattle.models.specs.declared.operation.Part.{Part}
use Rattle.models.specs.declared.operation.Part.TheVariants.{Nil, Int}
use Rattle.models.specs.declared.operation.Op.{Op}
use Rattle.models.specs.declared.finding.Found.{Found}
use Rattle.models.specs.declared.finding.Found.TheVariants.{Unit as Done, Reg}
use Rattle.models.specs.Objects.{IsOneOf, register, register_apply}
use Rattle.models.proofs.Steps.{same_outcome}
use Rattle.linspec.specs.Orders.{Taken, Run}
use Rattle.linspec.proofs.Lists.{Contains-nil, Contains-cons_cases}
use Rattle.linspec.specs.LeanEnds.{Writes, Reads}

-- a step is a write's or a read's
abbrev pub View : Name → Part → Option ℤ → Found → Option ℤ → Type 0
View name part s found t =
    ((name ≡ Read) × (part ≡ Nil) × (s ≡ t) × (found ≡ Reg s))
    ⊎ ((v : ℤ) × (name ≡ Write) × (part ≡ Int v) × (t ≡ Some v) × (found ≡ Done))

view : (name : Name) (part : Part) (s t : Option ℤ) (found : Found) → IsOneOf (register_apply name part s) (t, found) → View name part s found t
view Write (Int v) s t found h = let p = same_outcome (Some v, Done) (t, found) h in inr (v, refl, refl, sym p.0, sym p.1)
view Read Nil s t found h = let p = same_outcome (s, Reg s) (t, found) h in inl (refl, refl, p.0, sym p.1)
view _ _ s t found h = absurd h

pub step_view : (op : Op) (s t : Option ℤ) (found : Found) → register.Steps s op found t → View op.name op.part s found t
step_view op s t found h = view op.name op.part s t found h

pub write_step : (op : Op) (v : ℤ) (s : Option ℤ) → Writes op v → register.Steps s op Done (Some v)
write_step op v s w =
    subst (λ n. IsOneOf (register_apply n op.part s) (Some v, Done)) (sym w.0)
    (subst (λ p. IsOneOf (register_apply Write p s) (Some v, Done)) (sym w.1) (inl refl))

pub read_step : (op : Op) (s : Option ℤ) → Reads op → register.Steps s op (Reg s) s
read_step op s r =
    subst (λ n. IsOneOf (register_apply n op.part s) (s, Reg s)) (sym r.0)
    (subst (λ p. IsOneOf (register_apply Read p s) (s, Reg s)) (sym r.1) (inl refl))

-- the answer of a write, and the state after it, do not depend on the state
pub write_anywhere : (op : Op) (v : ℤ) (s s2 t : Option ℤ) (found : Found) → Writes op v → register.Steps s op found t → register.Steps s2 op found t
write_anywhere op v s s2 t found w h =
    let at : (x : Option ℤ) → register.Steps x op found t ≡ IsOneOf (register_apply Write (Int v) x) (t, found) = λ x. ap (λ n. IsOneOf (register_apply n op.part x) (t, found)) w.0 ∙ ap (λ p. IsOneOf (register_apply Write p x) (t, found)) w.1 in
    subst (λ T. T) (sym (at s2)) (subst (λ T. T) (at s) h)

-- a write and a read are two things
pub no_read : (op : Op) (v : ℤ) → Writes op v → ¬ Reads op
no_read op v w r = let e : Write ≡ Read = sym w.0 ∙ r.0 in cc

pub one_value : (op : Op) (v w : ℤ) → Writes op v → Writes op w → v ≡ w
one_value op v w a b = let e : Int v ≡ Int w = sym a.1 ∙ b.1 in cc

-- a run of reads leaves the state; else the last of its writes gives it
pub record LastWrite (xs : List Taken) (t : Option ℤ) : Type 0 where
  pub before : List Taken
  pub write : Taken
  pub behind : List Taken
  pub cut : xs ≡ before ++ write ∷ behind
  pub value : ℤ
  pub writes : Writes write.op value
  pub left : t ≡ Some value
  pub reads : (y : Taken) → Contains behind y → Reads y.op

pub run_view : (xs : List Taken) (s t : Option ℤ) → Run register s xs t → (((y : Taken) → Contains xs y → Reads y.op) × (t ≡ s)) ⊎ LastWrite xs t
run_view [] s t r = inl ((λ y h. absurd (Contains-nil y h)), sym r)
run_view (x ∷ xs) s t r = ⊎_elim
    (λ k. ⊎_elim
    (λ a. inl (
      (λ y h. ⊎_elim (λ e. subst (λ (z : Taken). Reads z.op) e (a.0, a.1)) (k.0 y) (Contains-cons_cases x xs y h)),
      k.1 ∙ sym a.2,
    ))
    (λ w. inr (record { before = []; write = x; behind = xs; cut = refl; value = w.0; writes = (w.1, w.2); left = k.1 ∙ w.3; reads = k.0 }))
    (step_view x.op s r.0 x.found r.1))
    (λ l. inr (record { before = x ∷ l.before; write = l.write; behind = l.behind; cut = ap (λ ys. x ∷ ys) l.cut; value = l.value; writes = l.writes; left = l.left; reads = l.reads }))
    (run_view xs r.0 t r.2)

-- a run has one end
pub run_same : (xs : List Taken) (s t u : Option ℤ) → Run register s xs t → Run register s xs u → t ≡ u
run_same [] s t u r q = sym r ∙ q
run_same (x ∷ xs) s t u r q =
    let mid : r.0 ≡ q.0 = ⊎_elim
    (λ a. ⊎_elim
    (λ b. sym a.2 ∙ b.2)
    (λ b. absurd (no_read x.op b.0 (b.1, b.2) (a.0, a.1)))
    (step_view x.op s q.0 x.found q.1))
    (λ a. ⊎_elim
    (λ b. absurd (no_read x.op a.0 (a.1, a.2) (b.0, b.1)))
    (λ b. a.3 ∙ ap Some (one_value x.op a.0 b.0 (a.1, a.2) (b.1, b.2)) ∙ sym b.3)
    (step_view x.op s q.0 x.found q.1))
    (step_view x.op s r.0 x.found r.1) in
    run_same xs q.0 t u (subst (λ m. Run register m xs t) mid r.2) q.2
