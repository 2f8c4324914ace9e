-- the operations that may be left out of the history of a set
use Rattle.std.proofs.Common.{◌≡◌, ℕ, ℤ, ◌⊎◌, inl, inr, ⊎_elim, Bool, true, false, List, [], ◌∷◌, ◌++◌, refl, sym, ap, ◌∙◌, subst}
use Rattle.std.specs.List.{Contains}
use Rattle.std.proofs.lemmas.Bool.{cases_Bool}
use Rattle.std.proofs.lemmas.List.Elements.{Contains-append_right, Contains-append_cases, Contains-push_cases}
use Rattle.models.specs.declared.operation.Name.{Name}
use Rattle.models.specs.declared.operation.Name.TheVariants.{Read, Add}
use Rattle.models.specs.declared.operation.Part.{Part}
use Rattle.models.specs.declared.operation.Part.TheVariants.{Nil, Int}
use Rattle.models.specs.declared.operation.Op.{Op}
use Rattle.models.specs.declared.finding.Found.{Found}
use Rattle.models.specs.declared.finding.Found.TheVariants.{Unit as Done, Elements}
use Rattle.values.specs.Members.{IsAscending, put_in}
use Rattle.models.specs.Objects.{IsOneOf, set_apply, set_of_numbers}
use Rattle.values.proofs.PutIn.{put_in-member, Contains-put_in, IsAscending-put_in}
use Rattle.models.proofs.Steps.{same_outcome}
use Rattle.events.specs.Events.{Mark}
use Rattle.events.specs.Events.Mark.{Invoked}
use Rattle.linspec.specs.MarkRule.{AreWellFormed}
use Rattle.linspec.specs.Operations.{Precedes}
use Rattle.linspec.specs.Orders.{Taken, Includes, Pairwise, Run, IsLegalOrder, IsLinearizable}
use Rattle.linspec.proofs.Lists.{Contains-nil, Contains-head, Contains-cons_cases, Pairwise-right}
use Rattle.linspec.proofs.Marks.{Precedes-returned}
use Rattle.shrinking_laws.specs.LeftOut.{without}
use Rattle.shrinking_laws.specs.Sets.{Adds, AreRepeatedAdds}
use Rattle.shrinking_laws.proofs.Matching.{Matches, simulated}
use Rattle.shrinking_laws.proofs.Once.{one_op, not_before_itself}
use Rattle.shrinking_laws.proofs.LeftOut.{MayGo, Stays, IsLinearizable-rest}

-- the possible steps
abbrev pub IsAdd : Name → Part → List ℤ → Found → List ℤ → Type 0
IsAdd name part s found t = (v : ℤ) × (name ≡ Add) × (part ≡ Int v) × (t ≡ put_in v s) × (found ≡ Done)

abbrev pub IsRead : Name → Part → List ℤ → Found → List ℤ → Type 0
IsRead name part s found t = (name ≡ Read) × (part ≡ Nil) × (t ≡ s) × (found ≡ Elements s)

pub set_view : (name : Name) (part : Part) (s t : List ℤ) (found : Found) → IsOneOf (set_apply name part s) (t, found) → IsAdd name part s found t ⊎ IsRead name part s found t
set_view Add (Int v) s t found h = let e = same_outcome (put_in v s, Done) (t, found) h in inl (v, refl, refl, sym e.0, sym e.1)
set_view Read Nil s t found h = let e = same_outcome (s, Elements s) (t, found) h in inr (refl, refl, sym e.0, sym e.1)
set_view _ _ s t found h = absurd h

pub by_add : (name : Name) (part : Part) (s t : List ℤ) (found : Found) → IsAdd name part s found t → IsOneOf (set_apply name part s) (t, found)
by_add name part s t found h =
    subst (λ n. IsOneOf (set_apply n part s) (t, found)) (sym h.1)
    (subst (λ p. IsOneOf (set_apply Add p s) (t, found)) (sym h.2)
    (inl (λ i. (sym h.3 i, sym h.4 i))))

pub by_read : (name : Name) (part : Part) (s t : List ℤ) (found : Found) → IsRead name part s found t → IsOneOf (set_apply name part s) (t, found)
by_read name part s t found h =
    subst (λ n. IsOneOf (set_apply n part s) (t, found)) (sym h.0)
    (subst (λ p. IsOneOf (set_apply Read p s) (t, found)) (sym h.1)
    (inl (λ i. (sym h.2 i, sym h.3 i))))

pub same_int_part : (a b : ℤ) (part : Part) → part ≡ Int a → part ≡ Int b → a ≡ b
same_int_part a b part e f = let q : Int a ≡ Int b = sym e ∙ f in cc

-- an add that another one of its value precedes changes nothing
module _ (ms : List Mark) (well : AreWellFormed ms) (out : ℕ → Bool) (are : AreRepeatedAdds out ms) where
  module _ (order : List Taken) (end : List ℤ) (l : IsLegalOrder set_of_numbers ms order end) where
    -- both have the same state, which has each value that was added
    record SameState (before : List Taken) (s w : List ℤ) : Type 0 where
      same : s ≡ w
      ascends : IsAscending s
      has : (y : Taken) (v : ℤ) → Contains before y → Adds y.op v → Contains s v

    module _ (before after : List Taken) (x : Taken) (s t w : List ℤ) (whole : before ++ x ∷ after ≡ order) (is : SameState before s w) (step : set_of_numbers.Steps s x.op x.found t) where
      abbrev InTime : Taken → Taken → Type 0
      InTime y z = ¬ Precedes ms z.id y.id

      in_time : Pairwise InTime (before ++ x ∷ after)
      in_time = subst (Pairwise InTime) (sym whole) l.in_time

      there : Contains order x
      there = subst (λ k. Contains k x) whole (Contains-append_right before (x ∷ after) x (Contains-head x after))

      -- who precedes it stands before it
      stands_before : (id : ℕ) → Precedes ms id x.id → (z : Taken) × Contains before z × Contains order z × (z.id ≡ id)
      stands_before id p =
          let i : Includes order id = l.all_done id (Precedes-returned ms id x.id p) in
          let p' : Precedes ms i.0.id x.id = subst (λ n. Precedes ms n x.id) (sym i.2) p in (
            i.0,
            ⊎_elim
                (λ k. k)
                (λ k. ⊎_elim
                (λ (e : x ≡ i.0). absurd (not_before_itself ms well x.id (subst (λ (z : Taken). Precedes ms z.id x.id) (sym e) p')))
                (λ j. absurd ((Pairwise-right InTime before (x ∷ after) in_time).0 i.0 j p'))
                (Contains-cons_cases x after i.0 k))
                (Contains-append_cases before (x ∷ after) i.0 (subst (λ k. Contains k i.0) (sym whole) i.1)),
            i.1,
            i.2,
          )

      already_in : out x.id ≡ true → (v : ℤ) → Adds x.op v → Contains s v
      already_in e v adds =
          let r = are x.id e (x.op, l.invoked x there) in
          let q = r.2 in
          let own : r.1.0 ≡ x.op = one_op ms well x.id r.1.0 x.op r.1.1 (l.invoked x there) in
          let same : r.0 ≡ v = same_int_part r.0 v x.op.part (ap (λ (p : Op). p.part) (sym own) ∙ r.1.2.1) adds.1 in
          let z = stands_before q.0 q.2 in
          let its : q.1.0 ≡ z.0.op = one_op ms well q.0 q.1.0 z.0.op q.1.1 (subst (λ n. Contains ms (Invoked n z.0.op)) z.3 (l.invoked z.0 z.2)) in
          is.has z.0 v z.1 (ap (λ (p : Op). p.name) (sym its) ∙ q.1.2.0, ap (λ (p : Op). p.part) (sym its) ∙ q.1.2.1 ∙ ap Int same)

      abbrev Next : Type 0
      Next = (MayGo out ms x × SameState (before ++ x ∷ []) t w) ⊎ ((y : Taken) × (u : List ℤ) × Stays out ms x y × set_of_numbers.Steps w y.op y.found u × SameState (before ++ x ∷ []) t u)

      kept : out x.id ≡ false → Stays out ms x x
      kept e = record { stays = e; id = refl; op = refl; fits = λ answer d. l.fits x answer there d }

      -- an added value is in afterwards, and the old ones stay
      has_after : (y : Taken) (v : ℤ) → Contains (before ++ x ∷ []) y → Adds y.op v → Contains t v
      has_after y v h adds =
          let k : Contains before y ⊎ (x ≡ y) = Contains-push_cases before x y h in
          ⊎_elim
          (λ j. subst (λ l. Contains l v) (sym j.3) ((Contains-put_in j.0 s v).1 (⊎_elim
          (λ i. inr (is.has y v i adds))
          (λ e. inl (same_int_part v j.0 x.op.part (ap (λ (z : Taken). z.op.part) e ∙ adds.1) j.2))
          k)))
          (λ j. subst (λ l. Contains l v) (sym j.2) (⊎_elim
          (λ i. is.has y v i adds)
          (λ e. (let clash : Read ≡ Add = sym j.0 ∙ ap (λ (z : Taken). z.op.name) e ∙ adds.0 in absurd (let none : ⊥ = cc in none)))
          k))
          (set_view x.op.name x.op.part s t x.found step)

      ascends_after : IsAscending t
      ascends_after = ⊎_elim
          (λ j. subst IsAscending (sym j.3) (IsAscending-put_in j.0 s is.ascends))
          (λ j. subst IsAscending (sym j.2) is.ascends)
          (set_view x.op.name x.op.part s t x.found step)

      unchanged : out x.id ≡ true → t ≡ s
      unchanged e = ⊎_elim
          (λ j. j.3 ∙ put_in-member j.0 s is.ascends (already_in e j.0 (j.1, j.2)))
          (λ j. j.2)
          (set_view x.op.name x.op.part s t x.found step)

      next : Next
      next = ⊎_elim
          (λ e. inl (inl e, record { same = unchanged e ∙ is.same; ascends = ascends_after; has = has_after }))
          (λ e. inr (x, t, kept e, subst (λ z. set_of_numbers.Steps z x.op x.found t) is.same step, record { same = refl; ascends = ascends_after; has = has_after }))
          (cases_Bool (out x.id))

    rest_runs : (other : List Taken) × (u : List ℤ) × Matches (MayGo out ms) (Stays out ms) order other × Run set_of_numbers [] other u
    rest_runs = simulated set_of_numbers set_of_numbers (MayGo out ms) (Stays out ms) SameState order
        (λ before after x s t w whole is step. next before after x s t w whole is step)
        [] order [] end [] refl (record { same = refl; ascends = tt; has = λ y v h. absurd (Contains-nil y h) }) l.run

  pub IsLinearizable-without_repeated : IsLinearizable set_of_numbers ms → IsLinearizable set_of_numbers (without out ms)
  IsLinearizable-without_repeated h = IsLinearizable-rest out set_of_numbers ms (λ order s l. rest_runs order s l) h
