-- each order of the history with one more invocation stands for an end that the invocation makes of an old end
use Rattle.std.proofs.Common.{◌≡◌, ◌≢◌, ℕ, ℤ, ◌⊎◌, inl, inr, ⊎_elim, IsTrue, Option, Some, None, List, [], ◌∷◌, ◌++◌, refl, sym, ap, ◌∙◌, subst, append-nil}
use Rattle.std.specs.List.{Contains}
use Rattle.std.proofs.lemmas.List.Elements.{Contains-append_left, Contains-append_right, Contains-push, Contains-push_cases}
use Rattle.std.proofs.lemmas.Bool.{cases_eq}
use Rattle.models.specs.declared.operation.Op.{Op}
use Rattle.models.specs.Objects.{cas_register}
use Rattle.events.specs.Events.{Mark}
use Rattle.events.specs.Events.Mark.{Invoked, Returned}
use Rattle.linspec.specs.MarkRule.{IsNew, AreWellFormed}
use Rattle.linspec.specs.Operations.{HasReturned, Precedes}
use Rattle.linspec.specs.Orders.{Taken, Pairwise, Run, IsLegalOrder}
use Rattle.linspec.proofs.Lists.{Contains-nil, Contains-head, Pairwise-across, snoc_cut}
use Rattle.linspec.proofs.Marks.{IsLegalOrder-fewer, Precedes-kept}
use Rattle.linspec.proofs.Open.{open_without_new}
use Rattle.linspec.specs.LeanEnds.{Reads, MayRead, LeanEnd}
use Rattle.lean_ends.proofs.Steps.{no_read}
use Rattle.lean_ends.proofs.Once.{one_op, sort_of}
use Rattle.lean_ends.proofs.Makes.{some_with_read}
use Rattle.lean_ends.proofs.Covers.{Extra}
use Rattle.linspec.specs.CasEnds.{Becomes}
use Rattle.cas_ends.proofs.Steps.{run_same}
use Rattle.cas_ends.proofs.Covers.{MayFind, Covers}

-- nothing pending stands behind all others
abbrev pub EndsDone : List Mark → List Taken → Type 0
EndsDone marks order = (order ≡ []) ⊎ ((before : List Taken) × (x : Taken) × (order ≡ before ++ x ∷ []) × HasReturned marks x.id)

module _ (marks : List Mark) (id : ℕ) (op : Op) (well : AreWellFormed (marks ++ Invoked id op ∷ [])) where
  abbrev longer : List Mark
  longer = marks ++ Invoked id op ∷ []

  fresh : IsNew marks id
  fresh = well marks [] (Invoked id op) refl

  kept : (n : _) → Contains marks n → Contains longer n
  kept n h = Contains-append_left marks (Invoked id op ∷ []) n h

  returned_was : (a : ℕ) → HasReturned longer a → HasReturned marks a
  returned_was a r = (r.0, ⊎_elim (λ k. k) (λ q. cc) (Contains-push_cases marks (Invoked id op) _ r.1))

  precedes_new : (a : ℕ) → HasReturned longer a → Precedes longer a id
  precedes_new a r = record { before = marks; after = Invoked id op ∷ []; cut = refl; returned = returned_was a r; invoked = (op, Contains-head (Invoked id op) []) }

  new_open : ¬ HasReturned longer id
  new_open r = let w = returned_was id r in fresh (Returned id w.0) w.1 refl

  invoked_was : (x : ℕ) (o : Op) → x ≢ id → Contains longer (Invoked x o) → Contains marks (Invoked x o)
  invoked_was x o ne h = ⊎_elim (λ k. k) (λ q. absurd (ne (let s : x ≡ id = cc in s))) (Contains-push_cases marks (Invoked id op) _ h)

  module _ (p : List Taken) (u : Option ℤ) (last : EndsDone longer p)
      (legal : IsLegalOrder cas_register longer p u) where
    not_in : (z : Taken) → Contains p z → z.id ≢ id
    not_in z h s = ⊎_elim
        (λ none. Contains-nil z (subst (λ l. Contains l z) none h))
        (λ k. ⊎_elim
        (λ j. Pairwise-across (λ a b. ¬ Precedes longer b.id a.id) k.0 (k.1 ∷ []) (subst (Pairwise (λ a b. ¬ Precedes longer b.id a.id)) k.2 legal.in_time) z k.1 j (Contains-head k.1 [])
        (subst (Precedes longer k.1.id) (sym s) (precedes_new k.1.id k.3)))
        (λ q. new_open (subst (HasReturned longer) (ap (λ (w : Taken). w.id) q ∙ s) k.3))
        (Contains-push_cases k.0 k.1 z (subst (λ l. Contains l z) k.2 h)))
        last

    before_it : IsLegalOrder cas_register marks p u
    before_it = IsLegalOrder-fewer cas_register marks (Invoked id op) p u (λ x h q. not_in x h (let s : x.id ≡ id = cc in s)) legal

    -- the new read may only stand behind
    new_finds : (v : ℤ) → MayFind longer p id v → u ≡ Some v
    new_finds v f = by_rest f.1 f.2 f.4
      where
        by_rest : (ys : List Taken) → p ≡ f.0 ++ ys → ((y : Taken) → Contains ys y → ¬ Precedes longer y.id id) → u ≡ Some v
        by_rest [] cut none = run_same p None u (Some v) legal.run (subst (λ l. Run cas_register None l (Some v)) (sym (cut ∙ append-nil f.0)) f.3)
        by_rest (y ∷ ys) cut none = absurd (⊎_elim
            (λ empty. Contains-nil y (subst (λ l. Contains l y) (sym cut ∙ empty) (Contains-append_right f.0 (y ∷ ys) y (Contains-head y ys))))
            (λ k. ⊎_elim
            (λ (q : y ∷ ys ≡ []). cc)
            (λ c. none k.1 (subst (λ l. Contains l k.1) (sym c.1) (Contains-push c.0 k.1)) (precedes_new k.1.id k.3))
            (snoc_cut f.0 (y ∷ ys) k.0 k.1 (sym cut ∙ k.2)))
            last)

    module _ (e f : LeanEnd) (state : f.state ≡ e.state) (needed : f.needed ≡ e.needed) (door : f.door ≡ e.door)
        (finds : (r : ℕ) (w : ℤ) → IsTrue (e.finds r w) → IsTrue (f.finds r w)) (new : Reads op → (w : ℤ) → e.state ≡ Some w → IsTrue (f.finds id w))
        (c : Covers marks e p u) where
      is_needed : (i : ℕ) → IsTrue (f.needed i) → IsTrue (e.needed i)
      is_needed i n = subst (λ g. IsTrue (g i)) needed n

      in_door : (i : ℕ) → IsTrue (e.door i) → IsTrue (f.door i)
      in_door i n = subst (λ g. IsTrue (g i)) (sym door) n

      extra_was : (x : ℕ) (v : ℤ) → Extra longer f p x v → Extra marks e p x v
      extra_was x v k =
          let ne : x ≢ id = λ s. not_in k.is_in.0 k.is_in.1 (k.is_in.2 ∙ s) in record {
            is_in = k.is_in;
            may = record {
              write = (k.may.write.0, invoked_was x k.may.write.0 ne k.may.write.1, k.may.write.2);
              not_returned = λ r. k.may.not_returned (r.0, kept _ r.1);
              not_failed = λ g. k.may.not_failed (kept _ g);
            };
            free = λ n. k.free (subst (λ g. IsTrue (g x)) (sym needed) n);
          }

      extra_is : (x : ℕ) (v : ℤ) → Extra marks e p x v → Extra longer f p x v
      extra_is x v k = record {
        is_in = k.is_in;
        may = record {
          write = (k.may.write.0, kept _ k.may.write.1, k.may.write.2);
          not_returned = λ r. k.may.not_returned (returned_was x r);
          not_failed = λ g. ⊎_elim k.may.not_failed (λ q. cc) (Contains-push_cases marks (Invoked id op) _ g);
        };
        free = λ n. k.free (is_needed x n);
      }

      read_was : (r : ℕ) → r ≢ id → MayRead longer r → MayRead marks r
      read_was r ne h = ((h.0.0, invoked_was r h.0.0 ne h.0.1, h.0.2), open_without_new marks id op fresh r ne h.1)

      reads : MayRead longer id → Reads op
      reads h = subst Reads (one_op longer well id h.0.0 op h.0.1 (Contains-push marks (Invoked id op))) h.0.2

      find_was : (r : ℕ) (v : ℤ) → MayFind longer p r v → MayFind marks p r v
      find_was r v g = (g.0, g.1, g.2, g.3, (λ y h q. g.4 y h (Precedes-kept marks (Invoked id op) q)))

      as_new : {P : Type 0} (r : ℕ) (v : ℤ) → r ≡ id → MayRead longer r → MayFind longer p r v → ((u ≡ Some v) → MayRead longer id → P) → P
      as_new r v s h g then = then (new_finds v (subst (λ n. MayFind longer p n v) s g)) (subst (MayRead longer) s h)

      pub covers_begun : Covers longer f p u
      covers_begun = record {
        needed = λ i n. (let k = c.needed i (is_needed i n) in (k.0, ⊎_elim (λ w. inl (w.0, (w.1.0, kept _ w.1.1, w.1.2))) (λ j. inr (j.0, j.1, (j.2.0, kept _ j.2.1, j.2.2))) k.1));
        sets = λ y a b h w o. subst (λ g. IsTrue (g y.id)) (sym needed) (c.sets y a b h w (open_without_new marks id op fresh y.id (not_in y h) o));
        how = ⊎_elim
            (λ s. inl (record {
              state = s.state ∙ sym state;
              placed = λ x v k o. in_door x (s.placed x v (extra_was x v k) (open_without_new marks id op fresh x (λ q. not_in k.is_in.0 k.is_in.1 (k.is_in.2 ∙ q)) o));
              finds = λ r v h g. ⊎_elim
                  (λ q. as_new r v q h g (λ at m. inl (subst (λ n. IsTrue (f.finds n v)) (sym q) (new (reads m) v (sym s.state ∙ at)))))
                  (λ ne. ⊎_elim (λ i. inl (finds r v i)) (λ j. inr (j.0, extra_is j.0 v j.1, in_door j.0 j.2, in_door r j.3)) (s.finds r v (read_was r ne h) (find_was r v g)))
                  (cases_eq r id);
            }))
            (λ b. inr (record {
              last = (b.last.0, b.last.1, extra_is b.last.0 b.last.1 b.last.2, b.last.3);
              finds = λ r v h g. ⊎_elim
                  (λ q. as_new r v q h g (λ at m. (let same : Some b.last.1 ≡ Some v = sym b.last.3 ∙ at in let w : b.last.1 ≡ v = cc in
                  inr (b.last.0, subst (Extra longer f p b.last.0) w (extra_is b.last.0 b.last.1 b.last.2)))))
                  (λ ne. ⊎_elim (λ i. inl (finds r v i)) (λ j. inr (j.0, extra_is j.0 v j.1)) (b.finds r v (read_was r ne h) (find_was r v g)))
                  (cases_eq r id);
            }))
            c.how;
      }

    pub begun : (e : LeanEnd) → Covers marks e p u → (f : LeanEnd) × Becomes marks e (Invoked id op) f × Covers longer f p u
    begun e c = ⊎_elim
        (λ r.
        let g = some_with_read e id in
        (g.0, inl ((r.0, r.1), g.1), covers_begun e g.0 g.1.state g.1.needed g.1.door (λ r w h. (g.1.finds r w).1 (inl h)) (λ q w s. (g.1.finds id w).1 (inr (refl, s))) c))
        (λ n.
        let no : ¬ Reads op = ⊎_elim (λ w r. no_read op w.0 (w.1, w.2) r) (λ o. o.0) n in
        (e, inr (no, refl), covers_begun e e refl refl refl (λ r w h. h) (λ q. absurd (no q)) c))
        (sort_of op)

  pub after_invoke : (L : LeanEnd → Type 0) → ((order : List Taken) (t : Option ℤ) → IsLegalOrder cas_register marks order t → EndsDone marks order → (e : LeanEnd) × L e × Covers marks e order t)
      → (order : List Taken) (t : Option ℤ) → IsLegalOrder cas_register longer order t → EndsDone longer order → (e f : LeanEnd) × L e × Becomes marks e (Invoked id op) f × Covers longer f order t
  after_invoke L complete order t legal done =
      let k = complete order t (before_it order t done legal) (⊎_elim inl (λ d. inr (d.0, d.1, d.2, returned_was d.1.id d.3)) done) in
      let f = begun order t done legal k.0 k.2 in
      (k.0, f.0, k.1, f.1, f.2)
