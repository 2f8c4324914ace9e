-- each order of the history with one more fail, or crash, stands for an end that this event makes of an old end
use Rattle.std.proofs.Common.{ℕ, ℤ, inl, inr, ⊎_elim, Option, List, [], ◌∷◌, ◌++◌, refl, sym, subst}
use Rattle.std.specs.List.{Contains}
use Rattle.std.proofs.lemmas.List.Elements.{Contains-append_left, Contains-push, Contains-push_cases}
use Rattle.models.specs.Objects.{cas_register}
use Rattle.events.specs.Events.{Mark}
use Rattle.events.specs.Events.Mark.{Failed, Crashed}
use Rattle.linspec.specs.MarkRule.{AreWellFormed}
use Rattle.linspec.specs.Orders.{Taken, Includes, IsLegalOrder}
use Rattle.linspec.proofs.Open.{was_open}
use Rattle.linspec.specs.LeanEnds.{IsWriteOf, MayWrite, LeanEnd}
use Rattle.lean_ends.proofs.Once.{read_no_write, read_or_not}
use Rattle.lean_ends.proofs.Makes.{some_without}
use Rattle.lean_ends.proofs.Covers.{Extra}
use Rattle.lean_ends.proofs.Ending.{write_was, read_was}
use Rattle.lean_ends.proofs.Events.{front_well}
use Rattle.linspec.specs.CasEnds.{Becomes}
use Rattle.cas_ends.proofs.Covers.{Covers}
use Rattle.cas_ends.proofs.Ending.{find_was, covers_without}

-- an end made by a mark, which stands for the order
abbrev pub Leads : List Mark → Mark → LeanEnd → List Taken → Option ℤ → Type 0
Leads marks m e order t = (f : LeanEnd) × Becomes marks e m f × Covers (marks ++ m ∷ []) f order t

module _ (marks : List Mark) (id : ℕ) (well : AreWellFormed (marks ++ Failed id ∷ [])) (e : LeanEnd) (order : List Taken) (t : Option ℤ)
    (l : IsLegalOrder cas_register (marks ++ Failed id ∷ []) order t) (c : Covers marks e order t) where
  not_in : ¬ Includes order id
  not_in h = l.none_failed h.0 h.1 (subst (λ n. Contains (marks ++ Failed id ∷ []) (Failed n)) (sym h.2) (Contains-push marks (Failed id)))

  pub after_fail : Leads marks (Failed id) e order t
  after_fail =
      let f = some_without e id in (
        f.0,
        ((λ n. not_in (c.needed id n).0), f.1),
        covers_without marks (Failed id) tt e f.0 order t f.1
            (λ x v w s. w.not_failed (subst (λ n. Contains (marks ++ Failed id ∷ []) (Failed n)) (sym s) (Contains-push marks (Failed id))))
            (λ x v k s. not_in (subst (Includes order) s k.is_in))
            c,
      )

module _ (marks : List Mark) (id : ℕ) (well : AreWellFormed (marks ++ Crashed id ∷ [])) (e : LeanEnd) (order : List Taken) (t : Option ℤ)
    (l : IsLegalOrder cas_register marks order t) (c : Covers marks e order t) where
  before : AreWellFormed marks
  before = front_well marks (Crashed id) well

  stays : (x : ℕ) (v : ℤ) → MayWrite marks x v → MayWrite (marks ++ Crashed id ∷ []) x v
  stays x v w = record {
    write = (w.write.0, Contains-append_left marks (Crashed id ∷ []) _ w.write.1, w.write.2);
    not_returned = λ r. ⊎_elim (λ k. w.not_returned (r.0, k)) (λ q. cc) (Contains-push_cases marks (Crashed id) _ r.1);
    not_failed = λ f. ⊎_elim w.not_failed (λ q. cc) (Contains-push_cases marks (Crashed id) _ f);
  }

  extra_stays : (x : ℕ) (v : ℤ) → Extra marks e order x v → Extra (marks ++ Crashed id ∷ []) e order x v
  extra_stays x v k = record { is_in = k.is_in; may = stays x v k.may; free = k.free }

  extra_was : (x : ℕ) (v : ℤ) → Extra (marks ++ Crashed id ∷ []) e order x v → Extra marks e order x v
  extra_was x v k = record { is_in = k.is_in; may = write_was marks (Crashed id) tt x v k.may; free = k.free }

  kept : (n : Mark) → Contains marks n → Contains (marks ++ Crashed id ∷ []) n
  kept n h = Contains-append_left marks (Crashed id ∷ []) n h

  covers_still : Covers (marks ++ Crashed id ∷ []) e order t
  covers_still = record {
    needed = λ i n. (let k = c.needed i n in (k.0, ⊎_elim (λ w. inl (w.0, (w.1.0, kept _ w.1.1, w.1.2))) (λ j. inr (j.0, j.1, (j.2.0, kept _ j.2.1, j.2.2))) k.1));
    sets = λ y a b h s o. c.sets y a b h s (was_open marks (Crashed id) tt y.id o).0;
    how = ⊎_elim
        (λ s. inl (record {
          state = s.state;
          placed = λ x v k o. s.placed x v (extra_was x v k) (was_open marks (Crashed id) tt x o).0;
          finds = λ r v h g. ⊎_elim inl (λ j. inr (j.0, extra_stays j.0 v j.1, j.2, j.3)) (s.finds r v (read_was marks (Crashed id) tt r h).0 (find_was marks (Crashed id) tt order r v g));
        }))
        (λ b. inr (record {
          last = (b.last.0, b.last.1, extra_stays b.last.0 b.last.1 b.last.2, b.last.3);
          finds = λ r v h g. ⊎_elim inl (λ j. inr (j.0, extra_stays j.0 v j.1)) (b.finds r v (read_was marks (Crashed id) tt r h).0 (find_was marks (Crashed id) tt order r v g));
        }))
        c.how;
  }

  pub after_crash : Leads marks (Crashed id) e order t
  after_crash = ⊎_elim
      (λ r.
      let f = some_without e id in (
        f.0,
        inl (r, f.1),
        covers_without marks (Crashed id) tt e f.0 order t f.1
            (λ x v w s. read_no_write marks before id v r (subst (λ n. IsWriteOf marks n v) s (write_was marks (Crashed id) tt x v w).write))
            (λ x v k s. read_no_write marks before id v r (subst (λ n. IsWriteOf marks n v) s k.may.write))
            c,
      ))
      (λ n. (e, inr (n, refl), covers_still))
      (read_or_not marks before id)
