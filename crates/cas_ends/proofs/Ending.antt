-- an end of which an operation goes stands for the orders of the history in which the operation is completed
use Rattle.std.proofs.Common.{◌≢◌, ℕ, ℤ, inl, inr, ⊎_elim, Option, List, [], ◌∷◌, ◌++◌, sym, ◌∙◌}
use Rattle.std.specs.List.{Contains}
use Rattle.std.proofs.lemmas.List.Elements.{Contains-append_left}
use Rattle.events.specs.Events.{Mark}
use Rattle.linspec.specs.MarkRule.{id_of}
use Rattle.linspec.specs.Orders.{Taken}
use Rattle.linspec.proofs.Marks.{Precedes-kept}
use Rattle.linspec.proofs.Open.{IsCompletion, was_open}
use Rattle.linspec.specs.LeanEnds.{MayWrite, LeanEnd, IsWithout}
use Rattle.lean_ends.proofs.Covers.{Extra}
use Rattle.lean_ends.proofs.Ending.{write_was, write_is, read_was}
use Rattle.cas_ends.proofs.Covers.{MayFind, IsUpdate, Covers}

module _ (marks : List Mark) (m : Mark) (c : IsCompletion m) where
  abbrev pub longer : List Mark
  longer = marks ++ m ∷ []

  kept : (n : Mark) → Contains marks n → Contains longer n
  kept n h = Contains-append_left marks (m ∷ []) n h

  update_is : (i : ℕ) → IsUpdate marks i → IsUpdate longer i
  update_is i u = ⊎_elim (λ w. inl (w.0, (w.1.0, kept _ w.1.1, w.1.2))) (λ k. inr (k.0, k.1, (k.2.0, kept _ k.2.1, k.2.2))) u

  pub find_was : (order : List Taken) (r : ℕ) (v : ℤ) → MayFind longer order r v → MayFind marks order r v
  find_was order r v f = (f.0, f.1, f.2, f.3, (λ y h p. f.4 y h (Precedes-kept marks m p)))

  module _ (e f : LeanEnd) (order : List Taken) (t : Option ℤ) (without : IsWithout e (id_of m) f)
      (apart : (x : ℕ) (v : ℤ) → MayWrite longer x v → x ≢ id_of m)
      (other : (x : ℕ) (v : ℤ) → Extra marks e order x v → x ≢ id_of m) where
    extra_was : (x : ℕ) (v : ℤ) → Extra longer f order x v → Extra marks e order x v
    extra_was x v k = record {
      is_in = k.is_in;
      may = write_was marks m c x v k.may;
      free = λ n. k.free ((without.needed x).1 (n, apart x v k.may));
    }

    extra_is : (x : ℕ) (v : ℤ) → Extra marks e order x v → Extra longer f order x v
    extra_is x v k = record {
      is_in = k.is_in;
      may = write_is marks m c x v (other x v k) k.may;
      free = λ n. k.free ((without.needed x).0 n).0;
    }

    pub covers_without : Covers marks e order t → Covers longer f order t
    covers_without cov = record {
      needed = λ i n. (let k = cov.needed i ((without.needed i).0 n).0 in (k.0, update_is i k.1));
      sets = λ y a b h s o. (let w = was_open marks m c y.id o in (without.needed y.id).1 (cov.sets y a b h s w.0, w.1));
      how = ⊎_elim
          (λ s. inl (record {
            state = s.state ∙ sym without.state;
            placed = λ x v k o. (without.door x).1 (s.placed x v (extra_was x v k) (was_open marks m c x o).0, apart x v k.may);
            finds = λ r v h g.
                let w = read_was marks m c r h in
                ⊎_elim
                (λ i. inl ((without.finds r v).1 (i, w.1)))
                (λ j. inr (j.0, extra_is j.0 v j.1, (without.door j.0).1 (j.2, other j.0 v j.1), (without.door r).1 (j.3, w.1)))
                (s.finds r v w.0 (find_was order r v g));
          }))
          (λ b. inr (record {
            last = (b.last.0, b.last.1, extra_is b.last.0 b.last.1 b.last.2, b.last.3);
            finds = λ r v h g.
                let w = read_was marks m c r h in
                ⊎_elim
                (λ i. inl ((without.finds r v).1 (i, w.1)))
                (λ j. inr (j.0, extra_is j.0 v j.1))
                (b.finds r v w.0 (find_was order r v g));
          }))
          cov.how;
    }
