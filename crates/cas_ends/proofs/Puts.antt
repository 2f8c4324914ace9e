-- an end with one more write stands for the orders that have it
use Rattle.std.proofs.Common.{◌≡◌, ◌≢◌, ℕ, ℤ, ◌⊎◌, inl, inr, ⊎_elim, IsTrue, Option, Some, List, sym, ap, ◌∙◌, subst}
use Rattle.std.proofs.lemmas.Bool.{cases_eq}
use Rattle.events.specs.Events.{Mark}
use Rattle.linspec.specs.MarkRule.{AreWellFormed}
use Rattle.linspec.specs.Orders.{Taken, Includes}
use Rattle.linspec.specs.LeanEnds.{IsWriteOf, MayRead, LeanEnd, IsPutBehind, IsPutBefore}
use Rattle.lean_ends.proofs.Once.{read_no_write, same_value}
use Rattle.lean_ends.proofs.Covers.{Extra}
use Rattle.cas_ends.proofs.Once.{cas_no_read}
use Rattle.cas_ends.proofs.Covers.{MayFind, CoversSame, CoversBehind, IsUpdate, Covers}

-- a read is not an update
pub no_read_update : (marks : List Mark) → AreWellFormed marks → (r : ℕ) → MayRead marks r → ¬ IsUpdate marks r
no_read_update marks well r m u = ⊎_elim
    (λ w. read_no_write marks well r w.0 m.0 w.1)
    (λ c. cas_no_read marks well r c.0 c.1 c.2 m.0)
    u

module _ (marks : List Mark) (well : AreWellFormed marks) (e g : LeanEnd) (order : List Taken) (t : Option ℤ) (x : ℕ) (v : ℤ)
    (k : Extra marks e order x v) (c : Covers marks e order t) where
  of_both : (i : ℕ) → (i ≡ x) ⊎ IsTrue (e.needed i) → Includes order i × IsUpdate marks i
  of_both i h = ⊎_elim (λ s. subst (λ n. Includes order n × IsUpdate marks n) (sym s) (k.is_in, inl (v, k.may.write))) (c.needed i) h

  -- another one that is free stays free
  other : ((i : ℕ) → IsTrue (g.needed i) → (i ≡ x) ⊎ IsTrue (e.needed i)) → (y : ℕ) (w : ℤ) → y ≢ x → Extra marks e order y w → Extra marks g order y w
  other back y w ne j = record { is_in = j.is_in; may = j.may; free = λ n. ⊎_elim ne j.free (back y n) }

  was : ((i : ℕ) → (i ≡ x) ⊎ IsTrue (e.needed i) → IsTrue (g.needed i)) → (y : ℕ) (w : ℤ) → Extra marks g order y w → (y ≢ x) × Extra marks e order y w
  was forth y w j = ((λ s. j.free (forth y (inl s))), record { is_in = j.is_in; may = j.may; free = λ n. j.free (forth y (inr n)) })

  -- a read is not among the needed ones
  no_read_needed : (r : ℕ) → MayRead marks r → ¬ ((r ≡ x) ⊎ IsTrue (e.needed r))
  no_read_needed r m h = no_read_update marks well r m (of_both r h).1

  module _ (put : IsPutBehind marks e x v g) where
    found : (b : CoversBehind marks e order t) (r : ℕ) (w : ℤ) → MayRead marks r → MayFind marks order r w → IsTrue (g.finds r w) ⊎ ((y : ℕ) × Extra marks g order y w)
    found b r w m f = ⊎_elim
        (λ h. inl ((put.finds r w).1 (inl h)))
        (λ j. ⊎_elim
        (λ s. inl ((put.finds r w).1 (inr (m, same_value marks well x w v (subst (λ n. IsWriteOf marks n w) s j.1.may.write) k.may.write))))
        (λ ne. inr (j.0, other (λ i. (put.needed i).0) j.0 w ne j.1))
        (cases_eq j.0 x))
        (b.finds r w m f)

    -- the last one is put behind
    pub same_behind : (b : CoversBehind marks e order t) → b.last.0 ≡ x → CoversSame marks g order t
    same_behind b s = record {
      state = b.last.3 ∙ ap Some (same_value marks well x b.last.1 v (subst (λ n. IsWriteOf marks n b.last.1) s b.last.2.may.write) k.may.write) ∙ sym put.state;
      placed = λ y w j o. (put.door y).1 (inr (w, j.may), j.free);
      finds = λ r w m f. ⊎_elim inl (λ j. inr (j.0, j.1, (put.door j.0).1 (inr (w, j.1.may), j.1.free), (put.door r).1 (inl m, (λ n. no_read_needed r m ((put.needed r).0 n))))) (found b r w m f);
    }

    pub covers_put : CoversSame marks g order t ⊎ CoversBehind marks g order t → Covers marks g order t
    covers_put how = record {
      needed = λ i n. of_both i ((put.needed i).0 n);
      sets = λ y a b h s r. (put.needed y.id).1 (inr (c.sets y a b h s r));
      how = how;
    }

    pub put_behind : CoversBehind marks e order t → Covers marks g order t
    put_behind b = covers_put (⊎_elim
        (λ s. inl (same_behind b s))
        (λ ne. inr (record { last = (b.last.0, b.last.1, other (λ i. (put.needed i).0) b.last.0 b.last.1 ne b.last.2, b.last.3); finds = found b }))
        (cases_eq b.last.0 x))

  module _ (put : IsPutBefore marks e x v g) where
    pub put_before : CoversSame marks e order t → Covers marks g order t
    put_before s = record {
      needed = λ i n. of_both i ((put.needed i).0 n);
      sets = λ y a b h w r. (put.needed y.id).1 (inr (c.sets y a b h w r));
      how = inl (record {
        state = s.state ∙ sym put.state;
        placed = λ y w j o. (let q = was (λ i. (put.needed i).1) y w j in (put.door y).1 (s.placed y w q.1 o, q.0));
        finds = λ r w m f. ⊎_elim
            (λ h. inl ((put.finds r w).1 (inl h)))
            (λ j. ⊎_elim
            (λ q. inl ((put.finds r w).1 (inr (m, j.3, same_value marks well x w v (subst (λ n. IsWriteOf marks n w) q j.1.may.write) k.may.write))))
            (λ ne. inr (j.0, other (λ i. (put.needed i).0) j.0 w ne j.1, (put.door j.0).1 (j.2, ne), (put.door r).1 (j.3, (λ q. no_read_needed r m (inl q)))))
            (cases_eq j.0 x))
            (s.finds r w m f);
      });
    }
