-- an end stands for an order with one more operation behind: a read, a write that it leaves out, a cas or a write that it takes
use Rattle.std.proofs.Common.{◌≡◌, ◌≢◌, ℕ, ℤ, ◌⊎◌, inl, inr, ⊎_elim, IsTrue, Option, Some, None, List, [], ◌∷◌, ◌++◌, refl, sym, ap, ◌∙◌, subst, append-nil}
use Rattle.std.specs.List.{Contains}
use Rattle.std.proofs.lemmas.Bool.{cases_eq}
use Rattle.std.proofs.lemmas.List.Elements.{Contains-append_left, Contains-push, Contains-push_cases}
use Rattle.models.specs.Objects.{cas_register}
use Rattle.events.specs.Events.{Mark}
use Rattle.events.specs.Events.Mark.{Invoked}
use Rattle.linspec.specs.MarkRule.{AreWellFormed}
use Rattle.linspec.specs.Orders.{Taken, Includes, Run}
use Rattle.linspec.proofs.Lists.{Contains-nil}
use Rattle.linspec.specs.LeanEnds.{Writes, Reads, IsWriteOf, MayRead, MayWrite, LeanEnd, IsPutBehind}
use Rattle.lean_ends.proofs.Once.{read_no_write, same_value}
use Rattle.lean_ends.proofs.Covers.{Extra}
use Rattle.linspec.specs.CasEnds.{MayCas, IsSetBehind}
use Rattle.cas_ends.proofs.Steps.{no_read_cas, no_write_cas}
use Rattle.cas_ends.proofs.Once.{cas_no_write}
use Rattle.cas_ends.proofs.Covers.{MayFind, CoversSame, IsUpdate, Covers, find_push, extra_up, extra_down}
use Rattle.cas_ends.proofs.Puts.{no_read_update}

module _ (marks : List Mark) (well : AreWellFormed marks) (e : LeanEnd) (p : List Taken) (y : Taken) (u t : Option ℤ)
    (run_p : Run cas_register None p u) (step : cas_register.Steps u y.op y.found t) (invoked : Contains marks (Invoked y.id y.op)) (not_in : ¬ Includes p y.id)
    (c : Covers marks e p u) where
  abbrev order : List Taken
  order = p ++ y ∷ []

  include : (i : ℕ) → Includes p i → Includes order i
  include i h = (h.0, Contains-append_left p (y ∷ []) h.0 h.1, h.2)

  up : (x : ℕ) (v : ℤ) → Extra marks e p x v → Extra marks e order x v
  up x v k = extra_up marks e p y x v k

  find : (r : ℕ) (v : ℤ) → MayFind marks order r v → MayFind marks p r v ⊎ (t ≡ Some v)
  find r v f = find_push marks p y u t run_p step r v f

  was_free : ¬ IsTrue (e.needed y.id)
  was_free n = not_in (c.needed y.id n).0

  -- a read: its answer does not matter
  module _ (reads : Reads y.op) (same : u ≡ t) where
    down : (x : ℕ) (v : ℤ) → Extra marks e order x v → Extra marks e p x v
    down x v k = extra_down marks e p y x v (λ q. read_no_write marks well y.id v (y.op, invoked, reads) (subst (λ n. IsWriteOf marks n v) q k.may.write)) k

    -- where it stands the value was there before
    find_read : (r : ℕ) (v : ℤ) → MayFind marks order r v → MayFind marks p r v
    find_read r v f = ⊎_elim (λ g. g) (λ q. at_end q) (find r v f)
      where
        at_end : t ≡ Some v → MayFind marks p r v
        at_end q = (p, [], sym (append-nil p), subst (Run cas_register None p) (same ∙ q) run_p, (λ z h. absurd (Contains-nil z h)))

    pub covers_read : Covers marks e order t
    covers_read = record {
      needed = λ i n. (include i (c.needed i n).0, (c.needed i n).1);
      sets = λ z a b h s r. ⊎_elim (λ k. c.sets z a b k s r) (λ q. absurd (no_read_cas z.op a b s (subst (λ (w : Taken). Reads w.op) q reads))) (Contains-push_cases p y z h);
      how = ⊎_elim
          (λ s. inl (record {
            state = sym same ∙ s.state;
            placed = λ x v k o. s.placed x v (down x v k) o;
            finds = λ r v m f. ⊎_elim inl (λ j. inr (j.0, up j.0 v j.1, j.2, j.3)) (s.finds r v m (find_read r v f));
          }))
          (λ b. inr (record {
            last = (b.last.0, b.last.1, up b.last.0 b.last.1 b.last.2, sym same ∙ b.last.3);
            finds = λ r v m f. ⊎_elim inl (λ j. inr (j.0, up j.0 v j.1)) (b.finds r v m (find_read r v f));
          }))
          c.how;
    }

  -- a write that may still take place
  module _ (v : ℤ) (may : MayWrite marks y.id v) (writes : Writes y.op v) (at : t ≡ Some v) where
    new : Extra marks e order y.id v
    new = record { is_in = (y, Contains-push p y, refl); may = may; free = was_free }

    of_front : (r : ℕ) (w : ℤ) → MayRead marks r → MayFind marks p r w → IsTrue (e.finds r w) ⊎ ((x : ℕ) × Extra marks e order x w)
    of_front r w m f = ⊎_elim
        (λ s. ⊎_elim inl (λ k. inr (k.0, up k.0 w k.1)) (s.finds r w m f))
        (λ b. ⊎_elim inl (λ k. inr (k.0, up k.0 w k.1)) (b.finds r w m f))
        c.how

    -- it is left out
    pub covers_hidden : Covers marks e order t
    covers_hidden = record {
      needed = λ i n. (include i (c.needed i n).0, (c.needed i n).1);
      sets = λ z a b h s r. ⊎_elim (λ k. c.sets z a b k s r) (λ q. absurd (no_write_cas z.op a b v s (subst (λ (w : Taken). Writes w.op v) q writes))) (Contains-push_cases p y z h);
      how = inr (record {
        last = (y.id, v, new, at);
        finds = λ r w m f. ⊎_elim (of_front r w m) (λ q. (let is : Some v ≡ Some w = sym at ∙ q in let s : v ≡ w = cc in inr (y.id, subst (Extra marks e order y.id) s new))) (find r w f);
      });
    }

    -- it takes place
    module _ (g : LeanEnd) (put : IsPutBehind marks e y.id v g) where
      taken_needed : (i : ℕ) → IsTrue (g.needed i) → Includes order i × IsUpdate marks i
      taken_needed i n = ⊎_elim
          (λ q. subst (λ j. Includes order j × IsUpdate marks j) (sym q) ((y, Contains-push p y, refl), inl (v, may.write)))
          (λ k. (include i (c.needed i k).0, (c.needed i k).1))
          ((put.needed i).0 n)

      stays : (x : ℕ) (w : ℤ) → x ≢ y.id → Extra marks e order x w → Extra marks g order x w
      stays x w ne k = record { is_in = k.is_in; may = k.may; free = λ n. ⊎_elim ne k.free ((put.needed x).0 n) }

      open_door : (x : ℕ) (w : ℤ) → Extra marks g order x w → IsTrue (g.door x)
      open_door x w k = (put.door x).1 (inr (w, k.may), k.free)

      read_door : (r : ℕ) → MayRead marks r → IsTrue (g.door r)
      read_door r m = (put.door r).1 (inl m, (λ n. no_read_update marks well r m (taken_needed r n).1))

      of_write : (x : ℕ) (r : ℕ) (w : ℤ) → MayRead marks r → Extra marks e order x w → IsTrue (g.finds r w) ⊎ ((z : ℕ) × Extra marks g order z w × IsTrue (g.door z) × IsTrue (g.door r))
      of_write x r w m k = ⊎_elim
          (λ q. inl ((put.finds r w).1 (inr (m, same_value marks well y.id w v (subst (λ n. IsWriteOf marks n w) q k.may.write) may.write))))
          (λ ne. (let j = stays x w ne k in inr (x, j, open_door x w j, read_door r m)))
          (cases_eq x y.id)

      pub same_written : CoversSame marks g order t
      same_written = record {
        state = at ∙ sym put.state;
        placed = λ x w k o. open_door x w k;
        finds = λ r w m f. ⊎_elim
            (λ h. ⊎_elim (λ i. inl ((put.finds r w).1 (inl i))) (λ j. of_write j.0 r w m j.1) (of_front r w m h))
            (λ q. (let is : Some v ≡ Some w = sym at ∙ q in let s : w ≡ v = cc in inl ((put.finds r w).1 (inr (m, s)))))
            (find r w f);
      }

      pub covers_written : Covers marks g order t
      covers_written = record {
        needed = taken_needed;
        sets = λ z a b h s r. ⊎_elim
            (λ k. (put.needed z.id).1 (inr (c.sets z a b k s r)))
            (λ q. absurd (no_write_cas z.op a b v s (subst (λ (w : Taken). Writes w.op v) q writes)))
            (Contains-push_cases p y z h);
        how = inl same_written;
      }

  -- a cas that takes place
  module _ (a b : ℤ) (may : MayCas marks y.id a b) (at : t ≡ Some b) (s : CoversSame marks e p u) (g : LeanEnd) (put : IsSetBehind marks e y.id a b g) where
    not_it : (x : ℕ) (v : ℤ) → MayWrite marks x v → x ≢ y.id
    not_it x v w q = cas_no_write marks well y.id a b may.cas v (subst (λ n. IsWriteOf marks n v) q w.write)

    set_was : (x : ℕ) (v : ℤ) → Extra marks g order x v → Extra marks e p x v
    set_was x v k = extra_down marks e p y x v (not_it x v k.may) (record { is_in = k.is_in; may = k.may; free = λ n. k.free ((put.needed x).1 (inr n)) })

    set_is : (x : ℕ) (v : ℤ) → Extra marks e p x v → Extra marks g order x v
    set_is x v k = let j = up x v k in record { is_in = j.is_in; may = j.may; free = λ n. ⊎_elim (not_it x v k.may) k.free ((put.needed x).0 n) }

    pub covers_set : Covers marks g order t
    covers_set = record {
      needed = λ i n. ⊎_elim
          (λ q. subst (λ j. Includes order j × IsUpdate marks j) (sym q) ((y, Contains-push p y, refl), inr (a, b, may.cas)))
          (λ k. (include i (c.needed i k).0, (c.needed i k).1))
          ((put.needed i).0 n);
      sets = λ z d f h w r. ⊎_elim
          (λ k. (put.needed z.id).1 (inr (c.sets z d f k w r)))
          (λ q. (put.needed z.id).1 (inl (ap (λ (x : Taken). x.id) (sym q))))
          (Contains-push_cases p y z h);
      how = inl (record {
        state = at ∙ sym put.state;
        placed = λ x v k o. (put.door x).1 (s.placed x v (set_was x v k) o);
        finds = λ r v m f. ⊎_elim
            (λ h. ⊎_elim
            (λ i. inl ((put.finds r v).1 (inl i)))
            (λ j. inr (j.0, set_is j.0 v j.1, (put.door j.0).1 j.2, (put.door r).1 j.3))
            (s.finds r v m h))
            (λ q. (let is : Some b ≡ Some v = sym at ∙ q in let w : v ≡ b = cc in inl ((put.finds r v).1 (inr (m, w)))))
            (find r v f);
      });
    }
