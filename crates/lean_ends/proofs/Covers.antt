-- which orders an end stands for: those that come of it where more of the open and crashed writes take place
use Rattle.std.proofs.Common.{◌≡◌, ◌≢◌, ℕ, ℤ, ◌⊎◌, inl, inr, ⊎_elim, IsTrue, Option, Some, None, List, [], ◌∷◌, ◌++◌, refl, sym, ◌∙◌, subst, append-nil}
use Rattle.std.specs.List.{Contains}
use Rattle.std.proofs.lemmas.List.Elements.{Contains-append_left, Contains-append_right, Contains-append_cases}
use Rattle.models.specs.Objects.{register}
use Rattle.events.specs.Events.{Mark}
use Rattle.events.specs.Events.Mark.{Invoked}
use Rattle.linspec.specs.MarkRule.{AreWellFormed}
use Rattle.linspec.specs.Operations.{HasReturned, IsOpen, Precedes}
use Rattle.linspec.specs.Orders.{Taken, Includes, Run, IsLegalOrder}
use Rattle.linspec.proofs.Lists.{Contains-nil, Contains-head, Pairwise-across}
use Rattle.linspec.proofs.Marks.{Run-cut}
use Rattle.linspec.specs.LeanEnds.{Writes, Reads, IsWriteOf, MayRead, MayWrite, LeanEnd}
use Rattle.lean_ends.proofs.Splits.{two_cuts}
use Rattle.lean_ends.proofs.Steps.{LastWrite, run_view, run_same, no_read}
use Rattle.lean_ends.proofs.Once.{read_no_write}

-- the read may stand where the value is v: no operation behind it precedes it
abbrev pub MayFind : List Mark → List Taken → ℕ → ℤ → Type 0
MayFind marks order r v =
    (xs ys : List Taken) × (order ≡ xs ++ ys) × Run register None xs (Some v) × ((y : Taken) → Contains ys y → ¬ Precedes marks y.id r)

-- a write of v that is in the order and may still take place for the end
pub record Extra (marks : List Mark) (e : LeanEnd) (order : List Taken) (x : ℕ) (v : ℤ) : Type 0 where
  pub is_in : Includes order x
  pub may : MayWrite marks x v
  pub free : ¬ IsTrue (e.needed x)

-- no other write takes place behind: each that is open may take place before the last one
pub record CoversSame (marks : List Mark) (e : LeanEnd) (order : List Taken) (t : Option ℤ) : Type 0 where
  pub state : t ≡ e.state
  pub placed : (x : ℕ) (v : ℤ) → Extra marks e order x v → IsOpen marks x → IsTrue (e.door x)
  pub finds : (r : ℕ) (v : ℤ) → MayRead marks r → MayFind marks order r v
      → IsTrue (e.finds r v) ⊎ ((x : ℕ) × Extra marks e order x v × IsTrue (e.door x) × IsTrue (e.door r))

-- other writes take place behind
pub record CoversBehind (marks : List Mark) (e : LeanEnd) (order : List Taken) (t : Option ℤ) : Type 0 where
  pub last : (x : ℕ) × (v : ℤ) × Extra marks e order x v × (t ≡ Some v)
  pub finds : (r : ℕ) (v : ℤ) → MayRead marks r → MayFind marks order r v
      → IsTrue (e.finds r v) ⊎ ((x : ℕ) × Extra marks e order x v)

pub record Covers (marks : List Mark) (e : LeanEnd) (order : List Taken) (t : Option ℤ) : Type 0 where
  pub needed : (i : ℕ) → IsTrue (e.needed i) → Includes order i × ((v : ℤ) × IsWriteOf marks i v)
  pub how : CoversSame marks e order t ⊎ CoversBehind marks e order t

-- an end that stands for an order stands for it with pending operations behind
module _ (marks : List Mark) (well : AreWellFormed marks) (e : LeanEnd) (p q : List Taken) (u t : Option ℤ) (l : IsLegalOrder register marks (p ++ q) t)
    (run_p : Run register None p u) (run_q : Run register u q t) (pending : (y : Taken) → Contains q y → ¬ HasReturned marks y.id)
    (c : Covers marks e p u) where
  extra_behind : (y : Taken) (v : ℤ) → Contains q y → Writes y.op v → Extra marks e (p ++ q) y.id v
  extra_behind y v h w =
      let h' : Contains (p ++ q) y = Contains-append_right p q y h in record {
        is_in = (y, h', refl);
        may = record { write = (y.op, l.invoked y h', w); not_returned = pending y h; not_failed = l.none_failed y h' };
        free = λ n. (let i = (c.needed y.id n).0 in Pairwise-across (λ a b. a.id ≢ b.id) p q l.once i.0 y i.1 h i.2);
      }

  up : (x : ℕ) (v : ℤ) → Extra marks e p x v → Extra marks e (p ++ q) x v
  up x v k = record { is_in = (k.is_in.0, Contains-append_left p q k.is_in.0 k.is_in.1, k.is_in.2); may = k.may; free = k.free }

  find_cases : (r : ℕ) (v : ℤ) → MayFind marks (p ++ q) r v → MayFind marks p r v ⊎ ((y : Taken) × Contains q y × Writes y.op v)
  find_cases r v f = ⊎_elim
      (λ k.
      -- the place is behind p
      let c1 = Run-cut register None (Some v) p k.0 (subst (λ xs. Run register None xs (Some v)) k.1 f.3) in
      let at_u : c1.0 ≡ u = run_same p None c1.0 u c1.1 run_p in
      ⊎_elim
      (λ reads. inl (p, [], sym (append-nil p), subst (λ s. Run register None p s) (sym (reads.1 ∙ at_u)) run_p, (λ y h. absurd (Contains-nil y h))))
      (λ (w : LastWrite k.0 (Some v)).
      let same : Some w.value ≡ Some v = sym w.left in
      let is_v : w.value ≡ v = cc in
      let in_m : Contains k.0 w.write = subst (λ ys. Contains ys w.write) (sym w.cut) (Contains-append_right w.before (w.write ∷ w.behind) w.write (Contains-head w.write w.behind)) in
      inr (w.write, subst (λ ys. Contains ys w.write) (sym k.2) (Contains-append_left k.0 f.1 w.write in_m), subst (Writes w.write.op) is_v w.writes))
      (run_view k.0 c1.0 (Some v) c1.2))
      (λ k. inl (f.0, k.0, k.1, f.3, (λ y h. f.4 y (subst (λ ys. Contains ys y) (sym k.2) (Contains-append_left k.0 q y h)))))
      (two_cuts p q f.0 f.1 f.2)

  of_front : (r : ℕ) (v : ℤ) → MayRead marks r → MayFind marks p r v → IsTrue (e.finds r v) ⊎ ((x : ℕ) × Extra marks e (p ++ q) x v)
  of_front r v m f = ⊎_elim
      (λ s. ⊎_elim inl (λ k. inr (k.0, up k.0 v k.1)) (s.finds r v m f))
      (λ b. ⊎_elim inl (λ k. inr (k.0, up k.0 v k.1)) (b.finds r v m f))
      c.how

  pub covers_with_pending : Covers marks e (p ++ q) t
  covers_with_pending = record {
    needed = λ i n. (let k = c.needed i n in ((k.0.0, Contains-append_left p q k.0.0 k.0.1, k.0.2), k.1));
    how = ⊎_elim
        (λ reads. ⊎_elim
        (λ s. inl (record {
          state = reads.1 ∙ s.state;
          placed = λ x v k o. s.placed x v (down reads.0 x v k) o;
          finds = λ r v m f. ⊎_elim
              (λ g. ⊎_elim inl (λ j. inr (j.0, up j.0 v j.1, j.2, j.3)) (s.finds r v m g))
              (λ w. absurd (no_read w.0.op v w.2 (reads.0 w.0 w.1)))
              (find_cases r v f);
        }))
        (λ b. inr (record {
          last = (b.last.0, b.last.1, up b.last.0 b.last.1 b.last.2, reads.1 ∙ b.last.3);
          finds = λ r v m f. ⊎_elim (of_front r v m) (λ w. absurd (no_read w.0.op v w.2 (reads.0 w.0 w.1))) (find_cases r v f);
        }))
        c.how)
        (λ w.
        let here : Contains q w.write = subst (λ ys. Contains ys w.write) (sym w.cut) (Contains-append_right w.before (w.write ∷ w.behind) w.write (Contains-head w.write w.behind)) in
        inr (record {
          last = (w.write.id, w.value, extra_behind w.write w.value here w.writes, w.left);
          finds = λ r v m f. ⊎_elim (of_front r v m) (λ k. inr (k.0.id, extra_behind k.0 v k.1 k.2)) (find_cases r v f);
        }))
        (run_view q u t run_q);
  }
    where
      down : ((y : Taken) → Contains q y → Reads y.op) → (x : ℕ) (v : ℤ) → Extra marks e (p ++ q) x v → Extra marks e p x v
      down reads x v k = ⊎_elim
          (λ h. record { is_in = (k.is_in.0, h, k.is_in.2); may = k.may; free = k.free })
          (λ h. absurd (read_no_write marks well x v (k.is_in.0.op, subst (λ n. Contains marks (Invoked n k.is_in.0.op)) k.is_in.2 (l.invoked k.is_in.0 k.is_in.1), reads k.is_in.0 h) k.may.write))
          (Contains-append_cases p q k.is_in.0 k.is_in.1)
