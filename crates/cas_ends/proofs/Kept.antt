-- an order that stands for an end stands for the end that a completion, or an invocation, makes of it
use Rattle.std.proofs.Common.{◌≡◌, ◌≢◌, ℕ, ℤ, inl, inr, ⊎_elim, Option, Some, None, List, [], ◌∷◌, ◌++◌, sym, ap, ◌∙◌, subst, append_assoc}
use Rattle.std.specs.List.{Contains}
use Rattle.std.proofs.lemmas.List.Elements.{Contains-append_left, Contains-push}
use Rattle.models.specs.declared.operation.Op.{Op}
use Rattle.models.specs.declared.finding.Found.TheVariants.{Reg}
use Rattle.models.specs.declared.finding.Answer.{Answer}
use Rattle.models.specs.Objects.{cas_register, Fits}
use Rattle.events.specs.Events.{Mark}
use Rattle.events.specs.Events.Mark.{Invoked, Returned}
use Rattle.linspec.specs.MarkRule.{id_of}
use Rattle.linspec.specs.Operations.{HasReturned, IsOpen, Precedes}
use Rattle.linspec.specs.Orders.{Taken, Includes, Run, IsLegalOrder}
use Rattle.linspec.proofs.Marks.{IsLegalOrder-more, Run-append, Run-cut, Precedes-cases, Precedes-returned}
use Rattle.linspec.proofs.Open.{IsCompletion, no_invocation, stays_open}
use Rattle.linspec.specs.LeanEnds.{Reads, MayRead, LeanEnd, IsWithout}
use Rattle.lean_ends.proofs.Splits.{two_cuts}
use Rattle.lean_ends.proofs.Orders.{IsLegalOrder-within, within_cases, within_it, within_others}
use Rattle.lean_ends.proofs.Ending.{write_is}
use Rattle.lean_ends.proofs.Stands.{MayCome}
use Rattle.cas_ends.proofs.Steps.{run_same, read_step}
use Rattle.cas_ends.proofs.Covers.{MayFind, IsUpdate}
use Rattle.cas_ends.proofs.Stands.{Door, Stands}

module _ (marks : List Mark) (m : Mark) (c : IsCompletion m) where
  abbrev longer : List Mark
  longer = marks ++ m ∷ []

  kept : (n : Mark) → Contains marks n → Contains longer n
  kept n h = Contains-append_left marks (m ∷ []) n h

  pub update_is : (i : ℕ) → IsUpdate marks i → IsUpdate longer i
  update_is i u = ⊎_elim (λ w. inl (w.0, (w.1.0, kept _ w.1.1, w.1.2))) (λ j. inr (j.0, j.1, (j.2.0, kept _ j.2.1, j.2.2))) u

  -- a completion makes none precede another
  pub precedes_was : (a b : ℕ) → Precedes longer a b → Precedes marks a b
  precedes_was a b p = ⊎_elim (λ k. k) (λ k. absurd (no_invocation m c b k.0 k.1)) (Precedes-cases marks m p)

  pub read_is : (r : ℕ) → r ≢ id_of m → MayRead marks r → MayRead longer r
  read_is r ne h = ((h.0.0, kept _ h.0.1, h.0.2), stays_open marks m c r h.1 ne)

  pub comes_still : (z : ℕ) → z ≢ id_of m → MayCome marks z → MayCome longer z
  comes_still z ne h = ⊎_elim (λ r. inl (read_is z ne r)) (λ w. inr (w.0, write_is marks m c z w.0 ne w.1)) h

  pub find_is : (order : List Taken) (r : ℕ) (v : ℤ) → MayFind marks order r v → MayFind longer order r v
  find_is order r v f = (f.0, f.1, f.2, f.3, (λ y h p. f.4 y h (precedes_was y.id r p)))

  -- the operation goes, where the order has it only if it has returned
  module _ (e f : LeanEnd) (order : List Taken) (t : Option ℤ) (s : Stands marks e order t) (without : IsWithout e (id_of m) f)
      (legal : IsLegalOrder cas_register longer order t) (done : (x : Taken) → Contains order x → x.id ≡ id_of m → HasReturned longer x.id) where
    door_is : Door marks e order → Door longer f order
    door_is d = record {
      before = d.before;
      write = d.write;
      behind = d.behind;
      cut = d.cut;
      value = d.value;
      writes = d.writes;
      late = λ z h y i p. d.late z ((without.door z).0 h).0 y i (precedes_was y.id z p);
    }

    pub stands_without : Stands longer f order t
    stands_without = record {
      legal = legal;
      state = s.state ∙ sym without.state;
      only = λ x h n. (without.needed x.id).1 (s.only x h (λ r. n (r.0, kept _ r.1)), (λ q. n (done x h q)));
      needed = λ i n. (let k = s.needed i ((without.needed i).0 n).0 in (k.0, update_is i k.1));
      comes = λ z d. (let k = (without.door z).0 d in let w = s.comes z k.0 in (comes_still z k.1 w.0, (λ n. w.1 ((without.needed z).0 n).0)));
      door = ⊎_elim (λ none. inl (λ z d. none z ((without.door z).0 d).0)) (λ d. inr (door_is d)) s.door;
      finds = λ r v h. (let k = (without.finds r v).0 h in let w = s.finds r v k.0 in (read_is r k.1 w.0, find_is order r v w.1));
    }

-- a read takes place where it may, and returns
module _ (marks : List Mark) (id : ℕ) (answer : Answer) (e f : LeanEnd) (order : List Taken) (t : Option ℤ) (s : Stands marks e order t)
    (without : IsWithout e id f) (op : Op) (invoked : Contains marks (Invoked id op)) (reads : Reads op) (is_open : IsOpen marks id) (not_in : ¬ Includes order id)
    (xs ys : List Taken) (cut : order ≡ xs ++ ys) (u : Option ℤ) (run : Run cas_register None xs u)
    (late : (y : Taken) → Contains ys y → ¬ Precedes marks y.id id) (fits : Fits (Reg u) answer) where
  abbrev after : List Mark
  after = marks ++ Returned id answer ∷ []

  abbrev taken : Taken
  taken = record { id = id; op = op; found = Reg u }

  abbrev more : List Taken
  more = xs ++ taken ∷ ys

  was : (a b : ℕ) → Precedes after a b → Precedes marks a b
  was a b p = precedes_was marks (Returned id answer) tt a b p

  first : ¬ HasReturned marks id
  first = is_open.not_returned

  precedes_none : (z : ℕ) → ¬ Precedes after id z
  precedes_none z p = first (Precedes-returned marks id z (was id z p))

  on : Run cas_register u ys t
  on = let k = Run-cut cas_register None t xs ys (subst (λ l. Run cas_register None l t) cut s.legal.run) in
      subst (λ w. Run cas_register w ys t) (run_same xs None k.0 u k.1 run) k.2

  legal_in : IsLegalOrder cas_register marks more t
  legal_in = IsLegalOrder-within cas_register marks xs ys u u t taken (subst (λ l. IsLegalOrder cas_register marks l t) cut s.legal) invoked first is_open.not_failed
      (subst (λ l. ¬ Includes l id) cut not_in) late run (read_step op u reads) on

  fits_all : (x : Taken) (a : Answer) → Contains more x → Returned id answer ≡ Returned x.id a → Fits x.found a
  fits_all x a h q = ⊎_elim
      (λ r. (let same : answer ≡ a = cc in subst (Fits x.found) same (subst (λ (z : Taken). Fits z.found answer) r fits)))
      (λ k. absurd (not_in (x, subst (λ l. Contains l x) (sym cut) k, (let i : x.id ≡ id = cc in i))))
      (within_cases xs ys taken x h)

  legal_after : IsLegalOrder cas_register after more t
  legal_after = IsLegalOrder-more cas_register marks (Returned id answer) more t legal_in
      (λ x o h q. cc)
      (λ x h q. cc)
      (λ i a q. (let same : id ≡ i = cc in (taken, within_it xs ys taken, same)))
      fits_all

  -- one with the new read among its elements
  each_late : (z : ℕ) (l : List Taken) → ((y : Taken) → Contains l y → ¬ Precedes marks y.id z) → (a b : List Taken) → l ≡ a ++ b → (y : Taken) → Contains (a ++ taken ∷ b) y → ¬ Precedes after y.id z
  each_late z l none a b q y h p = ⊎_elim
      (λ r. precedes_none z (subst (λ (w : Taken). Precedes after w.id z) (sym r) p))
      (λ k. none y (subst (λ k. Contains k y) (sym q) k) (was y.id z p))
      (within_cases a b taken y h)

  shifted : (d : Door marks e order) → Door after f more
  shifted d = ⊎_elim
      -- the read comes before the last write
      (λ k. record {
        before = xs ++ taken ∷ k.0;
        write = d.write;
        behind = d.behind;
        cut = ap (λ l. xs ++ taken ∷ l) k.2 ∙ sym (append_assoc xs (taken ∷ k.0) (d.write ∷ d.behind));
        value = d.value;
        writes = d.writes;
        late = λ z h y i p. d.late z ((without.door z).0 h).0 y i (was y.id z p);
      })
      (λ k. by_middle k.0 k.1 k.2)
      (two_cuts xs ys d.before (d.write ∷ d.behind) (sym cut ∙ d.cut))
    where
      by_middle : (m : List Taken) → xs ≡ d.before ++ m → d.write ∷ d.behind ≡ m ++ ys → Door after f more
      by_middle [] at rest = record {
        before = xs ++ taken ∷ [];
        write = d.write;
        behind = d.behind;
        cut = ap (λ l. xs ++ taken ∷ l) (sym rest) ∙ sym (append_assoc xs (taken ∷ []) (d.write ∷ d.behind));
        value = d.value;
        writes = d.writes;
        late = λ z h y i p. d.late z ((without.door z).0 h).0 y i (was y.id z p);
      }
      by_middle (w ∷ m) at rest =
          let is : d.write ≡ w = cc in
          let tail : d.behind ≡ m ++ ys = cc in record {
            before = d.before;
            write = d.write;
            behind = m ++ taken ∷ ys;
            cut = ap (λ l. l ++ taken ∷ ys) at ∙ append_assoc d.before (w ∷ m) (taken ∷ ys) ∙ ap (λ x. d.before ++ x ∷ (m ++ taken ∷ ys)) (sym is);
            value = d.value;
            writes = d.writes;
            late = λ z h. each_late z (d.write ∷ d.behind) (d.late z ((without.door z).0 h).0) (d.write ∷ m) ys (ap (λ l. d.write ∷ l) tail);
          }

  found_in : (r : ℕ) (v : ℤ) → MayFind marks order r v → MayFind after more r v
  found_in r v g = ⊎_elim
      (λ k. (
        g.0,
        k.0 ++ taken ∷ ys,
        ap (λ l. l ++ taken ∷ ys) k.1 ∙ append_assoc g.0 k.0 (taken ∷ ys),
        g.3,
        each_late r g.1 g.4 k.0 ys k.2,
      ))
      (λ k.
      let c = Run-cut cas_register None (Some v) xs k.0 (subst (λ l. Run cas_register None l (Some v)) k.1 g.3) in (
        xs ++ taken ∷ k.0,
        g.1,
        ap (λ l. xs ++ taken ∷ l) k.2 ∙ sym (append_assoc xs (taken ∷ k.0) g.1),
        Run-append cas_register None u (Some v) xs (taken ∷ k.0) run (u, read_step op u reads, subst (λ w. Run cas_register w k.0 (Some v)) (run_same xs None c.0 u c.1 run) c.2),
        λ y h p. g.4 y h (was y.id r p),
      ))
      (two_cuts g.0 g.1 xs ys (sym g.2 ∙ cut))

  pub stands_read : Stands after f more t
  stands_read = record {
    legal = legal_after;
    state = s.state ∙ sym without.state;
    only = λ x h n. ⊎_elim
        (λ q. absurd (n (answer, subst (λ (w : Taken). Contains after (Returned w.id answer)) q (Contains-push marks (Returned id answer)))))
        (λ k. (let j = subst (λ l. Contains l x) (sym cut) k in (without.needed x.id).1 (s.only x j (λ r. n (r.0, Contains-append_left marks (Returned id answer ∷ []) _ r.1)), (λ q. not_in (x, j, q)))))
        (within_cases xs ys taken x h);
    needed = λ i n. (let k = s.needed i ((without.needed i).0 n).0 in
        ((k.0.0, within_others xs ys taken k.0.0 (subst (λ l. Contains l k.0.0) cut k.0.1), k.0.2), update_is marks (Returned id answer) tt i k.1));
    comes = λ z d. (let k = (without.door z).0 d in let w = s.comes z k.0 in (comes_still marks (Returned id answer) tt z k.1 w.0, (λ n. w.1 ((without.needed z).0 n).0)));
    door = ⊎_elim (λ none. inl (λ z d. none z ((without.door z).0 d).0)) (λ d. inr (shifted d)) s.door;
    finds = λ r v h. (let k = (without.finds r v).0 h in let w = s.finds r v k.0 in (read_is marks (Returned id answer) tt r k.1 w.0, found_in r v w.1));
  }
