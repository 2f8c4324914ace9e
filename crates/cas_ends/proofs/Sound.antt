-- each end is what some legal order leaves
use Rattle.std.proofs.Common.{◌≡◌, ◌≢◌, ℕ, ℤ, ◌⊎◌, inl, inr, ⊎_elim, Bool, false, IsTrue, Option, Some, None, List, [], ◌∷◌, ◌++◌, refl, sym, ap, ◌∙◌, subst, append_assoc, append-nil}
use Rattle.std.specs.List.{Contains}
use Rattle.std.proofs.lemmas.Bool.{true≢false}
use Rattle.std.proofs.lemmas.List.Elements.{Contains-append_left, Contains-push, Contains-push_cases}
use Rattle.models.specs.declared.operation.Op.{Op}
use Rattle.models.specs.declared.finding.Found.TheVariants.{Reg}
use Rattle.models.specs.declared.finding.Answer.{Answer}
use Rattle.models.specs.declared.finding.Answer.TheVariants.{Nothing, Number}
use Rattle.models.specs.Objects.{cas_register, Fits}
use Rattle.events.specs.Events.{Mark}
use Rattle.events.specs.Events.Mark.{Invoked, Returned, Failed, Crashed}
use Rattle.linspec.specs.MarkRule.{IsNew, AreWellFormed}
use Rattle.linspec.specs.Operations.{HasReturned, IsOpen, Precedes}
use Rattle.linspec.specs.Orders.{Taken, Includes, Run, IsLegalOrder, IsLinearizable}
use Rattle.linspec.proofs.Lists.{Contains-nil, cut_at}
use Rattle.linspec.proofs.Marks.{IsLegalOrder-more, Run-cut, Precedes-cases}
use Rattle.linspec.proofs.Open.{open_with_new, new_is_open}
use Rattle.linspec.specs.LeanEnds.{Reads, IsWriteOf, IsRead, MayRead, MayWrite, LeanEnd, start, IsWithout, Begins}
use Rattle.lean_ends.proofs.Events.{front_well}
use Rattle.lean_ends.proofs.Stands.{MayCome}
use Rattle.linspec.specs.CasEnds.{IsCasOf, MayCas, Walks, EndsWrite, EndsCas, EndsRead, Answers, Becomes, BecomesBy, IsCasEnd}
use Rattle.cas_ends.proofs.Steps.{step_view}
use Rattle.cas_ends.proofs.Covers.{MayFind, IsUpdate}
use Rattle.cas_ends.proofs.Puts.{no_read_update}
use Rattle.cas_ends.proofs.Stands.{IsLeft, left_put, left_set, left_walk}
use Rattle.cas_ends.proofs.Kept.{precedes_was, read_is, find_is, update_is, stands_without, stands_read}

module _ (marks : List Mark) (id : ℕ) (e f : LeanEnd) (s : IsLeft marks e) where
  abbrev order : List Taken
  order = s.0

  abbrev t : Option ℤ
  t = s.1

  legal : IsLegalOrder cas_register marks order t
  legal = s.2.legal

  module _ (well : AreWellFormed (marks ++ Failed id ∷ [])) (free : ¬ IsTrue (e.needed id)) (without : IsWithout e id f) where
    open_then : IsOpen marks id
    open_then = well marks [] (Failed id) refl

    not_there : (x : Taken) → Contains order x → x.id ≢ id
    not_there x h q = free (subst (λ n. IsTrue (e.needed n)) q (s.2.only x h (λ r. open_then.not_returned (subst (HasReturned marks) q r))))

    pub left_by_fail : IsLeft (marks ++ Failed id ∷ []) f
    left_by_fail = (
      order,
      t,
      stands_without marks (Failed id) tt e f order t s.2 without
          (IsLegalOrder-more cas_register marks (Failed id) order t legal (λ x o h q. cc) (λ x h q. not_there x h (let i : x.id ≡ id = cc in i)) (λ i a q. cc) (λ x a h q. cc))
          (λ x h q. absurd (not_there x h q)),
    )

  module _ (well : AreWellFormed (marks ++ Crashed id ∷ [])) where
    legal_crashed : IsLegalOrder cas_register (marks ++ Crashed id ∷ []) order t
    legal_crashed = IsLegalOrder-more cas_register marks (Crashed id) order t legal (λ x o h q. cc) (λ x h q. cc) (λ i a q. cc) (λ x a h q. cc)

    open_before : IsOpen marks id
    open_before = well marks [] (Crashed id) refl

    pub left_by_crash_of_read : IsRead marks id → IsWithout e id f → IsLeft (marks ++ Crashed id ∷ []) f
    left_by_crash_of_read r without = (
      order,
      t,
      stands_without marks (Crashed id) tt e f order t s.2 without legal_crashed
          (λ x h q. (let n : IsTrue (e.needed id) = subst (λ n. IsTrue (e.needed n)) q (s.2.only x h (λ d. open_before.not_returned (subst (HasReturned marks) q d))) in
          absurd (no_read_update marks (front_well marks (Crashed id) well) id (r, open_before) (s.2.needed id n).1))),
    )

    kept : (n : Mark) → Contains marks n → Contains (marks ++ Crashed id ∷ []) n
    kept n h = Contains-append_left marks (Crashed id ∷ []) n h

    write_is : (z : ℕ) (v : ℤ) → MayWrite marks z v → MayWrite (marks ++ Crashed id ∷ []) z v
    write_is z v w = record {
      write = (w.write.0, kept _ w.write.1, w.write.2);
      not_returned = λ r. ⊎_elim (λ k. w.not_returned (r.0, k)) (λ q. cc) (Contains-push_cases marks (Crashed id) _ r.1);
      not_failed = λ g. ⊎_elim w.not_failed (λ q. cc) (Contains-push_cases marks (Crashed id) _ g);
    }

    module _ (no : ¬ IsRead marks id) where
      other : (r : ℕ) → MayRead marks r → r ≢ id
      other r h q = no (subst (IsRead marks) q h.0)

      comes_crashed : (z : ℕ) → MayCome marks z → MayCome (marks ++ Crashed id ∷ []) z
      comes_crashed z h = ⊎_elim (λ r. inl (read_is marks (Crashed id) tt z (other z r) r)) (λ w. inr (w.0, write_is z w.0 w.1)) h

      pub left_by_crash : IsLeft (marks ++ Crashed id ∷ []) e
      left_by_crash = (
        order,
        t,
        record {
          legal = legal_crashed;
          state = s.2.state;
          only = λ x h n. s.2.only x h (λ r. n (r.0, kept _ r.1));
          needed = λ i n. (let k = s.2.needed i n in (k.0, update_is marks (Crashed id) tt i k.1));
          comes = λ z d. (let w = s.2.comes z d in (comes_crashed z w.0, w.1));
          door = ⊎_elim inl (λ d. inr (record {
            before = d.before;
            write = d.write;
            behind = d.behind;
            cut = d.cut;
            value = d.value;
            writes = d.writes;
            late = λ z h y i p. d.late z h y i (precedes_was marks (Crashed id) tt y.id z p);
          })) s.2.door;
          finds = λ r v h. (let w = s.2.finds r v h in (read_is marks (Crashed id) tt r (other r w.0) w.0, find_is marks (Crashed id) tt order r v w.1));
        },
      )

module _ (marks : List Mark) (id : ℕ) (op : Op) (e f : LeanEnd) (s : IsLeft marks e) (well : AreWellFormed (marks ++ Invoked id op ∷ [])) where
  abbrev longer : List Mark
  longer = marks ++ Invoked id op ∷ []

  new : IsNew marks id
  new = well marks [] (Invoked id op) refl

  keeps : (n : Mark) → Contains marks n → Contains longer n
  keeps n h = Contains-append_left marks (Invoked id op ∷ []) n h

  legal_more : IsLegalOrder cas_register longer s.0 s.1
  legal_more = IsLegalOrder-more cas_register marks (Invoked id op) s.0 s.1 s.2.legal
      (λ x o h q. (let i : x.id ≡ id = cc in new (Invoked x.id x.op) (s.2.legal.invoked x h) i))
      (λ x h q. cc) (λ i a q. cc) (λ x a h q. cc)

  returned_was : (a : ℕ) → HasReturned longer a → HasReturned marks a
  returned_was a r = (r.0, ⊎_elim (λ k. k) (λ q. cc) (Contains-push_cases marks (Invoked id op) _ r.1))

  read_begun : (r : ℕ) → MayRead marks r → MayRead longer r
  read_begun r h = ((h.0.0, keeps _ h.0.1, h.0.2), open_with_new marks id op new r h.1)

  write_begun : (z : ℕ) (v : ℤ) → MayWrite marks z v → MayWrite longer z v
  write_begun z v w = record {
    write = (w.write.0, keeps _ w.write.1, w.write.2);
    not_returned = λ r. w.not_returned (returned_was z r);
    not_failed = λ g. ⊎_elim w.not_failed (λ q. cc) (Contains-push_cases marks (Invoked id op) _ g);
  }

  -- an operation that precedes an older one did so before
  older : (y z : ℕ) (o : Op) → Contains marks (Invoked z o) → Precedes longer y z → Precedes marks y z
  older y z o h p = ⊎_elim (λ k. k) (λ k. absurd (new (Invoked z o) h (let q : Invoked id op ≡ Invoked z k.0 = k.1 in let i : z ≡ id = cc in i))) (Precedes-cases marks (Invoked id op) p)

  invoked_by : (z : ℕ) → MayCome marks z → (o : Op) × Contains marks (Invoked z o)
  invoked_by z h = ⊎_elim (λ r. (r.0.0, r.0.1)) (λ w. (w.1.write.0, w.1.write.1)) h

  found_begun : (r : ℕ) (v : ℤ) → MayRead marks r → MayFind marks s.0 r v → MayFind longer s.0 r v
  found_begun r v m g = (g.0, g.1, g.2, g.3, (λ y h p. g.4 y h (older y.id r m.0.0 m.0.1 p)))

  module _ (state : f.state ≡ e.state) (needed : f.needed ≡ e.needed) (door : f.door ≡ e.door)
      (finds : (r : ℕ) (w : ℤ) → IsTrue (f.finds r w) → IsTrue (e.finds r w) ⊎ ((r ≡ id) × (e.state ≡ Some w) × Reads op)) where
    in_door : (z : ℕ) → IsTrue (f.door z) → IsTrue (e.door z)
    in_door z d = subst (λ g. IsTrue (g z)) door d

    was_needed : (z : ℕ) → IsTrue (f.needed z) → IsTrue (e.needed z)
    was_needed z d = subst (λ g. IsTrue (g z)) needed d

    pub left_begun : IsLeft longer f
    left_begun = (
      s.0,
      s.1,
      record {
        legal = legal_more;
        state = s.2.state ∙ sym state;
        only = λ x h n. subst (λ g. IsTrue (g x.id)) (sym needed) (s.2.only x h (λ r. n (r.0, keeps _ r.1)));
        needed = λ i n. (let k = s.2.needed i (was_needed i n) in (k.0, ⊎_elim (λ w. inl (w.0, (w.1.0, keeps _ w.1.1, w.1.2))) (λ j. inr (j.0, j.1, (j.2.0, keeps _ j.2.1, j.2.2))) k.1));
        comes = λ z d. (let w = s.2.comes z (in_door z d) in (⊎_elim (λ r. inl (read_begun z r)) (λ k. inr (k.0, write_begun z k.0 k.1)) w.0, (λ n. w.1 (was_needed z n))));
        door = ⊎_elim (λ none. inl (λ z d. none z (in_door z d))) (λ d. inr (record {
          before = d.before;
          write = d.write;
          behind = d.behind;
          cut = d.cut;
          value = d.value;
          writes = d.writes;
          late = λ z h y i p. (let o = invoked_by z (s.2.comes z (in_door z h)).0 in d.late z (in_door z h) y i (older y.id z o.0 o.1 p));
        })) s.2.door;
        finds = λ r v h. ⊎_elim
            (λ k. (let w = s.2.finds r v k in (read_begun r w.0, found_begun r v w.0 w.1)))
            (λ k. (
              subst (MayRead longer) (sym k.0) ((op, Contains-push marks (Invoked id op), k.2), new_is_open marks id op new),
              (s.0, [], sym (append-nil s.0), subst (Run cas_register None s.0) (s.2.state ∙ k.1) s.2.legal.run, (λ y i. absurd (Contains-nil y i))),
            ))
            (finds r v h);
      },
    )

  pub left_by_invoke : Begins e id op f → IsLeft longer f
  left_by_invoke b = ⊎_elim
      (λ r. left_begun r.1.state r.1.needed r.1.door (λ q w h. ⊎_elim inl (λ k. inr (k.0, k.1, r.0)) ((r.1.finds q w).0 h)))
      (λ n. left_begun (ap (λ (g : LeanEnd). g.state) n.1) (ap (λ (g : LeanEnd). g.needed) n.1) (ap (λ (g : LeanEnd). g.door) n.1)
      (λ q w h. inl (subst (λ (g : LeanEnd). IsTrue (g.finds q w)) n.1 h)))
      b

module _ (marks : List Mark) (id : ℕ) (answer : Answer) (e f : LeanEnd) (s : IsLeft marks e) (well : AreWellFormed (marks ++ Returned id answer ∷ [])) where
  abbrev after : List Mark
  after = marks ++ Returned id answer ∷ []

  earlier : AreWellFormed marks
  earlier = front_well marks (Returned id answer) well

  is_open : IsOpen marks id
  is_open = well marks [] (Returned id answer) refl

  -- the update is in the order, and returns
  returns : (g : LeanEnd) (k : IsLeft marks g) → IsUpdate marks id → IsTrue (g.needed id) → IsWithout g id f → IsLeft after f
  returns g k w n without = (
    k.0,
    k.1,
    stands_without marks (Returned id answer) tt g f k.0 k.1 k.2 without
        (IsLegalOrder-more cas_register marks (Returned id answer) k.0 k.1 k.2.legal (λ x o h q. cc) (λ x h q. cc)
        (λ i a q. (let same : id ≡ i = cc in subst (Includes k.0) same (k.2.needed id n).0))
        (λ x a h q. fits_update x a h (let i : x.id ≡ id = cc in i)))
        (λ x h q. (answer, subst (λ j. Contains after (Returned j answer)) (sym q) (Contains-push marks (Returned id answer)))),
  )
    where
      is_no_read : (x : Taken) → Contains k.0 x → x.id ≡ id → ¬ Reads x.op
      is_no_read x h q r = no_read_update marks earlier id ((x.op, subst (λ j. Contains marks (Invoked j x.op)) q (k.2.legal.invoked x h), r), is_open) w

      fits_update : (x : Taken) (a : Answer) → Contains k.0 x → x.id ≡ id → Fits x.found a
      fits_update x a h q =
          let d = cut_at k.0 x h in
          let run = Run-cut cas_register None k.1 d.0 (x ∷ d.1) (subst (λ o. Run cas_register None o k.1) d.2 k.2.legal.run) in
          ⊎_elim
          (λ r. absurd (is_no_read x h q (r.0, r.1)))
          (λ o. ⊎_elim (λ y. subst (λ u. Fits u a) (sym y.4) tt) (λ y. subst (λ u. Fits u a) (sym y.6) tt) o)
          (step_view x.op run.0 run.2.0 x.found run.2.1)

  walked : (d : LeanEnd) (w : Bool) → Walks marks e d w → IsLeft marks d
  walked d w k = left_walk marks earlier e d false w k.0 k.1 s

  by_write : (v : ℤ) → IsWriteOf marks id v → EndsWrite marks e id v f → IsLeft after f
  by_write v w = ⊎_elim
      (λ k. returns e s (inl (v, w)) k.0 k.1)
      (λ o. ⊎_elim
      (λ k. returns k.1.0 (left_put marks e k.1.0 id v s may k.0 (inr k.1.1)) (inl (v, w)) ((k.1.1.needed id).1 (inl refl)) k.1.2)
      (λ k. returns k.1 (left_put marks k.0 k.1 id v (walked k.0 false k.2) may k.3 (inl k.4)) (inl (v, w)) ((k.4.needed id).1 (inl refl)) k.5)
      o)
    where
      may : MayWrite marks id v
      may = record { write = w; not_returned = is_open.not_returned; not_failed = is_open.not_failed }

  by_cas : (a b : ℤ) → IsCasOf marks id a b → EndsCas marks e id a b f → IsLeft after f
  by_cas a b w = ⊎_elim
      (λ k. returns e s (inr (a, b, w)) k.0 k.1)
      (λ k. returns k.1 (left_set marks earlier k.0 k.1 id (walked k.0 k.2 k.3) (k.4, (a, b, may, k.5))) (inr (a, b, w)) ((k.5.needed id).1 (inl refl)) k.6)
    where
      may : MayCas marks id a b
      may = record { cas = w; not_returned = is_open.not_returned; not_failed = is_open.not_failed }

  module _ (r : IsRead marks id) where
    -- a read that is open is not in the order
    not_in : (g : LeanEnd) (k : IsLeft marks g) → ¬ Includes k.0 id
    not_in g k h =
        let n : IsTrue (g.needed id) = subst (λ j. IsTrue (g.needed j)) h.2 (k.2.only h.0 h.1 (λ d. is_open.not_returned (subst (HasReturned marks) h.2 d))) in
        no_read_update marks earlier id (r, is_open) (k.2.needed id n).1

    answers : (g : LeanEnd) (v : ℤ) → answer ≡ Number v → IsLeft marks g → IsTrue (g.finds id v) → IsWithout g id f → IsLeft after f
    answers g v a k h without =
        let at = (k.2.finds id v h).1 in (
          _,
          k.1,
          stands_read marks id answer g f k.0 k.1 k.2 without r.0 r.1 r.2 is_open (not_in g k) at.0 at.1 at.2 (Some v) at.3 at.4
              (subst (Fits (Reg (Some v))) (sym a) refl),
        )

    -- the read comes behind all others
    behind : (g : LeanEnd) (k : IsLeft marks g) → Fits (Reg k.1) answer → IsWithout g id f → IsLeft after f
    behind g k fits without = (
      _,
      k.1,
      stands_read marks id answer g f k.0 k.1 k.2 without r.0 r.1 r.2 is_open (not_in g k) k.0 [] (sym (append-nil k.0)) k.1 k.2.legal.run
          (λ y h. absurd (Contains-nil y h)) fits,
    )

    by_nothing : answer ≡ Nothing → (d : LeanEnd) (w : Bool) → Walks marks e d w → IsWithout d id f → IsLeft after f
    by_nothing a d w k without = behind d (walked d w k) (subst (Fits (Reg (walked d w k).1)) (sym a) tt) without

    by_value : (v : ℤ) → answer ≡ Number v → EndsRead marks e id v f → IsLeft after f
    by_value v a = ⊎_elim
        (λ k. answers e v a s k.0 k.1)
        (λ o. ⊎_elim
        (λ k. answers k.2 v a (left_put marks e k.2 k.1 v s k.3 k.4 (inr k.6)) ((k.6.finds id v).1 (inr ((r, is_open), k.5, refl))) k.7)
        (λ k. (let left = walked k.0 k.1 k.2 in behind k.0 left (subst (Fits (Reg left.1)) (sym a) (left.2.state ∙ k.3)) k.4))
        o)

  pub left_by_ok : Answers marks e id answer f → IsLeft after f
  left_by_ok = ⊎_elim
      (λ k. by_write k.0 k.1 k.2)
      (λ o. ⊎_elim
      (λ k. by_cas k.0 k.1 k.2 k.3)
      (λ p. ⊎_elim (λ j. by_nothing j.0 j.1 j.2.0 j.2.1 j.2.2 j.2.3) (λ j. by_value j.1 j.0 j.2 j.3) p)
      o)

pub left_after : (marks : List Mark) (m : Mark) (e f : LeanEnd) → AreWellFormed (marks ++ m ∷ []) → IsLeft marks e → Becomes marks e m f → IsLeft (marks ++ m ∷ []) f
left_after marks (Invoked id op) e f well s b = left_by_invoke marks id op e f s well b
left_after marks (Returned id answer) e f well s b = left_by_ok marks id answer e f s well b
left_after marks (Failed id) e f well s b = left_by_fail marks id e f s well b.0 b.1
left_after marks (Crashed id) e f well s b = ⊎_elim
    (λ r. left_by_crash_of_read marks id e f s well r.0 r.1)
    (λ n. subst (IsLeft (marks ++ Crashed id ∷ [])) (sym n.1) (left_by_crash marks id e f s well n.0))
    b

left_by : (before more : List Mark) (e f : LeanEnd) → AreWellFormed (before ++ more) → IsLeft before e → BecomesBy before e more f → IsLeft (before ++ more) f
left_by before [] e f well s b = subst (λ ms. IsLeft ms f) (sym (append-nil before)) (subst (IsLeft before) b s)
left_by before (m ∷ more) e f well s b =
    let q : (before ++ m ∷ []) ++ more ≡ before ++ m ∷ more = append_assoc before (m ∷ []) more in
    let well' : AreWellFormed ((before ++ m ∷ []) ++ more) = subst AreWellFormed (sym q) well in
    let front : AreWellFormed (before ++ m ∷ []) = λ xs ys n cut. well' xs (ys ++ more) n (sym (append_assoc xs (n ∷ ys) more) ∙ ap (λ l. l ++ more) cut) in
    subst (λ ms. IsLeft ms f) q (left_by (before ++ m ∷ []) more b.0 f well' (left_after before m e b.0 front s b.1) b.2)

pub left_at_first : IsLeft [] start
left_at_first = (
  [],
  None,
  record {
    legal = record {
      invoked = λ x h. absurd (Contains-nil x h);
      once = tt;
      none_failed = λ x h. absurd (Contains-nil x h);
      all_done = λ id r. absurd (Contains-nil _ r.1);
      in_time = tt;
      run = refl;
      fits = λ x a h. absurd (Contains-nil x h);
    };
    state = refl;
    only = λ x h. absurd (Contains-nil x h);
    needed = λ i n. absurd (true≢false (sym n));
    comes = λ z d. absurd (true≢false (sym d));
    door = inl (λ z d. true≢false (sym d));
    finds = λ r v h. absurd (true≢false (sym h));
  },
)

pub cas_end_is_left : (marks : List Mark) → AreWellFormed marks → (e : LeanEnd) → IsCasEnd marks e → IsLinearizable cas_register marks
cas_end_is_left marks well e is = let k = left_by [] marks start e well left_at_first is in (k.0, k.1, k.2.legal)
