-- a history without some of its operations, and its legal orders
use Rattle.std.proofs.Common.{◌≡◌, ◌↔◌, ℕ, ◌⊎◌, inl, inr, ⊎_elim, Bool, true, false, not, IsTrue, List, [], ◌∷◌, ◌++◌, refl, sym, ap, ◌∙◌, subst}
use Rattle.std.specs.List.{Contains}
use Rattle.std.proofs.lemmas.Bool.{cases_Bool, true≢false, not-true}
use Rattle.std.proofs.lemmas.List.Elements.{Contains-append_right, filter-append}
use Rattle.models.specs.declared.operation.Op.{Op}
use Rattle.models.specs.declared.finding.Found.{Found}
use Rattle.models.specs.declared.finding.Answer.{Answer}
use Rattle.models.specs.Objects.{Object, Fits, ReadsLeave}
use Rattle.events.specs.Events.{Mark}
use Rattle.events.specs.Events.Mark.{Invoked, Returned, Failed, Crashed}
use Rattle.linspec.specs.MarkRule.{id_of, MayFollow, AreWellFormed}
use Rattle.linspec.specs.Operations.{HasReturned, IsOpen, Precedes}
use Rattle.linspec.specs.Orders.{Taken, Run, IsLegalOrder, IsLinearizable}
use Rattle.linspec.proofs.Lists.{Contains-nil, Contains-head, Contains-cons_cases, Pairwise-weaker}
use Rattle.linspec.proofs.Filters.{from_filter, to_filter, filter-cut, filter-cut_at}
use Rattle.shrinking_laws.specs.Intervals.{AsksForMore}
use Rattle.shrinking_laws.specs.LeftOut.{without, HaveFailed, HaveNotReturned, AreReads}
use Rattle.shrinking_laws.proofs.Intervals.{IsLinearizable-stricter}
use Rattle.shrinking_laws.proofs.Matching.{Matches, IsLegalOrder-match, simulated}
use Rattle.shrinking_laws.proofs.Once.{returned_not_failed, returned_invoked}

-- each operation of a run has a step
pub step_of : (o : Object) (order : List Taken) (s t : o.State) → Run o s order t → (x : Taken) → Contains order x → (u : o.State) × (v : o.State) × o.Steps u x.op x.found v
step_of o [] s t run x h = absurd (Contains-nil x h)
step_of o (y ∷ order) s t run x h =
    ⊎_elim
    (λ e. (s, run.0, subst (λ (z : Taken). o.Steps s z.op z.found run.0) e run.1))
    (λ k. step_of o order run.0 t run.2 x k)
    (Contains-cons_cases y order x h)

module _ (out : ℕ → Bool) where
  abbrev stays : Mark → Bool
  stays m = not (out (id_of m))

  pub from_without : (ms : List Mark) (m : Mark) → Contains (without out ms) m → Contains ms m × (out (id_of m) ≡ false)
  from_without ms m h = let r = from_filter stays ms m h in (r.0, not-true (out (id_of m)) r.1)

  pub to_without : (ms : List Mark) (m : Mark) → Contains ms m → out (id_of m) ≡ false → Contains (without out ms) m
  to_without ms m h e = to_filter stays ms m h (ap not e)

  -- precedence is as it was
  pub Precedes-from_without : (ms : List Mark) (a b : ℕ) → Precedes (without out ms) a b → Precedes ms a b
  Precedes-from_without ms a b p =
      let c = filter-cut stays ms p.before p.after p.cut in
      record {
        before = c.0;
        after = c.1;
        cut = sym c.2;
        returned = (p.returned.0, (from_without c.0 _ (subst (λ l. Contains l (Returned a p.returned.0)) c.3 p.returned.1)).0);
        invoked = (p.invoked.0, (from_without c.1 _ (subst (λ l. Contains l (Invoked b p.invoked.0)) c.4 p.invoked.1)).0);
      }

  pub Precedes-to_without : (ms : List Mark) (a b : ℕ) → out a ≡ false → out b ≡ false → Precedes ms a b → Precedes (without out ms) a b
  Precedes-to_without ms a b e f p = record {
    before = without out p.before;
    after = without out p.after;
    cut = sym (filter-append stays p.before p.after) ∙ ap (without out) p.cut;
    returned = (p.returned.0, to_without p.before _ p.returned.1 e);
    invoked = (p.invoked.0, to_without p.after _ p.invoked.1 f);
  }

  open_without : (ms : List Mark) (id : ℕ) → out id ≡ false → IsOpen ms id → IsOpen (without out ms) id
  open_without ms id e is = record {
    invoked = (is.invoked.0, to_without ms _ is.invoked.1 e);
    not_returned = λ r. is.not_returned (r.0, (from_without ms _ r.1).0);
    not_failed = λ f. is.not_failed (from_without ms _ f).0;
    not_crashed = λ f. is.not_crashed (from_without ms _ f).0;
  }

  follow_without : (ms : List Mark) (m : Mark) → out (id_of m) ≡ false → MayFollow ms m → MayFollow (without out ms) m
  follow_without ms (Invoked id op) e new = λ m h. new m (from_without ms m h).0
  follow_without ms (Returned id answer) e is = open_without ms id e is
  follow_without ms (Failed id) e is = open_without ms id e is
  follow_without ms (Crashed id) e is = open_without ms id e is

  pub AreWellFormed-without : (ms : List Mark) → AreWellFormed ms → AreWellFormed (without out ms)
  AreWellFormed-without ms well before after m cut =
      let c = filter-cut_at stays ms before after m cut in
      subst (λ l. MayFollow l m) (sym c.3) (follow_without c.0 m (not-true (out (id_of m)) c.5) (well c.0 c.1 m (sym c.2)))

  -- where none of these has returned, the rest asks for more
  pub rest_asks_for_more : (ms : List Mark) → HaveNotReturned out ms → AsksForMore ms (without out ms)
  rest_asks_for_more ms none = record {
    operations = λ id op h. (from_without ms _ h).0;
    answers = λ id answer h. ⊎_elim (λ e. absurd (none id e (answer, h))) (to_without ms (Returned id answer) h) (cases_Bool (out id));
    failures = λ id i f. to_without ms (Failed id) f (from_without ms _ i.1).1;
    precedence = λ a b i j p. Precedes-to_without ms a b (from_without ms _ i.1).1 (from_without ms _ j.1).1 p;
  }

  -- of those that have failed none has returned
  pub failed_not_returned : (ms : List Mark) → AreWellFormed ms → HaveFailed out ms → HaveNotReturned out ms
  failed_not_returned ms well failed id e d = returned_not_failed ms well id d.0 d.1 (failed id e (returned_invoked ms well id d.0 d.1))

  -- a legal order without them is one of the rest
  pub IsLegalOrder-rest : (o : Object) (ms : List Mark) (order : List Taken) (s : o.State) → IsLegalOrder o ms order s → ((x : Taken) → Contains order x → out x.id ≡ false) → IsLegalOrder o (without out ms) order s
  IsLegalOrder-rest o ms order s l none = record {
    invoked = λ x h. to_without ms _ (l.invoked x h) (none x h);
    once = l.once;
    none_failed = λ x h f. l.none_failed x h (from_without ms _ f).0;
    all_done = λ id d. l.all_done id (d.0, (from_without ms _ d.1).0);
    in_time = Pairwise-weaker (λ x y. ¬ Precedes ms y.id x.id) (λ x y. ¬ Precedes (without out ms) y.id x.id) order (λ x y h k n p. n (Precedes-from_without ms y.id x.id p)) l.in_time;
    run = l.run;
    fits = λ x answer h k. l.fits x answer h (from_without ms _ k).0;
  }

  pub IsLinearizable-without_failed : (o : Object) (ms : List Mark) → HaveFailed out ms → IsLinearizable o ms → IsLinearizable o (without out ms)
  IsLinearizable-without_failed o ms failed h =
      let l : IsLegalOrder o ms h.0 h.1 = h.2 in
      (h.0, h.1, IsLegalOrder-rest o ms h.0 h.1 l (λ x k. ⊎_elim (λ e. absurd (l.none_failed x k (failed x.id e (x.op, l.invoked x k)))) (λ e. e) (cases_Bool (out x.id))))

  pub IsLinearizable-with_failed : (o : Object) (ms : List Mark) → AreWellFormed ms → HaveFailed out ms → IsLinearizable o ms ↔ IsLinearizable o (without out ms)
  IsLinearizable-with_failed o ms well failed = (
    IsLinearizable-without_failed o ms failed,
    IsLinearizable-stricter o ms (without out ms) (rest_asks_for_more ms (failed_not_returned ms well failed)),
  )

  -- an operation of an order goes where it is left out, or has not returned; else it stays, with something that fits its answers
  abbrev pub MayGo : List Mark → Taken → Type 0
  MayGo ms x = (out x.id ≡ true) ⊎ (¬ HasReturned ms x.id)

  pub record Stays (ms : List Mark) (x y : Taken) : Type 0 where
    pub stays : out x.id ≡ false
    pub id : y.id ≡ x.id
    pub op : y.op ≡ x.op
    pub fits : (answer : Answer) → Contains ms (Returned x.id answer) → Fits y.found answer

  pub IsLinearizable-rest : (o : Object) (ms : List Mark)
      → ((order : List Taken) (s : o.State) → IsLegalOrder o ms order s → (other : List Taken) × (t : o.State) × Matches (MayGo ms) (Stays ms) order other × Run o o.start other t)
      → IsLinearizable o ms → IsLinearizable o (without out ms)
  IsLinearizable-rest o ms made h =
      let l : IsLegalOrder o ms h.0 h.1 = h.2 in
      let r = made h.0 h.1 l in (
        r.0,
        r.1,
        IsLegalOrder-match (MayGo ms) (Stays ms) ms (without out ms) (λ x y k. k.id) (Precedes-from_without ms) o o h.0 r.0 h.1 r.1 l r.2 r.3
            (λ x y i k. to_without ms (Invoked y.id y.op) (subst (λ n. Contains ms (Invoked n y.op)) (sym k.id) (subst (λ p. Contains ms (Invoked x.id p)) (sym k.op) (l.invoked x i))) (ap out k.id ∙ k.stays))
            (λ x y i k f. subst (λ n. Contains ms (Failed n)) k.id (from_without ms _ f).0)
            (λ id d. (
              (d.0, (from_without ms _ d.1).0),
              (λ x i e goes. ⊎_elim (λ q. true≢false (sym q ∙ ap out e ∙ (from_without ms _ d.1).1)) (λ n. n (subst (HasReturned ms) (sym e) (d.0, (from_without ms _ d.1).0))) goes),
            ))
            (λ x y answer i k f. k.fits answer (subst (λ n. Contains ms (Returned n answer)) k.id (from_without ms _ f).0)),
      )

  -- reads may be left out, whatever they have answered
  pub IsLinearizable-without_reads : (o : Object) (ms : List Mark) → ReadsLeave o → AreReads out ms → IsLinearizable o ms → IsLinearizable o (without out ms)
  IsLinearizable-without_reads o ms leave reads =
      IsLinearizable-rest o ms
      (λ order s l. simulated o o (MayGo ms) (Stays ms) (λ before s v. s ≡ v) order
      (λ before after x s t v whole same step.
      let there : Contains order x = subst (λ l. Contains l x) whole (middle before after x) in
      ⊎_elim
      (λ e. inl (inl e, sym (leave x.op s t x.found (reads x.id x.op e (l.invoked x there)) step) ∙ same))
      (λ e. inr (x, t, record { stays = e; id = refl; op = refl; fits = λ answer k. l.fits x answer there k }, subst (λ w. o.Steps w x.op x.found t) same step, refl))
      (cases_Bool (out x.id)))
      [] order o.start s o.start refl refl l.run)
    where
      middle : (before after : List Taken) (x : Taken) → Contains (before ++ x ∷ after) x
      middle before after x = Contains-append_right before (x ∷ after) x (Contains-head x after)

  -- and those that have not returned may come back
  pub IsLinearizable-with_reads : (o : Object) (ms : List Mark) → ReadsLeave o → AreReads out ms → HaveNotReturned out ms → IsLinearizable o ms ↔ IsLinearizable o (without out ms)
  IsLinearizable-with_reads o ms leave reads none = (
    IsLinearizable-without_reads o ms leave reads,
    IsLinearizable-stricter o ms (without out ms) (rest_asks_for_more ms none),
  )

  -- an operation that takes place in no state is in no order
  pub IsLinearizable-without_foreign : (o : Object) (ms : List Mark) → ((id : ℕ) (op : Op) → IsTrue (out id) → Contains ms (Invoked id op) → (s t : o.State) (found : Found) → ¬ o.Steps s op found t)
      → IsLinearizable o ms → IsLinearizable o (without out ms)
  IsLinearizable-without_foreign o ms never h =
      let l : IsLegalOrder o ms h.0 h.1 = h.2 in (
        h.0,
        h.1,
        IsLegalOrder-rest o ms h.0 h.1 l (λ x k. ⊎_elim
            (λ e. (let r = step_of o h.0 o.start h.1 l.run x k in absurd (never x.id x.op e (l.invoked x k) r.0 r.1 x.found r.2)))
            (λ e. e)
            (cases_Bool (out x.id))),
      )
