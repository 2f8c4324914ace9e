-- where a history that asks for more has a legal order, it is one of the history
use Rattle.std.proofs.Common.{◌≡◌, ℕ, ◌<◌, ◌≤◌, ⊎_elim, List, ◌∷◌, ◌++◌, sym, ap, ◌∙◌, subst, arith}
use Rattle.std.specs.List.{Contains}
use Rattle.models.specs.declared.operation.Op.{Op}
use Rattle.models.specs.declared.finding.Answer.{Answer}
use Rattle.models.specs.Objects.{Object}
use Rattle.events.specs.Events.{Mark, Entry, marks}
use Rattle.events.specs.Events.Mark.{Invoked, Returned}
use Rattle.linspec.specs.Operations.{Precedes}
use Rattle.linspec.specs.Orders.{IsLegalOrder, IsLinearizable}
use Rattle.linspec.specs.Verdicts.{IsRising}
use Rattle.linspec.proofs.Lists.{Contains-head, Contains-cons_cases, Pairwise-weaker, Pairwise-across, Pairwise-right, cut_at}
use Rattle.linspec.proofs.Filters.{map-cut, from_map, to_map}
use Rattle.linspec.proofs.Prefixes.{marks-append}
use Rattle.linspec.proofs.Keyed.{from_marks}
use Rattle.std.proofs.lemmas.List.Elements.{Contains-append_left, Contains-append_right, Contains-append_cases}
use Rattle.shrinking_laws.specs.Intervals.{AsksForMore, HasNarrowerIntervals}

pub IsLinearizable-stricter : (o : Object) (history stricter : List Mark) → AsksForMore history stricter → IsLinearizable o stricter → IsLinearizable o history
IsLinearizable-stricter o history stricter asks h =
    let l : IsLegalOrder o stricter h.0 h.1 = h.2 in (
      h.0,
      h.1,
      record {
        invoked = λ x k. asks.operations x.id x.op (l.invoked x k);
        once = l.once;
        none_failed = λ x k f. l.none_failed x k (asks.failures x.id (x.op, l.invoked x k) f);
        all_done = λ id d. l.all_done id (d.0, asks.answers id d.0 d.1);
        in_time = Pairwise-weaker (λ x y. ¬ Precedes stricter y.id x.id) (λ x y. ¬ Precedes history y.id x.id) h.0
            (λ x y i j n p. n (asks.precedence y.id x.id (y.op, l.invoked y j) (x.op, l.invoked x i) p)) l.in_time;
        run = l.run;
        fits = λ x answer k d. l.fits x answer k (asks.answers x.id answer d);
      },
    )

module _ (wide narrow : List Entry) (rises : IsRising wide) (rises_too : IsRising narrow) (within : HasNarrowerIntervals wide narrow) where
  -- an entry whose index is below that of another one comes before it
  placed : (e f : Entry) → Contains narrow e → Contains narrow f → e.index < f.index → (before : List Entry) × (after : List Entry) × (narrow ≡ before ++ f ∷ after) × Contains before e
  placed e f h k lt =
      let c = cut_at narrow f k in
      let rises_there : IsRising (c.0 ++ f ∷ c.1) = subst IsRising c.2 rises_too in (
        c.0,
        c.1,
        c.2,
        ⊎_elim
            (λ i. i)
            (λ i. ⊎_elim
            (λ (q : f ≡ e). (let same : f.index ≡ e.index = ap (λ (w : Entry). w.index) q in absurd (omega arith)))
            (λ j. (let above : f.index < e.index = (Pairwise-right (λ (e f : Entry). e.index < f.index) c.0 (f ∷ c.1) rises_there).0 e j in absurd (omega arith)))
            (Contains-cons_cases f c.1 e i))
            (Contains-append_cases c.0 (f ∷ c.1) e (subst (λ l. Contains l e) c.2 h)),
      )

  precedes_at : (a b : ℕ) (answer : Answer) (op : Op) (e f : Entry) → Contains narrow e → Contains narrow f → e.mark ≡ Returned a answer → f.mark ≡ Invoked b op → e.index < f.index → Precedes (marks narrow) a b
  precedes_at a b answer op e f h k returned invoked lt =
      let d = placed e f h k lt in
      let parts : marks narrow ≡ marks d.0 ++ marks (f ∷ d.1) = ap marks d.2 ∙ marks-append d.0 (f ∷ d.1) in
      record {
        before = marks d.0;
        after = marks (f ∷ d.1);
        cut = sym parts;
        returned = (answer, subst (Contains (marks d.0)) returned (to_map (λ (e : Entry). e.mark) d.0 e d.3));
        invoked = (op, subst (Contains (marks (f ∷ d.1))) invoked (Contains-head f.mark (marks d.1)));
      }

  pub narrower_precedes : (a b : ℕ) → Precedes (marks wide) a b → Precedes (marks narrow) a b
  narrower_precedes a b p =
      let answer : Answer = p.returned.0 in
      let op : Op = p.invoked.0 in
      let c = map-cut (λ (e : Entry). e.mark) wide p.before p.after p.cut in
      let e = from_map (λ (e : Entry). e.mark) c.0 (Returned a answer) (subst (λ l. Contains l (Returned a answer)) c.3 p.returned.1) in
      let f = from_map (λ (e : Entry). e.mark) c.1 (Invoked b op) (subst (λ l. Contains l (Invoked b op)) c.4 p.invoked.1) in
      let in_wide_e : Contains wide e.0 = subst (λ l. Contains l e.0) (sym c.2) (Contains-append_left c.0 c.1 e.0 e.1) in
      let in_wide_f : Contains wide f.0 = subst (λ l. Contains l f.0) (sym c.2) (Contains-append_right c.0 c.1 f.0 f.1) in
      let order : e.0.index < f.0.index = Pairwise-across (λ (e f : Entry). e.index < f.index) c.0 c.1 (subst IsRising c.2 rises) e.0 f.0 e.1 f.1 in
      let g = from_marks narrow (Returned a answer) (within.answers a answer (subst (Contains (marks wide)) e.2 (to_map (λ (e : Entry). e.mark) wide e.0 in_wide_e))) in
      let h = from_marks narrow (Invoked b op) ((within.operations b op).0 (subst (Contains (marks wide)) f.2 (to_map (λ (e : Entry). e.mark) wide f.0 in_wide_f))) in
      let sooner : g.0.index ≤ e.0.index = within.returned_no_later e.0 g.0 a answer in_wide_e g.1 e.2 g.2 in
      let later : f.0.index ≤ h.0.index = within.invoked_no_earlier f.0 h.0 b op in_wide_f h.1 f.2 h.2 in
      precedes_at a b answer op g.0 h.0 g.1 h.1 g.2 h.2 (omega arith)

  pub narrower_asks_for_more : AsksForMore (marks wide) (marks narrow)
  narrower_asks_for_more = record {
    operations = λ id op. (within.operations id op).1;
    answers = within.answers;
    failures = λ id i. within.failures id;
    precedence = λ a b i j. narrower_precedes a b;
  }
