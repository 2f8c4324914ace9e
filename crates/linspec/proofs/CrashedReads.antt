-- fewer crashed operations count: the effect on ends, on keys over budget and on verdicts
use Rattle.std.proofs.Common.{◌≡◌, ◌≢◌, ◌↔◌, ℕ, ◌≤◌, suc, ⊎_elim, Bool, IsTrue, List, [], ◌∷◌, length, refl, sym, ap, ◌∙◌, subst}
use Rattle.std.specs.List.{Contains}
use Rattle.models.specs.declared.operation.Op.{Op}
use Rattle.models.specs.Objects.{Object}
use Rattle.kinds.specs.declared.model_kind.ModelKind.{ModelKind}
use Rattle.events.specs.Events.{Mark, Entry}
use Rattle.linspec.specs.Operations.{IsOpen}
use Rattle.linspec.specs.Orders.{Taken, Includes, Pairwise}
use Rattle.linspec.specs.Ends.{End, HasCrashedBy, every, is_no_read, LeavesBy, IsEndBy, HasMoreThan, HasMoreThanBy, HasMoreThanWithReads, Count, IsBlownAtBy, IsBlownIndexBy, IsBlownBy}
use Rattle.linspec.specs.Verdicts.{IsBlownKeyBy, IsVerdictWithBy, IsVerdictBy}
use Rattle.linspec.specs.declared.verdict.Verdict.{Verdict}
use Rattle.linspec.specs.declared.verdict.Verdict.TheVariants.{Legal, Illegal, Unknown}
use Rattle.linspec.proofs.Lists.{Contains-nil, Contains-head, Contains-tail, Contains-cons_cases}
use Rattle.linspec.proofs.Parts.{Records-unique, Marks-unique}
use Rattle.linspec.proofs.Fates.{end_of_by}

-- an operation that counts by the first predicate counts by the second
abbrev pub CountsFewer : (Op → Bool) → (Op → Bool) → Type 0
CountsFewer fewer more = (op : Op) → IsTrue (fewer op) → IsTrue (more op)

pub all_count : CountsFewer is_no_read every
all_count op h = refl

module _ (fewer more : Op → Bool) (less : CountsFewer fewer more) (o : Object) (marks : List Mark) where
  crashed_still : (id : ℕ) → HasCrashedBy fewer marks id → HasCrashedBy more marks id
  crashed_still id h = (h.0, (h.1.0, h.1.1, less h.1.0 h.1.2))

  -- f is what an order of e leaves where more counts
  abbrev IsFrom : End o.State → End o.State → Type 0
  IsFrom e f = (order : List Taken) × LeavesBy fewer o marks order e × LeavesBy more o marks order f × (e.state ≡ f.state)

  fuller : (e : End o.State) → IsEndBy fewer o marks e → (f : End o.State) × IsFrom e f
  fuller e end =
      let v : LeavesBy fewer o marks end.0 e = end.1 in
      let f : (f : End o.State) × LeavesBy more o marks end.0 f × (f.state ≡ e.state) = end_of_by more o marks end.0 e.state v.legal in
      (f.0, (end.0, v, f.1, sym f.2))

  -- an operation that is in the one order, and counts, is in the other, if both leave f
  in_both : (a b : List Taken) (f : End o.State) → LeavesBy more o marks a f → LeavesBy more o marks b f → (id : ℕ) → Includes a id × HasCrashedBy fewer marks id → Includes b id × HasCrashedBy fewer marks id
  in_both a b f x y id h = (((y.crashed id).0 ((x.crashed id).1 (h.0, crashed_still id h.1))).0, h.1)

  -- f names that end
  fuller_once : (e d f : End o.State) → IsFrom e f → IsFrom d f → e ≡ d
  fuller_once e d f a b =
      let v : LeavesBy fewer o marks a.0 e = a.1 in
      let w : LeavesBy fewer o marks b.0 d = b.1 in
      let x : LeavesBy more o marks a.0 f = a.2 in
      let y : LeavesBy more o marks b.0 f = b.2 in
      let s : e.state ≡ d.state = a.3 ∙ sym b.3 in
      let p : e.pending ≡ d.pending = Records-unique (IsOpen marks) a.0 e.pending f.pending v.pending x.pending ∙ sym (Records-unique (IsOpen marks) b.0 d.pending f.pending w.pending y.pending) in
      let c : e.crashed ≡ d.crashed = Marks-unique (HasCrashedBy fewer marks) a.0 e.crashed d.crashed v.crashed
      (λ id. ((λ h. in_both b.0 a.0 f y x id ((w.crashed id).0 h)), (λ h. (w.crashed id).1 (in_both a.0 b.0 f x y id h)))) in
      λ i. record { state = s i; pending = p i; crashed = c i }

  all_fuller : (es : List (End o.State)) → Pairwise (λ d e. d ≢ e) es → ((e : End o.State) → Contains es e → IsEndBy fewer o marks e)
      → (fs : List (End o.State)) × (length fs ≡ length es) × Pairwise (λ d e. d ≢ e) fs × ((f : End o.State) → Contains fs f → (e : End o.State) × Contains es e × IsFrom e f)
  all_fuller [] once each = ([], refl, tt, (λ f h. absurd (Contains-nil f h)))
  all_fuller (e ∷ es) once each =
      let f = fuller e (each e (Contains-head e es)) in
      let rest = all_fuller es once.1 (λ d h. each d (Contains-tail e es d h)) in (
        f.0 ∷ rest.0,
        ap suc rest.1,
        ((λ g h same. (let d = rest.3 g h in once.0 d.0 d.1 (fuller_once e d.0 g (subst (IsFrom e) same f.1) d.2))), rest.2),
        (λ g h. ⊎_elim
            (λ same. (e, Contains-head e es, subst (IsFrom e) same f.1))
            (λ k. (let d = rest.3 g k in (d.0, Contains-tail e es d.0 d.1, d.2)))
            (Contains-cons_cases f.0 rest.0 g h)),
      )

  pub more_by : (n : ℕ) → HasMoreThanBy fewer o marks n → HasMoreThanBy more o marks n
  more_by n h =
      let all = all_fuller h.ends h.distinct h.each in record {
        ends = all.0;
        many = all.1 ∙ h.many;
        distinct = all.2;
        each = λ f k. (let e = all.3 f k in (e.2.0, e.2.2));
      }

-- if the first count is more than n, so is the second
abbrev pub CountsLess : Count → Count → Type 0
CountsLess fewer more = (marks : List Mark) (n : ℕ) → fewer marks n → more marks n

pub less_with_reads : (o : Object) → CountsLess (HasMoreThan o) (HasMoreThanWithReads o)
less_with_reads o marks = more_by is_no_read every all_count o marks

module _ (fewer more : Count) (less : CountsLess fewer more) (budget : ℕ) (entries : List Entry) where
  pub blown_at_by : (i : ℕ) → IsBlownAtBy fewer budget entries i → IsBlownAtBy more budget entries i
  blown_at_by i b = record {
    before = b.before;
    event = b.event;
    after = b.after;
    cut = b.cut;
    here = b.here;
    is_ok = b.is_ok;
    many = less _ budget b.many;
  }

  pub blown_by : IsBlownBy fewer budget entries → IsBlownBy more budget entries
  blown_by b = (b.0, blown_at_by b.0 b.1)

  pub no_later_by : (i j : ℕ) → IsBlownIndexBy fewer budget entries i → IsBlownIndexBy more budget entries j → j ≤ i
  no_later_by i j b c = c.least i (blown_at_by i b.blown)

module _ (fewer more : ModelKind → Count) (less : (kind : ModelKind) → CountsLess (fewer kind) (more kind)) (kinds : ℕ → ModelKind) (budgets : ℕ → ℕ) (entries : List Entry) where
  abbrev NoneBy : (ModelKind → Count) → Type 0
  NoneBy count = (k : ℕ) → ¬ IsBlownKeyBy count kinds budgets entries k

  none_by : NoneBy more → NoneBy fewer
  none_by none k b = none k (blown_by _ _ (less (kinds k)) _ _ b)

  -- if no key is over budget, the count does not matter
  with_by : (c d : ModelKind → Count) → NoneBy c → NoneBy d → (blown : ℕ → Bool) (v : Verdict) → IsVerdictWithBy c kinds budgets entries blown v → IsVerdictWithBy d kinds budgets entries blown v
  with_by c d a b blown (Illegal key index) is = is
  with_by c d a b blown (Unknown key index) is = absurd (a key (index, is.1.blown))
  with_by c d a b blown Legal is = (is.0, b)

  verdict_by : (c d : ModelKind → Count) → NoneBy c → NoneBy d → (v : Verdict) → IsVerdictBy c kinds budgets entries v → IsVerdictBy d kinds budgets entries v
  verdict_by c d a b v is = (
    is.0,
    (λ k. (
      (λ t. absurd (a k ((is.1 k).0 t))),
      (λ h. absurd (b k h)),
    )),
    with_by c d a b is.0 v is.2,
  )

  pub verdicts_by : NoneBy more → (v : Verdict) → IsVerdictBy fewer kinds budgets entries v ↔ IsVerdictBy more kinds budgets entries v
  verdicts_by none v = (verdict_by fewer more (none_by none) none v, verdict_by more fewer none (none_by none) v)
