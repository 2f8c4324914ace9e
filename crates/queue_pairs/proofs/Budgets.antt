-- within the budget twins are late, as long as the history is linearizable
use Rattle.std.proofs.Common.{◌≡◌, ℕ, ⊎_elim, List, [], ◌∷◌, ◌++◌, refl, sym, ap, ◌∙◌, subst, arith, append_assoc, append-nil}
use Rattle.std.specs.List.{Contains}
use Rattle.models.specs.declared.operation.Op.{Op}
use Rattle.models.specs.declared.finding.Answer.{Answer}
use Rattle.models.specs.declared.finding.Answer.TheVariants.{Number}
use Rattle.models.specs.Objects.{fifo_queue}
use Rattle.events.specs.Events.{Mark, Entry, marks, IsPrefixOf}
use Rattle.events.specs.Events.Mark.{Invoked, Returned, Failed, Crashed}
use Rattle.linspec.specs.MarkRule.{AreWellFormed}
use Rattle.linspec.specs.Orders.{IsLinearizable}
use Rattle.linspec.specs.Ends.{IsWithinBudgetBy}
use Rattle.linspec.proofs.Prefixes.{marks-append, IsLinearizable-front}
use Rattle.linspec.specs.Twins.{HasTwins, CountsTwins}
use Rattle.queue_pairs.specs.Pairs.{IsPaired, TwinsAreLate}
use Rattle.queue_pairs.proofs.Once.{one_answer}
use Rattle.queue_pairs.proofs.Oks.{own_ok, was_invoked, twins_were, paired_after_ok_of_enqueue}
use Rattle.queue_pairs.proofs.OkOfDequeue.{paired_after_ok_of_dequeue}
use Rattle.queue_pairs.proofs.Quiet.{paired_was, late_stays}
use Rattle.queue_pairs.proofs.Build.{linearizable_if_paired}

-- a history without its last mark is paired too
before_ok : (ms : List Mark) (id : ℕ) (answer : Answer) → AreWellFormed (ms ++ Returned id answer ∷ []) → IsPaired (ms ++ Returned id answer ∷ []) → IsPaired ms
before_ok ms id answer well paired = ⊎_elim
    (λ e. (paired_after_ok_of_enqueue ms id answer well e.0 (e.1.0, was_invoked ms id answer well id e.1.0 e.1.1, e.1.2)).0 paired)
    (λ h.
    let same : answer ≡ Number h.0 = one_answer (ms ++ Returned id answer ∷ []) well id answer (Number h.0) (own_ok ms id answer well) h.1.answer in
    let both = (paired_after_ok_of_dequeue ms id h.1.op h.0 (subst (λ a. AreWellFormed (ms ++ Returned id a ∷ [])) same well) (was_invoked ms id answer well id h.1.op h.1.invoked) h.1.dequeues).0 (subst (λ a. IsPaired (ms ++ Returned id a ∷ [])) same paired) in
    both.0)
    (paired.known id (answer, own_ok ms id answer well))

before_mark : (ms : List Mark) (m : Mark) → AreWellFormed (ms ++ m ∷ []) → IsPaired (ms ++ m ∷ []) → IsPaired ms
before_mark ms (Invoked id op) well paired = paired_was ms (Invoked id op) well (λ n a e. cc) paired
before_mark ms (Returned id answer) well paired = before_ok ms id answer well paired
before_mark ms (Failed id) well paired = paired_was ms (Failed id) well (λ n a e. cc) paired
before_mark ms (Crashed id) well paired = paired_was ms (Crashed id) well (λ n a e. cc) paired

pub front_well : (ms more : List Mark) → AreWellFormed (ms ++ more) → AreWellFormed ms
front_well ms more well before after m cut = well before (after ++ more) m (sym (append_assoc before (m ∷ after) more) ∙ ap (λ l. l ++ more) cut)

pub paired_front : (ms more : List Mark) → AreWellFormed (ms ++ more) → IsPaired (ms ++ more) → IsPaired ms
paired_front ms [] well paired = subst IsPaired (append-nil ms) paired
paired_front ms (m ∷ more) well paired =
    let whole : (ms ++ m ∷ []) ++ more ≡ ms ++ m ∷ more = append_assoc ms (m ∷ []) more in
    let longer : AreWellFormed ((ms ++ m ∷ []) ++ more) = subst AreWellFormed (sym whole) well in
    before_mark ms m (front_well (ms ++ m ∷ []) more longer) (paired_front (ms ++ m ∷ []) more longer (subst IsPaired (sym whole) paired))

none_twins : TwinsAreLate []
none_twins a b v t = absurd (no_mark t.first.0.0 t.first.0.1)
  where
    no_mark : (op : Op) → Contains [] (Invoked a op) → ⊥
    no_mark op h = omega arith

late_if_none : (ms : List Mark) → ¬ HasTwins ms → TwinsAreLate ms
late_if_none ms none a b v t = absurd (none (a, b, v, t))

module _ (entries : List Entry) (budget : ℕ) (well : AreWellFormed (marks entries)) (within : IsWithinBudgetBy CountsTwins budget entries) where
  well_of : (f : List Entry) → IsPrefixOf f entries → AreWellFormed (marks f)
  well_of f is = front_well (marks f) (marks is.0) (subst AreWellFormed (ap marks (sym is.1) ∙ marks-append f is.0) well)

  -- one more mark
  late_then : (f : List Entry) (e : Entry) (rest : List Entry) → f ++ e ∷ rest ≡ entries → (m : Mark) → e.mark ≡ m
      → AreWellFormed (marks f ++ m ∷ []) → TwinsAreLate (marks f) → IsLinearizable fifo_queue (marks f) → TwinsAreLate (marks f ++ m ∷ [])
  late_then f e rest cut (Invoked id op) is w late legal = late_stays (marks f) (Invoked id op) w (λ n a q. cc) late
  late_then f e rest cut (Failed id) is w late legal = late_stays (marks f) (Failed id) w (λ n a q. cc) late
  late_then f e rest cut (Crashed id) is w late legal = late_stays (marks f) (Crashed id) w (λ n a q. cc) late
  late_then f e rest cut (Returned id answer) is w late legal =
      late_if_none (marks f ++ Returned id answer ∷ []) (λ t. within e.index (record {
        before = f;
        event = e;
        after = rest;
        cut = cut;
        here = refl;
        is_ok = (id, answer, is);
        many = (legal, twins_were (marks f) id answer w t);
      }))

  pub late_next : (f : List Entry) (e : Entry) → IsPrefixOf (f ++ e ∷ []) entries → TwinsAreLate (marks f) → IsLinearizable fifo_queue (marks f) → TwinsAreLate (marks (f ++ e ∷ []))
  late_next f e is late legal =
      let same : marks (f ++ e ∷ []) ≡ marks f ++ e.mark ∷ [] = marks-append f (e ∷ []) in
      subst TwinsAreLate (sym same) (late_then f e is.0 (sym (append_assoc f (e ∷ []) is.0) ∙ is.1) e.mark refl (subst AreWellFormed same (well_of (f ++ e ∷ []) is)) late legal)

  module _ (whole : List Entry) (front : IsPrefixOf whole entries)
      (good : (f : List Entry) → IsPrefixOf f whole → TwinsAreLate (marks f) → IsLinearizable fifo_queue (marks f)) where
    late_by : (done todo : List Entry) → done ++ todo ≡ whole → TwinsAreLate (marks done) → TwinsAreLate (marks whole)
    late_by done [] e late = subst (λ (l : List Entry). TwinsAreLate (marks l)) (sym (append-nil done) ∙ e) late
    late_by done (x ∷ todo) e late =
        let next : (done ++ x ∷ []) ++ todo ≡ whole = append_assoc done (x ∷ []) todo ∙ e in
        let is : IsPrefixOf (done ++ x ∷ []) entries = (todo ++ front.0, sym (append_assoc (done ++ x ∷ []) todo front.0) ∙ ap (λ l. l ++ front.0) next ∙ front.1) in
        late_by (done ++ x ∷ []) todo next (late_next done x is late (good done (x ∷ todo, e) late))

    late_whole : TwinsAreLate (marks whole)
    late_whole = late_by [] whole refl none_twins

  pub late_if_linearizable : (f : List Entry) → IsPrefixOf f entries → IsLinearizable fifo_queue (marks f) → TwinsAreLate (marks f)
  late_if_linearizable f is legal = late_whole f is (λ g k late. IsLinearizable-front fifo_queue g f (well_of f is) k legal)

  pub late_if_paired : (f : List Entry) → IsPrefixOf f entries → IsPaired (marks f) → TwinsAreLate (marks f)
  late_if_paired f is paired = late_whole f is (λ g k late. legal_front g k late)
    where
      legal_front : (g : List Entry) → IsPrefixOf g f → TwinsAreLate (marks g) → IsLinearizable fifo_queue (marks g)
      legal_front g k late =
          let same : marks f ≡ marks g ++ marks k.0 = ap marks (sym k.1) ∙ marks-append g k.0 in
          let w : AreWellFormed (marks g ++ marks k.0) = subst AreWellFormed same (well_of f is) in
          linearizable_if_paired (marks g) (front_well (marks g) (marks k.0) w) late (paired_front (marks g) (marks k.0) w (subst IsPaired same paired))
