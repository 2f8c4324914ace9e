-- ends from which pending operations lead to all ends of the history, after each event
use Rattle.std.proofs.Common.{◌≡◌, ◌≢◌, ◌↔◌, ◌+◌, ◌<◌, inr, ⊎_elim, Bool, true, false, IsTrue, ℕ, List, [], ◌∷◌, ◌++◌, length, map, take, drop, is_some, refl, sym, ap, ◌∙◌, subst, arith}
use Rattle.std.specs.List.{Contains}
use Rattle.std.specs.FinMap as finmap
use Rattle.std.proofs.lemmas.Bool.{true≢false}
use Rattle.models.specs.declared.operation.Op.{Op}
use Rattle.models.specs.Objects.{Object, ReadsLeave}
use Rattle.events.specs.Events.{Mark}
use Rattle.events.specs.Events.Mark.{Invoked, Failed, Crashed}
use Rattle.linspec.specs.Operations.{IsOpen}
use Rattle.linspec.specs.MarkRule.{IsNew}
use Rattle.linspec.specs.Orders.{Taken, IsLinearizable, Pairwise}
use Rattle.linspec.specs.Ends.{End, CountsIn, is_no_read, IsEnd, HasMoreThan}
use Rattle.linspec.proofs.Lists.{Contains-nil, Contains-head, Pairwise-left}
use Rattle.std.proofs.lemmas.List.{length-take-le, take-append-drop}
use Rattle.std.proofs.lemmas.List.Elements.{Contains-append_left}
use Rattle.linspec.proofs.Filters.{from_map, to_map}
use Rattle.linspec.proofs.Completions.{fail_after, fail_before, info_after_by, info_before_by}
use Rattle.linspec.proofs.Reach.{Reaches, invoke_after, invoke_before}
use Rattle.linspec.proofs.Prefixes.{IsLinearizable-end}
use Rattle.moves.specs.declared.pending_op.PendingOp.{PendingOp}
use Rattle.moves.specs.KeptEnds.{ArePending}
use Rattle.moves.specs.EndSteps.{Crashes, Fails, after_crash, is_in, Along, Adds, IsReached, ReachesMoreThan}
use Rattle.frontier.proofs.TheEnds.{AreTheEnds}
use Rattle.moves.proofs.Reaching.{end_further, calls_of, reaches_of, reached_itself}
use Rattle.moves.proofs.JustInTime.{Reaches-append, Reaches-new, Reaches-failed, Reaches-crashed, Reaches-aside, aside, none_before}
use Rattle.frontier.proofs.AfterEvents.{none_from}

-- each of them is an end, and each end is reached from one of them
pub record Generates (o : Object) (ends : List (End o.State)) (marks : List Mark) : Type 0 where
  pub sound : (e : End o.State) → Contains ends e → IsEnd o marks e
  pub enough : (f : End o.State) → IsEnd o marks f → (e : End o.State) × Contains ends e × ((xs : List Taken) × Reaches o marks e xs f)

-- in the words of calls
module _ (o : Object) (ends : List (End o.State)) (calls : List PendingOp) (marks : List Mark) (pending : ArePending calls marks) where
  pub generates_by : ((e : End o.State) → IsReached o calls ends e ↔ IsEnd o marks e) → Generates o ends marks
  generates_by are = record {
    sound = λ e h. (are e).0 (reached_itself o calls ends e h);
    enough = λ f end.
        let r = (are f).1 end in
        (r.1, r.2, reaches_of o calls marks pending r.0 r.1 f r.3);
  }

  pub reached_by : Generates o ends marks → (e : End o.State) → IsReached o calls ends e ↔ IsEnd o marks e
  reached_by gen e = (
    (λ r. end_further o calls marks pending r.0 r.1 e (gen.sound r.1 r.2) r.3),
    (λ end.
        let b = gen.enough e end in
        let m = calls_of o calls marks pending b.2.0 b.0 e b.2.1 in
        (m.0, b.0, b.1, m.1)),
  )

-- all of them do
pub generates_all : (o : Object) (ends : List (End o.State)) (marks : List Mark) → AreTheEnds o ends marks → Generates o ends marks
generates_all o ends marks are = record { sound = λ e h. (are.each e).0 h; enough = λ f end. (f, (are.each f).1 end, ([], refl)) }

-- whether some end is left
module _ (o : Object) (ends : List (End o.State)) (marks : List Mark) (gen : Generates o ends marks) where
  pub none_left : length ends ≡ 0 → ¬ IsLinearizable o marks
  none_left none h =
      let e = (IsLinearizable-end o marks).0 h in
      let b = gen.enough e.0 e.1 in
      no_element ends none b.0 b.1
    where
      no_element : (xs : List (End o.State)) → length xs ≡ 0 → (x : End o.State) → Contains xs x → ⊥
      no_element [] e x h = Contains-nil x h
      no_element (y ∷ xs) e x h = omega arith

  pub some_left : length ends ≢ 0 → IsLinearizable o marks
  some_left some = by_first ends gen.sound some
    where
      by_first : (xs : List (End o.State)) → ((e : End o.State) → Contains xs e → IsEnd o marks e) → length xs ≢ 0 → IsLinearizable o marks
      by_first [] sound some = absurd (some refl)
      by_first (x ∷ xs) sound some = (IsLinearizable-end o marks).1 (x, sound x (Contains-head x xs))

-- an invocation adds none
pub generates_after_invoke : (o : Object) → ReadsLeave o → (ends : List (End o.State)) (marks : List Mark) (id : ℕ) (op : Op) → IsNew marks id → Generates o ends marks → Generates o ends (marks ++ Invoked id op ∷ [])
generates_after_invoke o reads ends marks id op new gen = record {
  sound = λ e h. invoke_after o marks id op new e [] e (gen.sound e h) refl;
  enough = λ f end.
      let b = invoke_before o marks id op new reads f end in
      let c = gen.enough b.0 b.2 in
      (c.0, c.1, (c.2.0 ++ b.1, Reaches-append o (marks ++ Invoked id op ∷ []) c.2.0 b.1 c.0 b.0 f (Reaches-new o marks id op new c.2.0 c.0 b.0 c.2.1) b.3));
}

-- a fail leaves those without the operation, and an info changes those with it
module _ (o : Object) (ends : List (End o.State)) (marks : List Mark) (id : ℕ) (is_open : IsOpen marks id) (gen : Generates o ends marks) where
  pub generates_after_fail : (after : List (End o.State)) → Adds (Along (Fails id) ends) [] after → Generates o after (marks ++ Failed id ∷ [])
  generates_after_fail after fails = record {
    sound = λ f h.
        ⊎_elim
        (λ k. absurd (Contains-nil f k))
        (λ s.
        let out : is_in f id false ≡ false = subst (λ (x : End o.State). is_in x id false ≡ false) s.2.1 s.2.0 in
        fail_after o marks id is_open f (gen.sound f (subst (Contains ends) s.2.1 s.1)) (none_from (finmap.get f.pending id) out))
        ((fails.each f).0 h);
    enough = λ f end.
        let b = fail_before o marks id is_open f end in
        let c = gen.enough f b.0 in (
          c.0,
          (fails.each c.0).1 (inr (c.0, c.1, (ap is_some (none_before o marks id is_open c.0 f c.2.0 c.2.1 b.1), refl))),
          (c.2.0, Reaches-failed o marks id is_open c.2.0 c.0 f c.2.1 b.1),
        );
  }

  crash_told : (tells : IsTrue true ↔ CountsIn is_no_read marks id) (after : List (End o.State)) → ((f : End o.State) → Contains after f ↔ Along (Crashes true id) ends f) → Generates o after (marks ++ Crashed id ∷ [])
  crash_told tells after each = record {
    sound = λ f h.
        let s = (each f).0 h in
        subst (IsEnd o (marks ++ Crashed id ∷ [])) s.2 (info_after_by is_no_read o marks id is_open true tells s.0 (gen.sound s.0 s.1));
    enough = λ f end.
        let b = info_before_by is_no_read o marks id is_open true tells f end in
        let c = gen.enough b.0 b.1 in (
          after_crash true c.0 id,
          (each (after_crash true c.0 id)).1 (c.0, c.1, refl),
          (c.2.0, subst (Reaches o (marks ++ Crashed id ∷ []) (after_crash true c.0 id) c.2.0) (sym b.2) (Reaches-crashed o marks id is_open (tells.0 refl) c.2.0 c.0 b.0 (gen.sound c.0 c.1) c.2.1)),
        );
  }

  crash_aside : ReadsLeave o → (tells : IsTrue false ↔ CountsIn is_no_read marks id) (after : List (End o.State)) → ((f : End o.State) → Contains after f ↔ Along (Crashes false id) ends f) → Generates o after (marks ++ Crashed id ∷ [])
  crash_aside reads tells after each = record {
    sound = λ f h.
        let s = (each f).0 h in
        subst (IsEnd o (marks ++ Crashed id ∷ [])) (aside s.0 id ∙ s.2) (info_after_by is_no_read o marks id is_open false tells s.0 (gen.sound s.0 s.1));
    enough = λ f end.
        let b = info_before_by is_no_read o marks id is_open false tells f end in
        let c = gen.enough b.0 b.1 in
        let r = Reaches-aside o reads marks id is_open (λ k. true≢false (sym (tells.1 k))) c.2.0 c.0 b.0 c.2.1 in (
          after_crash false c.0 id,
          (each (after_crash false c.0 id)).1 (c.0, c.1, refl),
          (r.0, subst (Reaches o (marks ++ Crashed id ∷ []) (after_crash false c.0 id) r.0) (sym (b.2 ∙ aside b.0 id)) r.1),
        );
  }

  pub generates_after_crash : ReadsLeave o → (counted : Bool) → (IsTrue counted ↔ CountsIn is_no_read marks id) → (after : List (End o.State)) → ((f : End o.State) → Contains after f ↔ Along (Crashes counted id) ends f)
      → Generates o after (marks ++ Crashed id ∷ [])
  generates_after_crash reads true tells after each = crash_told tells after each
  generates_after_crash reads false tells after each = crash_aside reads tells after each

pub crash_each : (o : Object) (counted : Bool) (ends : List (End o.State)) (id : ℕ) (after : List (End o.State)) → after ≡ map (λ e. after_crash counted e id) ends → (f : End o.State) → Contains after f ↔ Along (Crashes counted id) ends f
crash_each o counted ends id after is f = (
  (λ h. from_map (λ e. after_crash counted e id) ends f (subst (λ l. Contains l f) is h)),
  (λ s. subst (λ l. Contains l f) (sym is) (subst (Contains (map (λ e. after_crash counted e id) ends)) s.2 (to_map (λ e. after_crash counted e id) ends s.0 s.1))),
)

more_than : (o : Object) (marks : List Mark) (ends : List (End o.State)) (budget : ℕ) → Pairwise (λ d e. d ≢ e) ends → ((e : End o.State) → Contains ends e → IsEnd o marks e) → budget < length ends → HasMoreThan o marks budget
more_than o marks ends budget once each more = record {
  ends = take (budget + 1) ends;
  many = length-take-le (budget + 1) ends (omega arith);
  distinct = Pairwise-left (λ d e. d ≢ e) (take (budget + 1) ends) (drop (budget + 1) ends) (subst (Pairwise (λ d e. d ≢ e)) (sym (take-append-drop (budget + 1) ends)) once);
  each = λ e h. each e (subst (λ l. Contains l e) (take-append-drop (budget + 1) ends) (Contains-append_left (take (budget + 1) ends) (drop (budget + 1) ends) e h));
}

-- an ok finds all ends, or more of them than the budget
module _ (o : Object) (ends : List (End o.State)) (calls : List PendingOp) (marks : List Mark) (are : (e : End o.State) → IsReached o calls ends e ↔ IsEnd o marks e) where
  pub all_found : (all : List (End o.State)) → Pairwise (λ d e. d ≢ e) ends → Adds (IsReached o calls ends) ends all → AreTheEnds o all marks
  all_found all once adds = record {
    each = λ e. (
      (λ h. (are e).0 (⊎_elim (λ k. reached_itself o calls ends e k) (λ r. r) ((adds.each e).0 h))),
      (λ end. (adds.each e).1 (inr ((are e).1 end))),
    );
    once = adds.once once;
  }

  pub more_found : (budget : ℕ) → ReachesMoreThan o calls ends budget → HasMoreThan o marks budget
  more_found budget r = more_than o marks r.more budget r.once (λ e h. (are e).0 (r.reached e h)) r.many
