-- all ends after an ok, by those before it, and the ends before any event
use Rattle.std.proofs.Common.{◌≡◌, ℕ, inr, ⊎_elim, false, Option, Some, None, is_some, List, [], ◌∷◌, ◌++◌, map, refl, sym, ap, ◌∙◌, subst}
use Rattle.std.specs.List.{Contains}
use Rattle.std.specs.Ordering.{nat_cmp}
use Rattle.std.specs.FinMap as finmap
use Rattle.std.specs.FinSet as finset
use Rattle.std.proofs.lemmas.Bool.{true≢false}
use Rattle.models.specs.declared.finding.Answer.{Answer}
use Rattle.models.specs.declared.finding.Found.{Found}
use Rattle.models.specs.Objects.{Object}
use Rattle.events.specs.Events.{Mark}
use Rattle.events.specs.Events.Mark.{Returned}
use Rattle.linspec.specs.Operations.{IsOpen}
use Rattle.linspec.specs.Orders.{Taken}
use Rattle.linspec.specs.Ends.{End, Leaves, IsEnd}
use Rattle.linspec.proofs.Lists.{Contains-nil, Contains-head, Contains-cons_cases}
use Rattle.linspec.proofs.Fates.{end_is}
use Rattle.linspec.proofs.Completions.{ok_after, ok_before}
use Rattle.moves.specs.declared.kept_end.KeptEnd.{KeptEnd}
use Rattle.moves.specs.KeptEnds.{ArePending, end_kept, pending_in, crashed_in}
use Rattle.moves.specs.EndSteps.{Settles, Along, Adds}
use Rattle.moves.proofs.Changes.{same_parts}
use Rattle.frontier.proofs.TheEnds.{AreTheEnds}

pub none_from : {X : Type 0} (r : Option X) → is_some r ≡ false → r ≡ None
none_from None e = refl
none_from (Some x) e = absurd (true≢false e)

-- an ok
module _ (o : Object) (ends : List (End o.State)) (marks : List Mark) (are : AreTheEnds o ends marks) (id : ℕ) (is_open : IsOpen marks id) where
  pub ends_after_ok : (answer : Answer) (after : List (End o.State)) → Adds (Along (Settles id answer) ends) [] after → AreTheEnds o after (marks ++ Returned id answer ∷ [])
  ends_after_ok answer after adds = record {
    each = λ f. (
      (λ h. ⊎_elim
          (λ k. absurd (Contains-nil f k))
          (λ s. subst (IsEnd o (marks ++ Returned id answer ∷ [])) s.2.1
          (ok_after o marks id answer is_open s.0 s.2.0.0 ((are.each s.0).0 s.1) s.2.0.1 s.2.0.2))
          ((adds.each f).0 h)),
      (λ end. let b = ok_before o marks id answer is_open f end in (adds.each f).1 (inr (b.0, (are.each b.0).1 b.2, ((b.1, b.3, b.4), sym b.5)))),
    );
    once = adds.once tt;
  }

-- before any event
pub ends_at_start : (o : Object) → AreTheEnds o (record { state = o.start; pending = finmap.empty; crashed = finset.empty } ∷ []) []
ends_at_start o = record {
  each = λ e. (
    (λ h. ⊎_elim
        (λ is. subst (IsEnd o []) is ([], start_leaves))
        (λ k. absurd (Contains-nil e k))
        (Contains-cons_cases (record { state = o.start; pending = finmap.empty; crashed = finset.empty }) [] e h)),
    (λ end. subst (Contains (record { state = o.start; pending = finmap.empty; crashed = finset.empty } ∷ [])) (only end.0 e end.1) (Contains-head (record { state = o.start; pending = finmap.empty; crashed = finset.empty }) [])),
  );
  once = ((λ y k. absurd (Contains-nil y k)), tt);
}
  where
    no_get : (id : ℕ) (found : Found) (r : Option Found) → r ≡ None → r ≡ Some found → ⊥
    no_get id found r e f = cc

    start_leaves : Leaves o [] [] (record { state = o.start; pending = finmap.empty; crashed = finset.empty })
    start_leaves = record {
      legal = record {
        invoked = λ x h. absurd (Contains-nil x h);
        once = tt;
        none_failed = λ x h. absurd (Contains-nil x h);
        all_done = λ id h. absurd (Contains-nil _ h.1);
        in_time = tt;
        run = refl;
        fits = λ x answer h. absurd (Contains-nil x h);
      };
      pending = λ id found. ((λ e. absurd (no_get id found _ (finmap.get-empty {X = Found} nat_cmp id) e)), (λ h. absurd (Contains-nil _ h.0.1)));
      crashed = λ id. ((λ e. absurd (true≢false (sym e ∙ finset.contains-empty nat_cmp id))), (λ h. absurd (Contains-nil _ h.0.1)));
    }

    only : (order : List Taken) (e : End o.State) → Leaves o [] order e → record { state = o.start; pending = finmap.empty; crashed = finset.empty } ≡ e
    only [] e v = end_is o [] [] (record { state = o.start; pending = finmap.empty; crashed = finset.empty }) e v.legal.run start_leaves v
    only (x ∷ order) e v = absurd (Contains-nil _ (v.legal.invoked x (Contains-head x order)))

pub calls_at_start : ArePending [] []
calls_at_start c = ((λ h. absurd (Contains-nil c h)), (λ p. absurd (Contains-nil _ p.0.invoked)))

-- in the words of the code
pub kept_at_start : (o : Object) (items : List (KeptEnd o.State)) (k : KeptEnd o.State) → items ≡ k ∷ [] → k.state ≡ o.start → k.pending.items ≡ [] → k.crashed.items ≡ [] → AreTheEnds o (map end_kept items) []
kept_at_start o items k is a b c =
    subst (λ l. AreTheEnds o l []) (sym (ap (map end_kept) is ∙ ap (λ e. e ∷ []) (same_parts (end_kept k) (record { state = o.start; pending = finmap.empty; crashed = finset.empty }) a (ap pending_in b) (ap crashed_in c))))
    (ends_at_start o)
