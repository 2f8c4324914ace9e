-- a key that is alive, where one more event is prepared of it and carried out
use Rattle.std.proofs.Common.{◌≡◌, ℕ, cond, nat_eq, List, [], ◌∷◌, ◌++◌, sym, ◌∙◌}
use Rattle.models.specs.declared.operation.Op.{Op}
use Rattle.kinds.specs.declared.model_kind.ModelKind.{ModelKind}
use Rattle.events.specs.declared.event.Process.TheVariants as processes
use Rattle.events.specs.declared.event.Body.TheVariants as bodies
use Rattle.events.specs.declared.event.Event.{Event}
use Rattle.events.specs.Events.{entries_of, marks}
use Rattle.events.specs.ProcessRule.{IsHistory}
use Rattle.judging.specs.Meaning.{Keeps}
use Rattle.frontier.specs.AnyFrontier.{any_view_of, kind_of_frontier}
use Rattle.checkpoints.specs.declared.live_key.LiveKey.{LiveKey}
use Rattle.checkpoints.specs.Noted.{noted_of}
use Rattle.checkpoints.specs.LiveKey.{IsLiveKey, WillBeLive, id_by, closed_by}
use Rattle.checkpoints.specs.KeyState.{IsAlive}
use Rattle.checkpoints.proofs.Noting.{noted_others, noted_as, noted_here}
use Rattle.checkpoints.proofs.Judging.{knows_then, knows_still, closed_then}

module _ (kind : ModelKind) (budget : ℕ) (events : List (ℕ × Event)) (index : ℕ) (event : Event) (live : LiveKey) (is_live : IsLiveKey kind budget events live) (alive : IsAlive kind budget events) (history : IsHistory (events ++ (index, event) ∷ [])) (p : ℕ) (is_client : event.process ≡ processes.Client p) (op : Op) (is_op : event.body ≡ bodies.Op op) (after : LiveKey)
    (kind_stays : kind_of_frontier after.frontier ≡ kind_of_frontier live.frontier) (budget_stays : (any_view_of after.frontier).budget ≡ (any_view_of live.frontier).budget) (noted : (q : ℕ) → noted_of after.invocations q ≡ cond (nat_eq q p) (id_by index event.kind (noted_of live.invocations q)) (noted_of live.invocations q)) where
  -- it stands as it stood
  pub still_live : Keeps (any_view_of live.frontier).stands (any_view_of after.frontier).stands → IsLiveKey kind budget events after
  still_live keeps = record {
    stands = keeps (marks (entries_of events)) is_live.stands;
    kind_is = kind_stays ∙ is_live.kind_is;
    budget_is = budget_stays ∙ is_live.budget_is;
    knows = knows_still kind budget events index event live is_live alive history p is_client op is_op after
        (noted_others index p event.kind (noted_of live.invocations) (noted_of after.invocations) noted) (noted_as index p event.kind (noted_of live.invocations) (noted_of after.invocations) noted);
  }

  -- the event is prepared
  pub will_be_live : after.closes ≡ closed_by p event.kind → (any_view_of after.frontier).will_stand (marks (entries_of (events ++ (index, event) ∷ []))) → WillBeLive kind budget (events ++ (index, event) ∷ []) after
  will_be_live closes stands = record {
    stands = stands;
    kind_is = kind_stays ∙ is_live.kind_is;
    budget_is = budget_stays ∙ is_live.budget_is;
    knows = knows_then kind budget events index event live is_live alive history p is_client op is_op after
        (noted_others index p event.kind (noted_of live.invocations) (noted_of after.invocations) noted) (noted_here index p event.kind (noted_of live.invocations) (noted_of after.invocations) noted);
    closed = λ q is. closed_then kind budget events index event live is_live alive history p is_client op is_op q (sym closes ∙ is);
  }
