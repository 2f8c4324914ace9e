-- A value of no bytes is made, whose events are those that the caller picks.
use mathlib.Core.Path.{refl}
use mathlib.Core.List.{[], ◌∷◌}
use mir.Val.{vstruct, vnil}
use base.Logic.{emp, via, fst∗}
use types.Kit.{‵, raw, ◌$◌, ◌∵◌, !, qed, move, suffices, done}
use types.Run.{no_more, returns, enter}
use types.Part.{agg}
use types.ByLocal.{alloc_all, pass_all, free_all, look_at, sets}
use denote.RattleType.{owns}
use denote.Shadow.{pure_i}
use denote.Triple.Entry.{alive}
use denote.Triple.Walked.{says, walk_of, ends_at}
use Rattle.std.proofs.raw_atomic.Walks.{proved}
use Rattle.checkpoints.specs.contracts.ghost_events.picked_events as f
use Rattle.checkpoints.specs.contracts.ghost_events.GhostEvents as made
use Rattle.checkpoints.proofs.ghost_events.picked_events.Statement.{statement}
use Rattle.checkpoints.proofs.ghost_events.picked_events.Code as code

pub picked_events_spec : {M : Type 1} → statement M
picked_events_spec 𝓤 𝓛 𝓜 𝓡 wired =
    let c = f.clauses 𝓛 𝓜.mem 𝓡.returns in let W = walk_of 𝓛 f.ended tt c in
    proved 𝓛 f.ended tt c 𝓜 𝓡 tt f.Key.name code.function (code.unfolded 𝓤 𝓛.H 𝓜 𝓡 wired) (λ κs. tt) (λ κs. tt) (λ κs qs bounds a picked are.
    let y : W.Ghost = ((tt, tt, tt, tt, tt), picked) in
    via 𝓤 _ (fst∗ 𝓤 _ (emp 𝓤)) (
    qed 𝓛 (raw (alive 𝓛 f.signature tt tt) ∷ ‵ (owns [] tt tt) ∷ []) ∵ enter ! _ _ _ _ _ $
    alloc_all ! (λ l. pass_all ! refl tt $ sets ! (agg ! (no_more !)) refl (tt, tt) $
    returns ! (look_at ! 0 refl) $ free_all ! refl $
    suffices ! _ (ends_at 𝓛 f.ended tt c y (vstruct vnil) (record { events = picked }) tt tt) $
    says ! refl $ pure_i ! (made.the_row.own_val (record { events = picked }) (vstruct vnil ∷ [])) ((λ vss. (tt, tt)), tt) ((tt, (refl, tt)), tt) $
    move ! (1 ∷ 2 ∷ 0 ∷ []) $ done !)))
