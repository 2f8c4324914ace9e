use Rattle.std.proofs.Common.{◌≡◌, ◌*◌, ◌/◌, ◌++◌, IfOk, take, sym, subst, ap, ◌∙◌, arith}
use Rattle.std.specs.List.{between}
use Rattle.events.specs.ProcessRule.{IsHistory}
use Rattle.checkpoints.specs.KeyState.{IsKeyState}
use Rattle.checkpoints.proofs.Cutting.{IsHistory-take}
use Rattle.checkpoints.proofs.Lending.{AreAt-between}
use Rattle.checkpoints.proofs.SavedStates.{parts}
use Rattle.checkpoints.proofs.saving.gone_back.Goals as goal

pub after_all-requires : goal.after_all-requires
after_all-requires c = (between (c.args.kept / 64 * 64) c.args.kept c.requires.are.0, AreAt-between c.args.borrowed.now c.args.places.now c.requires.are.0 c.requires.are.1 (c.args.kept / 64 * 64) c.args.kept)

pub returns-clause-stands : goal.returns-clause-stands
returns-clause-stands c events history at are =
    let from = c.args.kept / 64 in
    let same : 64 * from ≡ from * 64 = omega arith in
    let whole : take (64 * from) events ++ between (from * 64) c.args.kept events ≡ take c.args.kept events =
    ap (λ n. take n events ++ between (from * 64) c.args.kept events) same ∙ parts events (from * 64) c.args.kept (omega arith) in
    subst (λ l. IfOk c.after_all.result (IsKeyState c.args.kind c.args.budget l)) whole
    (c.after_all.ensures.stands c.args.kind c.args.budget (take (64 * from) events) (between (from * 64) c.args.kept events) (c.in_ok-state.ensures events are) (subst IsHistory (sym whole) (IsHistory-take c.args.kept events history))
    (AreAt-between c.args.borrowed.now c.args.places.now events at (from * 64) c.args.kept))
