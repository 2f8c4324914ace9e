use Rattle.std.proofs.Common.{◌≡◌, ◌∷◌, ◌++◌, [], sym, ap, ◌∙◌, append_assoc, append-nil}
use Rattle.models.specs.declared.finding.Found.{Found}
use Rattle.moves.proofs.Moving.{are_to_more, are_to_none, are_to_with}
use Rattle.moves.proofs.Showing.{keeps_itself, keeps_on}
use Rattle.moves.proofs.moves.put_targets.Goals as goal

pub loop-state-init : goal.loop-state-init
loop-state-init g c = record {
  put = ([], [], sym (append-nil c.args.outcomes.now.items), are_to_none c.args.table.now c.args.crashed, sym (append-nil c.args.targets.now.items));
  rows = keeps_itself c.args.table.now;
}

pub loop-state-preserved : goal.loop-state-preserved
loop-state-preserved g c =
    let i = c.loop-state.invariant in
    let p = i.put in
    let t = c.in_ok-target.target in
    let x : g.row.M-State.Denot × Found = (c.in-Some.state, c.in-Some.found) in
    let popped : c.loop-state.outcomes.items ≡ c.pop.new.self.items ++ x ∷ [] = c.in-Some.ensures.items in
    record {
      put = (
        x ∷ p.0,
        p.1 ++ t ∷ [],
        p.2 ∙ ap (λ l. l ++ p.0) popped ∙ append_assoc c.pop.new.self.items (x ∷ []) p.0,
        are_to_with c.target_of.new.table c.args.crashed x p.0 p.1 t c.in_ok-target.ensures.is (are_to_more c.loop-state.table c.target_of.new.table c.args.crashed p.0 p.1 c.in_ok-target.ensures.rows.widens p.3),
        c.in_ok-push.ensures.items ∙ ap (λ l. l ++ t ∷ []) p.4 ∙ append_assoc c.args.targets.now.items p.1 (t ∷ []),
      );
      rows = keeps_on c.args.table.now c.loop-state.table c.target_of.new.table i.rows c.in_ok-target.ensures.rows;
    }

pub returns-in_err-target-clause-rows : goal.returns-in_err-target-clause-rows
returns-in_err-target-clause-rows g c = keeps_on c.args.table.now c.loop-state.table c.target_of.new.table c.loop-state.invariant.rows c.in_err-target.ensures.rows

pub returns-in_err-push-clause-rows : goal.returns-in_err-push-clause-rows
returns-in_err-push-clause-rows g c = keeps_on c.args.table.now c.loop-state.table c.target_of.new.table c.loop-state.invariant.rows c.in_ok-target.ensures.rows
